-- The lines of bytes of data behind their places: the digits of these, where a line is written, and whose lines they are.
use Rattle.std.proofs.Common.{◌≡◌, ℕ, suc, ◌+◌, ◌-◌, ◌*◌, ◌/◌, ◌%◌, ◌^◌, ◌<◌, ◌≤◌, decimal, List, [], ◌∷◌, ◌++◌, length, take, drop, append_assoc, slice_set, refl, sym, ap, ◌∙◌, arith, length-append}
use Rattle.std.proofs.lemmas.List.{append-nil, take_at, drop_at, drop_all, take_all, drop-drop, length-drop, take-append-le, take-take, length-take-le, drop-set-lt}
use Rattle.std.proofs.Math.Seq.{drop-append-add}
use borrow.Rule.Slice.PartMut.{put_mid}
use Rattle.std.proofs.lemmas.Fmt.{decimal_digit, decimal_step_wide, length-decimal-le}
use Rattle.hex.proofs.Pairs.{take-two_writes}
use Rattle.vp_esc.specs.declared.item.EscItem.TheVariants.{RasterByte}
use Rattle.vp_esc.specs.Lines.{line_of}
use Rattle.vp_streams.specs.Count.{counted}
use Rattle.vp_engine.specs.Lines.{byte_lines_after, leading, line_behind, lines_behind}
use Rattle.vp_engine.specs.Offsets.{offset_line}
use Rattle.vp_engine.proofs.ByteLines.{line_length}

pub leads : (n : ℕ) → 0 < n → leading n ≡ decimal n
leads n some = grind arith

-- a number by its last digit and those before it
pub divided : (n : ℕ) → n < 10 ^ 64 → decimal n ≡ leading (n / 10) ++ (48 + n % 10) ∷ []
divided n l = grind (arith, decimal_digit, decimal_step_wide)

pub leading_short : (offset : ℕ) → offset < 2 ^ 64 → length (leading (offset / 10)) ≤ 19
leading_short offset l = grind (arith, length-decimal-le)

-- how many digits but the last there are, and that they change in the last of them alone within a hundred
module _ (digits : List ℕ) (count tens : ℕ) (some : 0 < tens) (small : tens < 10 ^ 64) (fits : count ≤ length digits) (is : take count digits ≡ leading tens) where
  lead_by_last : take count digits ≡ leading (tens / 10) ++ (48 + tens % 10) ∷ []
  lead_by_last = is ∙ leads tens some ∙ divided tens small

  pub some_lead : count ≡ length (leading (tens / 10)) + 1
  some_lead = omega (arith, ap length lead_by_last, length-append (leading (tens / 10)) ((48 + tens % 10) ∷ []), length-take-le count digits fits)

  pub last_changed : (new : ℕ) → 0 < new → new < 10 ^ 64 → tens / 10 ≡ new / 10 → take (count - 1) digits ++ (48 + new % 10) ∷ [] ≡ leading new
  last_changed new more l same =
      ap (λ x. x ++ (48 + new % 10) ∷ [])
      (sym (take-take (count - 1) count digits (omega arith)) ∙ ap (take (count - 1)) lead_by_last
      ∙ take_at (leading (tens / 10)) ((48 + tens % 10) ∷ []) (count - 1) (omega (arith, some_lead)) ∙ ap leading same)
      ∙ sym (leads new more ∙ divided new l)

-- a line whose digits are written with some bytes behind them, over which its rest is written
pub written_over : (digits output line : List ℕ) (n last : ℕ) → n ≤ length digits → length digits ≤ n + 10 → n + 10 ≤ length output →
    put_mid (n + 2) 8 (slice_set (slice_set (digits ++ drop (length digits) output) n last) (n + 1) 0x20) line ≡
    (take n digits ++ last ∷ 0x20 ∷ line) ++ drop (n + 10) output
written_over digits output line n last l m room =
    let d = length digits in let old = digits ++ drop d output in let set_once = slice_set old n last in
    let new = slice_set set_once (n + 1) 0x20 in
    let long : n + 10 ≤ length old = omega (arith, m, room, length-append digits (drop d output), length-drop d output) in
    let front : take (n + 2) new ≡ take n digits ++ last ∷ 0x20 ∷ [] =
    take-two_writes old n last 0x20 (omega (arith, long)) ∙ ap (λ x. x ++ last ∷ 0x20 ∷ []) (take-append-le n digits (drop d output) l) in
    let behind : drop 8 (drop (n + 2) new) ≡ drop (n + 10) output =
    ap (drop 8) (drop-set-lt (n + 2) set_once (n + 1) 0x20 (omega arith) ∙ drop-set-lt (n + 2) old n last (omega arith)) ∙ drop-drop 8 (n + 2) old
    ∙ ap (λ k. drop k old) (let e : n + 2 + 8 ≡ d + (n + 10 - d) = omega (arith, m) in e)
    ∙ drop-append-add digits (drop d output) (n + 10 - d) ∙ drop-drop (n + 10 - d) d output
    ∙ ap (λ k. drop k output) (let e : d + (n + 10 - d) ≡ n + 10 = omega (arith, m) in e) in
    ap (λ x. x ++ (line ++ drop 8 (drop (n + 2) new))) front
    ∙ ap (λ x. (take n digits ++ last ∷ 0x20 ∷ []) ++ (line ++ x)) behind ∙ sym (append_assoc (take n digits ++ last ∷ 0x20 ∷ []) line (drop (n + 10) output))
    ∙ ap (λ x. x ++ drop (n + 10) output) (append_assoc (take n digits) (last ∷ 0x20 ∷ []) line)

-- a line that is written behind those that there are
pub written_behind : (put n : ℕ) (lines line old output rest : List ℕ) → output ≡ lines ++ drop put old → length lines ≡ put →
    rest ≡ line ++ drop n (take (length output - put) (drop put output)) → put_mid put (length output - put) output rest ≡ (lines ++ line) ++ drop (put + n) old
written_behind put n lines line old output rest is long e = grind (arith, take_at, drop_at, take_all, length-drop, drop_all, append-nil, drop-drop, append_assoc)

-- one line more behind the same digits
pub one_line_behind : (digits : List ℕ) (last : ℕ) (xs : List ℕ) (b : ℕ) →
    lines_behind digits last (xs ++ b ∷ []) ≡ lines_behind digits last xs ++ line_behind digits (last + length xs) b
one_line_behind digits last [] b = append-nil (line_behind digits last b) ∙ ap (λ n. line_behind digits n b) (omega arith)
one_line_behind digits last (x ∷ xs) b = grind (arith, append_assoc, one_line_behind digits (suc last) xs b)

pub length_behind : (digits : List ℕ) (last : ℕ) (xs : List ℕ) → length (lines_behind digits last xs) ≡ (length digits + 10) * length xs
length_behind digits last [] = omega arith
length_behind digits last (b ∷ xs) = grind (arith, length-append, line_length, length_behind digits (suc last) xs)

pub short_behind : (digits : List ℕ) (last : ℕ) (xs : List ℕ) → length digits ≤ 19 → length (lines_behind digits last xs) ≤ 29 * length xs
short_behind digits last [] l = omega arith
short_behind digits last (b ∷ xs) l = grind (arith, length-append, line_length, short_behind digits (suc last) xs l)

-- lines behind the digits of their places
pub lines_at : (tens last taken : ℕ) (xs : List ℕ) → last + length xs ≤ 10 → 10 * tens + last + length xs ≤ 2 ^ 64 →
    (0 < length xs → counted (suc taken) ≡ 10 * tens + last) → lines_behind (leading tens) last xs ≡ byte_lines_after taken xs
lines_at tens last taken [] l m is = refl
lines_at tens last taken (b ∷ xs) l m is =
    let offset = 10 * tens + last in let at : counted (suc taken) ≡ offset = is (omega arith) in
    let ten : offset / 10 ≡ tens = omega (arith, l) in let one : offset % 10 ≡ last = omega (arith, l) in
    let line : line_behind (leading tens) last b ≡ offset_line (suc taken) (line_of (RasterByte b)) =
    sym (ap (λ n. decimal n ++ 0x20 ∷ line_of (RasterByte b)) at ∙ ap (λ x. x ++ 0x20 ∷ line_of (RasterByte b)) (divided offset (omega (arith, m)))
    ∙ append_assoc (leading (offset / 10)) ((48 + offset % 10) ∷ []) (0x20 ∷ line_of (RasterByte b)) ∙ ap (λ n. leading n ++ (48 + offset % 10) ∷ 0x20 ∷ line_of (RasterByte b)) ten
    ∙ ap (λ n. line_behind (leading tens) n b) one) in
    ap (λ x. x ++ lines_behind (leading tens) (suc last) xs) line
    ∙ ap (λ x. offset_line (suc taken) (line_of (RasterByte b)) ++ x)
    (lines_at tens (suc last) (suc taken) xs (omega (arith, l)) (omega (arith, m)) (λ some. omega (arith, some, at, m)))

-- the lines of more bytes
pub lines_more : (taken : ℕ) (xs ys : List ℕ) → byte_lines_after taken (xs ++ ys) ≡ byte_lines_after taken xs ++ byte_lines_after (taken + length xs) ys
lines_more taken [] ys = ap (λ n. byte_lines_after n ys) (omega arith)
lines_more taken (x ∷ xs) ys = grind (arith, append_assoc, lines_more (suc taken) xs ys)
