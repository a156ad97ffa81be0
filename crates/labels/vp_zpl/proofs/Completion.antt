-- More bytes bring the reader to rest.
use Rattle.std.proofs.Common.{◌≡◌, ℕ, ◌-◌, ◌<◌, ◌≤◌, Bool, true, false, zero, suc, List, [], ◌∷◌, ◌++◌, length, refl, sym, ap, ◌∙◌, append_assoc, arith, nat_lt}
use Rattle.std.proofs.lemmas.Bool.Decides.{nat_tests}
use Rattle.std.proofs.lemmas.List.{length_push, append-nil}
use Rattle.std.specs.List.{AllByRecursion}
use Rattle.vp_zpl.specs.declared.reading.Reading.{Reading}
use Rattle.vp_zpl.specs.Spelling.{behind_commas}
use Rattle.vp_zpl.specs.Commands.{cut, longer, wants_binary, kind, kind_of, is_short, is_whole, head, count_of, in_format}
use Rattle.vp_zpl.specs.Items.{at_rest, is_within_one}
use Rattle.vp_zpl.proofs.Cuts.{cut-push, with-byte}
use Rattle.vp_zpl.proofs.Heads.{still}

-- how many bytes of binary data are wanted
abbrev pub short_by : List ℕ → ℕ
short_by (sign ∷ a ∷ b ∷ args) = count_of (head args) - length (behind_commas 4 args)
short_by _ = 0

short_is : (args : List ℕ) → is_short args ≡ true → (is_whole args ≡ true) × (length (behind_commas 4 args) < count_of (head args))
unfolding is_short
short_is args e = grind (arith, nat_lt, nat_tests)

less : (reading : Reading) (command : List ℕ) (c n : ℕ) → wants_binary reading command ≡ true → short_by command ≤ suc n → short_by (longer command c) ≤ n
unfolding wants_binary
less reading (s ∷ a ∷ b ∷ args) c n w h =
    let t = short_is args (grind arith) in let l = still args c t.0 in
    omega (arith, h, t.1, ap count_of l.head_is, ap length l.data_is ∙ length_push (behind_commas 4 args) c)
less reading _ c n w h = absurd (cc)

none_left : (reading : Reading) (command : List ℕ) → wants_binary reading command ≡ true → short_by command ≤ 0 → true ≡ false
unfolding wants_binary
none_left reading (s ∷ a ∷ b ∷ args) w h = let t = short_is args (grind arith) in absurd (omega (arith, h, t.1))
none_left reading _ w h = sym w

pub record Filled (reading : Reading) (bytes : List ℕ) : Type 0 where
  pub end : List ℕ
  pub small : AllByRecursion (λ b. b < 256) end
  pub done : wants_binary reading (cut reading (bytes ++ end)).open_one ≡ false

fill : {reading : Reading} (n : ℕ) (z : Bool) (bytes : List ℕ) → wants_binary reading (cut reading bytes).open_one ≡ z → short_by (cut reading bytes).open_one ≤ n → Filled reading bytes
fill {reading} n false bytes w h = record { end = []; small = tt; done = ap (λ b. wants_binary reading (cut reading b).open_one) (append-nil bytes) ∙ w }
fill {reading} zero true bytes w h = record { end = []; small = tt; done = ap (λ b. wants_binary reading (cut reading b).open_one) (append-nil bytes) ∙ w ∙ none_left reading (cut reading bytes).open_one w h }
fill {reading} (suc n) true bytes w h =
    let one : cut reading (bytes ++ 0 ∷ []) ≡ record (cut reading bytes) { open_one = longer (cut reading bytes).open_one 0 } = cut-push reading bytes 0 ∙ with-byte reading (cut reading bytes) 0 true false false w refl refl in
    let few : short_by (cut reading (bytes ++ 0 ∷ [])).open_one ≤ n = rw one (less reading (cut reading bytes).open_one 0 n w h) in
    let rest = fill n (wants_binary reading (cut reading (bytes ++ 0 ∷ [])).open_one) (bytes ++ 0 ∷ []) refl few in
    record { end = 0 ∷ rest.end; small = (omega arith, rest.small); done = ap (λ b. wants_binary reading (cut reading b).open_one) (sym (append_assoc bytes (0 ∷ []) rest.end)) ∙ rest.done }

closed : (reading : Reading) (bytes : List ℕ) → wants_binary reading (cut reading bytes).open_one ≡ false → at_rest reading (((bytes ++ 0x5E ∷ []) ++ 0x58 ∷ []) ++ 0x5A ∷ []) ≡ true
unfolding at_rest is_within_one in_format kind wants_binary kind_of Rattle.vp_zpl.specs.Spelling.capital
closed reading bytes w = grind (arith, cut-push, with-byte)

ends_small : (xs : List ℕ) → AllByRecursion (λ b. b < 256) xs → AllByRecursion (λ b. b < 256) (xs ++ 0x5E ∷ 0x58 ∷ 0x5A ∷ [])
ends_small [] h = (omega arith, (omega arith, (omega arith, tt)))
ends_small (x ∷ xs) h = (h.0, ends_small xs h.1)

pub completed : (reading : Reading) (bytes : List ℕ) → (end : List ℕ) × AllByRecursion (λ b. b < 256) end × (at_rest reading (bytes ++ end) ≡ true)
completed reading bytes =
    let f = fill (short_by (cut reading bytes).open_one) (wants_binary reading (cut reading bytes).open_one) bytes refl (omega arith) in (
      f.end ++ 0x5E ∷ 0x58 ∷ 0x5A ∷ [],
      ends_small f.end f.small,
      ap (at_rest reading) (sym (append_assoc bytes f.end (0x5E ∷ 0x58 ∷ 0x5A ∷ [])) ∙ sym (append_assoc (bytes ++ f.end) (0x5E ∷ []) (0x58 ∷ 0x5A ∷ []))
          ∙ sym (append_assoc ((bytes ++ f.end) ++ 0x5E ∷ []) (0x58 ∷ []) (0x5A ∷ [])))
          ∙ closed reading (bytes ++ f.end) f.done,
    )
