-- Commands of labels, byte by byte.
use Rattle.std.proofs.Common.{◌≡◌, ℕ, ◌+◌, ◌≤◌, ◌<◌, ◌==◌, zero, suc, Bool, true, false, ◌&&◌, if◌then◌else◌, Option, None, Some, List, [], ◌∷◌, ◌++◌, length, take, nat_lt, reverse, refl, sym, ap, ◌∙◌, length-append, arith}
use Rattle.std.specs.List.{prefix_len}
use Rattle.std.proofs.lemmas.List.{take_all, length-take-le, reverse-append, length-reverse}
use Rattle.vp_streams.specs.Count.{counted, grown}
use Rattle.vp_zpl.specs.declared.reading.Reading.TheVariants.{Profile}
use Rattle.vp_zpl.specs.declared.name.Kind.{Kind}
use Rattle.vp_zpl.specs.declared.name.Kind.TheVariants as kinds
use Rattle.vp_zpl.specs.declared.reader.ZplReader.{ZplReader}
use Rattle.vp_zpl.specs.Spelling.{is_sign, is_line_end, behind_commas}
use Rattle.vp_zpl.specs.Commands.{Cut, cut, cut_back, with_byte, longer, wants_binary, wants_binary_named, kind_named, is_short, is_whole, is_b, head, count_of, indicator}
use Rattle.vp_zpl.specs.Runs.{ends_data, is_kept_code, front_in, front_named, text_front, picture_front, data_front}
use Rattle.vp_zpl.specs.Items.{waiting}
use Rattle.vp_zpl.specs.Reader.{Stands as ZplStands}
use Rattle.vp_requests.specs.declared.request.Ask.{Ask}
use Rattle.vp_requests.specs.declared.request.Request.{Request}
use Rattle.vp_requests.specs.declared.labels.Labels.{Labels}
use Rattle.vp_requests.specs.Labels.{ask_of, most_arguments, begins, is_dropped, begun_back, begun_at, full_by, short_by, full_request, short_request, label_request, last_request}
use Rattle.vp_requests.specs.Standing.{LabelsStand, kept_full, kept_full_by, kept_short, kept_short_by, Divides, GoesOn, with_more}
use Rattle.vp_requests.proofs.FirstBytes.{again}

pub cut-push : (bytes : List ℕ) (c : ℕ) → cut Profile (bytes ++ c ∷ []) ≡ with_byte Profile (cut Profile bytes) c
unfolding cut
cut-push bytes c = ap (cut_back Profile) (reverse-append bytes (c ∷ []))

cut-is : (bytes : List ℕ) → cut Profile bytes ≡ cut_back Profile (reverse bytes)
unfolding cut
cut-is bytes = refl

begun-push : (bytes : List ℕ) (c : ℕ) → begun_at (bytes ++ c ∷ []) ≡ (if begins (cut Profile bytes).open_one c then length (reverse bytes) else begun_at bytes)
unfolding begun_back
begun-push bytes c = rw (reverse-append bytes (c ∷ []), cut-is bytes) refl

-- where binary data are wanted, and only there, a sign or the end of a line is taken as data
no_text : (indicated : Option ℕ) (left : List ℕ) (c : ℕ) → ends_data c ≡ true → text_front left indicated (c ∷ []) ≡ 0
no_text indicated [] c e = rw e refl
no_text indicated (a ∷ left) c e = refl

no_code : (c : ℕ) → ends_data c ≡ true → prefix_len is_kept_code (c ∷ []) ≡ 0
no_code c e = rw e refl

picture_is : (args : List ℕ) (c : ℕ) → ends_data c ≡ true → (if is_whole args then picture_front args (c ∷ []) else 0) ≡ (if is_short args then 1 else 0)
unfolding is_short
picture_is args c e = by_tests (is_whole args) (is_b (head args)) (nat_lt (length (behind_commas 4 args)) (count_of (head args))) refl refl refl
  where
    by_tests : (whole binary short : Bool) → is_whole args ≡ whole → is_b (head args) ≡ binary → nat_lt (length (behind_commas 4 args)) (count_of (head args)) ≡ short
        → (if is_whole args then picture_front args (c ∷ []) else 0) ≡ (if (is_whole args && is_b (head args) && nat_lt (length (behind_commas 4 args)) (count_of (head args))) then 1 else 0)
    by_tests false binary short w b n = rw w refl
    by_tests true false short w b n = rw (w, b) (no_code c e)
    by_tests true true true w b n = rw (w, b, n) (grind (arith, n))
    by_tests true true false w b n = rw (w, b, n) (grind (arith, n))

named_is : (kind : Kind) (indicated : Option ℕ) (args : List ℕ) (c : ℕ) → ends_data c ≡ true
    → front_named kind indicated args (c ∷ []) ≡ (if wants_binary_named kind args then 1 else 0)
named_is kinds.FieldData indicated args c e = no_text indicated (waiting indicated args) c e
named_is kinds.Graphic indicated args c e = picture_is args c e
named_is _ indicated args c e = refl

front_is : (before : List (List ℕ)) (command : List ℕ) (c : ℕ) → ends_data c ≡ true → front_in Profile before command (c ∷ []) ≡ (if wants_binary Profile command then 1 else 0)
unfolding front_in wants_binary
front_is before [] c e = refl
front_is before (sign ∷ []) c e = refl
front_is before (sign ∷ a ∷ []) c e = refl
front_is before (sign ∷ a ∷ b ∷ args) c e = named_is (kind_named Profile sign a b) (indicator Profile before) args c e

pub data_is : (s : Cut) (c : ℕ) → ends_data c ≡ true → data_front Profile s (c ∷ []) ≡ (if wants_binary Profile s.open_one then 1 else 0)
data_is s c e = front_is s.before s.open_one c e

most_le : (ask : Ask) → most_arguments ask ≤ 1024
most_le ask = grind arith

longer_again : (n : ℕ) (xs : List ℕ) (c : ℕ) → take (suc n) (longer (take (suc n) xs) c) ≡ take (suc n) (longer xs c)
longer_again n [] c = refl
longer_again n (x ∷ xs) c = ap (λ ys. x ∷ ys) (again n xs c)

ask_kept : (command : List ℕ) → ask_of (take 1028 command) ≡ ask_of command
unfolding ask_of
ask_kept [] = refl
ask_kept (sign ∷ []) = refl
ask_kept (sign ∷ a ∷ []) = refl
ask_kept (sign ∷ a ∷ b ∷ args) = refl

is_longer : (m n : ℕ) → nat_lt m n ≡ true → m ≤ n
is_longer m n e = grind (arith, e)

no_longer : (m n : ℕ) → nat_lt m n ≡ false → n ≤ m
no_longer m n e = grind (arith, e)

no_equal : (n m : ℕ) → 1028 ≤ n → m ≤ 1024 → (n == 3 + m) ≡ false
no_equal n m le few = grind (arith, le, few)

no_less : (n m : ℕ) → 1028 ≤ n → m ≤ 1024 → nat_lt n (3 + m) ≡ false
no_less n m le few = grind (arith, le, few)

-- enough is kept of a command to know its request
full_is : (l : Labels) (command : List ℕ) (start end : ℕ) → l.bytes.items ≡ take 1028 command → l.start ≡ counted start → l.taken ≡ counted end
    → kept_full l ≡ full_request command start end
full_is l command start end k s t = by_test (nat_lt 1028 (length command)) refl
  where
    by_long : (ask : Option Ask) → 1028 ≤ length command → length l.bytes.items ≡ 1028 → kept_full_by ask l ≡ full_by ask command start end
    by_long None le n = refl
    by_long (Some ask) le n = rw (n, no_equal 1028 (most_arguments ask) (omega arith) (most_le ask), no_equal (length command) (most_arguments ask) le (most_le ask)) refl

    by_same : (ask : Option Ask) → kept_full_by ask (record l { bytes = record { items = command }; start = counted start; taken = counted end }) ≡ full_by ask command start end
    by_same None = refl
    by_same (Some ask) = refl

    by_test : (long : Bool) → nat_lt 1028 (length command) ≡ long → kept_full l ≡ full_request command start end
    by_test true e =
        let le : 1028 ≤ length command = is_longer 1028 (length command) e in
        ap (λ (xs : List ℕ). kept_full_by (ask_of xs) l) k ∙ ap (λ (ask : Option Ask). kept_full_by ask l) (ask_kept command)
        ∙ by_long (ask_of command) le (ap length k ∙ length-take-le 1028 command le)
    by_test false e =
        let same : l.bytes.items ≡ command = k ∙ take_all 1028 command (no_longer 1028 (length command) e) in
        rw (same, s, t) (by_same (ask_of command))

short_is : (l : Labels) (command : List ℕ) (start end : ℕ) → l.bytes.items ≡ take 1028 command → l.start ≡ counted start → l.taken ≡ counted end
    → kept_short l ≡ short_request command start end
short_is l command start end k s t = by_test (nat_lt 1028 (length command)) refl
  where
    by_long : (ask : Option Ask) → 1028 ≤ length command → length l.bytes.items ≡ 1028 → kept_short_by ask l ≡ short_by ask command start end
    by_long None le n = refl
    by_long (Some ask) le n = rw (n, no_less 1028 (most_arguments ask) (omega arith) (most_le ask), no_less (length command) (most_arguments ask) le (most_le ask)) refl

    by_same : (ask : Option Ask) → kept_short_by ask (record l { bytes = record { items = command }; start = counted start; taken = counted end }) ≡ short_by ask command start end
    by_same None = refl
    by_same (Some ask) = refl

    by_test : (long : Bool) → nat_lt 1028 (length command) ≡ long → kept_short l ≡ short_request command start end
    by_test true e =
        let le : 1028 ≤ length command = is_longer 1028 (length command) e in
        ap (λ (xs : List ℕ). kept_short_by (ask_of xs) l) k ∙ ap (λ (ask : Option Ask). kept_short_by ask l) (ask_kept command)
        ∙ by_long (ask_of command) le (ap length k ∙ length-take-le 1028 command le)
    by_test false e =
        let same : l.bytes.items ≡ command = k ∙ take_all 1028 command (no_longer 1028 (length command) e) in
        rw (same, s, t) (by_same (ask_of command))

pub last_is : (l : Labels) (bytes : List ℕ) → LabelsStand l bytes → kept_short l ≡ last_request bytes
last_is l bytes s = short_is l (cut Profile bytes).open_one (begun_at bytes) (length bytes) s.kept s.start s.taken

true_is_not_false : true ≡ false → ⊥
true_is_not_false e = cc

and_false : (b : Bool) → (b && false) ≡ false
and_false true = refl
and_false false = refl

line_end_no_sign : (c : ℕ) → is_line_end c ≡ true → is_sign c ≡ false
line_end_no_sign c e = grind (arith, e)

-- a sign, or the end of a line, that is no data
module _ (l : Labels) (before : List ℕ) (c : ℕ) (s : LabelsStand l before) (e : ends_data c ≡ true)
    (w : wants_binary Profile (cut Profile before).open_one ≡ false) (reader : ZplReader) (reads : ZplStands Profile reader (before ++ c ∷ [])) where
  abbrev Comes : List Request → Labels → Type 0
  Comes asked new = LabelsStand new (before ++ c ∷ []) × (asked ≡ label_request before c)

  long : length (before ++ c ∷ []) ≡ suc (length before)
  long = omega (arith, length-append before (c ∷ []))

  more : grown l.taken 1 ≡ counted (length (before ++ c ∷ []))
  more = omega (arith, s.taken, long)

  pub divides : (asked : List Request) (new : Labels) → Divides (record l { reader = reader }) c asked new → Comes asked new
  divides asked new d = by_test (is_line_end c) refl
    where
      by_test : (ends : Bool) → is_line_end c ≡ ends → Comes asked new
      by_test true q =
          let n = line_end_no_sign c q in
          let same : cut Profile (before ++ c ∷ []) ≡ cut Profile before = cut-push before c ∙ rw (w, q) refl in
          let at : begun_at (before ++ c ∷ []) ≡ begun_at before = begun-push before c ∙ rw n refl in
          rw (d.new_is, d.asks, q, n, w) (record { reads = reads; kept = rw same s.kept; start = s.start ∙ sym (ap counted at); taken = more }, refl)
      by_test false q =
          let n : is_sign c ≡ true = grind (arith, e, q) in
          let now : (cut Profile (before ++ c ∷ [])).open_one ≡ c ∷ [] = ap (λ (s : Cut). s.open_one) (cut-push before c) ∙ rw (w, q, n) refl in
          let at : begun_at (before ++ c ∷ []) ≡ length before = begun-push before c ∙ rw (n, w) (length-reverse before) in
          rw (d.new_is, d.asks, q, n, w) (
            record { reads = reads; kept = rw now refl; start = s.taken ∙ sym (ap counted at); taken = more },
            short_is (record l { reader = reader }) (cut Profile before).open_one (begun_at before) (length before) s.kept s.start s.taken,
          )

opened : (s : Cut) (c : ℕ) (wants sign ends : Bool) → wants_binary Profile s.open_one ≡ wants → is_sign c ≡ sign → is_line_end c ≡ ends
    → begins s.open_one c ≡ false → is_dropped s.open_one c ≡ false → (with_byte Profile s c).open_one ≡ longer s.open_one c
opened s c true sign ends w n q b d = rw w refl
opened s c false true ends w n q b d = absurd (true_is_not_false (sym (rw (n, w) refl) ∙ b))
opened s c false false true w n q b d = absurd (true_is_not_false (sym (rw (q, w) refl) ∙ d))
opened s c false false false w n q b d = rw (w, q, n) refl

-- a byte that goes on with the open command
module _ (l : Labels) (before : List ℕ) (c : ℕ) (s : LabelsStand l before) (b : begins (cut Profile before).open_one c ≡ false)
    (d : is_dropped (cut Profile before).open_one c ≡ false) (reader : ZplReader) (reads : ZplStands Profile reader (before ++ c ∷ [])) where
  longer_is : (cut Profile (before ++ c ∷ [])).open_one ≡ longer (cut Profile before).open_one c
  longer_is = ap (λ (s : Cut). s.open_one) (cut-push before c) ∙ opened (cut Profile before) c _ _ _ refl refl refl b d

  kept_is : take 1028 (longer l.bytes.items c) ≡ take 1028 (longer (cut Profile before).open_one c)
  kept_is = ap (λ (xs : List ℕ). take 1028 (longer xs c)) s.kept ∙ longer_again 1027 (cut Profile before).open_one c

  one_more : grown l.taken 1 ≡ counted (suc (length before))
  one_more = omega (arith, s.taken)

  pub goes_on : (asked : List Request) (new : Labels) → GoesOn (record l { reader = reader }) c asked new
      → LabelsStand new (before ++ c ∷ []) × (asked ≡ label_request before c)
  goes_on asked new g =
      let at : begun_at (before ++ c ∷ []) ≡ begun_at before = begun-push before c ∙ rw b refl in
      let long : suc (length before) ≡ length (before ++ c ∷ []) = omega (arith, length-append before (c ∷ [])) in
      rw (g.asks, g.new_is, b, d) (
        record {
          reads = reads;
          kept = kept_is ∙ sym (ap (take 1028) longer_is);
          start = s.start ∙ sym (ap counted at);
          taken = one_more ∙ ap counted long;
        },
        full_is (with_more (record l { reader = reader }) c) (longer (cut Profile before).open_one c) (begun_at before) (suc (length before)) kept_is s.start one_more,
      )

-- what is taken as data, of a sign or the end of a line
pub as_data : (n : ℕ) (wants : Bool) → 0 < n → n ≡ (if wants then 1 else 0) → (wants ≡ true) × (n ≡ 1)
as_data n true lt e = (refl, e)
as_data n false lt e = absurd (omega (arith, lt, e))

pub no_data : (n : ℕ) (wants : Bool) → n ≤ 0 → n ≡ (if wants then 1 else 0) → (wants ≡ false) × (n ≡ 0)
no_data n true le e = absurd (omega (arith, le, e))
no_data n false le e = (refl, e)

-- data go on with the open command
pub data_goes_on : (l : Labels) (before : List ℕ) (c : ℕ) → LabelsStand l before → wants_binary Profile (cut Profile before).open_one ≡ true → (reader : ZplReader)
    → ZplStands Profile reader (before ++ c ∷ []) → (asked : List Request) (new : Labels) → GoesOn (record l { reader = reader }) c asked new
    → LabelsStand new (before ++ c ∷ []) × (asked ≡ label_request before c)
data_goes_on l before c s w = goes_on l before c s (rw w (and_false (is_sign c))) (rw w (and_false (is_line_end c)))

-- and so does any byte that is no sign and no end of a line
pub other_goes_on : (l : Labels) (before : List ℕ) (c : ℕ) → LabelsStand l before → ends_data c ≡ false → (reader : ZplReader)
    → ZplStands Profile reader (before ++ c ∷ []) → (asked : List Request) (new : Labels) → GoesOn (record l { reader = reader }) c asked new
    → LabelsStand new (before ++ c ∷ []) × (asked ≡ label_request before c)
other_goes_on l before c s e =
    let n : is_sign c ≡ false = grind (arith, e) in
    let q : is_line_end c ≡ false = grind (arith, e) in
    goes_on l before c s (rw n refl) (rw q refl)

pub stand_first : (l : Labels) → ZplStands Profile l.reader [] → l.bytes.items ≡ [] → l.start ≡ 0 → l.taken ≡ 0 → LabelsStand l []
unfolding cut begun_back
stand_first l reads k s t = record { reads = reads; kept = k; start = s; taken = t }
