-- What is read on the way from one place of the copies to another.
use Rattle.std.proofs.Common.{inl, inr, ◌≡◌, ◌+◌, ◌-◌, ◌*◌, ◌/◌, ◌<◌, ◌≤◌, ◌⊎◌, ℕ, zero, suc, false, eqb, List, ap, subst, refl, ◌∙◌, arith}
use Rattle.std.specs.Prelude.{nat_lt, if◌then◌else◌}
use Rattle.std.proofs.lemmas.Bool.{lt-ltb}
use Rattle.std.proofs.lemmas.Nat.{mul-le}
use Rattle.vp_output.specs.declared.place.Line.{Line}
use Rattle.vp_output.specs.Lines.{IsLineOf}
use Rattle.vp_copies.specs.Copies.{advanced, painted_for, painted_of, Place}
use Rattle.vp_copies.specs.Progress.{HasPainted, IsRowsOn, Progress}
use Rattle.vp_glyph.specs.Sheets.{Sheets}
use Rattle.vp_format.specs.declared.field.Field.{Field}
use Rattle.vp_format.specs.Formats.{Closed, Held}
use Rattle.vp_field.specs.declared.view.View.{View}
use Rattle.vp_bands.specs.Meeting.{bands_of, most_looks, pairs}
use Rattle.vp_bands.proofs.Painted.{grows, no_pairs, pairs_more}
use Rattle.vp_label.specs.declared.press.Press.{Press}
use Rattle.vp_label.specs.Press.{copies_painted, painted_at, painted_before, to_come, IsPress, IsReadied, IsReadTo, Stood}

-- of the bands that were painted of a copy, these are of the one behind it: a single one
abbrev pub standing : ℕ → ℕ
standing bands = if nat_lt 1 bands then 0 else bands

-- behind bytes of a line, whose bands are painted, the copy goes on, or the next one begins where these were all
abbrev pub IsBehind : ℕ → Progress → Progress → Type 0
IsBehind bands p q = ((q.place.copies ≡ p.place.copies) × (painted_at q ≡ painted_before p)) ⊎ ((q.place.copies + 1 ≡ p.place.copies) × (painted_at q ≡ standing bands) × (painted_before p ≡ bands))

line_by : (width height bands painted n : ℕ) (p q : Place) → bands ≡ (height + 31) / 32 → 0 < height → IsLineOf height p.line → 0 < p.copies → 0 < n → q ≡ advanced width height n p →
    ((q.copies ≡ p.copies) × (painted_of (painted_for painted p.line) q.line ≡ painted_for painted p.line)) ⊎ ((q.copies + 1 ≡ p.copies) × (painted_of (painted_for painted p.line) q.line ≡ standing bands) × (painted_for painted p.line ≡ bands))
line_by width height bands painted n p q all high line some out is = grind arith

pub line_behind : (bands n : ℕ) (p : Progress) → bands ≡ (p.height + 31) / 32 → 0 < p.height → IsLineOf p.height p.place.line → 0 < p.place.copies → 0 < n →
    IsBehind bands p (record p { place = advanced p.width p.height n p.place; painted = painted_before p })
line_behind bands n p all high line some out = line_by p.width p.height bands p.painted n p.place _ all high line some out refl

pub rows_behind : (bands : ℕ) (old new : Progress) → 0 < old.place.copies → IsRowsOn old new → IsBehind bands old new
rows_behind bands old new some on = grind arith

one_copy : (c m : ℕ) → (c + 1) * m ≡ c * m + m
one_copy c m = grind arith

all_copies : (c m : ℕ) → 0 < c → m ≤ c * m
all_copies c m some = grind (arith, mul-le)

-- one copy or more is painted of any
some_painted : (bands c : ℕ) → 0 < c → 0 < copies_painted bands c
some_painted bands c some = grind arith

-- a copy that is put out whole leaves as much to come as the others
copy_over : (number : ℕ → ℕ) (bands c : ℕ) → 0 < bands → number 0 ≡ 0 → copies_painted bands c * number bands - number (standing bands) ≡ copies_painted bands (c + 1) * number bands - number bands
copy_over number zero c some none = absurd (omega arith)
copy_over number (suc zero) c some none = grind arith
copy_over number (suc (suc k)) c some none =
    let more : eqb (suc (suc k)) 1 ≡ false = grind arith in
    rw (more, lt-ltb 1 (suc (suc k)) (omega arith)) (omega (arith, none, one_copy c (number (suc (suc k)))))

-- what is to come behind a line's bands
come_behind : (number : ℕ → ℕ) (bands : ℕ) (p q : Progress) → 0 < bands → number 0 ≡ 0 → IsBehind bands p q → to_come number bands q ≡ copies_painted bands p.place.copies * number bands - number (painted_before p)
come_behind number bands p q high none (inl same) = omega (arith, ap (λ c. copies_painted bands c * number bands) same.0, ap number same.1)
come_behind number bands p q high none (inr over) =
    omega (arith, copy_over number bands q.place.copies high none, ap (λ c. copies_painted bands c * number bands) over.0, ap number over.1, ap number over.2)

-- so what is read by a band is no more to come
read_behind : (number : ℕ → ℕ) (bands : ℕ) (p q : Progress) (old new : ℕ) → 0 < bands → number 0 ≡ 0 → number (painted_before p) ≤ number bands → number (painted_at p) ≤ number bands → 0 < p.place.copies → IsBehind bands p q
    → new + number (painted_at p) ≡ old + number (painted_before p) → new + to_come number bands q ≡ old + to_come number bands p
read_behind number bands p q old new high none before painted some behind took =
    omega (arith, come_behind number bands p q high none behind, all_copies (copies_painted bands p.place.copies) (number bands) (some_painted bands p.place.copies some), took, before, painted)

read_at_most : (number : ℕ → ℕ) (bands : ℕ) (p q : Progress) (old new : ℕ) → 0 < bands → number 0 ≡ 0 → number (painted_before p) ≤ number bands → 0 < p.place.copies → IsBehind bands p q
    → new + number (painted_at p) ≤ old + number (painted_before p) → new + to_come number bands q ≤ old + to_come number bands p
read_at_most number bands p q old new high none before some behind took =
    omega (arith, come_behind number bands p q high none behind, all_copies (copies_painted bands p.place.copies) (number bands) (some_painted bands p.place.copies some), took, before)

-- no more bands are painted than there are
before_few : (height bands painted : ℕ) (l : Line) → bands ≡ (height + 31) / 32 → 0 < height → IsLineOf height l → painted_for painted l ≤ bands
before_few height bands painted l all high line = grind arith

painted_few : (height bands painted : ℕ) (l : Line) → bands ≡ (height + 31) / 32 → 32 * painted < height + 32 → painted_of painted l ≤ bands
painted_few height bands painted l all few = grind arith

pairs_few : (sheets : Sheets) (stored : List ℕ) (view : View) (fields : List Field) (b n : ℕ) → b ≤ n → pairs sheets stored view fields b ≤ pairs sheets stored view fields n
pairs_few sheets stored view fields b n le =
    let all : b + (n - b) ≡ n = omega arith in
    rw all at (grows (pairs sheets stored view fields) (λ k. omega (arith, pairs_more sheets stored view fields k)) b (n - b))

-- what the band that was wanted took is read, some bytes further on
pub put_on : {A : Type 0} (sheets : Sheets) (held : Held) (view : View) (old now : Press A) (copies : Progress) (from to : ℕ) → IsPress sheets held view old → 0 < old.copies.place.copies → IsReadied sheets held view old now from to
    → IsBehind (bands_of view) old.copies copies → IsReadTo sheets held view old (record now { copies = copies }) from to
put_on sheets held view old now copies from to press some readied behind =
    let number = pairs sheets held.stored view held.fields in
    let looks = most_looks sheets held.stored view held.fields in
    let p = old.copies in
    let bands = bands_of view in
    let none = no_pairs sheets held.stored view held.fields in
    let line : IsLineOf view.height p.place.line = subst (λ h. IsLineOf h p.place.line) press.height press.place.line in
    let few : 32 * p.painted < view.height + 32 = subst (λ h. 32 * p.painted < h + 32) press.height press.painted.few in
    let high : 0 < bands = (let h = press.high in omega arith) in
    let before = before_few view.height bands p.painted p.place.line refl press.high line in
    let below = pairs_few sheets held.stored view held.fields (painted_before p) bands before in
    let painted = pairs_few sheets held.stored view held.fields (painted_at p) bands (painted_few view.height bands p.painted p.place.line refl few) in
    record {
      looks = read_at_most looks bands p copies old.painter.looks now.painter.looks high (omega (arith, none)) (omega (arith, before, below)) some behind readied.looks;
      fields = read_behind number bands p copies from to high none below painted some behind readied.fields;
      marks = read_behind number bands p copies old.painter.marked now.painter.marked high none below painted some behind readied.marks;
    }

pub read_on : {A : Type 0} (sheets : Sheets) (held : Held) (view : View) (a b c : Press A) (x y z : ℕ) → IsReadTo sheets held view a b x y → IsReadTo sheets held view b c y z → IsReadTo sheets held view a c x z
read_on sheets held view a b c x y z first second = record {
  looks = omega (arith, first.looks, second.looks);
  fields = omega (arith, first.fields, second.fields);
  marks = omega (arith, first.marks, second.marks);
}

pub stood_on : {A : Type 0} (a b c : Press A) (x y z : Closed) → Stood a b x y → Stood b c y z → Stood a c x z
stood_on a b c x y z first second = record {
  painted = second.painted;
  painter = second.painter ∙ first.painter;
  band = second.band ∙ first.band;
  fields = second.fields ∙ first.fields;
}
