-- What a field costs in a band, and a copy.
use Rattle.std.proofs.lemmas.Bool.{cases_Bool}
use Rattle.std.proofs.Common.{◌≡◌, ℕ, zero, suc, ◌+◌, ◌*◌, ◌≤◌, Bool, List, [], ◌∷◌, length, refl, arith, inl, inr}
use Rattle.std.specs.Prelude.{filter, sum_by}
use Rattle.std.proofs.lemmas.List.Sums.{sum_by-cons, length-filter}
use Rattle.vp_glyph.specs.Sheets.{Sheets}
use Rattle.vp_format.specs.declared.field.Content.{Content}
use Rattle.vp_format.specs.declared.field.Field.{Field}
use Rattle.vp_zpl.specs.declared.item.Orientation.{Orientation}
use Rattle.vp_field.specs.Contents.{most_work}
use Rattle.vp_field.specs.declared.view.View.{View}
use Rattle.vp_bands.specs.Laws.{code_bytes, text_bytes, CostsAtMost}
use Rattle.vp_bands.specs.Meeting.{band_work, copy_work, meeting, pairs}
use Rattle.vp_bands.proofs.Painted.{pairs_more}
use Rattle.vp_bands.proofs.Work.{copy_more}

of_field : (o : Orientation) (c : Content) → most_work o c ≤ 43960 + 262 * text_bytes c + 2 * code_bytes c
of_field o c = grind arith

abbrev work : Field → ℕ
work f = most_work f.orientation f.content

abbrev codes : Field → ℕ
codes f = code_bytes f.content

abbrev texts : Field → ℕ
texts f = text_bytes f.content

of_fields : (p : Field → Bool) (fields : List Field) → sum_by work (filter p fields) ≤ 43960 * length (filter p fields) + 262 * sum_by texts fields + 2 * sum_by codes fields
of_fields p [] = omega arith
of_fields p (f ∷ fields) = elim (cases_Bool (p f)) [
  | inl e ↦ rw e (omega (arith, sum_by-cons work f (filter p fields), sum_by-cons codes f fields, sum_by-cons texts f fields, of_field f.orientation f.content, of_fields p fields))
  | inr e ↦ rw e (omega (arith, sum_by-cons codes f fields, sum_by-cons texts f fields, of_fields p fields))
]

of_band : (sheets : Sheets) (stored : List ℕ) (view : View) (fields : List Field) (b : ℕ) → band_work sheets stored view fields b ≤ 43960 * meeting sheets stored view fields b + 262 * sum_by texts fields + 2 * sum_by codes fields
of_band sheets stored view fields b = grind (arith, of_fields, length-filter)

nothing : (sheets : Sheets) (stored : List ℕ) (view : View) (fields : List Field) → copy_work sheets stored view fields 0 ≡ 0
unfolding copy_work
nothing sheets stored view fields = refl

of_copy : (sheets : Sheets) (stored : List ℕ) (view : View) (fields : List Field) (n : ℕ) → copy_work sheets stored view fields n ≤ 43960 * pairs sheets stored view fields n + 262 * (n * sum_by texts fields) + 2 * (n * sum_by codes fields)
of_copy sheets stored view fields zero = omega (arith, nothing sheets stored view fields)
of_copy sheets stored view fields (suc n) =
    let next : suc n ≡ n + 1 = omega arith in
    rw next (omega (arith, copy_more sheets stored view fields n, pairs_more sheets stored view fields n, of_copy sheets stored view fields n, of_band sheets stored view fields n))

pub costs_at_most : CostsAtMost
costs_at_most = grind (arith, of_copy)
