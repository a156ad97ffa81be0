-- What painting takes.
use Rattle.std.proofs.Common.{◌≡◌, ℕ, ◌+◌, ◌-◌, ◌<◌, ◌≤◌, Bool, true, List, [], ◌∷◌, length, take, get_or, ap, ◌∙◌, arith}
use Rattle.std.specs.Prelude.{filter, sum_by}
use Rattle.std.proofs.lemmas.List.Sums.{sum_by-append, sum_by-cons}
use Rattle.vp_glyph.specs.Sheets.{Sheets}
use Rattle.vp_format.specs.declared.field.Field.{Field}
use Rattle.vp_field.specs.Contents.{most_work}
use Rattle.vp_field.specs.declared.view.View.{View}
use Rattle.vp_bands.specs.Meeting.{band_work, copy_work, bands_of}
use Rattle.vp_bands.specs.Laws.{WorkBounded}
use Rattle.vp_bands.proofs.Painted.{passes_next, NoneOf, sum_more, grows}

-- the most that painting a field takes
abbrev pub field_work : Field → ℕ
field_work f = most_work f.orientation f.content

-- one more field that meets the band
pub work_more : (p : Field → Bool) (fields : List Field) (seen n : ℕ) (f : Field) → seen ≤ n → n < length fields → NoneOf p fields seen n → get_or fields n f ≡ f → p f ≡ true
    → sum_by field_work (filter p (take (n + 1) fields)) ≡ sum_by field_work (filter p (take seen fields)) + field_work f
work_more p fields seen n f le lt none is now =
    ap (sum_by field_work) (passes_next p fields seen n f le lt none is now) ∙ sum_by-append field_work (filter p (take seen fields)) (f ∷ [])
    ∙ ap (λ k. sum_by field_work (filter p (take seen fields)) + k) (sum_by-cons field_work f [] ∙ omega arith)

-- that of one more band
pub copy_more : (sheets : Sheets) (stored : List ℕ) (view : View) (fields : List Field) (n : ℕ) → copy_work sheets stored view fields (n + 1) ≡ copy_work sheets stored view fields n + band_work sheets stored view fields n
unfolding copy_work
copy_more sheets stored view fields n = sum_more (band_work sheets stored view fields) n

pub work_bounded : WorkBounded
work_bounded = record {
  at_most = λ sheets held view b t before le.
      let all : b + (bands_of view - b) ≡ bands_of view = omega arith in
      omega (arith, before.work, rw all at (grows (copy_work sheets held.stored view held.fields) (λ k. omega (arith, copy_more sheets held.stored view held.fields k)) b (bands_of view - b)));
  at_least = λ sheets held view t before. before.shown;
}
