use Rattle.std.proofs.Common.{◌≡◌, ℕ, ◌+◌, ◌++◌, ◌∷◌, [], List, ap, sym, ◌∙◌, arith, length}
use Rattle.vp_receipt_settings.specs.Rasters.{row_so_far, bytes_after}
use Rattle.vp_receipt_settings.proofs.Runs.{lasts}
use Rattle.vp_receipt.specs.Strips.{raster_row_text}
use Rattle.vp_receipt.proofs.RowLaws.{row_ended, rows_ended, row_printed}
use Rattle.vp_receipt.proofs.laws.a_row_is_its_bytes.Goals as goal

pub returns-clause-gathered : goal.returns-clause-gathered
returns-clause-gathered c = λ before row none some short.
    let z : length (row_so_far before) ≡ 0 = ap length none in
    (lasts row before some (omega arith)).row ∙ ap (λ (xs : List ℕ). xs ++ row) none

pub returns-clause-printed : goal.returns-clause-printed
returns-clause-printed c = λ setup before row byte none some whole.
    let z : length (row_so_far before) ≡ 0 = ap length none in
    let l = lasts row before some (omega arith) in
    let got : row_so_far (bytes_after row before) ≡ row = l.row ∙ ap (λ (xs : List ℕ). xs ++ row) none in
    let left = l.rows in
    row_printed (bytes_after row before) byte (ap (λ (xs : List ℕ). length xs + 1) got ∙ whole ∙ sym l.width) setup (omega arith)
    ∙ ap (λ (xs : List ℕ). raster_row_text setup (bytes_after row before) (xs ++ byte ∷ [])) got

pub returns-clause-begins : goal.returns-clause-begins
returns-clause-begins c = λ before row byte none some whole.
    let z : length (row_so_far before) ≡ 0 = ap length none in
    let l = lasts row before some (omega arith) in
    let got : row_so_far (bytes_after row before) ≡ row = l.row ∙ ap (λ (xs : List ℕ). xs ++ row) none in
    row_ended (bytes_after row before) byte (ap (λ (xs : List ℕ). length xs + 1) got ∙ whole ∙ sym l.width)

pub returns-clause-fewer : goal.returns-clause-fewer
returns-clause-fewer c = λ before row byte none some whole.
    let z : length (row_so_far before) ≡ 0 = ap length none in
    let l = lasts row before some (omega arith) in
    let got : row_so_far (bytes_after row before) ≡ row = l.row ∙ ap (λ (xs : List ℕ). xs ++ row) none in
    let left = l.rows in
    let e = rows_ended (bytes_after row before) byte (ap (λ (xs : List ℕ). length xs + 1) got ∙ whole ∙ sym l.width) in
    omega arith
