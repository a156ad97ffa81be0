-- The symbols of each kind are those of its code.
use Rattle.std.proofs.Common.{inl, inr, ◌≡◌, ℕ, ◌<◌, Bool, false, ltb, ◌&&◌, List, unwrap_or, Option, refl, sym, ap, subst}
use Rattle.std.proofs.lemmas.Bool.{cases_lt, le-ltb}
use Rattle.vp_data_matrix.specs.declared.size.Size.{Size}
use Rattle.vp_data_matrix.specs.declared.size.Shape.{Shape}
use Rattle.vp_data_matrix.specs.declared.message.Lead.{Lead}
use Rattle.vp_data_matrix.specs.Encoding.{DataMatrixSymbol, dark, codewords_in, module_of as data_matrix_module, Encodes as EncodesDataMatrix}
use Rattle.vp_aztec.specs.declared.size.Asked.{Asked as AztecAsked}
use Rattle.vp_aztec.specs.Encoding.{AztecSymbol, symbol_of}
use Rattle.vp_aztec.specs.Places.{side}
use Rattle.vp_aztec.specs.Modules.{module_of as aztec_module}
use Rattle.vp_pdf417.specs.declared.size.Size.{Size as Pdf417Size}
use Rattle.vp_pdf417.specs.declared.size.Asked.{Asked as Pdf417Asked}
use Rattle.vp_pdf417.specs.Encoding.{Pdf417Symbol, Encodes as EncodesPdf417}
use Rattle.vp_pdf417.specs.Messages.{message}
use Rattle.vp_pdf417.specs.Codewords.{codewords}
use Rattle.vp_pdf417.specs.Modules.{across, module_of as pdf417_module}
use Rattle.vp_matrix.specs.declared.code.MatrixCode.TheVariants as codes
use Rattle.vp_matrix.specs.declared.matrix.Matrix.TheVariants as symbols
use Rattle.vp_matrix.specs.Symbols.{columns, rows, is_dark}
use Rattle.vp_matrix.specs.Encoding.{pdf417_size, columns_of, rows_of, module_of, IsMatrix}

-- what is the same inside is the same everywhere
inside : (row column high wide : ℕ) (f g : Bool) → (row < high → column < wide → f ≡ g)
    → (ltb row high && (ltb column wide && f)) ≡ (ltb row high && (ltb column wide && g))
inside row column high wide f g same = elim (cases_lt row high) [
  | inl l ↦ elim (cases_lt column wide) [
    | inl h ↦ rw (same l h) refl
    | inr h ↦ rw (le-ltb column wide h) refl
  ]
  | inr l ↦ rw (le-ltb row high l) refl
]

pub is_data_matrix : (lead : Lead) (shape : Shape) (src : List ℕ) (s : DataMatrixSymbol) → EncodesDataMatrix lead shape src s
    → IsMatrix (codes.DataMatrix lead shape) src (symbols.DataMatrix s)
unfolding columns rows is_dark columns_of rows_of module_of
is_data_matrix lead shape src s e = record {
  columns_are = ap (λ (z : Size). z.columns) e.size_is;
  rows_are = ap (λ (z : Size). z.rows) e.size_is;
  modules_are = λ row column.
      subst (λ (z : Size). (ltb row s.size.rows && (ltb column s.size.columns && dark s row column))
      ≡ (ltb row z.rows && (ltb column z.columns && data_matrix_module z (codewords_in z lead src) row column))) e.size_is
      (inside row column s.size.rows s.size.columns _ _ (e.modules_are row column));
}

pub is_aztec : (asked : AztecAsked) (src : List ℕ) (s : AztecSymbol) → s ≡ symbol_of asked src → IsMatrix (codes.Aztec asked) src (symbols.Aztec s)
unfolding columns rows is_dark columns_of rows_of module_of
is_aztec asked src s e = record {
  columns_are = ap (λ (z : AztecSymbol). side z.size) e;
  rows_are = ap (λ (z : AztecSymbol). side z.size) e;
  modules_are = λ row column.
      ap (λ (z : AztecSymbol). ltb row (side z.size) && (ltb column (side z.size) && aztec_module z.size z.words z.mode column row)) e;
}

pub is_pdf417 : (asked : Pdf417Asked) (src : List ℕ) (s : Pdf417Symbol) → EncodesPdf417 asked src s → IsMatrix (codes.Pdf417 asked) src (symbols.Pdf417 s)
unfolding columns rows is_dark columns_of rows_of module_of
is_pdf417 asked src s e =
    let size : pdf417_size asked src ≡ s.size = ap (λ (o : Option Pdf417Size). unwrap_or o (record { columns = 1; rows = 3; level = 0; compact = false })) e.size_is in
    record {
      columns_are = ap across (sym size);
      rows_are = ap (λ (z : Pdf417Size). z.rows) (sym size);
      modules_are = λ row column.
          subst (λ (z : Pdf417Size). (ltb row s.size.rows && (ltb column (across s.size) && pdf417_module s.size s.words row column))
          ≡ (ltb row z.rows && (ltb column (across z) && pdf417_module z (codewords z (message src)) row column))) (sym size)
          (ap (λ (words : List ℕ). ltb row s.size.rows && (ltb column (across s.size) && pdf417_module s.size words row column)) e.words_are);
    }
