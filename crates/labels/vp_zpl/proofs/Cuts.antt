-- One more byte at the end of the stream.
use Rattle.std.proofs.Common.{◌≡◌, ℕ, Bool, true, false, cond, List, [], ◌∷◌, ◌++◌, refl, sym, ap, ◌∙◌, arith}
use Rattle.std.proofs.lemmas.List.{reverse-append}
use Rattle.vp_zpl.specs.declared.reading.Reading.{Reading}
use Rattle.vp_zpl.specs.Spelling.{is_sign, is_line_end}
use Rattle.vp_zpl.specs.Commands.{Cut, cut, cut_back, with_byte, longer, wants_binary}
use Rattle.vp_zpl.specs.Items.{items, items_in}

pub cut-push : (reading : Reading) (bytes : List ℕ) (c : ℕ) → cut reading (bytes ++ c ∷ []) ≡ with_byte reading (cut reading bytes) c
unfolding cut
cut-push reading bytes c = ap (cut_back reading) (reverse-append bytes (c ∷ []))

pub items-is : (reading : Reading) (bytes : List ℕ) → items reading bytes ≡ items_in reading (cut reading bytes)
unfolding items
items-is reading bytes = refl

abbrev pub taken : Bool → Bool → Bool → Cut → ℕ → Cut
taken wants ends signs s c =
    cond wants (record { before = s.before; open_one = longer s.open_one c })
    (cond ends s (cond signs (record { before = s.open_one ∷ s.before; open_one = c ∷ [] }) (record { before = s.before; open_one = longer s.open_one c })))

pub with-byte : (reading : Reading) (s : Cut) (c : ℕ) (wants ends signs : Bool) → wants_binary reading s.open_one ≡ wants → is_line_end c ≡ ends → is_sign c ≡ signs → with_byte reading s c ≡ taken wants ends signs s c
with-byte reading s c wants ends signs w e g = grind arith

-- the end of a line changes nothing
pub line_end-cut : (reading : Reading) (bytes : List ℕ) (c : ℕ) → is_line_end c ≡ true → wants_binary reading (cut reading bytes).open_one ≡ false → cut reading (bytes ++ c ∷ []) ≡ cut reading bytes
line_end-cut reading bytes c e w = cut-push reading bytes c ∙ with-byte reading (cut reading bytes) c false true _ w e refl

pub line_end-items : (reading : Reading) (bytes : List ℕ) (c : ℕ) → is_line_end c ≡ true → wants_binary reading (cut reading bytes).open_one ≡ false → items reading (bytes ++ c ∷ []) ≡ items reading bytes
line_end-items reading bytes c e w = items-is reading (bytes ++ c ∷ []) ∙ ap (items_in reading) (line_end-cut reading bytes c e w) ∙ sym (items-is reading bytes)
