-- A stream is one list of commands.
use Rattle.std.proofs.Common.{◌≡◌, ℕ, Bool, false, List, [], ◌∷◌, ◌++◌, sym, ap, ◌∙◌, append_assoc, reverse, arith, subst}
use Rattle.std.proofs.lemmas.List.{append-nil}
use Rattle.vp_zpl.specs.declared.reading.Reading.{Reading}
use Rattle.vp_zpl.specs.Spelling.{is_sign, is_line_end}
use Rattle.vp_zpl.specs.Commands.{Cut, cut, cut_back, wants_binary}
use Rattle.vp_zpl.specs.Laws.{Follows, GoesOn, IsCommand, IsCut}
use Rattle.vp_zpl.proofs.Cuts.{cut-push, with-byte, taken}

goes_on : (reading : Reading) (bytes : List ℕ) (before : List (List ℕ)) (sign : ℕ) (front more : List ℕ) → cut reading bytes ≡ record { before = before; open_one = sign ∷ front }
    → GoesOn reading (sign ∷ front) more → cut reading (bytes ++ more) ≡ record { before = before; open_one = sign ∷ front ++ more }
goes_on reading bytes before sign front [] e g = grind (arith, append-nil)
goes_on reading bytes before sign front (c ∷ more) e g =
    let one : cut reading (bytes ++ c ∷ []) ≡ record { before = before; open_one = sign ∷ front ++ c ∷ [] } = grind (arith, cut-push) in
    grind (arith, goes_on reading (bytes ++ c ∷ []) before sign (front ++ c ∷ []) more one g.1, append_assoc, one)

pub read_as : (reading : Reading) (bytes command : List ℕ) → IsCommand reading command → wants_binary reading (cut reading bytes).open_one ≡ false
    → cut reading (bytes ++ command) ≡ record { before = (cut reading bytes).open_one ∷ (cut reading bytes).before; open_one = command }
read_as reading bytes [] i w = absurd i
read_as reading bytes (sign ∷ more) i w =
    ap (cut reading) (sym (append_assoc bytes (sign ∷ []) more)) ∙ goes_on reading (bytes ++ sign ∷ []) ((cut reading bytes).open_one ∷ (cut reading bytes).before) sign [] more (grind (arith, cut-push, with-byte)) i.1

-- one byte more of a command
goes_more : (reading : Reading) (front more : List ℕ) (c : ℕ) → GoesOn reading front more → Follows (wants_binary reading (front ++ more)) c → GoesOn reading front (more ++ c ∷ [])
goes_more reading front [] c g f = (subst (λ x. Follows (wants_binary reading x) c) (append-nil front) f, tt)
goes_more reading front (m ∷ more) c g f = grind (arith, append_assoc, goes_more reading (front ++ m ∷ []) more c g.1 (subst (λ x. Follows (wants_binary reading x) c) (sym (append_assoc front (m ∷ []) more)) f))

byte_by : (reading : Reading) (wants ends signs : Bool) (s : Cut) (c : ℕ) → wants_binary reading s.open_one ≡ wants → is_line_end c ≡ ends → is_sign c ≡ signs → IsCut reading s → IsCut reading (taken wants ends signs s c)
byte_by reading wants ends signs s c w e g i = grind (arith, goes_more)

cut_back_is : (reading : Reading) (bytes : List ℕ) → IsCut reading (cut_back reading bytes)
cut_back_is reading [] = tt
cut_back_is reading (c ∷ bytes) = grind (arith, taken, with-byte, byte_by, cut_back_is reading bytes)

pub cut_is : (reading : Reading) (bytes : List ℕ) → IsCut reading (cut reading bytes)
unfolding cut
cut_is reading bytes = cut_back_is reading (reverse bytes)
