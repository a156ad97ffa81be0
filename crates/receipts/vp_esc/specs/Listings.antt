-- What the lines of a unit list of its bytes.
use Rattle.std.specs.Prelude.{◌≡◌, ℕ, ◌==◌, Bool, false, ◌&&◌, ◌||◌, nat_lt, List, [], ◌∷◌, ◌++◌, length, map}
use Rattle.std.specs.Prelude.{codes, if◌then◌else◌}
use Rattle.vp_dots.specs.Listing.{listed}
use Rattle.vp_esc.specs.declared.item.Lead.{Lead}
use Rattle.vp_esc.specs.declared.item.Lead.TheVariants.{Esc, Gs, Fs}
use Rattle.vp_esc.specs.Laws.{all_bytes}
use Rattle.vp_esc.specs.Lines.{lead_word}

-- a byte that is a unit alone: five controls have names, any other byte is listed itself
abbrev pub line_of_byte : ℕ → List ℕ
line_of_byte b =
    if b == 0x0A then listed (codes "LF") []
    else if b == 0x09 then listed (codes "HT") []
    else if b == 0x0D then listed (codes "CR") []
    else if b == 0x0C then listed (codes "FF") []
    else if b == 0x18 then listed (codes "CAN") []
    else if nat_lt b 0x20 then listed (codes "ctl") (b ∷ [])
    else listed (codes "char") (b ∷ [])

-- GS k with more than 255 bytes of data, of which the line lists 255
abbrev pub is_long_symbol : Lead → List ℕ → Bool
is_long_symbol Gs (name ∷ args) = name == 0x6B && nat_lt 257 (length args)
is_long_symbol _ _ = false

-- ESC (, GS v 0, GS (, GS 8, GS *, GS Q, FS (, FS 2 and FS g, of which data without effect aren't listed
abbrev pub may_skip : Lead → List ℕ → Bool
may_skip Esc (name ∷ args) = name == 0x28
may_skip Gs (name ∷ args) =
    name == 0x76 || name == 0x28 || name == 0x38 || name == 0x2A || name == 0x51
may_skip Fs (name ∷ args) = name == 0x28 || name == 0x32 || name == 0x67
may_skip _ _ = false

-- The lines list a lead's bytes in their order: the first line those of the head, each further one those of
-- a byte or
-- column of data. What they leave out stands behind all that, and is nothing but data without effect.
pub record Lists (lead : Lead) (bytes : List ℕ) (lines : List (List ℕ)) : Type 0 where
  pub head : List ℕ
  pub word : List ℕ
  pub parts : List (List ℕ)
  pub skipped : List ℕ
  pub bytes_are : bytes ≡ (head ++ all_bytes parts) ++ skipped
  pub lines_are : lines ≡ listed (lead_word lead) head ∷ map (λ part. listed word part) parts
  pub whole : may_skip lead bytes ≡ false → skipped ≡ []
