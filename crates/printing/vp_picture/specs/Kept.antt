-- Where an image on its way into a PNG file stands.
use Rattle.std.specs.Prelude.{◌≡◌, ℕ, ◌+◌, ◌*◌, List, [], ◌++◌, length, Option, None, Some, Result, Ok, Err, ⊤}
use Rattle.std.specs.Io.KnownBytes.{Appends}
use Rattle.vp_dots.specs.Headers.{header_of}
use Rattle.vp_png.specs.File.{joined}
use Rattle.vp_png.specs.Kept.{Stands, waiting_bytes}
use Rattle.vp_join.specs.declared.fault.JoinFault.{JoinFault}
use Rattle.vp_join.specs.declared.fault.JoinFault.TheVariants.{Write}
use Rattle.vp_picture.specs.declared.drawing.Drawing.{Drawing}

-- a drawing took the header and the bytes of rows of an image's text, and handed out bytes of its file
pub record Shows (d : Drawing) (text out : List ℕ) : Type 0 where
  pub rows : List (List ℕ)
  pub text_is : text ≡ header_of d.png.width d.png.height ++ (joined rows ++ d.part.items)
  pub stands : Stands d.png rows out

-- the bytes of the rows that aren't whole yet
abbrev pub to_come : Drawing → ℕ
to_come d = d.png.left * d.across

-- a drawing took bytes more of a text, and an output what was handed out
pub record Draws (held holds : Option (List ℕ)) (d e : Drawing) (bytes : List ℕ) : Type 0 where
  pub out : List ℕ
  pub appended : Appends held holds out
  pub shows : (text before : List ℕ) → Shows d text before → Shows e (text ++ bytes) (before ++ out)

-- a fault is that of a write
abbrev pub IsAnswered : Result ⊤ JoinFault → Type 0
IsAnswered (Ok done) = Unit {0}
IsAnswered (Err fault) = fault ≡ Write

-- a writer that was new took a text, and an output holds the bytes of its file so far
abbrev pub ShowsAny : Option Drawing → List ℕ → List ℕ → Type 0
ShowsAny None text out = (text ≡ []) × (out ≡ [])
ShowsAny (Some d) text out = Shows d text out

pub record Drawn (held holds : Option (List ℕ)) (image : Option Drawing) (text : List ℕ) : Type 0 where
  pub out : List ℕ
  pub appended : Appends held holds out
  pub shows : ShowsAny image text out

-- a writer waits for so many bytes of rows, and what came before is put out
abbrev pub Waits : Option Drawing → ℕ → Type 0
Waits None more = more ≡ 0
Waits (Some d) more = (more + length d.part.items ≡ to_come d) × (waiting_bytes d.png ≡ [])
