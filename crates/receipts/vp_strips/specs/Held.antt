-- What a job keeps.
use Rattle.std.specs.Prelude.{◌≡◌, ◌≤◌, ◌<◌, ℕ, List, [], ◌++◌, length, take, Option, Some, None}
use Rattle.vp_receipt_settings.specs.declared.text.TheConstants.{LINE_ROWS}
use Rattle.vp_strips.specs.Canvases.{Canvas}
use Rattle.vp_strips.specs.declared.job.Job.{Job}
use Rattle.vp_strips.specs.declared.lines.Lines.{Lines}
use Rattle.vp_strips.specs.declared.job.After.{After}
use Rattle.vp_strips.specs.declared.job.After.TheVariants.{End, One, Two}
use Rattle.vp_strips.specs.declared.strip.Strip.{Strip}
use Rattle.vp_strips.specs.declared.strip.Dots.{Dots}
use Rattle.vp_strips.specs.declared.strip.Dots.TheVariants.{Line, White, Across, Raster, Drawn, Page}
use Rattle.vp_output.specs.declared.place.Line.{Line as LineOf}
use Rattle.vp_output.specs.declared.place.Line.TheVariants.{Head, Row}
use Rattle.vp_output.specs.declared.place.Place.{Place}
use Rattle.vp_receipt_settings.specs.Setup.{row_bytes}
use Rattle.vp_strips.specs.Jobs.{row_text, text, head_text, IsPlace}

-- what is still to be put out of the strip
abbrev pub part_of : Job → Canvas → List ℕ
part_of j canvas = text j.strip canvas j.place

-- a whole strip
abbrev pub whole : Strip → Canvas → List ℕ
whole s canvas = text s canvas (Some (record { line = Head; byte = 0 }))

abbrev pub whole_if : Option Strip → Canvas → List ℕ
whole_if None canvas = []
whole_if (Some s) canvas = whole s canvas

-- a strip that shows a line `high` rows high
abbrev pub IsHighDots : Dots → ℕ → Type 0
IsHighDots (Line height left length) high = height ≡ high
IsHighDots White high = ⊥
IsHighDots (Across cut) high = ⊥
IsHighDots Raster high = ⊥
IsHighDots Page high = ⊥
IsHighDots (Drawn left length) high = ⊥

abbrev pub IsHigh : Option Strip → ℕ → Type 0
IsHigh None high = Unit {0}
IsHigh (Some s) high = IsHighDots s.dots high

-- the strips that come then
abbrev pub after_text : After → Canvas → List ℕ
after_text End canvas = []
after_text (One s) canvas = whole s canvas
after_text (Two s t) canvas = whole s canvas ++ whole t canvas

-- what is still to be put out
abbrev pub job_text : Job → Canvas → List ℕ
job_text j canvas = part_of j canvas ++ after_text j.after canvas

-- a strip's rows are in the bitmap
abbrev pub IsLowDots : Dots → Type 0
IsLowDots (Line height left length) = height ≤ LINE_ROWS
IsLowDots White = Unit {0}
IsLowDots (Across cut) = Unit {0}
IsLowDots Raster = Unit {0}
IsLowDots Page = Unit {0}
IsLowDots (Drawn left length) = Unit {0}

abbrev pub IsLow : Strip → Type 0
IsLow s = IsLowDots s.dots

abbrev pub IsLowIf : Option Strip → Type 0
IsLowIf None = Unit {0}
IsLowIf (Some s) = IsLow s

-- a strip that is no line
abbrev pub IsOwnDots : Dots → Type 0
IsOwnDots (Line height left length) = ⊥
IsOwnDots White = Unit {0}
IsOwnDots (Across cut) = Unit {0}
IsOwnDots Raster = Unit {0}
IsOwnDots Page = Unit {0}
IsOwnDots (Drawn left length) = Unit {0}

abbrev pub IsOwn : Strip → Type 0
IsOwn s = IsOwnDots s.dots

abbrev pub AreOwn : After → Type 0
AreOwn End = Unit {0}
AreOwn (One s) = IsOwn s
AreOwn (Two s t) = IsOwn s × IsOwn t

-- the next strip begins where one ends
abbrev pub IsTurned : Option Place → After → Type 0
IsTurned None after = after ≡ End
IsTurned (Some p) after = Unit {0}

-- the bytes of row y are there
abbrev pub HasRow : Strip → Canvas → Lines → ℕ → Type 0
HasRow s canvas lines y = take (row_bytes s.paper) lines.row ≡ row_text s canvas y

-- the bytes of a line are there
abbrev pub HasLine : Strip → Canvas → Lines → LineOf → Type 0
HasLine s canvas lines Head = lines.head.items ≡ head_text s
HasLine s canvas lines (Row y) = HasRow s canvas lines y

-- they are there once the first of them is put out
abbrev pub IsLineBegun : Strip → Canvas → Lines → LineOf → ℕ → Type 0
IsLineBegun s canvas lines l byte = 0 < byte → HasLine s canvas lines l

abbrev pub IsBegun : Strip → Canvas → Lines → Option Place → Type 0
IsBegun s canvas lines None = Unit {0}
IsBegun s canvas lines (Some p) = IsLineBegun s canvas lines p.line p.byte

-- how many bytes a line has
abbrev pub line_bytes : Strip → LineOf → ℕ
line_bytes s Head = length (head_text s)
line_bytes s (Row y) = row_bytes s.paper

-- a byte is left in the place's line
abbrev pub SomeLeft : Strip → Option Place → Type 0
SomeLeft s None = Unit {0}
SomeLeft s (Some p) = p.byte < line_bytes s p.line

-- row y comes next, from its first byte on
abbrev pub IsAtRow : Job → ℕ → Type 0
IsAtRow j y = j.place ≡ Some (record { line = Row y; byte = 0 })

-- what is put out, with the bytes of the line that is begun
pub record IsJob (j : Job) (canvas : Canvas) (lines : Lines) : Type 0 where
  pub low : IsLow j.strip
  pub after : AreOwn j.after
  pub place : IsPlace j.strip.rows j.place
  pub left : SomeLeft j.strip j.place
  pub line : IsBegun j.strip canvas lines j.place

-- a line that is being put out: its height, and how many bytes come after it
pub record Showing : Type 0 where
  pub height : ℕ
  pub others : ℕ

-- the line of whose strip bytes are left
abbrev pub shown_at : ℕ → Option Place → ℕ → Option Showing
shown_at height None others = None
shown_at height (Some p) others = Some (record { height = height; others = others })

abbrev pub shown_in : Dots → Option Place → ℕ → Option Showing
shown_in (Line height left length) place others = shown_at height place others
shown_in White place others = None
shown_in (Across cut) place others = None
shown_in Raster place others = None
shown_in Page place others = None
shown_in (Drawn left length) place others = None

abbrev pub showing_of : Job → Canvas → Option Showing
showing_of j canvas = shown_in j.strip.dots j.place (length (after_text j.after canvas))

-- a line `high` rows high is shown while more is pending than what comes after it
abbrev pub Shows : Option Showing → ℕ → ℕ → ℕ → Type 0
Shows None pending high others = pending ≤ others
Shows (Some shown) pending high others = (shown.height ≡ high) × (shown.others ≡ others) × (others < pending)

abbrev pub IsShowing : Job → Canvas → ℕ → ℕ → Type 0
IsShowing j canvas high others = Shows (showing_of j canvas) (length (job_text j canvas)) high others
