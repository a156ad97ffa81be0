-- What a job keeps, where another field changes.
use Rattle.std.proofs.Common.{is_some, IsTrue, ◌↔◌, ◌≡◌, ◌<◌, ◌≤◌, ℕ, ◌++◌, length, drop, arith, length-append, length-drop, Option, Some}
use Rattle.vp_strips.specs.Canvases.{Canvas}
use Rattle.vp_strips.specs.declared.job.Job.{Job}
use Rattle.vp_strips.specs.declared.job.After.{After}
use Rattle.vp_strips.specs.declared.strip.Strip.{Strip}
use Rattle.vp_strips.specs.declared.strip.Dots.{Dots}
use Rattle.vp_output.specs.declared.place.Line.{Line as LineOf}
use Rattle.vp_output.specs.declared.place.Place.{Place}
use Rattle.vp_output.specs.Lines.{line_text}
use Rattle.vp_output.proofs.Parts.{pending_long}
use Rattle.vp_strips.specs.Jobs.{lines_of, text}
use Rattle.vp_strips.specs.Held.{line_bytes, SomeLeft, IsTurned, after_text, part_of, IsLowDots, IsOwnDots, IsShowing}
use Rattle.vp_strips.proofs.Rows.{length-paper_row}

-- a line has so many bytes
pub length-line : (s : Strip) (canvas : Canvas) (l : LineOf) → length (line_text (lines_of s canvas) l) ≡ line_bytes s l
length-line s canvas l = grind (arith, length-paper_row)

-- bytes are left at a place
pub some_left : (s : Strip) (canvas : Canvas) (p : Place) → SomeLeft s (Some p) → 0 < length (text s canvas (Some p))
some_left s canvas p l = let one : 1 ≤ length (text s canvas (Some p)) = pending_long (lines_of s canvas) p 1 (omega (arith, l, length-line s canvas p.line)) in omega arith

-- bytes of the strip are pending, if any are
pub some_part : (j : Job) (canvas : Canvas) (p : Option Place) (after : After) → IsTurned p after → SomeLeft j.strip p → 0 < length (text j.strip canvas p ++ after_text after canvas) → 0 < length (text j.strip canvas p)
some_part j canvas p after t l h = grind (arith, some_left)

-- bytes are pending while the strip has a place
pub pending_while : (j : Job) (canvas : Canvas) (p : Option Place) (after : After) → SomeLeft j.strip p → IsTurned p after → IsTrue (is_some p) ↔ (0 < length (text j.strip canvas p ++ after_text after canvas))
pending_while j canvas p after l t = grind (arith, some_left, length-append)

-- a strip that is no line is not too high
pub own_low : (dots : Dots) → IsOwnDots dots → IsLowDots dots
own_low dots h = grind arith

-- the same of a job that put out bytes of its strip
pub shows_on : (j k : Job) (canvas : Canvas) (n high others : ℕ) → k.strip ≡ j.strip → k.after ≡ j.after → part_of k canvas ≡ drop n (part_of j canvas) → 0 < length (part_of j canvas) → SomeLeft k.strip k.place
    → IsShowing j canvas high others → IsShowing k canvas high others
shows_on j k canvas n high others strip after rest some left h = grind (arith, length-append, length-drop, some_left)
