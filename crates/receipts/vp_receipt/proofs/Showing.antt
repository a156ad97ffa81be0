-- The height of the line that is shown, or else gathered.
use Rattle.std.proofs.Common.{◌≡◌, ℕ, List, [], ◌∷◌, ◌++◌, refl, length, ap, arith, Option, Some, None, IfSome, unwrap_or}
use Rattle.std.specs.Option.{option_map}
use Rattle.std.proofs.lemmas.Bool.{lt-ltb, le-ltb}
use Rattle.vp_esc.specs.declared.item.EscItem.{EscItem}
use Rattle.vp_receipt_settings.specs.Setup.{Setup}
use Rattle.vp_receipt_settings.specs.Line.{height, line}
use Rattle.vp_receipt.specs.Strips.{line_rows_after}
use Rattle.vp_strips.specs.Canvases.{Canvas}
use Rattle.vp_strips.specs.declared.job.Job.{Job}
use Rattle.vp_strips.specs.declared.lines.Lines.{Lines}
use Rattle.vp_output.specs.declared.place.Place.{Place}
use Rattle.vp_strips.specs.Jobs.{text}
use Rattle.vp_strips.proofs.Jobs.{some_left}
use Rattle.vp_strips.specs.Held.{Showing, Shows, IsShowing, job_text, SomeLeft, IsJob, IsTurned}
use Rattle.vp_receipt.specs.Effects.{text_if}
use Rattle.vp_receipt.specs.Standing.{ShowsLine}

pub rows_told : (setup : Setup) (showing : Option Showing) (before : List EscItem) (pending : List ℕ) (high : ℕ) → high ≡ height (line setup before) → ShowsLine setup showing pending before
    → unwrap_or (option_map (λ (s : Showing). s.height) showing) high ≡ line_rows_after setup before pending
rows_told setup showing before pending high e h = grind (arith, le-ltb, lt-ltb)

-- where nothing is pending no line is shown
pub shows_nothing : (setup : Setup) (showing : Option Showing) (pending : List ℕ) (before after : List EscItem) → pending ≡ [] → ShowsLine setup showing pending before → ShowsLine setup showing pending after
shows_nothing setup showing pending before after e h = grind arith

pub nothing_shown : (setup : Setup) (showing : Option Showing) (pending : List ℕ) (before : List EscItem) → ((high others : ℕ) → Shows showing (length pending) high others) → ShowsLine setup showing pending before
nothing_shown setup showing pending before h = grind arith

-- a job of which nothing is left, over any canvas
done : (j : Job) (canvas : Canvas) (p : Option Place) → SomeLeft j.strip p → text j.strip canvas p ≡ [] → p ≡ None
done j canvas p left e = grind (arith, some_left, ap length e)

front_none : (a b : List ℕ) → a ++ b ≡ [] → a ≡ []
front_none [] b e = refl
front_none (x ∷ a) b e = cc

pub is_done : (j : Job) (canvas : Canvas) (lines : Lines) → IsJob j canvas lines → job_text j canvas ≡ [] → j.place ≡ None
is_done j canvas lines job e = done j canvas j.place job.left (front_none _ _ e)

pub text_done : (j : Job) (canvas : Canvas) → j.place ≡ None → IsTurned j.place j.after → job_text j canvas ≡ []
text_done j canvas e t = grind arith

pub job_done : (j : Job) (old canvas : Canvas) (lines : Lines) → IsJob j old lines → job_text j old ≡ [] → IsJob j canvas lines
job_done j old canvas lines was none = record { low = was.low; after = was.after; place = was.place; left = was.left; line = rw (is_done j old lines was none) tt }

-- what is printed stands in its place
pub job_replaced : (printed : Option Job) (j : Job) (old canvas : Canvas) (lines : Lines) → IfSome printed (λ job. (lines : Lines) → IsJob job canvas lines)
    → IsJob j old lines → job_text j old ≡ [] → IsJob (unwrap_or printed j) canvas lines
job_replaced (Some job) j old canvas lines h was none = h lines
job_replaced None j old canvas lines h was none = job_done j old canvas lines was none

pub turned_replaced : (printed : Option Job) (j : Job) → IfSome printed (λ job. IsTurned job.place job.after) → IsTurned j.place j.after → IsTurned (unwrap_or printed j).place (unwrap_or printed j).after
turned_replaced printed j h was = grind arith

pub text_replaced : (printed : Option Job) (j : Job) (old canvas : Canvas) (lines : Lines) → IsJob j old lines → IsTurned j.place j.after → job_text j old ≡ [] → job_text (unwrap_or printed j) canvas ≡ text_if printed canvas
text_replaced (Some job) j old canvas lines was turned none = refl
text_replaced None j old canvas lines was turned none = text_done j canvas (is_done j old lines was none) turned

pub shows_done : (j : Job) (canvas : Canvas) (high others : ℕ) → j.place ≡ None → IsTurned j.place j.after → IsShowing j canvas high others
shows_done j canvas high others e t = grind arith

pub shows_replaced : (printed : Option Job) (j : Job) (old canvas : Canvas) (lines : Lines) (high others : ℕ) → IfSome printed (λ job. IsShowing job canvas high others)
    → IsJob j old lines → IsTurned j.place j.after → job_text j old ≡ [] → IsShowing (unwrap_or printed j) canvas high others
shows_replaced (Some job) j old canvas lines high others h was turned none = h
shows_replaced None j old canvas lines high others h was turned none = shows_done j canvas high others (is_done j old lines was none) turned
