use Rattle.std.proofs.Common.{Option, ◌≡◌, ◌∷◌, ap, refl, sym, subst, ◌∙◌, List, Some, None, arith}
use Rattle.vp_dots.specs.declared.fault.Fault.{Fault}
use Rattle.vp_zpl.specs.declared.item.Command.{Command}
use Rattle.vp_zpl.specs.Spelling.{Kept}
use Rattle.vp_zpl.specs.declared.name.Name.{Name}
use Rattle.vp_zpl.specs.Items.{Item}
use Rattle.vp_zpl.specs.Items.Item.{Given}
use Rattle.vp_field.specs.declared.view.View.{View}
use Rattle.vp_copies.specs.Copies.{copies_text}
use Rattle.vp_label.specs.declared.gathered.Gathered.{Gathered}
use Rattle.vp_label.specs.Gathered.{held_of, Gathers}
use Rattle.vp_label.specs.Prints.{label_image, prints, view_of}
use Rattle.vp_label.specs.Press.{left, press_image, IsPress}
use Rattle.vp_label.specs.Refusals.{refusal}
use Rattle.vp_label.specs.Standing.{Printing}
use Rattle.vp_label.proofs.Idle.{no_copies, nothing_left}
use Rattle.vp_label.proofs.Read.{read_gathers}
use Rattle.vp_label.proofs.label.Label.obey.Given.{Over}
use Rattle.vp_label.proofs.label.Label.obey.Goals as goal

-- what a command's refusal is
abbrev Refuses : {A : Type 0} → Command → Option Fault → Printing A → Type 0
Refuses command f p = (before : List Item) (name : Name) (sent : List Kept) → Gathers p.sheets p.gathered before → refusal p.sheets before (Given command name sent) ≡ f

pub returns-in-Err-clause-refusal : goal.returns-in-Err-clause-refusal
returns-in-Err-clause-refusal g c = subst (Refuses c.args.command (Some c.in-Err.fault)) c.self.view_is c.in-Err.ensures.refusal

pub returns-then-copies-eq0-clause-refusal : goal.returns-then-copies-eq0-clause-refusal
returns-then-copies-eq0-clause-refusal g c = subst (Refuses c.args.command None) c.self.view_is c.in-Ok.ensures.refusal

pub returns-then-copies-eq0-clause-stands : goal.returns-then-copies-eq0-clause-stands
returns-then-copies-eq0-clause-stands g c =
    let P : Printing _ → Type 0 = λ p. (before : List Item) (name : Name) (sent : List Kept) → Gathers p.sheets p.gathered before → Gathers c.self.inside.sheets c.obey.new.self (Given c.args.command name sent ∷ before) in
    subst P c.self.view_is c.in-Ok.ensures.stands

pub returns-then-copies-eq0-clause-pending : goal.returns-then-copies-eq0-clause-pending
returns-then-copies-eq0-clause-pending g c =
    let j = c.self.inside in
    let now = c.obey.new.self in
    let view = view_of now.in_force.settings in
    let is = press_image j.sheets (held_of now) view j.press in
    let was = press_image j.sheets (held_of j.gathered) (view_of j.gathered.in_force.settings) j.press in
    let none = no_copies c.pending_law.ensures was j.press.copies.place (λ some. let p = c.self.invariant.press some in (let h = p.high in let e = p.height in omega arith, p.place)) (ap (λ (p : Printing _). p.pending) c.self.view_is ∙ c.requires) in
    let P : Printing _ → Type 0 = λ p. (before : List Item) (name : Name) (sent : List Kept) → Gathers p.sheets p.gathered before →
    left j.sheets (held_of now) view j.press ≡ prints p.sheets before (Given c.args.command name sent) in
    subst P c.self.view_is (λ before name sent g. nothing_left is j.press.copies.place none
    ∙ ap (copies_text (label_image j.sheets view now.format.stored now.format.fields.items)) (sym c.if-copies-eq0.true) ∙ c.in-Ok.ensures.prints before name sent g)

pub returns-clause-refusal : goal.returns-clause-refusal
returns-clause-refusal g c = subst (Refuses c.args.command None) c.self.view_is c.in-Ok.ensures.refusal

-- the format whose copies begin is the one that was gathered, with its fields read
abbrev Begun : (g : Over) → goal.After-begin g → Gathered g.row.A.Denot
Begun g c = let now = c.obey.new.self in record now { format = c.begin.new.format }

begun_gathers : (g : Over) (c : goal.After-begin g) (before : List Item) → Gathers c.self.inside.sheets c.obey.new.self before → Gathers c.self.inside.sheets (Begun g c) before
begun_gathers g c before h = rw c.begin.ensures.read (read_gathers c.self.inside.sheets c.obey.new.self _ refl before h)

pub returns-clause-stands : goal.returns-clause-stands
returns-clause-stands g c =
    let P : Printing _ → Type 0 = λ p. (before : List Item) (name : Name) (sent : List Kept) → Gathers p.sheets p.gathered before → Gathers c.self.inside.sheets (Begun g c) (Given c.args.command name sent ∷ before) in
    subst P c.self.view_is (λ before name sent h. begun_gathers g c (Given c.args.command name sent ∷ before) (c.in-Ok.ensures.stands before name sent h))

pub returns-clause-pending : goal.returns-clause-pending
returns-clause-pending g c =
    let j = c.self.inside in
    let now = c.obey.new.self in
    let format = held_of now in
    let view = c.view_of-view.ensures in
    let P : Printing _ → Type 0 = λ p. (before : List Item) (name : Name) (sent : List Kept) → Gathers p.sheets p.gathered before →
    left j.sheets format (view_of now.in_force.settings) c.begin.new.self ≡ prints p.sheets before (Given c.args.command name sent) in
    rw c.begin.ensures.read (subst P c.self.view_is (λ before name sent g.
    sym (ap (λ (v : View). left j.sheets format v c.begin.new.self) view) ∙ c.begin.ensures.left j.sheets
    ∙ ap (λ (v : View). copies_text (label_image j.sheets v format.stored format.fields) c.in-Ok.copies) view ∙ c.in-Ok.ensures.prints before name sent g))

pub returns-clause-idle : goal.returns-clause-idle
returns-clause-idle g c = grind (arith, no_copies c.pending_law.ensures, c.begin.ensures.press c.self.inside.sheets)

pub returns-clause-idle_work : goal.returns-clause-idle_work
returns-clause-idle_work g c = λ none.
    let j = c.self.inside in
    let now = c.obey.new.self in
    let q = c.begin.new.self in
    let p = c.begin.ensures.press j.sheets in
    let over = no_copies c.pending_law.ensures (press_image j.sheets (held_of now) (view_of now.in_force.settings) q) q.copies.place (λ some. (let h = p.high in let e = p.height in omega arith, p.place)) (rw c.begin.ensures.read at none) in
    absurd (omega (arith, over, c.begin.ensures.some))

pub invariant_of-self-2 : goal.invariant_of-self-2
invariant_of-self-2 g c =
    let j = c.self.inside in
    let some = c.in-Ok.ensures.some in
    record {
      gathered = (some.0, begun_gathers g c some.0 some.1);
      press = λ more. rw c.begin.ensures.read (subst (λ (v : View). IsPress j.sheets (held_of c.obey.new.self) v c.begin.new.self) c.view_of-view.ensures (c.begin.ensures.press j.sheets));
    }
