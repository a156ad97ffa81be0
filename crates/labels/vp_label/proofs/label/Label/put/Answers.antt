use Rattle.std.proofs.Common.{◌≡◌, ◌<◌, ◌++◌, rules, ℕ, subst, ap, sym, ◌∙◌, length, take, drop, min}
use Rattle.std.proofs.Common.{◌≤◌, arith, refl, inl, inr, length-drop}
use Rattle.std.proofs.lemmas.Bool.{cases_lt}
use Rattle.vp_bands.specs.Meeting.{bands_of, copy_work, pairs, shown_pairs}
use Rattle.vp_bands.specs.Standing.{IsBefore}
use Rattle.vp_copies.specs.Copies.{copies_text}
use Rattle.vp_label.proofs.Counts.{between_copies, same_image}
use Rattle.vp_label.proofs.Presses.{most}
use Rattle.vp_label.specs.Prints.{label_image, view_of}
use Rattle.vp_label.specs.Standing.{bands, met, AreCopies, painting, shown, IsPrinting, Printing}
use Rattle.vp_label.specs.declared.gathered.Gathered.{Gathered}
use Rattle.vp_label.specs.Gathered.{held_of, Gathers}
use Rattle.vp_label.proofs.Pending.{still_printing}
use Rattle.vp_label.proofs.Read.{read_gathers, read_printing}
use Rattle.vp_label.proofs.Work.{none_left, printing_most, printing_least}
use Rattle.vp_label.specs.Press.{left, press_image, IsPress, IsReadTo}
use Rattle.vp_label.specs.declared.press.Press.{Press}
use Rattle.vp_field.specs.declared.view.View.{View}
use Rattle.vp_label.proofs.label.Label.put.Given.{Over}
use Rattle.vp_label.proofs.label.Label.put.Goals as goal

module _ (g : Over) (c : goal.After-slice_known-2-1 g) where
  pend : left c.self.inside.sheets (held_of c.self.inside.gathered) c.view_of-view.result c.self.inside.press ≡ c.args.self.now.pending
  pend = let j = c.self.inside in ap (λ v. left j.sheets (held_of j.gathered) v j.press) c.view_of-view.ensures ∙ ap (λ (p : Printing _). p.pending) c.self.view_is

  -- the band that the painter stands before
  within : (b : ℕ) × (b ≤ bands_of c.view_of-view.result) × IsBefore c.self.inside.sheets (held_of c.self.inside.gathered) c.view_of-view.result b c.put.new.self.painter
  within =
      let q = c.put.new.self in
      let view = c.view_of-view.result in
      let p = (rw c.bytes.ensures.bytes at c.put.ensures).press in
      let few = p.painted.few in
      (q.copies.painted, omega (arith, few, p.height), p.before)

  -- behind whole copies it is behind the last one
  ended : 0 < c.put.result → AreCopies c.args.self.now (left c.self.inside.sheets (held_of c.self.inside.gathered) (view_of c.self.inside.gathered.in_force.settings) c.put.new.self)
      → IsBefore c.self.inside.sheets (held_of c.self.inside.gathered) c.view_of-view.result (bands_of c.view_of-view.result) c.put.new.self.painter
  ended out whole =
      let j = c.self.inside in
      let held = held_of j.gathered in
      let q = c.put.new.self in
      let view = c.view_of-view.result in
      let p = (rw c.bytes.ensures.bytes at c.put.ensures).press in
      let shows : press_image j.sheets held view q ≡ label_image c.args.self.now.sheets (view_of c.args.self.now.gathered.in_force.settings) c.args.self.now.gathered.format.stored c.args.self.now.gathered.format.fields.items =
      same_image j.sheets held view q p.width p.height ∙ ap (λ (v : View). label_image j.sheets v held.stored held.fields) c.view_of-view.ensures
      ∙ ap (λ (x : Printing _). label_image x.sheets (view_of x.gathered.in_force.settings) x.gathered.format.stored x.gathered.format.fields.items) c.self.view_is in
      let count : length (left j.sheets held view q) ≡ length (copies_text (press_image j.sheets held view q) whole.0) =
      ap (λ v. length (left j.sheets held v q)) c.view_of-view.ensures ∙ whole.1 ∙ ap (λ i. length (copies_text i whole.0)) (sym shows) in
      elim (cases_lt 0 q.copies.place.copies) [
        | inl more ↦ (rw c.bytes.ensures.bytes at c.put.ensures).ended out (between_copies c.place_law.ensures (press_image j.sheets held view q) q.copies.place whole.0 (omega (arith, p.high, p.height)) p.place more count)
        | inr none_left ↦ subst (λ (b : ℕ). IsBefore j.sheets held view b q.painter) (p.over (omega arith)) p.before
      ]

  met_is : pairs c.self.inside.sheets c.self.inside.gathered.format.stored c.view_of-view.result c.self.inside.gathered.format.fields.items (bands_of c.view_of-view.result) ≡ met c.args.self.now
  met_is = let j = c.self.inside in ap (λ (v : View). pairs j.sheets j.gathered.format.stored v j.gathered.format.fields.items (bands_of v)) c.view_of-view.ensures ∙ ap met c.self.view_is

pub returns-clause-count : goal.returns-clause-count
returns-clause-count g c = (rw c.bytes.ensures.bytes at c.put.ensures).count ∙ ap (λ t. min (length t) (length c.args.out.now)) (pend g c)

pub returns-clause-bytes : goal.returns-clause-bytes
returns-clause-bytes g c = (rw c.bytes.ensures.bytes at c.put.ensures).bytes ∙ ap (λ t. take c.put.result t ++ drop c.put.result c.args.out.now) (pend g c)

pub returns-clause-rest : goal.returns-clause-rest
returns-clause-rest g c = let j = c.self.inside in rw (rw c.bytes.ensures.bytes at c.put.ensures).fields (sym (ap (λ v. left j.sheets (held_of j.gathered) v c.put.new.self) c.view_of-view.ensures) ∙ (rw c.bytes.ensures.bytes at c.put.ensures).rest ∙ ap (drop c.put.result) (pend g c))

pub put-requires : goal.put-requires
put-requires g c =
    let j = c.self.inside in
    let some : 0 < j.press.copies.place.copies = search rules in
    rw c.bytes.ensures.bytes (subst (λ (v : View). IsPress j.sheets (held_of j.gathered) v j.press) (sym c.view_of-view.ensures) (c.self.invariant.press some))

pub returns-clause-at_most : goal.returns-clause-at_most
returns-clause-at_most g c = λ pending.
    let j = c.self.inside in
    let bound = most j.sheets (held_of j.gathered) c.view_of-view.result c.put.new.self.painter c.looks_bounded.ensures (within g c) in
    omega (arith, bound, met_is g c, ap bands_of c.view_of-view.ensures, ap bands c.self.view_is)

pub returns-clause-work : goal.returns-clause-work
returns-clause-work g c = λ pending.
    let j = c.self.inside in
    let held = held_of j.gathered in
    let w = within g c in
    let bound = c.work_bounded.ensures.at_most j.sheets held c.view_of-view.result w.0 c.put.new.self.painter w.2 w.1 in
    omega (arith, bound, ap (λ (v : View). copy_work j.sheets held.stored v held.fields (bands_of v)) c.view_of-view.ensures, ap painting c.self.view_is)

pub returns-clause-at_least : goal.returns-clause-at_least
returns-clause-at_least g c = λ out whole.
    let bound = c.looks_bounded.ensures.at_least c.self.inside.sheets (held_of c.self.inside.gathered) c.view_of-view.result c.put.new.self.painter (ended g c out (rw (rw c.bytes.ensures.bytes at c.put.ensures).fields at whole)) in
    omega (arith, bound, met_is g c)

pub returns-clause-shown : goal.returns-clause-shown
returns-clause-shown g c = λ out whole.
    let j = c.self.inside in
    let held = held_of j.gathered in
    let bound = c.work_bounded.ensures.at_least j.sheets held c.view_of-view.result c.put.new.self.painter (ended g c out (rw (rw c.bytes.ensures.bytes at c.put.ensures).fields at whole)) in
    omega (arith, bound, ap (λ (v : View). shown_pairs j.sheets held.stored v held.fields (bands_of v)) c.view_of-view.ensures, ap shown c.self.view_is)

pub returns-clause-stands : goal.returns-clause-stands
returns-clause-stands g c = λ sheets before st. record {
  sheets_are = ap (λ (p : Printing _). p.sheets) c.self.view_is ∙ st.sheets_are;
  gathered = read_gathers sheets c.self.inside.gathered c.put.new.fields (rw c.bytes.ensures.bytes at c.put.ensures).fields before (subst (λ (g : Gathered _). Gathers sheets g before) (sym (ap (λ (p : Printing _). p.gathered) c.self.view_is)) st.gathered);
  printing = λ some. read_printing sheets c.self.inside.gathered c.put.new.fields (rw c.bytes.ensures.bytes at c.put.ensures).fields _ before (still_printing sheets c.self.inside.gathered before c.args.self.now.pending _ c.put.result (returns-clause-rest g c)
      (subst (λ (g : Gathered _). 0 < length c.args.self.now.pending → IsPrinting sheets g c.args.self.now.pending before) (sym (ap (λ (p : Printing _). p.gathered) c.self.view_is)) st.printing) some);
  at_most = elim (cases_lt 0 (length c.args.self.now.pending)) [
    | inl some ↦ omega (arith, returns-clause-work g c some, printing_most sheets c.args.self.now before st.sheets_are (st.printing some) some)
    | inr none ↦ omega (arith, ap (λ (p : Press _). p.painter.work) ((rw c.bytes.ensures.bytes at c.put.ensures).idle (omega (arith, returns-clause-count g c, none))).0, ap (λ (p : Printing _). p.press.painter.work) c.self.view_is, st.at_most)
  ];
  at_least = λ gone. elim (cases_lt 0 (length c.args.self.now.pending)) [
    | inl some ↦ omega (
      arith,
      returns-clause-shown g c (omega (arith, ap length gone, ap length (returns-clause-rest g c), length-drop c.put.result c.args.self.now.pending)) (0, ap length gone),
      printing_least sheets c.args.self.now before st.sheets_are (st.printing some) some,
    )
    | inr none ↦ omega (
      arith,
      ap (λ (p : Press _). p.painter.work) ((rw c.bytes.ensures.bytes at c.put.ensures).idle (omega (arith, returns-clause-count g c, none))).0,
      ap (λ (p : Printing _). p.press.painter.work) c.self.view_is,
      st.at_least (none_left c.args.self.now.pending none),
    )
  ];
}

pub returns-clause-stood : goal.returns-clause-stood
returns-clause-stood g c = λ single one.
    let view = c.view_of-view.result in
    let bands_are : bands_of view ≡ 1 = ap bands_of c.view_of-view.ensures ∙ ap bands c.self.view_is ∙ single in
    let stood = c.put.ensures.stood (ap (λ (p : Printing _). p.press.copies.painted) c.self.view_is ∙ one) (omega (arith, bands_are)) in
    (stood.painter ∙ ap (λ (p : Printing _). p.press.painter) c.self.view_is, stood.painted)

pub invariant_of-self : goal.invariant_of-self
invariant_of-self g c =
    let j = c.self.inside in
    let some = c.self.invariant.gathered in
    record {
      gathered = (some.0, read_gathers j.sheets j.gathered c.put.new.fields (rw c.bytes.ensures.bytes at c.put.ensures).fields some.0 some.1);
      press = λ more. rw (rw c.bytes.ensures.bytes at c.put.ensures).fields (subst (λ (v : View). IsPress j.sheets (held_of j.gathered) v c.put.new.self) c.view_of-view.ensures (rw c.bytes.ensures.bytes at c.put.ensures).press);
    }

pub returns-clause-read : goal.returns-clause-read
returns-clause-read g c =
    let j = c.self.inside in
    let q = c.put.new.self in
    subst (λ (p : Printing _). IsReadTo p.sheets (held_of p.gathered) (view_of p.gathered.in_force.settings) p.press q p.gathered.format.fields.read c.put.new.fields.read) c.self.view_is
    (subst (λ (v : View). IsReadTo j.sheets (held_of j.gathered) v j.press q j.gathered.format.fields.read c.put.new.fields.read) c.view_of-view.ensures (rw c.bytes.ensures.bytes at c.put.ensures).read)
