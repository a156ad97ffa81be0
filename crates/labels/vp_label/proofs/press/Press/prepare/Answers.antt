use Rattle.std.proofs.Common.{ap, arith, sym, subst, ◌∙◌, ℕ}
use Rattle.vp_format.specs.Formats.{held}
use Rattle.vp_bands.specs.Meeting.{pairs}
use Rattle.vp_bands.specs.Standing.{IsBefore}
use Rattle.vp_bands.proofs.Painted.{pairs_more}
use Rattle.vp_copies.specs.Progress.{StandsPainted}
use Rattle.vp_label.specs.Press.{press_image}
use Rattle.vp_label.proofs.Presses.{band_wanted, copy_wanted, none_wanted}
use Rattle.vp_label.proofs.press.Press.prepare.Goals as goal

pub paint-requires-clause-before : goal.paint-requires-clause-before
paint-requires-clause-before g c =
    let at = band_wanted c.args.self.now.copies c.in-Band.b c.requires.press.painted (sym c.ahead.ensures ∙ c.in-Band.is) in
    subst (λ (b : ℕ). IsBefore c.args.sheets.now (held c.args.fields.now c.args.stored.now) c.args.view b c.args.self.now.painter) at.0 c.requires.press.before

pub returns-in-Nothing-clause-painted : goal.returns-in-Nothing-clause-painted
returns-in-Nothing-clause-painted g c =
    let old = c.args.self.now in
    let at = none_wanted old.copies c.requires.press.painted (sym c.ahead.ensures ∙ c.in-Nothing.is) in
    subst (λ (n : ℕ). StandsPainted (press_image c.args.sheets.now (held c.args.fields.now c.args.stored.now) c.args.view old) n old.band) (sym at.1) c.requires.press.ready

pub returns-in-Nothing-clause-before : goal.returns-in-Nothing-clause-before
returns-in-Nothing-clause-before g c =
    let old = c.args.self.now in
    let at = none_wanted old.copies c.requires.press.painted (sym c.ahead.ensures ∙ c.in-Nothing.is) in
    subst (λ (n : ℕ). IsBefore c.args.sheets.now (held c.args.fields.now c.args.stored.now) c.args.view n old.painter) (sym at.1) c.requires.press.before

pub returns-in-Nothing-clause-read : goal.returns-in-Nothing-clause-read
returns-in-Nothing-clause-read g c =
    let number = pairs c.args.sheets.now c.args.stored.now c.args.view c.args.fields.now.items in
    let at = none_wanted c.args.self.now.copies c.requires.press.painted (sym c.ahead.ensures ∙ c.in-Nothing.is) in
    let same = at.0 ∙ sym at.1 in
    let e = ap number same in
    record { looks = omega (arith, same, e); fields = omega (arith, e); marks = omega (arith, e) }

pub returns-in-Copy-clause-before : goal.returns-in-Copy-clause-before
returns-in-Copy-clause-before g c =
    let sheets = c.args.sheets.now in
    let format = held c.args.fields.now c.args.stored.now in
    let old = c.args.self.now in
    let at = copy_wanted old.copies (sym c.ahead.ensures ∙ c.in-Copy.is) in
    subst (λ (b : ℕ). IsBefore sheets format c.args.view b c.start.new.self) (sym at.1) (c.start.ensures.before sheets format c.args.view old.copies.painted c.requires.press.before)

pub returns-in-Copy-clause-read : goal.returns-in-Copy-clause-read
returns-in-Copy-clause-read g c =
    let number = pairs c.args.sheets.now c.args.stored.now c.args.view c.args.fields.now.items in
    let at = copy_wanted c.args.self.now.copies (sym c.ahead.ensures ∙ c.in-Copy.is) in
    let same = at.0 ∙ sym at.1 in
    let e = ap number same in
    rw c.start.ensures.is (record { looks = omega (arith, same, e); fields = omega (arith, e); marks = omega (arith, e) })

pub returns-in-Band-clause-read : goal.returns-in-Band-clause-read
returns-in-Band-clause-read g c =
    let number = pairs c.args.sheets.now c.args.stored.now c.args.view c.args.fields.now.items in
    let b = c.in-Band.b in
    let at = band_wanted c.args.self.now.copies b c.requires.press.painted (sym c.ahead.ensures ∙ c.in-Band.is) in
    let more = pairs_more c.args.sheets.now c.args.stored.now c.args.view c.args.fields.now.items b in
    let paint = c.paint.ensures in
    rw paint.read (record {
      looks = omega (arith, at.1, at.2, ap number at.1, ap number at.2, more, paint.at_most);
      fields = omega (arith, ap number at.1, ap number at.2, more);
      marks = omega (arith, ap number at.1, ap number at.2, more, paint.marked);
    })
