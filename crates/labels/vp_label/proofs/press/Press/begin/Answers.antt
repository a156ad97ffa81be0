use Rattle.std.proofs.Common.{ℕ, ap, arith, subst, sym}
use Rattle.std.specs.Prelude.{map}
use Rattle.vp_bands.specs.Standing.{IsBefore}
use Rattle.vp_copies.specs.Progress.{Progress}
use Rattle.vp_field.specs.Fields.{stroke_of}
use Rattle.vp_field.specs.Strokes.{image_dot}
use Rattle.vp_format.specs.Formats.{held}
use Rattle.vp_label.proofs.press.Press.begin.Goals as goal

pub thread-requires-clause-near : goal.thread-requires-clause-near
thread-requires-clause-near g c = λ k d lt. (c.requires.kept k d lt).near

pub returns-clause-press : goal.returns-clause-press
returns-clause-press g c = λ sheets.
    let format = c.args.format.now in
    let view = c.args.view in
    let value = c.new-self.ensures.value in
    record {
      width = grind arith;
      height = grind arith;
      narrow = c.requires.narrow;
      low = c.requires.low;
      high = c.requires.high;
      place = c.new-self.ensures.place;
      painted = c.new-self.ensures.painted;
      before = subst (λ (n : ℕ). IsBefore sheets (held format.fields format.stored) view n c.thread.new.self) (sym (ap (λ (x : Progress). x.painted) value)) (c.thread.ensures.before sheets format.stored c.requires.kept);
      over = λ none. absurd (let some = c.requires.some in let e = ap (λ (x : Progress). x.place.copies) value in omega arith);
      ready = c.new-self.ensures.ready (image_dot view (map (stroke_of sheets format.stored) format.fields.items)) c.args.self.now.band;
    }
