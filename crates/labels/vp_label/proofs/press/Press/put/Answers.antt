use Rattle.std.proofs.Common.{arith, length-drop}
use Rattle.std.proofs.lemmas.List.{drop-drop, length-take}
use Rattle.vp_output.proofs.Cut.{put_more}
use Rattle.vp_format.specs.Formats.{held}
use Rattle.vp_label.proofs.Behind.{read_on, stood_on}
use Rattle.vp_label.proofs.press.Press.put.Goals as goal

pub loop-n-preserved : goal.loop-n-preserved
loop-n-preserved g c =
    let done = c.loop-n.invariant in
    let put = rw done.fields at c.put_line-n.ensures in
    record {
      press = put.press;
      room = grind (arith, length-take, length-drop);
      within = grind (arith, put.within, length-drop);
      bytes = grind (arith, length-take, length-drop, put_more, drop-drop, put.bytes, put.within);
      rest = grind (arith, put.rest, drop-drop);
      ended = λ some. put.ended;
      fields = put.fields;
      read = read_on c.args.sheets.now (held c.args.fields.now c.args.stored.now) c.args.view c.args.self.now c.loop-n.self c.put_line-n.new.self _ _ _ done.read put.read;
      stood = λ one low. stood_on c.args.self.now c.loop-n.self c.put_line-n.new.self c.args.fields.now c.loop-n.fields c.put_line-n.new.fields (done.stood one low) (c.put_line-n.ensures.stood (done.stood one low).painted low);
      idle = λ none. absurd (omega (arith, none, put.some));
    }
