use Rattle.std.proofs.Common.{◌≡◌, ◌++◌, []}
use Rattle.std.proofs.lemmas.Bool.{ne_eqb}
use Rattle.std.proofs.lemmas.List.{append-nil}
use Rattle.vp_dots.specs.Headers.{header_of}
use Rattle.vp_join.specs.Passes.{head_of}
use Rattle.vp_picture.proofs.Wholes.{begun, answered}
use Rattle.vp_picture.proofs.writer.PngWriterImageWriter.begin.Goals as goal

pub returns-clause-writes : goal.returns-clause-writes
returns-clause-writes g c =
    let text = header_of c.args.size.width c.args.size.height in
    let is : text ++ [] ≡ head_of c.args.size = rw (ne_eqb c.args.size.height 0 c.if-size-eq0.false) (append-nil text) in
    let k = c.flush-result.ensures in
    record {
      taken = text;
      rest = [];
      split = is;
      has = λ new. begun _ _ _ _ text c.new-image.ensures.shows k.draws;
      answer = answered _ k.answer;
    }
