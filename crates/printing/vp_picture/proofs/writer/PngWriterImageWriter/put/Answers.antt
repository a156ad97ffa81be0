use Rattle.vp_picture.proofs.Wholes.{follows_drawn, both_ok}
use Rattle.vp_picture.proofs.writer.PngWriterImageWriter.put.Goals as goal

pub returns-in-Some-clause-writes : goal.returns-in-Some-clause-writes
returns-in-Some-clause-writes g c =
    let v = c.draw.ensures.writes in
    record {
      taken = v.taken;
      rest = v.rest;
      split = v.split;
      has = λ start before h new. follows_drawn _ _ _ c.in-Some.image _ before v.taken (rw c.in-Some.is at (h new)) v.has;
      answer = v.answer;
    }

pub returns-in-Some-clause-awaits : goal.returns-in-Some-clause-awaits
returns-in-Some-clause-awaits g c = λ more h.
    let k = rw c.in-Some.is at h in
    both_ok _ _ _ (c.draw.ensures.room more k.0) c.draw.ensures.idle
