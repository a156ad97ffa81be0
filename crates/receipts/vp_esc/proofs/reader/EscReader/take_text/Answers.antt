use Rattle.std.proofs.Common.{◌≡◌, take, length, arith}
use Rattle.std.proofs.lemmas.List.{length-take-le}
use Rattle.std.proofs.lemmas.List.Sums.{prefix_len-le-length}
use Rattle.vp_esc.proofs.Rests.{rests}
use Rattle.vp_esc.specs.Reader.{Stands, is_text}
use Rattle.vp_esc.proofs.Texts.{front_passes, ran}
use Rattle.vp_esc.proofs.reader.EscReader.take_text.Goals as goal

pub returns-in-Ground-clause-count : goal.returns-in-Ground-clause-count
unfolding Stands
returns-in-Ground-clause-count c reading bytes s = grind (arith, c.in-Ground.is, c.text_len.ensures)

pub returns-in_default-clause-count : goal.returns-in_default-clause-count
unfolding Stands
returns-in_default-clause-count c reading bytes s = grind (arith, rests)

pub returns-in-Ground-clause-fits : goal.returns-in-Ground-clause-fits
returns-in-Ground-clause-fits c = omega (arith, c.text_len.ensures, prefix_len-le-length is_text c.args.input.now)

pub returns-in-Ground-clause-text : goal.returns-in-Ground-clause-text
returns-in-Ground-clause-text c = front_passes _ c.args.input.now (omega (arith, c.text_len.ensures))

pub returns-in-Ground-clause-gives : goal.returns-in-Ground-clause-gives
returns-in-Ground-clause-gives c reading bytes n s h =
    (ran reading c.args.self.now bytes (take n c.args.input.now) c.in-Ground.is s (front_passes n c.args.input.now (omega (arith, c.text_len.ensures)))).gives

pub returns-in-Ground-clause-known : goal.returns-in-Ground-clause-known
returns-in-Ground-clause-known c reading bytes n s some h =
    let input = c.args.input.now in
    let long : length (take n input) ≡ n = length-take-le n input (omega (arith, c.text_len.ensures, prefix_len-le-length is_text input)) in
    (ran reading c.args.self.now bytes (take n input) c.in-Ground.is s (front_passes n input (omega (arith, c.text_len.ensures)))).known (omega (arith, long))

pub returns-in-Ground-clause-stands : goal.returns-in-Ground-clause-stands
returns-in-Ground-clause-stands c reading bytes s = grind (arith, ran, c.in-Ground.is, front_passes, c.text_len.ensures)
