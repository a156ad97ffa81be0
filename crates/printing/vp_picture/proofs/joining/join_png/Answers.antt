use Rattle.std.proofs.Common.{◌≡◌, None}
use Rattle.vp_picture.specs.Kept.{Drawn}
use Rattle.vp_picture.proofs.Wholes.{pictured, fronts, joins_by}
use Rattle.vp_picture.proofs.joining.join_png.Goals as goal

pub returns-clause-exact : goal.returns-clause-exact
returns-clause-exact g c = λ text e f.
    let held = g.K.Sink.contents c.args.picture.now.output in
    let holds = g.K.Sink.contents c.join.new.writer.output in
    let image = c.join.new.writer.image in
    pictured text held holds image (λ t. c.args.picture.now.image ≡ None → Drawn held holds image t) (λ t h. h c.requires) c.join.result (c.join.ensures.exact text e f) c.join.ensures.awaits

pub returns-clause-joins : goal.returns-clause-joins
returns-clause-joins g c =
    let held = g.K.Sink.contents c.args.picture.now.output in
    let holds = g.K.Sink.contents c.join.new.writer.output in
    let image = c.join.new.writer.image in
    joins_by _ _ _ _ (λ t. c.args.picture.now.image ≡ None → Drawn held holds image t) _ _ _ (λ t h. fronts held holds image t (h c.requires)) c.join.ensures.joins
