use Rattle.std.proofs.Common.{◌+◌, ◌∙◌, pos}
use Rattle.vp_field.specs.Contents.{bytes_of}
use Rattle.vp_field.specs.Views.{seen_x, seen_y}
use Rattle.vp_field.proofs.Matrices.{matrix_standing}
use Rattle.vp_field.proofs.OnLabel.{shown_same}
use Rattle.vp_field.proofs.matrix.paint_matrix.Goals as goal

pub returns-clause-dots : goal.returns-clause-dots
returns-clause-dots g c sheets =
    let a = c.args in
    let r = c.requires.symbol in
    shown_same _ a.on.op _ _ a.band.now _
    (λ x k l h. matrix_standing a.symbol (bytes_of a.stored.now a.symbol.modules) r.wide_some r.high_some
    a.on.left a.on.top a.on.orientation (seen_x a.on.view (pos x)) (seen_y a.on.view (pos (a.first + k)))) (rw c.bytes_of.ensures at c.paint_standing.ensures.dots)

pub returns-clause-counted : goal.returns-clause-counted
returns-clause-counted g c sheets =
    let a = c.args in
    let r = c.requires.symbol in
    λ x k h e. (rw c.bytes_of.ensures at c.paint_standing.ensures.counted) x k h
    (matrix_standing a.symbol (bytes_of a.stored.now a.symbol.modules) r.wide_some r.high_some
    a.on.left a.on.top a.on.orientation (seen_x a.on.view (pos x)) (seen_y a.on.view (pos (a.first + k))) ∙ e)
