use Rattle.std.proofs.Common.{◌+◌, pos, arith}
use Rattle.vp_qr.specs.Inks.{side, ink_of}
use Rattle.vp_field.specs.Contents.{bytes_of, qr_side, qr_dot}
use Rattle.vp_field.specs.Views.{seen_x, seen_y}
use Rattle.vp_field.proofs.Shown.{qr_standing}
use Rattle.vp_field.proofs.OnLabel.{shown_same}
use Rattle.vp_field.proofs.field.paint_qr.Goals as goal

pub returns-clause-dots : goal.returns-clause-dots
returns-clause-dots g c sheets =
    let a = c.args in
    let q = a.symbol in
    let bytes = bytes_of a.stored.now q.bytes in
    let s = c.drawn_symbol-modules.result in
    let same = c.drawn_symbol-modules.ensures.drawn in
    shown_same _ a.on.op _ _ a.band.now _ (λ x k l h. qr_standing a.on.left a.on.top a.on.orientation (side s) (qr_side q.level q.mode bytes q.module) (ink_of s) (qr_dot q.level q.mode bytes q.module) same.side same.ink
    (seen_x a.on.view (pos x)) (seen_y a.on.view (pos (a.first + k)))) c.paint_standing.ensures.dots

pub returns-clause-counted : goal.returns-clause-counted
returns-clause-counted g c sheets = grind (arith, qr_standing)
