use Rattle.std.proofs.Common.{inr, ◌-◌, ◌++◌, sym, ap, ◌∙◌, arith, get_or}
use Rattle.std.proofs.lemmas.List.{get_or_append_left, get_or-replicate}
use Rattle.vp_glyph.specs.Halves.{half_dot}
use Rattle.vp_label_size.specs.declared.TheConstants.{BAND_ROWS}
use Rattle.vp_field.specs.Axes.{read_at}
use Rattle.vp_field.proofs.Handing.{handed_many, handed_rest, get_front, get_behind}
use Rattle.vp_field.proofs.block_columns.paint_two.Goals as goal

pub returns-in-Some-clause-painted : goal.returns-in-Some-clause-painted
returns-in-Some-clause-painted g c =
    let x = c.args.left.x in
    let now = c.args.left.columns.now in
    let left = c.args.rest.now.left.now in
    let next = c.in-Some.ensures.handed in
    c.paint_square.ensures (λ d k. half_dot (get_or (now ++ left) (d - x) 0) (read_at c.args.rows BAND_ROWS k))
    (λ i k l h m. ap (λ n. half_dot n (read_at c.args.rows BAND_ROWS k)) (sym (get_front now left x i c.requires.whole l)))
    (λ i k l h m. ap (λ n. half_dot n (read_at c.args.rows BAND_ROWS k)) (sym (get_or_append_left c.in-Some.right.columns.now c.next.new.self.left.now 0 i (omega (arith, l, next.1))) ∙ ap (λ xs. get_or xs i 0) (sym next.2) ∙ sym (get_behind now left x i c.requires.whole)))

pub returns-in-Some-clause-rest : goal.returns-in-Some-clause-rest
returns-in-Some-clause-rest g c =
    let next = c.in-Some.ensures.handed in
    let many = handed_many c.args.rest.now.left.now c.in-Some.right.columns.now c.next.new.self.left.now next.2 in
    inr (next.3, omega (arith, many, next.1), sym (handed_rest 64 _ _ _ next.1 next.2))

pub returns-in-None-clause-painted : goal.returns-in-None-clause-painted
returns-in-None-clause-painted g c =
    let x = c.args.left.x in
    let now = c.args.left.columns.now in
    let left = c.args.rest.now.left.now in
    c.paint_square-in-None.ensures (λ d k. half_dot (get_or (now ++ left) (d - x) 0) (read_at c.args.rows BAND_ROWS k))
    (λ i k l h m. ap (λ n. half_dot n (read_at c.args.rows BAND_ROWS k)) (sym (get_front now left x i c.requires.whole l)))
    (λ i k l h m. ap (λ n. half_dot n (read_at c.args.rows BAND_ROWS k)) (get_or-replicate 64 i 0 0 l ∙ sym (get_behind now left x i c.requires.whole ∙ ap (λ xs. get_or xs i 0) c.in-None.ensures.handed.1)))
