use Rattle.std.proofs.Common.{sym, subst, refl, ◌∙◌, arith}
use Rattle.vp_field.specs.declared.sized.SizedContent.{SizedContent}
use Rattle.vp_closing.specs.Contents.{IsShown}
use Rattle.vp_closing.specs.Matrices.{matrix_made}
use Rattle.vp_closing.proofs.Matrices.{is_asked, is_shown}
use Rattle.vp_closing.proofs.Stored.{no_sheets}
use Rattle.vp_closing.proofs.matrix.matrix_content.Goals as goal

pub returns-clause-value : goal.returns-clause-value
returns-clause-value c = λ sheets.
    let a = c.args in
    let e = c.in_ok-matrix.ensures in
    is_asked a.stored.now a.defaults a.asked a.bytes c.bytes_of-src.result.now c.code_of.result c.escape_of.result c.columns-columns.result c.rows-rows.result _
    c.bytes_of-src.ensures c.code_of.ensures c.escape_of.ensures e.accepted (c.columns-columns.ensures.columns ∙ e.symbol.columns_are) (c.rows-rows.ensures.rows ∙ e.symbol.rows_are) refl
    sheets c.matrix.result _ _ _ refl (omega (arith, c.if-len-stored.false, c.requires.few)) c.wide_of.ensures.value c.high_of.ensures.value (c.matrix.ensures sheets a.stored.now)

pub returns-clause-shown : goal.returns-clause-shown
returns-clause-shown c =
    let a = c.args in
    let e = c.in_ok-matrix.ensures in
    subst (λ (x : SizedContent). IsShown a.stored.now (matrix_made a.stored.now a.asked a.bytes) x.content) (sym (c.matrix.ensures no_sheets a.stored.now))
    (is_shown a.stored.now a.defaults a.asked a.bytes c.bytes_of-src.result.now c.code_of.result c.escape_of.result c.columns-columns.result c.rows-rows.result _
    c.bytes_of-src.ensures c.code_of.ensures c.escape_of.ensures e.accepted (c.columns-columns.ensures.columns ∙ e.symbol.columns_are) (c.rows-rows.ensures.rows ∙ e.symbol.rows_are) refl
    _ _ _ refl (omega (arith, c.if-len-stored.false, c.requires.few)) c.wide_of.ensures.some c.wide_of.ensures.most c.high_of.ensures.some c.high_of.ensures.most)
