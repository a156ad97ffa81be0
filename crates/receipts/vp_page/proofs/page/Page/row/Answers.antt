use Rattle.std.proofs.Common.{◌≡◌, arith, ap, ◌∙◌, take, List, [], get_or}
use Rattle.vp_page.specs.declared.page.TheConstants.{PAPER_BYTES}
use Rattle.vp_dots.specs.Dots.{dot}
use Rattle.vp_dots.specs.Images.{row_of}
use Rattle.vp_page.specs.Layers.{Layer, page_dot}
use Rattle.vp_page.specs.Pages.{HasPage, IsShown, Paged}
use Rattle.vp_page.proofs.Pages.{shown_dot}
use Rattle.vp_page.proofs.Rows.{take-row_of}
use Rattle.vp_page.proofs.page.Page.row.Goals as goal

pub returns : goal.returns
returns g c =
    let whole : (layers : List Layer) → HasPage layers c.args.self.now → IsShown c.args.self.now → c.row-row.result.now ≡ row_of PAPER_BYTES (λ x. page_dot layers x c.args.y) = λ layers page shown.
    c.dots_decide.ensures.row PAPER_BYTES (λ x. page_dot layers x c.args.y) c.row-row.ensures.len
    (λ d h. ap (λ row. dot row d) (c.row-row.ensures.value ∙ ap (λ (p : Paged). get_or p.rows c.args.y []) c.self.view_is) ∙ shown_dot layers c.args.self.now d c.args.y page shown (omega arith) c.requires)
    in record {
      value = c.row-row.ensures.value ∙ ap (λ (p : Paged). get_or p.rows c.args.y []) c.self.view_is;
      len = c.row-row.ensures.len;
      bytes = whole;
      left = λ layers n page shown h. ap (take n) (whole layers page shown) ∙ take-row_of n PAPER_BYTES (λ x. page_dot layers x c.args.y) h;
    }
