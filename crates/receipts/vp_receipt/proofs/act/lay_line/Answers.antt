use Rattle.std.proofs.Common.{◌≡◌, ◌<◌, ◌≤◌, ◌+◌, ◌-◌, ◌∙◌, ap, List, ℕ, length, take, drop, get_or, [], arith}
use Rattle.std.proofs.lemmas.Bool.{lt-ltb}
use Rattle.std.proofs.lemmas.List.{get_or-drop, get_or-take, length-drop, length-take}
use Rattle.vp_dots.specs.Dots.{dot}
use Rattle.vp_page.specs.declared.line.TheConstants.{LINE_DOTS}
use Rattle.vp_page.proofs.Pages.{lines_more, rows_make_an_image}
use Rattle.vp_receipt.specs.PageMarks.{mark_of}
use Rattle.vp_receipt.proofs.PageLines.{length_small}
use Rattle.vp_receipt_settings.specs.declared.text.TheConstants.{LINE_ROWS}
use Rattle.vp_receipt.proofs.act.lay_line.Goals as goal

pub returns-clause-laid : goal.returns-clause-laid
returns-clause-laid g c = λ dots layers rows page.
    let s = c.args.s.now in
    let bitmap = c.args.bitmap.now in
    let mark = mark_of s.page s.height dots in
    let low = drop (LINE_ROWS - s.height) bitmap in
    let lines = take s.height low in
    let high : s.height ≤ LINE_ROWS = c.requires.height in
    let long : length lines ≡ s.height = omega (arith, length-take s.height low, length-drop (LINE_ROWS - s.height) bitmap, c.lay.ensures.rows, high) in
    let are : (i : ℕ) → i < s.height → get_or lines i [] ≡ get_or bitmap (LINE_ROWS - s.height + i) [] = λ i h. get_or-take s.height low i [] h ∙ get_or-drop (LINE_ROWS - s.height) bitmap i [] in
    let short = length_small s.page.area s.page.direction c.requires.page.across c.requires.page.down in
    let first : s.page.vertical + 0 ≡ s.page.vertical = omega arith in
    rows_make_an_image.all mark (0 + s.height) layers _ (λ u w e k. let h = rows.high u w e in omega (arith, h)) (omega arith)
    (lines_more mark 0 s.height lines layers c.lay.new.page long
    (λ u w h l.
    let shown : u < LINE_DOTS = omega (arith, h, short) in
    let place : 0 + w ≡ w = omega arith in
    rw (lt-ltb u LINE_DOTS shown, place) (ap (λ (r : List ℕ). dot r u) (are w l) ∙ rows.same u w shown l))
    (rw first ((rw c.from-high.ensures at c.lay.ensures.laid) lines long are _ (rows_make_an_image.none mark layers c.args.page.now page))))
