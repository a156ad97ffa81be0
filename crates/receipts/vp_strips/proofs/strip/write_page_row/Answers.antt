use Rattle.std.proofs.Common.{◌≡◌, ℕ, length, ap, arith, ◌∙◌, get_or, []}
use Rattle.std.proofs.lemmas.Bool.{le-ltb}
use Rattle.std.proofs.lemmas.List.{length-replicate}
use Rattle.vp_page.specs.declared.page.TheConstants.{PAGE_ROWS, PAPER_BYTES}
use Rattle.vp_strips.specs.Jobs.{page_dot_of}
use Rattle.vp_strips.proofs.Bitmaps.{dot_white}
use Rattle.vp_strips.proofs.ManyRows.{whole_row}
use Rattle.vp_strips.proofs.strip.write_page_row.Goals as goal

pub returns-then-y-lt-PAGE_ROWS : goal.returns-then-y-lt-PAGE_ROWS
returns-then-y-lt-PAGE_ROWS g c =
    let new = c.copy_from_slice.new.self in
    let same : new ≡ get_or c.args.page.now.rows c.args.y [] = c.copy_from_slice.ensures.after ∙ c.row.ensures.value in
    let long : length new ≡ PAPER_BYTES = ap length c.copy_from_slice.ensures.after ∙ c.row.ensures.len in
    c.dots_decide.ensures.row PAPER_BYTES (λ x. page_dot_of c.args.page.now.rows x c.args.y) long (λ d h. whole_row new _ d c.args.y same (omega arith) c.if-y-lt-PAGE_ROWS.true)

pub returns : goal.returns
returns g c = c.dots_decide-2.ensures.row PAPER_BYTES (λ x. page_dot_of c.args.page.now.rows x c.args.y) (length-replicate {A = ℕ} PAPER_BYTES 0)
    (λ d h. rw (le-ltb c.args.y PAGE_ROWS c.if-y-lt-PAGE_ROWS.false) (dot_white PAPER_BYTES d (omega arith)))
