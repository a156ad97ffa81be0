use Rattle.std.proofs.Common.{ℕ, ◌≡◌, ◌*◌, ◌/◌, ◌<◌, ◌≤◌, ◌-◌, length, take, drop, min, ap, ◌∙◌, arith}
use Rattle.std.proofs.lemmas.Bool.Decides.{nat_tests}
use Rattle.vp_receipt_settings.specs.Rasters.{bytes_after}
use Rattle.vp_receipt_settings.specs.Gathering.{IsPartRow, left_of}
use Rattle.vp_receipt_settings.specs.declared.raster.Raster.{Raster}
use Rattle.vp_receipt.specs.Standing.{IsOnPage}
use Rattle.vp_receipt.proofs.PageRows.{inside_on_page, rows_on_page, rest_on_page, rest_fits, Taken, taken}
use Rattle.vp_receipt.proofs.raster_page.take_rows.Goals as goal

-- the rows that the bytes have
rows_in : (r : Raster) (long n wide rows : ℕ) → IsPartRow r → (0 < long → r.got ≡ 0) → 0 < long → long ≤ left_of r → n ≡ min rows (long / wide) → rows ≡ r.rows → wide ≡ r.bytes → Taken r long n
rows_in r long n wide rows part begins some few count all is =
    taken r long n part (begins some) some few (count ∙ ap (λ m. min m (long / wide)) all ∙ ap (λ w. min r.rows (long / w)) is)

pub take_all-requires-clause-few : goal.take_all-requires-clause-few
take_all-requires-clause-few g c =
    grind (arith, rest_fits, rows_in, nat_tests, c.requires.part, c.requires.begins, c.is_empty.ensures, c.if-is_empty.false, c.requires.few, c.min-rows.ensures, c.from.ensures, c.from-wide.ensures, c.pass.ensures.value)

pub returns-clause-on_page : goal.returns-clause-on_page
returns-clause-on_page g c = λ setup before h.
    let r = c.args.raster.now in
    let bytes = c.args.bytes.now in
    let wide = c.from-wide.result in
    let is : wide ≡ r.bytes = c.from-wide.ensures in
    let n = c.min-rows.result in
    let some : 0 < length bytes = grind (arith, nat_tests, c.is_empty.ensures, c.if-is_empty.false) in
    let t = rows_in r (length bytes) n wide c.from.result c.requires.part c.requires.begins some c.requires.few c.min-rows.ensures c.from.ensures is in
    let front : IsOnPage setup (bytes_after (take (n * wide) bytes) before) c.after_row.result c.pass.new.self c.lay_rows.new.page =
    rw is (rows_on_page setup before c.args.s.now c.after_row.result r c.pass.new.self bytes n c.args.page.now c.lay_rows.new.page c.requires.fit.page.vertical
    c.requires.fit.page c.requires.part (c.requires.begins some) (omega (arith, c.min-rows.ensures, c.from.ensures)) t.bytes h
    (rw c.times_down.ensures.value at c.after_row.ensures.value) (c.pass.ensures.gathers bytes before h.raster t.bytes) (c.lay_rows.ensures _ h.page)) in
    rest_on_page setup before c.after_row.result c.take_all.new.self bytes (n * wide) c.lay_rows.new.page
    (inside_on_page setup (bytes_after (take (n * wide) bytes) before) c.after_row.result c.pass.new.self c.take_all.new.self (take (length bytes - n * wide) (drop (n * wide) bytes)) c.lay_rows.new.page
    (rest_fits r c.pass.new.self bytes n wide t is c.pass.ensures.value) front (c.take_all.ensures.gathers _ front.raster))

pub lay_rows-requires-clause-long : goal.lay_rows-requires-clause-long
lay_rows-requires-clause-long g c =
    (rows_in c.args.raster.now (length c.args.bytes.now) _ _ _ c.requires.part c.requires.begins (grind (arith, nat_tests, c.is_empty.ensures, c.if-is_empty.false)) c.requires.few c.min-rows.ensures c.from.ensures c.from-wide.ensures).bytes

pub pass-requires-clause-few : goal.pass-requires-clause-few
pass-requires-clause-few g c =
    (rows_in c.args.raster.now (length c.args.bytes.now) _ _ _ c.requires.part c.requires.begins (grind (arith, nat_tests, c.is_empty.ensures, c.if-is_empty.false)) c.requires.few c.min-rows.ensures c.from.ensures c.from-wide.ensures).few

pub overflow_mul-rows-2 : goal.overflow_mul-rows-2
overflow_mul-rows-2 g c = grind (arith, rows_in, nat_tests, c.from-wide.ensures, c.requires.part, c.requires.begins, c.is_empty.ensures, c.if-is_empty.false, c.requires.few, c.min-rows.ensures, c.from.ensures)

pub slice_bounds-take_all-count : goal.slice_bounds-take_all-count
slice_bounds-take_all-count g c =
    rw c.from-wide.ensures ((rows_in c.args.raster.now (length c.args.bytes.now) _ _ _ c.requires.part c.requires.begins (grind (arith, nat_tests, c.is_empty.ensures, c.if-is_empty.false)) c.requires.few c.min-rows.ensures c.from.ensures c.from-wide.ensures).bytes)
