use Rattle.std.proofs.Common.{◌≡◌, ◌≤◌, ◌*◌, ◌/◌, ◌+◌, ◌-◌, ◌<◌, ℕ, true, length, take, min, sym, subst, arith}
use Rattle.std.proofs.Math.Nat.{div-mul-le_self}
use Rattle.vp_receipt_settings.specs.Gathering.{IsGathering, left_of, room_of}
use Rattle.vp_receipt_settings.specs.Rasters.{bytes_after}
use Rattle.vp_receipt_settings.specs.declared.raster.Raster.{Raster}
use Rattle.vp_receipt_settings.specs.declared.settings.Settings.{Settings}
use Rattle.vp_receipt.specs.Plain.{is_plain}
use Rattle.vp_receipt.proofs.PageRows.{Taken, rest_fits, rest_whole}
use Rattle.vp_receipt.proofs.PlainRows.{told, rows_on_paper}
use Rattle.vp_receipt.proofs.raster_paper.put_plain.Goals as goal

-- what the code counts
record Counts (r : Raster) (long output wide n : ℕ) : Type 0 where
  pub taken : Taken r long n
  pub whole : n * wide ≡ long / r.bytes * r.bytes
  pub at : n * wide ≡ n * r.bytes
  pub within : n * wide ≤ long
  pub fits : n * wide ≤ output
  pub some : 0 < wide

counts : (s : Settings) (r : Raster) (long output wide n rows : ℕ) → is_plain s r ≡ true → long ≤ min (left_of r) (output / r.bytes * r.bytes + (r.bytes - 1)) → wide ≡ r.bytes → rows ≡ r.rows → n ≡ min rows (long / wide)
    → Counts r long output wide n
counts s r long output wide n rows plain few is all n_is = grind (arith, told, div-mul-le_self, few, is)

pub returns-clause-on_paper : goal.returns-clause-on_paper
returns-clause-on_paper c = λ setup before e g.
    let bytes = c.args.bytes.now in
    let r = c.args.raster.now in
    let wide = c.from-wide.result in
    let n = c.min-rows.result in
    let end = n * wide in
    let k = counts c.args.s.now r (length bytes) (length c.args.output.now) wide n c.from.result c.requires.plain c.requires.few c.from-wide.ensures c.from.ensures c.min-rows.ensures in
    let passed : IsGathering c.pass.new.self (bytes_after (take end bytes) before) =
    subst (λ m. IsGathering c.pass.new.self (bytes_after (take m bytes) before)) (sym k.at) (c.pass.ensures.gathers bytes before g k.taken.bytes) in
    let rest = rest_whole bytes end in
    rows_on_paper setup before c.args.s.now r c.pass.new.self c.after_row.result c.take_all.new.self bytes n end (λ i. omega (arith, c.type_inv.bytes i)) c.requires.fit.page.vertical
    c.requires.part (told c.args.s.now r c.requires.plain) k.taken k.at e g c.after_row.ensures.value passed
    (subst (λ xs. length xs ≤ room_of c.pass.new.self) rest (rest_fits r c.pass.new.self bytes n wide k.taken c.from-wide.ensures c.pass.ensures.value))
    (subst (λ xs. IsGathering c.take_all.new.self (bytes_after xs (bytes_after (take end bytes) before))) rest (c.take_all.ensures.gathers _ passed))

pub returns-clause-count : goal.returns-clause-count
returns-clause-count c = (counts c.args.s.now c.args.raster.now (length c.args.bytes.now) (length c.args.output.now) c.from-wide.result c.min-rows.result c.from.result c.requires.plain c.requires.few c.from-wide.ensures c.from.ensures c.min-rows.ensures).whole

pub returns-clause-fits : goal.returns-clause-fits
returns-clause-fits c = (counts c.args.s.now c.args.raster.now (length c.args.bytes.now) (length c.args.output.now) c.from-wide.result c.min-rows.result c.from.result c.requires.plain c.requires.few c.from-wide.ensures c.from.ensures c.min-rows.ensures).fits

pub slice_bounds-copy_from_slice-end : goal.slice_bounds-copy_from_slice-end
slice_bounds-copy_from_slice-end c = (counts c.args.s.now c.args.raster.now (length c.args.bytes.now) (length c.args.output.now) c.from-wide.result c.min-rows.result c.from.result c.requires.plain c.requires.few c.from-wide.ensures c.from.ensures c.min-rows.ensures).fits
