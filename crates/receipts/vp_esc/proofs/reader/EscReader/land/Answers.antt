use Rattle.std.proofs.Common.{◌≡◌, ◌≢◌, length, sym, ◌∙◌}
use Rattle.vp_esc.specs.declared.reader.Phase.TheVariants as phases
use Rattle.vp_esc.specs.Command.{head_len, plain_len}
use Rattle.vp_esc.proofs.Phases.{land_arguments, land_plain, land_stops}
use Rattle.vp_esc.proofs.Kept.{lands_giving}
use Rattle.vp_esc.proofs.reader.EscReader.land.Goals as goal

pub returns-then-args-head_len : goal.returns-then-args-head_len
returns-then-args-head_len c rest begun few =
    let differs : length c.as_slice-args.result.now ≢ head_len c.args.command c.as_slice-args.result.now =
    λ e. c.if-args-head_len.true (e ∙ sym c.head_len.ensures) in
    let other : length c.args.self.now.kept.items ≢ head_len c.args.command c.args.self.now.kept.items =
    rw c.as_slice-args.ensures.value at differs in
    land_arguments c.args.self.now c.args.command rest begun few other

pub returns-in-Plain : goal.returns-in-Plain
returns-in-Plain c rest begun few =
    let enough : length c.args.self.now.kept.items ≡ plain_len c.in-Plain.plain c.args.self.now.kept.items =
    rw (c.as_slice-args.ensures.value, c.in-Plain.is) at (c.if-args-head_len.false ∙ c.head_len.ensures) in
    lands_giving (record c.args.self.now { phase = phases.Ground }) c.write.new.item
    (land_plain c.args.self.now c.in-Plain.plain rest _ (rw c.in-Plain.is at begun) enough (rw c.as_slice-args.ensures.value at c.write.ensures))

pub returns-in-TabStops : goal.returns-in-TabStops
returns-in-TabStops c rest begun few =
    land_stops c.args.self.now rest (rw c.in-TabStops.is at begun) (rw c.in-TabStops.is at few)

pub returns-in-Columns : goal.returns-in-Columns
returns-in-Columns c rest begun few = c.columns_head.ensures rest (rw c.in-Columns.is at begun)

pub returns-in-Raster : goal.returns-in-Raster
returns-in-Raster c rest begun few = c.raster_head.ensures rest (rw c.in-Raster.is at begun)

pub returns-in-Symbol : goal.returns-in-Symbol
returns-in-Symbol c rest begun few = c.symbol_head.ensures rest (rw c.in-Symbol.is at begun)

pub returns-in-Function : goal.returns-in-Function
returns-in-Function c rest begun few = c.function_head.ensures rest (rw c.in-Function.is at begun)

pub returns-in-Graphics : goal.returns-in-Graphics
returns-in-Graphics c rest begun few = c.graphics_head.ensures rest (rw c.in-Graphics.is at begun)

pub returns-in-ReadPast : goal.returns-in-ReadPast
returns-in-ReadPast c rest begun few = c.past_head.ensures rest (rw c.in-ReadPast.is at begun)
