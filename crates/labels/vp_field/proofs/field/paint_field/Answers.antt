use Rattle.vp_field.specs.Fields.{stroke_of}
use Rattle.vp_field.proofs.White.{shows_more}
use Rattle.vp_field.proofs.field.paint_field.Goals as goal

pub returns-clause-shows : goal.returns-clause-shows
returns-clause-shows g c = shows_more c.args.view c.args.first (stroke_of c.args.sheets.now c.args.stored.now c.args.field.now) c.args.band.now _ c.paint_content.ensures.dots
