use Rattle.std.proofs.Common.{◌≡◌, [], Err, ap}
use Rattle.vp_engine.specs.Offsets.{placed_line}
use Rattle.vp_engine.specs.Setups.{ListingWithOffsets, line}
use Rattle.vp_engine.specs.declared.session.RunFault.TheVariants.{Print}
use Rattle.vp_engine.proofs.Listings.{lists_all, lists_some}
use Rattle.vp_engine.proofs.listing_with_offsets.list_with_offsets.Goals as goal

pub lines-requires : goal.lines-requires
lines-requires g c = (c.in-Ok.ensures.pumps (ListingWithOffsets c.args.language) [] [] c.listing_with_offsets-session.ensures).answer.none_left

pub returns-in-Ok-clause-lists : goal.returns-in-Ok-clause-lists
returns-in-Ok-clause-lists g c =
    let setup = ListingWithOffsets c.args.language in
    let p = c.in-Ok.ensures.pumps setup [] [] c.listing_with_offsets-session.ensures in
    lists_all setup (placed_line (line c.args.language)) _ _ _ _ _ (c.paper_grows.ensures setup) c.in-Ok.field-0 c.lines.result p (c.a_listing_is_its_lines.ensures.with_offsets c.args.language) (c.lines.ensures setup p.reaches.read p.reaches.accepted p.reaches.at)

pub returns-clause-lists : goal.returns-clause-lists
returns-clause-lists g c =
    let setup = ListingWithOffsets c.args.language in
    lists_some setup (placed_line (line c.args.language)) _ _ _ _ _ (c.paper_grows.ensures setup) c.in-Err.fault (c.in-Err.ensures.pumps setup [] [] c.listing_with_offsets-session.ensures)

pub returns-clause-at_end : goal.returns-clause-at_end
returns-clause-at_end g c f after e end =
    let same : c.in-Err.fault ≡ Print f after = cc in
    c.in-Err.ensures.at_end f after (ap Err same) end

pub returns-in-Ok-clause-at_end : goal.returns-in-Ok-clause-at_end
returns-in-Ok-clause-at_end g c f after e end = cc
