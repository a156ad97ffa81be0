use Rattle.std.proofs.Common.{◌≡◌, [], Err, ap}
use Rattle.vp_engine.specs.Setups.{Listing, line}
use Rattle.vp_engine.specs.declared.session.RunFault.TheVariants.{Print}
use Rattle.vp_engine.proofs.Listings.{lists_all, lists_some}
use Rattle.vp_engine.proofs.listing.list.Goals as goal

pub lines-requires : goal.lines-requires
lines-requires g c = (c.in-Ok.ensures.pumps (Listing c.args.language) [] [] c.listing-session.ensures).answer.none_left

pub returns-in-Ok-clause-lists : goal.returns-in-Ok-clause-lists
returns-in-Ok-clause-lists g c =
    let setup = Listing c.args.language in
    let p = c.in-Ok.ensures.pumps setup [] [] c.listing-session.ensures in
    lists_all setup (line c.args.language) _ _ _ _ _ (c.paper_grows.ensures setup) c.in-Ok.field-0 c.lines.result p (c.a_listing_is_its_lines.ensures.alone c.args.language) (c.lines.ensures setup p.reaches.read p.reaches.accepted p.reaches.at)

pub returns-clause-lists : goal.returns-clause-lists
returns-clause-lists g c =
    let setup = Listing c.args.language in
    lists_some setup (line c.args.language) _ _ _ _ _ (c.paper_grows.ensures setup) c.in-Err.fault (c.in-Err.ensures.pumps setup [] [] c.listing-session.ensures)

pub returns-clause-at_end : goal.returns-clause-at_end
returns-clause-at_end g c f after e end =
    let same : c.in-Err.fault ≡ Print f after = cc in
    c.in-Err.ensures.at_end f after (ap Err same) end

pub returns-in-Ok-clause-at_end : goal.returns-in-Ok-clause-at_end
returns-in-Ok-clause-at_end g c f after e end = cc
