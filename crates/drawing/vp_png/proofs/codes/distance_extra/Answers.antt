use Rattle.std.proofs.Common.{arith, refl}
use Rattle.vp_png.specs.Codes.{row_of, extra_count, distances}
use Rattle.vp_png.proofs.Tables.{same_from}
use Rattle.vp_png.proofs.codes.distance_extra.Goals as goal

pub returns-in-0-to-4-clause-extra : goal.returns-in-0-to-4-clause-extra
unfolding extra_count row_of
returns-in-0-to-4-clause-extra c = same_from (extra_count distances) 1 4 0 refl c.args.distance (omega arith) (omega arith)

pub returns-in-5-to-8-clause-extra : goal.returns-in-5-to-8-clause-extra
unfolding extra_count row_of
returns-in-5-to-8-clause-extra c = same_from (extra_count distances) 5 4 1 refl c.args.distance (omega arith) (omega arith)

pub returns-in-9-to-16-clause-extra : goal.returns-in-9-to-16-clause-extra
unfolding extra_count row_of
returns-in-9-to-16-clause-extra c = same_from (extra_count distances) 9 8 2 refl c.args.distance (omega arith) (omega arith)

pub returns-in-17-to-32-clause-extra : goal.returns-in-17-to-32-clause-extra
unfolding extra_count row_of
returns-in-17-to-32-clause-extra c = same_from (extra_count distances) 17 16 3 refl c.args.distance (omega arith) (omega arith)

pub returns-in-33-to-64-clause-extra : goal.returns-in-33-to-64-clause-extra
unfolding extra_count row_of
returns-in-33-to-64-clause-extra c = same_from (extra_count distances) 33 32 4 refl c.args.distance (omega arith) (omega arith)

pub returns-in-65-to-128-clause-extra : goal.returns-in-65-to-128-clause-extra
unfolding extra_count row_of
returns-in-65-to-128-clause-extra c = same_from (extra_count distances) 65 64 5 refl c.args.distance (omega arith) (omega arith)

pub returns-in_default-clause-extra : goal.returns-in_default-clause-extra
unfolding extra_count row_of
returns-in_default-clause-extra c = same_from (extra_count distances) 129 128 6 refl c.args.distance (omega arith) (omega arith)
