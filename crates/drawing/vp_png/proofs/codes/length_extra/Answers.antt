use Rattle.std.proofs.Common.{arith, refl}
use Rattle.vp_png.specs.Codes.{row_of, extra_count, lengths}
use Rattle.vp_png.proofs.Tables.{same_from}
use Rattle.vp_png.proofs.codes.length_extra.Goals as goal

pub returns-in-0-to-10-clause-extra : goal.returns-in-0-to-10-clause-extra
unfolding extra_count row_of
returns-in-0-to-10-clause-extra c = same_from (extra_count lengths) 3 8 0 refl c.args.long (omega arith) (omega arith)

pub returns-in-11-to-18-clause-extra : goal.returns-in-11-to-18-clause-extra
unfolding extra_count row_of
returns-in-11-to-18-clause-extra c = same_from (extra_count lengths) 11 8 1 refl c.args.long (omega arith) (omega arith)

pub returns-in-19-to-34-clause-extra : goal.returns-in-19-to-34-clause-extra
unfolding extra_count row_of
returns-in-19-to-34-clause-extra c = same_from (extra_count lengths) 19 16 2 refl c.args.long (omega arith) (omega arith)

pub returns-in-35-to-66-clause-extra : goal.returns-in-35-to-66-clause-extra
unfolding extra_count row_of
returns-in-35-to-66-clause-extra c = same_from (extra_count lengths) 35 32 3 refl c.args.long (omega arith) (omega arith)

pub returns-in-67-to-130-clause-extra : goal.returns-in-67-to-130-clause-extra
unfolding extra_count row_of
returns-in-67-to-130-clause-extra c = same_from (extra_count lengths) 67 64 4 refl c.args.long (omega arith) (omega arith)

pub returns-in-131-to-257-clause-extra : goal.returns-in-131-to-257-clause-extra
unfolding extra_count row_of
returns-in-131-to-257-clause-extra c = same_from (extra_count lengths) 131 127 5 refl c.args.long (omega arith) (omega arith)

pub returns-in_default-clause-extra : goal.returns-in_default-clause-extra
unfolding extra_count row_of
returns-in_default-clause-extra c = same_from (extra_count lengths) 258 1 0 refl c.args.long (omega arith) (omega arith)
