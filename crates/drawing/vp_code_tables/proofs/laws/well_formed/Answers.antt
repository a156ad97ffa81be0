use Rattle.vp_code_tables.proofs.Utf8Written.{whole, value, scalar, back}
use Rattle.vp_code_tables.proofs.laws.well_formed.Goals as goal

pub returns-clause-whole : goal.returns-clause-whole
returns-clause-whole c = whole

pub returns-clause-value : goal.returns-clause-value
returns-clause-value c = value

pub returns-clause-scalar : goal.returns-clause-scalar
returns-clause-scalar c = scalar

pub returns-clause-back : goal.returns-clause-back
returns-clause-back c = back
