use Rattle.std.proofs.Common.{refl}
use Rattle.vp_pdf417.proofs.pattern.patterns_are_of_their_cluster.Goals as goal

pub returns-clause-cluster_0 : goal.returns-clause-cluster_0
returns-clause-cluster_0 c = refl

pub returns-clause-cluster_3 : goal.returns-clause-cluster_3
returns-clause-cluster_3 c = refl

pub returns-clause-cluster_6 : goal.returns-clause-cluster_6
returns-clause-cluster_6 c = refl
