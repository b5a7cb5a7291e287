use Rattle.interp_ops.proofs.IdentityLaws.{identical_same, same_identical}
use Rattle.interp_ops.proofs.laws.identity_law.Goals as goal

pub returns : goal.returns
returns c = λ a b. (identical_same a b, same_identical a b)
