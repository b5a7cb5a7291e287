use Rattle.flow_base.proofs.SameLaws.{same_key_true, same_loc_true, true_same_key, true_same_loc}
use Rattle.flow_base.proofs.loc.same_law.Goals as goal

pub returns-clause-keys : goal.returns-clause-keys
returns-clause-keys c = λ a b. (same_key_true a b, true_same_key a b)

pub returns-clause-locations : goal.returns-clause-locations
returns-clause-locations c = λ a b. (same_loc_true a b, true_same_loc a b)
