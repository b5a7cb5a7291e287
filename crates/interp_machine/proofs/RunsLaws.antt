-- What a function ensures, where its definition goes on as another.
use Rattle.std.proofs.Common.{◌≡◌, ◌∙◌, Result, Ok, Err}
use Rattle.interp_machine.specs.Meaning.{Outcome, Runs}
use Rattle.interp_machine.specs.declared.machine.Machine.{Machine}
use Rattle.interp_machine.specs.declared.stop.Stop.{Stop}

pub runs_as : {A : Type 0} (o p : Outcome A) (result : Result A Stop) (new : Machine) → o ≡ p → Runs p result new → Runs o result new
runs_as o p (Ok a) new e runs = e ∙ runs
runs_as o p (Err x) new e runs = λ real. e ∙ runs real
