-- What a kernel is seen as.
use Rattle.std.specs.Prelude.{ℕ, List, [], ◌∷◌, ◌++◌, Bool, false}
use Rattle.kernel_core.specs.declared.accepted.Accepted.{Accepted}

-- what it has accepted, first line first; the allowance of steps of a run that names none; and whether it has failed for
-- want of memory
pub record Held : Type 0 where
  pub log : List Accepted
  pub steps : ℕ
  pub failed : Bool

abbrev pub new_kernel : ℕ → Held
new_kernel steps = record { log = []; steps = steps; failed = false }

abbrev pub accepts : Held → Accepted → Held
accepts k line = record k { log = k.log ++ line ∷ [] }

-- a kernel that has not failed
abbrev pub running : List Accepted → ℕ → Held
running log steps = record { log = log; steps = steps; failed = false }
