-- In a history whose runs are lawful the places of each run ascend.
use Rattle.std.proofs.Common.{zero, suc, ◌<◌, ◌≤◌, [], length, sym, subst, ⊎_elim}
use Rattle.std.proofs.lemmas.Bool.{cases_lt}
use Rattle.std.proofs.lemmas.List.{get_or_past}
use Rattle.trace_events.specs.Lawful.{AllLawful, IsLawful}
use Rattle.trace_events.specs.Trace.{Summary}
use Rattle.trace_events.specs.History.{History}
use Rattle.trace_events.proofs.Ancestors.{IsAscending}

-- what stands for a run that is not there
abbrev no_summary : Summary
no_summary = record { reads = []; writes = [] }

pub ascends : (h : History) → AllLawful h → IsAscending h
ascends h a zero = tt
ascends h a (suc n) = ⊎_elim
    (λ (lt : n < length h). a n no_summary lt)
    (λ (le : length h ≤ n). subst (λ (s : Summary). IsLawful s) (sym (get_or_past h n no_summary le)) tt)
    (cases_lt n (length h))
