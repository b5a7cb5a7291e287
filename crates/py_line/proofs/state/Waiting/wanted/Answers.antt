use Rattle.std.proofs.Common.{◌≡◌, ◌-◌, length, slice_get, Some, sym, subst, ◌∙◌}
use Rattle.py_line.specs.States.{goal_of, all_waiting}
use Rattle.py_line.proofs.Rungs.{wanted_got}
use Rattle.py_line.proofs.state.Waiting.wanted.Goals as goal

pub returns-in-Some : goal.returns-in-Some
returns-in-Some c =
    c.waits.ensures
    ∙ sym (wanted_got (goal_of c.args.self.now) (all_waiting c.args.self.now) c.in-Some.frame.now
    (subst (λ fs. slice_get fs (length fs - 1) ≡ Some c.in-Some.frame.now) c.deref.ensures.value (sym c.in-Some.ensures.value)))
