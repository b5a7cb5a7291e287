use Rattle.std.proofs.Common.{ℕ, ap, sym}
use Rattle.py_block.specs.LevelViews.{place_at}
use Rattle.py_block.proofs.LevelSteps.{deeper}
use Rattle.py_block.proofs.level_steps.deepen.Goals as goal

pub returns : goal.returns
returns c =
    deeper c.args.levels.now
    (record { outers = c.push.new.self; place = record { deep = c.args.deep; body = c.body_within-body.result }; row = c.empty_row.result })
    c.args.done c.args.waiting c.body_within-body.result c.body_within-body.ensures c.in_ok-push.ensures.items
    (ap (λ (z : ℕ). place_at z c.body_within-body.result) (sym c.requires)) c.empty_row.ensures.same c.empty_row.ensures.numbers
