use Rattle.std.proofs.Common.{rules, nat_le, ap, ◌∙◌}
use Rattle.std.specs.List.{filter}
use Rattle.std.proofs.lemmas.Fn.{filter_same}
use Rattle.py_layout.proofs.stack.Stack.pop_above.Goals as goal

pub returns : goal.returns
returns c =
    filter_same _ (λ v. nat_le v c.args.width) _ (λ x b f k. search rules) _ _ c.retain.ensures.filtered ∙ ap (filter (λ v. nat_le v c.args.width)) c.self.view_is
