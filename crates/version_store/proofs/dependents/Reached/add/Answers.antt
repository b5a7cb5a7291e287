use Rattle.std.proofs.Common.{◌∙◌, ℕ, inl, refl, subst, sym, List}
use Rattle.std.specs.List.{Contains}
use Rattle.flow_base.specs.declared.numbers.RunNo.{RunNo}
use Rattle.version_store.proofs.PlaceSets.{is_in-Contains}
use Rattle.version_store.proofs.dependents.Reached.add.Goals as goal

pub returns-then-contains : goal.returns-then-contains
returns-then-contains c = inl (
  refl,
  subst (λ (ps : List (RunNo × ℕ)). Contains ps (c.args.run, c.args.place)) c.self.view_is
      (is_in-Contains c.self.inside.list.items (c.args.run, c.args.place) (sym (c.self.invariant (c.args.run, c.args.place)) ∙ sym c.contains.ensures ∙ c.if-contains.true)),
)
