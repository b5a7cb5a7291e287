use Rattle.std.proofs.Common.{ap, sym, ◌∙◌}
use Rattle.heap_objects.specs.Names.{with_name}
use Rattle.heap_objects.proofs.NameLaws.{inserted, removed}
use Rattle.heap_objects.proofs.named.Named.set.Goals as goal

pub returns-in_ok-insert-in-Some : goal.returns-in_ok-insert-in-Some
returns-in_ok-insert-in-Some c =
    inserted c.self.inside.held c.insert.new.self c.args.self.now c.args.name.0 c.in-Some.v c.self.view_is c.in_ok-insert-in-Some.ensures.updates
    ∙ ap (with_name c.args.self.now c.args.name) (sym c.in-Some.is)

pub returns-in-None : goal.returns-in-None
returns-in-None c =
    removed c.self.inside.held c.remove.new.self c.args.self.now c.args.name.0 c.self.view_is c.remove.ensures.updates
    ∙ ap (with_name c.args.self.now c.args.name) (sym c.in-None.is)
