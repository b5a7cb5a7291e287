use Rattle.std.proofs.Common.{ap, ◌∙◌, sym, nat_cmp}
use Rattle.std.specs.BTreeMap.{get}
use Rattle.std.specs.FinMap as map
use Rattle.std.specs.List.{list_any}
use Rattle.std.specs.Ordering.{eq_by_cmp}
use Rattle.std.specs.Option.{is_some}
use Rattle.heap_objects.proofs.NameLaws.{seen}
use Rattle.heap_objects.proofs.SymbolLaws.{numbers_are}
use Rattle.heap_objects.proofs.named.Named.numbers.Goals as goal

pub returns : goal.returns
returns c =
    let held = c.self.inside.held in
    numbers_are c.in_ok-numbers.numbers.items (λ n. map.get c.args.self.now n.0) (λ q. is_some (get nat_cmp held q))
    (rw c.in_ok-numbers.ensures.keys c.in_ok-numbers.ensures.ordered) (λ q. c.in_ok-numbers.ensures.all q ∙ ap (list_any (eq_by_cmp nat_cmp q)) (sym c.in_ok-numbers.ensures.keys))
    (λ n h. ap is_some (sym (seen held n.0) ∙ ap (λ m. map.get m n.0) c.self.view_is) ∙ h)
