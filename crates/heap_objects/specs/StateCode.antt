-- The code of a state, by which a proof tells two states apart.
use Rattle.std.specs.Prelude.{ℕ, List, refl}
use Rattle.std.specs.Coded.{Coded, code_by, coded×, coded_ℕ, coded_list}
use Rattle.flow_base.specs.contracts.event.Event as event
use Rattle.flow_base.specs.contracts.numbers.RunNo as run
use Rattle.flow_base.specs.declared.event.Event.{Event}
use Rattle.flow_base.specs.declared.numbers.RunNo.{RunNo}
use Rattle.heap_objects.specs.State.{State}
use Rattle.heap_objects.specs.contracts.object.Node as node
use Rattle.heap_objects.specs.declared.object.Node.{Node}

abbrev pub state_code : Coded State
state_code =
    code_by (List Node × (List Event × (RunNo × List (RunNo × ℕ))))
    (coded× (coded_list node.the_row.coded) (coded× (coded_list event.the_row.coded) (coded× run.the_row.coded (coded_list (coded× run.the_row.coded coded_ℕ)))))
    (λ s. (s.nodes, (s.events, (s.run, s.starts)))) (λ p. record { nodes = p.0; events = p.1.0; run = p.1.1.0; starts = p.1.1.1 }) (λ _. refl)
