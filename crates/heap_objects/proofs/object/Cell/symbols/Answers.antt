use Rattle.std.proofs.Common.{ap, ◌∙◌, arith}
use Rattle.heap_objects.specs.Names.{holding}
use Rattle.heap_objects.specs.State.{symbol_in}
use Rattle.heap_objects.proofs.SymbolLaws.{holding-end, holding-step, symbols_are}
use Rattle.heap_objects.proofs.object.Cell.symbols.Goals as goal

pub loop-number-preserved : goal.loop-number-preserved
loop-number-preserved c =
    holding-step (symbol_in c.args.self.now) c.deref-number-items.result.now c.loop-number.number-index c.loop-number.names.items c.push_if_held.new.names.items _ (omega arith)
    c.loop-number.invariant c.in_ok-push_if_held.ensures

pub returns : goal.returns
returns c =
    symbols_are (symbol_in c.args.self.now) c.in_ok-numbers.numbers.items c.loop-number.names.items c.in_ok-numbers.ensures
    (holding-end (symbol_in c.args.self.now) c.deref-number-items.result.now c.loop-number.number-index c.loop-number.names.items _ (omega arith) c.loop-number.invariant
    ∙ ap (holding (symbol_in c.args.self.now)) c.deref-number-items.ensures.value)
