use Rattle.std.proofs.Common.{◌≡◌, ◌++◌, ◌∷◌, [], None, Some, length, ap, sym, ◌∙◌, arith, rules}
use Rattle.std.proofs.lemmas.Grind.{common_steps}
use Rattle.flow_base.specs.Names.{symbol_of}
use Rattle.flow_base.proofs.NamesTable.{IsIndex-push, IsIndex-same, symbol_of-pushed, sym_at}
use Rattle.flow_base.proofs.names.Names.add.Goals.{in-Ok, in-Err}
use Rattle.flow_base.proofs.names.Names.add.Goals as goal

pub invariant_of-self-in-Ok : goal.invariant_of-self-in-Ok
invariant_of-self-in-Ok c =
    let absent : symbol_of c.self.inside.texts.items c.args.t.now ≡ None = ap (λ l. symbol_of l c.args.t.now) c.self.view_is ∙ c.requires in
    let place : c.len.result ≡ length c.self.inside.texts.items = grind (arith, common_steps) in
    let more : c.push.new.self.items ≡ c.self.inside.texts.items ++ c.args.t.now ∷ [] = grind (arith, common_steps) in
    IsIndex-push c.self.inside.symbols _ c.self.inside.texts.items _ c.in_ok-key.key _ c.args.t.now c.self.invariant absent (c.in_ok-key.ensures.items ∙ c.as_slice.ensures) (ap sym_at place) more c.in-Ok.ensures.entries

pub invariant_of-self-in-Err : goal.invariant_of-self-in-Err
invariant_of-self-in-Err c =
    let same : c.pop.new.self.items ≡ c.self.inside.texts.items = grind (arith, common_steps) in
    IsIndex-same c.self.inside.symbols _ c.self.inside.texts.items _ c.self.invariant same c.in-Err.ensures.err

pub returns-clause-symbol : goal.returns-clause-symbol
returns-clause-symbol c =
    let absent : symbol_of c.self.inside.texts.items c.args.t.now ≡ None = ap (λ l. symbol_of l c.args.t.now) c.self.view_is ∙ c.requires in
    let place : c.len.result ≡ length c.self.inside.texts.items = grind (arith, common_steps) in
    let more : c.push.new.self.items ≡ c.self.inside.texts.items ++ c.args.t.now ∷ [] = grind (arith, common_steps) in
    elim c.match-insert.branch [
      | in-Ok w ↦ rw (w.result-is, w.self-is, more) (symbol_of-pushed c.self.inside.texts.items c.args.t.now absent ∙ ap (λ n. Some (sym_at n)) (sym place))
      | in-Err w ↦ rw w.result-is (search rules)
    ]
