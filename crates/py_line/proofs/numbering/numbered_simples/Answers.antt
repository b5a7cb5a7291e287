use Rattle.std.proofs.Common.{◌≡◌, ◌+◌, ◌<◌, ◌∷◌, length, drop, ap, sym, ◌∙◌, arith}
use Rattle.std.proofs.lemmas.List.{drop_more}
use Rattle.py_ast.specs.Nodes.{count_from, nodes_of_stmt}
use Rattle.py_ast.specs.Statement.{view_stmt}
use Rattle.py_line.specs.Numbers.{size_of_statement, size_of_statements}
use Rattle.py_line.specs.Form.{raw_simple_of, raw_simples_of}
use Rattle.py_line.proofs.NumberRuns.{counted_more, same_more}
use Rattle.py_line.proofs.numbering.numbered_simples.Goals as goal

pub loop-s-preserved : goal.loop-s-preserved
loop-s-preserved c =
    let i = c.loop-s.s-index in
    let all = c.args.all.now in
    let x = c.s-item.result in
    let inside : i < length all = omega arith in
    let head : drop i all ≡ x ∷ drop (i + 1) all = drop_more all i x inside ∙ ap (λ z. z ∷ drop (i + 1) all) (sym c.s-item.is) in
    let next : c.in_ok-one.after ≡ c.loop-s.at + size_of_statement (raw_simple_of x) = c.in_ok-one.ensures.after in
    let at : c.loop-s.at + size_of_statements (raw_simples_of (x ∷ drop (i + 1) all)) ≡ c.args.next + size_of_statements (raw_simples_of all) = rw head at c.loop-s.invariant.after in
    rw c.in_ok-push.ensures.items (record {
      same = same_more view_stmt c.loop-s.done.items c.in_ok-one.one (raw_simple_of x) (raw_simples_of (drop (i + 1) all)) (raw_simples_of all)
          c.in_ok-one.ensures.is.same (rw head at c.loop-s.invariant.same);
      in_order = counted_more nodes_of_stmt c.loop-s.done.items c.in_ok-one.one (size_of_statement (raw_simple_of x))
          (size_of_statements (raw_simples_of (drop (i + 1) all))) c.loop-s.at c.in_ok-one.after (count_from c.args.next (size_of_statements (raw_simples_of all)))
          c.in_ok-one.ensures.is.in_order next (rw head at c.loop-s.invariant.in_order);
      after = omega arith;
    })
