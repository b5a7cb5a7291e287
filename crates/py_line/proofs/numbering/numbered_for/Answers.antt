use Rattle.std.proofs.Common.{◌+◌, ◌++◌, ap, ◌∙◌, arith}
use Rattle.py_ast.specs.View.{view}
use Rattle.py_ast.specs.Nodes.{nodes, nodes_of_block}
use Rattle.py_grammar.specs.Line as plain
use Rattle.py_line.specs.Numbers.{size, size_of_statements}
use Rattle.py_line.specs.Form.{raw_simples_of, statements_of}
use Rattle.py_line.proofs.NumberRuns.{both_counted}
use Rattle.py_line.proofs.NumberedForms.{headed, same_line, with_body}
use Rattle.py_line.proofs.numbering.numbered_for.Goals as goal

pub returns : goal.returns
returns c =
    let ss = raw_simples_of c.args.body.now in
    let xs = c.in_ok-body.body.items in
    record {
      same = same_line (plain.for (view c.in_ok-target.target) (view c.in_ok-e.e)) (plain.for (view c.args.target.now) (view c.args.e.now)) (statements_of xs) ss (ap (λ z. plain.for z (view c.in_ok-e.e)) c.in_ok-target.ensures.is.same ∙ ap (plain.for (view c.args.target.now)) c.in_ok-e.ensures.is.same) c.in_ok-body.ensures.is.same;
      in_order =
          let a = size (view c.args.target.now) in
          let b = size (view c.args.e.now) in
          let k = size_of_statements ss in
          headed c.args.first (a + (b + k)) (1 + (a + b) + k) (nodes c.in_ok-target.target ++ (nodes c.in_ok-e.e ++ nodes_of_block xs))
          (both_counted (c.args.first + 1) c.in_ok-target.next a (b + k) (nodes c.in_ok-target.target) (nodes c.in_ok-e.e ++ nodes_of_block xs)
          c.in_ok-target.ensures.is.in_order c.in_ok-target.ensures.after
          (with_body c.in_ok-target.next c.in_ok-e.next b (nodes c.in_ok-e.e) ss xs c.in_ok-e.ensures.is.in_order c.in_ok-e.ensures.after c.in_ok-body.ensures.is))
          (omega arith);
      follows = let f0 = c.in_ok-target.ensures.after in let f1 = c.in_ok-e.ensures.after in let g = c.in_ok-body.ensures.after in omega arith;
    }
