use Rattle.std.proofs.Common.{ap, arith}
use Rattle.py_ast.specs.View.{view}
use Rattle.py_ast.specs.Nodes.{nodes}
use Rattle.py_grammar.specs.Line as plain
use Rattle.py_line.specs.Numbers.{size}
use Rattle.py_line.specs.Form.{raw_simples_of, statements_of}
use Rattle.py_line.proofs.NumberedForms.{node_with_body, same_line}
use Rattle.py_line.proofs.numbering.numbered_if.Goals as goal

pub returns : goal.returns
returns c =
    let ss = raw_simples_of c.args.body.now in
    let xs = c.in_ok-body.body.items in
    record {
      same = same_line (plain.if (view c.in_ok-test.test)) (plain.if (view c.args.test.now)) (statements_of xs) ss (ap plain.if c.in_ok-test.ensures.is.same) c.in_ok-body.ensures.is.same;
      in_order = node_with_body c.args.first c.in_ok-test.next (size (view c.args.test.now)) (nodes c.in_ok-test.test) ss xs c.in_ok-test.ensures.is.in_order c.in_ok-test.ensures.after c.in_ok-body.ensures.is;
      follows = let f0 = c.in_ok-test.ensures.after in let g = c.in_ok-body.ensures.after in omega arith;
    }
