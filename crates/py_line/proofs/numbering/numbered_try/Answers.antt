use Rattle.std.proofs.Common.{◌+◌, refl, arith}
use Rattle.py_ast.specs.Nodes.{nodes_of_block}
use Rattle.py_grammar.specs.Line as plain
use Rattle.py_line.specs.Numbers.{size_of_statements}
use Rattle.py_line.specs.Form.{raw_simples_of, statements_of}
use Rattle.py_line.proofs.NumberedForms.{headed, same_line}
use Rattle.py_line.proofs.numbering.numbered_try.Goals as goal

pub returns : goal.returns
returns c =
    let ss = raw_simples_of c.args.body.now in
    let xs = c.in_ok-body.body.items in
    record {
      same = same_line plain.try plain.try (statements_of xs) ss refl c.in_ok-body.ensures.is.same;
      in_order = headed c.args.first (size_of_statements ss) (1 + size_of_statements ss) (nodes_of_block xs) c.in_ok-body.ensures.is.in_order refl;
      follows = let g = c.in_ok-body.ensures.after in omega arith;
    }
