use Rattle.std.proofs.Common.{option_map, ap, ◌∙◌, arith}
use Rattle.py_ast.specs.View.{view}
use Rattle.py_ast.specs.Nodes.{nodes_of_maybe}
use Rattle.py_grammar.specs.Line as plain
use Rattle.py_line.specs.Numbers.{size_of_maybe}
use Rattle.py_line.specs.Form.{raw_simples_of, statements_of}
use Rattle.py_line.proofs.NumberedForms.{node_with_body, same_line}
use Rattle.py_line.proofs.numbering.numbered_except.Goals as goal

pub returns : goal.returns
returns c =
    let ss = raw_simples_of c.args.body.now in
    let xs = c.in_ok-body.body.items in
    record {
      same = same_line (plain.except (option_map view c.in_ok-class.class) c.in_ok-name.name) (plain.except (option_map view c.args.class.now) c.args.name.now) (statements_of xs) ss (ap (λ z. plain.except z c.in_ok-name.name) c.in_ok-class.ensures.is.same ∙ ap (plain.except (option_map view c.args.class.now)) c.in_ok-name.ensures) c.in_ok-body.ensures.is.same;
      in_order = node_with_body c.args.first c.in_ok-class.next (size_of_maybe (option_map view c.args.class.now)) (nodes_of_maybe c.in_ok-class.class) ss xs c.in_ok-class.ensures.is.in_order c.in_ok-class.ensures.after c.in_ok-body.ensures.is;
      follows = let f0 = c.in_ok-class.ensures.after in let g = c.in_ok-body.ensures.after in omega arith;
    }
