use Rattle.std.proofs.Common.{ap, ◌∙◌, arith}
use Rattle.py_ast.specs.View.{views}
use Rattle.py_ast.specs.Nodes.{nodes_of_all}
use Rattle.py_grammar.specs.Line as plain
use Rattle.py_line.specs.Numbers.{size_of_all}
use Rattle.py_line.specs.Form.{raw_simples_of, statements_of}
use Rattle.py_line.proofs.NumberedForms.{node_with_body, same_line}
use Rattle.py_line.proofs.numbering.numbered_def.Goals as goal

pub returns : goal.returns
returns c =
    let ss = raw_simples_of c.args.body.now in
    let xs = c.in_ok-body.body.items in
    record {
      same = same_line (plain.define c.in_ok-name.name c.in_ok-names.names (views c.in_ok-defaults.defaults)) (plain.define c.args.name.now c.args.names.now (views c.args.defaults.now)) (statements_of xs) ss (ap (λ z. plain.define z c.in_ok-names.names (views c.in_ok-defaults.defaults)) c.in_ok-name.ensures ∙ ap (λ z. plain.define c.args.name.now z (views c.in_ok-defaults.defaults)) c.in_ok-names.ensures ∙ ap (plain.define c.args.name.now c.args.names.now) c.in_ok-defaults.ensures.is.same) c.in_ok-body.ensures.is.same;
      in_order = node_with_body c.args.first c.in_ok-defaults.next (size_of_all (views c.args.defaults.now)) (nodes_of_all c.in_ok-defaults.defaults) ss xs c.in_ok-defaults.ensures.is.in_order c.in_ok-defaults.ensures.after c.in_ok-body.ensures.is;
      follows = let f0 = c.in_ok-defaults.ensures.after in let g = c.in_ok-body.ensures.after in omega arith;
    }
