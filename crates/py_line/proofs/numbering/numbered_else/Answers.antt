use Rattle.std.proofs.Common.{refl, arith}
use Rattle.py_grammar.specs.Line as plain
use Rattle.py_line.specs.Form.{raw_simples_of, statements_of}
use Rattle.py_line.proofs.NumberedForms.{body_alone, same_line}
use Rattle.py_line.proofs.numbering.numbered_else.Goals as goal

pub returns : goal.returns
returns c =
    let ss = raw_simples_of c.args.body.now in
    let xs = c.in_ok-body.body.items in
    record {
      same = same_line plain.else plain.else (statements_of xs) ss refl c.in_ok-body.ensures.is.same;
      in_order = body_alone c.args.first ss xs c.in_ok-body.ensures.is;
      follows = let g = c.in_ok-body.ensures.after in omega arith;
    }
