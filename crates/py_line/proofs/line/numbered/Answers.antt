use Rattle.py_line.specs.Form.{raw_line_of}
use Rattle.py_line.proofs.Answering.{a_line, nodes_fit}
use Rattle.py_line.proofs.line.numbered.Goals as goal

pub numbered_line-requires : goal.numbered_line-requires
numbered_line-requires c = nodes_fit c.args.first c.args.signs.now (raw_line_of c.args.raw.now) c.requires.read c.requires.fits

pub returns : goal.returns
returns c =
    a_line c.args.first c.args.signs.now (raw_line_of c.args.raw.now) c.in_ok-numbered_line.field-0 c.requires.read
    c.in_ok-numbered_line.ensures
