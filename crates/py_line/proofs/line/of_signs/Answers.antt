use Rattle.std.proofs.Common.{Some, option_map, ap, ◌∙◌, subst}
use Rattle.py_grammar.specs.LineReading.{read_line}
use Rattle.py_line.specs.Form.{raw_line_of}
use Rattle.py_line.specs.Gives.{Fails}
use Rattle.py_line.proofs.Answering.{no_line, too_deep}
use Rattle.py_line.proofs.line.of_signs.Goals as goal

pub returns-in-Ok-None : goal.returns-in-Ok-None
returns-in-Ok-None c =
    too_deep c.args.first c.args.signs.now (c.in-Ok-None.ensures ∙ ap (λ line. Some (option_map raw_line_of line)) c.in-Ok-None.field-0-is)

pub returns-in-Err-NoLine : goal.returns-in-Err-NoLine
returns-in-Err-NoLine c =
    no_line c.args.first c.args.signs.now
    (subst (λ fault. Fails fault (read_line 60 c.args.signs.now)) c.in-Err-NoLine.field-0-is c.in-Err-NoLine.ensures)
