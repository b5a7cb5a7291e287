use Rattle.py_print.proofs.CellLaws.{printed_spells}
use Rattle.py_print.proofs.TextLaws.{text_printed, text_parsed}
use Rattle.py_print.proofs.laws.print_law.Goals as goal

pub returns : goal.returns
returns c = record { spelled = printed_spells; spelled_again = text_printed; parsed_again = text_parsed }
