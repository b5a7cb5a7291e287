-- The printed text of a block spells it.
use Rattle.std.proofs.Common.{◌≡◌, ℕ, List, [], ◌∷◌, map, Ok, sym, subst}
use Rattle.std.specs.List.{AllByRecursion}
use Rattle.py_ast.specs.Statement.{Block}
use Rattle.py_ast.specs.Lawful.{top, IsBlock}
use Rattle.py_lexer.specs.Cut.{AreTokens}
use Rattle.py_lexer.specs.Cut as lexer
use Rattle.py_layout.specs.Layout.{AreLines}
use Rattle.py_block.specs.Parsed.{parsed, with_line_ends}
use Rattle.py_block.specs.Cell.{SpellsText}
use Rattle.py_block.proofs.CellLaws.{spelled_parsed}
use Rattle.py_print.specs.Pieces.{signs_in}
use Rattle.py_print.specs.Printed.{PrintedLine, pieces, placed, lines_of, printed}
use Rattle.py_print.specs.Spelled.{IsWritten, AreWritten}
use Rattle.py_print.proofs.Rows.{IsLawfulLine, block_rows}
use Rattle.py_print.proofs.BlockLaws.{block_stands}
use Rattle.py_print.proofs.Steps.{lines_step}
use Rattle.py_print.proofs.LineEnds.{ends_stay}
use Rattle.py_print.proofs.LineCuts.{IsPrintable, all_tokens, are_tokens, lines_laid}

both : (xs : List PrintedLine) → AllByRecursion IsLawfulLine xs → AllByRecursion (λ x. AllByRecursion IsWritten (signs_in (pieces x.row))) xs → AllByRecursion IsPrintable xs
both [] h w = tt
both (x ∷ xs) h w = ((h.0, w.0), both xs h.1 w.1)

pub printed_spells : (b : Block) → IsBlock top b → AreWritten b → SpellsText (printed b) b
printed_spells b h w =
    let xs = lines_of 0 b in
    let stay : with_line_ends (printed b) ≡ printed b = ends_stay xs w in
    let good = both xs (block_rows top b h) w in
    let laid = lines_laid xs stay good (lines_step b) in
    record {
      cut = record {
        tokens = all_tokens lexer.start xs;
        lines = laid.lines;
        are_tokens = subst (λ z. AreTokens z (all_tokens lexer.start xs)) (sym stay) (are_tokens xs good);
        are_lines = subst (λ z. AreLines z (all_tokens lexer.start xs) laid.lines) (sym stay) (laid.last, laid.lays);
      };
      plain = record { supported = laid.supported; within = laid.within };
      lines = map placed xs;
      spelled = laid.spelled;
      stands = block_stands top b h;
    }

pub printed_parsed : (b : Block) → IsBlock top b → AreWritten b → parsed (printed b) ≡ Ok b
printed_parsed b h w = spelled_parsed (printed b) b (printed_spells b h w)
