-- What is answered to the lines of a text is what is answered to the text.
use Rattle.std.proofs.Common.{ℕ, List, map, Result, Ok, Err, IfOk, sym, ap, subst}
use Rattle.flow_base.specs.declared.kinds.SyntaxKind.TheVariants.{Lex, Layout}
use Rattle.py_ast.specs.Lawful.{IsLawful}
use Rattle.py_ast.specs.Statement.{view_cell}
use Rattle.py_ast.specs.declared.cell.Cell.{Cell}
use Rattle.py_lexer.specs.declared.token.Token.{Token}
use Rattle.py_lexer.specs.Cut.{AreTokens}
use Rattle.py_lexer.specs.Cut as lexer
use Rattle.py_layout.specs.declared.line.LogicalLine.{LogicalLine}
use Rattle.py_layout.specs.Layout.{AreLines}
use Rattle.py_layout.specs.Layout as layout
use Rattle.py_block.specs.Answer.{IsAnswer}
use Rattle.py_block.specs.Cell.{IsParsed}
use Rattle.py_block.specs.Lexing.{lexed, laid}
use Rattle.py_block.specs.Parsed.{told, of_lines, of_laid, of_tokens, parsed, with_line_ends}
use Rattle.py_block.specs.Pass.{Answers}
use Rattle.py_block.specs.declared.fault.SyntaxFault.{SyntaxFault}
use Rattle.py_block.specs.declared.fault.SyntaxFault.TheVariants.{At, NoMemory}
use Rattle.py_block.proofs.CellLaws.{is_parsed, lexed_ok, lexed_err, laid_ok, laid_err}
use Rattle.py_block.proofs.LawfulCells.{cell_lawful}
use Rattle.py_block.proofs.LexingLaws.{lexed_is, laid_is}

module _ (text : List ℕ) (tokens : List Token) where
  pub lines_answered : (lines : List LogicalLine) (r : Result Cell SyntaxFault) → AreLines text tokens lines → Answers (of_lines (map (told text tokens) lines)) r
      → Answers (of_laid text tokens (laid text tokens)) r
  lines_answered lines r l a = subst (λ z. Answers (of_laid text tokens z) r) (sym (laid_ok text tokens lines l (laid text tokens) (laid_is text tokens))) a

  pub layout_stopped : (line : ℕ) → layout.Stops text tokens line → Answers (of_laid text tokens (laid text tokens)) (Err (At line Layout))
  layout_stopped line s = ap (of_laid text tokens) (laid_err text tokens line s (laid text tokens) (laid_is text tokens))

module _ (text : List ℕ) where
  pub tokens_answered : (tokens : List Token) (r : Result Cell SyntaxFault) → AreTokens text tokens → Answers (of_laid text tokens (laid text tokens)) r
      → Answers (of_tokens text (lexed text)) r
  tokens_answered tokens r t a = subst (λ z. Answers (of_tokens text z) r) (sym (lexed_ok text tokens t (lexed text) (lexed_is text))) a

  pub lex_stopped : (line : ℕ) → lexer.Stops text line → Answers (of_tokens text (lexed text)) (Err (At line Lex))
  lex_stopped line s = ap (of_tokens text) (lexed_err text line s (lexed text) (lexed_is text))

  pub text_answered : (r : Result Cell SyntaxFault) → Answers (of_tokens (with_line_ends text) (lexed (with_line_ends text))) r → IsAnswer text r
  unfolding parsed
  text_answered (Ok c) a = record { spelled = a.0; numbered = a.1 }
  text_answered (Err (At line kind)) a = a
  text_answered (Err NoMemory) a = tt

  -- and a cell that is answered is lawful
  pub lawful_answer : (r : Result Cell SyntaxFault) → Answers (of_tokens (with_line_ends text) (lexed (with_line_ends text))) r → IfOk r (λ c. IsLawful c)
  lawful_answer (Ok c) a =
      let spelled = text_answered (Ok c) a in
      record { allowed = cell_lawful text (view_cell c) (subst (IsParsed text) spelled.spelled (is_parsed text)); numbered = a.1 }
  lawful_answer (Err fault) a = tt
