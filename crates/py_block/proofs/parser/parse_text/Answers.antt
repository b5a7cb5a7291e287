use Rattle.std.proofs.Common.{◌≡◌, Err, subst, sym}
use Rattle.flow_base.specs.declared.kinds.SyntaxKind.TheVariants.{Lex}
use Rattle.py_lexer.specs.Cut.{IsLexed}
use Rattle.py_block.specs.Lexing.{lexed}
use Rattle.py_block.specs.Parsed.{of_tokens}
use Rattle.py_block.proofs.Answering.{tokens_answered, lex_stopped}
use Rattle.py_block.proofs.parser.parse_text.Goals as goal

pub returns-in-Ok : goal.returns-in-Ok
returns-in-Ok c = tokens_answered c.args.text.now c.in-Ok.tokens c.parse_tokens.result c.in-Ok.ensures.sound c.parse_tokens.ensures

pub returns-in-Err-At : goal.returns-in-Err-At
returns-in-Err-At c =
    let text = c.args.text.now in
    subst (λ n. of_tokens text (lexed text) ≡ Err (n, Lex)) (sym c.in-Err-At.line-is)
    (lex_stopped text c.in-Err-At.line (subst (λ z. IsLexed text (Err z)) c.in-Err-At.field-0-is c.in-Err-At.ensures.sound))
