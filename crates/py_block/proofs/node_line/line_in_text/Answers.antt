use Rattle.std.proofs.Common.{◌≡◌, Err, IfOk, subst, sym}
use Rattle.py_lexer.specs.Cut.{IsLexed}
use Rattle.py_block.proofs.Reaching.{lex_not_stopped, line_in_these, tokens_have}
use Rattle.py_block.proofs.node_line.line_in_text.Goals as goal

pub line_in_tokens-requires-clause-there : goal.line_in_tokens-requires-clause-there
line_in_tokens-requires-clause-there c = tokens_have c.args.text.now c.args.node c.in-Ok.tokens c.in-Ok.ensures.sound c.requires.there

pub unreachable-requires : goal.unreachable-requires
unreachable-requires c =
    lex_not_stopped c.args.text.now c.args.node c.in-Err-At.field-0-0
    (subst (λ z. IsLexed c.args.text.now (Err z)) c.in-Err-At.field-0-is c.in-Err-At.ensures.sound) c.requires.there

pub returns-in-Ok : goal.returns-in-Ok
returns-in-Ok c =
    subst (λ z. IfOk c.line_in_tokens.result (λ line. line ≡ z)) (sym (line_in_these c.args.text.now c.args.node c.in-Ok.tokens c.in-Ok.ensures.sound))
    c.line_in_tokens.ensures
