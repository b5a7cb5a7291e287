use Rattle.std.proofs.Common.{refl, sym, subst, Err}
use Rattle.py_line.specs.Answer.{IsAnswer}
use Rattle.py_block.specs.Parsed.{tokens_of}
use Rattle.py_block.specs.Pass.{IsLimit}
use Rattle.py_block.proofs.FormAnswers.{kept_told, limit_told, none_told}
use Rattle.py_block.proofs.LineTokens.{spans_within}
use Rattle.py_block.proofs.line_read.read_line.Goals as goal

pub parse_line_from-requires-clause-spans : goal.parse_line_from-requires-clause-spans
parse_line_from-requires-clause-spans c =
    spans_within c.args.text.now c.args.line.first _ c.args.tokens.now c.requires.spans

pub returns-in-Ok : goal.returns-in-Ok
returns-in-Ok c = kept_told c.args.text.now c.args.tokens.now c.args.line c.args.first c.in-Ok.read c.kept.result c.in-Ok.ensures c.kept.ensures

pub returns-in-Err-NotALine : goal.returns-in-Err-NotALine
returns-in-Err-NotALine c =
    none_told c.args.text.now c.args.tokens.now c.args.line c.args.first c.if-line-gt-MOST.false
    (subst (λ z. IsAnswer c.args.text.now (tokens_of c.args.tokens.now c.args.line) c.args.first (Err z)) c.in-Err-NotALine.field-0-is c.in-Err-NotALine.ensures)

pub returns-in-Err-Limit : goal.returns-in-Err-Limit
returns-in-Err-Limit c =
    let a = subst (λ z. IsAnswer c.args.text.now (tokens_of c.args.tokens.now c.args.line) c.args.first (Err z)) c.in-Err-Limit.field-0-is c.in-Err-Limit.ensures in
    subst (IsLimit c.args.text.now c.args.tokens.now c.args.line) (sym c.over-in-Err-Limit.ensures)
    (limit_told c.args.text.now c.args.tokens.now c.args.line c.args.first a, refl, refl)
