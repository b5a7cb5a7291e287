use Rattle.std.proofs.Common.{Err, subst}
use Rattle.py_line.specs.Answer.{IsAnswer}
use Rattle.py_line.specs.declared.line.LineFault.TheVariants.{Limit, NotALine}
use Rattle.py_block.specs.Parsed.{tokens_of}
use Rattle.py_block.proofs.LineTokens.{spans_within}
use Rattle.py_block.proofs.Reaching.{no_fault, nodes_of_read}
use Rattle.py_block.proofs.node_line.nodes_in.Goals as goal

pub parse_line_from-requires-clause-spans : goal.parse_line_from-requires-clause-spans
parse_line_from-requires-clause-spans c = spans_within c.args.text.now c.args.line.first _ c.args.tokens.now c.requires.spans

pub unreachable-requires-in-Err-Limit : goal.unreachable-requires-in-Err-Limit
unreachable-requires-in-Err-Limit c =
    let a = subst (λ z. IsAnswer c.args.text.now (tokens_of c.args.tokens.now c.args.line) 1 (Err z)) c.in-Err-Limit.field-0-is c.in-Err-Limit.ensures in
    no_fault c.args.text.now c.args.tokens.now c.args.line c.requires.is.line c.requires.is.is Limit (λ e. cc) a

pub unreachable-requires-in-Err-NotALine : goal.unreachable-requires-in-Err-NotALine
unreachable-requires-in-Err-NotALine c =
    let a = subst (λ z. IsAnswer c.args.text.now (tokens_of c.args.tokens.now c.args.line) 1 (Err z)) c.in-Err-NotALine.field-0-is c.in-Err-NotALine.ensures in
    no_fault c.args.text.now c.args.tokens.now c.args.line c.requires.is.line c.requires.is.is NotALine (λ e. cc) a

pub returns-in-Ok-clause-value : goal.returns-in-Ok-clause-value
returns-in-Ok-clause-value c = nodes_of_read c.args.text.now c.args.tokens.now c.args.line c.in-Ok.read c.in-Ok.ensures c.nodes_read.result c.nodes_read.ensures
