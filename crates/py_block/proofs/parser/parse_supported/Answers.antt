use Rattle.std.proofs.Common.{arith, drop, map, ◌+◌, ◌^◌}
use Rattle.py_lexer.proofs.Spans.{are_spans}
use Rattle.py_layout.proofs.Laying.{few_tokens}
use Rattle.py_block.specs.Parsed.{told}
use Rattle.py_block.proofs.Passing.{passed_none, at_line, at_end, fits, passed_more, are_counted, line_in}
use Rattle.py_block.proofs.parser.parse_supported.Goals as goal

pub loop-line-init : goal.loop-line-init
loop-line-init c = passed_none c.args.text.now c.args.tokens.now c.args.lines.now c.in_ok-stage.stage c.requires.supported c.requires.laid c.in_ok-stage.ensures

pub with_line-requires-clause-spans : goal.with_line-requires-clause-spans
with_line-requires-clause-spans c = are_spans c.args.text.now c.args.tokens.now c.requires.lexed

pub with_line-requires-clause-fits : goal.with_line-requires-clause-fits
with_line-requires-clause-fits c =
    let l = c.loop-line in
    let few = few_tokens c.args.text.now c.args.tokens.now c.requires.lexed in
    let short = c.requires.short in
    fits c.args.text.now c.args.tokens.now (map (told c.args.text.now c.args.tokens.now) c.args.lines.now) (line_in c.args.lines.now l.line-index)
    (drop (l.line-index + 1) c.args.lines.now) l.last l.stage
    (at_line c.args.text.now c.args.tokens.now (map (told c.args.text.now c.args.tokens.now) c.args.lines.now) c.args.lines.now l.line-index l.last l.stage l.invariant c.loop-line-test.true)
    (2 ^ 32) (omega arith)

pub loop-line-preserved : goal.loop-line-preserved
loop-line-preserved c =
    let l = c.loop-line in
    passed_more c.args.text.now c.args.tokens.now (map (told c.args.text.now c.args.tokens.now) c.args.lines.now) (line_in c.args.lines.now l.line-index)
    (drop (l.line-index + 1) c.args.lines.now) l.last l.stage
    (at_line c.args.text.now c.args.tokens.now (map (told c.args.text.now c.args.tokens.now) c.args.lines.now) c.args.lines.now l.line-index l.last l.stage l.invariant c.loop-line-test.true)
    c.in-Ok.next c.in-Ok.ensures

pub end-requires : goal.end-requires
end-requires c =
    let l = c.loop-line in
    let few = few_tokens c.args.text.now c.args.tokens.now c.requires.lexed in
    let short = c.requires.short in
    are_counted c.args.text.now c.args.tokens.now (map (told c.args.text.now c.args.tokens.now) c.args.lines.now) l.last l.stage
    (at_end c.args.text.now c.args.tokens.now (map (told c.args.text.now c.args.tokens.now) c.args.lines.now) c.args.lines.now l.line-index l.last l.stage l.invariant c.loop-line-test.false)
    (omega arith)
