use Rattle.std.proofs.Common.{arith}
use Rattle.py_lexer.proofs.Spans.{are_spans}
use Rattle.py_layout.proofs.Laying.{few_tokens}
use Rattle.py_block.proofs.Reaching.{reached_none}
use Rattle.py_block.proofs.node_line.line_in_lines.Goals as goal

pub loop-line-init : goal.loop-line-init
loop-line-init c = reached_none c.args.text.now c.args.tokens.now c.args.lines.now c.args.node c.requires.laid c.requires.there

pub nodes_in-requires-clause-few : goal.nodes_in-requires-clause-few
nodes_in-requires-clause-few c =
    let few = few_tokens c.args.text.now c.args.tokens.now c.requires.lexed in
    let short = c.requires.short in
    omega arith

pub nodes_in-requires-clause-spans : goal.nodes_in-requires-clause-spans
nodes_in-requires-clause-spans c = are_spans c.args.text.now c.args.tokens.now c.requires.lexed
