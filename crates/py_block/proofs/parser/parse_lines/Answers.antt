use Rattle.std.proofs.Common.{length}
use Rattle.py_block.proofs.Apart.{are_apart, are_within}
use Rattle.py_block.proofs.parser.parse_lines.Goals as goal

pub first_unsupported-requires : goal.first_unsupported-requires
first_unsupported-requires c =
    are_within (length c.args.tokens.now) 0 c.args.lines.now (are_apart c.args.text.now c.args.tokens.now c.args.lines.now c.requires.laid)
