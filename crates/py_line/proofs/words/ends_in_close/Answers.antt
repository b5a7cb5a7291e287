use Rattle.std.proofs.Common.{◌-◌, ◌∙◌, arith, rules}
use Rattle.py_line.proofs.SignLists.{last_before}
use Rattle.py_line.proofs.words.ends_in_close.Goals as goal

pub returns-then-len-ne0 : goal.returns-then-len-ne0
returns-then-len-ne0 c =
    c.is_close.ensures ∙ last_before c.args.tokens.now c.args.rest.now c.saturating_sub-len.result (c.saturating_sub-len.result - 1) c.index-tokens-len.result
    (search rules) (omega arith) c.index-tokens-len.is
