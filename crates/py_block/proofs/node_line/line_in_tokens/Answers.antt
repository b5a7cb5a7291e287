use Rattle.std.proofs.Common.{◌≡◌, Err, IfOk, map, subst, sym}
use Rattle.py_layout.specs.Layout.{IsLaid}
use Rattle.py_block.specs.NodeLines.{line_from}
use Rattle.py_block.specs.Parsed.{of_lines, told}
use Rattle.py_block.specs.Pass.{HasNodeIn}
use Rattle.py_block.proofs.Reaching.{laid_not_stopped, line_in_lines, lines_have}
use Rattle.py_block.proofs.node_line.line_in_tokens.Goals as goal

pub line_in_lines-requires-clause-there : goal.line_in_lines-requires-clause-there
line_in_lines-requires-clause-there c =
    let text = c.args.text.now in
    let tokens = c.args.tokens.now in
    subst (λ z. HasNodeIn (of_lines (map (told text z) c.as_slice-in-Ok.result.now)) c.args.node) (sym c.as_slice.ensures)
    (subst (λ z. HasNodeIn (of_lines (map (told text tokens) z)) c.args.node) (sym c.as_slice-in-Ok.ensures)
    (lines_have text tokens c.args.node c.in-Ok.lines c.in-Ok.ensures.sound c.requires.there))

pub unreachable-requires : goal.unreachable-requires
unreachable-requires c =
    laid_not_stopped c.args.text.now c.args.tokens.now c.args.node c.in-Err-At.field-0-0
    (subst (λ z. IsLaid c.args.text.now c.args.tokens.now (Err z)) c.in-Err-At.field-0-is c.in-Err-At.ensures.sound) c.requires.there

pub returns-in-Ok : goal.returns-in-Ok
returns-in-Ok c =
    let text = c.args.text.now in
    let tokens = c.args.tokens.now in
    subst (λ z. IfOk c.line_in_lines.result (λ line. line ≡ z)) (sym (line_in_lines text tokens c.args.node c.in-Ok.lines c.in-Ok.ensures.sound))
    (subst (λ z. IfOk c.line_in_lines.result (λ line. line ≡ line_from 0 (map (told text tokens) z) c.args.node)) c.as_slice-in-Ok.ensures
    (subst (λ z. IfOk c.line_in_lines.result (λ line. line ≡ line_from 0 (map (told text z) c.as_slice-in-Ok.result.now) c.args.node)) c.as_slice.ensures
    c.line_in_lines.ensures))
