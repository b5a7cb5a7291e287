use Rattle.std.proofs.Common.{◌≡◌, Err, map, subst, sym}
use Rattle.flow_base.specs.declared.kinds.SyntaxKind.TheVariants.{Layout}
use Rattle.py_layout.specs.Layout.{IsLaid}
use Rattle.py_block.specs.Lexing.{laid}
use Rattle.py_block.specs.Parsed.{of_laid, of_lines, told}
use Rattle.py_block.specs.Pass.{Answers}
use Rattle.py_block.proofs.Answering.{lines_answered, layout_stopped}
use Rattle.py_block.proofs.parser.parse_tokens.Goals as goal

pub returns-in-Ok : goal.returns-in-Ok
returns-in-Ok c =
    let text = c.args.text.now in
    let tokens = c.args.tokens.now in
    lines_answered text tokens c.in-Ok.lines c.parse_lines.result c.in-Ok.ensures.sound
    (subst (λ z. Answers (of_lines (map (told text tokens) z)) c.parse_lines.result) c.as_slice-in-Ok.ensures
    (subst (λ z. Answers (of_lines (map (told text z) c.as_slice-in-Ok.result.now)) c.parse_lines.result) c.as_slice.ensures c.parse_lines.ensures))

pub returns-in-Err-At : goal.returns-in-Err-At
returns-in-Err-At c =
    let text = c.args.text.now in
    let tokens = c.args.tokens.now in
    subst (λ n. of_laid text tokens (laid text tokens) ≡ Err (n, Layout)) (sym c.in-Err-At.line-is)
    (layout_stopped text tokens c.in-Err-At.line (subst (λ z. IsLaid text tokens (Err z)) c.in-Err-At.field-0-is c.in-Err-At.ensures.sound))
