use Rattle.std.proofs.Common.{ℕ, ◌+◌, ◌≤◌, List, [], ◌∷◌, length, arith}
use Rattle.py_lexer.specs.declared.token.Token.{Token}
use Rattle.py_lexer.specs.Span.{AreSpans}
use Rattle.py_line.proofs.line.parse_line.Goals as goal

spans_count : (text : List ℕ) (from : ℕ) (tokens : List Token) → from ≤ length text → AreSpans text from tokens → from + length tokens ≤ length text
spans_count text from [] l s = omega arith
spans_count text from (t ∷ tokens) l s =
    let k = s.1 in
    let w = k.within in
    let f = k.filled in
    let b = s.0 in
    let more = spans_count text t.end tokens w s.2 in
    omega arith

pub parse_line_from-requires-clause-fits : goal.parse_line_from-requires-clause-fits
parse_line_from-requires-clause-fits c =
    let few = spans_count c.args.text.now 0 c.args.tokens.now (omega arith) c.requires.spans in
    omega arith
