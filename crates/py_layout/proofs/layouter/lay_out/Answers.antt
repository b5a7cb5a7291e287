use Rattle.std.proofs.Common.{rules, ◌≡◌, ◌≤◌, ◌<◌, ◌+◌, ◌-◌, ◌^◌, ◌++◌, ◌∷◌, [], ℕ, length, take, drop, Some, None, ap, sym, ◌∙◌, subst, arith}
use Rattle.std.proofs.lemmas.List.{take_rest, length-drop}
use Rattle.py_layout.specs.declared.line.LogicalLine.{LogicalLine}
use Rattle.py_layout.specs.Layout.{indent_of, stack_after, line_len, line_at}
use Rattle.py_layout.proofs.Laying.{SoFar, spot, no_token, read, read_is, was_entered, was_refused, after_end, after_line, stops_here, found_at_end, token_within, few_tokens, line_filled, not_indented, indented}
use Rattle.py_layout.proofs.layouter.lay_out.Goals as goal

pub loop-index-preserved-then-is_line_end : goal.loop-index-preserved-then-is_line_end
loop-index-preserved-then-is_line_end c =
    let l = c.loop-index in
    let text = c.args.text.now in
    let tokens = c.args.tokens.now in
    let t = read tokens l.index in
    record {
      far = omega arith;
      room = token_within text tokens c.requires.lexed l.index no_token c.loop-index-test.true;
      few = omega arith;
      so_far = after_end text tokens l.begin l.index l.stack l.lines l.invariant.so_far c.loop-index-test.true t (read_is tokens l.index c.loop-index-test.true) (sym c.is_line_end.ensures ∙ c.if-is_line_end.true);
    }

pub returns-in_default : goal.returns-in_default
returns-in_default c =
    let l = c.loop-index in
    let text = c.args.text.now in
    let tokens = c.args.tokens.now in
    let t = read tokens l.index in
    let none : indent_of (drop c.loop-index.begin c.args.text.now) ≡ None = ap indent_of (sym (take_rest text l.begin)) ∙ sym c.indent.ensures ∙ c.in_default.is in
    stops_here text tokens l.begin l.index l.stack l.lines l.invariant.so_far c.loop-index-test.true t (read_is tokens l.index c.loop-index-test.true) (sym c.is_line_end.ensures ∙ c.if-is_line_end.false)
    (not_indented text (spot l.begin l.index l.stack) none)

pub returns-then-not-branch : goal.returns-then-not-branch
returns-then-not-branch c =
    let l = c.loop-index in
    let text = c.args.text.now in
    let tokens = c.args.tokens.now in
    let t = read tokens l.index in
    let some : indent_of (drop c.loop-index.begin c.args.text.now) ≡ Some c.in-Some.width = ap indent_of (sym (take_rest text l.begin)) ∙ sym c.indent.ensures ∙ c.in-Some.is in
    let none : stack_after c.loop-index.stack c.in-Some.width ≡ None = was_refused (stack_after l.stack c.in-Some.width) c.enter.new.self c.in_ok-enter.field-0 c.in_ok-enter.ensures.is c.if-not-branch.true in
    stops_here text tokens l.begin l.index l.stack l.lines l.invariant.so_far c.loop-index-test.true t (read_is tokens l.index c.loop-index-test.true) (sym c.is_line_end.ensures ∙ c.if-is_line_end.false)
    (indented text (spot l.begin l.index l.stack) c.in-Some.width None some none)

pub overflow_cast-line : goal.overflow_cast-line
overflow_cast-line c =
    let few = few_tokens c.args.text.now c.args.tokens.now c.requires.lexed in
    let small : c.saturating_sub.result < 2 ^ 32 = omega (arith, c.in_ok-enter.ensures.few) in
    search rules

pub loop-index-preserved : goal.loop-index-preserved
loop-index-preserved c =
    let l = c.loop-index in
    let text = c.args.text.now in
    let tokens = c.args.tokens.now in
    let t = read tokens l.index in
    let n = c.line_len-n.result in
    let new = c.enter.new.self in
    let some : indent_of (drop c.loop-index.begin c.args.text.now) ≡ Some c.in-Some.width = ap indent_of (sym (take_rest text l.begin)) ∙ sym c.indent.ensures ∙ c.in-Some.is in
    let after : stack_after c.loop-index.stack c.in-Some.width ≡ Some c.enter.new.self = was_entered (stack_after l.stack c.in-Some.width) new c.in_ok-enter.field-0 c.in_ok-enter.ensures.is c.if-not-branch.false in
    let rest : take (length c.args.tokens.now - c.loop-index.index) (drop c.loop-index.index c.args.tokens.now) ≡ drop c.loop-index.index c.args.tokens.now = take_rest tokens l.index in
    let long : c.line_len-n.result ≡ line_len (drop c.loop-index.index c.args.tokens.now) = c.line_len-n.ensures.value ∙ ap line_len rest in
    let within : c.line_len-n.result ≤ length (drop c.loop-index.index c.args.tokens.now) = omega (arith, c.line_len-n.ensures.within, ap length rest) in
    let left = length-drop l.index tokens in
    let depth : c.saturating_sub.result ≡ length c.enter.new.self - 1 = c.saturating_sub.ensures ∙ ap (λ k. k - 1) c.len.ensures in
    let line : ℕ → LogicalLine = λ d. record { first = l.index; end = l.index + n; depth = d; line = t.line } in
    let lines_are : c.push.new.self ≡ c.loop-index.lines ++ line_at (spot c.loop-index.begin c.loop-index.index c.loop-index.stack) (read c.args.tokens.now c.loop-index.index) c.enter.new.self c.line_len-n.result ∷ [] =
    c.in_ok-push.ensures ∙ ap (λ d. l.lines ++ line d ∷ []) depth in
    let some_tokens : 0 < c.line_len-n.result = line_filled tokens l.index c.loop-index-test.true (read_is tokens l.index c.loop-index-test.true) (sym c.is_line_end.ensures ∙ c.if-is_line_end.false) n long in
    record {
      far = omega arith;
      room = l.invariant.room;
      few = omega (arith, c.in_ok-enter.ensures.few);
      so_far =
          subst (λ z. SoFar c.args.text.now c.args.tokens.now (spot c.loop-index.begin (c.loop-index.index + c.line_len-n.result) c.enter.new.self) (drop (c.loop-index.index + c.line_len-n.result) c.args.tokens.now) z) (sym lines_are)
          (after_line text tokens l.begin l.index l.stack l.lines l.invariant.so_far c.loop-index-test.true t new n (read_is tokens l.index c.loop-index-test.true) (sym c.is_line_end.ensures ∙ c.if-is_line_end.false)
          (indented text (spot l.begin l.index l.stack) c.in-Some.width (Some new) some after) long);
    }

pub returns : goal.returns
returns c =
    let l = c.loop-index in
    found_at_end c.args.text.now c.args.tokens.now l.begin l.index l.stack l.lines l.invariant.so_far (omega arith)
