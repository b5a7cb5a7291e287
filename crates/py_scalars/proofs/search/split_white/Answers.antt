use Rattle.std.proofs.Common.{◌≡◌, ◌≤◌, ◌<◌, IfOk, List, ℕ, length, get_or, subst, sym, ◌∙◌, ap, arith}
use Rattle.py_scalars.specs.Search.{words}
use Rattle.py_scalars.proofs.SearchLemmas.{black_more, words_step, words_end}
use Rattle.py_scalars.proofs.search.split_white.Goals as goal

pub loop-i-preserved-then-not-is_whitespace : goal.loop-i-preserved-then-not-is_whitespace
loop-i-preserved-then-not-is_whitespace c =
    let kept = c.loop-i.invariant in
    let inside : c.loop-i.i < length c.args.t.now = omega (arith, ap length c.as_slice-c-items.ensures) in
    let point = c.c-item.is ∙ ap (λ (t : List ℕ). get_or t c.loop-i.i c.c-item.result) c.as_slice-c-items.ensures in (
      omega arith,
      black_more c.args.t.now c.loop-i.from c.loop-i.i c.c-item.result kept.1 inside point (sym c.is_whitespace.ensures ∙ c.if-not-is_whitespace.true),
      kept.2,
    )

pub loop-i-preserved : goal.loop-i-preserved
loop-i-preserved c =
    let kept = c.loop-i.invariant in
    let inside : c.loop-i.i < length c.args.t.now = omega (arith, ap length c.as_slice-c-items.ensures) in
    let point = c.c-item.is ∙ ap (λ (t : List ℕ). get_or t c.loop-i.i c.c-item.result) c.as_slice-c-items.ensures in (
      omega arith,
      λ k h l. absurd (omega arith),
      words_step c.args.t.now c.loop-i.from c.loop-i.i c.c-item.result c.loop-i.texts.items _ _ kept.0 inside kept.1 point (sym c.is_whitespace.ensures ∙ c.if-not-is_whitespace.false) c.in_ok-push_word.ensures kept.2,
    )

pub returns : goal.returns
returns c =
    let kept = c.loop-i.invariant in
    let within : c.loop-i.from ≤ length c.args.t.now = omega (arith, ap length c.as_slice-c-items.ensures) in
    let all : c.push_word-2.new.texts.items ≡ words c.args.t.now = words_end c.args.t.now c.loop-i.from c.len.result c.loop-i.texts.items _ _ within c.len.ensures (λ k h l. kept.1 k h (omega (arith, ap length c.as_slice-c-items.ensures))) c.in_ok-push_word-2.ensures kept.2 in
    subst (λ (x : List (List ℕ)). IfOk c.from_vec.result (λ s. s ≡ x)) all c.from_vec.ensures
