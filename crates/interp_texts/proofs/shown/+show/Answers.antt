use Rattle.std.proofs.Common.{◌≡◌, ◌≢◌, ◌++◌, ◌∙◌, suc, Some, Ok, Err, rules, ap, arith}
use Rattle.interp_machine.specs.Meaning.{key_in}
use Rattle.interp_machine.specs.Walks.{next}
use Rattle.interp_texts.specs.Shown.{arguments_to, comma, show_entry, show_next, show_to, show_walk}
use Rattle.interp_texts.proofs.ShownLaws.{deeper, entries_more, parts_more}
use Rattle.interp_texts.proofs.shown.+show.Goals as goal

pub show_to-returns-then-levels-eq0 : goal.show_to-returns-then-levels-eq0
unfolding show_to
show_to-returns-then-levels-eq0 t c =
    let none : c.args.levels ≡ 0 = omega arith in
    rw (ap (λ n. show_to n c.args.inside.now c.args.d c.args.v.now c.args.m.now) none) c.fault.ensures

pub show_to-returns : goal.show_to-returns
unfolding show_to
show_to-returns t c =
    let some : c.args.levels ≢ 0 = omega arith in
    rw (deeper (λ n. show_to n c.args.inside.now c.args.d c.args.v.now c.args.m.now) c.args.levels some) c.show_with.ensures

pub arguments_to-returns-then-levels-eq0 : goal.arguments_to-returns-then-levels-eq0
unfolding arguments_to
arguments_to-returns-then-levels-eq0 t c =
    let none : c.args.levels ≡ 0 = omega arith in
    rw (ap (λ n. arguments_to n c.args.inside.now c.args.d c.args.xs c.args.m.now) none) c.fault.ensures

pub arguments_to-returns : goal.arguments_to-returns
unfolding arguments_to
arguments_to-returns t c =
    let some : c.args.levels ≢ 0 = omega arith in
    rw (deeper (λ n. arguments_to n c.args.inside.now c.args.d c.args.xs c.args.m.now) c.args.levels some) c.show_walk.ensures

pub show_walk-loop-turns-preserved : goal.show_walk-loop-turns-preserved
show_walk-loop-turns-preserved t c =
    let some : c.loop-turns.turns ≢ 0 = omega arith in
    let given : next c.loop-turns.rest c.loop-turns.m ≡ (Ok (Some c.in-Some.v, c.in_ok-part.behind), c.next.new.m) = search rules in
    let shown : show_next (show_to c.args.levels) c.args.inside.now c.loop-turns.follows c.loop-turns.draft c.in-Some.v c.next.new.m
    ≡ (Ok c.in_ok-draft.draft, c.show_next.new.m) = search rules in
    c.loop-turns.invariant ∙ parts_more (show_to c.args.levels) c.args.inside.now c.loop-turns.turns c.loop-turns.rest c.in_ok-part.behind
    c.loop-turns.follows c.loop-turns.draft c.in-Some.v (Ok c.in_ok-draft.draft) c.loop-turns.m c.next.new.m c.show_next.new.m some given shown

pub show_walk-returns-in_err-draft : goal.show_walk-returns-in_err-draft
unfolding show_walk
show_walk-returns-in_err-draft t c =
    let some : c.loop-turns.turns ≢ 0 = omega arith in
    let given : next c.loop-turns.rest c.loop-turns.m ≡ (Ok (Some c.in-Some.v, c.in_ok-part.behind), c.next.new.m) = search rules in
    let same : c.from_residual-in_err-draft.result ≡ Err c.in_err-draft.field-0.0 = search rules in
    rw same (λ real. c.loop-turns.invariant ∙ parts_more (show_to c.args.levels) c.args.inside.now c.loop-turns.turns c.loop-turns.rest
    c.in_ok-part.behind c.loop-turns.follows c.loop-turns.draft c.in-Some.v (Err c.in_err-draft.field-0.0) c.loop-turns.m c.next.new.m
    c.show_next.new.m some given (c.in_err-draft.ensures real))

pub show_entries-loop-left-preserved : goal.show_entries-loop-left-preserved
show_entries-loop-left-preserved t c =
    let some : c.loop-left.left ≢ 0 = omega arith in
    let after : c.in_ok-i.i ≡ suc c.loop-left.i = search rules in
    let all : c.in_ok-begun.begun ≡ c.loop-left.draft ++ comma c.loop-left.follows = search rules in
    let held : c.in_ok-key.key ≡ key_in c.loop-left.m c.args.o c.loop-left.i = search rules in
    let shown : show_entry (show_to c.args.levels) c.args.inside.now c.args.o c.in_ok-begun.begun c.in_ok-key.key c.loop-left.m
    ≡ (Ok c.in_ok-draft.draft, c.show_entry.new.m) = search rules in
    c.loop-left.invariant ∙ entries_more (show_to c.args.levels) c.args.inside.now c.args.o c.loop-left.i c.in_ok-i.i c.loop-left.left
    c.loop-left.follows c.loop-left.draft c.in_ok-begun.begun c.in_ok-key.key (Ok c.in_ok-draft.draft) c.loop-left.m c.show_entry.new.m
    some after all held shown
