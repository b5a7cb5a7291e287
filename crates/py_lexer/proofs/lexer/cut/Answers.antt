use Rattle.std.proofs.Common.{◌≡◌, ◌≤◌, ◌+◌, ◌-◌, [], ◌∷◌, ◌++◌, None, length, take, drop, ap, sym, ◌∙◌, subst, arith}
use Rattle.std.proofs.lemmas.List.{take_rest, length-drop, length-take-le}
use Rattle.py_lexer.specs.Cut.{IsFront, IsToken, blank_len, ends_in, open_after, token_at}
use Rattle.py_lexer.proofs.Cutting.{SoFar, place, after_blank, after_token, found_at_end, stops_here, filled}
use Rattle.py_lexer.proofs.lexer.cut.Goals as goal

pub loop-at-preserved-then-blank-gt0 : goal.loop-at-preserved-then-blank-gt0
loop-at-preserved-then-blank-gt0 c =
    let l = c.loop-at in
    let text = c.args.text.now in
    let n = c.blank_len-blank.result in
    let rest : take (length c.args.text.now - c.loop-at.at) (drop c.loop-at.at c.args.text.now) ≡ drop c.loop-at.at c.args.text.now = take_rest text l.at in
    let room : c.blank_len-blank.result ≤ length (drop c.loop-at.at c.args.text.now) = omega (arith, ap length rest, c.blank_len-blank.ensures.within) in
    let left = length-drop l.at text in
    let is : c.blank_len-blank.result ≡ blank_len c.loop-at.nested (drop c.loop-at.at c.args.text.now) = c.blank_len-blank.ensures.value ∙ ap (blank_len l.nested) rest in
    let ends : c.ends_in-line.result ≡ ends_in (take c.blank_len-blank.result (drop c.loop-at.at c.args.text.now)) = c.ends_in-line.ensures.value ∙ ap (λ z. ends_in (take n z)) rest in
    let few : c.ends_in-line.result ≤ c.blank_len-blank.result = omega (arith, c.ends_in-line.ensures.within, ap (λ z. length (take n z)) rest, length-take-le n (drop l.at text) room) in
    record {
      far = omega arith;
      lines = omega arith;
      brackets = omega arith;
      so_far =
          subst (λ z. SoFar c.args.text.now (place (c.loop-at.at + c.blank_len-blank.result) (c.loop-at.line + z) c.loop-at.nested) (drop (c.loop-at.at + c.blank_len-blank.result) c.args.text.now) c.loop-at.tokens) (sym ends)
          (after_blank text l.at l.line l.nested l.tokens l.invariant.so_far n room is c.if-blank-gt0.true);
    }

pub returns-in_default : goal.returns-in_default
returns-in_default c =
    let l = c.loop-at in
    let text = c.args.text.now in
    let rest : take (length c.args.text.now - c.loop-at.at) (drop c.loop-at.at c.args.text.now) ≡ drop c.loop-at.at c.args.text.now = take_rest text l.at in
    let none : blank_len c.loop-at.nested (drop c.loop-at.at c.args.text.now) ≡ 0 = omega (arith, ap (blank_len l.nested) rest, c.blank_len-blank.ensures.value) in
    stops_here text l.at l.line l.nested l.tokens l.invariant.so_far c.loop-at-test.true none
    (subst (λ z. IsFront c.loop-at.nested z None) rest (subst (λ z. IsFront c.loop-at.nested (take (length c.args.text.now - c.loop-at.at) (drop c.loop-at.at c.args.text.now)) z) c.in_default.is c.in_ok-kind.ensures))

pub loop-at-preserved : goal.loop-at-preserved
loop-at-preserved c =
    let l = c.loop-at in
    let text = c.args.text.now in
    let n = c.in-Some.n in
    let kind = c.in-Some.kind in
    let rest : take (length c.args.text.now - c.loop-at.at) (drop c.loop-at.at c.args.text.now) ≡ drop c.loop-at.at c.args.text.now = take_rest text l.at in
    let found : IsToken c.loop-at.nested (drop c.loop-at.at c.args.text.now) c.in-Some.kind c.in-Some.n =
    subst (λ z. IsToken c.loop-at.nested z c.in-Some.kind c.in-Some.n) rest (subst (λ z. IsFront c.loop-at.nested (take (length c.args.text.now - c.loop-at.at) (drop c.loop-at.at c.args.text.now)) z) c.in-Some.is c.in_ok-kind.ensures) in
    let some = filled l.nested (drop l.at text) kind n found in
    let room = found.within in
    let left = length-drop l.at text in
    let ends : c.ends_in-line-in-loop-at.result ≡ ends_in (take c.in-Some.n (drop c.loop-at.at c.args.text.now)) = c.ends_in-line-in-loop-at.ensures.value ∙ ap (λ z. ends_in (take n z)) rest in
    let open_is : c.open_after-nested.result ≡ open_after c.loop-at.nested c.in-Some.kind (take c.in-Some.n (drop c.loop-at.at c.args.text.now)) = c.open_after-nested.ensures.value ∙ ap (λ z. open_after l.nested kind (take n z)) rest in
    let few : c.ends_in-line-in-loop-at.result ≤ c.in-Some.n = omega (arith, c.ends_in-line-in-loop-at.ensures.within, ap (λ z. length (take n z)) rest, length-take-le n (drop l.at text) room) in
    record {
      far = omega arith;
      lines = omega arith;
      brackets = omega (arith, c.open_after-nested.ensures.within);
      so_far =
          subst (λ z. SoFar c.args.text.now (place (c.loop-at.at + c.in-Some.n) (c.loop-at.line + c.ends_in-line-in-loop-at.result) c.open_after-nested.result) (drop (c.loop-at.at + c.in-Some.n) c.args.text.now) z) (sym c.in_ok-push.ensures)
          (subst (λ z. SoFar c.args.text.now (place (c.loop-at.at + c.in-Some.n) (c.loop-at.line + z) c.open_after-nested.result) (drop (c.loop-at.at + c.in-Some.n) c.args.text.now) (c.loop-at.tokens ++ token_at (place c.loop-at.at c.loop-at.line c.loop-at.nested) c.in-Some.kind c.in-Some.n ∷ [])) (sym ends)
          (subst (λ z. SoFar c.args.text.now (place (c.loop-at.at + c.in-Some.n) (c.loop-at.line + ends_in (take c.in-Some.n (drop c.loop-at.at c.args.text.now))) z) (drop (c.loop-at.at + c.in-Some.n) c.args.text.now) (c.loop-at.tokens ++ token_at (place c.loop-at.at c.loop-at.line c.loop-at.nested) c.in-Some.kind c.in-Some.n ∷ [])) (sym open_is)
          (after_token text l.at l.line l.nested l.tokens l.invariant.so_far kind n found)));
    }

pub returns : goal.returns
returns c =
    let l = c.loop-at in
    found_at_end c.args.text.now l.at l.line l.nested l.tokens l.invariant.so_far (omega arith)
