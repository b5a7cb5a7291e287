-- Where lines stand in the tokens.
use Rattle.std.proofs.Common.{◌≡◌, ℕ, suc, ◌+◌, ◌-◌, ◌≤◌, List, [], ◌∷◌, length, take, drop, get_or, Bool, true, false, cond, not, ap, sym, ◌∙◌, refl, arith}
use Rattle.std.specs.List.{list_all, prefix_len}
use Rattle.std.proofs.lemmas.Bool.{cond-true, and_from}
use Rattle.std.proofs.lemmas.List.{drop-drop, length-drop, get_or-drop}
use Rattle.std.proofs.lemmas.List.Sums.{prefix_len-le-length}
use Rattle.py_lexer.specs.declared.token.Token.{Token}
use Rattle.py_layout.specs.declared.line.LogicalLine.{LogicalLine}
use Rattle.py_layout.specs.Layout.{is_line_end, line_len, Spot, Lays, here, skip, laid, AreLines, AreInOrder}

passes : (b : Bool) (p : Token → Bool) (t : Token) (tokens : List Token) (n : ℕ) → p t ≡ b → list_all p (take n tokens) ≡ true → list_all p (take (cond b (1 + n) 0) (t ∷ tokens)) ≡ true
passes true p t tokens n e h =
    let long : 1 + n ≡ suc n = omega arith in ap (λ k. list_all p (take k (t ∷ tokens))) long ∙ and_from (p t) (list_all p (take n tokens)) e h
passes false p t tokens n e h = refl

run_passes : (p : Token → Bool) (tokens : List Token) → list_all p (take (prefix_len p tokens) tokens) ≡ true
run_passes p [] = refl
run_passes p (t ∷ tokens) = passes (p t) p t tokens (prefix_len p tokens) refl (run_passes p tokens)

weaken : (tokens : List Token) (a b : ℕ) (lines : List LogicalLine) → a ≤ b → AreInOrder tokens b lines → AreInOrder tokens a lines
weaken tokens a b [] l s = tt
weaken tokens a b (m ∷ lines) l s = (let k = s.0 in omega arith, s.1, s.2)

rest_is : (whole : List Token) (i : ℕ) (t : Token) (tokens : List Token) → t ∷ tokens ≡ drop i whole → (n : ℕ) → drop n (t ∷ tokens) ≡ drop (i + n) whole
rest_is whole i t tokens e n = ap (drop n) e ∙ drop-drop n i whole

pub places : {text : List ℕ} {s e : Spot} {tokens rest : List Token} {lines : List LogicalLine} → Lays text s tokens lines e rest → (whole : List Token) → tokens ≡ drop s.index whole → AreInOrder whole s.index lines
places here whole h = tt
places (skip {s} {t} {tokens} {lines} k l) whole h = weaken whole s.index (s.index + 1) lines (omega arith) (places l whole (rest_is whole s.index t tokens h 1))
places (laid {s} {t} {tokens} {stack} k w l) whole h =
    let n = line_len (t ∷ tokens) in
    let long : line_len (t ∷ tokens) ≡ 1 + line_len tokens = cond-true (not (is_line_end t.kind)) (1 + line_len tokens) 0 (ap not k) in
    let fits = prefix_len-le-length (λ (u : Token). not (is_line_end u.kind)) (t ∷ tokens) in
    let size = ap length h in
    let left = length-drop s.index whole in
    let cut : s.index + n - s.index ≡ n = omega arith in (
      omega arith,
      record {
        filled = omega arith;
        within = omega arith;
        whole = ap (λ m. list_all (λ u. not (is_line_end u.kind)) (take m (drop s.index whole))) cut ∙ ap (λ z. list_all (λ u. not (is_line_end u.kind)) (take n z)) (sym h) ∙ run_passes (λ u. not (is_line_end u.kind)) (t ∷ tokens);
        line = λ d.
            let there : get_or whole (s.index + 0) d ≡ t = sym (get_or-drop s.index whole 0 d) ∙ ap (λ z. get_or z 0 d) (sym h) in
            let same : s.index + 0 ≡ s.index = omega arith in
            ap (λ (z : Token). z.line) (sym there ∙ ap (λ i. get_or whole i d) same);
      },
      places l whole (rest_is whole s.index t tokens h n),
    )

pub in_order : (text : List ℕ) (tokens : List Token) (lines : List LogicalLine) → AreLines text tokens lines → AreInOrder tokens 0 lines
in_order text tokens lines a = places a.1 tokens refl
