-- Fronts of lists, and texts that are joined of two.
use Rattle.std.proofs.Common.{◌≡◌, ℕ, zero, suc, ◌+◌, ◌≤◌, List, [], ◌∷◌, ◌++◌, length, take, drop, Bool, true, false, ◌&&◌, ◌==◌, ap, sym, ◌∙◌, refl, subst, ⊎_elim, arith}
use Rattle.std.specs.List.{list_all, prefix_len}
use Rattle.std.proofs.lemmas.Bool.{cases_Bool, or_cases, and_parts, and_from, or_left, or_right, cond-true, cond-false, eqb-true}
use Rattle.py_lexer.specs.Form.{joins, is_one_of, one_of}

pub joins_from : (p q : List ℕ → Bool) (a b : List ℕ) → p a ≡ true → q b ≡ true → joins p q (a ++ b) ≡ true
joins_from p q [] [] h k = and_from (p []) (q []) h k
joins_from p q [] (c ∷ b) h k = or_left (p [] && q (c ∷ b)) (joins (λ front. p (c ∷ front)) q b) (and_from (p []) (q (c ∷ b)) h k)
joins_from p q (c ∷ a) b h k = or_right (p [] && q (c ∷ a ++ b)) (joins (λ front. p (c ∷ front)) q (a ++ b)) (joins_from (λ front. p (c ∷ front)) q a b h k)

pub record Parts (p q : List ℕ → Bool) (text : List ℕ) : Type 0 where
  pub front : List ℕ
  pub behind : List ℕ
  pub whole : text ≡ front ++ behind
  pub first : p front ≡ true
  pub second : q behind ≡ true

pub joins_parts : (p q : List ℕ → Bool) (text : List ℕ) → joins p q text ≡ true → Parts p q text
joins_parts p q [] h =
    let both = and_parts (p []) (q []) h in record { front = []; behind = []; whole = refl; first = both.0; second = both.1 }
joins_parts p q (c ∷ text) h =
    ⊎_elim
    (λ here. let both = and_parts (p []) (q (c ∷ text)) here in record { front = []; behind = c ∷ text; whole = refl; first = both.0; second = both.1 })
    (λ there.
    let r = joins_parts (λ front. p (c ∷ front)) q text there in
    record { front = c ∷ r.front; behind = r.behind; whole = ap (λ z. c ∷ z) r.whole; first = r.first; second = r.second })
    (or_cases (p [] && q (c ∷ text)) (joins (λ front. p (c ∷ front)) q text) h)

-- one code point of a list
pub record One (points text : List ℕ) : Type 0 where
  pub point : ℕ
  pub whole : text ≡ point ∷ []
  pub listed : is_one_of points point ≡ true

pub one_parts : (points text : List ℕ) → one_of points text ≡ true → One points text
one_parts points [] h = cc
one_parts points (c ∷ []) h = record { point = c; whole = refl; listed = h }
one_parts points (c ∷ d ∷ text) h = cc

-- what holds of each point of a list holds of one of them
pub listed_has : (p : ℕ → Bool) (points : List ℕ) (c : ℕ) → is_one_of points c ≡ true → list_all p points ≡ true → p c ≡ true
listed_has p [] c h all = cc
listed_has p (d ∷ points) c h all =
    let both = and_parts (p d) (list_all p points) all in
    ⊎_elim (λ e. ap p (eqb-true c d e) ∙ both.0) (λ there. listed_has p points c there both.1) (or_cases (c == d) (is_one_of points c) h)

-- ---- a front

one_more : (n : ℕ) → 1 + n ≡ suc n
one_more n = omega arith

take_nil : (n : ℕ) → let none : List ℕ = [] in take n none ≡ none
take_nil zero = refl
take_nil (suc n) = refl

pub take_add : (m n : ℕ) (text : List ℕ) → take (m + n) text ≡ take m text ++ take n (drop m text)
take_add zero n text = let e : 0 + n ≡ n = omega arith in ap (λ k. take k text) e
take_add (suc m) n [] =
    let none : List ℕ = [] in
    let e : suc m + n ≡ suc (m + n) = omega arith in ap (λ k. take k none) e ∙ sym (take_nil n)
take_add (suc m) n (c ∷ text) =
    let e : suc m + n ≡ suc (m + n) = omega arith in ap (λ k. take k (c ∷ text)) e ∙ ap (λ z. c ∷ z) (take_add m n text)

-- ---- a run

-- what follows a run does not pass the test
abbrev pub Stops : (ℕ → Bool) → List ℕ → Type 0
Stops p [] = Unit {0}
Stops p (c ∷ cs) = p c ≡ false

pub run_stops : (p : ℕ → Bool) (text : List ℕ) → Stops p (drop (prefix_len p text) text)
run_stops p [] = tt
run_stops p (c ∷ text) =
    ⊎_elim
    (λ e. subst (λ n. Stops p (drop n (c ∷ text))) (sym (cond-true (p c) (1 + prefix_len p text) 0 e ∙ one_more (prefix_len p text))) (run_stops p text))
    (λ e. subst (λ n. Stops p (drop n (c ∷ text))) (sym (cond-false (p c) (1 + prefix_len p text) 0 e)) e)
    (cases_Bool (p c))

pub run_passes : (p : ℕ → Bool) (text : List ℕ) → list_all p (take (prefix_len p text) text) ≡ true
run_passes p [] = refl
run_passes p (c ∷ text) =
    ⊎_elim
    (λ e. ap (λ n. list_all p (take n (c ∷ text))) (cond-true (p c) (1 + prefix_len p text) 0 e ∙ one_more (prefix_len p text)) ∙ and_from (p c) _ e (run_passes p text))
    (λ e. ap (λ n. list_all p (take n (c ∷ text))) (cond-false (p c) (1 + prefix_len p text) 0 e))
    (cases_Bool (p c))

pub run_exact : (p : ℕ → Bool) (front rest : List ℕ) → list_all p front ≡ true → Stops p rest → prefix_len p (front ++ rest) ≡ length front
run_exact p [] [] h s = refl
run_exact p [] (c ∷ rest) h s = cond-false (p c) (1 + prefix_len p rest) 0 s
run_exact p (c ∷ front) rest h s =
    let both = and_parts (p c) (list_all p front) h in
    let more = run_exact p front rest both.1 s in
    cond-true (p c) (1 + prefix_len p (front ++ rest)) 0 both.0 ∙ omega arith

pub run_least : (p : ℕ → Bool) (front rest : List ℕ) → list_all p front ≡ true → length front ≤ prefix_len p (front ++ rest)
run_least p [] rest h = omega arith
run_least p (c ∷ front) rest h =
    let both = and_parts (p c) (list_all p front) h in
    let more = run_least p front rest both.1 in
    let e = cond-true (p c) (1 + prefix_len p (front ++ rest)) 0 both.0 in
    omega arith

-- a run ends where the test fails
pub run_most : (p : ℕ → Bool) (front : List ℕ) (c : ℕ) (rest : List ℕ) → p c ≡ false → prefix_len p (front ++ c ∷ rest) ≤ length front
run_most p [] c rest h = let e = cond-false (p c) (1 + prefix_len p rest) 0 h in omega arith
run_most p (d ∷ front) c rest h =
    let more = run_most p front c rest h in
    ⊎_elim
    (λ e. let f = cond-true (p d) (1 + prefix_len p (front ++ c ∷ rest)) 0 e in omega arith)
    (λ e. let f = cond-false (p d) (1 + prefix_len p (front ++ c ∷ rest)) 0 e in omega arith)
    (cases_Bool (p d))
