-- Readers that take a phrase of a kind from the front of the signs, and leave the rest.
use Rattle.std.proofs.Common.{◌≡◌, ℕ, zero, suc, ◌≤◌, List, [], ◌∷◌, ◌++◌, length, Some, refl, sym, ap, ◌∙◌, subst, arith, length-append}
use Rattle.std.proofs.Common.{append_assoc, inl, inr}
use Rattle.std.proofs.lemmas.List.{append-nil}
use Rattle.py_grammar.specs.Reading.{Reader, ◌>>=◌, giving, up_to, mark_at, if_mark, loop_by, loop}
use Rattle.py_grammar.specs.declared.mark.Mark.{Mark}
use Rattle.py_grammar.specs.declared.sign.Sign.{Sign}
use Rattle.py_grammar.specs.declared.sign.Sign.TheVariants.{Mark as The}
use Rattle.py_grammar.proofs.Steps.{some_is, bind_ok, on_ok}
use Rattle.py_grammar.proofs.Marks.{mark_is}

-- what a phrase stands for, and what is kept of it
pub record Spelled {A V : Type 0} (F : List Sign → A → Type 0) (k : A → V) (phrase : List Sign) (v : V) : Type 0 where
  pub tree : A
  pub spells : F phrase tree
  pub kept : k tree ≡ v

-- the front of the signs is such a phrase, and the rest follows it
pub record Takes {V : Type 0} (P : List Sign → V → Type 0) (tokens : List Sign) (r : V × List Sign) : Type 0 where
  pub phrase : List Sign
  pub is : P phrase r.0
  pub whole : tokens ≡ phrase ++ r.1

abbrev pub Sound : {V : Type 0} → (List Sign → V → Type 0) → Reader V → Type 0
Sound {V} P p = (tokens : List Sign) (r : V × List Sign) → p tokens ≡ Some r → Takes P tokens r

abbrev pub Anything : {V : Type 0} → List Sign → V → Type 0
Anything phrase v = Unit {0}

pub shorter : (phrase rest tokens : List Sign) → tokens ≡ phrase ++ rest → length rest ≤ length tokens
shorter phrase rest tokens e = rw e (omega (arith, length-append phrase rest))

pub sound_shorter : {V : Type 0} (P : List Sign → V → Type 0) (p : Reader V) → Sound P p → (tokens : List Sign) (r : V × List Sign)
    → p tokens ≡ Some r → length r.1 ≤ length tokens
sound_shorter P p s tokens r e = let t = s tokens r e in shorter t.phrase r.1 tokens t.whole

-- the same phrase, of another kind
pub weaker : {V : Type 0} (P Q : List Sign → V → Type 0) (tokens : List Sign) (r : V × List Sign)
    → ((xs : List Sign) → P xs r.0 → Q xs r.0) → Takes P tokens r → Takes Q tokens r
weaker P Q tokens r h t = record { phrase = t.phrase; is = h t.phrase t.is; whole = t.whole }

-- nothing is taken
pub takes_none : {V : Type 0} (P : List Sign → V → Type 0) (v : V) (tokens : List Sign) (r : V × List Sign) → P [] v
    → Some (v, tokens) ≡ Some r → Takes P tokens r
takes_none P v tokens r h e = subst (Takes P tokens) (some_is e) (record { phrase = []; is = h; whole = refl })

-- a mark before a phrase
pub after_mark : {V : Type 0} (P : List Sign → V → Type 0) (k : Mark) (tokens rest : List Sign) (r : V × List Sign) → tokens ≡ The k ∷ rest
    → Takes (λ xs v. P (The k ∷ xs) v) rest r → Takes P tokens r
after_mark P k tokens rest r e t = record { phrase = The k ∷ t.phrase; is = t.is; whole = e ∙ ap (λ z. The k ∷ z) t.whole }

-- one phrase after another
pub joined_with : {V W : Type 0} (P : List Sign → V → Type 0) (R : List Sign → W → Type 0) (tokens : List Sign) (a : V × List Sign)
    (r : W × List Sign)
    → (t : Takes P tokens a) → Takes (λ ys w. R (t.phrase ++ ys) w) a.1 r → Takes R tokens r
joined_with P R tokens a r t u = record {
  phrase = t.phrase ++ u.phrase;
  is = u.is;
  whole = t.whole ∙ ap (λ z. t.phrase ++ z) u.whole ∙ sym (append_assoc t.phrase u.phrase r.1);
}

module _ {V W : Type 0} (P : List Sign → V → Type 0) (Q : List Sign → W → Type 0) (p : Reader V) (s : Sound P p) (f : V → W) where
  -- something is made of what was read
  pub giving_sound : ((xs : List Sign) (v : V) → P xs v → Q xs (f v)) → Sound Q (λ tokens. p tokens >>= giving f)
  giving_sound h tokens r e =
      let b = bind_ok (p tokens) (giving f) r e in
      let t = s tokens b.0 b.1 in
      subst (Takes Q tokens) (some_is b.2) (record { phrase = t.phrase; is = h t.phrase b.0.0 t.is; whole = t.whole })

  -- the same, up to a mark
  pub up_to_sound : (k : Mark) → ((xs : List Sign) (v : V) → P xs v → Q (xs ++ The k ∷ []) (f v))
      → Sound Q (λ tokens. p tokens >>= up_to k f)
  up_to_sound k h tokens r e =
      let b = bind_ok (p tokens) (up_to k f) r e in
      let t = s tokens b.0 b.1 in
      let a = bind_ok (mark_at k b.0.1) (λ after. Some (f b.0.0, after)) r b.2 in
      subst (Takes Q tokens) (some_is a.2) (record {
        phrase = t.phrase ++ The k ∷ [];
        is = h t.phrase b.0.0 t.is;
        whole = t.whole ∙ ap (λ z. t.phrase ++ z) (mark_is k b.0.1 a.0 a.1) ∙ sym (append_assoc t.phrase (The k ∷ []) a.0);
      })

-- a mark may follow
pub if_mark_sound : {V : Type 0} (P Q : List Sign → V → Type 0) (p : Reader V) → Sound P p → (k : Mark)
    → ((xs : List Sign) (v : V) → P xs v → Q xs v)
    → ((xs : List Sign) (v : V) → P xs v → Q (xs ++ The k ∷ []) v) → Sound Q (λ tokens. p tokens >>= if_mark k)
if_mark_sound P Q p s k without «with» tokens r e =
    let b = bind_ok (p tokens) (if_mark k) r e in
    let t = s tokens b.0 b.1 in
    elim (on_ok (mark_at k b.0.1) (Some b.0) (λ after. Some (b.0.0, after)) (Some r) b.2) [
      | inl n ↦ subst (Takes Q tokens) (some_is n.1) (record { phrase = t.phrase; is = without t.phrase b.0.0 t.is; whole = t.whole })
      | inr n ↦ subst (Takes Q tokens) (some_is n.2) (record {
        phrase = t.phrase ++ The k ∷ [];
        is = «with» t.phrase b.0.0 t.is;
        whole = t.whole ∙ ap (λ z. t.phrase ++ z) (mark_is k b.0.1 n.0 n.1) ∙ sym (append_assoc t.phrase (The k ∷ []) n.0);
      })
    ]

-- ---- loops

-- a turn makes a longer phrase of a phrase
abbrev pub Turns : {S A : Type 0} → (List Sign → S → Type 0) → Reader A → (S → A → Reader S) → Type 0
Turns {S} {A} P operator turn = (before : List Sign) (s : S) (tokens : List Sign) (o : A × List Sign) (r : S × List Sign)
    → P before s → operator tokens ≡ Some o → turn s o.0 o.1 ≡ Some r → Takes (λ xs v. P (before ++ xs) v) tokens r

module _ {S A : Type 0} (P : List Sign → S → Type 0) (operator : Reader A) (turn : S → A → Reader S) (h : Turns P operator turn) where
  loop_by_sound : (n : ℕ) (before : List Sign) (s : S) (tokens : List Sign) (r : S × List Sign)
      → P before s → loop_by n operator turn s tokens ≡ Some r → Takes (λ xs v. P (before ++ xs) v) tokens r
  loop_by_sound zero before s tokens r sp e = takes_none (λ xs v. P (before ++ xs) v) s tokens r (rw append-nil sp) e
  loop_by_sound (suc n) before s tokens r sp e =
      elim (on_ok (operator tokens) (Some (s, tokens)) (λ o. turn s o.0 o.1 >>= λ r. loop_by n operator turn r.0 r.1) (Some r) e) [
        | inl p ↦ takes_none (λ xs v. P (before ++ xs) v) s tokens r (rw append-nil sp) p.1
        | inr p ↦
            let o = p.0 in
            let b = bind_ok (turn s o.0 o.1) (λ r. loop_by n operator turn r.0 r.1) r p.2 in
            let c = h before s tokens o b.0 sp p.1 b.1 in
            let d = loop_by_sound n (before ++ c.phrase) b.0.0 b.0.1 r c.is b.2 in
            record {
              phrase = c.phrase ++ d.phrase;
              is = rw (← append_assoc) d.is;
              whole = c.whole ∙ ap (λ z. c.phrase ++ z) d.whole ∙ sym (append_assoc c.phrase d.phrase r.1);
            }
      ]

  pub loop_sound : (before : List Sign) (s : S) (tokens : List Sign) (r : S × List Sign)
      → P before s → loop operator turn s tokens ≡ Some r → Takes (λ xs v. P (before ++ xs) v) tokens r
  unfolding loop
  loop_sound before s tokens r sp e = loop_by_sound (length tokens) before s tokens r sp e

  -- a first phrase, and then a loop
  pub level_sound : {M : Type 0} (Q : List Sign → M → Type 0) (operand : Reader M) (first : M → S) → Sound Q operand
      → ((xs : List Sign) (v : M) → Q xs v → P xs (first v)) → Sound P
      (λ tokens. operand tokens >>= λ a. loop operator turn (first a.0) a.1)
  level_sound Q operand first sound lift tokens r e =
      let a = bind_ok (operand tokens) (λ a. loop operator turn (first a.0) a.1) r e in
      let x = sound tokens a.0 a.1 in
      joined_with Q P tokens a.0 r x (loop_sound x.phrase (first a.0.0) a.0.1 r (lift x.phrase a.0.0 x.is) a.2)
