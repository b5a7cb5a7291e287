-- Steps of reading, and a loop over operators.
use Rattle.std.proofs.Common.{◌≡◌, ℕ, zero, suc, ◌≤◌, ◌<◌, Bool, true, false, if◌then◌else◌, List, length, Option, Some, None, refl, sym}
use Rattle.std.proofs.Common.{ap, ◌∙◌, arith, ◌⊎◌, inl, inr}
use Rattle.py_grammar.specs.Reading.{Reader, ◌>>=◌, on, loop_by, loop}
use Rattle.py_grammar.specs.declared.sign.Sign.{Sign}

pub some_is : {A : Type 0} {x y : A} → Some x ≡ Some y → x ≡ y
some_is e = cc

pub bind_ok : {A B : Type 0} (o : Option A) (f : A → Option B) (y : B) → (o >>= f) ≡ Some y → (x : A) × (o ≡ Some x) × (f x ≡ Some y)
bind_ok (Some x) f y e = (x, refl, e)
bind_ok None f y e = cc

pub bind_same : {A B : Type 0} (o : Option A) (f g : A → Option B) → ((x : A) → o ≡ Some x → f x ≡ g x) → (o >>= f) ≡ (o >>= g)
bind_same (Some x) f g h = h x refl
bind_same None f g h = refl

pub bind_bind : {A B C : Type 0} (o : Option A) (f : A → Option B) (g : B → Option C) → ((o >>= f) >>= g) ≡ (o >>= λ x. f x >>= g)
bind_bind (Some x) f g = refl
bind_bind None f g = refl

pub on_ok : {A B : Type 0} (o : Option A) (b : B) (f : A → B) (y : B) → on o b f ≡ y
    → ((o ≡ None) × (b ≡ y)) ⊎ ((x : A) × (o ≡ Some x) × (f x ≡ y))
on_ok (Some x) b f y e = inr (x, refl, e)
on_ok None b f y e = inl (refl, e)

pub if_ok : {A : Type 0} (b : Bool) (x y : Option A) (z : A) → (if b then x else y) ≡ Some z
    → ((b ≡ true) × (x ≡ Some z)) ⊎ ((b ≡ false) × (y ≡ Some z))
if_ok true x y z e = inl (refl, e)
if_ok false x y z e = inr (refl, e)

pub on_same : {A B : Type 0} (o : Option A) (b : B) (f g : A → B) → ((x : A) → o ≡ Some x → f x ≡ g x) → on o b f ≡ on o b g
on_same (Some x) b f g h = h x refl
on_same None b f g h = refl

pub on_none : {A B : Type 0} (o : Option A) (b : B) (f : A → B) → ((x : A) → o ≡ Some x → ⊥) → on o b f ≡ b
on_none (Some x) b f h = absurd (h x refl)
on_none None b f h = refl

-- an operator takes signs away, and a turn adds none
pub record Shrinks {S A : Type 0} (operator : Reader A) (turn : S → A → Reader S) : Type 0 where
  pub operators : (tokens : List Sign) (o : A × List Sign) → operator tokens ≡ Some o → length o.1 < length tokens
  pub turns : (s : S) (a : A) (tokens : List Sign) (r : S × List Sign) → turn s a tokens ≡ Some r → length r.1 ≤ length tokens

module _ {S A : Type 0} (operator : Reader A) (turn : S → A → Reader S) (h : Shrinks operator turn) where
  loop_same : (n m : ℕ) (s : S) (tokens : List Sign) → length tokens ≤ n → length tokens ≤ m
      → loop_by n operator turn s tokens ≡ loop_by m operator turn s tokens
  loop_same zero zero s tokens p q = refl
  loop_same zero (suc m) s tokens p q = sym (on_none (operator tokens) _ _ (λ o e. let less = h.operators tokens o e in omega arith))
  loop_same (suc n) zero s tokens p q = on_none (operator tokens) _ _ (λ o e. let less = h.operators tokens o e in omega arith)
  loop_same (suc n) (suc m) s tokens p q =
      on_same (operator tokens) _ _ _ (λ o e. bind_same (turn s o.0 o.1) _ _ (λ r er.
      let less = h.operators tokens o e in
      let at_most = h.turns s o.0 o.1 r er in
      loop_same n m r.0 r.1 (omega arith) (omega arith)))

  loop_more : (s : S) (tokens : List Sign) → loop operator turn s tokens ≡ loop_by (suc (length tokens)) operator turn s tokens
  unfolding loop
  loop_more s tokens = loop_same (length tokens) (suc (length tokens)) s tokens (omega arith) (omega arith)

  pub loop_stops : (s : S) (tokens : List Sign) → operator tokens ≡ None → loop operator turn s tokens ≡ Some (s, tokens)
  loop_stops s tokens e =
      loop_more s tokens ∙ ap (λ o. on o (Some (s, tokens)) (λ o. turn s o.0 o.1 >>= λ r. loop_by (length tokens) operator turn r.0 r.1)) e

  pub loop_goes : (s : S) (tokens : List Sign) (o : A × List Sign) → operator tokens ≡ Some o
      → loop operator turn s tokens ≡ (turn s o.0 o.1 >>= λ r. loop operator turn r.0 r.1)
  unfolding loop
  loop_goes s tokens o e =
      loop_more s tokens
      ∙ ap (λ o. on o (Some (s, tokens)) (λ o. turn s o.0 o.1 >>= λ r. loop_by (length tokens) operator turn r.0 r.1)) e
      ∙ bind_same (turn s o.0 o.1) _ _ (λ r er.
      let less = h.operators tokens o e in
      let at_most = h.turns s o.0 o.1 r er in
      loop_same (length tokens) (length r.1) r.0 r.1 (omega arith) (omega arith))
