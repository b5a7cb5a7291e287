-- The stamps that are listed under numbers.
use Rattle.std.proofs.Common.{◌≡◌, ◌≢◌, ℕ, zero, suc, ◌<◌, Bool, true, false, cond, List, [], ◌∷◌, ◌++◌, length, take, drop, get_or, refl, sym, ap, ◌∙◌, arith, ◌+◌, eq-eqb, eqb-true, ne_eqb}
use Rattle.std.specs.Prelude.{◌==◌, Result, Ok, Err, OnOk, OnErr}
use Rattle.std.proofs.lemmas.Bool.{false≢true}
use Rattle.heap_objects.specs.Stamps.{has_stamp, without_first}

-- ---- answers

pub on_ok : {T E : Type 0} (r : Result T E) (P Q : Type 0) → (P → Q) → OnOk r P → OnOk r Q
on_ok (Ok x) P Q f h = f h
on_ok (Err e) P Q f h = tt

pub always : {T E : Type 0} (r : Result T E) (P : Type 0) → P → OnOk r P
always (Ok x) P h = h
always (Err e) P h = tt

pub either_way : {T E : Type 0} (r : Result T E) (P Q R : Type 0) → (P → R) → (Q → R) → OnOk r P → OnErr r Q → R
either_way (Ok x) P Q R f g h k = f h
either_way (Err e) P Q R f g h k = g k

-- ---- stamps

pub has_stamp-push : (ts : List ℕ) (s : ℕ) → has_stamp (ts ++ s ∷ []) s ≡ true
has_stamp-push [] s = ap (λ (b : Bool). cond b true false) (eq-eqb s s refl)
has_stamp-push (t ∷ ts) s = go (t == s) (has_stamp-push ts s)
  where
    go : (b : Bool) → has_stamp (ts ++ s ∷ []) s ≡ true → cond b true (has_stamp (ts ++ s ∷ []) s) ≡ true
    go true e = refl
    go false e = e

pub has_stamp-more : (ts us : List ℕ) (s : ℕ) → has_stamp ts s ≡ true → has_stamp (ts ++ us) s ≡ true
has_stamp-more [] us s h = absurd (false≢true h)
has_stamp-more (t ∷ ts) us s h = go (t == s) (has_stamp-more ts us s) h
  where
    go : (b : Bool) → (has_stamp ts s ≡ true → has_stamp (ts ++ us) s ≡ true) → cond b true (has_stamp ts s) ≡ true → cond b true (has_stamp (ts ++ us) s) ≡ true
    go true f h = refl
    go false f h = f h

pub has_stamp-other : (ts : List ℕ) (i s t : ℕ) → i < length ts → get_or ts i s ≡ s → t ≢ s → has_stamp (take i ts ++ drop (suc i) ts) t ≡ has_stamp ts t
has_stamp-other [] i s t lt is other = absurd (omega arith)
has_stamp-other (u ∷ ts) zero s t lt is other =
    let apart : u ≢ t = λ e. other (sym e ∙ is) in
    sym (ap (λ (b : Bool). cond b true (has_stamp ts t)) (ne_eqb u t apart))
has_stamp-other (u ∷ ts) (suc i) s t lt is other = ap (λ (x : Bool). cond (u == t) true x) (has_stamp-other ts i s t (omega arith) is other)

-- ---- lists of stamps by their numbers

-- the list at a number with one stamp more there
pub listed_there : (at next : ℕ → List ℕ) (number stamp : ℕ) → ((n : ℕ) → next n ≡ cond (n == number) (at n ++ stamp ∷ []) (at n)) → has_stamp (next number) stamp ≡ true
listed_there at next number stamp adds =
    ap (λ (x : List ℕ). has_stamp x stamp) (adds number ∙ ap (λ (b : Bool). cond b (at number ++ stamp ∷ []) (at number)) (eq-eqb number number refl))
    ∙ has_stamp-push (at number) stamp

pub listed_still : (at next : ℕ → List ℕ) (number stamp : ℕ) → ((n : ℕ) → next n ≡ cond (n == number) (at n ++ stamp ∷ []) (at n))
    → (n t : ℕ) → has_stamp (at n) t ≡ true → has_stamp (next n) t ≡ true
listed_still at next number stamp adds n t h = ap (λ (x : List ℕ). has_stamp x t) (adds n) ∙ go (n == number)
  where
    go : (b : Bool) → has_stamp (cond b (at n ++ stamp ∷ []) (at n)) t ≡ true
    go true = has_stamp-more (at n) (stamp ∷ []) t h
    go false = h

-- ---- without one stamp

either_none : (b c : Bool) → cond b true c ≡ false → (b ≡ false) × (c ≡ false)
either_none true c h = absurd (false≢true (sym h))
either_none false c h = (refl, h)

-- the stamp stands at a place and nowhere before it
pub without-at : (ts : List ℕ) (i s : ℕ) → i < length ts → get_or ts i s ≡ s → has_stamp (take i ts) s ≡ false → take i ts ++ drop (suc i) ts ≡ without_first ts s
without-at [] i s lt is none = absurd (omega arith)
without-at (t ∷ ts) zero s lt is none = sym (ap (λ (b : Bool). cond b ts (t ∷ without_first ts s)) (eq-eqb t s is))
without-at (t ∷ ts) (suc i) s lt is none =
    let apart = either_none (t == s) (has_stamp (take i ts) s) none in
    ap (λ (x : List ℕ). t ∷ x) (without-at ts i s (omega arith) is apart.1) ∙ sym (ap (λ (b : Bool). cond b ts (t ∷ without_first ts s)) apart.0)

pub without-none : (ts : List ℕ) (s : ℕ) → has_stamp ts s ≡ false → without_first ts s ≡ ts
without-none [] s none = refl
without-none (t ∷ ts) s none =
    let apart = either_none (t == s) (has_stamp ts s) none in
    ap (λ (b : Bool). cond b ts (t ∷ without_first ts s)) apart.0 ∙ ap (λ (x : List ℕ). t ∷ x) (without-none ts s apart.1)

-- one place more before which it does not stand
pub none-before : (ts : List ℕ) (i s : ℕ) → i < length ts → get_or ts i s ≢ s → has_stamp (take i ts) s ≡ false → has_stamp (take (i + 1) ts) s ≡ false
none-before ts i s lt other none = ap (λ (n : ℕ). has_stamp (take n ts) s) (sym next) ∙ go ts i lt other none
  where
    next : suc i ≡ i + 1
    next = omega arith

    go : (ts : List ℕ) (i : ℕ) → i < length ts → get_or ts i s ≢ s → has_stamp (take i ts) s ≡ false → has_stamp (take (suc i) ts) s ≡ false
    go [] i lt other none = absurd (omega arith)
    go (t ∷ ts) zero lt other none = ap (λ (b : Bool). cond b true false) (ne_eqb t s other)
    go (t ∷ ts) (suc i) lt other none =
        let apart = either_none (t == s) (has_stamp (take i ts) s) none in
        ap (λ (b : Bool). cond b true (has_stamp (take (suc i) ts) s)) apart.0 ∙ go ts i (omega arith) other apart.1

other_stamp : (ts : List ℕ) (s t : ℕ) → t ≢ s → has_stamp (without_first ts s) t ≡ has_stamp ts t
other_stamp [] s t other = refl
other_stamp (u ∷ ts) s t other = go (u == s) refl (other_stamp ts s t other)
  where
    go : (b : Bool) → (u == s) ≡ b → has_stamp (without_first ts s) t ≡ has_stamp ts t → has_stamp (cond b ts (u ∷ without_first ts s)) t ≡ cond (u == t) true (has_stamp ts t)
    go true e rest = sym (ap (λ (b : Bool). cond b true (has_stamp ts t)) (ne_eqb u t (λ p. other (sym p ∙ eqb-true u s e))))
    go false e rest = ap (λ (x : Bool). cond (u == t) true x) rest

-- the list at a number without one stamp there
pub unlisted_still : (at next : ℕ → List ℕ) (number stamp : ℕ) → ((n : ℕ) → next n ≡ cond (n == number) (without_first (at n) stamp) (at n))
    → (n t : ℕ) → t ≢ stamp → has_stamp (at n) t ≡ true → has_stamp (next n) t ≡ true
unlisted_still at next number stamp takes n t other h = ap (λ (x : List ℕ). has_stamp x t) (takes n) ∙ go (n == number)
  where
    go : (b : Bool) → has_stamp (cond b (without_first (at n) stamp) (at n)) t ≡ true
    go true = other_stamp (at n) stamp t other ∙ h
    go false = h
