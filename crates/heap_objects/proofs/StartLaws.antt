-- The starts of runs, and the names of objects.
use Rattle.std.proofs.Common.{◌≡◌, ℕ, zero, suc, ◌+◌, ◌-◌, ◌<◌, ◌≤◌, Bool, true, false, cond, List, [], ◌∷◌, ◌++◌, length, get_or, refl, sym, ap, subst, ◌∙◌, arith}
use Rattle.std.specs.Prelude.{nat_lt}
use Rattle.std.proofs.lemmas.Bool.{lt-ltb, ltb-false, ltb-true}
use Rattle.std.proofs.lemmas.List.{get_or_default}
use Rattle.std.proofs.lemmas.List.Quantifiers.{all_pairs_push}
use Rattle.flow_base.specs.declared.numbers.RunNo.{RunNo}
use Rattle.heap_objects.specs.Starts.{AreAscending, IsBefore}
use Rattle.heap_objects.specs.State.{origin_from}

abbrev start_before : RunNo × ℕ → List (RunNo × ℕ) → ℕ → RunNo × ℕ
start_before last starts zero = last
start_before last [] (suc k) = last
start_before last (s ∷ ss) (suc k) = start_before s ss k

not_lt : (m n : ℕ) → n ≤ m → nat_lt m n ≡ false
not_lt m n le = go (nat_lt m n) refl
  where
    go : (b : Bool) → nat_lt m n ≡ b → nat_lt m n ≡ false
    go true e = let less : m < n = ltb-true m n e in absurd (omega arith)
    go false e = e

rest_before : (s : RunNo × ℕ) (ss : List (RunNo × ℕ)) (o k : ℕ) → IsBefore (s ∷ ss) o (suc k) → IsBefore ss o k
rest_before s ss o k b = record {
  within = omega (arith, b.within);
  below = λ i d lt. b.below (suc i) d (omega arith);
  above = λ i d le lt. b.above (suc i) d (omega arith) (omega arith);
}

pub origin_before : (last : RunNo × ℕ) (starts : List (RunNo × ℕ)) (o k : ℕ) → IsBefore starts o k
    → origin_from last starts o ≡ ((start_before last starts k).0, o - (start_before last starts k).1)
origin_before last [] o zero b = refl
origin_before last [] o (suc k) b = refl
origin_before last (s ∷ ss) o zero b =
    ap (λ (t : Bool). cond t (last.0, o - last.1) (origin_from s ss o)) (lt-ltb o s.1 (b.above 0 s (omega arith) (omega arith)))
origin_before last (s ∷ ss) o (suc k) b =
    ap (λ (t : Bool). cond t (last.0, o - last.1) (origin_from s ss o)) (not_lt o s.1 (b.below 0 s (omega arith)))
    ∙ origin_before s ss o k (rest_before s ss o k b)

pub start_before-at : (last : RunNo × ℕ) (starts : List (RunNo × ℕ)) (k : ℕ) (d : RunNo × ℕ) → k < length starts → start_before last starts (suc k) ≡ get_or starts k d
start_before-at last [] k d lt = absurd (omega arith)
start_before-at last (s ∷ ss) zero d lt = refl
start_before-at last (s ∷ ss) (suc k) d lt = start_before-at s ss k d (omega arith)

-- the name of an object behind some start
pub origin_at : (starts : List (RunNo × ℕ)) (o k n : ℕ) (d : RunNo × ℕ) → IsBefore starts o k → k ≡ suc n
    → origin_from (record { 0 = 0 }, 0) starts o ≡ ((get_or starts n d).0, o - (get_or starts n d).1)
origin_at starts o k n d b e =
    origin_before (record { 0 = 0 }, 0) starts o k b
    ∙ ap (λ (s : RunNo × ℕ). (s.0, o - s.1)) (ap (start_before (record { 0 = 0 }, 0) starts) e ∙ start_before-at (record { 0 = 0 }, 0) starts n d (omega (arith, b.within)))

-- the name of an object before all starts
pub origin_first : (starts : List (RunNo × ℕ)) (o : ℕ) → IsBefore starts o 0 → origin_from (record { 0 = 0 }, 0) starts o ≡ (record { 0 = 0 }, o)
origin_first starts o b =
    let all : o - 0 ≡ o = omega arith in
    origin_before (record { 0 = 0 }, 0) starts o 0 b ∙ ap (λ (n : ℕ). (record { 0 = 0 }, n)) all

-- ---- search

pub below_middle : (starts : List (RunNo × ℕ)) (o m : ℕ) (e : RunNo × ℕ) → AreAscending starts → m < length starts → (get_or starts m e).1 ≤ o
    → (i : ℕ) (d : RunNo × ℕ) → i < m + 1 → (get_or starts i d).1 ≤ o
below_middle starts o m e ascend lt le i d i_lt = go (nat_lt i m) refl
  where
    there : (get_or starts m d).1 ≤ o
    there = subst (λ (s : RunNo × ℕ). s.1 ≤ o) (get_or_default starts m e d lt) le

    go : (b : Bool) → nat_lt i m ≡ b → (get_or starts i d).1 ≤ o
    go true t = let less : (get_or starts i d).1 < (get_or starts m d).1 = ascend i m d (ltb-true i m t) lt in omega (arith, less, there)
    go false t = let same : i ≡ m = omega (arith, ltb-false i m t) in subst (λ (k : ℕ). (get_or starts k d).1 ≤ o) (sym same) there

pub above_middle : (starts : List (RunNo × ℕ)) (o m : ℕ) (e : RunNo × ℕ) → AreAscending starts → o < (get_or starts m e).1
    → (i : ℕ) (d : RunNo × ℕ) → m ≤ i → i < length starts → o < (get_or starts i d).1
above_middle starts o m e ascend above i d le lt = go (nat_lt m i) refl
  where
    there : o < (get_or starts m d).1
    there = subst (λ (s : RunNo × ℕ). o < s.1) (get_or_default starts m e d (omega arith)) above

    go : (b : Bool) → nat_lt m i ≡ b → o < (get_or starts i d).1
    go true t = let less : (get_or starts m d).1 < (get_or starts i d).1 = ascend m i d (ltb-true m i t) lt in omega (arith, less, there)
    go false t = let same : m ≡ i = omega (arith, ltb-false m i t) in subst (λ (k : ℕ). o < (get_or starts k d).1) same there

-- one start more, above all
pub ascending_push : (starts : List (RunNo × ℕ)) (s : RunNo × ℕ) (o : ℕ) → AreAscending starts → s.1 ≡ o → ((i : ℕ) (d : RunNo × ℕ) → i < length starts → (get_or starts i d).1 < o) → AreAscending (starts ++ s ∷ [])
ascending_push starts s o ascend is below i j d lt within =
    all_pairs_push (λ a b. a.1 < b.1) starts s (λ i j d lt within. ascend i j d lt within) (λ k d lt. let less = below k d lt in omega (arith, less, is)) i j d lt within
