-- What a search that cuts its part rests on: the plan, what a mismatch rules out, and the first place that is left.
use Rattle.std.proofs.Common.{◌≡◌, ℕ, zero, suc, ◌+◌, ◌-◌, ◌<◌, ◌≤◌, max, min, List, [], ◌∷◌, length, get_or, take, drop, Bool, true, false, cond, Some, None, option_map, IsTrue, nat_lt, subst, ap, sym, ◌∙◌, ⊎_elim, arith, ext_get_or, length-drop, get_or-take, get_or-drop, length-take-le}
use Rattle.std.proofs.lemmas.Bool.{cases_lt, false_from_ne_true, ltb-true, lt-ltb}
use Rattle.std.proofs.lemmas.Bool.Decides.{Decides-eqb}
use Rattle.std.proofs.lemmas.List.{get_or_default}
use Rattle.std.proofs.lemmas.Slice.Eq.{slice_eq-Decides}
use Rattle.std.specs.Prelude.{nat_eq}
use lib.Pointwise.{pointwise}
use Rattle.memchr.specs.Critical.{IsPeriod, IsCutPlace}
use Rattle.memchr.specs.Find.{Nowhere}
use Rattle.memchr.specs.TwoWay.{OccursIn}
use Rattle.memchr.proofs.lemmas.CriticalLemmas.{NoPeriodBelow-least, NoPeriodBelow-rest}
use Rattle.memchr.proofs.lemmas.MatchLemmas.{OccursAt-part, OccursAt-from_part}
use Rattle.py_scalars.specs.Plan.{point_of, Precedes, IsPlan}
use Rattle.py_scalars.specs.Search.{begins_with, first_place}
use Rattle.py_scalars.proofs.SearchLemmas.{begins_with-take, begins_with-from_take, place_moves, place_found}

-- ---- the two orders

pub Precedes-trans : (reversed : Bool) (a b c : ℕ) → Precedes reversed a b → Precedes reversed b c → Precedes reversed a c
unfolding Precedes
Precedes-trans false a b c p q = omega arith
Precedes-trans true a b c p q = omega arith

pub Precedes-irrefl : (reversed : Bool) (a : ℕ) → Precedes reversed a a → ⊥
unfolding Precedes
Precedes-irrefl false a p = omega arith
Precedes-irrefl true a p = omega arith

pub Precedes-opposed : (a b : ℕ) → Precedes false a b → Precedes true a b → ⊥
unfolding Precedes
Precedes-opposed a b p q = omega arith

pub Precedes-neither : (reversed : Bool) (a b : ℕ) → (Precedes reversed a b → ⊥) → (Precedes reversed b a → ⊥) → a ≡ b
unfolding Precedes
Precedes-neither false a b p q = omega arith
Precedes-neither true a b p q = omega arith

pub Precedes-above : (reversed : Bool) (a b : ℕ) → reversed ≡ true → (IsTrue (nat_lt b a) → Precedes reversed a b) × (Precedes reversed a b → IsTrue (nat_lt b a))
unfolding Precedes
Precedes-above true a b is_true = (λ e. ltb-true b a e, λ h. lt-ltb b a h)
Precedes-above false a b is_true = cc

pub Precedes-below : (reversed : Bool) (a b : ℕ) → reversed ≡ false → (IsTrue (nat_lt a b) → Precedes reversed a b) × (Precedes reversed a b → IsTrue (nat_lt a b))
unfolding Precedes
Precedes-below false a b is_false = (λ e. ltb-true a b e, λ h. lt-ltb a b h)
Precedes-below true a b is_false = cc

-- ---- code points that were read

pub point_read : (text : List ℕ) (i x : ℕ) → i < length text → x ≡ get_or text i x → x ≡ point_of text i
point_read text i x l is_point = is_point ∙ get_or_default text i x 0 l

pub Precedes-read : (reversed : Bool) (text : List ℕ) (i j a b : ℕ) → i < length text → j < length text → a ≡ get_or text i a → b ≡ get_or text j b → Precedes reversed a b → Precedes reversed (point_of text i) (point_of text j)
Precedes-read reversed text i j a b in_i in_j is_a is_b h =
    subst (λ x. Precedes reversed x (point_of text j)) (point_read text i a in_i is_a) (subst (λ y. Precedes reversed a y) (point_read text j b in_j is_b) h)

-- ---- plans

module _ (part : List ℕ) (cut period : ℕ) (h : IsCutPlace (point_of part) (length part) cut period) where
  -- the period of what follows the cut is the part's
  pub IsPlan-periodic : ((k : ℕ) → k < cut → point_of part k ≡ point_of part (k + period)) → IsPlan part cut period (length part - period)
  IsPlan-periodic same =
      let below = h.below in
      let fits = h.fits in
      let whole : IsPeriod (point_of part) (length part) period = λ k l. ⊎_elim (λ early. same k early) (λ late. h.periodic k late l) (cases_lt k cut) in
      let above = h.above period h.some whole in
      record {
        below = omega arith;
        critical = h.critical;
        moves = h.some;
        fits = omega arith;
        least = NoPeriodBelow-least (point_of part) (length part) cut period h.some h.critical h.periodic h.least;
        keeps = λ k l. (omega arith, omega arith, whole k (omega arith));
      }

  -- it is not: each period of the part is longer than what is before the cut, and than what follows it
  pub IsPlan-long : (((k : ℕ) → k < cut → point_of part k ≡ point_of part (k + period)) → ⊥) → IsPlan part cut (max cut (length part - cut)) 0
  IsPlan-long differs =
      let below = h.below in
      let fits = h.fits in
      let rest = NoPeriodBelow-rest (point_of part) (length part) cut period h.some h.critical h.periodic h.least (λ whole. differs (λ k l. whole k (omega arith))) in
      record {
        below = omega arith;
        critical = h.critical;
        moves = omega arith;
        fits = omega arith;
        least = λ d pos short whole.
            ⊎_elim
            (λ inside. rest d pos inside whole)
            (λ outside. omega (arith, h.above d pos whole))
            (cases_lt d (length part - cut));
        keeps = λ k l. absurd (omega arith);
      }

-- ---- parts of two lists

pub points_agree : (n : ℕ) (xs ys : List ℕ) → take n xs ≡ take n ys → (k : ℕ) → k < n → point_of xs k ≡ point_of ys k
points_agree n xs ys e k l = sym (get_or-take n xs k 0 l) ∙ ap (λ zs. get_or zs k 0) e ∙ get_or-take n ys k 0 l

pub agree_points : (n : ℕ) (xs ys : List ℕ) → n ≤ length xs → n ≤ length ys → ((k : ℕ) → k < n → point_of xs k ≡ point_of ys k) → take n xs ≡ take n ys
agree_points n xs ys in_xs in_ys same =
    let count = length-take-le n xs in_xs in
    ext_get_or 0 (take n xs) (take n ys) (count ∙ sym (length-take-le n ys in_ys))
    (λ k l. get_or-take n xs k 0 (omega arith) ∙ same k (omega arith) ∙ sym (get_or-take n ys k 0 (omega arith)))

pub slices_agree : (xs ys : List ℕ) (p q n m : ℕ) (b : Bool) → p + n ≤ length xs → q + n ≤ length ys → m ≡ n → b ≡ pointwise nat_eq (take n (drop p xs)) (take m (drop q ys))
    → (b ≡ true → (k : ℕ) → k < n → point_of xs (p + k) ≡ point_of ys (q + k)) × (((k : ℕ) → k < n → point_of xs (p + k) ≡ point_of ys (q + k)) → b ≡ true)
slices_agree xs ys p q n m b in_xs in_ys is_n is_b =
    let same = slice_eq-Decides Decides-eqb (take n (drop p xs)) (take m (drop q ys)) b is_b in
    let one = ap (λ i. take i (drop q ys)) is_n in (
      λ e k l. sym (get_or-drop p xs k 0) ∙ points_agree n (drop p xs) (drop q ys) (same.0 e ∙ one) k l ∙ get_or-drop q ys k 0,
      λ h. same.1 (agree_points n (drop p xs) (drop q ys) (omega (arith, length-drop p xs)) (omega (arith, length-drop q ys)) (λ k l. get_or-drop p xs k 0 ∙ h k l ∙ sym (get_or-drop q ys k 0)) ∙ sym one),
    )

pub repeats : (part : List ℕ) (cut period n : ℕ) (b : Bool) → cut + period ≤ length part → n ≡ cut → b ≡ pointwise nat_eq (take cut part) (take n (drop period part))
    → (b ≡ true → (k : ℕ) → k < cut → point_of part k ≡ point_of part (k + period)) × (((k : ℕ) → k < cut → point_of part k ≡ point_of part (k + period)) → b ≡ true)
repeats part cut period n b fits is_cut is_b =
    let agree = slices_agree part part 0 period cut n b (omega arith) (omega arith) is_cut is_b in
    let turned : (k : ℕ) → point_of part (period + k) ≡ point_of part (k + period) = λ k. let places : period + k ≡ k + period = omega arith in ap (point_of part) places in
    let plain : (k : ℕ) → point_of part (0 + k) ≡ point_of part k = λ k. let places : 0 + k ≡ k = omega arith in ap (point_of part) places in
    (λ e k l. sym (plain k) ∙ agree.0 e k l ∙ turned k, λ h. agree.1 (λ k l. plain k ∙ h k l ∙ sym (turned k)))

-- ---- places

-- the part stands at a place of the text
abbrev pub Stands : List ℕ → List ℕ → ℕ → Type 0
Stands part text k = OccursIn (point_of part) (length part) (point_of text) (length text) k

module _ (part text : List ℕ) where
  pub stands-begins : (k : ℕ) → Stands part text k → begins_with part (drop k text) ≡ true
  stands-begins k h =
      begins_with-from_take part (drop k text) (OccursAt-part text part k (record { fits = h.fits; reads = h.reads }))

  pub begins-stands : (k : ℕ) → k ≤ length text → begins_with part (drop k text) ≡ true → Stands part text k
  begins-stands k l h =
      let both = begins_with-take part (drop k text) h in
      let there = OccursAt-from_part text part k (omega (arith, both.0, length-drop k text)) both.1 in
      record { fits = there.fits; reads = there.reads }

  begins-not : (k : ℕ) → k ≤ length text → (Stands part text k → ⊥) → begins_with part (drop k text) ≡ false
  begins-not k l h = false_from_ne_true (begins_with part (drop k text)) (λ e. h (begins-stands k l e))

  -- places at which the part does not stand
  passed : (n from : ℕ) → from + n ≤ length text → Nowhere (Stands part text) from (from + n)
      → option_map (λ k. from + k) (first_place part (drop from text)) ≡ option_map (λ k. from + n + k) (first_place part (drop (from + n) text))
  passed zero from l none =
      let here : from ≡ from + 0 = omega arith in
      ap (λ m. option_map (λ k. m + k) (first_place part (drop m text))) here
  passed (suc n) from l none =
      let on : from + 1 + n ≡ from + suc n = omega arith in
      place_moves part text from (omega arith) (begins-not from (omega arith) (none from (omega arith) (omega arith)))
      ∙ passed n (from + 1) (omega arith) (λ k low high. none k (omega arith) (omega arith))
      ∙ ap (λ m. option_map (λ k. m + k) (first_place part (drop m text))) on

  pub first_stands : (from at : ℕ) → from ≤ at → at ≤ length text → Nowhere (Stands part text) from at → Stands part text at
      → Some at ≡ option_map (λ k. from + k) (first_place part (drop from text))
  first_stands from at low high none stands =
      let on : from + (at - from) ≡ at = omega arith in
      place_found part text at (stands-begins at stands)
      ∙ ap (λ m. option_map (λ k. m + k) (first_place part (drop m text))) (sym on)
      ∙ sym (passed (at - from) from (omega arith) (λ k a b. none k a (omega arith)))

  none_at_end : (rest : List ℕ) → length rest ≡ 0 → begins_with part rest ≡ false → first_place part rest ≡ None
  none_at_end [] e h = ap (λ b. cond b (Some 0) None) h
  none_at_end (c ∷ rest) e h = absurd (omega arith)

  pub nowhere_stands : (from : ℕ) → from ≤ length text → Nowhere (Stands part text) from (length text + 1)
      → None ≡ option_map (λ k. from + k) (first_place part (drop from text))
  nowhere_stands from l none =
      let n = length text - from in
      let end = from + n in
      let last : from + n ≡ length text = omega arith in
      ap (option_map (λ k. end + k)) (sym (none_at_end (drop end text) (omega (arith, length-drop end text)) (begins-not end (omega arith) (none end (omega arith) (omega arith)))))
      ∙ sym (passed n from (omega arith) (λ k a b. none k a (omega arith)))

-- ---- what a try at a place leaves

-- the first `known` code points match, and those from the later of that and the cut up to an end
module _ (part text : List ℕ) (at cut known start end : ℕ) (is_start : start ≡ max cut known)
    (front : (k : ℕ) → k < known → point_of part k ≡ point_of text (at + k))
    (same : (k : ℕ) → start ≤ k → k < end → point_of part k ≡ point_of text (at + k)) where
  pub matches_right : (k : ℕ) → cut ≤ k → k < end → point_of part k ≡ point_of text (at + k)
  matches_right k low high = ⊎_elim (λ early. front k (omega arith)) (λ late. same k late high) (cases_lt k start)

  pub matches_whole : (skipped : ℕ) → skipped ≡ min cut known → length part ≤ end → at + length part ≤ length text
      → ((k : ℕ) → k < cut - skipped → point_of part (skipped + k) ≡ point_of text (at + skipped + k)) → Stands part text at
  matches_whole skipped is_skipped full fits left = record {
    fits = fits;
    reads = λ j l. sym (⊎_elim
        (λ early. front j early)
        (λ later. ⊎_elim
        (λ before.
        let on : skipped + (j - skipped) ≡ j = omega arith in
        let there : at + skipped + (j - skipped) ≡ at + j = omega arith in
        ap (point_of part) (sym on) ∙ left (j - skipped) (omega arith) ∙ ap (point_of text) there)
        (λ behind. matches_right j behind (omega arith))
        (cases_lt j cut))
        (cases_lt j known));
  }

  -- a shift on, what the plan keeps matches
  pub matches_kept : (shift kept : ℕ) → IsPlan part cut shift kept → length part ≤ end → (k : ℕ) → k < kept → point_of part k ≡ point_of text (at + shift + k)
  matches_kept shift kept plan full k l =
      let keeps = plan.keeps k l in
      let there : at + (k + shift) ≡ at + shift + k = omega arith in
      keeps.2 ∙ matches_right (k + shift) keeps.0 (omega (arith, keeps.1)) ∙ ap (point_of text) there
