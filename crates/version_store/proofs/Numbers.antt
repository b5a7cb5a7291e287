-- On the numbers of locations.
use Rattle.std.proofs.Common.{◌≡◌, ℕ, suc, ◌+◌, Bool, true, false, cond, List, [], ◌∷◌, ◌++◌, length, refl, sym, subst, ap, ◌∙◌, arith, eq-eqb}
use Rattle.std.specs.Prelude.{Option, Some, None, ◌==◌}
use Rattle.std.specs.BTreeMap.{BTreeMap}
use Rattle.std.proofs.lemmas.Bool.{true≢false}
use Rattle.flow_base.specs.Same.{loc_eq}
use Rattle.flow_base.proofs.SameLaws.{same_loc_true}
use Rattle.flow_base.specs.declared.loc.Loc.{Loc}
use Rattle.trace_events.specs.Trace.{or_else}
use Rattle.version_store.specs.Hash.{hash_loc}
use Rattle.version_store.specs.Table.{Adds, IsIndex, number_from, number_in, number_of, pairs_at}

-- a choice before one that may lack
pub or_else-cond : {T : Type 0} (b : Bool) (x : T) (o other : Option T) → or_else (cond b (Some x) o) other ≡ cond b (Some x) (or_else o other)
or_else-cond true x o other = refl
or_else-cond false x o other = refl

-- what is there or lacks is as it is
pub or_else-none : {T : Type 0} (o : Option T) → or_else o None ≡ o
or_else-none None = refl
or_else-none (Some x) = refl

-- with one location more
pub number_from-push : (n : ℕ) (l x : Loc) (xs : List Loc) → number_from n l (xs ++ x ∷ []) ≡ or_else (number_from n l xs) (cond (loc_eq x l) (Some (n + length xs)) None)
number_from-push n l x [] = let same : n ≡ n + 0 = omega arith in ap (λ m. cond (loc_eq x l) (Some m) None) same
number_from-push n l x (y ∷ ys) =
    let same : suc n + length ys ≡ n + suc (length ys) = omega arith in
    ap (λ o. cond (loc_eq y l) (Some n) o) (number_from-push (suc n) l x ys ∙ ap (λ m. or_else (number_from (suc n) l ys) (cond (loc_eq x l) (Some m) None)) same)
    ∙ sym (or_else-cond (loc_eq y l) n (number_from (suc n) l ys) (cond (loc_eq x l) (Some (n + suc (length ys))) None))

number_of-push : (l x : Loc) (xs : List Loc) → number_of l (xs ++ x ∷ []) ≡ or_else (number_of l xs) (cond (loc_eq x l) (Some (length xs)) None)
number_of-push l x xs =
    let same : 0 + length xs ≡ length xs = omega arith in
    number_from-push 0 l x xs ∙ ap (λ m. or_else (number_of l xs) (cond (loc_eq x l) (Some m) None)) same

-- with one pair more
number_in-push : (l : Loc) (e : Loc × ℕ) (es : List (Loc × ℕ)) → number_in l (es ++ e ∷ []) ≡ or_else (number_in l es) (cond (loc_eq e.0 l) (Some e.1) None)
number_in-push l e [] = refl
number_in-push l e (f ∷ fs) =
    ap (λ o. cond (loc_eq f.0 l) (Some f.1) o) (number_in-push l e fs)
    ∙ sym (or_else-cond (loc_eq f.0 l) f.1 (number_in l fs) (cond (loc_eq e.0 l) (Some e.1) None))

-- the pairs at the hash of a location, where one pair more is put at the hash of another
added_cases : (k l : Loc) (n : ℕ) (es : List (Loc × ℕ)) (b t : Bool) → loc_eq l k ≡ b → (hash_loc k == hash_loc l) ≡ t
    → number_in k (cond t (es ++ (l, n) ∷ []) es) ≡ or_else (number_in k es) (cond b (Some n) None)
added_cases k l n es true true e f = number_in-push k (l, n) es ∙ ap (λ b. or_else (number_in k es) (cond b (Some n) None)) e
added_cases k l n es true false e f =
    absurd (true≢false (sym (eq-eqb (hash_loc k) (hash_loc l) (ap hash_loc (sym (same_loc_true l k e)))) ∙ f))
added_cases k l n es false true e f = number_in-push k (l, n) es ∙ ap (λ b. or_else (number_in k es) (cond b (Some n) None)) e
added_cases k l n es false false e f = sym (or_else-none (number_in k es))

-- the index of a list with one location more
pub index_more : (m new : BTreeMap ℕ (List (Loc × ℕ))) (xs : List Loc) (l : Loc) (n : ℕ) → n ≡ length xs → IsIndex m xs → Adds m new (hash_loc l) (l, n)
    → IsIndex new (xs ++ l ∷ [])
index_more m new xs l n count index adds k =
    ap (number_in k) (adds (hash_loc k))
    ∙ added_cases k l n (pairs_at m (hash_loc k)) (loc_eq l k) (hash_loc k == hash_loc l) refl refl
    ∙ ap (λ o. or_else o (cond (loc_eq l k) (Some n) None)) (index k)
    ∙ ap (λ x. or_else (number_of k xs) (cond (loc_eq l k) (Some x) None)) count
    ∙ sym (number_of-push k l xs)

-- the index of the same list, where every pair is found as before
pub index_kept : (m new : BTreeMap ℕ (List (Loc × ℕ))) (xs : List Loc) → IsIndex m xs → ((h : ℕ) → pairs_at new h ≡ pairs_at m h) → IsIndex new xs
index_kept m new xs index same k = ap (number_in k) (same (hash_loc k)) ∙ index k

-- the same where what was added is told by equations
pub added_index : (m new : BTreeMap ℕ (List (Loc × ℕ))) (xs ys zs : List Loc) (l found listed : Loc) (hash n : ℕ) → IsIndex m xs → n ≡ length xs
    → hash ≡ hash_loc l → found ≡ l → listed ≡ l → Adds m new hash (found, n) → ys ≡ xs → zs ≡ ys ++ listed ∷ [] → IsIndex new zs
added_index m new xs ys zs l found listed hash n index count hash_is found_is listed_is adds ys_is zs_is =
    let all : zs ≡ xs ++ l ∷ [] = cc in
    let here : Adds m new (hash_loc l) (l, n) =
    subst (λ (x : Loc). Adds m new (hash_loc l) (x, n)) found_is (subst (λ (h : ℕ). Adds m new h (found, n)) hash_is adds) in
    subst (λ (x : List Loc). IsIndex new x) (sym all) (index_more m new xs l n count index here)
