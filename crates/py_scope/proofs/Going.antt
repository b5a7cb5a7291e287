-- Walks over lists, part by part.
use Rattle.std.proofs.Common.{◌≡◌, ◌+◌, ◌<◌, ℕ, Bool, true, false, List, [], ◌∷◌, ◌++◌, refl, sym, ap, ◌∙◌, cond, length, map, drop, filter, slice_index_or}
use Rattle.std.specs.List.{flat_map}
use Rattle.std.proofs.lemmas.List.{drop_more}
use Rattle.py_scope.specs.NameLists.{with_names}
use Rattle.flow_base.specs.Names.{with_name}
use Rattle.py_scope.specs.Building.{Built, with_spot, with_spots}
use Rattle.py_scope.specs.Chart.{Spot}

-- the parts from a place on are the part there and those from the next place on
pub joined_head : {A S : Type 0} (f : A → List S) (i : ℕ) (all : List A) (x : A) → i < length all → x ≡ slice_index_or all i x
    → flat_map f (drop i all) ≡ f x ++ flat_map f (drop (i + 1) all)
joined_head f i all x inside is = ap (λ z. flat_map f z) (drop_more all i x inside ∙ ap (λ z. z ∷ drop (i + 1) all) (sym is))

-- what is left to be done after a part, where doing two lists is doing one after the other
pub goes_on : {A S B : Type 0} (does : B → List S → B) → ((b : B) (xs ys : List S) → does b (xs ++ ys) ≡ does (does b xs) ys)
    → (f : A → List S) (i : ℕ) (at next goal : B) (all : List A) (x : A) → i < length all → x ≡ slice_index_or all i x
    → next ≡ does at (f x)
    → does at (flat_map f (drop i all)) ≡ goal → does next (flat_map f (drop (i + 1) all)) ≡ goal
goes_on does joins f i at next goal all x inside is step so_far =
    ap (λ b. does b (flat_map f (drop (i + 1) all))) step
    ∙ sym (joins at (f x) (flat_map f (drop (i + 1) all)))
    ∙ ap (does at) (sym (joined_head f i all x inside is))
    ∙ so_far

-- ---- names

pub with_names_append : (names xs ys : List (List ℕ)) → with_names names (xs ++ ys) ≡ with_names (with_names names xs) ys
with_names_append names [] ys = refl
with_names_append names (x ∷ xs) ys = with_names_append (with_name names x) xs ys

filter_case : (b : Bool) (x : List ℕ) (xs ys : List (List ℕ)) → cond b (x ∷ (xs ++ ys)) (xs ++ ys) ≡ cond b (x ∷ xs) xs ++ ys
filter_case true x xs ys = refl
filter_case false x xs ys = refl

pub filter_joins : (p : List ℕ → Bool) (xs ys : List (List ℕ)) → filter p (xs ++ ys) ≡ filter p xs ++ filter p ys
filter_joins p [] ys = refl
filter_joins p (x ∷ xs) ys =
    ap (λ (z : List (List ℕ)). cond (p x) (x ∷ z) z) (filter_joins p xs ys) ∙ filter_case (p x) x (filter p xs) (filter p ys)

pub with_filtered_append : (p : List ℕ → Bool) (names xs ys : List (List ℕ))
    → with_names names (filter p (xs ++ ys)) ≡ with_names (with_names names (filter p xs)) (filter p ys)
with_filtered_append p names xs ys =
    ap (with_names names) (filter_joins p xs ys) ∙ with_names_append names (filter p xs) (filter p ys)

-- ---- spots

pub with_spots_append : (built : Built) (xs ys : List Spot) → with_spots built (xs ++ ys) ≡ with_spots (with_spots built xs) ys
with_spots_append built [] ys = refl
with_spots_append built (x ∷ xs) ys = with_spots_append (with_spot built x) xs ys

pub in_order_map : {A S : Type 0} (f : A → List S) (xs : List A) → flat_map (λ (m : List S). m) (map f xs) ≡ flat_map f xs
in_order_map f [] = refl
in_order_map f (x ∷ xs) = ap (λ z. f x ++ z) (in_order_map f xs)
