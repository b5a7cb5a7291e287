-- Names that stand in a list once.
use Rattle.std.proofs.Common.{◌≡◌, ℕ, List, [], ◌∷◌, ◌++◌, Bool, true, false, ◌&&◌, ◌||◌, not, refl, ap, ◌∙◌, sym, Option, Some, None, is_some, if◌then◌else◌, bytes_eq}
use Rattle.std.specs.List.{list_any}
use Rattle.flow_base.specs.Names.{symbol_of, next_sym}
use Rattle.flow_base.specs.declared.numbers.Sym.{Sym}
use Rattle.py_grammar.specs.Reading.{is_distinct}
use Rattle.py_line.specs.Joined.{all_new}

abbrev has : List (List ℕ) → List ℕ → Bool
has seen x = is_some (symbol_of seen x)

-- none of the names is among those that were seen
abbrev apart : List (List ℕ) → List (List ℕ) → Bool
apart seen [] = true
apart seen (x ∷ xs) = not (has seen x) && apart seen xs

has_head : (b : Bool) (s : Sym) (o : Option Sym) → is_some (if b then Some s else next_sym o) ≡ b || is_some o
has_head true s o = refl
has_head false s (Some t) = refl
has_head false s None = refl

or_assoc : (a b c : Bool) → a || (b || c) ≡ (a || b) || c
or_assoc true b c = refl
or_assoc false b c = refl

or_false : (a : Bool) → a || false ≡ a
or_false true = refl
or_false false = refl

has_pushed : (seen : List (List ℕ)) (x y : List ℕ) → has (seen ++ x ∷ []) y ≡ has seen y || bytes_eq x y
has_pushed [] x y = has_head (bytes_eq x y) (record { 0 = 0 }) None ∙ or_false (bytes_eq x y)
has_pushed (z ∷ seen) x y =
    has_head (bytes_eq z y) (record { 0 = 0 }) (symbol_of (seen ++ x ∷ []) y)
    ∙ ap (λ (w : Bool). bytes_eq z y || w) (has_pushed seen x y)
    ∙ or_assoc (bytes_eq z y) (has seen y) (bytes_eq x y)
    ∙ ap (λ (w : Bool). w || bytes_eq x y) (sym (has_head (bytes_eq z y) (record { 0 = 0 }) (symbol_of seen y)))

regroup : (h b a l : Bool) → not (h || b) && (a && not l) ≡ (not h && a) && not (b || l)
regroup true b a l = refl
regroup false true true l = refl
regroup false true false l = refl
regroup false false true l = refl
regroup false false false l = refl

apart_pushed : (seen : List (List ℕ)) (x : List ℕ) (xs : List (List ℕ)) → apart (seen ++ x ∷ []) xs ≡ apart seen xs && not (list_any (bytes_eq x) xs)
apart_pushed seen x [] = refl
apart_pushed seen x (y ∷ ys) =
    ap (λ (w : Bool). not w && apart (seen ++ x ∷ []) ys) (has_pushed seen x y)
    ∙ ap (λ (w : Bool). not (has seen y || bytes_eq x y) && w) (apart_pushed seen x ys)
    ∙ regroup (has seen y) (bytes_eq x y) (apart seen ys) (list_any (bytes_eq x) ys)

take_out : (h a l d : Bool) → not h && ((a && l) && d) ≡ (not h && a) && (l && d)
take_out true a l d = refl
take_out false true l d = refl
take_out false false l d = refl

all_new_is : (seen xs : List (List ℕ)) → all_new seen xs ≡ apart seen xs && is_distinct xs
all_new_is seen [] = refl
all_new_is seen (x ∷ xs) =
    ap (λ (w : Bool). not (has seen x) && w) (all_new_is (seen ++ x ∷ []) xs ∙ ap (λ (w : Bool). w && is_distinct xs) (apart_pushed seen x xs))
    ∙ take_out (has seen x) (apart seen xs) (not (list_any (bytes_eq x) xs)) (is_distinct xs)

apart_none : (xs : List (List ℕ)) → apart [] xs ≡ true
apart_none [] = refl
apart_none (x ∷ xs) = apart_none xs

distinct_is_new : (xs : List (List ℕ)) → all_new [] xs ≡ is_distinct xs
distinct_is_new xs = all_new_is [] xs ∙ ap (λ (w : Bool). w && is_distinct xs) (apart_none xs)

pub distinct_from_none : (seen xs : List (List ℕ)) → seen ≡ [] → all_new seen xs ≡ is_distinct xs
distinct_from_none seen xs e = ap (λ (z : List (List ℕ)). all_new z xs) e ∙ distinct_is_new xs
