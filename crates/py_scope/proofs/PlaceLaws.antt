-- Slots that places name.
use Rattle.std.proofs.Common.{◌≡◌, ℕ, suc, ◌+◌, Bool, true, false, cond, List, [], ◌∷◌, slice_get, IsTrue, Option, Some, None, option_map, is_some, refl, subst, arith}
use Rattle.std.specs.Option.{unwrap_or}
use Rattle.flow_base.specs.Names.{symbol_of}
use Rattle.flow_base.specs.declared.numbers.Sym.{Sym}
use Rattle.py_scope.specs.NameLists.{has, place_in_list}
use Rattle.py_scope.specs.Scopes.{IsBoundInClass, IsSlot, decided, functions, in_class, in_function, is_function, outer_place, place_of}
use Rattle.py_scope.specs.declared.place.NamePlace.{NamePlace}
use Rattle.py_scope.specs.declared.place.NamePlace.TheVariants.{Local, Free, Global, ClassBody}
use Rattle.py_scope.specs.declared.scope.Scope.{Scope}

-- the text at the place of a symbol is its text
abbrev pub TextAt : Type 0
TextAt = (names : List (List ℕ)) (x : List ℕ) (symbol : Sym) → symbol_of names x ≡ Some symbol → slice_get names symbol.0 ≡ Some x

slot_case : TextAt → (names : List (List ℕ)) (x : List ℕ) (slot : ℕ) (o : Option Sym) → symbol_of names x ≡ o
    → option_map (λ (s : Sym). s.0) o ≡ Some slot
    → slice_get names slot ≡ Some x
slot_case texts names x slot None is e = cc
slot_case texts names x slot (Some s) is e =
    let same : s.0 ≡ slot = cc in
    subst (λ (k : ℕ). slice_get names k ≡ Some x) same (texts names x s is)

slot_text : TextAt → (names : List (List ℕ)) (x : List ℕ) (slot : ℕ) → place_in_list names x ≡ Some slot → slice_get names slot ≡ Some x
slot_text texts names x slot e = slot_case texts names x slot (symbol_of names x) refl e

-- ---- names that are free

-- a name that is free is at no other place
abbrev IsOuter : NamePlace → Type 0
IsOuter (Local slot) = ⊥
IsOuter (Free hops slot) = Unit {0}
IsOuter Global = Unit {0}
IsOuter ClassBody = ⊥

outer_case : (b : Bool) (from : ℕ) (own : Option ℕ) (g : Bool) (further same : NamePlace) → IsOuter further → IsOuter same
    → IsOuter (cond b (unwrap_or (decided from own g) further) same)
outer_case false from own g further same p q = q
outer_case true from (Some slot) g further same p q = tt
outer_case true from None true further same p q = tt
outer_case true from None false further same p q = p

is_outer : (from : ℕ) (round : List Scope) (x : List ℕ) → IsOuter (outer_place from round x)
is_outer from [] x = tt
is_outer from (s ∷ round) x =
    outer_case (is_function s.kind) from (place_in_list s.locals x) (has s.globals x) (outer_place (from + 1) round x)
    (outer_place from round x)
    (is_outer (from + 1) round x) (is_outer from round x)

-- the slot of a free name, in the function so many further out
abbrev IsFurther : ℕ → List Scope → List ℕ → ℕ → ℕ → Type 0
IsFurther from fs x hops slot = (k : ℕ) × (hops ≡ from + k) × IsSlot (slice_get fs k) slot x

further_case : TextAt → (b : Bool) (from : ℕ) (s : Scope) (fs : List Scope) (x : List ℕ) (hops slot : ℕ) (own : Option ℕ)
    → place_in_list s.locals x ≡ own
    → (g : Bool) (further same : NamePlace) → (further ≡ Free hops slot → IsFurther (from + 1) fs x hops slot)
    → (same ≡ Free hops slot → IsFurther from fs x hops slot)
    → cond b (unwrap_or (decided from own g) further) same ≡ Free hops slot → IsFurther from (cond b (s ∷ fs) fs) x hops slot
further_case texts false from s fs x hops slot own is g further same p q e = q e
further_case texts true from s fs x hops slot (Some i) is g further same p q e =
    let at : from ≡ hops = cc in
    let here : i ≡ slot = cc in
    (0, omega arith, subst (λ (k : ℕ). slice_get s.locals k ≡ Some x) here (slot_text texts s.locals x i is))
further_case texts true from s fs x hops slot None is true further same p q e = cc
further_case texts true from s fs x hops slot None is false further same p q e =
    let w = p e in
    let at : hops ≡ from + 1 + w.0 = w.1 in
    (suc w.0, omega arith, w.2)

further : TextAt → (from : ℕ) (round : List Scope) (x : List ℕ) (hops slot : ℕ) → outer_place from round x ≡ Free hops slot
    → IsFurther from (functions round) x hops slot
further texts from [] x hops slot e = cc
further texts from (s ∷ round) x hops slot e =
    further_case texts (is_function s.kind) from s (functions round) x hops slot (place_in_list s.locals x) refl (has s.globals x)
    (outer_place (from + 1) round x) (outer_place from round x) (further texts (from + 1) round x hops slot)
    (further texts from round x hops slot) e

-- ---- names that are used in a body

local_case : TextAt → (b : Bool) (s : Scope) (fs : List Scope) (x : List ℕ) (slot : ℕ) (own : Option ℕ) → place_in_list s.locals x ≡ own
    → (g : Bool) (further same : NamePlace) → IsOuter further → IsOuter same
    → cond b (in_function own g further) (in_class own same) ≡ Local slot → IsSlot (slice_get (cond b (s ∷ fs) fs) 0) slot x
local_case texts true s fs x slot (Some i) is g further same p q e =
    let here : i ≡ slot = cc in
    subst (λ (k : ℕ). slice_get s.locals k ≡ Some x) here (slot_text texts s.locals x i is)
local_case texts true s fs x slot None is true further same p q e = cc
local_case texts true s fs x slot None is false further same p q e = absurd (subst IsOuter e p)
local_case texts false s fs x slot (Some i) is g further same p q e = cc
local_case texts false s fs x slot None is g further same p q e = absurd (subst IsOuter e q)

pub local_slot : TextAt → (round : List Scope) (x : List ℕ) (slot : ℕ) → place_of round x ≡ Local slot
    → IsSlot (slice_get (functions round) 0) slot x
local_slot texts [] x slot e = cc
local_slot texts (s ∷ round) x slot e =
    local_case texts (is_function s.kind) s (functions round) x slot (place_in_list s.locals x) refl (has s.globals x)
    (outer_place 1 round x) (outer_place 0 round x)
    (is_outer 1 round x) (is_outer 0 round x) e

free_case : (b : Bool) (s : Scope) (fs : List Scope) (x : List ℕ) (hops slot : ℕ) (own : Option ℕ) (g : Bool) (further same : NamePlace)
    → (further ≡ Free hops slot → IsFurther 1 fs x hops slot) → (same ≡ Free hops slot → IsFurther 0 fs x hops slot)
    → cond b (in_function own g further) (in_class own same) ≡ Free hops slot → IsSlot (slice_get (cond b (s ∷ fs) fs) hops) slot x
free_case true s fs x hops slot (Some i) g further same p q e = cc
free_case true s fs x hops slot None true further same p q e = cc
free_case true s fs x hops slot None false further same p q e =
    let w = p e in
    let at : suc w.0 ≡ hops = omega (arith, w.1) in
    subst (λ (k : ℕ). IsSlot (slice_get (s ∷ fs) k) slot x) at w.2
free_case false s fs x hops slot (Some i) g further same p q e = cc
free_case false s fs x hops slot None g further same p q e =
    let w = q e in
    let at : w.0 ≡ hops = omega (arith, w.1) in
    subst (λ (k : ℕ). IsSlot (slice_get fs k) slot x) at w.2

pub free_slot : TextAt → (round : List Scope) (x : List ℕ) (hops slot : ℕ) → place_of round x ≡ Free hops slot
    → IsSlot (slice_get (functions round) hops) slot x
free_slot texts [] x hops slot e = cc
free_slot texts (s ∷ round) x hops slot e =
    free_case (is_function s.kind) s (functions round) x hops slot (place_in_list s.locals x) (has s.globals x) (outer_place 1 round x)
    (outer_place 0 round x)
    (further texts 1 round x hops slot) (further texts 0 round x hops slot) e

-- ---- names that a class has

has_case : (o : Option Sym) (i : ℕ) → option_map (λ (s : Sym). s.0) o ≡ Some i → IsTrue (is_some o)
has_case None i e = cc
has_case (Some s) i e = refl

class_case : (b : Bool) (s : Scope) (x : List ℕ) (own : Option ℕ) → place_in_list s.locals x ≡ own → (g : Bool) (further same : NamePlace)
    → IsOuter further → IsOuter same
    → cond b (in_function own g further) (in_class own same) ≡ ClassBody → (b ≡ false) × IsTrue (has s.locals x)
class_case true s x (Some i) is g further same p q e = cc
class_case true s x None is true further same p q e = cc
class_case true s x None is false further same p q e = absurd (subst IsOuter e p)
class_case false s x (Some i) is g further same p q e = (refl, has_case (symbol_of s.locals x) i is)
class_case false s x None is g further same p q e = absurd (subst IsOuter e q)

pub class_binds : (round : List Scope) (x : List ℕ) → place_of round x ≡ ClassBody → IsBoundInClass round x
class_binds [] x e = cc
class_binds (s ∷ round) x e =
    class_case (is_function s.kind) s x (place_in_list s.locals x) refl (has s.globals x) (outer_place 1 round x) (outer_place 0 round x)
    (is_outer 1 round x) (is_outer 0 round x) e
