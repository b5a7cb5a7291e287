-- Which class is under which, one step at a time, and which class has a name.
use Rattle.std.proofs.Common.{◌≡◌, ◌≢◌, ℕ, ◌+◌, ◌<◌, ◌⊎◌, List, [], ◌∷◌, length, get_or, drop, drop-cons, add-one, Bool, true, false, cond, Option, Some, None, bytes_eq, refl, sym, ap, subst, ◌∙◌, inl, inr, lit<}
use Rattle.std.proofs.lemmas.Bool.{false_from_ne_true}
use Rattle.std.proofs.lemmas.Slice.Eq.{bytes_eq-Decides}
use Rattle.exceptions_core.specs.Classes.{IsUnder, itself, below, class_name, first_named, parent}
use Rattle.exceptions_core.specs.declared.class.ExcClass.{ExcClass}
use Rattle.exceptions_core.specs.declared.class.ExcClass.TheVariants.{Exception, ArithmeticError, ZeroDivisionError, LookupError, IndexError, KeyError, NameError, UnboundLocalError, RuntimeError, RecursionError, AttributeError, TypeError, ValueError, AssertionError}

-- how many classes a class is under
abbrev pub height : ExcClass → ℕ
height Exception = 0
height ArithmeticError = 1
height ZeroDivisionError = 2
height LookupError = 1
height IndexError = 2
height KeyError = 2
height NameError = 1
height UnboundLocalError = 2
height RuntimeError = 1
height RecursionError = 2
height AttributeError = 1
height TypeError = 1
height ValueError = 1
height AssertionError = 1

abbrev is_lower : ExcClass → Option ExcClass → Type 0
is_lower c None = Unit {0}
is_lower c (Some p) = height p < height c

lower_parent : (c : ExcClass) → is_lower c (parent c)
lower_parent Exception = tt
lower_parent ArithmeticError = lit< tt
lower_parent ZeroDivisionError = lit< tt
lower_parent LookupError = lit< tt
lower_parent IndexError = lit< tt
lower_parent KeyError = lit< tt
lower_parent NameError = lit< tt
lower_parent UnboundLocalError = lit< tt
lower_parent RuntimeError = lit< tt
lower_parent RecursionError = lit< tt
lower_parent AttributeError = lit< tt
lower_parent TypeError = lit< tt
lower_parent ValueError = lit< tt
lower_parent AssertionError = lit< tt

pub parent_is_lower : (c p : ExcClass) → parent c ≡ Some p → height p < height c
parent_is_lower c p e = subst (is_lower c) e (lower_parent c)

-- a class under another one is that one, or its parent is under it
pub under_splits : (c of : ExcClass) → IsUnder c of → (c ≡ of) ⊎ ((p : ExcClass) × (parent c ≡ Some p) × IsUnder p of)
under_splits c of itself = inl refl
under_splits c of (below {p = p} e u) = inr (p, e, u)

pub of_equal : (c of : ExcClass) → c ≡ of → IsUnder c of
of_equal c of e = subst (λ (x : ExcClass). IsUnder c x) e itself

pub under_none : (c of : ExcClass) → c ≢ of → parent c ≡ None → IsUnder c of → ⊥
under_none c of apart e u = elim (under_splits c of u) [ inl same ↦ apart same | inr w ↦ none_some w.0 (sym e ∙ w.1) ]
  where
    none_some : (p : ExcClass) → None ≡ Some p → ⊥
    none_some p e = cc

pub under_parent : (c p of : ExcClass) → c ≢ of → parent c ≡ Some p → IsUnder c of → IsUnder p of
under_parent c p of apart e u = elim (under_splits c of u) [
  | inl same ↦ absurd (apart same)
  | inr w ↦ (let k : w.0 ≡ p = some_same w.0 p (sym w.1 ∙ e) in subst (λ (x : ExcClass). IsUnder x of) k w.2)
]
  where
    some_same : (a b : ExcClass) → Some a ≡ Some b → a ≡ b
    some_same a b e = cc

-- ---- the class that has a name

named_case : (name : List ℕ) (c d : ExcClass) (rest : Option ExcClass) → (rest ≡ Some d → name ≡ class_name d) → (b : Bool)
    → (b ≡ true → name ≡ class_name c)
    → cond b (Some c) rest ≡ Some d → name ≡ class_name d
named_case name c d rest later true here e = here refl ∙ ap class_name (some_same c d e)
  where
    some_same : (a b : ExcClass) → Some a ≡ Some b → a ≡ b
    some_same a b e = cc
named_case name c d rest later false here e = later e

pub named_has_name : (name : List ℕ) (cs : List ExcClass) (d : ExcClass) → first_named name cs ≡ Some d → name ≡ class_name d
named_has_name name [] d e = cc
named_has_name name (c ∷ cs) d e =
    named_case name c d (first_named name cs) (named_has_name name cs d) (bytes_eq name (class_name c))
    (bytes_eq-Decides name (class_name c)).0 e

-- all classes
abbrev pub all_classes : List ExcClass
all_classes = Exception ∷ ArithmeticError ∷ ZeroDivisionError ∷ LookupError ∷ IndexError ∷ KeyError ∷ NameError ∷ UnboundLocalError ∷
    RuntimeError ∷ RecursionError ∷ AttributeError ∷ TypeError ∷ ValueError ∷ AssertionError ∷ []

named_itself : (d : ExcClass) → first_named (class_name d) all_classes ≡ Some d
named_itself Exception = refl
named_itself ArithmeticError = refl
named_itself ZeroDivisionError = refl
named_itself LookupError = refl
named_itself IndexError = refl
named_itself KeyError = refl
named_itself NameError = refl
named_itself UnboundLocalError = refl
named_itself RuntimeError = refl
named_itself RecursionError = refl
named_itself AttributeError = refl
named_itself TypeError = refl
named_itself ValueError = refl
named_itself AssertionError = refl

pub name_is_named : (name : List ℕ) (d : ExcClass) → name ≡ class_name d → first_named name all_classes ≡ Some d
name_is_named name d e = ap (λ (n : List ℕ). first_named n all_classes) e ∙ named_itself d

-- ---- the loop over the classes

pub passed : (name word : List ℕ) (i : ℕ) (cs : List ExcClass) (d : ExcClass) → i < length cs → word ≡ class_name (get_or cs i d)
    → name ≢ word
    → first_named name (drop (i + 1) cs) ≡ first_named name (drop i cs)
passed name word i cs d h is apart =
    let here : ExcClass = get_or cs i d in
    let other : bytes_eq name (class_name here) ≡ false =
    false_from_ne_true (bytes_eq name (class_name here)) (λ e. apart ((bytes_eq-Decides name (class_name here)).0 e ∙ sym is)) in
    sym (ap (first_named name) (front h) ∙ ap (λ b. cond b (Some here) (first_named name (drop (i + 1) cs))) other)
  where
    front : i < length cs → drop i cs ≡ get_or cs i d ∷ drop (i + 1) cs
    front h = rw add-one (drop-cons cs i d h)
