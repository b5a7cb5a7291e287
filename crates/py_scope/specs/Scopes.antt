-- The names that are local to a body, and the place of a name that is used in it.
use Rattle.std.specs.Prelude.{◌≡◌, ℕ, ◌+◌, Bool, true, false, not, ◌||◌, List, [], ◌∷◌, ◌++◌, filter, slice_get, IsTrue, Option, Some, None, if◌then◌else◌}
use Rattle.std.specs.List.{flat_map}
use Rattle.std.specs.Option.{unwrap_or}
use Rattle.py_scope.specs.NameLists.{has, once, place_in_list}
use Rattle.py_scope.specs.declared.mark.Mark.{Mark}
use Rattle.py_scope.specs.declared.mark.Mark.TheVariants.{Binds, Declares}
use Rattle.py_scope.specs.declared.mark.Way.{Way}
use Rattle.py_scope.specs.declared.mark.Way.TheVariants as way
use Rattle.py_scope.specs.declared.place.NamePlace.{NamePlace}
use Rattle.py_scope.specs.declared.place.NamePlace.TheVariants.{Local, Free, Global, ClassBody}
use Rattle.py_scope.specs.declared.scope.Kind.{Kind}
use Rattle.py_scope.specs.declared.scope.Kind.TheVariants as kind
use Rattle.py_scope.specs.declared.scope.Scope.{Scope}

-- ---- the names of a body

-- the names that a mark binds, and those that it declares this way
abbrev pub bound_in : Mark → List (List ℕ)
bound_in (Binds name) = name ∷ []
bound_in (Declares i w names) = []

abbrev pub same_way : Way → Way → Bool
same_way way.Global way.Global = true
same_way way.Global way.Nonlocal = false
same_way way.Nonlocal way.Global = false
same_way way.Nonlocal way.Nonlocal = true

abbrev pub declared_in : Way → Mark → List (List ℕ)
declared_in w (Binds name) = []
declared_in w (Declares i v names) = if same_way w v then names else []

abbrev pub bound : List Mark → List (List ℕ)
bound marks = flat_map bound_in marks

-- each name that is declared this way, once
abbrev pub declared : Way → List Mark → List (List ℕ)
declared w marks = once (flat_map (declared_in w) marks)

-- what a body has: its kind, its parameters, and what it binds and declares
pub record Code : Type 0 where
  pub kind : Kind
  pub params : List (List ℕ)
  pub marks : List Mark

abbrev pub is_in_neither : List (List ℕ) → List (List ℕ) → List ℕ → Bool
is_in_neither globals nonlocals name = not (has globals name || has nonlocals name)

-- The names that are local to a body: its parameters, and then those that it binds, by the place at which each is first bound; but
-- none that it declares.
abbrev pub locals_of : Code → List (List ℕ)
locals_of code =
    once (filter (is_in_neither (declared way.Global code.marks) (declared way.Nonlocal code.marks)) (code.params ++ bound code.marks))

abbrev pub scope_of : Code → Scope
scope_of code = record { kind = code.kind; locals = locals_of code; globals = declared way.Global code.marks }

-- ---- the place of a name

abbrev pub is_function : Kind → Bool
is_function kind.Cell = false
is_function kind.Function = true
is_function kind.Class = false

-- What a function that is this many frames up decides of a name, by the place of the name among its locals and whether it declares the
-- name `global`.
abbrev pub decided : ℕ → Option ℕ → Bool → Option NamePlace
decided hops (Some slot) is_global = Some (Free hops slot)
decided hops None is_global = if is_global then Some Global else None

-- The place of a name that is free, by the bodies round it, innermost first, where the innermost function is this many frames up. The
-- nearest function to which the name is local or which declares it `global` decides; bodies of classes do not count and have no frame.
abbrev pub outer_place : ℕ → List Scope → List ℕ → NamePlace
outer_place hops [] name = Global
outer_place hops (scope ∷ round) name =
    if is_function scope.kind
    then unwrap_or (decided hops (place_in_list scope.locals name) (has scope.globals name)) (outer_place (hops + 1) round name)
    else outer_place hops round name

abbrev pub in_function : Option ℕ → Bool → NamePlace → NamePlace
in_function (Some slot) is_global beyond = Local slot
in_function None is_global beyond = if is_global then Global else beyond

abbrev pub in_class : Option ℕ → NamePlace → NamePlace
in_class (Some slot) beyond = ClassBody
in_class None beyond = beyond

-- The place of a name, by the bodies round the node that uses it, innermost first; the statements of the cell are in none. A frame is
-- that of the innermost function: so the next function is one frame up from a function, and none from the body of a class.
abbrev pub place_of : List Scope → List ℕ → NamePlace
place_of [] name = Global
place_of (scope ∷ round) name =
    if is_function scope.kind
    then in_function (place_in_list scope.locals name) (has scope.globals name) (outer_place 1 round name)
    else in_class (place_in_list scope.locals name) (outer_place 0 round name)

-- ---- what a place means

-- the functions among the bodies round a place, the one whose frame runs there first
abbrev pub functions : List Scope → List Scope
functions round = filter (λ (scope : Scope). is_function scope.kind) round

-- the function is there, and the name stands at the slot
abbrev pub IsSlot : Option Scope → ℕ → List ℕ → Type 0
IsSlot None slot name = ⊥
IsSlot (Some scope) slot name = slice_get scope.locals slot ≡ Some name

-- the innermost body is that of a class, and it binds the name
abbrev pub IsBoundInClass : List Scope → List ℕ → Type 0
IsBoundInClass [] name = ⊥
IsBoundInClass (scope ∷ round) name = (is_function scope.kind ≡ false) × IsTrue (has scope.locals name)
