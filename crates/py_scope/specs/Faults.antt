-- The declarations that have a scope fault.
use Rattle.std.specs.Prelude.{ℕ, Bool, true, false, not, ◌||◌, List, [], ◌∷◌, ◌++◌, min, Option, Some, None, if◌then◌else◌}
use Rattle.std.specs.List.{list_any}
use Rattle.py_scope.specs.NameLists.{has, once, with_names}
use Rattle.py_scope.specs.Scopes.{Code, outer_place}
use Rattle.py_scope.specs.declared.mark.Mark.{Mark}
use Rattle.py_scope.specs.declared.mark.Mark.TheVariants.{Binds, Declares}
use Rattle.py_scope.specs.declared.mark.Way.{Way}
use Rattle.py_scope.specs.declared.mark.Way.TheVariants.{Global, Nonlocal}
use Rattle.py_scope.specs.declared.place.NamePlace.{NamePlace}
use Rattle.py_scope.specs.declared.place.NamePlace.TheVariants as place
use Rattle.py_scope.specs.declared.scope.Kind.{Kind}
use Rattle.py_scope.specs.declared.scope.Kind.TheVariants as kind
use Rattle.py_scope.specs.declared.scope.Scope.{Scope}

abbrev pub is_class : Kind → Bool
is_class kind.Cell = false
is_class kind.Function = false
is_class kind.Class = true

abbrev pub is_free : NamePlace → Bool
is_free (place.Local slot) = false
is_free (place.Free hops slot) = true
is_free place.Global = false
is_free place.ClassBody = false

-- a `nonlocal` name belongs to no function round the body
abbrev pub belongs_nowhere : Way → List Scope → List ℕ → Bool
belongs_nowhere Global round name = false
belongs_nowhere Nonlocal round name = not (is_free (outer_place 0 round name))

-- a name of a declaration is a parameter, or was declared the other way before, or is `nonlocal` and belongs to no function round
abbrev pub name_has_fault : List (List ℕ) → List Scope → List (List ℕ) → Way → List ℕ → Bool
name_has_fault params round other way name = has params name || (has other name || belongs_nowhere way round name)

-- A declaration has a fault in the body of a class, and where one of its names has one.
abbrev pub has_fault : Kind → List (List ℕ) → List Scope → List (List ℕ) → Way → List (List ℕ) → Bool
has_fault kind params round other way names = is_class kind || list_any (name_has_fault params round other way) names

-- the number of a declaration, where it has a fault
abbrev pub if_fault : Bool → ℕ → List ℕ
if_fault faulty node = if faulty then node ∷ [] else []

-- the numbers of the declarations that have a fault, after others that declared some names `global` and some `nonlocal`
abbrev pub faults_from : Kind → List (List ℕ) → List Scope → List (List ℕ) → List (List ℕ) → List Mark → List ℕ
faults_from kind params round globals nonlocals [] = []
faults_from kind params round globals nonlocals (Binds name ∷ marks) = faults_from kind params round globals nonlocals marks
faults_from kind params round globals nonlocals (Declares node Global names ∷ marks) =
    if_fault (has_fault kind params round nonlocals Global names) node ++ faults_from kind params round
    (with_names globals names) nonlocals marks
faults_from kind params round globals nonlocals (Declares node Nonlocal names ∷ marks) =
    if_fault (has_fault kind params round globals Nonlocal names) node ++ faults_from kind params round globals
    (with_names nonlocals names) marks

-- the faults of a body, by the bodies round it
abbrev pub faults_of : List Scope → Code → List ℕ
faults_of round code = faults_from code.kind (once code.params) round [] [] code.marks

-- the least of the numbers, and of one more where it is there
abbrev pub lesser : Option ℕ → ℕ → Option ℕ
lesser None n = Some n
lesser (Some m) n = Some (min m n)

abbrev pub least_with : Option ℕ → List ℕ → Option ℕ
least_with m [] = m
least_with m (n ∷ ns) = least_with (lesser m n) ns

abbrev pub least : List ℕ → Option ℕ
least ns = least_with None ns
