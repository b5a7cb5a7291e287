-- Machines whose objects are well formed, and what operations come to there.
use Rattle.std.specs.Prelude.{◌≡◌, ℕ, nat_lt, Bool, false, IsTrue, List, ◌++◌, Option, Result, Ok, Err}
use Rattle.std.specs.List.{All}
use Rattle.flow_base.specs.declared.numbers.CodeRef.{CodeRef}
use Rattle.flow_base.specs.declared.numbers.ObjRef.{ObjRef}
use Rattle.flow_base.specs.declared.numbers.Sym.{Sym}
use Rattle.heap_objects.specs.Changes.{Keeps}
use Rattle.heap_objects.specs.State.{State}
use Rattle.heap_objects.specs.WellFormed.{IsAllowed, IsAllowedIf, IsWellFormed, Rules}
use Rattle.heap_objects.specs.declared.value.Value.{Value}
use Rattle.interp_machine.specs.Kinds.{kind_of}
use Rattle.interp_machine.specs.Meaning.{Outcome, object_value}
use Rattle.interp_machine.specs.Symbols.{dict_methods, is_among, known_texts, list_methods, text_methods, tuple_methods}
use Rattle.interp_machine.specs.declared.kinds.Kind.{Kind}
use Rattle.interp_machine.specs.declared.kinds.Kind.TheVariants as k
use Rattle.interp_machine.specs.declared.machine.Machine.{Machine}
use Rattle.interp_machine.specs.declared.stop.Stop.{Stop}
use Rattle.interp_machine.specs.declared.stop.Stop.TheVariants as stop
use Rattle.interp_machine.specs.declared.walks.Walker.{Walker}
use Rattle.interp_machine.specs.declared.walks.Walker.TheVariants as w

-- ---- the rules of the language

-- a function or an exception class: the first 39 symbols
abbrev pub is_builtin : Sym → Bool
is_builtin s = nat_lt s.0 39

-- values of a kind have a built-in method of this name
abbrev pub has_method : Sym → Kind → Bool
has_method a (k.List o) = is_among list_methods a
has_method a (k.Dict d) = is_among dict_methods a
has_method a (k.Text t) = is_among text_methods a
has_method a (k.Tuple xs) = is_among tuple_methods a
has_method a _ = false

-- the names, the codes, the numbers of defaults and the frames that functions may have
abbrev pub Codes : Type 0
Codes = State → Sym → CodeRef → ℕ → ObjRef → Bool

abbrev pub rules_of : Codes → Rules
rules_of codes = record { is_builtin = is_builtin; is_method = λ s a x. has_method a (kind_of s x); is_code = codes }

-- what is code stays code while objects are added
pub record AreSteadyCodes (codes : Codes) : Type 0 where
  pub steady : (s t : State) (name : Sym) (code : CodeRef) (defaults : ℕ) (parent : ObjRef) → Keeps s t → IsTrue (codes s name code defaults parent)
      → IsTrue (codes t name code defaults parent)

-- ---- machines and outcomes

-- the objects are well formed, and the names begin with those that every table has
pub record IsFormed (codes : Codes) (m : Machine) : Type 0 where
  pub heap : IsWellFormed (rules_of codes) m.heap
  pub names : (more : List (List ℕ)) × (m.names ≡ known_texts ++ more)

-- what is to hold of a result, and what holds of a value that is raised
abbrev pub Gives : {A : Type 0} → Codes → (State → A → Type 0) → State → Result A Stop → Type 0
Gives codes Q s (Ok a) = Q s a
Gives codes Q s (Err (stop.Raised v)) = IsAllowed (rules_of codes) s v
Gives codes Q s (Err stop.Steps) = Unit {0}
Gives codes Q s (Err stop.Range) = Unit {0}
Gives codes Q s (Err stop.NoMemory) = Unit {0}

-- an outcome is a formed machine, and a result with this property in it, or a value that it allows is raised
pub record Ends {A : Type 0} (codes : Codes) (Q : State → A → Type 0) (o : Outcome A) : Type 0 where
  pub formed : IsFormed codes o.1
  pub result : Gives codes Q o.1.heap o.0

-- ---- results

abbrev pub Any : {A : Type 0} → State → A → Type 0
Any s a = Unit {0}

abbrev pub Allowed : Codes → State → Value → Type 0
Allowed codes s x = IsAllowed (rules_of codes) s x

abbrev pub AllowedAll : Codes → State → List Value → Type 0
AllowedAll codes s xs = All (IsAllowed (rules_of codes) s) xs

-- the reference to it is a value that is allowed
abbrev pub AllowedObject : Codes → State → ObjRef → Type 0
AllowedObject codes s o = IsAllowed (rules_of codes) s (object_value o)

-- the parts that a walk has itself are allowed; those in objects are so as what objects hold
abbrev pub AllowedWalk : Codes → State → Walker → Type 0
AllowedWalk codes s (w.Parts xs i) = AllowedAll codes s xs
AllowedWalk codes s _ = Unit {0}

abbrev pub AllowedStep : Codes → State → Option Value × Walker → Type 0
AllowedStep codes s part = IsAllowedIf (rules_of codes) s part.0 × AllowedWalk codes s part.1
