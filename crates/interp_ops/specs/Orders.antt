-- The order of values, and which values are sorted together.
use Rattle.std.specs.Prelude.{◌≡◌, ◌&&◌, ℕ, zero, suc, min, ℤ, Bool, true, false, nat_lt, nat_le, int_lt, int_le, List, [], ◌∷◌, map, Option, Some, None}
use Rattle.std.specs.Cmp.Lexicographic.{slice_cmp}
use Rattle.std.specs.List.{AllByRecursion}
use Rattle.std.specs.Ordering.{is_lt, is_le, nat_cmp}
use Rattle.std.specs.declared.cmp.Ordering.{Ordering}
use Rattle.exceptions_core.specs.declared.error.FaultKind.TheVariants as error
use Rattle.heap_objects.specs.Tree as tree
use Rattle.heap_objects.specs.Tree.{Tree, Trees, none, more, tree_of, trees_of}
use Rattle.heap_objects.specs.declared.value.Value.{Value}
use Rattle.interp_machine.specs.Kinds.{pair}
use Rattle.interp_machine.specs.Meaning.{M, ◌>>=◌, pure, fault, levels_left}
use Rattle.interp_machine.specs.declared.kinds.Pair.{Pair}
use Rattle.interp_machine.specs.declared.kinds.Pair.TheVariants.{Numbers, Texts, Tuples, Lists, Dicts, Others}
use Rattle.interp_ops.specs.Equality.{both, equal_below, lengths, sides}

-- ---- the order

-- before, or where both may be equal before or equal
abbrev pub number_before : Bool → ℤ → ℤ → Bool
number_before true x y = int_le x y
number_before false x y = int_lt x y

abbrev pub count_before : Bool → ℕ → ℕ → Bool
count_before true m n = nat_le m n
count_before false m n = nat_lt m n

abbrev pub cmp_before : Bool → Ordering → Bool
cmp_before true c = is_le c
cmp_before false c = is_lt c

-- the answer of a test that gives one, and otherwise that of the next
abbrev pub or_else : M Bool → Option Bool → M Bool
or_else next None = next
or_else next (Some b) = pure b

-- so many tests from a place on; the first that gives an answer ends them, and where none does, this is the answer
unfoldable pub first_from : (ℕ → M (Option Bool)) → ℕ → ℕ → Bool → M Bool
first_from test i zero otherwise = pure otherwise
first_from test i (suc n) otherwise = test i >>= or_else (first_from test (suc i) n otherwise)

abbrev pub answered : Bool → M (Option Bool)
answered b = pure (Some b)

module _ (equal_below less_below : Value → Value → M Bool) where
  -- a pair that is not equal decides
  abbrev pub decided : Option Value × Option Value → Bool → M (Option Bool)
  decided xy true = pure None
  decided xy false = both less_below xy >>= answered

  abbrev pub decided_at : Pair → ℕ → M (Option Bool)
  decided_at s i = sides s i >>= λ xy. both equal_below xy >>= decided xy

  -- the first pair that is not equal decides, and where all are equal the lengths do
  abbrev pub less_sequences : Bool → Pair → ℕ × ℕ → M Bool
  less_sequences same s counts = first_from (decided_at s) 0 (min counts.0 counts.1) (count_before same counts.0 counts.1)

  abbrev pub less_parts : Bool → Pair → M Bool
  less_parts same s = lengths s >>= less_sequences same s

  abbrev pub less_pair : Bool → Pair → M Bool
  less_pair same (Numbers x y) = pure (number_before same x y)
  less_pair same (Texts s t) = pure (cmp_before same (slice_cmp nat_cmp s t))
  less_pair same (Tuples xs ys) = less_parts same (Tuples xs ys)
  less_pair same (Lists o p) = less_parts same (Lists o p)
  less_pair same (Dicts d e) = fault error.Kind
  less_pair same Others = fault error.Kind

  unfoldable pub less_with : Bool → Value → Value → M Bool
  less_with same a b = pair a b >>= less_pair same

-- with so many levels left, of which this takes one
unfoldable pub less_below : ℕ → Value → Value → M Bool
less_below zero a b = fault error.Depth
less_below (suc n) a b = less_with (equal_below n) (less_below n) false a b

-- `a < b`
unfoldable pub less : Value → Value → M Bool
less a b m = less_with (equal_below (levels_left m)) (less_below (levels_left m)) false a b m

-- `a <= b`
unfoldable pub less_or_equal : Value → Value → M Bool
less_or_equal a b m = less_with (equal_below (levels_left m)) (less_below (levels_left m)) true a b m

-- ---- which values are sorted together

mutual
  pub data SortKind : Type 0 where
    number : SortKind
    text : SortKind
    tuple : SortKinds → SortKind

  pub data SortKinds : Type 0 where
    done : SortKinds
    then : SortKind → SortKinds → SortKinds

abbrev pub then_kind : Option SortKind → Option SortKinds → Option SortKinds
then_kind None ks = None
then_kind (Some k) None = None
then_kind (Some k) (Some ks) = Some (then k ks)

abbrev pub tuple_kind : Option SortKinds → Option SortKind
tuple_kind None = None
tuple_kind (Some ks) = Some (tuple ks)

abbrev mutual
  -- number, text, or tuple with the sort kinds of its parts; what is left has none
  pub sort_kind : Tree → Option SortKind
  sort_kind (tree.int n) = Some number
  sort_kind (tree.truth b) = Some number
  sort_kind (tree.text t) = Some text
  sort_kind (tree.tuple ts) = tuple_kind (sort_kinds ts)
  sort_kind tree.nil = None
  sort_kind (tree.range a b c) = None
  sort_kind (tree.builtin f) = None
  sort_kind (tree.obj o) = None
  sort_kind (tree.bound f o) = None
  sort_kind (tree.method f x) = None

  pub sort_kinds : Trees → Option SortKinds
  sort_kinds none = Some done
  sort_kinds (more t ts) = then_kind (sort_kind t) (sort_kinds ts)

abbrev pub kind_of_value : Value → Option SortKind
kind_of_value x = sort_kind (tree_of x)

-- the values have one sort kind
pub record SortTogether (values : List Value) : Type 0 where
  pub kind : SortKind
  pub all : AllByRecursion (λ x. kind_of_value x ≡ Some kind) values

-- ---- tests of sort kinds

abbrev pub kinds_of_values : List Value → Option SortKinds
kinds_of_values xs = sort_kinds (trees_of (map tree_of xs))

abbrev mutual
  pub same_kind : SortKind → SortKind → Bool
  same_kind number number = true
  same_kind text text = true
  same_kind (tuple js) (tuple ks) = same_kinds js ks
  same_kind _ _ = false

  pub same_kinds : SortKinds → SortKinds → Bool
  same_kinds done done = true
  same_kinds (then j js) (then k ks) = same_kind j k && same_kinds js ks
  same_kinds _ _ = false

-- both are there, and the same
abbrev pub one_kind : Option SortKind → Option SortKind → Bool
one_kind (Some j) (Some k) = same_kind j k
one_kind _ _ = false

abbrev pub one_list : Option SortKinds → Option SortKinds → Bool
one_list (Some js) (Some ks) = same_kinds js ks
one_list _ _ = false

abbrev pub all_of_kind : Option SortKind → List Value → Bool
all_of_kind k [] = true
all_of_kind k (x ∷ xs) = one_kind k (kind_of_value x) && all_of_kind k xs
