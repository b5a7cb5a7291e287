-- The order of versions: what stood before any run comes first, by location; then the others, by run and by place.
use Rattle.std.specs.Prelude.{ℕ, List, [], ◌∷◌, slice_index_or}
use Rattle.std.specs.Ordering.{nat_cmp, int_cmp, ordering_then}
use Rattle.std.specs.Cmp.Lexicographic.{slice_cmp}
use Rattle.std.specs.declared.cmp.Ordering.{Ordering}
use Rattle.std.specs.declared.cmp.Ordering.TheVariants.{Less, Equal, Greater}
use Rattle.flow_base.specs.declared.key.Key.{Key, fold-Key, out-Key}
use Rattle.flow_base.specs.declared.key.Key.TheOpen as key
use Rattle.flow_base.specs.declared.key.Key.TheOpen.{Key-F}
use Rattle.flow_base.specs.declared.loc.Loc.{Loc}
use Rattle.flow_base.specs.declared.loc.Loc.TheVariants.{Name, Attr, Item, Present, Shape}
use Rattle.flow_base.specs.declared.numbers.Sym.{Sym}
use Rattle.trace_events.specs.declared.version.Version.{Version}
use Rattle.trace_events.specs.declared.version.Version.TheVariants.{Empty, Written}

-- ---- keys: None before numbers before texts before tuples, a beginning of a tuple before the tuple

-- the parts of a tuple, given as their comparisons, against those of another
abbrev pub parts_cmp : List (Key → Ordering) → List Key → Ordering
parts_cmp [] [] = Equal
parts_cmp [] (k ∷ keys) = Less
parts_cmp (compare ∷ others) [] = Greater
parts_cmp (compare ∷ others) (k ∷ keys) = ordering_then (compare k) (parts_cmp others keys)

abbrev pub key_place : {A : Type 0} → Key-F A → ℕ
key_place key.Nil = 0
key_place (key.Int n) = 1
key_place (key.Text t) = 2
key_place (key.Tuple parts) = 3

abbrev pub open_cmp : Key-F (Key → Ordering) → Key-F Key → Ordering
open_cmp (key.Int m) (key.Int n) = int_cmp m n
open_cmp (key.Text s) (key.Text t) = slice_cmp nat_cmp s t
open_cmp (key.Tuple parts) (key.Tuple keys) = parts_cmp parts keys
open_cmp x y = nat_cmp (key_place x) (key_place y)

abbrev pub key_cmp : Key → Key → Ordering
key_cmp a = fold-Key (Key → Ordering) (λ x k. open_cmp x (out-Key k)) a

-- ---- locations: by object, by kind, and then by name or key

-- the text of a symbol
abbrev pub text_of : List (List ℕ) → Sym → List ℕ
text_of names s = slice_index_or names s.0 []

-- by text, and then by number, which tells symbols apart that the table lacks
abbrev pub name_cmp : List (List ℕ) → Sym → Sym → Ordering
name_cmp names s t = ordering_then (slice_cmp nat_cmp (text_of names s) (text_of names t)) (nat_cmp s.0 t.0)

abbrev pub object_of : Loc → ℕ
object_of (Name o s) = o.0
object_of (Attr o s) = o.0
object_of (Item o k) = o.0
object_of (Present o k) = o.0
object_of (Shape o) = o.0

abbrev pub kind_of : Loc → ℕ
kind_of (Name o s) = 0
kind_of (Attr o s) = 1
kind_of (Item o k) = 2
kind_of (Present o k) = 3
kind_of (Shape o) = 4

abbrev pub inner_cmp : List (List ℕ) → Loc → Loc → Ordering
inner_cmp names (Name o s) (Name p t) = name_cmp names s t
inner_cmp names (Attr o s) (Attr p t) = name_cmp names s t
inner_cmp names (Item o j) (Item p k) = key_cmp j k
inner_cmp names (Present o j) (Present p k) = key_cmp j k
inner_cmp names a b = nat_cmp (kind_of a) (kind_of b)

abbrev pub loc_cmp : List (List ℕ) → Loc → Loc → Ordering
loc_cmp names a b = ordering_then (nat_cmp (object_of a) (object_of b)) (ordering_then (nat_cmp (kind_of a) (kind_of b)) (inner_cmp names a b))

-- ---- versions

abbrev pub version_cmp : List (List ℕ) → Version → Version → Ordering
version_cmp names (Empty a) (Empty b) = loc_cmp names a b
version_cmp names (Empty a) (Written run place) = Less
version_cmp names (Written run place) (Empty b) = Greater
version_cmp names (Written run place) (Written other at) = ordering_then (nat_cmp run.0 other.0) (nat_cmp place at)
