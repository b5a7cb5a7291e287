-- Items of values: read, stored and deleted.
use Rattle.std.specs.Prelude.{◌-◌, ◌+ℤ◌, ◌*ℤ◌, ◌++◌, ℕ, zero, suc, ℤ, pos, negsuc, Bool, true, false, nat_lt, List, [], ◌∷◌, length, drop, Option, Some, None, option_map, slice_get, if◌then◌else◌}
use Rattle.exceptions_core.specs.declared.class.ExcClass.TheVariants.{KeyError}
use Rattle.exceptions_core.specs.declared.error.FaultKind.TheVariants as error
use Rattle.flow_base.specs.declared.event.ReadHow.{ReadHow}
use Rattle.flow_base.specs.declared.event.ReadHow.TheVariants.{Use, Place}
use Rattle.flow_base.specs.declared.key.Key.{Key}
use Rattle.flow_base.specs.declared.loc.Loc.TheVariants as loc
use Rattle.flow_base.specs.declared.numbers.ObjRef.{ObjRef}
use Rattle.heap_objects.specs.Keyed.{key_of}
use Rattle.heap_objects.specs.State.{item}
use Rattle.heap_objects.specs.declared.value.Value.{Value, out-Value}
use Rattle.heap_objects.specs.declared.value.Value.TheOpen as v
use Rattle.heap_objects.specs.declared.value.Value.TheOpen.{Value-F}
use Rattle.interp_machine.specs.Kinds.{kind}
use Rattle.interp_machine.specs.Meaning.{M, ◌>>=◌, ◌>>◌, pure, dict_put, dict_remove, error_with, fault, list_put, list_splice, load, present, raise, shape, steps}
use Rattle.interp_machine.specs.Walks.{int_value, point_value, range_size}
use Rattle.interp_machine.specs.declared.kinds.Kind.{Kind}
use Rattle.interp_machine.specs.declared.kinds.Kind.TheVariants.{Text, Tuple, Range, List as AList, Dict}

-- ---- places

abbrev pub number_at : Value-F Value → Option ℤ
number_at (v.Truth true) = Some (pos 1)
number_at (v.Truth false) = Some (pos 0)
number_at (v.Int n) = Some n
number_at _ = None

-- the number that a value is, a truth value among them
abbrev pub number_of : Value → Option ℤ
number_of x = number_at (out-Value x)

-- the place below a count that has so many places behind it, if there is one: with 0 behind it, it is the last
abbrev pub before_end : ℕ → ℕ → Option ℕ
before_end count i = if nat_lt i count then Some (count - suc i) else None

-- the place below a count that an index names, from the end where it is below 0
abbrev pub place_in : ℕ → ℤ → Option ℕ
place_in count (pos i) = if nat_lt i count then Some i else None
place_in count (negsuc i) = before_end count i

abbrev pub or_index_error : Option Value → M Value
or_index_error None = fault error.Index
or_index_error (Some x) = pure x

-- ---- reading

abbrev pub list_item : ObjRef → Option ℕ → M Value
list_item o None = fault error.Index
list_item o (Some i) = load (item o i) >>= or_index_error

-- an index that is not below 0 uses the item alone; another uses the shape first
abbrev pub list_at : ObjRef → ℤ → M Value
list_at o (pos i) = list_item o (Some i)
list_at o (negsuc i) = shape Use o >>= λ count. list_item o (before_end count i)

abbrev pub part_at : List Value → Option ℕ → M Value
part_at xs None = fault error.Index
part_at xs (Some i) = or_index_error (slice_get xs i)

abbrev pub point_at : List ℕ → Option ℕ → M Value
point_at t None = fault error.Index
point_at t (Some i) = or_index_error (option_map point_value (slice_get t i))

abbrev pub member_at : ℤ → ℤ → Option ℕ → M Value
member_at start step None = fault error.Index
member_at start step (Some i) = pure (int_value (start +ℤ pos i *ℤ step))

abbrev pub or_key_error : Value → Option Value → M Value
or_key_error key None = raise (error_with KeyError key)
or_key_error key (Some x) = pure x

abbrev pub dict_at : ObjRef → Value → Option Key → M Value
dict_at d key None = fault error.Kind
dict_at d key (Some k) = load (loc.Item d k) >>= or_key_error key

abbrev pub index_of : Kind → Option ℤ → M Value
index_of k None = fault error.Kind
index_of (AList o) (Some n) = list_at o n
index_of (Tuple xs) (Some n) = part_at xs (place_in (length xs) n)
index_of (Text t) (Some n) = point_at t (place_in (length t) n)
index_of (Range start stop step) (Some n) = member_at start step (place_in (range_size start stop step) n)
index_of _ (Some n) = fault error.Kind

abbrev pub subscript_of : Value → Kind → M Value
subscript_of i (Dict d) = dict_at d i (key_of i)
subscript_of i k = index_of k (number_of i)

-- `a[i]`
unfoldable pub subscript : Value → Value → M Value
subscript a i = kind a >>= subscript_of i

-- ---- storing

abbrev pub put_item : ObjRef → Value → Option ℕ → M (Unit {0})
put_item o x None = fault error.Index
put_item o x (Some i) = list_put o i x

-- how the shape of a list is read where an item of it is stored
abbrev pub how_of : ℤ → ReadHow
how_of (pos i) = Place
how_of (negsuc i) = Use

abbrev pub list_store : ObjRef → Value → Option ℤ → M (Unit {0})
list_store o x None = fault error.Kind
list_store o x (Some n) = shape (how_of n) o >>= λ count. put_item o x (place_in count n)

abbrev pub dict_store : ObjRef → Value → Value → Option Key → M (Unit {0})
dict_store d key x None = fault error.Kind
dict_store d key x (Some k) = dict_put d key x

abbrev pub store_of : Value → Value → Kind → M (Unit {0})
store_of i x (AList o) = list_store o x (number_of i)
store_of i x (Dict d) = dict_store d i x (key_of i)
store_of i x _ = fault error.Kind

-- `a[i] = x`
unfoldable pub store_item : Value → Value → Value → M (Unit {0})
store_item a i x = kind a >>= store_of i x

-- ---- deleting

abbrev pub with_part : List Value → Option Value → List Value
with_part done None = done
with_part done (Some x) = done ++ x ∷ []

-- so many items from a place on, each used for a step
abbrev pub used_from : ObjRef → ℕ → ℕ → List Value → M (List Value)
used_from o i zero done = pure done
used_from o i (suc n) done = load (item o i) >>= λ x. steps 1 >> used_from o (suc i) n (with_part done x)

-- the items from a place on become these, with a step for each
unfoldable pub splice : ObjRef → ℕ → List Value → M (Unit {0})
splice o i tail = steps (length tail) >> list_splice o i tail

abbrev pub remove_at : ObjRef → ℕ → Option ℕ → M (Unit {0})
remove_at o count None = fault error.Index
remove_at o count (Some i) = used_from o i (count - i) [] >>= λ items. splice o i (drop 1 items)

abbrev pub list_delete : ObjRef → Option ℤ → M (Unit {0})
list_delete o None = fault error.Kind
list_delete o (Some n) = shape Use o >>= λ count. remove_at o count (place_in count n)

abbrev pub remove_if : ObjRef → Value → Key → Bool → M (Unit {0})
remove_if d key k false = raise (error_with KeyError key)
remove_if d key k true = dict_remove d k

abbrev pub dict_delete : ObjRef → Value → Option Key → M (Unit {0})
dict_delete d key None = fault error.Kind
dict_delete d key (Some k) = present d k >>= remove_if d key k

abbrev pub delete_of : Value → Kind → M (Unit {0})
delete_of i (AList o) = list_delete o (number_of i)
delete_of i (Dict d) = dict_delete d i (key_of i)
delete_of i _ = fault error.Kind

-- `del a[i]`
unfoldable pub delete_item : Value → Value → M (Unit {0})
delete_item a i = kind a >>= delete_of i
