-- Equality of values.
use Rattle.std.specs.Prelude.{◌==◌, ◌&&◌, ◌||◌, ℕ, zero, suc, ℤ, Bool, true, false, length, Option, Some, None, if◌then◌else◌, slice_get}
use Rattle.std.specs.Ordering.{int_eq}
use Rattle.std.specs.Str.{bytes_eq}
use Rattle.exceptions_core.specs.declared.error.FaultKind.TheVariants as error
use Rattle.flow_base.specs.declared.event.ReadHow.TheVariants.{Use}
use Rattle.flow_base.specs.declared.key.Key.{Key}
use Rattle.flow_base.specs.declared.loc.Loc.TheVariants as loc
use Rattle.flow_base.specs.declared.numbers.ObjRef.{ObjRef}
use Rattle.heap_objects.specs.State.{item}
use Rattle.heap_objects.specs.declared.value.Value.{Value, out-Value}
use Rattle.heap_objects.specs.declared.value.Value.TheOpen as v
use Rattle.heap_objects.specs.declared.value.Value.TheOpen.{Value-F}
use Rattle.interp_machine.specs.Kinds.{pair}
use Rattle.interp_machine.specs.Meaning.{M, ◌>>=◌, ◌>>◌, pure, fault, key_at, key_if, levels_left, load, present, shape, steps}
use Rattle.interp_machine.specs.Walks.{range_size}
use Rattle.interp_machine.specs.declared.kinds.Pair.{Pair}
use Rattle.interp_machine.specs.declared.kinds.Pair.TheVariants.{Numbers, Texts, Tuples, Lists, Dicts, Others}
use Rattle.interp_ops.specs.Truths.{identical}

-- ---- what is equal without an event

-- ranges are sequences: they have as many members, and the same ones
abbrev pub same_members : ℕ → ℕ → ℤ → ℤ → ℤ → ℤ → Bool
same_members m n a x c z = (m == n) && ((m == 0) || (int_eq a x && ((m == 1) || int_eq c z)))

abbrev pub ranges_equal : ℤ → ℤ → ℤ → ℤ → ℤ → ℤ → Bool
ranges_equal a b c x y z = same_members (range_size a b c) (range_size x y z) a x c z

-- None, built-ins and references to one object are equal to themselves alone, bound methods with the same function and receiver, and
-- built-in methods with one name and identical receivers
abbrev pub alike_at : Value-F Value → Value-F Value → Bool
alike_at v.Nil v.Nil = true
alike_at (v.Range a b c) (v.Range x y z) = ranges_equal a b c x y z
alike_at (v.Builtin f) (v.Builtin g) = f.0 == g.0
alike_at (v.Obj o) (v.Obj p) = o.0 == p.0
alike_at (v.Bound f o) (v.Bound g p) = (f.0 == g.0) && (o.0 == p.0)
alike_at (v.Method f x) (v.Method g y) = (f.0 == g.0) && identical x y
alike_at _ _ = false

abbrev pub alike : Value → Value → Bool
alike a b = alike_at (out-Value a) (out-Value b)

-- ---- two sequences beside each other

-- the lengths of both; the shapes of lists are used
abbrev pub lengths : Pair → M (ℕ × ℕ)
lengths (Tuples xs ys) = pure (length xs, length ys)
lengths (Lists o p) = shape Use o >>= λ m. shape Use p >>= λ n. pure (m, n)
lengths _ = pure (0, 0)

-- what stands at a place of both, for a step; items of lists are used
abbrev pub sides : Pair → ℕ → M (Option Value × Option Value)
sides (Tuples xs ys) i = steps 1 >> pure (slice_get xs i, slice_get ys i)
sides (Lists o p) i = steps 1 >> (load (item o i) >>= λ x. load (item p i) >>= λ y. pure (x, y))
sides _ i = steps 1 >> pure (None, None)

-- a test of two values that are there
abbrev pub both : (Value → Value → M Bool) → Option Value × Option Value → M Bool
both test (Some x, Some y) = test x y
both test (_, _) = pure false

-- goes on where a test passes
abbrev pub and_then : M Bool → Bool → M Bool
and_then more true = more
and_then more false = pure false

-- so many tests from a place on; the first that fails ends them
unfoldable pub all_from : (ℕ → M Bool) → ℕ → ℕ → M Bool
all_from test i zero = pure true
all_from test i (suc n) = test i >>= and_then (all_from test (suc i) n)

module _ (below : Value → Value → M Bool) where
  -- what stands at a place of both is equal
  abbrev pub equal_sides : Pair → ℕ → M Bool
  equal_sides s i = sides s i >>= both below

  abbrev pub equal_sequences : Pair → ℕ × ℕ → M Bool
  equal_sequences s counts = if counts.0 == counts.1 then all_from (equal_sides s) 0 counts.0 else pure false

  abbrev pub equal_parts : Pair → M Bool
  equal_parts s = lengths s >>= equal_sequences s

  -- both dictionaries have an equal value at the key, whose presence in the second is used first
  abbrev pub equal_at : ObjRef → ObjRef → Key → Bool → M Bool
  equal_at d e k false = pure false
  equal_at d e k true = load (loc.Item d k) >>= λ x. load (loc.Item e k) >>= λ y. both below (x, y)

  abbrev pub equal_entry : ObjRef → ObjRef → Option Key → M Bool
  equal_entry d e None = pure false
  equal_entry d e (Some k) = present e k >>= equal_at d e k

  -- the key at a place of the first dictionary has an equal value in both, for a step
  abbrev pub equal_place : ObjRef → ObjRef → ℕ → M Bool
  equal_place d e i = steps 1 >> (key_at d i >>= λ x. equal_entry d e (key_if x))

  abbrev pub equal_counts : ObjRef → ObjRef → ℕ → ℕ → M Bool
  equal_counts d e m n = if m == n then all_from (equal_place d e) 0 m else pure false

  -- the shapes of both are used
  abbrev pub equal_dicts : ObjRef → ObjRef → M Bool
  equal_dicts d e = shape Use d >>= λ m. shape Use e >>= λ n. equal_counts d e m n

  abbrev pub equal_pair : Value → Value → Pair → M Bool
  equal_pair a b (Numbers x y) = pure (int_eq x y)
  equal_pair a b (Texts s t) = pure (bytes_eq s t)
  equal_pair a b (Tuples xs ys) = equal_parts (Tuples xs ys)
  equal_pair a b (Lists o p) = if o.0 == p.0 then pure true else equal_parts (Lists o p)
  equal_pair a b (Dicts d e) = if d.0 == e.0 then pure true else equal_dicts d e
  equal_pair a b Others = pure (alike a b)

  unfoldable pub equal_with : Value → Value → M Bool
  equal_with a b = pair a b >>= equal_pair a b

-- with so many levels left, of which this takes one
unfoldable pub equal_below : ℕ → Value → Value → M Bool
equal_below zero a b = fault error.Depth
equal_below (suc n) a b = equal_with (equal_below n) a b

-- `a == b`; each level below the first counts as one that is open
unfoldable pub equal : Value → Value → M Bool
equal a b m = equal_with (equal_below (levels_left m)) a b m
