-- Truth and identity of values.
use Rattle.std.specs.Prelude.{◌==◌, ◌&&◌, ℕ, pos, Bool, true, false, not, List, [], ◌∷◌, length}
use Rattle.std.specs.Ordering.{int_eq}
use Rattle.std.specs.Str.{bytes_eq}
use Rattle.flow_base.specs.declared.event.ReadHow.TheVariants.{Use}
use Rattle.flow_base.specs.declared.numbers.ObjRef.{ObjRef}
use Rattle.heap_objects.specs.declared.value.Value.{Value, fold-Value, out-Value}
use Rattle.heap_objects.specs.declared.value.Value.TheOpen as v
use Rattle.heap_objects.specs.declared.value.Value.TheOpen.{Value-F}
use Rattle.interp_machine.specs.Kinds.{kind}
use Rattle.interp_machine.specs.Meaning.{M, ◌>>=◌, pure, shape}
use Rattle.interp_machine.specs.Walks.{range_size}
use Rattle.interp_machine.specs.declared.kinds.Kind.{Kind}
use Rattle.interp_machine.specs.declared.kinds.Kind.TheVariants.{Nil, Number, Text, Tuple, Range, List as AList, Dict}

-- a count of something
abbrev pub is_some_count : ℕ → Bool
is_some_count n = not (n == 0)

abbrev pub has_entries : ObjRef → M Bool
has_entries o = shape Use o >>= λ n. pure (is_some_count n)

abbrev pub truth_of : Kind → M Bool
truth_of Nil = pure false
truth_of (Number n) = pure (not (int_eq n (pos 0)))
truth_of (Text t) = pure (is_some_count (length t))
truth_of (Tuple xs) = pure (is_some_count (length xs))
truth_of (Range start stop step) = pure (is_some_count (range_size start stop step))
truth_of (AList o) = has_entries o
truth_of (Dict d) = has_entries d
truth_of _ = pure true

-- False for None, False, 0, an empty text, tuple or range, and a list or a dictionary without entries
unfoldable pub truth : Value → M Bool
truth x = kind x >>= truth_of

-- ---- identity

-- each test passes the value beside it, and there are as many of both
abbrev pub all_pass : List (Value → Bool) → List Value → Bool
all_pass [] [] = true
all_pass (test ∷ tests) (x ∷ xs) = test x && all_pass tests xs
all_pass _ _ = false

-- the test of a value, whose parts are given as their tests
abbrev pub passes : Value-F (Value → Bool) → Value-F Value → Bool
passes v.Nil v.Nil = true
passes (v.Truth true) (v.Truth b) = b
passes (v.Truth false) (v.Truth b) = not b
passes (v.Int m) (v.Int n) = int_eq m n
passes (v.Text s) (v.Text t) = bytes_eq s t
passes (v.Tuple tests kept) (v.Tuple xs depth) = all_pass tests xs
passes (v.Range a b c) (v.Range x y z) = int_eq a x && int_eq b y && int_eq c z
passes (v.Builtin f) (v.Builtin g) = f.0 == g.0
passes (v.Obj o) (v.Obj p) = o.0 == p.0
passes (v.Bound f o) (v.Bound g p) = (f.0 == g.0) && (o.0 == p.0)
passes (v.Method f test) (v.Method g x) = (f.0 == g.0) && test x
passes _ _ = false

-- the same kind and the same parts, or references to one object
abbrev pub identical : Value → Value → Bool
identical a = fold-Value (Value → Bool) (λ x b. passes x (out-Value b)) a
