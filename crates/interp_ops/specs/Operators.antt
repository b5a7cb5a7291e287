-- Arithmetic operators, joining and repeating, and membership.
use Rattle.std.specs.Prelude.{◌++◌, ◌+ℤ◌, ◌-ℤ◌, ◌*ℤ◌, neg_ℤ, ℕ, zero, suc, ℤ, pos, negsuc, Bool, true, false, List, [], length, Option, Some, None, is_some, Result, Ok, Err}
use Rattle.std.specs.Int.{int_pow}
use Rattle.exceptions_core.specs.declared.error.FaultKind.TheVariants as error
use Rattle.flow_base.specs.declared.key.Key.{Key}
use Rattle.flow_base.specs.declared.numbers.ObjRef.{ObjRef}
use Rattle.heap_objects.specs.Keyed.{key_of}
use Rattle.heap_objects.specs.declared.value.Value.{Value}
use Rattle.interp_machine.specs.Kinds.{kind, kind_of, pair}
use Rattle.interp_machine.specs.Meaning.{M, ◌>>=◌, ◌>>◌, pure, stop_with, fault, present, steps}
use Rattle.interp_machine.specs.Walks.{collect, int_value, next, size_of, walk}
use Rattle.interp_machine.specs.declared.kinds.Kind.{Kind}
use Rattle.interp_machine.specs.declared.kinds.Kind.TheVariants as k
use Rattle.interp_machine.specs.declared.kinds.Pair.{Pair}
use Rattle.interp_machine.specs.declared.kinds.Pair.TheVariants.{Numbers, Texts, Tuples, Lists, Dicts, Others}
use Rattle.interp_machine.specs.declared.stop.Stop.TheVariants as stop
use Rattle.interp_machine.specs.declared.walks.Walker.{Walker}
use Rattle.interp_machine.specs.declared.walks.Walker.TheVariants.{Items}
use Rattle.interp_ops.specs.Equality.{equal}
use Rattle.interp_ops.specs.Making.{make_list, make_text, make_tuple}
use Rattle.interp_ops.specs.declared.products.Product.{Product}
use Rattle.interp_ops.specs.declared.products.Product.TheVariants as p
use Rattle.interp_ops.specs.declared.operators.BinaryOp.{BinaryOp}
use Rattle.interp_ops.specs.declared.operators.BinaryOp.TheVariants.{Add, Sub, Mul, FloorDiv, Mod, Power}
use Rattle.py_scalars.specs.Exact.{divided, exact, floor_quotient, floor_remainder}
use Rattle.py_scalars.specs.Search.{first_place}
use Rattle.py_scalars.specs.declared.numbers.NumFault.{NumFault}
use Rattle.py_scalars.specs.declared.numbers.NumFault.TheVariants.{ZeroDiv, Range}

-- ---- numbers

-- a number, the end of the run where it is outside those of 128 bits, or ZeroDivisionError
abbrev pub answered : Result ℤ NumFault → M Value
answered (Ok n) = pure (int_value n)
answered (Err Range) = stop_with stop.Range
answered (Err ZeroDiv) = fault error.ZeroDiv

-- an exponent below 0 is ValueError
abbrev pub raised_to : ℤ → ℤ → M Value
raised_to x (pos n) = answered (exact (int_pow x n))
raised_to x (negsuc n) = fault error.Value

abbrev pub of_numbers : (ℤ → ℤ → M Value) → Pair → M Value
of_numbers f (Numbers x y) = f x y
of_numbers f _ = fault error.Kind

-- ---- joining and repeating

abbrev pub joined_lists : ObjRef → ObjRef → M Value
joined_lists o p = collect (Items o 0) >>= λ xs. collect (Items p 0) >>= λ ys. make_list (xs ++ ys)

abbrev pub sum_of : Pair → M Value
sum_of (Numbers x y) = answered (exact (x +ℤ y))
sum_of (Texts s t) = make_text (s ++ t)
sum_of (Tuples xs ys) = make_tuple (xs ++ ys)
sum_of (Lists o p) = joined_lists o p
sum_of (Dicts d e) = fault error.Kind
sum_of Others = fault error.Kind

-- so many times the same
abbrev pub repeated : {A : Type 0} → ℕ → List A → List A
repeated zero xs = []
repeated (suc n) xs = xs ++ repeated n xs

-- how many turns that takes for a list of a length: an empty one takes none
abbrev pub turns : ℕ → ℕ → ℕ
turns zero n = 0
turns (suc len) n = n

abbrev pub product_of : Product → M Value
product_of (p.Numbers x y) = answered (exact (x *ℤ y))
product_of (p.Text t n) = make_text (repeated (size_of n) t)
product_of (p.Tuple xs n) = make_tuple (repeated (size_of n) xs)
product_of (p.List o n) = collect (Items o 0) >>= λ xs. make_list (repeated (size_of n) xs)
product_of p.Others = fault error.Kind

-- two numbers, or a text, a tuple or a list and a number in either order
abbrev pub product_with : Kind → Kind → Product
product_with (k.Number x) (k.Number y) = p.Numbers x y
product_with (k.Number n) (k.Text t) = p.Text t n
product_with (k.Text t) (k.Number n) = p.Text t n
product_with (k.Number n) (k.Tuple xs) = p.Tuple xs n
product_with (k.Tuple xs) (k.Number n) = p.Tuple xs n
product_with (k.Number n) (k.List o) = p.List o n
product_with (k.List o) (k.Number n) = p.List o n
product_with _ _ = p.Others

unfoldable pub product : Value → Value → M Product
product a b m = (Ok (product_with (kind_of m.heap a) (kind_of m.heap b)), m)

-- ---- operators of two operands

abbrev pub binary_of : BinaryOp → Value → Value → M Value
binary_of Add a b = pair a b >>= sum_of
binary_of Sub a b = pair a b >>= of_numbers (λ x y. answered (exact (x -ℤ y)))
binary_of Mul a b = product a b >>= product_of
binary_of FloorDiv a b = pair a b >>= of_numbers (λ x y. answered (divided y (floor_quotient x y)))
binary_of Mod a b = pair a b >>= of_numbers (λ x y. answered (divided y (floor_remainder x y)))
binary_of Power a b = pair a b >>= of_numbers raised_to

unfoldable pub binary : BinaryOp → Value → Value → M Value
binary = binary_of

-- ---- signs

abbrev pub negated : Kind → M Value
negated (k.Number n) = answered (exact (neg_ℤ n))
negated _ = fault error.Kind

-- `-x`
unfoldable pub negate : Value → M Value
negate x = kind x >>= negated

abbrev pub unchanged : Kind → M Value
unchanged (k.Number n) = pure (int_value n)
unchanged _ = fault error.Kind

-- `+x`
unfoldable pub plus : Value → M Value
plus x = kind x >>= unchanged

-- ---- membership

-- a part of a text, for a step for each code point of the text
abbrev pub text_in : Kind → List ℕ → M Bool
text_in (k.Text s) t = steps (length t) >> pure (is_some (first_place s t))
text_in _ t = fault error.Kind

abbrev pub key_in : Option Key → ObjRef → M Bool
key_in None d = fault error.Kind
key_in (Some key) d = present d key

abbrev pub or_more : M Bool → Bool → M Bool
or_more more true = pure true
or_more more false = more

-- a part that is equal ends the walk
abbrev pub found_part : (Walker → M Bool) → Value → Option Value × Walker → M Bool
found_part more x (None, w) = pure false
found_part more x (Some y, w) = equal y x >>= or_more (more w)

abbrev pub found_from : Value → ℕ → Walker → M Bool
found_from x zero w = stop_with stop.Steps
found_from x (suc n) w = next w >>= found_part (found_from x n) x

-- each part costs a step, so that one turn more than the steps that are left is enough
unfoldable pub find_equal : Value → Walker → M Bool
find_equal x w m = found_from x (suc m.left) w m

abbrev pub contains_of : Value → Value → Kind → M Bool
contains_of x c (k.Dict d) = key_in (key_of x) d
contains_of x c (k.Text t) = kind x >>= λ s. text_in s t
contains_of x c _ = walk c >>= find_equal x

-- `x in c`
unfoldable pub contains : Value → Value → M Bool
contains x c = kind c >>= contains_of x c
