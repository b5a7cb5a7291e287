-- Walks over the parts of values.
use Rattle.std.specs.Prelude.{◌==◌, ◌-◌, ◌++◌, ◌+ℤ◌, ℕ, zero, suc, ℤ, pos, negsuc, List, [], ◌∷◌, Option, Some, None, option_map, slice_get, if◌then◌else◌}
use Rattle.exceptions_core.specs.declared.error.FaultKind.TheVariants as error
use Rattle.flow_base.specs.declared.event.ReadHow.TheVariants.{Use}
use Rattle.heap_objects.specs.State.{item}
use Rattle.heap_objects.specs.WellFormed.{range_count}
use Rattle.heap_objects.specs.declared.value.Value.{Value, roll-Value}
use Rattle.heap_objects.specs.declared.value.Value.TheOpen as v
use Rattle.interp_machine.specs.Kinds.{kind}
use Rattle.interp_machine.specs.Meaning.{M, ◌>>=◌, ◌>>◌, pure, stop_with, fault, key_at, load, shape, steps, text_value}
use Rattle.interp_machine.specs.declared.kinds.Kind.{Kind}
use Rattle.interp_machine.specs.declared.kinds.Kind.TheVariants as k
use Rattle.interp_machine.specs.declared.stop.Stop.TheVariants as stop
use Rattle.interp_machine.specs.declared.walks.Walker.{Walker}
use Rattle.interp_machine.specs.declared.walks.Walker.TheVariants.{Items, Keys, Parts, Points, Range}

abbrev pub int_value : ℤ → Value
int_value n = roll-Value (v.Int n)

abbrev pub point_value : ℕ → Value
point_value c = text_value (c ∷ [])

-- ---- ranges

abbrev pub size_of : ℤ → ℕ
size_of (pos n) = n
size_of (negsuc n) = 0

-- how many members a range with this start, stop and step has
unfoldable pub range_size : ℤ → ℤ → ℤ → ℕ
range_size start stop (pos zero) = 0
range_size start stop step = size_of (range_count start stop step)

-- the member after one that is followed by so many
abbrev pub member_after : ℤ → ℤ → ℕ → ℤ
member_after a step zero = a
member_after a step (suc n) = a +ℤ step

-- ---- one part after another

-- a part, where there is one, costs a step
unfoldable pub counted : Option Value → Walker → M (Option Value × Walker)
counted None after = pure (None, after)
counted (Some x) after = steps 1 >> pure (Some x, after)

-- a member of a range that is followed by so many
unfoldable pub some_member : ℤ → ℤ → ℕ → M (Option Value × Walker)
some_member a step n = counted (Some (int_value a)) (Range (member_after a step n) step n)

unfoldable pub member : ℤ → ℤ → ℕ → M (Option Value × Walker)
member a step n = if n == 0 then pure (None, Range a step 0) else some_member a step (n - 1)

abbrev pub next_of : Walker → M (Option Value × Walker)
next_of (Items o i) = load (item o i) >>= λ x. counted x (Items o (suc i))
next_of (Keys d i) = key_at d i >>= λ x. counted x (Keys d (suc i))
next_of (Parts xs i) = counted (slice_get xs i) (Parts xs (suc i))
next_of (Points t i) = counted (option_map point_value (slice_get t i)) (Points t (suc i))
next_of (Range a step n) = member a step n

-- The part that is next, if there is one, and the walk behind it. Of a list an item that is there or not is used.
unfoldable pub next : Walker → M (Option Value × Walker)
next = next_of

-- ---- the walk of a value

abbrev pub walk_of : Kind → M Walker
walk_of (k.List o) = pure (Items o 0)
walk_of (k.Dict d) = shape Use d >> pure (Keys d 0)
walk_of (k.Tuple xs) = pure (Parts xs 0)
walk_of (k.Text t) = pure (Points t 0)
walk_of (k.Range start stop step) = pure (Range start step (range_size start stop step))
walk_of _ = fault error.Kind

-- before its first part; the shape of a dictionary is used
unfoldable pub walk : Value → M Walker
walk x = kind x >>= walk_of

-- ---- all parts

abbrev pub go_through : (Walker → List Value → M (List Value)) → List Value → Option Value × Walker → M (List Value)
go_through more done (None, w) = pure done
go_through more done (Some x, w) = more w (done ++ x ∷ [])

-- the parts behind those that there are, in at most so many turns; each part costs a step, so that the turns are enough where they are
-- one more than the steps that are left
unfoldable pub gather : ℕ → Walker → List Value → M (List Value)
gather zero w done = stop_with stop.Steps
gather (suc n) w done = next w >>= go_through (gather n) done

unfoldable pub collect : Walker → M (List Value)
collect w m = gather (suc m.left) w [] m
