-- The key that a value has.
use Rattle.std.specs.Prelude.{List, [], ◌∷◌, Option, Some, None, true, false, pos}
use Rattle.std.specs.Option.{option_map}
use Rattle.flow_base.specs.declared.key.Key.{Key, roll-Key}
use Rattle.flow_base.specs.declared.key.Key.TheOpen as key
use Rattle.heap_objects.specs.declared.value.Value.{Value, fold-Value}
use Rattle.heap_objects.specs.declared.value.Value.TheOpen.{Value-F, Nil, Truth, Int, Text, Tuple}

-- what is there, unless one is missing
abbrev pub with_first : Option Key → Option (List Key) → Option (List Key)
with_first None ks = None
with_first (Some k) None = None
with_first (Some k) (Some ks) = Some (k ∷ ks)

abbrev pub all_of : List (Option Key) → Option (List Key)
all_of [] = Some []
all_of (k ∷ ks) = with_first k (all_of ks)

abbrev pub tuple_key : List (Option Key) → Option Key
tuple_key ks = option_map (λ all. roll-Key (key.Tuple all)) (all_of ks)

abbrev pub key_step : Value-F (Option Key) → Option Key
key_step Nil = Some (roll-Key key.Nil)
key_step (Truth true) = Some (roll-Key (key.Int (pos 1)))
key_step (Truth false) = Some (roll-Key (key.Int (pos 0)))
key_step (Int n) = Some (roll-Key (key.Int n))
key_step (Text t) = Some (roll-Key (key.Text t))
key_step (Tuple parts kept) = tuple_key parts
key_step _ = None

-- The key of a number is the number, and a truth value counts as the number 1 or 0. A tuple has a key where all its parts
-- have one, and what is left has none.
abbrev pub key_of : Value → Option Key
key_of = fold-Value (Option Key) key_step
