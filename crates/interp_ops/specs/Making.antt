-- New lists, tuples, texts and dictionaries. Their steps come before any event; `tuple` takes none.
use Rattle.std.specs.Prelude.{ℕ, List, length, Bool, if◌then◌else◌, is_some}
use Rattle.std.specs.List.{list_all}
use Rattle.exceptions_core.specs.declared.error.FaultKind.TheVariants as error
use Rattle.heap_objects.specs.Keyed.{key_of}
use Rattle.heap_objects.specs.Nesting.{tuple_of}
use Rattle.heap_objects.specs.declared.value.Value.{Value}
use Rattle.interp_machine.specs.Meaning.{M, ◌>>=◌, ◌>>◌, pure, fault, nests_over, new_dict, new_list, object_value, steps, text_value}

-- a list of these items, with a step for each
unfoldable pub make_list : List Value → M Value
make_list items = steps (length items) >> (new_list items >>= λ o. pure (object_value o))

-- the tuple of these parts, or an error where it would nest over the limit
abbrev pub tuple : List Value → M Value
tuple parts = if nests_over parts then fault error.Depth else pure (tuple_of parts)

-- a tuple of these parts, with a step for each
unfoldable pub make_tuple : List Value → M Value
make_tuple parts = steps (length parts) >> tuple parts

-- a text of these code points, with a step for each
unfoldable pub make_text : List ℕ → M Value
make_text t = steps (length t) >> pure (text_value t)

abbrev pub all_keyed : List Value → Bool
all_keyed keys = list_all (λ k. is_some (key_of k)) keys

-- a dictionary of as many keys as values, with a step for each entry that is given; each key has to have a key
unfoldable pub make_dict : List Value → List Value → M Value
make_dict keys values = if all_keyed keys then steps (length keys) >> (new_dict keys values >>= λ d. pure (object_value d)) else fault error.Kind
