use Rattle.std.proofs.Common.{◌≡◌, map, drop, ◌++◌}
use Rattle.std.specs.Option.{option_map}
use Rattle.heap_objects.specs.Keyed.{all_of, key_of}
use Rattle.heap_objects.proofs.keyed.+keyed.Given as goal

abbrev pub invariant-tuple_key-loop-v : goal.invariant-tuple_key-loop-v
invariant-tuple_key-loop-v l = all_of (map key_of l.parts) ≡ option_map (λ rest. l.keys.items ++ rest) (all_of (map key_of (drop l.v-index l.parts)))
