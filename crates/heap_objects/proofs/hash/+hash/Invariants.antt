use Rattle.std.proofs.Common.{◌≡◌, map, take}
use Rattle.heap_objects.specs.Hash.{hash_key, mix_all}
use Rattle.heap_objects.proofs.hash.+hash.Given as goal

abbrev pub invariant-mix_keys-loop-key : goal.invariant-mix_keys-loop-key
invariant-mix_keys-loop-key l = l.mixed ≡ mix_all l.m (map hash_key (take l.key-index l.keys))
