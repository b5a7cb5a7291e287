use Rattle.std.proofs.Common.{◌≡◌, map, take}
use Rattle.version_store.specs.Hash.{hash_key, mix_all}
use Rattle.version_store.proofs.hash.+hash.Given as goal

abbrev pub invariant-mix_keys-loop-key : goal.invariant-mix_keys-loop-key
invariant-mix_keys-loop-key l = l.mixed ≡ mix_all l.m (map hash_key (take l.key-index l.keys))
