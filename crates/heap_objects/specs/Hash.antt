-- Numbers of keys, by which they are looked up. Different keys may have the same number.
use Rattle.std.specs.Prelude.{ℕ, ◌+◌, ◌*◌, ◌%◌, List, unsigned_abs}
use Rattle.std.specs.List.{fold}
use Rattle.flow_base.specs.declared.key.Key.{Key, fold-Key}
use Rattle.flow_base.specs.declared.key.Key.TheOpen as key
use Rattle.flow_base.specs.declared.key.Key.TheOpen.{Key-F}

-- modulo a prime below 2 to the 32nd
abbrev pub mix : ℕ → ℕ → ℕ
mix m n = ((m % 4294967291) * 65537 + n % 4294967291) % 4294967291

abbrev pub mix_all : ℕ → List ℕ → ℕ
mix_all m ns = fold mix m ns

-- the number of a key whose parts have these numbers
abbrev pub hash_level : Key-F ℕ → ℕ
hash_level key.Nil = 1
hash_level (key.Int n) = mix 2 (unsigned_abs n % 4294967291)
hash_level (key.Text points) = mix_all 3 points
hash_level (key.Tuple parts) = mix_all 4 parts

abbrev pub hash_key : Key → ℕ
hash_key = fold-Key ℕ hash_level
