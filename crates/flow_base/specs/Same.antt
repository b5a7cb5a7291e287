-- Tests that two keys, or two locations, are the same.
use Rattle.std.specs.Prelude.{Bool, true, false, ◌&&◌, ◌==◌, List, [], ◌∷◌}
use Rattle.std.specs.Ordering.{int_eq}
use Rattle.std.specs.Str.{bytes_eq}
use Rattle.flow_base.specs.declared.key.Key.{Key, fold-Key, out-Key}
use Rattle.flow_base.specs.declared.key.Key.TheOpen as key
use Rattle.flow_base.specs.declared.key.Key.TheOpen.{Key-F}
use Rattle.flow_base.specs.declared.loc.Loc.{Loc}
use Rattle.flow_base.specs.declared.loc.Loc.TheVariants.{Name, Attr, Item, Present, Shape}

-- each test passes the key beside it, and there are as many of both
abbrev pub all_pass : List (Key → Bool) → List Key → Bool
all_pass [] [] = true
all_pass (test ∷ tests) (k ∷ keys) = test k && all_pass tests keys
all_pass _ _ = false

-- the test of a key, whose parts are given as their tests
abbrev pub passes : Key-F (Key → Bool) → Key-F Key → Bool
passes key.Nil key.Nil = true
passes (key.Int m) (key.Int n) = int_eq m n
passes (key.Text s) (key.Text t) = bytes_eq s t
passes (key.Tuple tests) (key.Tuple keys) = all_pass tests keys
passes _ _ = false

abbrev pub key_eq : Key → Key → Bool
key_eq a = fold-Key (Key → Bool) (λ x k. passes x (out-Key k)) a

abbrev pub loc_eq : Loc → Loc → Bool
loc_eq (Name o s) (Name p t) = (o.0 == p.0) && (s.0 == t.0)
loc_eq (Attr o s) (Attr p t) = (o.0 == p.0) && (s.0 == t.0)
loc_eq (Item o j) (Item p k) = (o.0 == p.0) && key_eq j k
loc_eq (Present o j) (Present p k) = (o.0 == p.0) && key_eq j k
loc_eq (Shape o) (Shape p) = o.0 == p.0
loc_eq _ _ = false
