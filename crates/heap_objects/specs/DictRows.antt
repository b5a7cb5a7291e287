-- How the rows of a dictionary are tied to the index by which they are found.
use Rattle.std.specs.Prelude.{◌≡◌, ℕ, Bool, true, false, List, [], ◌∷◌, map, Option, Some, None, if◌then◌else◌}
use Rattle.std.specs.HashMap.{HashMap}
use Rattle.flow_base.specs.Same.{key_eq}
use Rattle.flow_base.specs.declared.key.Key.{Key}
use Rattle.heap_objects.specs.Hash.{hash_key}
use Rattle.heap_objects.specs.Rows.{AllBelow, IsTree, row_of, rows}
use Rattle.heap_objects.specs.Stamps.{has_stamp, stamps_at}
use Rattle.heap_objects.specs.declared.tree.Entry.{Entry}
use Rattle.heap_objects.specs.declared.tree.Row.{Row}
use Rattle.heap_objects.specs.declared.tree.Tree.{Tree}

abbrev pub entries_of : List Row → List Entry
entries_of rs = map (λ r. r.entry) rs

-- the stamp and the key of each row
abbrev pub tags_of : List Row → List (ℕ × Key)
tags_of rs = map (λ r. (r.stamp, r.entry.key)) rs

-- each stamp is listed under the number of its key
abbrev pub AreListed : (ℕ → List ℕ) → List (ℕ × Key) → Type 0
AreListed at [] = Unit {0}
AreListed at (t ∷ ts) = (has_stamp (at (hash_key t.1)) t.0 ≡ true) × AreListed at ts

abbrev pub has_tag : List (ℕ × Key) → Key → Bool
has_tag [] k = false
has_tag (t ∷ ts) k = if key_eq t.1 k then true else has_tag ts k

-- no key stands twice
abbrev pub AreDistinct : List (ℕ × Key) → Type 0
AreDistinct [] = Unit {0}
AreDistinct (t ∷ ts) = (has_tag ts t.1 ≡ false) × AreDistinct ts

pub record IsDict {S : Type 0} (index : HashMap ℕ (List ℕ) S) (next : ℕ) (t : Tree) : Type 0 where
  pub tree : IsTree t
  pub below : AllBelow next (rows t)
  pub listed : AreListed (stamps_at index) (tags_of (rows t))
  pub distinct : AreDistinct (tags_of (rows t))

-- the row if it has the key
abbrev pub row_if : Key → Option Row → Option Row
row_if k None = None
row_if k (Some r) = if key_eq r.entry.key k then Some r else None

abbrev pub or_row : Option Row → Option Row → Option Row
or_row None o = o
or_row (Some r) o = Some r

-- the first of the rows with these stamps that has the key
abbrev pub row_among : List Row → Key → List ℕ → Option Row
row_among rs k [] = None
row_among rs k (s ∷ ss) = or_row (row_if k (row_of rs s)) (row_among rs k ss)
