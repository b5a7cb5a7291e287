-- The rows of a tree, in the order of their stamps.
use Rattle.std.specs.Prelude.{◌≡◌, ◌==◌, ◌+◌, ◌<◌, ◌≤◌, ℕ, not, List, [], ◌∷◌, ◌++◌, filter, length, Option, Some, None, if◌then◌else◌}
use Rattle.heap_objects.specs.declared.tree.Row.{Row}
use Rattle.heap_objects.specs.declared.tree.Tree.{Tree}
use Rattle.heap_objects.specs.declared.tree.Tree.TheVariants.{Empty, Leaf, Branch'}
use Rattle.heap_objects.specs.declared.value.Value.{Value}

-- `Branch'` has each `Box` in two parts: p and q are the pointer and the allocator.
abbrev pub rows : Tree → List Row
rows Empty = []
rows (Leaf r) = r ∷ []
rows (Branch' p left m q right) = rows left ++ rows right

-- all stamps are below this one
abbrev pub AllBelow : ℕ → List Row → Type 0
AllBelow n [] = Unit {0}
AllBelow n (r ∷ rs) = (r.stamp < n) × AllBelow n rs

-- no stamp is below this one
abbrev pub AllFrom : ℕ → List Row → Type 0
AllFrom n [] = Unit {0}
AllFrom n (r ∷ rs) = (n ≤ r.stamp) × AllFrom n rs

-- each branch has the number of its rows, and a stamp that parts its sides
abbrev pub IsTree : Tree → Type 0
IsTree Empty = Unit {0}
IsTree (Leaf r) = Unit {0}
IsTree (Branch' p left m q right) =
    (m.count ≡ length (rows left) + length (rows right)) × AllBelow m.split (rows left) × AllFrom m.split (rows right) × IsTree left × IsTree right

-- the row with a stamp
abbrev pub row_of : List Row → ℕ → Option Row
row_of [] s = None
row_of (r ∷ rs) s = if r.stamp == s then Some r else row_of rs s

-- the rows with a value at a stamp
abbrev pub with_stamp : List Row → ℕ → Value → List Row
with_stamp [] s v = []
with_stamp (r ∷ rs) s v = if r.stamp == s then record r { entry = record r.entry { value = v } } ∷ rs else r ∷ with_stamp rs s v

-- the rows but those with a stamp
abbrev pub without_stamp : List Row → ℕ → List Row
without_stamp rs s = filter (λ r. not (r.stamp == s)) rs

-- the number of branches and leaves
abbrev pub size_of : Tree → ℕ
size_of Empty = 0
size_of (Leaf r) = 1
size_of (Branch' p left m q right) = size_of left + size_of right + 1
