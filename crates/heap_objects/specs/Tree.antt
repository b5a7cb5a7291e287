-- The plain trees that values stand for: texts are lists of code points, and a tuple has its parts alone.
use Rattle.std.specs.Prelude.{ℕ, ◌+◌, max, ℤ, pos, Bool, true, false, List, [], ◌∷◌, Option, Some, None}
use Rattle.flow_base.specs.declared.key.Key.{Key, roll-Key}
use Rattle.flow_base.specs.declared.key.Key.TheOpen as key
use Rattle.flow_base.specs.declared.numbers.ObjRef.{ObjRef}
use Rattle.flow_base.specs.declared.numbers.Sym.{Sym}
use Rattle.heap_objects.specs.declared.value.Value.{Value, fold-Value}
use Rattle.heap_objects.specs.declared.value.Value.TheOpen as v
use Rattle.heap_objects.specs.declared.value.Value.TheOpen.{Value-F}

mutual
  pub data Tree : Type 0 where
    nil : Tree
    truth : Bool → Tree
    int : ℤ → Tree
    text : List ℕ → Tree
    tuple : Trees → Tree
    -- the start, the stop and the step
    range : ℤ → ℤ → ℤ → Tree
    builtin : Sym → Tree
    obj : ObjRef → Tree
    -- the function and the receiver
    bound : ObjRef → ObjRef → Tree
    -- the name and the receiver
    method : Sym → Tree → Tree

  pub data Trees : Type 0 where
    none : Trees
    more : Tree → Trees → Trees

abbrev pub trees_of : List Tree → Trees
trees_of [] = none
trees_of (t ∷ ts) = more t (trees_of ts)

abbrev pub tree_step : Value-F Tree → Tree
tree_step v.Nil = nil
tree_step (v.Truth b) = truth b
tree_step (v.Int n) = int n
tree_step (v.Text t) = text t
tree_step (v.Tuple parts kept) = tuple (trees_of parts)
tree_step (v.Range start stop step) = range start stop step
tree_step (v.Builtin name) = builtin name
tree_step (v.Obj o) = obj o
tree_step (v.Bound f o) = bound f o
tree_step (v.Method name receiver) = method name receiver

-- the tree that a value stands for
abbrev pub tree_of : Value → Tree
tree_of = fold-Value Tree tree_step

-- one more than the greatest nesting of the parts of a tuple or a method, and otherwise 0
abbrev mutual
  pub depth : Tree → ℕ
  depth nil = 0
  depth (truth b) = 0
  depth (int n) = 0
  depth (text t) = 0
  depth (tuple ts) = deepest ts + 1
  depth (range start stop step) = 0
  depth (builtin name) = 0
  depth (obj o) = 0
  depth (bound f o) = 1
  depth (method name receiver) = depth receiver + 1

  -- the nesting of the deepest, or 0
  pub deepest : Trees → ℕ
  deepest none = 0
  deepest (more t ts) = max (depth t) (deepest ts)

abbrev pub key_before : Option Key → Option (List Key) → Option (List Key)
key_before None ks = None
key_before (Some k) None = None
key_before (Some k) (Some ks) = Some (k ∷ ks)

abbrev pub tuple_with : Option (List Key) → Option Key
tuple_with None = None
tuple_with (Some ks) = Some (roll-Key (key.Tuple ks))

-- The key of a tree. That of a number is the number, and a truth value counts as the number 1 or 0. A tuple has a key where
-- all its parts have one, and what is left has none.
abbrev mutual
  pub key_of_tree : Tree → Option Key
  key_of_tree nil = Some (roll-Key key.Nil)
  key_of_tree (truth true) = Some (roll-Key (key.Int (pos 1)))
  key_of_tree (truth false) = Some (roll-Key (key.Int (pos 0)))
  key_of_tree (int n) = Some (roll-Key (key.Int n))
  key_of_tree (text t) = Some (roll-Key (key.Text t))
  key_of_tree (tuple ts) = tuple_with (keys_of_trees ts)
  key_of_tree (range start stop step) = None
  key_of_tree (builtin name) = None
  key_of_tree (obj o) = None
  key_of_tree (bound f o) = None
  key_of_tree (method name receiver) = None

  pub keys_of_trees : Trees → Option (List Key)
  keys_of_trees none = Some []
  keys_of_trees (more t ts) = key_before (key_of_tree t) (keys_of_trees ts)
