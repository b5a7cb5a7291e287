-- What is kept of a tree while a line is read: the tree itself and how deep it is, up to a number of levels; of a deeper one, only
-- what it may stand for. So no deep tree is built, and a line of any depth is still told to be in a form or not.
use Rattle.std.specs.Prelude.{ℕ, ◌+◌, max, nat_le, Bool, true, false, ◌&&◌, List, [], ◌∷◌, Option, Some, None, if◌then◌else◌}
use Rattle.py_ast.specs.Tree as t
use Rattle.py_ast.specs.Tree.{Tree, Trees, none, more, depth, deepest}
use Rattle.py_ast.specs.declared.expr.CompareOp.{CompareOp}
use Rattle.py_grammar.specs.Grammar.{push}

-- ---- targets among expressions

abbrev pub some_of : Trees → Bool
some_of none = false
some_of (more a ts) = true

abbrev mutual
  pub is_target : Tree → Bool
  is_target (t.name x) = true
  is_target (t.attr a x) = true
  is_target (t.item a i) = true
  is_target (t.tuple ts) = some_of ts && are_targets ts
  is_target (t.list ts) = some_of ts && are_targets ts
  is_target _ = false

  pub are_targets : Trees → Bool
  are_targets none = true
  are_targets (more a ts) = is_target a && are_targets ts

-- the target that an expression in its place is: a list of targets is the tuple of them
abbrev mutual
  pub target_of : Tree → Tree
  target_of (t.tuple ts) = t.tuple (targets_of ts)
  target_of (t.list ts) = t.tuple (targets_of ts)
  target_of a = a

  pub targets_of : Trees → Trees
  targets_of none = none
  targets_of (more a ts) = more (target_of a) (targets_of ts)

-- ---- shapes

-- what an expression may stand for: a place, another target, or a value alone
pub data Shape : Type 0 where
  place : Shape
  target : Shape
  value : Shape

abbrev pub if_targets : Bool → Shape
if_targets true = target
if_targets false = value

abbrev pub shape : Tree → Shape
shape (t.name x) = place
shape (t.attr a x) = place
shape (t.item a i) = place
shape a = if_targets (is_target a)

abbrev pub may_be_target : Shape → Bool
may_be_target place = true
may_be_target target = true
may_be_target value = false

-- ---- one tree

pub data Kept : Type 0 where
  whole : Tree → ℕ → Kept
  deep : Shape → Kept

-- a tree of a shape that is so deep; the number is the most levels that are kept
abbrev pub built : ℕ → Tree → ℕ → Shape → Kept
built most a d s = if nat_le d most then whole a d else deep s

abbrev pub keep : ℕ → Tree → Kept
keep most a = built most a (depth a) (shape a)

abbrev pub kept : Kept → Option Tree
kept (whole a d) = Some a
kept (deep s) = None

abbrev pub is_kept_target : Kept → Bool
is_kept_target (whole a d) = is_target a
is_kept_target (deep s) = may_be_target s

abbrev pub kept_target : Kept → Kept
kept_target (whole a d) = whole (target_of a) d
kept_target (deep s) = deep s

abbrev pub is_kept_place : Kept → Bool
is_kept_place (whole (t.name x) d) = true
is_kept_place (whole (t.attr a x) d) = true
is_kept_place (whole (t.item a i) d) = true
is_kept_place (whole a d) = false
is_kept_place (deep place) = true
is_kept_place (deep target) = false
is_kept_place (deep value) = false

-- ---- several trees

pub data KeptAll : Type 0 where
  -- the trees, and how deep the deepest is
  all : Trees → ℕ → KeptAll
  -- one alone, which is too deep
  one_deep : Shape → KeptAll
  -- several of which some is too deep, and whether all may be targets
  some_deep : Bool → KeptAll

abbrev pub no_trees : KeptAll
no_trees = all none 0

-- one tree more after some, which is too deep
abbrev pub push_deep : Trees → Shape → KeptAll
push_deep none s = one_deep s
push_deep (more a ts) s = some_deep (are_targets (more a ts) && may_be_target s)

abbrev pub push_kept : KeptAll → Kept → KeptAll
push_kept (all ts d) (whole a e) = all (push ts a) (max d e)
push_kept (all ts d) (deep s) = push_deep ts s
push_kept (one_deep s) a = some_deep (may_be_target s && is_kept_target a)
push_kept (some_deep b) a = some_deep (b && is_kept_target a)

abbrev pub too_deep : Trees → KeptAll
too_deep (more a none) = one_deep (shape a)
too_deep ts = some_deep (are_targets ts)

abbrev pub keep_all : ℕ → Trees → KeptAll
keep_all most ts = if nat_le (deepest ts) most then all ts (deepest ts) else too_deep ts

abbrev pub all_kept : KeptAll → Option Trees
all_kept (all ts d) = Some ts
all_kept (one_deep s) = None
all_kept (some_deep b) = None

abbrev pub is_none_kept : KeptAll → Bool
is_none_kept (all none d) = true
is_none_kept (all (more a ts) d) = false
is_none_kept (one_deep s) = false
is_none_kept (some_deep b) = false

-- ---- what is made of parts

abbrev pub leaf : Tree → Kept
leaf a = whole a 1

-- the shape of a tuple or a list
abbrev pub row_shape : KeptAll → Shape
row_shape (all ts d) = if_targets (some_of ts && are_targets ts)
row_shape (one_deep s) = if_targets (may_be_target s)
row_shape (some_deep b) = if_targets b

module _ (most : ℕ) where
  abbrev pub made : (Tree → Tree) → Shape → Kept → Kept
  made f s (whole a d) = built most (f a) (1 + d) s
  made f s (deep _) = deep s

  abbrev pub made_of_two : (Tree → Tree → Tree) → Shape → Kept → Kept → Kept
  made_of_two f s (whole a d) (whole b e) = built most (f a b) (1 + max d e) s
  made_of_two f s (whole a d) (deep _) = deep s
  made_of_two f s (deep _) b = deep s

  abbrev pub made_choice : Kept → Kept → Kept → Kept
  made_choice (whole a d) (whole test e) (whole other f) = built most (t.choice a test other) (1 + max d (max e f)) value
  made_choice _ _ _ = deep value

  abbrev pub made_of_all : (Trees → Tree) → Shape → KeptAll → Kept
  made_of_all f s (all ts d) = built most (f ts) (1 + d) s
  made_of_all f s (one_deep _) = deep s
  made_of_all f s (some_deep _) = deep s

  abbrev pub made_tuple : KeptAll → Kept
  made_tuple ts = made_of_all t.tuple (row_shape ts) ts

  abbrev pub made_list : KeptAll → Kept
  made_list ts = made_of_all t.list (row_shape ts) ts

  abbrev pub made_dict : KeptAll → Kept
  made_dict = made_of_all t.dict value

  abbrev pub made_call : Kept → KeptAll → Kept
  made_call (whole f d) (all ts e) = built most (t.call f ts) (1 + max d e) value
  made_call (whole f d) (one_deep _) = deep value
  made_call (whole f d) (some_deep _) = deep value
  made_call (deep _) ts = deep value

  abbrev pub made_lambda : List (List ℕ) → KeptAll → Kept → Kept
  made_lambda names (all ts d) (whole a e) = built most (t.lambda names ts a) (1 + max d e) value
  made_lambda names (all ts d) (deep _) = deep value
  made_lambda names (one_deep _) a = deep value
  made_lambda names (some_deep _) a = deep value

  -- one tree is itself, several are a tuple
  abbrev pub alone : KeptAll → Kept
  alone (all (more a none) d) = whole a d
  alone (all none d) = made_tuple (all none d)
  alone (all (more a (more b ts)) d) = made_tuple (all (more a (more b ts)) d)
  alone (one_deep s) = deep s
  alone (some_deep b) = deep (if_targets b)

  -- one operand is itself, several are a comparison
  abbrev pub compared : List CompareOp × KeptAll → Kept
  compared ([], ts) = alone ts
  compared (o ∷ os, ts) = made_of_all (t.compare (o ∷ os)) value ts
