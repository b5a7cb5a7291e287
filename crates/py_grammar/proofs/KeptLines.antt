-- What is kept of a statement, a header and a line is made of what is kept of their parts.
use Rattle.std.proofs.Common.{◌≡◌, ℕ, ◌+◌, ◌≤◌, ◌<◌, max, nat_le, Bool, true, false, ◌&&◌, if◌then◌else◌, List, [], ◌∷◌, ◌++◌, Option, Some}
use Rattle.std.proofs.Common.{None, option_map, refl, sym, ap, ◌∙◌, arith, inl, inr}
use Rattle.std.proofs.lemmas.Bool.{le-leb, lt-leb, cases_lt}
use Rattle.py_ast.specs.Tree as t
use Rattle.py_ast.specs.Tree.{Tree, Trees, none, more, depth, deepest}
use Rattle.py_ast.specs.Statement.{Statement}
use Rattle.py_grammar.specs.Kept.{some_of, is_target, are_targets, target_of, targets_of, Shape, if_targets, shape, whole, deep, keep, kept}
use Rattle.py_grammar.specs.Kept.{is_kept_target, kept_target, is_kept_place, all, too_deep, keep_all, all_kept}
use Rattle.py_grammar.specs.Line as line
use Rattle.py_grammar.specs.Line.{Header, simple_depth, simples_depth, header_depth}
use Rattle.py_grammar.specs.LineReading.{both, with_simple, keep_simple, keep_simples, keep_header, keep_line}
use Rattle.py_grammar.proofs.Kept.{shape_may}
use Rattle.py_grammar.proofs.Targets.{IsPlaceTree}

-- ---- up to a number of levels

-- what has so many levels, if they are no more than the most
abbrev pub up_to_depth : {A : Type 0} → ℕ → ℕ → A → Option A
up_to_depth most d x = if nat_le d most then Some x else None

pub below_is : {A : Type 0} (most d : ℕ) (x : A) → d ≤ most → up_to_depth most d x ≡ Some x
below_is most d x h = ap (λ b. if b then Some x else None) (le-leb d most h)

pub above_is : {A : Type 0} (most d : ℕ) (x : A) → most < d → up_to_depth most d x ≡ None
above_is most d x h = ap (λ b. if b then Some x else None) (lt-leb d most h)

le_max : (a b n : ℕ) → nat_le (max a b) n ≡ (nat_le a n && nat_le b n)
le_max a b n =
    elim (cases_lt n a) [
      | inl p ↦ lt-leb (max a b) n (omega arith) ∙ ap (λ z. z && nat_le b n) (sym (lt-leb a n p))
      | inr p ↦
          elim (cases_lt n b) [
            | inl q ↦ lt-leb (max a b) n (omega arith) ∙ sym (ap (λ z. z && nat_le b n) (le-leb a n p) ∙ lt-leb b n q)
            | inr q ↦ le-leb (max a b) n (omega arith) ∙ sym (ap (λ z. z && nat_le b n) (le-leb a n p) ∙ le-leb b n q)
          ]
    ]

map_if : {A B : Type 0} (f : A → B) (x : A) (b : Bool) → option_map f (if b then Some x else None) ≡ (if b then Some (f x) else None)
map_if f x true = refl
map_if f x false = refl

pub map_kept : {A B : Type 0} (f : A → B) (x : A) (most d : ℕ) → option_map f (up_to_depth most d x) ≡ up_to_depth most d (f x)
map_kept f x most d = map_if f x (nat_le d most)

both_if : {A B C : Type 0} (f : A → B → C) (x : A) (y : B) (b c : Bool)
    → both f (if b then Some x else None) (if c then Some y else None) ≡ (if b && c then Some (f x y) else None)
both_if f x y true true = refl
both_if f x y true false = refl
both_if f x y false c = refl

pub both_kept : {A B C : Type 0} (f : A → B → C) (x : A) (y : B) (most d e : ℕ)
    → both f (up_to_depth most d x) (up_to_depth most e y) ≡ up_to_depth most (max d e) (f x y)
both_kept f x y most d e =
    both_if f x y (nat_le d most) (nat_le e most) ∙ ap (λ b. if b then Some (f x y) else None) (sym (le_max d e most))

-- ---- trees

kept_if : (a : Tree) (d : ℕ) (s : Shape) (b : Bool) → kept (if b then whole a d else deep s) ≡ (if b then Some a else None)
kept_if a d s true = refl
kept_if a d s false = refl

pub kept_is : (most : ℕ) (a : Tree) → kept (keep most a) ≡ up_to_depth most (depth a) a
kept_is most a = kept_if a (depth a) (shape a) (nat_le (depth a) most)

all_kept_if : (ts : Trees) (d : ℕ) (b : Bool) → all_kept (if b then all ts d else too_deep ts) ≡ (if b then Some ts else None)
all_kept_if ts d true = refl
all_kept_if none d false = refl
all_kept_if (more a none) d false = refl
all_kept_if (more a (more b ts)) d false = refl

pub all_kept_is : (most : ℕ) (ts : Trees) → all_kept (keep_all most ts) ≡ up_to_depth most (deepest ts) ts
all_kept_is most ts = all_kept_if ts (deepest ts) (nat_le (deepest ts) most)

-- ---- targets

target_if : (a : Tree) (d : ℕ) (b : Bool) → is_kept_target (if b then whole a d else deep (shape a)) ≡ is_target a
target_if a d true = refl
target_if a d false = shape_may a

pub is_target_kept : (most : ℕ) (a : Tree) → is_kept_target (keep most a) ≡ is_target a
is_target_kept most a = target_if a (depth a) (nat_le (depth a) most)

some_of_targets : (ts : Trees) → some_of (targets_of ts) ≡ some_of ts
some_of_targets none = refl
some_of_targets (more a ts) = refl

mutual
  still_target : (a : Tree) → is_target (target_of a) ≡ is_target a
  still_target (t.tuple ts) = still_row ts
  still_target (t.list ts) = still_row ts
  still_target _ = refl

  still_targets : (ts : Trees) → are_targets (targets_of ts) ≡ are_targets ts
  still_targets none = refl
  still_targets (more a ts) = ap (λ z. z && are_targets (targets_of ts)) (still_target a) ∙ ap (λ z. is_target a && z) (still_targets ts)

  still_row : (ts : Trees) → (some_of (targets_of ts) && are_targets (targets_of ts)) ≡ (some_of ts && are_targets ts)
  still_row none = refl
  still_row (more a ts) = ap (λ z. z && are_targets (targets_of ts)) (still_target a) ∙ ap (λ z. is_target a && z) (still_targets ts)

mutual
  target_depth : (a : Tree) → depth (target_of a) ≡ depth a
  target_depth (t.tuple ts) = ap (λ z. 1 + z) (targets_depth ts)
  target_depth (t.list ts) = ap (λ z. 1 + z) (targets_depth ts)
  target_depth _ = refl

  targets_depth : (ts : Trees) → deepest (targets_of ts) ≡ deepest ts
  targets_depth none = refl
  targets_depth (more a ts) = ap (λ z. max z (deepest (targets_of ts))) (target_depth a) ∙ ap (λ z. max (depth a) z) (targets_depth ts)

target_shape : (a : Tree) → shape (target_of a) ≡ shape a
target_shape (t.tuple ts) = ap if_targets (still_row ts)
target_shape (t.list ts) = ap if_targets (still_row ts)
target_shape _ = refl

target_of_if : (a : Tree) (d : ℕ) (s : Shape) (b : Bool)
    → kept_target (if b then whole a d else deep s) ≡ (if b then whole (target_of a) d else deep s)
target_of_if a d s true = refl
target_of_if a d s false = refl

pub target_kept : (most : ℕ) (a : Tree) → kept_target (keep most a) ≡ keep most (target_of a)
target_kept most a =
    target_of_if a (depth a) (shape a) (nat_le (depth a) most)
    ∙ ap (λ d. if nat_le d most then whole (target_of a) d else deep (shape a)) (sym (target_depth a))
    ∙ ap (λ s. if nat_le (depth (target_of a)) most then whole (target_of a) (depth (target_of a)) else deep s) (sym (target_shape a))

-- ---- places

place_if : (a : Tree) (d : ℕ) (b : Bool) → IsPlaceTree a → is_kept_place (if b then whole a d else deep (shape a)) ≡ true
place_if (t.name x) d true h = refl
place_if (t.attr a x) d true h = refl
place_if (t.item a i) d true h = refl
place_if (t.name x) d false h = refl
place_if (t.attr a x) d false h = refl
place_if (t.item a i) d false h = refl
place_if _ d b h = absurd h

pub is_place_kept : (most : ℕ) (a : Tree) → IsPlaceTree a → is_kept_place (keep most a) ≡ true
is_place_kept most a h = place_if a (depth a) (nat_le (depth a) most) h

not_place : (b : Bool) → is_kept_place (deep (if_targets b)) ≡ true → ⊥
not_place true e = cc
not_place false e = cc

if_place : (a : Tree) (d : ℕ) (b : Bool) → is_kept_place (if b then whole a d else deep (shape a)) ≡ true → IsPlaceTree a
if_place (t.name x) d b e = tt
if_place (t.attr a x) d b e = tt
if_place (t.item a i) d b e = tt
if_place (t.tuple ts) d false e = not_place (some_of ts && are_targets ts) e
if_place (t.list ts) d false e = not_place (some_of ts && are_targets ts) e
if_place _ d true e = cc
if_place _ d false e = cc

pub kept_place : (most : ℕ) (a : Tree) → is_kept_place (keep most a) ≡ true → IsPlaceTree a
kept_place most a e = if_place a (depth a) (nat_le (depth a) most) e

-- ---- one tree, or two, of which a statement or a header is made

pub map_tree : {B : Type 0} (most : ℕ) (f : Tree → B) (a : Tree) → option_map f (kept (keep most a)) ≡ up_to_depth most (depth a) (f a)
map_tree most f a = ap (option_map f) (kept_is most a) ∙ map_kept f a most (depth a)

pub map_trees : {B : Type 0} (most : ℕ) (f : Trees → B) (ts : Trees)
    → option_map f (all_kept (keep_all most ts)) ≡ up_to_depth most (deepest ts) (f ts)
map_trees most f ts = ap (option_map f) (all_kept_is most ts) ∙ map_kept f ts most (deepest ts)

pub both_trees : {C : Type 0} (most : ℕ) (f : Tree → Tree → C) (a b : Tree)
    → both f (kept (keep most a)) (kept (keep most b)) ≡ up_to_depth most (max (depth a) (depth b)) (f a b)
both_trees most f a b =
    ap (λ z. both f z (kept (keep most b))) (kept_is most a)
    ∙ ap (both f (up_to_depth most (depth a) a)) (kept_is most b)
    ∙ both_kept f a b most (depth a) (depth b)

pub both_all : {C : Type 0} (most : ℕ) (f : Trees → Tree → C) (ts : Trees) (b : Tree)
    → both f (all_kept (keep_all most ts)) (kept (keep most b)) ≡ up_to_depth most (max (deepest ts) (depth b)) (f ts b)
both_all most f ts b =
    ap (λ z. both f z (kept (keep most b))) (all_kept_is most ts)
    ∙ ap (both f (up_to_depth most (deepest ts) ts)) (kept_is most b)
    ∙ both_kept f ts b most (deepest ts) (depth b)

-- ---- several statements, and lines

simples_depth_last : (before : List Statement) (x : Statement)
    → simples_depth (before ++ x ∷ []) ≡ max (simples_depth before) (simple_depth x)
simples_depth_last [] x = omega arith
simples_depth_last (y ∷ before) x = let e = simples_depth_last before x in omega arith

pub simples_kept : (most : ℕ) (before : List Statement) (x : Statement)
    → with_simple (keep_simples most before) (keep_simple most x) ≡ keep_simples most (before ++ x ∷ [])
simples_kept most before x =
    both_kept (λ before x. before ++ x ∷ []) before x most (simples_depth before) (simple_depth x)
    ∙ ap (λ d. up_to_depth most d (before ++ x ∷ [])) (sym (simples_depth_last before x))

pub no_simples_kept : (most : ℕ) → Some [] ≡ keep_simples most []
no_simples_kept most = sym (below_is most 0 [] (omega arith))

pub line_of_simples : (most : ℕ) (xs : List Statement) → option_map line.simples (keep_simples most xs) ≡ keep_line most (line.simples xs)
line_of_simples most xs = map_kept line.simples xs most (simples_depth xs)

pub line_of_header : (most : ℕ) (h : Header) → option_map (λ h. line.header h []) (keep_header most h) ≡ keep_line most (line.header h [])
line_of_header most h =
    let e : header_depth h ≡ max (header_depth h) 0 = omega arith in
    map_kept (λ h. line.header h []) h most (header_depth h) ∙ ap (λ d. up_to_depth most d (line.header h [])) e

pub line_of_both : (most : ℕ) (h : Header) (xs : List Statement)
    → both line.header (keep_header most h) (keep_simples most xs) ≡ keep_line most (line.header h xs)
line_of_both most h xs = both_kept line.header h xs most (header_depth h) (simples_depth xs)
