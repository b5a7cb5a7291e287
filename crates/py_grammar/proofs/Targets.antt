-- Targets beside expressions: a target is spelled as the expression in its place, and an expression that may be a target
-- spells it.
use Rattle.std.proofs.Common.{◌≡◌, true, false, List, [], ◌∷◌, ◌++◌, refl, sym, ap, ◌∙◌, subst, append_assoc}
use Rattle.std.proofs.lemmas.Bool.{and_from, and_parts}
use Rattle.py_ast.specs.Tree as t
use Rattle.py_ast.specs.Tree.{Tree, Trees, none, more}
use Rattle.py_grammar.specs.Grammar as g
use Rattle.py_grammar.specs.Grammar.{Level, Primary, Expr, Exprs, Spells, Items}
use Rattle.py_grammar.specs.Grammar.{Row, push}
use Rattle.py_grammar.specs.Line as l
use Rattle.py_grammar.specs.Line.{Place, Target, Members, TargetRow, Targets}
use Rattle.py_grammar.specs.Kept.{some_of, is_target, are_targets, target_of, targets_of}
use Rattle.py_grammar.specs.LineReading.{ends_in_close}
use Rattle.py_grammar.specs.declared.mark.Mark.TheVariants as m
use Rattle.py_grammar.specs.declared.sign.Sign.{Sign}
use Rattle.py_grammar.specs.declared.sign.Sign.TheVariants.{Name, Mark as The}
use Rattle.py_grammar.proofs.Kept.{targets_push as are_push}
use Rattle.py_grammar.proofs.Phrases.{Counted, one, several, counted}

pub expr_of_primary : {xs : List Sign} {a : Tree} → Spells Primary xs a → Spells Expr xs a
expr_of_primary s = g.an_or (g.an_and (g.a_not (g.a_comparison (g.a_sum (g.a_term (g.a_factor (g.a_power (g.a_primary s))))))))

-- ---- lists of targets

pub push_some : (ts : Trees) (a : Tree) → some_of (push ts a) ≡ true
push_some none a = refl
push_some (more b ts) a = refl

pub push_targets : (ts : Trees) (a : Tree) → are_targets ts ≡ true → is_target a ≡ true → are_targets (push ts a) ≡ true
push_targets ts a es e = are_push ts a ∙ and_from (are_targets ts) (is_target a) es e

pub pushed : (ts : Trees) (a : Tree) → are_targets (push ts a) ≡ true → (are_targets ts ≡ true) × (is_target a ≡ true)
pushed ts a e = and_parts (are_targets ts) (is_target a) (sym (are_push ts a) ∙ e)

pub targets_push : (ts : Trees) (a : Tree) → targets_of (push ts a) ≡ push (targets_of ts) (target_of a)
targets_push none a = refl
targets_push (more b ts) a = ap (more (target_of b)) (targets_push ts a)

-- ---- targets are spelled as expressions

-- the expression in whose place a target stands
pub record Placed (l : Level) (xs : List Sign) (a : Tree) : Type 0 where
  pub tree : Tree
  pub spells : Spells l xs tree
  pub target : is_target tree ≡ true
  pub is : target_of tree ≡ a

pub record PlacedAll (xs : List Sign) (ts : Trees) : Type 0 where
  pub trees : Trees
  pub items : Items xs trees
  pub some : some_of trees ≡ true
  pub targets : are_targets trees ≡ true
  pub is : targets_of trees ≡ ts

pub record PlacedRow (xs : List Sign) (ts : Trees) : Type 0 where
  pub trees : Trees
  pub row : Row xs trees
  pub some : some_of trees ≡ true
  pub targets : are_targets trees ≡ true
  pub is : targets_of trees ≡ ts

pub place_spelled : {xs : List Sign} {a : Tree} → Place xs a → Spells Primary xs a
place_spelled l.a_name = g.an_atom g.a_name
place_spelled (l.attribute s) = g.attribute s
place_spelled (l.subscript s i) = g.subscript s i

pub place_placed : {xs : List Sign} {a : Tree} → Place xs a → Placed Primary xs a
place_placed l.a_name = record { tree = _; spells = g.an_atom g.a_name; target = refl; is = refl }
place_placed (l.attribute s) = record { tree = _; spells = g.attribute s; target = refl; is = refl }
place_placed (l.subscript s i) = record { tree = _; spells = g.subscript s i; target = refl; is = refl }

several_placed : (xs : List Sign) (trees : Trees) (ts : Trees) → Counted xs trees → are_targets trees ≡ true → targets_of trees ≡ ts
    → (a b : Tree) (us : Trees) → ts ≡ more a (more b us) → Placed Exprs xs (t.tuple ts)
several_placed xs _ ts (one s) e is a b us h = cc
several_placed xs _ ts (several {a = c} {b = d} {ts = vs} s) e is a b us h =
    record { tree = t.tuple (more c (more d vs)); spells = g.several s; target = e; is = ap t.tuple is }

mutual
  pub target_placed : {xs : List Sign} {a : Tree} → Target xs a → Placed Primary xs a
  target_placed (l.a_place p) = place_placed p
  target_placed (l.in_parens p) =
      let e = targets_placed p in
      record { tree = e.tree; spells = g.an_atom (g.in_parens e.spells); target = e.target; is = e.is }
  target_placed (l.in_squares r) =
      let e = row_placed r in
      record {
        tree = t.list e.trees;
        spells = g.an_atom (g.a_list e.row);
        target =
            and_from (some_of e.trees) (are_targets e.trees) e.some e.targets;
        is = ap t.tuple e.is;
      }

  pub members_placed : {xs : List Sign} {ts : Trees} → Members xs ts → PlacedAll xs ts
  members_placed (l.one_member x) =
      let e = target_placed x in
      record {
        trees = more e.tree none;
        items = g.one_item (expr_of_primary e.spells);
        some = refl;
        targets =
            and_from (is_target e.tree) true e.target refl;
        is = ap (λ z. more z none) e.is;
      }
  members_placed (l.and_member {ts = us} {a = a} x y) =
      let p = members_placed x in
      let e = target_placed y in
      record {
        trees = push p.trees e.tree;
        items = g.and_item p.items (expr_of_primary e.spells);
        some = push_some p.trees e.tree;
        targets = push_targets p.trees e.tree p.targets e.target;
        is = targets_push p.trees e.tree ∙ ap (λ z. push z (target_of e.tree)) p.is ∙ ap (push us) e.is;
      }

  pub row_placed : {xs : List Sign} {ts : Trees} → TargetRow xs ts → PlacedRow xs ts
  row_placed (l.some_members x) = let p = members_placed x in
      record { trees = p.trees; row = g.some_items p.items; some = p.some; targets = p.targets; is = p.is }
  row_placed (l.members_and_comma x) = let p = members_placed x in
      record { trees = p.trees; row = g.items_and_comma p.items; some = p.some; targets = p.targets; is = p.is }

  pub targets_placed : {xs : List Sign} {a : Tree} → Targets xs a → Placed Exprs xs a
  targets_placed (l.a_target x) =
      let e = target_placed x in
      record { tree = e.tree; spells = g.an_expr (expr_of_primary e.spells); target = e.target; is = e.is }
  targets_placed (l.several {xs} {a} {b} {ts} x) =
      let p = members_placed x in
      several_placed xs p.trees (more a (more b ts)) (counted p.items) p.targets p.is a b ts refl
  targets_placed (l.some_and_comma x) =
      let p = members_placed x in
      record {
        tree = t.tuple p.trees;
        spells = g.some_and_comma p.items;
        target =
            and_from (some_of p.trees) (are_targets p.trees) p.some p.targets;
        is = ap t.tuple p.is;
      }

-- ---- expressions that may be targets spell them

abbrev TargetAt : Level → List Sign → Tree → Type 0
TargetAt Exprs xs a = Targets xs (target_of a)
TargetAt _ xs a = Target xs (target_of a)

mutual
  pub spelled_target : {l : Level} {xs : List Sign} {a : Tree} → Spells l xs a → is_target a ≡ true → TargetAt l xs a
  spelled_target g.a_name e = l.a_place l.a_name
  spelled_target (g.in_parens s) e = l.in_parens (spelled_target s e)
  spelled_target (g.a_list {xs} {ts} r) e =
      let p = and_parts (some_of ts) (are_targets ts) e in
      l.in_squares (spelled_row r p.0 p.1)
  spelled_target (g.an_atom s) e = spelled_target s e
  spelled_target (g.attribute s) e = l.a_place (l.attribute s)
  spelled_target (g.subscript s i) e = l.a_place (l.subscript s i)
  spelled_target (g.a_primary s) e = spelled_target s e
  spelled_target (g.a_power s) e = spelled_target s e
  spelled_target (g.a_factor s) e = spelled_target s e
  spelled_target (g.a_term s) e = spelled_target s e
  spelled_target (g.a_sum s) e = spelled_target s e
  spelled_target (g.a_comparison s) e = spelled_target s e
  spelled_target (g.a_not s) e = spelled_target s e
  spelled_target (g.an_and s) e = spelled_target s e
  spelled_target (g.an_or s) e = spelled_target s e
  spelled_target (g.an_expr s) e = l.a_target (spelled_target s e)
  spelled_target (g.several {a = a} {b = b} {ts = ts} s) e =
      l.several (spelled_members s (and_parts (some_of (more a (more b ts))) (are_targets (more a (more b ts))) e).1)
  spelled_target (g.some_and_comma {ts = ts} s) e = l.some_and_comma (spelled_members s (and_parts (some_of ts) (are_targets ts) e).1)
  spelled_target _ e = cc

  pub spelled_members : {xs : List Sign} {ts : Trees} → Items xs ts → are_targets ts ≡ true → Members xs (targets_of ts)
  spelled_members (g.one_item {xs} {a} s) e = l.one_member (spelled_target s (and_parts (is_target a) true e).0)
  spelled_members (g.and_item {xs} {ys} {ts} {a} x y) e =
      let p = pushed ts a e in
      subst (Members (xs ++ The m.Comma ∷ ys)) (sym (targets_push ts a)) (l.and_member (spelled_members x p.0) (spelled_target y p.1))

  pub spelled_row : {xs : List Sign} {ts : Trees} → Row xs ts → some_of ts ≡ true → are_targets ts ≡ true → TargetRow xs (targets_of ts)
  spelled_row g.no_items s e = cc
  spelled_row (g.some_items x) s e = l.some_members (spelled_members x e)
  spelled_row (g.items_and_comma x) s e = l.members_and_comma (spelled_members x e)

-- ---- places

abbrev pub IsPlaceTree : Tree → Type 0
IsPlaceTree (t.name x) = Unit {0}
IsPlaceTree (t.attr a x) = Unit {0}
IsPlaceTree (t.item a i) = Unit {0}
IsPlaceTree _ = ⊥

pub ends_in_last : (xs : List Sign) (x : Sign) → ends_in_close (xs ++ x ∷ []) ≡ ends_in_close (x ∷ [])
ends_in_last [] x = refl
ends_in_last (y ∷ []) x = refl
ends_in_last (y ∷ z ∷ xs) x = ends_in_last (z ∷ xs) x

pub place_ends : {xs : List Sign} {a : Tree} → Place xs a → ends_in_close xs ≡ false
place_ends l.a_name = refl
place_ends (l.attribute {xs} {a} {x} s) =
    ap ends_in_close (sym (append_assoc xs (The m.Dot ∷ []) (Name x ∷ []))) ∙ ends_in_last (xs ++ The m.Dot ∷ []) (Name x)
place_ends (l.subscript {xs} {ys} s i) =
    ap ends_in_close (sym (append_assoc xs (The m.OpenSquare ∷ ys) (The m.CloseSquare ∷ [])))
    ∙ ends_in_last (xs ++ The m.OpenSquare ∷ ys) (The m.CloseSquare)

parens_end : (xs : List Sign) → ends_in_close (The m.Open ∷ xs ++ The m.Close ∷ []) ≡ true
parens_end xs = ends_in_last (The m.Open ∷ xs) (The m.Close)

pub spelled_place : {l : Level} {xs : List Sign} {a : Tree} → Spells l xs a → IsPlaceTree a → ends_in_close xs ≡ false → Place xs a
spelled_place g.a_name h e = l.a_name
spelled_place (g.in_parens {xs} s) h e = let f = parens_end xs in cc
spelled_place (g.an_atom s) h e = spelled_place s h e
spelled_place (g.attribute s) h e = l.attribute s
spelled_place (g.subscript s i) h e = l.subscript s i
spelled_place (g.a_primary s) h e = spelled_place s h e
spelled_place (g.a_power s) h e = spelled_place s h e
spelled_place (g.a_factor s) h e = spelled_place s h e
spelled_place (g.a_term s) h e = spelled_place s h e
spelled_place (g.a_sum s) h e = spelled_place s h e
spelled_place (g.a_comparison s) h e = spelled_place s h e
spelled_place (g.a_not s) h e = spelled_place s h e
spelled_place (g.an_and s) h e = spelled_place s h e
spelled_place (g.an_or s) h e = spelled_place s h e
spelled_place (g.an_expr s) h e = spelled_place s h e
spelled_place _ h e = absurd h
