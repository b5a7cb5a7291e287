-- What the phrases of each kind stand for, and what is kept of it.
use Rattle.std.proofs.Common.{◌≡◌, ℕ, List, [], ◌∷◌, ◌++◌, refl, ap, ◌∙◌, Some, subst}
use Rattle.py_ast.specs.Tree as t
use Rattle.py_ast.specs.Tree.{Tree, Trees, none, more}
use Rattle.py_ast.specs.declared.expr.CompareOp.{CompareOp}
use Rattle.py_grammar.specs.Grammar as g
use Rattle.py_grammar.specs.Grammar.{Level, Factor, Term, Sum, Comparison, Not, And, Or, Expr, Exprs, Spells, Chain}
use Rattle.py_grammar.specs.Grammar.{Items, Row, Pairs, PairRow, SomeParams, Params, push}
use Rattle.py_grammar.specs.Kept.{value, made_of_two, Kept, keep, KeptAll, keep_all, alone, compared, made_tuple}
use Rattle.py_grammar.specs.Reading.{Inside, Group, terms, sums, ands, ors, Join, arithmetic, conjunction, disjunction, join_of, joined}
use Rattle.py_grammar.specs.Reading.{Chained, Parameters}
use Rattle.py_grammar.specs.declared.mark.Mark.{Mark}
use Rattle.py_grammar.specs.declared.mark.Mark.TheVariants as m
use Rattle.py_grammar.specs.declared.sign.Sign.{Sign}
use Rattle.py_grammar.specs.declared.sign.Sign.TheVariants.{Mark as The}
use Rattle.py_grammar.proofs.Steps.{some_is}
use Rattle.py_grammar.proofs.Takes.{Spelled, Sound}
use Rattle.py_grammar.proofs.Kept.{keep_two, keep_alone, keep_several, keep_compare, keep_tuple}

abbrev pub SpellsChain : List Sign → List CompareOp × Trees → Type 0
SpellsChain xs c = Chain xs c.0 c.1

abbrev pub SpellsSomeParams : List Sign → List (List ℕ) × Trees → Type 0
SpellsSomeParams xs c = SomeParams xs c.0 c.1

abbrev pub SpellsParams : List Sign → List (List ℕ) × Trees → Type 0
SpellsParams xs c = Params xs c.0 c.1

-- ---- lists of which there is one member, or are more

pub data Counted (xs : List Sign) : Trees → Type 0 where
  one : {a : Tree} → Spells Expr xs a → Counted xs (more a none)
  several : {a b : Tree} {ts : Trees} → Items xs (more a (more b ts)) → Counted xs (more a (more b ts))

counted_push : (xs : List Sign) (ts : Trees) (a : Tree) (ys : List Sign) → Counted ys ts → Items xs (push ts a) → Counted xs (push ts a)
counted_push xs _ a ys (one s) x = several x
counted_push xs _ a ys (several s) x = several x

pub counted : {xs : List Sign} {ts : Trees} → Items xs ts → Counted xs ts
counted (g.one_item s) = one s
counted (g.and_item {xs} {ys} {ts} {a} x y) = counted_push (xs ++ The m.Comma ∷ ys) ts a xs (counted x) (g.and_item x y)

-- a chain of one operand, or with an operator
pub data Linked (xs : List Sign) : List CompareOp → Trees → Type 0 where
  alone_operand : {a : Tree} → Spells Sum xs a → Linked xs [] (more a none)
  linked : {o : CompareOp} {os : List CompareOp} {ts : Trees} → Chain xs (o ∷ os) ts → Linked xs (o ∷ os) ts

linked_push : (xs : List Sign) (ops : List CompareOp) (o : CompareOp) (ts : Trees) → Chain xs (ops ++ o ∷ []) ts
    → Linked xs (ops ++ o ∷ []) ts
linked_push xs [] o ts c = linked c
linked_push xs (p ∷ ps) o ts c = linked c

pub links : {xs : List Sign} {ops : List CompareOp} {ts : Trees} → Chain xs ops ts → Linked xs ops ts
links (g.one_operand s) = alone_operand s
links (g.and_operand {xs} {os} {ys} {ops} {o} {ts} {a} x c y) = linked_push (xs ++ (os ++ ys)) ops o (push ts a) (g.and_operand x c y)

-- ---- levels that group to the left

abbrev pub level_of : Group → Level
level_of terms = Term
level_of sums = Sum
level_of ands = And
level_of ors = Or

abbrev pub operand_level : Group → Level
operand_level terms = Factor
operand_level sums = Term
operand_level ands = Not
operand_level ors = And

pub one_operand_of : (j : Group) (xs : List Sign) (a : Tree) → Spells (operand_level j) xs a → Spells (level_of j) xs a
one_operand_of terms xs a s = g.a_factor s
one_operand_of sums xs a s = g.a_term s
one_operand_of ands xs a s = g.a_not s
one_operand_of ors xs a s = g.an_and s

pub join_spells : (j : Group) (k : Mark) (o : Join) → join_of j k ≡ Some o → (xs ys : List Sign) (l r : Tree) → Spells (level_of j) xs l
    → Spells (operand_level j) ys r
    → Spells (level_of j) (xs ++ The k ∷ ys) (joined o l r)
join_spells terms m.Star o e xs ys l r x y = subst (λ o. Spells Term (xs ++ The m.Star ∷ ys) (joined o l r)) (some_is e)
    (g.scale x g.times y)
join_spells terms m.Slashes o e xs ys l r x y = subst (λ o. Spells Term (xs ++ The m.Slashes ∷ ys) (joined o l r)) (some_is e)
    (g.scale x g.divide y)
join_spells terms m.Percent o e xs ys l r x y = subst (λ o. Spells Term (xs ++ The m.Percent ∷ ys) (joined o l r)) (some_is e)
    (g.scale x g.modulo y)
join_spells terms _ o e xs ys l r x y = cc
join_spells sums m.Plus o e xs ys l r x y = subst (λ o. Spells Sum (xs ++ The m.Plus ∷ ys) (joined o l r)) (some_is e) (g.add x g.plus y)
join_spells sums m.Minus o e xs ys l r x y = subst (λ o. Spells Sum (xs ++ The m.Minus ∷ ys) (joined o l r)) (some_is e) (g.add x g.minus y)
join_spells sums _ o e xs ys l r x y = cc
join_spells ands m.And o e xs ys l r x y = subst (λ o. Spells And (xs ++ The m.And ∷ ys) (joined o l r)) (some_is e) (g.both x y)
join_spells ands _ o e xs ys l r x y = cc
join_spells ors m.Or o e xs ys l r x y = subst (λ o. Spells Or (xs ++ The m.Or ∷ ys) (joined o l r)) (some_is e) (g.either x y)
join_spells ors _ o e xs ys l r x y = cc

-- ---- what is kept

module _ (most : ℕ) where
  abbrev pub OfLevel : Level → List Sign → Kept → Type 0
  OfLevel l = Spelled (Spells l) (keep most)

  abbrev pub OfItems : List Sign → KeptAll → Type 0
  OfItems = Spelled Items (keep_all most)

  abbrev pub OfRow : List Sign → KeptAll → Type 0
  OfRow = Spelled Row (keep_all most)

  abbrev pub OfPairs : List Sign → KeptAll → Type 0
  OfPairs = Spelled Pairs (keep_all most)

  abbrev pub OfPairRow : List Sign → KeptAll → Type 0
  OfPairRow = Spelled PairRow (keep_all most)

  abbrev pub keep_chain : List CompareOp × Trees → Chained
  keep_chain c = (c.0, keep_all most c.1)

  abbrev pub keep_params : List (List ℕ) × Trees → Parameters
  keep_params c = (c.0, keep_all most c.1)

  abbrev pub OfChain : List Sign → Chained → Type 0
  OfChain = Spelled SpellsChain keep_chain

  abbrev pub OfSomeParams : List Sign → Parameters → Type 0
  OfSomeParams = Spelled SpellsSomeParams keep_params

  abbrev pub OfParams : List Sign → Parameters → Type 0
  OfParams = Spelled SpellsParams keep_params

  -- what is read of nested forms is spelled so
  pub record SoundInside (inside : Inside) : Type 0 where
    pub trees : (l : Level) → Sound (OfLevel l) (inside.tree l)
    pub rows : Sound OfRow inside.row
    pub pair_rows : Sound OfPairRow inside.pair_row

  pub keep_joined : (o : Join) (l r : Tree) → keep most (joined o l r) ≡ made_of_two most (joined o) value (keep most l) (keep most r)
  keep_joined (arithmetic o) l r = keep_two most (λ l r. t.binary l o r) value l r refl refl
  keep_joined conjunction l r = keep_two most t.and value l r refl refl
  keep_joined disjunction l r = keep_two most t.or value l r refl refl

  alone_of : (xs : List Sign) (ts : Trees) → Counted xs ts → OfLevel Exprs xs (alone most (keep_all most ts))
  alone_of xs _ (one {a} s) = record { tree = a; spells = g.an_expr s; kept = keep_alone most a }
  alone_of xs _ (several {a} {b} {ts} s) = record {
    tree = t.tuple (more a (more b ts));
    spells = g.several s;
    kept = keep_several most a b ts;
  }

  pub alone_spelled : (xs : List Sign) (v : KeptAll) → OfItems xs v → OfLevel Exprs xs (alone most v)
  alone_spelled xs v s = subst (λ v. OfLevel Exprs xs (alone most v)) s.kept (alone_of xs s.tree (counted s.spells))

  pub tuple_spelled : (xs : List Sign) (v : KeptAll) → OfItems xs v → OfLevel Exprs (xs ++ The m.Comma ∷ []) (made_tuple most v)
  tuple_spelled xs v s = record {
    tree = t.tuple s.tree;
    spells = g.some_and_comma s.spells;
    kept = keep_tuple most s.tree
        ∙ ap (made_tuple most) s.kept;
  }

  compared_of : (xs : List Sign) (ops : List CompareOp) (ts : Trees) → Linked xs ops ts
      → OfLevel Comparison xs (compared most (ops, keep_all most ts))
  compared_of xs _ _ (alone_operand {a} s) = record { tree = a; spells = g.a_sum s; kept = keep_alone most a }
  compared_of xs _ _ (linked {o} {os} {ts} c) = record {
    tree = t.compare (o ∷ os) ts;
    spells = g.compare c;
    kept = keep_compare most o os ts;
  }

  pub compared_spelled : (xs : List Sign) (v : Chained) → OfChain xs v → OfLevel Comparison xs (compared most v)
  compared_spelled xs v s = subst (λ v. OfLevel Comparison xs (compared most v)) s.kept (compared_of xs s.tree.0 s.tree.1 (links s.spells))
