-- What is printed of a simple statement or a header spells it.
use Rattle.std.proofs.Common.{◌≡◌, ℕ, ◌<◌, List, [], ◌∷◌, ◌++◌, map, length, Option, Some, None, sym, ap, ◌∙◌, subst, arith, append_assoc}
use Rattle.std.proofs.lemmas.List.{append-nil}
use Rattle.py_ast.specs.Tree as t
use Rattle.py_ast.specs.Tree.{Tree, Trees, none, more}
use Rattle.py_ast.specs.Statement as s
use Rattle.py_ast.specs.Statement.{Statement}
use Rattle.py_ast.specs.Lawful.{IsForm, AreForms, IsPlace, IsTarget, AreTargets, IsWhole, AreWhole, Place, IsStatement}
use Rattle.py_ast.specs.declared.expr.BinaryOp.{BinaryOp}
use Rattle.py_ast.specs.declared.expr.BinaryOp.TheVariants as b
use Rattle.py_grammar.specs.Grammar as g
use Rattle.py_grammar.specs.Grammar.{push}
use Rattle.py_grammar.specs.Line as l
use Rattle.py_grammar.specs.Line.{Target, Members, Targets, Lefts, Names, Augments, Simple, Header, Heads}
use Rattle.py_grammar.specs.declared.mark.Mark.TheVariants as m
use Rattle.py_grammar.specs.declared.sign.Sign.{Sign}
use Rattle.py_grammar.specs.declared.sign.Sign.TheVariants.{Name, Mark as The}
use Rattle.py_grammar.proofs.LawfulBlocks.{IsHeader}
use Rattle.py_print.specs.Pieces.{Piece, space, signs_in, mark, name, in_squares, in_parens, after_commas, commas}
use Rattle.py_print.specs.Expressions.{at, before_dot, params_of, printed, members}
use Rattle.py_print.specs.Lines.{lefts, augmented, names, name_alone, simple, header}
use Rattle.py_print.proofs.SignsIn.{signs_append, signs_between, signs_behind}
use Rattle.py_print.proofs.Levels.{at_spelled, before_dot_spelled}
use Rattle.py_print.proofs.Lists.{appended, appended_one, signs_on, params_spelled}
use Rattle.py_print.proofs.ExpressionLaws.{form_spelled, each_spelled, expr_spelled, exprs_spelled}

-- ---- targets

place_spelled : (a : Tree) → IsForm a → IsPlace a → l.Place (signs_in (printed a)) a
place_spelled (t.name x) h p = l.a_name
place_spelled (t.attr a x) h p =
    subst (λ z. l.Place z (t.attr a x)) (sym (signs_append (before_dot a (printed a)) (mark m.Dot ∷ name x ∷ [])))
    (l.attribute (before_dot_spelled a (printed a) (form_spelled a h)))
place_spelled (t.item a i) h p =
    let front = at g.Primary a (printed a) in
    subst (λ z. l.Place z (t.item a i))
    (sym (signs_append front (in_squares (printed i)) ∙ ap (λ z. signs_in front ++ The m.OpenSquare ∷ z) (signs_behind m.CloseSquare (printed i))))
    (l.subscript (at_spelled g.Primary a (printed a) (form_spelled a h.0)) (exprs_spelled i h.1))
place_spelled _ h p = absurd p

-- each of the targets is spelled as it is printed
abbrev EachTarget : Trees → Type 0
EachTarget none = Unit {0}
EachTarget (more a ts) = Target (signs_in (printed a)) a × EachTarget ts

members_after : (ss ts : Trees) (xs : List Sign) → Members xs ss → EachTarget ts → Members (xs ++ signs_in (after_commas (members ts))) (appended ss ts)
members_after ss none xs s h = subst (λ z. Members z ss) (sym (append-nil xs)) s
members_after ss (more a ts) xs s h =
    subst (λ z. Members z (appended (push ss a) ts)) (signs_on xs (The m.Comma ∷ []) (printed a) (after_commas (members ts)))
    (members_after (push ss a) ts (xs ++ The m.Comma ∷ signs_in (printed a)) (l.and_member s h.0) h.1)

members_spelled : (a : Tree) (ts : Trees) → EachTarget (more a ts) → Members (signs_in (commas (members (more a ts)))) (more a ts)
members_spelled a ts h =
    subst (λ z. Members z (more a ts)) (sym (signs_append (printed a) (after_commas (members ts))))
    (subst (λ z. Members (signs_in (printed a) ++ signs_in (after_commas (members ts))) z) (appended_one a ts)
    (members_after (more a none) ts (signs_in (printed a)) (l.one_member h.0) h.1))

target_in_parens : (a : Tree) (ps : List Piece) → Targets (signs_in ps) a → Target (signs_in (in_parens ps)) a
target_in_parens a ps s = subst (λ z. Target (The m.Open ∷ z) a) (sym (signs_behind m.Close ps)) (l.in_parens s)

tuple_target : (a : Tree) (ts : Trees) → EachTarget (more a ts) → Target (signs_in (printed (t.tuple (more a ts)))) (t.tuple (more a ts))
tuple_target a none h =
    target_in_parens (t.tuple (more a none)) (commas (members (more a none)) ++ mark m.Comma ∷ [])
    (subst (λ z. Targets z (t.tuple (more a none))) (sym (signs_behind m.Comma (commas (members (more a none))))) (l.some_and_comma (members_spelled a none h)))
tuple_target a (more b ts) h =
    target_in_parens (t.tuple (more a (more b ts))) (commas (members (more a (more b ts))) ++ [])
    (subst (λ z. Targets (signs_in z) (t.tuple (more a (more b ts)))) (sym (append-nil (commas (members (more a (more b ts))))))
    (l.several (members_spelled a (more b ts) h)))

mutual
  target_spelled : (a : Tree) → IsForm a → IsTarget a → Target (signs_in (printed a)) a
  target_spelled (t.tuple none) h p = absurd p
  target_spelled (t.tuple (more a ts)) h p = tuple_target a ts (target_spelled a h.0 p.0, targets_spelled ts h.1 p.1)
  target_spelled (t.name x) h p = l.a_place (place_spelled (t.name x) h tt)
  target_spelled (t.attr a x) h p = l.a_place (place_spelled (t.attr a x) h tt)
  target_spelled (t.item a i) h p = l.a_place (place_spelled (t.item a i) h tt)
  target_spelled _ h p = absurd p

  targets_spelled : (ts : Trees) → AreForms ts → AreTargets ts → EachTarget ts
  targets_spelled none h p = tt
  targets_spelled (more a ts) h p = (target_spelled a h.0 p.0, targets_spelled ts h.1 p.1)

-- ---- lists

lefts_after : (ss ts : Trees) (xs : List Sign) → Lefts xs ss → EachTarget ts → Lefts (xs ++ signs_in (lefts (members ts))) (appended ss ts)
lefts_after ss none xs s h = subst (λ z. Lefts z ss) (sym (append-nil xs)) s
lefts_after ss (more a ts) xs s h =
    let rest = lefts (members ts) in
    subst (λ z. Lefts z (appended (push ss a) ts))
    (append_assoc xs (signs_in (printed a) ++ The m.Equals ∷ []) (signs_in rest)
    ∙ ap (λ z. xs ++ z) (append_assoc (signs_in (printed a)) (The m.Equals ∷ []) (signs_in rest) ∙ sym (signs_between m.Equals (printed a) rest)))
    (lefts_after (push ss a) ts (xs ++ (signs_in (printed a) ++ The m.Equals ∷ [])) (l.and_left s (l.a_target h.0)) h.1)

lefts_spelled : (a : Tree) (ts : Trees) → EachTarget (more a ts) → Lefts (signs_in (lefts (members (more a ts)))) (more a ts)
lefts_spelled a ts h =
    let rest = lefts (members ts) in
    subst (λ z. Lefts z (more a ts))
    (append_assoc (signs_in (printed a)) (The m.Equals ∷ []) (signs_in rest) ∙ sym (signs_between m.Equals (printed a) rest))
    (subst (λ z. Lefts ((signs_in (printed a) ++ The m.Equals ∷ []) ++ signs_in rest) z) (appended_one a ts)
    (lefts_after (more a none) ts (signs_in (printed a) ++ The m.Equals ∷ []) (l.one_left (l.a_target h.0)) h.1))

names_after : (before xs : List (List ℕ)) (ys : List Sign) → Names ys before → Names (ys ++ signs_in (after_commas (map name_alone xs))) (before ++ xs)
names_after before [] ys s = subst (λ z. Names z (before ++ [])) (sym (append-nil ys)) (subst (λ z. Names ys z) (sym (append-nil before)) s)
names_after before (x ∷ xs) ys s =
    let rest = after_commas (map name_alone xs) in
    subst (λ z. Names z (before ++ x ∷ xs)) (append_assoc ys (The m.Comma ∷ Name x ∷ []) (signs_in rest))
    (subst (λ z. Names ((ys ++ (The m.Comma ∷ Name x ∷ [])) ++ signs_in rest) z) (append_assoc before (x ∷ []) xs)
    (names_after (before ++ x ∷ []) xs (ys ++ (The m.Comma ∷ Name x ∷ [])) (l.and_name s x)))

names_spelled : (xs : List (List ℕ)) → 0 < length xs → Names (signs_in (names xs)) xs
names_spelled [] h = absurd (omega arith)
names_spelled (x ∷ xs) h = names_after (x ∷ []) xs (Name x ∷ []) l.one_name

augments : (o : BinaryOp) → Augments (augmented o) o
augments b.Add = l.add
augments b.Sub = l.subtract
augments b.Mul = l.multiply
augments b.FloorDiv = l.divide
augments b.Mod = l.modulo
augments b.Pow = l.power

-- ---- simple statements

-- a statement without a block
abbrev pub IsPlain : Statement → Type 0
IsPlain (s.choose bs otherwise) = ⊥
IsPlain (s.while test body otherwise) = ⊥
IsPlain (s.for target a body otherwise) = ⊥
IsPlain (s.try body hs otherwise finally) = ⊥
IsPlain (s.define x names defaults body) = ⊥
IsPlain (s.class x base body) = ⊥
IsPlain _ = Unit {0}

all_forms : (ts : Trees) → AreWhole ts → AreForms ts
all_forms none h = tt
all_forms (more a ts) h = (h.0.0, all_forms ts h.1)

assign_spelled : (p : Place) (ts : Trees) (a : Tree) → IsStatement p (s.assign ts a) → Simple (signs_in (simple (s.assign ts a))) (s.assign ts a)
assign_spelled p none a h = absurd h
assign_spelled p (more target targets) a h =
    let forms = all_forms (more target targets) h.2 in
    subst (λ z. Simple z (s.assign (more target targets) a)) (sym (signs_append (lefts (members (more target targets))) (printed a)))
    (l.assignment (lefts_spelled target targets (target_spelled target forms.0 h.0, targets_spelled targets forms.1 h.1)) (exprs_spelled a h.3.0))

pub simple_spelled : (p : Place) (x : Statement) → IsStatement p x → IsPlain x → Simple (signs_in (simple x)) x
simple_spelled p (s.expression a) h k = l.expression (exprs_spelled a h.0)
simple_spelled p (s.assign ts a) h k = assign_spelled p ts a h
simple_spelled p (s.augment place o a) h k =
    subst (λ z. Simple z (s.augment place o a)) (sym (signs_between (augmented o) (printed place) (printed a)))
    (l.augmented (place_spelled place h.1.0 h.0) (augments o) (exprs_spelled a h.2.0))
simple_spelled p s.pass h k = l.pass
simple_spelled p s.break h k = l.break
simple_spelled p s.continue h k = l.continue
simple_spelled p (s.return None) h k = l.return
simple_spelled p (s.return (Some a)) h k = l.return_value (exprs_spelled a h.1.0)
simple_spelled p (s.raise None) h k = l.raise
simple_spelled p (s.raise (Some a)) h k = l.raise_value (expr_spelled a h.0)
simple_spelled p (s.global xs) h k = l.global (names_spelled xs h)
simple_spelled p (s.nonlocal xs) h k = l.nonlocal (names_spelled xs h)
simple_spelled p (s.delete target) h k = l.delete (l.a_target (target_spelled target h.1.0 h.0))
simple_spelled p (s.assert a None) h k = l.assert (expr_spelled a h.0.0)
simple_spelled p (s.assert a (Some message)) h k =
    subst (λ z. Simple (The m.Assert ∷ z) (s.assert a (Some message))) (sym (signs_append (printed a) (mark m.Comma ∷ space ∷ printed message)))
    (l.assert_message (expr_spelled a h.0.0) (expr_spelled message h.1.0))
simple_spelled p _ h k = absurd k

-- ---- headers

except_spelled : (a : Tree) (x : Option (List ℕ)) → IsWhole a → Heads (signs_in (header (l.except (Some a) x))) (l.except (Some a) x)
except_spelled a None h = subst (λ z. Heads (The m.Except ∷ signs_in z) (l.except (Some a) None)) (sym (append-nil (printed a))) (l.an_except_of (expr_spelled a h.0))
except_spelled a (Some x) h =
    subst (λ z. Heads (The m.Except ∷ z) (l.except (Some a) (Some x))) (sym (signs_append (printed a) (space ∷ mark m.As ∷ space ∷ name x ∷ [])))
    (l.an_except_as (expr_spelled a h.0))

pub header_spelled : (h : Header) → IsHeader h → Heads (signs_in (header h)) h
unfolding IsHeader
header_spelled (l.if a) h = l.an_if (expr_spelled a h.0)
header_spelled (l.elif a) h = l.an_elif (expr_spelled a h.0)
header_spelled l.else h = l.an_else
header_spelled (l.while a) h = l.a_while (expr_spelled a h.0)
header_spelled (l.for target a) h =
    subst (λ z. Heads (The m.For ∷ z) (l.for target a)) (sym (signs_between m.In (printed target) (printed a)))
    (l.a_for (l.a_target (target_spelled target h.1.0 h.0)) (exprs_spelled a h.2.0))
header_spelled l.try h = l.a_try
header_spelled l.finally h = l.a_finally
header_spelled (l.except None x) h = subst (λ z. Heads (The m.Except ∷ []) (l.except None z)) (sym h) l.an_except
header_spelled (l.except (Some a) x) h = except_spelled a x h
header_spelled (l.define x xs defaults) h =
    let ps = params_of xs (members defaults) in
    subst (λ z. Heads (The m.Def ∷ Name x ∷ The m.Open ∷ z) (l.define x xs defaults)) (sym (signs_behind m.Close ps))
    (l.a_def (params_spelled xs defaults (each_spelled defaults (all_forms defaults h.1)) h.0.1) h.0.0)
header_spelled (l.class x None) h = l.a_class
header_spelled (l.class x (Some a)) h =
    subst (λ z. Heads (The m.Class ∷ Name x ∷ The m.Open ∷ z) (l.class x (Some a))) (sym (signs_behind m.Close (printed a))) (l.a_class_of (expr_spelled a h.0))
