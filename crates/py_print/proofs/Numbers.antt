-- The numbers among the signs of a line are those of what it spells, in their order.
use Rattle.std.proofs.Common.{◌≡◌, ℕ, ℤ, List, [], ◌∷◌, ◌++◌, Option, Some, None, refl, sym, ap, ◌∙◌, append_assoc}
use Rattle.std.specs.List.{flat_map}
use Rattle.std.proofs.lemmas.List.{append-nil}
use Rattle.std.proofs.lemmas.Grind.{flat_map-append}
use Rattle.py_ast.specs.Tree as t
use Rattle.py_ast.specs.Tree.{Tree, Trees, none, more}
use Rattle.py_ast.specs.Statement as s
use Rattle.py_ast.specs.Statement.{Statement}
use Rattle.py_ast.specs.declared.expr.CompareOp.{CompareOp}
use Rattle.py_grammar.specs.Grammar as g
use Rattle.py_grammar.specs.Grammar.{Level, Spells, Compares, Chain, Items, Row, Pairs, PairRow, SomeParams, Params, Literals, push}
use Rattle.py_grammar.specs.Line as l
use Rattle.py_grammar.specs.Line.{Target, Members, TargetRow, Targets, Lefts, Names, Simple, SomeSimples, Simples, Header, Heads, Line, SpellsLine}
use Rattle.py_grammar.specs.declared.mark.Mark.{Mark}
use Rattle.py_grammar.specs.declared.mark.Mark.TheVariants as m
use Rattle.py_grammar.specs.declared.sign.Sign.{Sign}
use Rattle.py_grammar.specs.declared.sign.Sign.TheVariants.{Name, Number, Text, Mark as The, Other}

abbrev pub numbers_in : List Sign → List ℤ
numbers_in [] = []
numbers_in (Number n ∷ xs) = n ∷ numbers_in xs
numbers_in (Name x ∷ xs) = numbers_in xs
numbers_in (Text x ∷ xs) = numbers_in xs
numbers_in (The k ∷ xs) = numbers_in xs
numbers_in (Other ∷ xs) = numbers_in xs

numbers_append : (xs ys : List Sign) → numbers_in (xs ++ ys) ≡ numbers_in xs ++ numbers_in ys
numbers_append [] ys = refl
numbers_append (Number n ∷ xs) ys = ap (λ z. n ∷ z) (numbers_append xs ys)
numbers_append (Name x ∷ xs) ys = numbers_append xs ys
numbers_append (Text x ∷ xs) ys = numbers_append xs ys
numbers_append (The k ∷ xs) ys = numbers_append xs ys
numbers_append (Other ∷ xs) ys = numbers_append xs ys

-- a mark at the end
numbers_behind : (k : Mark) (xs : List Sign) → numbers_in (xs ++ The k ∷ []) ≡ numbers_in xs
numbers_behind k xs = numbers_append xs (The k ∷ []) ∙ append-nil (numbers_in xs)

abbrev mutual
  pub numbers_of : Tree → List ℤ
  numbers_of (t.name x) = []
  numbers_of (t.number n) = n ∷ []
  numbers_of (t.text x) = []
  numbers_of t.nil = []
  numbers_of (t.truth v) = []
  numbers_of (t.tuple ts) = numbers_all ts
  numbers_of (t.list ts) = numbers_all ts
  numbers_of (t.dict ts) = numbers_all ts
  numbers_of (t.lambda names defaults a) = numbers_all defaults ++ numbers_of a
  numbers_of (t.choice a test b) = numbers_of a ++ (numbers_of test ++ numbers_of b)
  numbers_of (t.and a b) = numbers_of a ++ numbers_of b
  numbers_of (t.or a b) = numbers_of a ++ numbers_of b
  numbers_of (t.not a) = numbers_of a
  numbers_of (t.compare ops ts) = numbers_all ts
  numbers_of (t.binary a o b) = numbers_of a ++ numbers_of b
  numbers_of (t.sign o a) = numbers_of a
  numbers_of (t.attr a x) = numbers_of a
  numbers_of (t.item a i) = numbers_of a ++ numbers_of i
  numbers_of (t.call f ts) = numbers_of f ++ numbers_all ts

  pub numbers_all : Trees → List ℤ
  numbers_all none = []
  numbers_all (more a ts) = numbers_of a ++ numbers_all ts

numbers_push : (ts : Trees) (a : Tree) → numbers_all (push ts a) ≡ numbers_all ts ++ numbers_of a
numbers_push none a = append-nil (numbers_of a)
numbers_push (more b ts) a = ap (λ z. numbers_of b ++ z) (numbers_push ts a) ∙ sym (append_assoc (numbers_of b) (numbers_all ts) (numbers_of a))

-- two lists of signs, and the numbers of each
two : (xs ys : List Sign) {a b : List ℤ} → numbers_in xs ≡ a → numbers_in ys ≡ b → numbers_in (xs ++ ys) ≡ a ++ b
two xs ys {a} e f = numbers_append xs ys ∙ ap (λ z. z ++ numbers_in ys) e ∙ ap (λ z. a ++ z) f

-- the last of which has none
two_none : (xs ys : List Sign) {a : List ℤ} → numbers_in xs ≡ a → numbers_in ys ≡ [] → numbers_in (xs ++ ys) ≡ a
two_none xs ys {a} e f = two xs ys e f ∙ append-nil a

literal_numbers : {xs : List Sign} {x : List ℕ} → Literals xs x → numbers_in xs ≡ []
literal_numbers g.a_literal = refl
literal_numbers (g.and_literal {xs} s y) = two_none xs (Text y ∷ []) (literal_numbers s) refl

compare_numbers : {xs : List Sign} {o : CompareOp} → Compares xs o → numbers_in xs ≡ []
compare_numbers g.less = refl
compare_numbers g.greater = refl
compare_numbers g.equal = refl
compare_numbers g.at_least = refl
compare_numbers g.at_most = refl
compare_numbers g.not_equal = refl
compare_numbers g.within = refl
compare_numbers g.not_within = refl
compare_numbers g.same = refl
compare_numbers g.not_same = refl

mutual
  pub tree_numbers : {l : Level} {xs : List Sign} {a : Tree} → Spells l xs a → numbers_in xs ≡ numbers_of a
  tree_numbers g.a_name = refl
  tree_numbers g.a_number = refl
  tree_numbers (g.a_text s) = literal_numbers s
  tree_numbers g.a_none = refl
  tree_numbers g.a_true = refl
  tree_numbers g.a_false = refl
  tree_numbers g.nothing_in_parens = refl
  tree_numbers (g.in_parens {xs} s) = numbers_behind m.Close xs ∙ tree_numbers s
  tree_numbers (g.a_list {xs} r) = numbers_behind m.CloseSquare xs ∙ row_numbers r
  tree_numbers (g.a_dict {xs} r) = numbers_behind m.CloseCurly xs ∙ pair_row_numbers r
  tree_numbers (g.an_atom s) = tree_numbers s
  tree_numbers (g.attribute {xs} {x = x} s) = two_none xs (The m.Dot ∷ Name x ∷ []) (tree_numbers s) refl
  tree_numbers (g.subscript {xs} {ys} s i) = two xs (The m.OpenSquare ∷ ys ++ The m.CloseSquare ∷ []) (tree_numbers s) (numbers_behind m.CloseSquare ys ∙ tree_numbers i)
  tree_numbers (g.call {xs} {ys} s r) = two xs (The m.Open ∷ ys ++ The m.Close ∷ []) (tree_numbers s) (numbers_behind m.Close ys ∙ row_numbers r)
  tree_numbers (g.a_primary s) = tree_numbers s
  tree_numbers (g.power {xs} {ys} s r) = two xs (The m.Stars ∷ ys) (tree_numbers s) (tree_numbers r)
  tree_numbers (g.a_power s) = tree_numbers s
  tree_numbers (g.signed k s) = tree_numbers s
  tree_numbers (g.a_factor s) = tree_numbers s
  tree_numbers (g.scale {k} {xs = xs} {ys = ys} s o r) = two xs (The k ∷ ys) (tree_numbers s) (tree_numbers r)
  tree_numbers (g.a_term s) = tree_numbers s
  tree_numbers (g.add {k} {xs = xs} {ys = ys} s o r) = two xs (The k ∷ ys) (tree_numbers s) (tree_numbers r)
  tree_numbers (g.a_sum s) = tree_numbers s
  tree_numbers (g.compare s) = chain_numbers s
  tree_numbers (g.a_comparison s) = tree_numbers s
  tree_numbers (g.negation s) = tree_numbers s
  tree_numbers (g.a_not s) = tree_numbers s
  tree_numbers (g.both {xs} {ys} s r) = two xs (The m.And ∷ ys) (tree_numbers s) (tree_numbers r)
  tree_numbers (g.an_and s) = tree_numbers s
  tree_numbers (g.either {xs} {ys} s r) = two xs (The m.Or ∷ ys) (tree_numbers s) (tree_numbers r)
  tree_numbers (g.an_or s) = tree_numbers s
  tree_numbers (g.choice {xs} {ys} {zs} s c r) =
      two xs (The m.If ∷ ys ++ (The m.Else ∷ zs)) (tree_numbers s) (two ys (The m.Else ∷ zs) (tree_numbers c) (tree_numbers r))
  tree_numbers (g.lambda {xs} {ys} p d s) = two xs (The m.Colon ∷ ys) (params_numbers p) (tree_numbers s)
  tree_numbers (g.an_expr s) = tree_numbers s
  tree_numbers (g.several s) = items_numbers s
  tree_numbers (g.some_and_comma {xs} s) = numbers_behind m.Comma xs ∙ items_numbers s

  chain_numbers : {xs : List Sign} {os : List CompareOp} {ts : Trees} → Chain xs os ts → numbers_in xs ≡ numbers_all ts
  chain_numbers (g.one_operand {a = a} s) = tree_numbers s ∙ sym (append-nil (numbers_of a))
  chain_numbers (g.and_operand {xs} {os} {ys} {ts = ts} {a = a} c k s) =
      two xs (os ++ ys) (chain_numbers c) (two os ys (compare_numbers k) (tree_numbers s)) ∙ sym (numbers_push ts a)

  items_numbers : {xs : List Sign} {ts : Trees} → Items xs ts → numbers_in xs ≡ numbers_all ts
  items_numbers (g.one_item {a = a} s) = tree_numbers s ∙ sym (append-nil (numbers_of a))
  items_numbers (g.and_item {xs} {ys} {ts} {a} s r) = two xs (The m.Comma ∷ ys) (items_numbers s) (tree_numbers r) ∙ sym (numbers_push ts a)

  row_numbers : {xs : List Sign} {ts : Trees} → Row xs ts → numbers_in xs ≡ numbers_all ts
  row_numbers g.no_items = refl
  row_numbers (g.some_items s) = items_numbers s
  row_numbers (g.items_and_comma {xs} s) = numbers_behind m.Comma xs ∙ items_numbers s

  pairs_numbers : {xs : List Sign} {ts : Trees} → Pairs xs ts → numbers_in xs ≡ numbers_all ts
  pairs_numbers (g.one_pair {xs} {ys} {k} {v} a b) =
      two xs (The m.Colon ∷ ys) (tree_numbers a) (tree_numbers b) ∙ ap (λ z. numbers_of k ++ z) (sym (append-nil (numbers_of v)))
  pairs_numbers (g.and_pair {xs} {ys} {zs} {ts} {k} {v} s a b) =
      two xs (The m.Comma ∷ ys ++ (The m.Colon ∷ zs)) (pairs_numbers s) (two ys (The m.Colon ∷ zs) (tree_numbers a) (tree_numbers b))
      ∙ sym (append_assoc (numbers_all ts) (numbers_of k) (numbers_of v))
      ∙ ap (λ z. z ++ numbers_of v) (sym (numbers_push ts k))
      ∙ sym (numbers_push (push ts k) v)

  pair_row_numbers : {xs : List Sign} {ts : Trees} → PairRow xs ts → numbers_in xs ≡ numbers_all ts
  pair_row_numbers g.no_pairs = refl
  pair_row_numbers (g.some_pairs s) = pairs_numbers s
  pair_row_numbers (g.pairs_and_comma {xs} s) = numbers_behind m.Comma xs ∙ pairs_numbers s

  some_params_numbers : {xs : List Sign} {names : List (List ℕ)} {ts : Trees} → SomeParams xs names ts → numbers_in xs ≡ numbers_all ts
  some_params_numbers g.one_plain = refl
  some_params_numbers (g.one_default {a = a} s) = tree_numbers s ∙ sym (append-nil (numbers_of a))
  some_params_numbers (g.and_plain {xs} s x) = two_none xs (The m.Comma ∷ Name x ∷ []) (some_params_numbers s) refl
  some_params_numbers (g.and_default {xs} {ys} {ts = ts} {a = a} s x e) =
      two xs (The m.Comma ∷ Name x ∷ The m.Equals ∷ ys) (some_params_numbers s) (tree_numbers e) ∙ sym (numbers_push ts a)

  pub params_numbers : {xs : List Sign} {names : List (List ℕ)} {ts : Trees} → Params xs names ts → numbers_in xs ≡ numbers_all ts
  params_numbers g.no_params = refl
  params_numbers (g.some_params s) = some_params_numbers s
  params_numbers (g.params_and_comma {xs} s) = numbers_behind m.Comma xs ∙ some_params_numbers s

-- ---- targets

place_numbers : {xs : List Sign} {a : Tree} → l.Place xs a → numbers_in xs ≡ numbers_of a
place_numbers l.a_name = refl
place_numbers (l.attribute {xs} {x = x} s) = two_none xs (The m.Dot ∷ Name x ∷ []) (tree_numbers s) refl
place_numbers (l.subscript {xs} {ys} s i) = two xs (The m.OpenSquare ∷ ys ++ The m.CloseSquare ∷ []) (tree_numbers s) (numbers_behind m.CloseSquare ys ∙ tree_numbers i)

mutual
  target_numbers : {xs : List Sign} {a : Tree} → Target xs a → numbers_in xs ≡ numbers_of a
  target_numbers (l.a_place p) = place_numbers p
  target_numbers (l.in_parens {xs} s) = numbers_behind m.Close xs ∙ targets_numbers s
  target_numbers (l.in_squares {xs} r) = numbers_behind m.CloseSquare xs ∙ target_row_numbers r

  members_numbers : {xs : List Sign} {ts : Trees} → Members xs ts → numbers_in xs ≡ numbers_all ts
  members_numbers (l.one_member {a = a} s) = target_numbers s ∙ sym (append-nil (numbers_of a))
  members_numbers (l.and_member {xs} {ys} {ts} {a} s r) = two xs (The m.Comma ∷ ys) (members_numbers s) (target_numbers r) ∙ sym (numbers_push ts a)

  target_row_numbers : {xs : List Sign} {ts : Trees} → TargetRow xs ts → numbers_in xs ≡ numbers_all ts
  target_row_numbers (l.some_members s) = members_numbers s
  target_row_numbers (l.members_and_comma {xs} s) = numbers_behind m.Comma xs ∙ members_numbers s

  targets_numbers : {xs : List Sign} {a : Tree} → Targets xs a → numbers_in xs ≡ numbers_of a
  targets_numbers (l.a_target s) = target_numbers s
  targets_numbers (l.several s) = members_numbers s
  targets_numbers (l.some_and_comma {xs} s) = numbers_behind m.Comma xs ∙ members_numbers s

-- ---- lines

lefts_numbers : {xs : List Sign} {ts : Trees} → Lefts xs ts → numbers_in xs ≡ numbers_all ts
lefts_numbers (l.one_left {xs} {a} s) = numbers_behind m.Equals xs ∙ targets_numbers s ∙ sym (append-nil (numbers_of a))
lefts_numbers (l.and_left {xs} {ys} {ts} {a} s r) =
    two xs (ys ++ The m.Equals ∷ []) (lefts_numbers s) (numbers_behind m.Equals ys ∙ targets_numbers r) ∙ sym (numbers_push ts a)

names_numbers : {xs : List Sign} {names : List (List ℕ)} → Names xs names → numbers_in xs ≡ []
names_numbers l.one_name = refl
names_numbers (l.and_name {xs} s x) = two_none xs (The m.Comma ∷ Name x ∷ []) (names_numbers s) refl

abbrev pub numbers_maybe : Option Tree → List ℤ
numbers_maybe None = []
numbers_maybe (Some a) = numbers_of a

abbrev pub simple_numbers : Statement → List ℤ
simple_numbers (s.expression a) = numbers_of a
simple_numbers (s.assign ts a) = numbers_all ts ++ numbers_of a
simple_numbers (s.augment p o a) = numbers_of p ++ numbers_of a
simple_numbers (s.return a) = numbers_maybe a
simple_numbers (s.raise a) = numbers_maybe a
simple_numbers (s.delete a) = numbers_of a
simple_numbers (s.assert a message) = numbers_of a ++ numbers_maybe message
simple_numbers _ = []

of_simple : {xs : List Sign} {x : Statement} → Simple xs x → numbers_in xs ≡ simple_numbers x
of_simple (l.expression s) = tree_numbers s
of_simple (l.assignment {xs} {ys} s r) = two xs ys (lefts_numbers s) (tree_numbers r)
of_simple (l.augmented {xs} {ys} {k} q o r) = two xs (The k ∷ ys) (place_numbers q) (tree_numbers r)
of_simple l.pass = refl
of_simple l.break = refl
of_simple l.continue = refl
of_simple l.return = refl
of_simple (l.return_value s) = tree_numbers s
of_simple l.raise = refl
of_simple (l.raise_value s) = tree_numbers s
of_simple (l.global s) = names_numbers s
of_simple (l.nonlocal s) = names_numbers s
of_simple (l.delete s) = targets_numbers s
of_simple (l.assert {a = a} s) = tree_numbers s ∙ sym (append-nil (numbers_of a))
of_simple (l.assert_message {xs} {ys} s r) = two xs (The m.Comma ∷ ys) (tree_numbers s) (tree_numbers r)

abbrev pub simples_numbers : List Statement → List ℤ
simples_numbers xs = flat_map simple_numbers xs

of_some : {xs : List Sign} {ss : List Statement} → SomeSimples xs ss → numbers_in xs ≡ simples_numbers ss
of_some (l.one_simple {x = x} s) = of_simple s ∙ sym (append-nil (simple_numbers x))
of_some (l.and_simple {xs} {ys} {x} {before} s r) =
    two xs (The m.Semicolon ∷ ys) (of_some s) (of_simple r ∙ sym (append-nil (simple_numbers x))) ∙ sym (flat_map-append simple_numbers before (x ∷ []))

of_simples : {xs : List Sign} {ss : List Statement} → Simples xs ss → numbers_in xs ≡ simples_numbers ss
of_simples (l.some_simples s) = of_some s
of_simples (l.simples_and_semicolon {xs} s) = numbers_behind m.Semicolon xs ∙ of_some s

abbrev pub header_numbers : Header → List ℤ
header_numbers (l.if a) = numbers_of a
header_numbers (l.elif a) = numbers_of a
header_numbers (l.while a) = numbers_of a
header_numbers (l.for target a) = numbers_of target ++ numbers_of a
header_numbers (l.except a x) = numbers_maybe a
header_numbers (l.define x names defaults) = numbers_all defaults
header_numbers (l.class x a) = numbers_maybe a
header_numbers _ = []

of_head : {xs : List Sign} {h : Header} → Heads xs h → numbers_in xs ≡ header_numbers h
of_head (l.an_if s) = tree_numbers s
of_head (l.an_elif s) = tree_numbers s
of_head l.an_else = refl
of_head (l.a_while s) = tree_numbers s
of_head (l.a_for {xs} {ys} s r) = two xs (The m.In ∷ ys) (targets_numbers s) (tree_numbers r)
of_head l.a_try = refl
of_head l.a_finally = refl
of_head l.an_except = refl
of_head (l.an_except_of s) = tree_numbers s
of_head (l.an_except_as {xs} {x = x} s) = two_none xs (The m.As ∷ Name x ∷ []) (tree_numbers s) refl
of_head (l.a_def {xs = xs} p d) = numbers_behind m.Close xs ∙ params_numbers p
of_head l.a_class = refl
of_head l.a_class_of_none = refl
of_head (l.a_class_of {xs = xs} s) = numbers_behind m.Close xs ∙ tree_numbers s

abbrev pub line_numbers : Line → List ℤ
line_numbers (l.simples ss) = simples_numbers ss
line_numbers (l.header h ss) = header_numbers h ++ simples_numbers ss

pub of_line : {xs : List Sign} {x : Line} → SpellsLine xs x → numbers_in xs ≡ line_numbers x
of_line (l.of_simples s) = of_simples s
of_line (l.of_header {xs} {h} s) = numbers_behind m.Colon xs ∙ of_head s ∙ sym (append-nil (header_numbers h))
of_line (l.of_header_with {xs} {ys} s r) = two xs (The m.Colon ∷ ys) (of_head s) (of_simples r)
