-- What is spelled has no more nodes than signs.
use Rattle.std.proofs.Common.{◌≡◌, ℕ, ◌+◌, ◌≤◌, List, [], ◌∷◌, ◌++◌, length, length-append, arith}
use Rattle.py_ast.specs.Tree.{Tree, Trees, none, more}
use Rattle.py_ast.specs.Statement.{Statement}
use Rattle.py_ast.specs.declared.expr.CompareOp.{CompareOp}
use Rattle.py_grammar.specs.declared.mark.Mark.TheVariants as m
use Rattle.py_grammar.specs.declared.sign.Sign.{Sign}
use Rattle.py_grammar.specs.declared.sign.Sign.TheVariants.{Name, Text, Mark as The}
use Rattle.py_grammar.specs.Grammar as g
use Rattle.py_grammar.specs.Grammar.{Level, Spells, Chain, Items, Row, Pairs, PairRow, SomeParams, Params, Literals, Compares, push}
use Rattle.py_grammar.specs.Line as l
use Rattle.py_grammar.specs.Line.{Line, Header, Heads, Lefts, Members, Place, Simple, Simples, SomeSimples, SpellsLine, Target, TargetRow, Targets}
use Rattle.py_line.specs.Numbers.{size, size_of_all, size_of_header, size_of_line, size_of_statement, size_of_statements}

-- ---- expressions

pub size_push : (ts : Trees) (a : Tree) → size_of_all (push ts a) ≡ size_of_all ts + size a
size_push none a = omega arith
size_push (more s ss) a = let e : size_of_all (push ss a) ≡ size_of_all ss + size a = size_push ss a in omega arith

-- how many trees
abbrev count : Trees → ℕ
count none = 0
count (more a ts) = 1 + count ts

count_push : (ts : Trees) (a : Tree) → count (push ts a) ≡ count ts + 1
count_push none a = omega arith
count_push (more s ss) a = let e : count (push ss a) ≡ count ss + 1 = count_push ss a in omega arith

some_literals : {xs : List Sign} {x : List ℕ} → Literals xs x → 1 ≤ length xs
some_literals g.a_literal = omega arith
some_literals (g.and_literal {xs = xs} s y) = omega (arith, length-append xs (Text y ∷ []))

some_compares : {xs : List Sign} {o : CompareOp} → Compares xs o → 1 ≤ length xs
some_compares g.less = omega arith
some_compares g.greater = omega arith
some_compares g.equal = omega arith
some_compares g.at_least = omega arith
some_compares g.at_most = omega arith
some_compares g.not_equal = omega arith
some_compares g.within = omega arith
some_compares g.not_within = omega arith
some_compares g.same = omega arith
some_compares g.not_same = omega arith

-- a list in brackets
bracketed : (o c : Sign) (xs : List Sign) → length (o ∷ xs ++ c ∷ []) ≡ length xs + 2
bracketed o c xs = omega (arith, length-append (o ∷ xs) (c ∷ []))

-- two lists with a sign between them
between : (xs ys : List Sign) (o : Sign) → length (xs ++ o ∷ ys) ≡ length xs + 1 + length ys
between xs ys o = omega (arith, length-append xs (o ∷ ys))

-- a list behind which brackets stand
behind : (o c : Sign) (xs ys : List Sign) → length (xs ++ (o ∷ ys ++ c ∷ [])) ≡ length xs + (length ys + 2)
behind o c xs ys = omega (arith, length-append xs (o ∷ ys ++ c ∷ []), bracketed o c ys)

mutual
  pub size_spelled : {l : Level} {xs : List Sign} {a : Tree} → Spells l xs a → size a ≤ length xs
  size_spelled g.a_name = omega arith
  size_spelled g.a_number = omega arith
  size_spelled (g.a_text s) = some_literals s
  size_spelled g.a_none = omega arith
  size_spelled g.a_true = omega arith
  size_spelled g.a_false = omega arith
  size_spelled g.nothing_in_parens = omega arith
  size_spelled (g.in_parens {xs = xs} s) = omega (arith, bracketed (The m.Open) (The m.Close) xs, size_spelled s)
  size_spelled (g.a_list {xs = xs} s) = omega (arith, bracketed (The m.OpenSquare) (The m.CloseSquare) xs, size_row s)
  size_spelled (g.a_dict {xs = xs} s) = omega (arith, bracketed (The m.OpenCurly) (The m.CloseCurly) xs, size_pair_row s)
  size_spelled (g.an_atom s) = size_spelled s
  size_spelled (g.attribute {xs = xs} {x = x} s) = omega (arith, between xs (Name x ∷ []) (The m.Dot), size_spelled s)
  size_spelled (g.subscript {xs = xs} {ys = ys} s t) = omega (arith, behind (The m.OpenSquare) (The m.CloseSquare) xs ys, size_spelled s, size_spelled t)
  size_spelled (g.call {xs = xs} {ys = ys} s t) = omega (arith, behind (The m.Open) (The m.Close) xs ys, size_spelled s, size_row t)
  size_spelled (g.a_primary s) = size_spelled s
  size_spelled (g.power {xs = xs} {ys = ys} s t) = omega (arith, between xs ys (The m.Stars), size_spelled s, size_spelled t)
  size_spelled (g.a_power s) = size_spelled s
  size_spelled (g.signed o s) = omega (arith, size_spelled s)
  size_spelled (g.a_factor s) = size_spelled s
  size_spelled (g.scale {k = k} {xs = xs} {ys = ys} s o t) = omega (arith, between xs ys (The k), size_spelled s, size_spelled t)
  size_spelled (g.a_term s) = size_spelled s
  size_spelled (g.add {k = k} {xs = xs} {ys = ys} s o t) = omega (arith, between xs ys (The k), size_spelled s, size_spelled t)
  size_spelled (g.a_sum s) = size_spelled s
  size_spelled (g.compare s) = omega (arith, size_chain s)
  size_spelled (g.a_comparison s) = size_spelled s
  size_spelled (g.negation s) = omega (arith, size_spelled s)
  size_spelled (g.a_not s) = size_spelled s
  size_spelled (g.both {xs = xs} {ys = ys} s t) = omega (arith, between xs ys (The m.And), size_spelled s, size_spelled t)
  size_spelled (g.an_and s) = size_spelled s
  size_spelled (g.either {xs = xs} {ys = ys} s t) = omega (arith, between xs ys (The m.Or), size_spelled s, size_spelled t)
  size_spelled (g.an_or s) = size_spelled s
  size_spelled (g.choice {xs = xs} {ys = ys} {zs = zs} s t u) =
      omega (arith, between xs (ys ++ The m.Else ∷ zs) (The m.If), between ys zs (The m.Else), size_spelled s, size_spelled t, size_spelled u)
  size_spelled (g.lambda {xs = xs} {ys = ys} s d t) = omega (arith, between (The m.Lambda ∷ xs) ys (The m.Colon), size_params s, size_spelled t)
  size_spelled (g.an_expr s) = size_spelled s
  size_spelled (g.several s) = omega (arith, size_items s)
  size_spelled (g.some_and_comma {xs = xs} s) = omega (arith, between xs [] (The m.Comma), size_items s, some_items s)

  size_chain : {xs : List Sign} {os : List CompareOp} {ts : Trees} → Chain xs os ts → size_of_all ts + length os ≤ length xs
  size_chain (g.one_operand s) = omega (arith, size_spelled s)
  size_chain (g.and_operand {xs = xs} {os = os} {ys = ys} {ops = ops} {o = o} {ts = ts} {a = a} s c t) =
      omega (arith, length-append xs (os ++ ys), length-append os ys, length-append ops (o ∷ []), size_push ts a, some_compares c, size_chain s, size_spelled t)

  -- there is a comma between two
  size_items : {xs : List Sign} {ts : Trees} → Items xs ts → size_of_all ts + count ts ≤ length xs + 1
  size_items (g.one_item s) = omega (arith, size_spelled s)
  size_items (g.and_item {xs = xs} {ys = ys} {ts = ts} {a = a} s t) =
      omega (arith, between xs ys (The m.Comma), size_push ts a, count_push ts a, size_items s, size_spelled t)

  some_items : {xs : List Sign} {ts : Trees} → Items xs ts → 1 ≤ count ts
  some_items (g.one_item s) = omega arith
  some_items (g.and_item {ts = ts} {a = a} s t) = omega (arith, count_push ts a)

  size_row : {xs : List Sign} {ts : Trees} → Row xs ts → size_of_all ts ≤ length xs
  size_row g.no_items = omega arith
  size_row (g.some_items s) = omega (arith, size_items s, some_items s)
  size_row (g.items_and_comma {xs = xs} s) = omega (arith, between xs [] (The m.Comma), size_items s, some_items s)

  size_pairs : {xs : List Sign} {ts : Trees} → Pairs xs ts → size_of_all ts ≤ length xs
  size_pairs (g.one_pair {xs = xs} {ys = ys} s t) = omega (arith, between xs ys (The m.Colon), size_spelled s, size_spelled t)
  size_pairs (g.and_pair {xs = xs} {ys = ys} {zs = zs} {ts = ts} {k = k} {v = v} s t u) =
      omega (arith, between xs (ys ++ The m.Colon ∷ zs) (The m.Comma), between ys zs (The m.Colon), size_push (push ts k) v, size_push ts k, size_pairs s, size_spelled t, size_spelled u)

  size_pair_row : {xs : List Sign} {ts : Trees} → PairRow xs ts → size_of_all ts ≤ length xs
  size_pair_row g.no_pairs = omega arith
  size_pair_row (g.some_pairs s) = size_pairs s
  size_pair_row (g.pairs_and_comma {xs = xs} s) = omega (arith, between xs [] (The m.Comma), size_pairs s)

  size_some_params : {xs : List Sign} {names : List (List ℕ)} {ts : Trees} → SomeParams xs names ts → size_of_all ts ≤ length xs
  size_some_params g.one_plain = omega arith
  size_some_params (g.one_default s) = omega (arith, size_spelled s)
  size_some_params (g.and_plain {xs = xs} s x) = omega (arith, between xs (Name x ∷ []) (The m.Comma), size_some_params s)
  size_some_params (g.and_default {xs = xs} {ys = ys} {ts = ts} {a = a} s x t) =
      omega (arith, between xs (Name x ∷ The m.Equals ∷ ys) (The m.Comma), size_push ts a, size_some_params s, size_spelled t)

  size_params : {xs : List Sign} {names : List (List ℕ)} {ts : Trees} → Params xs names ts → size_of_all ts ≤ length xs
  size_params g.no_params = omega arith
  size_params (g.some_params s) = size_some_params s
  size_params (g.params_and_comma {xs = xs} s) = omega (arith, between xs [] (The m.Comma), size_some_params s)

-- ---- targets

size_place : {xs : List Sign} {a : Tree} → Place xs a → size a ≤ length xs
size_place l.a_name = omega arith
size_place (l.attribute {xs = xs} {x = x} s) = omega (arith, between xs (Name x ∷ []) (The m.Dot), size_spelled s)
size_place (l.subscript {xs = xs} {ys = ys} s t) = omega (arith, behind (The m.OpenSquare) (The m.CloseSquare) xs ys, size_spelled s, size_spelled t)

mutual
  size_target : {xs : List Sign} {a : Tree} → Target xs a → size a ≤ length xs
  size_target (l.a_place s) = size_place s
  size_target (l.in_parens {xs = xs} s) = omega (arith, bracketed (The m.Open) (The m.Close) xs, size_targets s)
  size_target (l.in_squares {xs = xs} s) = omega (arith, bracketed (The m.OpenSquare) (The m.CloseSquare) xs, size_target_row s)

  size_members : {xs : List Sign} {ts : Trees} → Members xs ts → size_of_all ts + count ts ≤ length xs + 1
  size_members (l.one_member s) = omega (arith, size_target s)
  size_members (l.and_member {xs = xs} {ys = ys} {ts = ts} {a = a} s t) =
      omega (arith, between xs ys (The m.Comma), size_push ts a, count_push ts a, size_members s, size_target t)

  some_members : {xs : List Sign} {ts : Trees} → Members xs ts → 1 ≤ count ts
  some_members (l.one_member s) = omega arith
  some_members (l.and_member {ts = ts} {a = a} s t) = omega (arith, count_push ts a)

  size_target_row : {xs : List Sign} {ts : Trees} → TargetRow xs ts → size_of_all ts ≤ length xs
  size_target_row (l.some_members s) = omega (arith, size_members s, some_members s)
  size_target_row (l.members_and_comma {xs = xs} s) = omega (arith, between xs [] (The m.Comma), size_members s, some_members s)

  pub size_targets : {xs : List Sign} {a : Tree} → Targets xs a → size a ≤ length xs
  size_targets (l.a_target s) = size_target s
  size_targets (l.several s) = omega (arith, size_members s)
  size_targets (l.some_and_comma {xs = xs} s) = omega (arith, between xs [] (The m.Comma), size_members s, some_members s)

-- ---- simple statements

size_lefts : {xs : List Sign} {ts : Trees} → Lefts xs ts → size_of_all ts ≤ length xs
size_lefts (l.one_left {xs = xs} s) = omega (arith, between xs [] (The m.Equals), size_targets s)
size_lefts (l.and_left {xs = xs} {ys = ys} {ts = ts} {a = a} s t) =
    omega (arith, length-append xs (ys ++ The m.Equals ∷ []), between ys [] (The m.Equals), size_push ts a, size_lefts s, size_targets t)

pub size_simple : {xs : List Sign} {x : Statement} → Simple xs x → size_of_statement x ≤ length xs + 1
size_simple (l.expression s) = omega (arith, size_spelled s)
size_simple (l.assignment {xs = xs} {ys = ys} s t) = omega (arith, length-append xs ys, size_lefts s, size_spelled t)
size_simple (l.augmented {xs = xs} {ys = ys} {k = k} s o t) = omega (arith, between xs ys (The k), size_place s, size_spelled t)
size_simple l.pass = omega arith
size_simple l.break = omega arith
size_simple l.continue = omega arith
size_simple l.return = omega arith
size_simple (l.return_value s) = omega (arith, size_spelled s)
size_simple l.raise = omega arith
size_simple (l.raise_value s) = omega (arith, size_spelled s)
size_simple (l.global s) = omega arith
size_simple (l.nonlocal s) = omega arith
size_simple (l.delete s) = omega (arith, size_targets s)
size_simple (l.assert s) = omega (arith, size_spelled s)
size_simple (l.assert_message {xs = xs} {ys = ys} s t) = omega (arith, between (The m.Assert ∷ xs) ys (The m.Comma), size_spelled s, size_spelled t)

size_append : (xs ys : List Statement) → size_of_statements (xs ++ ys) ≡ size_of_statements xs + size_of_statements ys
size_append [] ys = omega arith
size_append (x ∷ xs) ys = let e : size_of_statements (xs ++ ys) ≡ size_of_statements xs + size_of_statements ys = size_append xs ys in omega arith

size_some_simples : {xs : List Sign} {ss : List Statement} → SomeSimples xs ss → size_of_statements ss ≤ length xs + 1
size_some_simples (l.one_simple s) = omega (arith, size_simple s)
size_some_simples (l.and_simple {xs = xs} {ys = ys} {x = x} {before = before} s t) =
    omega (arith, between xs ys (The m.Semicolon), size_append before (x ∷ []), size_some_simples s, size_simple t)

pub size_simples : {xs : List Sign} {ss : List Statement} → Simples xs ss → size_of_statements ss ≤ length xs + 1
size_simples (l.some_simples s) = size_some_simples s
size_simples (l.simples_and_semicolon {xs = xs} s) = omega (arith, between xs [] (The m.Semicolon), size_some_simples s)

-- ---- headers and lines

pub size_heads : {xs : List Sign} {h : Header} → Heads xs h → size_of_header h ≤ length xs
size_heads (l.an_if s) = omega (arith, size_spelled s)
size_heads (l.an_elif s) = omega (arith, size_spelled s)
size_heads l.an_else = omega arith
size_heads (l.a_while s) = omega (arith, size_spelled s)
size_heads (l.a_for {xs = xs} {ys = ys} s t) = omega (arith, between (The m.For ∷ xs) ys (The m.In), size_targets s, size_spelled t)
size_heads l.a_try = omega arith
size_heads l.a_finally = omega arith
size_heads l.an_except = omega arith
size_heads (l.an_except_of s) = omega (arith, size_spelled s)
size_heads (l.an_except_as {xs = xs} {x = x} s) = omega (arith, between (The m.Except ∷ xs) (Name x ∷ []) (The m.As), size_spelled s)
size_heads (l.a_def {x = x} {xs = xs} s d) = omega (arith, between (The m.Def ∷ Name x ∷ The m.Open ∷ xs) [] (The m.Close), size_params s)
size_heads l.a_class = omega arith
size_heads l.a_class_of_none = omega arith
size_heads (l.a_class_of {x = x} {xs = xs} s) = omega (arith, between (The m.Class ∷ Name x ∷ The m.Open ∷ xs) [] (The m.Close), size_spelled s)

pub line_fits : {xs : List Sign} {line : Line} → SpellsLine xs line → size_of_line line ≤ length xs + 1
line_fits (l.of_simples s) = size_simples s
line_fits (l.of_header {xs = xs} s) = omega (arith, between xs [] (The m.Colon), size_heads s)
line_fits (l.of_header_with {xs = xs} {ys = ys} s t) = omega (arith, between xs ys (The m.Colon), size_heads s, size_simples t)
