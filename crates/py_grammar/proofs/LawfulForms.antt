-- What signs spell has the forms that lawful cells have, where no number among the signs is below 0.
use Rattle.std.proofs.Common.{◌≡◌, ℕ, suc, ◌+◌, ◌≤◌, ◌<◌, pos, ◌≤ℤ◌, ◌&&◌, List, [], ◌∷◌, ◌++◌, length, refl, ap, ◌∙◌, arith, length-append}
use Rattle.py_ast.specs.Tree as t
use Rattle.py_ast.specs.Tree.{Tree, Trees, none, more}
use Rattle.py_ast.specs.declared.expr.CompareOp.{CompareOp}
use Rattle.py_ast.specs.Lawful.{count, AreInPairs, IsForm, AreForms}
use Rattle.py_grammar.specs.Grammar as g
use Rattle.py_grammar.specs.Grammar.{Level, Spells, Chain, Items, Row, Pairs, PairRow, SomeParams, Params, push}
use Rattle.py_grammar.specs.declared.mark.Mark.TheVariants as m
use Rattle.py_grammar.specs.declared.sign.Sign.{Sign}
use Rattle.py_grammar.specs.declared.sign.Sign.TheVariants.{Name, Number, Text, Mark as The}

-- ---- signs without numbers below 0

abbrev pub AreNatural : List Sign → Type 0
AreNatural [] = Unit {0}
AreNatural (Number n ∷ xs) = (pos 0 ≤ℤ n) × AreNatural xs
AreNatural (x ∷ xs) = AreNatural xs

pub natural_front : (xs ys : List Sign) → AreNatural (xs ++ ys) → AreNatural xs
natural_front [] ys h = tt
natural_front (Number n ∷ xs) ys h = (h.0, natural_front xs ys h.1)
natural_front (Name x ∷ xs) ys h = natural_front xs ys h
natural_front (Text x ∷ xs) ys h = natural_front xs ys h
natural_front (The k ∷ xs) ys h = natural_front xs ys h
natural_front (_ ∷ xs) ys h = natural_front xs ys h

pub natural_back : (xs ys : List Sign) → AreNatural (xs ++ ys) → AreNatural ys
natural_back [] ys h = h
natural_back (Number n ∷ xs) ys h = natural_back xs ys h.1
natural_back (Name x ∷ xs) ys h = natural_back xs ys h
natural_back (Text x ∷ xs) ys h = natural_back xs ys h
natural_back (The k ∷ xs) ys h = natural_back xs ys h
natural_back (_ ∷ xs) ys h = natural_back xs ys h

-- ---- lists of trees

pub push_forms : (ts : Trees) (a : Tree) → AreForms ts → IsForm a → AreForms (push ts a)
push_forms none a h f = (f, tt)
push_forms (more b ts) a h f = (h.0, push_forms ts a h.1 f)

push_count : (ts : Trees) (a : Tree) → count (push ts a) ≡ suc (count ts)
push_count none a = refl
push_count (more b ts) a = ap suc (push_count ts a)

push_pair : (ts : Trees) (a b : Tree) → AreInPairs ts → AreInPairs (push (push ts a) b)
push_pair none a b h = tt
push_pair (more k none) a b h = absurd h
push_pair (more k (more v ts)) a b h = push_pair ts a b h

-- ---- expressions

pub record AreChained (os : List CompareOp) (ts : Trees) : Type 0 where
  pub forms : AreForms ts
  pub counted : count ts ≡ length os + 1

pub record AreCounted (names : List (List ℕ)) (ts : Trees) : Type 0 where
  pub forms : AreForms ts
  pub fewer : count ts ≤ length names

mutual
  pub spelled_form : {l : Level} {xs : List Sign} {a : Tree} → Spells l xs a → AreNatural xs → IsForm a
  spelled_form g.a_name h = tt
  spelled_form g.a_number h = h.0
  spelled_form (g.a_text s) h = tt
  spelled_form g.a_none h = tt
  spelled_form g.a_true h = tt
  spelled_form g.a_false h = tt
  spelled_form g.nothing_in_parens h = tt
  spelled_form (g.in_parens {xs} s) h = spelled_form s (natural_front xs (The m.Close ∷ []) h)
  spelled_form (g.a_list {xs} r) h = row_forms r (natural_front xs (The m.CloseSquare ∷ []) h)
  spelled_form (g.a_dict {xs} r) h = pair_row_forms r (natural_front xs (The m.CloseCurly ∷ []) h)
  spelled_form (g.an_atom s) h = spelled_form s h
  spelled_form (g.attribute {xs} {x = x} s) h = spelled_form s (natural_front xs (The m.Dot ∷ Name x ∷ []) h)
  spelled_form (g.subscript {xs} {ys} s i) h = (
    spelled_form s (natural_front xs (The m.OpenSquare ∷ ys ++ The m.CloseSquare ∷ []) h),
    spelled_form i (natural_front ys (The m.CloseSquare ∷ []) (natural_back xs (The m.OpenSquare ∷ ys ++ The m.CloseSquare ∷ []) h)),
  )
  spelled_form (g.call {xs} {ys} s r) h = (
    spelled_form s (natural_front xs (The m.Open ∷ ys ++ The m.Close ∷ []) h),
    row_forms r (natural_front ys (The m.Close ∷ []) (natural_back xs (The m.Open ∷ ys ++ The m.Close ∷ []) h)),
  )
  spelled_form (g.a_primary s) h = spelled_form s h
  spelled_form (g.power {xs} {ys} s r) h = (spelled_form s (natural_front xs (The m.Stars ∷ ys) h), spelled_form r (natural_back xs (The m.Stars ∷ ys) h))
  spelled_form (g.a_power s) h = spelled_form s h
  spelled_form (g.signed k s) h = spelled_form s h
  spelled_form (g.a_factor s) h = spelled_form s h
  spelled_form (g.scale {k} {xs = xs} {ys = ys} s o r) h = (spelled_form s (natural_front xs (The k ∷ ys) h), spelled_form r (natural_back xs (The k ∷ ys) h))
  spelled_form (g.a_term s) h = spelled_form s h
  spelled_form (g.add {k} {xs = xs} {ys = ys} s o r) h = (spelled_form s (natural_front xs (The k ∷ ys) h), spelled_form r (natural_back xs (The k ∷ ys) h))
  spelled_form (g.a_sum s) h = spelled_form s h
  spelled_form (g.compare {o = o} {os = os} s) h = let c = chain_forms s h in (c.forms, omega arith, c.counted)
  spelled_form (g.a_comparison s) h = spelled_form s h
  spelled_form (g.negation s) h = spelled_form s h
  spelled_form (g.a_not s) h = spelled_form s h
  spelled_form (g.both {xs} {ys} s r) h = (spelled_form s (natural_front xs (The m.And ∷ ys) h), spelled_form r (natural_back xs (The m.And ∷ ys) h))
  spelled_form (g.an_and s) h = spelled_form s h
  spelled_form (g.either {xs} {ys} s r) h = (spelled_form s (natural_front xs (The m.Or ∷ ys) h), spelled_form r (natural_back xs (The m.Or ∷ ys) h))
  spelled_form (g.an_or s) h = spelled_form s h
  spelled_form (g.choice {xs} {ys} {zs} s c r) h =
      let back = natural_back xs (The m.If ∷ ys ++ (The m.Else ∷ zs)) h in
      (spelled_form s (natural_front xs (The m.If ∷ ys ++ (The m.Else ∷ zs)) h), spelled_form c (natural_front ys (The m.Else ∷ zs) back), spelled_form r (natural_back ys (The m.Else ∷ zs) back))
  spelled_form (g.lambda {xs} {ys} p d s) h =
      let c = params_forms p (natural_front xs (The m.Colon ∷ ys) h) in
      ((d, c.fewer), c.forms, spelled_form s (natural_back xs (The m.Colon ∷ ys) h))
  spelled_form (g.an_expr s) h = spelled_form s h
  spelled_form (g.several s) h = items_forms s h
  spelled_form (g.some_and_comma {xs} s) h = items_forms s (natural_front xs (The m.Comma ∷ []) h)

  chain_forms : {xs : List Sign} {os : List CompareOp} {ts : Trees} → Chain xs os ts → AreNatural xs → AreChained os ts
  chain_forms (g.one_operand s) h = record { forms = (spelled_form s h, tt); counted = refl }
  chain_forms (g.and_operand {xs} {os} {ys} {ops} {o} {ts} {a} c k s) h =
      let r = chain_forms c (natural_front xs (os ++ ys) h) in
      record {
        forms = push_forms ts a r.forms (spelled_form s (natural_back os ys (natural_back xs (os ++ ys) h)));
        counted = let p = push_count ts a in let q = r.counted in omega (arith, length-append ops (o ∷ []));
      }

  pub items_forms : {xs : List Sign} {ts : Trees} → Items xs ts → AreNatural xs → AreForms ts
  items_forms (g.one_item s) h = (spelled_form s h, tt)
  items_forms (g.and_item {xs} {ys} {ts} {a} s r) h =
      push_forms ts a (items_forms s (natural_front xs (The m.Comma ∷ ys) h)) (spelled_form r (natural_back xs (The m.Comma ∷ ys) h))

  row_forms : {xs : List Sign} {ts : Trees} → Row xs ts → AreNatural xs → AreForms ts
  row_forms g.no_items h = tt
  row_forms (g.some_items s) h = items_forms s h
  row_forms (g.items_and_comma {xs} s) h = items_forms s (natural_front xs (The m.Comma ∷ []) h)

  pairs_forms : {xs : List Sign} {ts : Trees} → Pairs xs ts → AreNatural xs → AreForms ts × AreInPairs ts
  pairs_forms (g.one_pair {xs} {ys} k v) h =
      ((spelled_form k (natural_front xs (The m.Colon ∷ ys) h), (spelled_form v (natural_back xs (The m.Colon ∷ ys) h), tt)), tt)
  pairs_forms (g.and_pair {xs} {ys} {zs} {ts} {k} {v} s a b) h =
      let r = pairs_forms s (natural_front xs (The m.Comma ∷ ys ++ (The m.Colon ∷ zs)) h) in
      let back = natural_back xs (The m.Comma ∷ ys ++ (The m.Colon ∷ zs)) h in (
        push_forms (push ts k) v (push_forms ts k r.0 (spelled_form a (natural_front ys (The m.Colon ∷ zs) back))) (spelled_form b (natural_back ys (The m.Colon ∷ zs) back)),
        push_pair ts k v r.1,
      )

  pair_row_forms : {xs : List Sign} {ts : Trees} → PairRow xs ts → AreNatural xs → AreForms ts × AreInPairs ts
  pair_row_forms g.no_pairs h = (tt, tt)
  pair_row_forms (g.some_pairs s) h = pairs_forms s h
  pair_row_forms (g.pairs_and_comma {xs} s) h = pairs_forms s (natural_front xs (The m.Comma ∷ []) h)

  some_params_forms : {xs : List Sign} {names : List (List ℕ)} {ts : Trees} → SomeParams xs names ts → AreNatural xs → AreCounted names ts
  some_params_forms g.one_plain h = record { forms = tt; fewer = omega arith }
  some_params_forms (g.one_default s) h = record { forms = (spelled_form s h, tt); fewer = omega arith }
  some_params_forms (g.and_plain {xs} {names} s x) h = record { forms = tt; fewer = omega arith }
  some_params_forms (g.and_default {xs} {ys} {names} {ts} {a} s x e) h =
      let r = some_params_forms s (natural_front xs (The m.Comma ∷ Name x ∷ The m.Equals ∷ ys) h) in
      let more = push_count ts a in
      record {
        forms = push_forms ts a r.forms (spelled_form e (natural_back xs (The m.Comma ∷ Name x ∷ The m.Equals ∷ ys) h));
        fewer = let l = r.fewer in omega (arith, length-append names (x ∷ []));
      }

  pub params_forms : {xs : List Sign} {names : List (List ℕ)} {ts : Trees} → Params xs names ts → AreNatural xs → AreCounted names ts
  params_forms g.no_params h = record { forms = tt; fewer = omega arith }
  params_forms (g.some_params s) h = some_params_forms s h
  params_forms (g.params_and_comma {xs} s) h = some_params_forms s (natural_front xs (The m.Comma ∷ []) h)
