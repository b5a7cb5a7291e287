-- Lists of printed parts spell the lists of the trees.
use Rattle.std.proofs.Common.{◌≡◌, ℕ, zero, suc, ◌+◌, ◌-◌, ◌≤◌, ◌<◌, List, [], ◌∷◌, ◌++◌, length, refl, sym, ap, ◌∙◌, subst, arith, append_assoc}
use Rattle.std.proofs.lemmas.List.{append-nil}
use Rattle.py_ast.specs.Tree as t
use Rattle.py_ast.specs.Tree.{Tree, Trees, none, more}
use Rattle.py_ast.specs.Lawful.{count, AreInPairs}
use Rattle.py_ast.specs.declared.expr.CompareOp.{CompareOp}
use Rattle.py_ast.specs.declared.expr.CompareOp.TheVariants as c
use Rattle.py_grammar.specs.Grammar as g
use Rattle.py_grammar.specs.Grammar.{Atom, Sum, Comparison, Expr, Exprs, Spells, Compares, Chain, Items, Row, Pairs, PairRow, SomeParams, Params, push}
use Rattle.py_grammar.specs.declared.mark.Mark.TheVariants as m
use Rattle.py_grammar.specs.declared.sign.Sign.{Sign}
use Rattle.py_grammar.specs.declared.sign.Sign.TheVariants.{Name, Mark as The}
use Rattle.py_print.specs.Pieces.{Piece, space, signs_in, mark, after_commas, commas, values_on, keys_on, pairs, params}
use Rattle.py_print.specs.Expressions.{at, comparison, compared_on, compared, params_of, printed, members, operands}
use Rattle.py_print.proofs.SignsIn.{signs_append, signs_behind}
use Rattle.py_print.proofs.Levels.{parens_spelled}

-- ---- trees behind trees

abbrev pub appended : Trees → Trees → Trees
appended ss none = ss
appended ss (more a ts) = appended (push ss a) ts

pub appended_more : (s : Tree) (ss ts : Trees) → appended (more s ss) ts ≡ more s (appended ss ts)
appended_more s ss none = refl
appended_more s ss (more a ts) = appended_more s (push ss a) ts

pub appended_none : (ts : Trees) → appended none ts ≡ ts
appended_none none = refl
appended_none (more a ts) = appended_more a none ts ∙ ap (more a) (appended_none ts)

pub appended_one : (a : Tree) (ts : Trees) → appended (more a none) ts ≡ more a ts
appended_one a ts = appended_more a none ts ∙ ap (more a) (appended_none ts)

pub length_members : (ts : Trees) → length (members ts) ≡ count ts
length_members none = refl
length_members (more a ts) = ap suc (length_members ts)

-- ---- members

-- each of the trees is spelled as it is printed
abbrev pub Each : Trees → Type 0
Each none = Unit {0}
Each (more a ts) = Spells Expr (signs_in (printed a)) a × Each ts

-- signs behind signs, of which the last are those of pieces behind pieces
pub signs_on : (xs ys : List Sign) (ps qs : List Piece) → (xs ++ (ys ++ signs_in ps)) ++ signs_in qs ≡ xs ++ (ys ++ signs_in (ps ++ qs))
signs_on xs ys ps qs = append_assoc xs (ys ++ signs_in ps) (signs_in qs)
    ∙ ap (λ z. xs ++ z) (append_assoc ys (signs_in ps) (signs_in qs) ∙ ap (λ z. ys ++ z) (sym (signs_append ps qs)))

items_after : (ss ts : Trees) (xs : List Sign) → Items xs ss → Each ts → Items (xs ++ signs_in (after_commas (members ts))) (appended ss ts)
items_after ss none xs s h = subst (λ z. Items z ss) (sym (append-nil xs)) s
items_after ss (more a ts) xs s h =
    subst (λ z. Items z (appended (push ss a) ts)) (signs_on xs (The m.Comma ∷ []) (printed a) (after_commas (members ts)))
    (items_after (push ss a) ts (xs ++ The m.Comma ∷ signs_in (printed a)) (g.and_item s h.0) h.1)

pub items_spelled : (a : Tree) (ts : Trees) → Each (more a ts) → Items (signs_in (commas (members (more a ts)))) (more a ts)
items_spelled a ts h =
    subst (λ z. Items z (more a ts)) (sym (signs_append (printed a) (after_commas (members ts))))
    (subst (λ z. Items (signs_in (printed a) ++ signs_in (after_commas (members ts))) z) (appended_one a ts)
    (items_after (more a none) ts (signs_in (printed a)) (g.one_item h.0) h.1))

pub row_spelled : (ts : Trees) → Each ts → Row (signs_in (commas (members ts))) ts
row_spelled none h = g.no_items
row_spelled (more a ts) h = g.some_items (items_spelled a ts h)

pub tuple_spelled : (ts : Trees) → Each ts → Spells Atom (signs_in (printed (t.tuple ts))) (t.tuple ts)
tuple_spelled none h = g.nothing_in_parens
tuple_spelled (more a none) h =
    parens_spelled (t.tuple (more a none)) (commas (members (more a none)) ++ mark m.Comma ∷ [])
    (subst (λ z. Spells Exprs z (t.tuple (more a none))) (sym (signs_behind m.Comma (commas (members (more a none)))))
    (g.some_and_comma (items_spelled a none h)))
tuple_spelled (more a (more b ts)) h =
    parens_spelled (t.tuple (more a (more b ts))) (commas (members (more a (more b ts))) ++ [])
    (subst (λ z. Spells Exprs (signs_in z) (t.tuple (more a (more b ts)))) (sym (append-nil (commas (members (more a (more b ts))))))
    (g.several (items_spelled a (more b ts) h)))

pub list_spelled : (ts : Trees) → Each ts → Spells Atom (signs_in (printed (t.list ts))) (t.list ts)
list_spelled ts h =
    subst (λ z. Spells Atom (The m.OpenSquare ∷ z) (t.list ts)) (sym (signs_behind m.CloseSquare (commas (members ts)))) (g.a_list (row_spelled ts h))

-- ---- keys and values

pairs_after : (ss ts : Trees) (xs : List Sign) → Pairs xs ss → Each ts → AreInPairs ts → Pairs (xs ++ signs_in (keys_on (members ts))) (appended ss ts)
pairs_after ss none xs s h p = subst (λ z. Pairs z ss) (sym (append-nil xs)) s
pairs_after ss (more k none) xs s h p = absurd p
pairs_after ss (more k (more v ts)) xs s h p =
    let key = signs_in (printed k) in
    let e = signs_append (printed k) (mark m.Colon ∷ space ∷ printed v ++ keys_on (members ts)) in
    subst (λ z. Pairs (xs ++ The m.Comma ∷ z) (appended (push (push ss k) v) ts)) (sym e)
    (subst (λ z. Pairs z (appended (push (push ss k) v) ts))
    (signs_on xs (The m.Comma ∷ key ++ The m.Colon ∷ []) (printed v) (keys_on (members ts))
    ∙ ap (λ z. xs ++ The m.Comma ∷ z) (append_assoc key (The m.Colon ∷ []) (signs_in (printed v ++ keys_on (members ts)))))
    (pairs_after (push (push ss k) v) ts (xs ++ (The m.Comma ∷ key ++ The m.Colon ∷ [] ++ signs_in (printed v)))
    (subst (λ z. Pairs (xs ++ The m.Comma ∷ z) (push (push ss k) v)) (sym (append_assoc key (The m.Colon ∷ []) (signs_in (printed v))))
    (g.and_pair s h.0 h.1.0)) h.1.1 p))

pairs_spelled : (k v : Tree) (ts : Trees) → Each (more k (more v ts)) → AreInPairs ts → Pairs (signs_in (pairs (members (more k (more v ts))))) (more k (more v ts))
pairs_spelled k v ts h p =
    let key = signs_in (printed k) in
    subst (λ z. Pairs z (more k (more v ts)))
    (append_assoc key (The m.Colon ∷ signs_in (printed v)) (signs_in (keys_on (members ts)))
    ∙ ap (λ z. key ++ The m.Colon ∷ z) (sym (signs_append (printed v) (keys_on (members ts))))
    ∙ sym (signs_append (printed k) (values_on (members (more v ts)))))
    (subst (λ z. Pairs (key ++ The m.Colon ∷ signs_in (printed v) ++ signs_in (keys_on (members ts))) z)
    (appended_more k (more v none) ts ∙ ap (more k) (appended_one v ts))
    (pairs_after (more k (more v none)) ts (key ++ The m.Colon ∷ signs_in (printed v)) (g.one_pair h.0 h.1.0) h.1.1 p))

pair_row : (ts : Trees) → Each ts → AreInPairs ts → PairRow (signs_in (pairs (members ts))) ts
pair_row none h p = g.no_pairs
pair_row (more k none) h p = absurd p
pair_row (more k (more v ts)) h p = g.some_pairs (pairs_spelled k v ts h p)

pub dict_spelled : (ts : Trees) → Each ts → AreInPairs ts → Spells Atom (signs_in (printed (t.dict ts))) (t.dict ts)
dict_spelled ts h p =
    subst (λ z. Spells Atom (The m.OpenCurly ∷ z) (t.dict ts)) (sym (signs_behind m.CloseCurly (pairs (members ts)))) (g.a_dict (pair_row ts h p))

-- ---- comparisons

compares : (o : CompareOp) → Compares (signs_in (comparison o)) o
compares c.Less = g.less
compares c.Greater = g.greater
compares c.Equal = g.equal
compares c.AtLeast = g.at_least
compares c.AtMost = g.at_most
compares c.NotEqual = g.not_equal
compares c.In = g.within
compares c.NotIn = g.not_within
compares c.Is = g.same
compares c.IsNot = g.not_same

-- each is spelled as it is printed as an operand of a comparison
abbrev pub EachOperand : Trees → Type 0
EachOperand none = Unit {0}
EachOperand (more a ts) = Spells Sum (signs_in (at Sum a (printed a))) a × EachOperand ts

chain_after : (ss ts : Trees) (before ops : List CompareOp) (xs : List Sign) → Chain xs before ss → EachOperand ts → count ts ≡ length ops
    → Chain (xs ++ signs_in (compared_on ops (operands ts))) (before ++ ops) (appended ss ts)
chain_after ss none before [] xs s h e = subst (λ z. Chain z (before ++ []) ss) (sym (append-nil xs)) (subst (λ z. Chain xs z ss) (sym (append-nil before)) s)
chain_after ss none before (o ∷ ops) xs s h e = absurd (omega arith)
chain_after ss (more a ts) before [] xs s h e = absurd (omega arith)
chain_after ss (more a ts) before (o ∷ ops) xs s h e =
    let p = at Sum a (printed a) in
    let rest = compared_on ops (operands ts) in
    subst (λ z. Chain (xs ++ z) (before ++ o ∷ ops) (appended (push ss a) ts)) (sym (signs_append (comparison o) (space ∷ p ++ rest)))
    (subst (λ z. Chain z (before ++ o ∷ ops) (appended (push ss a) ts)) (signs_on xs (signs_in (comparison o)) p rest)
    (subst (λ z. Chain ((xs ++ (signs_in (comparison o) ++ signs_in p)) ++ signs_in rest) z (appended (push ss a) ts)) (append_assoc before (o ∷ []) ops)
    (chain_after (push ss a) ts (before ++ o ∷ []) ops (xs ++ (signs_in (comparison o) ++ signs_in p)) (g.and_operand s (compares o) h.0) h.1 (omega arith))))

compared_chain : (a : Tree) (ts : Trees) (ops : List CompareOp) → EachOperand (more a ts) → count ts ≡ length ops
    → Chain (signs_in (compared ops (operands (more a ts)))) ops (more a ts)
compared_chain a ts ops h e =
    let p = at Sum a (printed a) in
    subst (λ z. Chain z ops (more a ts)) (sym (signs_append p (compared_on ops (operands ts))))
    (subst (λ z. Chain (signs_in p ++ signs_in (compared_on ops (operands ts))) ops z) (appended_one a ts)
    (chain_after (more a none) ts [] ops (signs_in p) (g.one_operand h.0) h.1 e))

pub compare_spelled : (ops : List CompareOp) (ts : Trees) → EachOperand ts → 0 < length ops → count ts ≡ length ops + 1
    → Spells Comparison (signs_in (printed (t.compare ops ts))) (t.compare ops ts)
compare_spelled [] ts h some e = absurd (omega arith)
compare_spelled (o ∷ ops) none h some e = absurd (omega arith)
compare_spelled (o ∷ ops) (more a ts) h some e = g.compare (compared_chain a ts (o ∷ ops) h (omega arith))

-- ---- parameters

default_params : (ss ts : Trees) (before names : List (List ℕ)) (xs : List Sign) → SomeParams xs before ss → Each ts → count ts ≡ length names
    → SomeParams (xs ++ signs_in (after_commas (params 0 names (members ts)))) (before ++ names) (appended ss ts)
default_params ss none before [] xs s h e =
    subst (λ z. SomeParams z (before ++ []) ss) (sym (append-nil xs)) (subst (λ z. SomeParams xs z ss) (sym (append-nil before)) s)
default_params ss none before (x ∷ names) xs s h e = absurd (omega arith)
default_params ss (more a ts) before [] xs s h e = absurd (omega arith)
default_params ss (more a ts) before (x ∷ names) xs s h e =
    let rest = after_commas (params 0 names (members ts)) in
    subst (λ z. SomeParams z (before ++ x ∷ names) (appended (push ss a) ts)) (signs_on xs (The m.Comma ∷ Name x ∷ The m.Equals ∷ []) (printed a) rest)
    (subst (λ z. SomeParams ((xs ++ (The m.Comma ∷ Name x ∷ The m.Equals ∷ signs_in (printed a))) ++ signs_in rest) z (appended (push ss a) ts)) (append_assoc before (x ∷ []) names)
    (default_params (push ss a) ts (before ++ x ∷ []) names (xs ++ (The m.Comma ∷ Name x ∷ The m.Equals ∷ signs_in (printed a))) (g.and_default s x h.0) h.1 (omega arith)))

plain_params : (n : ℕ) (ts : Trees) (before names : List (List ℕ)) (xs : List Sign) → SomeParams xs before none → Each ts → n + count ts ≡ length names
    → SomeParams (xs ++ signs_in (after_commas (params n names (members ts)))) (before ++ names) ts
plain_params zero ts before names xs s h e =
    subst (λ z. SomeParams (xs ++ signs_in (after_commas (params 0 names (members ts)))) (before ++ names) z) (appended_none ts)
    (default_params none ts before names xs s h (omega arith))
plain_params (suc n) ts before [] xs s h e = absurd (omega arith)
plain_params (suc n) ts before (x ∷ names) xs s h e =
    let rest = after_commas (params n names (members ts)) in
    subst (λ z. SomeParams z (before ++ x ∷ names) ts) (append_assoc xs (The m.Comma ∷ Name x ∷ []) (signs_in rest))
    (subst (λ z. SomeParams ((xs ++ (The m.Comma ∷ Name x ∷ [])) ++ signs_in rest) z ts) (append_assoc before (x ∷ []) names)
    (plain_params n ts (before ++ x ∷ []) names (xs ++ (The m.Comma ∷ Name x ∷ [])) (g.and_plain s x) h (omega arith)))

some_params : (n : ℕ) (ts : Trees) (x : List ℕ) (names : List (List ℕ)) → Each ts → n + count ts ≡ length names + 1
    → SomeParams (signs_in (commas (params n (x ∷ names) (members ts)))) (x ∷ names) ts
some_params (suc n) ts x names h e = plain_params n ts (x ∷ []) names (Name x ∷ []) g.one_plain h (omega arith)
some_params zero none x names h e = absurd (omega arith)
some_params zero (more a ts) x names h e =
    let rest = after_commas (params 0 names (members ts)) in
    subst (λ z. SomeParams (Name x ∷ The m.Equals ∷ z) (x ∷ names) (more a ts)) (sym (signs_append (printed a) rest))
    (subst (λ z. SomeParams (Name x ∷ The m.Equals ∷ signs_in (printed a) ++ signs_in rest) (x ∷ names) z) (appended_one a ts)
    (default_params (more a none) ts (x ∷ []) names (Name x ∷ The m.Equals ∷ signs_in (printed a)) (g.one_default h.0) h.1 (omega arith)))

pub params_spelled : (names : List (List ℕ)) (ts : Trees) → Each ts → count ts ≤ length names → Params (signs_in (params_of names (members ts))) names ts
params_spelled [] none h e = g.no_params
params_spelled [] (more a ts) h e = absurd (omega arith)
params_spelled (x ∷ names) ts h e =
    let l = length_members ts in
    g.some_params (some_params (length (x ∷ names) - length (members ts)) ts x names h (omega arith))
