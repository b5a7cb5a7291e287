-- Marks: which one stands first, and what it stands for.
use Rattle.std.proofs.Common.{◌≡◌, ℕ, zero, suc, ◌<◌, true, false, if◌then◌else◌, List, [], ◌∷◌, ◌++◌, length, Option, Some, None, refl}
use Rattle.std.proofs.Common.{sym, ap, ◌∙◌, subst, arith, inl, inr}
use Rattle.std.proofs.lemmas.Bool.{eqb-true, eq-eqb}
use Rattle.py_grammar.specs.Grammar as g
use Rattle.py_grammar.specs.Grammar.{Signs, Compares}
use Rattle.py_grammar.specs.Reading.{◌>>=◌, on, number_of_mark, is_same, mark_at, name_at, marked, begins, next_at, begins_name}
use Rattle.py_grammar.specs.Reading.{next_name_at, sign_op, compare_at}
use Rattle.py_ast.specs.declared.expr.SignOp.{SignOp}
use Rattle.py_ast.specs.declared.expr.CompareOp.{CompareOp}
use Rattle.py_ast.specs.declared.expr.CompareOp.TheVariants as c
use Rattle.py_grammar.specs.declared.mark.Mark.{Mark}
use Rattle.py_grammar.specs.declared.mark.Mark.TheVariants as m
use Rattle.py_grammar.specs.declared.sign.Sign.{Sign}
use Rattle.py_grammar.specs.declared.sign.Sign.TheVariants.{Name, Mark as The}
use Rattle.py_grammar.proofs.Steps.{some_is, bind_ok, if_ok, on_ok}

-- ---- each mark has a number of its own

all_marks : List Mark
all_marks =
    m.False ∷ m.None ∷ m.True ∷ m.And ∷ m.As ∷ m.Assert ∷ m.Break ∷ m.Class ∷ m.Continue ∷ m.Def ∷ m.Del ∷ m.Elif ∷ m.Else ∷ m.Except ∷
    m.Finally ∷ m.For
    ∷ m.Global ∷ m.If ∷ m.In ∷ m.Is ∷ m.Lambda ∷ m.Nonlocal ∷ m.Not ∷ m.Or ∷ m.Pass ∷ m.Raise ∷ m.Return ∷ m.Try ∷ m.While ∷ m.Plus ∷
    m.Minus ∷ m.Star
    ∷ m.Slashes ∷ m.Percent ∷ m.Stars ∷ m.Less ∷ m.Greater ∷ m.AtMost ∷ m.AtLeast ∷ m.Same ∷ m.Differs ∷ m.Open ∷ m.Close ∷ m.OpenSquare
    ∷ m.CloseSquare ∷ m.OpenCurly ∷ m.CloseCurly ∷ m.Comma ∷ m.Colon ∷ m.Semicolon ∷ m.Dot ∷ m.Equals ∷ m.PlusEquals ∷ m.MinusEquals ∷
    m.StarEquals
    ∷ m.SlashesEquals ∷ m.PercentEquals ∷ m.StarsEquals ∷ []

mark_from : List Mark → ℕ → Mark
mark_from [] n = m.False
mark_from (k ∷ ks) zero = k
mark_from (k ∷ ks) (suc n) = mark_from ks n

has_number : (k : Mark) → mark_from all_marks (number_of_mark k) ≡ k
unfolding all_marks mark_from
has_number m.False = refl
has_number _ = refl

pub same_is : (k l : Mark) → is_same k l ≡ true → k ≡ l
same_is k l e = sym (has_number k) ∙ ap (mark_from all_marks) (eqb-true (number_of_mark k) (number_of_mark l) e) ∙ has_number l

pub same_here : (k : Mark) → is_same k k ≡ true
same_here k = eq-eqb (number_of_mark k) (number_of_mark k) refl

-- ---- the mark that stands first

mark_if : (k l : Mark) (rest after : List Sign) → (if is_same k l then Some rest else None) ≡ Some after → The l ∷ rest ≡ The k ∷ after
mark_if k l rest after e =
    elim (if_ok (is_same k l) (Some rest) None after e) [
      | inl p ↦ ap (λ k. The k ∷ rest) (sym (same_is k l p.0)) ∙ ap (λ z. The k ∷ z) (some_is p.1)
      | inr p ↦ cc
    ]

pub mark_is : (k : Mark) (tokens after : List Sign) → mark_at k tokens ≡ Some after → tokens ≡ The k ∷ after
mark_is k (The l ∷ rest) after e = mark_if k l rest after e
mark_is k _ after e = cc

pub mark_here : (k : Mark) (rest : List Sign) → mark_at k (The k ∷ rest) ≡ Some rest
mark_here k rest = ap (λ b. if b then Some rest else None) (same_here k)

pub mark_less : (k : Mark) (tokens after : List Sign) → mark_at k tokens ≡ Some after → length after < length tokens
mark_less k tokens after e = rw (mark_is k tokens after e) (omega arith)

pub name_is : (tokens : List Sign) (o : List ℕ × List Sign) → name_at tokens ≡ Some o → tokens ≡ Name o.0 ∷ o.1
name_is (Name x ∷ rest) o e = ap (λ o. Name o.0 ∷ o.1) (some_is e)
name_is _ o e = cc

pub marked_is : {A : Type 0} (f : Mark → Option A) (tokens : List Sign) (o : A × List Sign) → marked f tokens ≡ Some o
    → (k : Mark) × (tokens ≡ The k ∷ o.1) × (f k ≡ Some o.0)
marked_is f (The k ∷ rest) o e =
    let b = bind_ok (f k) (λ o. Some (o, rest)) o e in
    (k, ap (λ o. The k ∷ o.1) (some_is b.2), b.1 ∙ ap (λ o. Some o.0) (some_is b.2))
marked_is f _ o e = cc

pub marked_here : {A : Type 0} (f : Mark → Option A) (k : Mark) (a : A) (rest : List Sign) → f k ≡ Some a
    → marked f (The k ∷ rest) ≡ Some (a, rest)
marked_here f k a rest e = ap (λ z. z >>= λ o. Some (o, rest)) e

pub next_is : (tokens : List Sign) (o : Unit {0} × List Sign) → next_at tokens ≡ Some o → tokens ≡ The m.Comma ∷ o.1
next_is tokens o e =
    let b = bind_ok (mark_at m.Comma tokens) (λ rest. if begins rest then Some (tt, rest) else None) o e in
    elim (if_ok (begins b.0) (Some (tt, b.0)) None o b.2) [
      | inl p ↦ mark_is m.Comma tokens b.0 b.1 ∙ ap (λ o. The m.Comma ∷ o.1) (some_is p.1)
      | inr p ↦ cc
    ]

pub next_here : (rest : List Sign) → begins rest ≡ true → next_at (The m.Comma ∷ rest) ≡ Some (tt, rest)
next_here rest e = ap (λ b. if b then Some (tt, rest) else None) e

pub next_not : (rest : List Sign) → begins rest ≡ false → next_at (The m.Comma ∷ rest) ≡ None
next_not rest e = ap (λ b. if b then Some (tt, rest) else None) e

pub next_name_is : (tokens : List Sign) (o : Unit {0} × List Sign) → next_name_at tokens ≡ Some o → tokens ≡ The m.Comma ∷ o.1
next_name_is tokens o e =
    let b = bind_ok (mark_at m.Comma tokens) (λ rest. if begins_name rest then Some (tt, rest) else None) o e in
    elim (if_ok (begins_name b.0) (Some (tt, b.0)) None o b.2) [
      | inl p ↦ mark_is m.Comma tokens b.0 b.1 ∙ ap (λ o. The m.Comma ∷ o.1) (some_is p.1)
      | inr p ↦ cc
    ]

pub next_name_not : (rest : List Sign) → begins_name rest ≡ false → next_name_at (The m.Comma ∷ rest) ≡ None
next_name_not rest e = ap (λ b. if b then Some (tt, rest) else None) e

-- ---- operators

pub sign_is : (k : Mark) (o : SignOp) → sign_op k ≡ Some o → Signs k o
sign_is m.Plus o e = subst (λ o. Signs m.Plus o) (some_is e) g.plus
sign_is m.Minus o e = subst (λ o. Signs m.Minus o) (some_is e) g.minus
sign_is _ o e = cc

pub sign_here : (k : Mark) (o : SignOp) → Signs k o → sign_op k ≡ Some o
sign_here k o g.plus = refl
sign_here k o g.minus = refl

-- an operator of a comparison, and its signs
pub record Operates (tokens : List Sign) (o : CompareOp × List Sign) : Type 0 where
  pub signs : List Sign
  pub compares : Compares signs o.0
  pub whole : tokens ≡ signs ++ o.1
  pub some : 0 < length signs

pub compare_is : (tokens : List Sign) (o : CompareOp × List Sign) → compare_at tokens ≡ Some o → Operates tokens o
compare_is (The m.Not ∷ rest) o e =
    let b = bind_ok (mark_at m.In rest) (λ after. Some (c.NotIn, after)) o e in
    subst (Operates (The m.Not ∷ rest)) (some_is b.2) (record {
      signs = The m.Not ∷ The m.In ∷ [];
      compares = g.not_within;
      whole = ap (λ z. The m.Not ∷ z) (mark_is m.In rest b.0 b.1);
      some = omega arith;
    })
compare_is (The m.Is ∷ rest) o e =
    elim (on_ok (mark_at m.Not rest) (Some (c.Is, rest)) (λ after. Some (c.IsNot, after)) (Some o) e) [
      | inl p ↦ subst (Operates (The m.Is ∷ rest)) (some_is p.1) (record {
        signs = The m.Is ∷ [];
        compares = g.same;
        whole = refl;
        some = omega arith;
      })
      | inr p ↦ subst (Operates (The m.Is ∷ rest)) (some_is p.2) (record {
        signs = The m.Is ∷ The m.Not ∷ [];
        compares = g.not_same;
        whole = ap (λ z. The m.Is ∷ z) (mark_is m.Not rest p.0 p.1);
        some = omega arith;
      })
    ]
compare_is (The m.Less ∷ rest) o e = subst (Operates (The m.Less ∷ rest)) (some_is e)
    (record { signs = The m.Less ∷ []; compares = g.less; whole = refl; some = omega arith })
compare_is (The m.Greater ∷ rest) o e = subst (Operates (The m.Greater ∷ rest)) (some_is e)
    (record { signs = The m.Greater ∷ []; compares = g.greater; whole = refl; some = omega arith })
compare_is (The m.Same ∷ rest) o e = subst (Operates (The m.Same ∷ rest)) (some_is e)
    (record { signs = The m.Same ∷ []; compares = g.equal; whole = refl; some = omega arith })
compare_is (The m.AtLeast ∷ rest) o e = subst (Operates (The m.AtLeast ∷ rest)) (some_is e)
    (record { signs = The m.AtLeast ∷ []; compares = g.at_least; whole = refl; some = omega arith })
compare_is (The m.AtMost ∷ rest) o e = subst (Operates (The m.AtMost ∷ rest)) (some_is e)
    (record { signs = The m.AtMost ∷ []; compares = g.at_most; whole = refl; some = omega arith })
compare_is (The m.Differs ∷ rest) o e = subst (Operates (The m.Differs ∷ rest)) (some_is e)
    (record { signs = The m.Differs ∷ []; compares = g.not_equal; whole = refl; some = omega arith })
compare_is (The m.In ∷ rest) o e = subst (Operates (The m.In ∷ rest)) (some_is e)
    (record { signs = The m.In ∷ []; compares = g.within; whole = refl; some = omega arith })
compare_is _ o e = cc

pub compare_here : {os : List Sign} {o : CompareOp} → Compares os o → (rest : List Sign) → mark_at m.Not rest ≡ None
    → compare_at (os ++ rest) ≡ Some (o, rest)
compare_here g.same rest e = ap (λ z. on z (Some (c.Is, rest)) (λ after. Some (c.IsNot, after))) e
compare_here g.less rest e = refl
compare_here _ rest e = refl
