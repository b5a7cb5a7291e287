-- What is made of a phrase when it is read, by what waits for it. An expression is read by a loop over a list of what waits, outermost
-- first; these definitions say what the loop still has to do.
use Rattle.std.specs.Prelude.{ℕ, zero, suc, ◌-◌, nat_le, if◌then◌else◌, List, [], ◌∷◌, Option, Some, None}
use Rattle.py_ast.specs.Tree as t
use Rattle.py_ast.specs.declared.expr.SignOp.{SignOp}
use Rattle.py_grammar.specs.Grammar as level
use Rattle.py_grammar.specs.Grammar.{Level}
use Rattle.py_grammar.specs.Kept.{Kept, KeptAll, made, made_of_two, made_choice, made_list, made_dict, made_call, made_lambda, compared, push_kept, place, value}
use Rattle.py_grammar.specs.Reading.{Reader, ◌>>=◌, on, giving, mark_at, marked, sign_op, if_mark, up_to, start, factor, term, negated, conjunctions}
use Rattle.py_grammar.specs.Reading.{more_primary, more_grouped, more_chain, more_items, more_pairs, param_onto, plain_param, rest_of_params, lambda_body, condition}
use Rattle.py_grammar.specs.Reading.{terms, sums, ands, ors, arithmetic, conjunction, disjunction, joined, power_of, one_operand, with_operand, with_default, end_of_exprs}
use Rattle.py_grammar.specs.declared.mark.Mark.{Mark}
use Rattle.py_grammar.specs.declared.mark.Mark.TheVariants as m
use Rattle.py_grammar.specs.declared.sign.Sign.{Sign}
use Rattle.py_line.specs.declared.frame.Rung.{Rung}
use Rattle.py_line.specs.declared.frame.Rung.TheVariants as r
use Rattle.py_line.specs.declared.frame.Brackets.{Brackets}
use Rattle.py_line.specs.declared.frame.Brackets.TheVariants as b
use Rattle.py_line.specs.declared.frame.Frame.{Frame}
use Rattle.py_line.specs.declared.frame.Frame.TheVariants as f
use Rattle.py_line.specs.declared.frame.Opening.{Opening}
use Rattle.py_line.specs.declared.frame.Opening.TheVariants as o
use Rattle.py_line.specs.Views.{kept_of, all_of, chained_of, params_of}
use Rattle.py_line.specs.Full.{full}

-- a phrase that was read, and the signs after it
abbrev pub Read : Type 0
Read = Kept × List Sign

-- ---- rungs

abbrev pub rank : Rung → ℕ
rank r.Atom = 0
rank r.Primary = 1
rank r.Power = 2
rank r.Factor = 3
rank r.Term = 4
rank r.Sum = 5
rank r.Comparison = 6
rank r.Not = 7
rank r.And = 8
rank r.Or = 9
rank r.Expr = 10

abbrev pub level_of : Rung → Level
level_of r.Atom = level.Atom
level_of r.Primary = level.Primary
level_of r.Power = level.Power
level_of r.Factor = level.Factor
level_of r.Term = level.Term
level_of r.Sum = level.Sum
level_of r.Comparison = level.Comparison
level_of r.Not = level.Not
level_of r.And = level.And
level_of r.Or = level.Or
level_of r.Expr = level.Expr

-- the next rung, and the last one of itself
abbrev pub next : Rung → Rung
next r.Atom = r.Primary
next r.Primary = r.Power
next r.Power = r.Factor
next r.Factor = r.Term
next r.Term = r.Sum
next r.Sum = r.Comparison
next r.Comparison = r.Not
next r.Not = r.And
next r.And = r.Or
next r.Or = r.Expr
next r.Expr = r.Expr

-- what is read at a rung, over what is nested as deep as may be
unfoldable pub phrase : Rung → Reader Kept
phrase w tokens = start 60 (level_of w) (full 60) tokens

-- a phrase of a rung, of the phrase of the rung before it
abbrev pub rise : Rung → Read → Option Read
rise r.Atom a = Some a
rise r.Primary a = more_primary 60 (full 60) a.0 a.1
rise r.Power a = on (mark_at m.Stars a.1) (Some a) (λ rest. phrase r.Factor rest >>= giving (made_of_two 60 power_of value a.0))
rise r.Factor a = Some a
rise r.Term a = more_grouped 60 terms (factor 60 (full 60)) a.0 a.1
rise r.Sum a = more_grouped 60 sums (term 60 (full 60)) a.0 a.1
rise r.Comparison a = more_chain 60 (full 60) (one_operand a.0) a.1 >>= giving (compared 60)
rise r.Not a = Some a
rise r.And a = more_grouped 60 ands (negated 60 (full 60)) a.0 a.1
rise r.Or a = more_grouped 60 ors (conjunctions 60 (full 60)) a.0 a.1
rise r.Expr a = condition 60 (full 60) a

-- so many rungs up
abbrev pub climb : ℕ → Rung → Read → Option Read
climb zero l a = Some a
climb (suc n) l a = rise (next l) a >>= climb n (next l)

-- up to a rung
abbrev pub climb_to : Rung → Rung → Read → Option Read
climb_to w l a = climb (rank w - rank l) l a

-- ---- what waits

-- the rung of the phrase that is waited for
abbrev pub waits : Frame → Rung
waits (f.Sign o) = r.Factor
waits f.Not = r.Not
waits (f.Power a) = r.Factor
waits (f.Term a o) = r.Factor
waits (f.Sum a o) = r.Term
waits (f.And a) = r.Not
waits (f.Or a) = r.And
waits (f.Chain c o) = r.Sum
waits (f.Test a) = r.Or
waits (f.Else a test) = r.Expr
waits (f.Default s x) = r.Expr
waits (f.Lambda s) = r.Expr
waits (f.Item d s) = r.Expr
waits (f.Key s) = r.Expr
waits (f.Value s k) = r.Expr

-- the rung of what is made of it
abbrev pub gives : Frame → Rung
gives (f.Sign o) = r.Factor
gives f.Not = r.Not
gives (f.Power a) = r.Power
gives (f.Term a o) = r.Factor
gives (f.Sum a o) = r.Term
gives (f.And a) = r.Not
gives (f.Or a) = r.And
gives (f.Chain c o) = r.Comparison
gives (f.Test a) = r.Expr
gives (f.Else a test) = r.Expr
gives (f.Default s x) = r.Expr
gives (f.Lambda s) = r.Expr
gives (f.Item d s) = r.Atom
gives (f.Key s) = r.Atom
gives (f.Value s k) = r.Atom

-- an index, up to the closing bracket
abbrev pub indexed : Kept → Read → Option Read
indexed a = up_to m.CloseSquare (made_of_two 60 t.item place a)

-- expressions in brackets, up to the closing one
abbrev pub closed : Brackets → KeptAll × List Sign → Option Read
closed b.Round s = end_of_exprs 60 s >>= up_to m.Close (λ a. a)
closed b.Square s = if_mark m.Comma s >>= up_to m.CloseSquare (made_list 60)
closed (b.Index a) s = end_of_exprs 60 s >>= indexed (kept_of a)
closed (b.Call a) s = if_mark m.Comma s >>= up_to m.Close (made_call 60 (kept_of a))

-- the expressions in brackets after some
abbrev pub listed : Brackets → KeptAll × List Sign → Option Read
listed d s = more_items 60 (full 60) s.0 s.1 >>= closed d

-- the end of keys and values
abbrev pub pairs_ended : KeptAll × List Sign → Option Read
pairs_ended s = if_mark m.Comma s >>= up_to m.CloseCurly (made_dict 60)

-- keys and values, up to the closing bracket
abbrev pub closed_pairs : KeptAll × List Sign → Option Read
closed_pairs s = more_pairs 60 (full 60) s.0 s.1 >>= if_mark m.Comma >>= up_to m.CloseCurly (made_dict 60)

-- what follows the first parameters of a lambda
abbrev pub lambda_after : (List (List ℕ) × KeptAll) × List Sign → Option Read
lambda_after s = rest_of_params 60 (full 60) s >>= lambda_body 60 (full 60)

-- what is made of a phrase by the one that waits for it
abbrev pub turn : Frame → Read → Option Read
turn (f.Sign o) a = giving (made 60 (t.sign o) value) a
turn f.Not a = giving (made 60 t.not value) a
turn (f.Power l) a = giving (made_of_two 60 power_of value (kept_of l)) a
turn (f.Term l o) a = giving (made_of_two 60 (joined (arithmetic o)) value (kept_of l)) a
turn (f.Sum l o) a = giving (made_of_two 60 (joined (arithmetic o)) value (kept_of l)) a
turn (f.And l) a = giving (made_of_two 60 (joined conjunction) value (kept_of l)) a
turn (f.Or l) a = giving (made_of_two 60 (joined disjunction) value (kept_of l)) a
turn (f.Chain c o) a = more_chain 60 (full 60) (with_operand (chained_of c) o a.0) a.1 >>= giving (compared 60)
turn (f.Test l) a = mark_at m.Else a.1 >>= λ rest. phrase r.Expr rest >>= giving (made_choice 60 (kept_of l) a.0)
turn (f.Else l test) a = giving (made_choice 60 (kept_of l) (kept_of test)) a
turn (f.Default s x) a = lambda_after (with_default (params_of s) x a.0, a.1)
turn (f.Lambda s) a = giving (made_lambda 60 (params_of s).0 (params_of s).1) a
turn (f.Item d s) a = listed d (push_kept (all_of s) a.0, a.1)
turn (f.Key s) a = mark_at m.Colon a.1 >>= λ rest. phrase r.Expr rest >>= giving (push_kept (push_kept (all_of s) a.0)) >>= closed_pairs
turn (f.Value s k) a = closed_pairs (push_kept (push_kept (all_of s) (kept_of k)) a.0, a.1)

-- the rung that the innermost waits for, and the first one where none waits
abbrev pub wanted : Rung → List Frame → Rung
wanted w [] = w
wanted w (x ∷ fs) = wanted (waits x) fs

-- what is made of a phrase by all that wait, outermost first
abbrev pub resume : Rung → List Frame → Read → Option Read
resume w [] a = Some a
resume w (x ∷ fs) a = resume (waits x) fs a >>= turn x >>= climb_to w (gives x)

-- what is read where a phrase of a rung ends
unfoldable pub after : Rung → List Frame → Rung → Read → Option Read
after w fs l a = climb_to (wanted w fs) l a >>= resume w fs

-- what is read where an operand begins
unfoldable pub before : Rung → List Frame → List Sign → Option Read
before w fs tokens = phrase (wanted w fs) tokens >>= resume w fs

-- what is read where parameters of a lambda end, or a comma and one more follow
unfoldable pub between : Rung → List Frame → (List (List ℕ) × KeptAll) × List Sign → Option Read
between w fs s = lambda_after s >>= after w fs r.Expr

-- a prefix of a rung that stands first, where a phrase of a rung may begin with it
abbrev pub asked : {A : Type 0} → ℕ → Rung → Option A → Option A
asked n w o = if nat_le n (rank w) then o else None

abbrev pub lambda_in : Rung → List Sign → Option (List Sign)
lambda_in w tokens = asked 10 w (mark_at m.Lambda tokens)

abbrev pub not_in : Rung → List Sign → Option (List Sign)
not_in w tokens = asked 7 w (mark_at m.Not tokens)

abbrev pub sign_in : Rung → Reader SignOp
sign_in w tokens = asked 3 w (marked sign_op tokens)

-- the signs after a comma, if one stands first
abbrev pub past_comma : List Sign → List Sign
past_comma tokens = on (mark_at m.Comma tokens) tokens (λ rest. rest)

-- a parameter of a lambda after others, and what follows it
abbrev pub param_after : List (List ℕ) × KeptAll → Reader Kept
param_after s tokens = param_onto 60 (full 60) s tokens >>= lambda_after

-- the same, of a parameter without a default
abbrev pub plain_after : List (List ℕ) × KeptAll → List ℕ → Reader Kept
plain_after s x tokens = plain_param s x tokens >>= lambda_after

-- what is read on after what may have been read at a rung
abbrev pub onward : Rung → List Frame → Rung → Option Read → Option Read
onward w fs l a = a >>= after w fs l

-- ---- marks with which an atom begins

abbrev pub opening_of : Mark → Option Opening
opening_of m.None = Some o.Nil
opening_of m.True = Some o.True
opening_of m.False = Some o.False
opening_of m.Open = Some o.Round
opening_of m.OpenSquare = Some o.Square
opening_of m.OpenCurly = Some o.Curly
opening_of _ = None
