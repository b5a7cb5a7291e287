-- The pieces of a printed expression may stand side by side, and open two brackets for each level at most.
use Rattle.std.proofs.Common.{◌≡◌, ℕ, zero, suc, ◌+◌, ◌*◌, ◌-◌, ◌≤◌, ◌<◌, max, List, [], ◌∷◌, ◌++◌, length, Bool, true, false, ◌||◌, nat_le, if◌then◌else◌, Some, None, refl, ap, ◌∙◌, arith}
use Rattle.std.proofs.lemmas.Bool.{leb-true}
use Rattle.py_ast.specs.Tree as t
use Rattle.py_ast.specs.Tree.{Tree, Trees, none, more, depth, deepest}
use Rattle.py_ast.specs.Lawful.{count, IsForm, AreForms}
use Rattle.py_ast.specs.declared.expr.BinaryOp.{BinaryOp}
use Rattle.py_ast.specs.declared.expr.BinaryOp.TheVariants as b
use Rattle.py_ast.specs.declared.expr.SignOp.{SignOp}
use Rattle.py_ast.specs.declared.expr.SignOp.TheVariants as p
use Rattle.py_ast.specs.declared.expr.CompareOp.{CompareOp}
use Rattle.py_ast.specs.declared.expr.CompareOp.TheVariants as c
use Rattle.py_grammar.specs.Grammar.{Level, Primary, Factor, Sum, Not, And, Or}
use Rattle.py_grammar.specs.declared.mark.Mark.{Mark}
use Rattle.py_grammar.specs.declared.mark.Mark.TheVariants as m
use Rattle.py_grammar.specs.declared.sign.Sign.TheVariants.{Name, Number, Text, Mark as The}
use Rattle.py_print.specs.Pieces.{Piece, sign, space, mark, name, in_parens, in_squares, between, after_space, after_commas, commas, one_comma, values_on, keys_on, pairs, params}
use Rattle.py_print.specs.Expressions.{rank, operation_level, level_of, at, left_place, right_place, is_number, before_dot, operator, sign_mark, comparison, compared_on, compared, truth_mark, params_of, printed, members, operands}
use Rattle.py_print.proofs.Classes.{Class, free, unary, point, word, digits, gap, mark_class}
use Rattle.py_print.proofs.Runs.{fits, level, mark_turn, is_end, level_step, run_append, fits_start, fits_end}
use Rattle.py_print.proofs.Runs.{IsRun, IsTidy, tidy_run, weaker, nothing_run, run_on, tidy_on, sign_run, sign_tidy, space_run, between_tidy}
use Rattle.py_print.proofs.Runs.{parens_tidy, squares_tidy, curly_tidy, parens_behind, squares_behind}

pub depth_some : (a : Tree) → 1 ≤ depth a
depth_some (t.name x) = omega arith
depth_some (t.number n) = omega arith
depth_some (t.text x) = omega arith
depth_some t.nil = omega arith
depth_some (t.truth v) = omega arith
depth_some (t.tuple ts) = omega arith
depth_some (t.list ts) = omega arith
depth_some (t.dict ts) = omega arith
depth_some (t.lambda names defaults a) = omega arith
depth_some (t.choice a test other) = omega arith
depth_some (t.and l r) = omega arith
depth_some (t.or l r) = omega arith
depth_some (t.not a) = omega arith
depth_some (t.compare ops ts) = omega arith
depth_some (t.binary l o r) = omega arith
depth_some (t.sign o a) = omega arith
depth_some (t.attr a x) = omega arith
depth_some (t.item a i) = omega arith
depth_some (t.call f ts) = omega arith

-- ---- lists

-- each of the trees is tidy as it is printed
abbrev pub EachTidy : ℕ → Trees → Type 0
EachTidy cost none = Unit {0}
EachTidy cost (more a ts) = IsTidy cost (printed a) × EachTidy cost ts

-- a comma and what stands behind it
comma_run : (cost : ℕ) (k : Class) (ps qs : List Piece) → is_end k ≡ true → (p : IsTidy cost ps) → IsRun cost p.end qs → IsRun cost k (mark m.Comma ∷ space ∷ ps ++ qs)
comma_run cost k ps qs h p q =
    sign_run cost k (The m.Comma) (space ∷ ps ++ qs) (fits_end k m.Comma h refl) refl (space_run cost free (ps ++ qs) (run_on cost free ps qs (tidy_run free refl p) q))

commas_on : (cost : ℕ) (ts : Trees) (k : Class) → is_end k ≡ true → EachTidy cost ts → IsRun cost k (after_commas (members ts))
commas_on cost none k h e = nothing_run cost k h
commas_on cost (more a ts) k h e = comma_run cost k (printed a) (after_commas (members ts)) h e.0 (commas_on cost ts e.0.end e.0.ends e.1)

pub commas_run : (cost : ℕ) (ts : Trees) → EachTidy cost ts → IsRun cost free (commas (members ts))
commas_run cost none e = nothing_run cost free refl
commas_run cost (more a ts) e = run_on cost free (printed a) (after_commas (members ts)) (tidy_run free refl e.0) (commas_on cost ts e.0.end e.0.ends e.1)

one_comma_run : (cost : ℕ) (ps : List (List Piece)) (k : Class) → is_end k ≡ true → IsRun cost k (one_comma ps)
one_comma_run cost [] k h = nothing_run cost k h
one_comma_run cost (p ∷ []) k h = sign_run cost k (The m.Comma) [] (fits_end k m.Comma h refl) refl (nothing_run cost free refl)
one_comma_run cost (p ∷ q ∷ ps) k h = nothing_run cost k h

tuple_run : (cost : ℕ) (ts : Trees) → EachTidy cost ts → IsRun cost free (commas (members ts) ++ one_comma (members ts))
tuple_run cost ts e =
    let r = commas_run cost ts e in
    run_on cost free (commas (members ts)) (one_comma (members ts)) r (one_comma_run cost (members ts) r.end r.ends)

-- a colon and what stands behind it
colon_run : (cost : ℕ) (k : Class) (ps : List Piece) → is_end k ≡ true → IsRun cost free ps → IsRun cost k (mark m.Colon ∷ space ∷ ps)
colon_run cost k ps h r = sign_run cost k (The m.Colon) (space ∷ ps) (fits_end k m.Colon h refl) refl (space_run cost unary ps r)

mutual
  values_run : (cost : ℕ) (ts : Trees) (k : Class) → is_end k ≡ true → EachTidy cost ts → IsRun cost k (values_on (members ts))
  values_run cost none k h e = nothing_run cost k h
  values_run cost (more a ts) k h e =
      colon_run cost k (printed a ++ keys_on (members ts)) h
      (run_on cost free (printed a) (keys_on (members ts)) (tidy_run free refl e.0) (keys_run cost ts e.0.end e.0.ends e.1))

  keys_run : (cost : ℕ) (ts : Trees) (k : Class) → is_end k ≡ true → EachTidy cost ts → IsRun cost k (keys_on (members ts))
  keys_run cost none k h e = nothing_run cost k h
  keys_run cost (more a ts) k h e = comma_run cost k (printed a) (values_on (members ts)) h e.0 (values_run cost ts e.0.end e.0.ends e.1)

pairs_run : (cost : ℕ) (ts : Trees) → EachTidy cost ts → IsRun cost free (pairs (members ts))
pairs_run cost none e = nothing_run cost free refl
pairs_run cost (more a ts) e = run_on cost free (printed a) (values_on (members ts)) (tidy_run free refl e.0) (values_run cost ts e.0.end e.0.ends e.1)

-- ---- parameters

-- each list is tidy
abbrev pub AllTidy : ℕ → List (List Piece) → Type 0
AllTidy cost [] = Unit {0}
AllTidy cost (p ∷ ps) = IsTidy cost p × AllTidy cost ps

pub all_commas_on : (cost : ℕ) (ps : List (List Piece)) (k : Class) → is_end k ≡ true → AllTidy cost ps → IsRun cost k (after_commas ps)
all_commas_on cost [] k h e = nothing_run cost k h
all_commas_on cost (p ∷ ps) k h e = comma_run cost k p (after_commas ps) h e.0 (all_commas_on cost ps e.0.end e.0.ends e.1)

pub all_commas_run : (cost : ℕ) (ps : List (List Piece)) → AllTidy cost ps → IsRun cost free (commas ps)
all_commas_run cost [] e = nothing_run cost free refl
all_commas_run cost (p ∷ ps) e = run_on cost free p (after_commas ps) (tidy_run free refl e.0) (all_commas_on cost ps e.0.end e.0.ends e.1)

abbrev pub name_tidy : (cost : ℕ) (x : List ℕ) → IsTidy cost (name x ∷ [])
name_tidy cost x = sign_tidy cost (Name x) [] refl refl (nothing_run cost word refl)

default_tidy : (cost : ℕ) (x : List ℕ) (ps : List Piece) → IsTidy cost ps → IsTidy cost (name x ∷ mark m.Equals ∷ ps)
default_tidy cost x ps p = sign_tidy cost (Name x) (mark m.Equals ∷ ps) refl refl (sign_run cost word (The m.Equals) ps refl refl (tidy_run unary refl p))

params_tidy : (cost plain : ℕ) (names : List (List ℕ)) (ts : Trees) → EachTidy cost ts → AllTidy cost (params plain names (members ts))
params_tidy cost plain [] ts e = tt
params_tidy cost (suc plain) (x ∷ names) ts e = (name_tidy cost x, params_tidy cost plain names ts e)
params_tidy cost zero (x ∷ names) none e = (name_tidy cost x, params_tidy cost zero names none e)
params_tidy cost zero (x ∷ names) (more a ts) e = (default_tidy cost x (printed a) e.0, params_tidy cost zero names ts e.1)

pub params_run : (cost : ℕ) (names : List (List ℕ)) (ts : Trees) → EachTidy cost ts → IsRun cost free (params_of names (members ts))
params_run cost names ts e = all_commas_run cost (params (length names - length (members ts)) names (members ts)) (params_tidy cost (length names - length (members ts)) names ts e)

lambda_rest : (cost : ℕ) (ps qs : List Piece) → IsRun cost free ps → IsRun cost free qs → IsRun cost word (after_space ps ++ (mark m.Colon ∷ space ∷ qs))
lambda_rest cost [] qs r q = colon_run cost word qs refl q
lambda_rest cost (p ∷ ps) qs r q =
    space_run cost word (p ∷ ps ++ (mark m.Colon ∷ space ∷ qs)) (run_on cost free (p ∷ ps) (mark m.Colon ∷ space ∷ qs) r (colon_run cost r.end qs r.ends q))

-- ---- comparisons

operator_turn : (o : BinaryOp) → mark_turn (operator o) ≡ level
operator_turn b.Add = refl
operator_turn b.Sub = refl
operator_turn b.Mul = refl
operator_turn b.FloorDiv = refl
operator_turn b.Mod = refl
operator_turn b.Pow = refl

comparison_run : (cost : ℕ) (o : CompareOp) (ps : List Piece) → IsRun cost free ps → IsRun cost free (comparison o ++ (space ∷ ps))
comparison_run cost c.Less ps r = record { end = r.end; ends = r.ends; runs = r.runs }
comparison_run cost c.Greater ps r = record { end = r.end; ends = r.ends; runs = r.runs }
comparison_run cost c.Equal ps r = record { end = r.end; ends = r.ends; runs = r.runs }
comparison_run cost c.AtLeast ps r = record { end = r.end; ends = r.ends; runs = r.runs }
comparison_run cost c.AtMost ps r = record { end = r.end; ends = r.ends; runs = r.runs }
comparison_run cost c.NotEqual ps r = record { end = r.end; ends = r.ends; runs = r.runs }
comparison_run cost c.In ps r = record { end = r.end; ends = r.ends; runs = r.runs }
comparison_run cost c.NotIn ps r = record { end = r.end; ends = r.ends; runs = r.runs }
comparison_run cost c.Is ps r = record { end = r.end; ends = r.ends; runs = r.runs }
comparison_run cost c.IsNot ps r = record { end = r.end; ends = r.ends; runs = r.runs }

abbrev EachOperandTidy : ℕ → Trees → Type 0
EachOperandTidy cost none = Unit {0}
EachOperandTidy cost (more a ts) = IsTidy cost (at Sum a (printed a)) × EachOperandTidy cost ts

compared_run : (cost : ℕ) (ts : Trees) (ops : List CompareOp) (k : Class) → is_end k ≡ true → EachOperandTidy cost ts → IsRun cost k (compared_on ops (operands ts))
compared_run cost ts [] k h e = nothing_run cost k h
compared_run cost none (o ∷ ops) k h e = nothing_run cost k h
compared_run cost (more a ts) (o ∷ ops) k h e =
    let p = at Sum a (printed a) in
    let rest = compared_on ops (operands ts) in
    space_run cost k (comparison o ++ (space ∷ p ++ rest))
    (comparison_run cost o (p ++ rest) (run_on cost free p rest (tidy_run free refl e.0) (compared_run cost ts ops e.0.end e.0.ends e.1)))

compare_tidy : (cost : ℕ) (ts : Trees) (ops : List CompareOp) → 0 < count ts → EachOperandTidy cost ts → IsTidy cost (compared ops (operands ts))
compare_tidy cost none ops h e = absurd (omega arith)
compare_tidy cost (more a ts) ops h e = tidy_on cost (at Sum a (printed a)) (compared_on ops (operands ts)) e.0 (compared_run cost ts ops e.0.end e.0.ends e.1)

-- ---- parts at places

-- tidy wherever so many brackets may be opened as two for each level, the first left out
abbrev pub IsTidyForm : Tree → Type 0
IsTidyForm a = (cost : ℕ) → 2 * depth a ≤ cost + 1 → IsTidy cost (printed a)

form_parens : (a : Tree) → IsTidyForm a → (cost : ℕ) → 2 * depth a ≤ cost → IsTidy cost (in_parens (printed a))
form_parens a f cost h =
    let d = depth_some a in
    weaker (2 * depth a - 1 + 1) cost (in_parens (printed a)) (omega arith) (parens_tidy (2 * depth a - 1) (printed a) (tidy_run free refl (f (2 * depth a - 1) (omega arith))))

at_if : (a : Tree) (v : Bool) → IsTidyForm a → (cost : ℕ) → 2 * depth a ≤ cost → IsTidy cost (if v then printed a else in_parens (printed a))
at_if a true f cost h = f cost (omega arith)
at_if a false f cost h = form_parens a f cost h

at_tidy : (l : Level) (a : Tree) → IsTidyForm a → (cost : ℕ) → 2 * depth a ≤ cost → IsTidy cost (at l a (printed a))
at_tidy l a f cost h = at_if a (nat_le (rank (level_of a)) (rank l)) f cost h

-- a class behind which `.` may stand
abbrev takes_dot : Class → Bool
takes_dot free = true
takes_dot word = true
takes_dot _ = false

-- pieces behind which `.` may stand
record IsDotted (cost : ℕ) (ps : List Piece) : Type 0 where
  tidy : IsTidy cost ps
  dotted : takes_dot tidy.end ≡ true

fits_dot : (k : Class) → takes_dot k ≡ true → fits k (The m.Dot) ≡ true
fits_dot free h = refl
fits_dot word h = refl
fits_dot unary h = cc
fits_dot point h = cc
fits_dot digits h = cc
fits_dot gap h = cc

attr_tidy : (cost : ℕ) (ps : List Piece) (x : List ℕ) → IsDotted cost ps → IsTidy cost (ps ++ (mark m.Dot ∷ name x ∷ []))
attr_tidy cost ps x d =
    tidy_on cost ps (mark m.Dot ∷ name x ∷ []) d.tidy
    (sign_run cost d.tidy.end (The m.Dot) (name x ∷ []) (fits_dot d.tidy.end d.dotted) refl (sign_run cost point (Name x) [] refl refl (nothing_run cost word refl)))

dotted_parens : (a : Tree) → IsTidyForm a → (cost : ℕ) → 2 * depth a ≤ cost → IsDotted cost (in_parens (printed a))
dotted_parens a f cost h =
    let d = depth_some a in
    let r : IsRun (2 * depth a - 1) free (printed a) = tidy_run free refl (f (2 * depth a - 1) (omega arith)) in
    record { tidy = weaker (2 * depth a - 1 + 1) cost (in_parens (printed a)) (omega arith) (parens_tidy (2 * depth a - 1) (printed a) r); dotted = refl }

-- a name, a literal or another form of the tightest levels, at a place before `.`
abbrev DotsItself : Tree → Type 0
DotsItself a = (cost : ℕ) → 2 * depth a ≤ cost + 1 → is_number a ≡ false → rank (level_of a) ≤ 1 → IsDotted cost (printed a)

dotted_if : (a : Tree) (v : Bool) → nat_le (rank (level_of a)) 1 ≡ v → IsTidyForm a → DotsItself a → is_number a ≡ false → (cost : ℕ) → 2 * depth a ≤ cost
    → IsDotted cost (if v then printed a else in_parens (printed a))
dotted_if a true e f g n cost h = g cost (omega arith) n (leb-true (rank (level_of a)) 1 e)
dotted_if a false e f g n cost h = dotted_parens a f cost h

dotted_by : (a : Tree) (v : Bool) → is_number a ≡ v → IsTidyForm a → DotsItself a → (cost : ℕ) → 2 * depth a ≤ cost
    → IsDotted cost (if v then in_parens (printed a) else at Primary a (printed a))
dotted_by a true e f g cost h = dotted_parens a f cost h
dotted_by a false e f g cost h = dotted_if a (nat_le (rank (level_of a)) 1) refl f g e cost h

before_dot_dotted : (a : Tree) → IsTidyForm a → DotsItself a → (cost : ℕ) → 2 * depth a ≤ cost → IsDotted cost (before_dot a (printed a))
before_dot_dotted a f g cost h = dotted_by a (is_number a) refl f g cost h

-- ---- forms

one_sign : (cost : ℕ) (k : Mark) → fits unary (The k) ≡ true → mark_turn k ≡ level → mark_class k ≡ word → IsDotted cost (mark k ∷ [])
one_sign cost k f t e = record {
  tidy = record {
    end = word;
    ends = refl;
    runs = λ j h most n u. level_step most j n (The k) [] (fits_start j (The k) h f) t ∙ ap (λ z. Some (z, n)) e;
  };
  dotted = refl;
}

truth_dotted : (cost : ℕ) (v : Bool) → IsDotted cost (mark (truth_mark v) ∷ [])
truth_dotted cost true = one_sign cost m.True refl refl refl
truth_dotted cost false = one_sign cost m.False refl refl refl

sign_mark_run : (cost : ℕ) (o : SignOp) (ps : List Piece) → IsTidy cost ps → IsTidy cost (mark (sign_mark o) ∷ ps)
sign_mark_run cost p.Plus ps r = sign_tidy cost (The m.Plus) ps refl refl (tidy_run unary refl r)
sign_mark_run cost p.Minus ps r = sign_tidy cost (The m.Minus) ps refl refl (tidy_run unary refl r)

choice_tidy : (cost : ℕ) (ps qs rs : List Piece) → IsTidy cost ps → IsTidy cost qs → IsTidy cost rs → IsTidy cost (between m.If ps (between m.Else qs rs))
choice_tidy cost ps qs rs a b d = between_tidy cost m.If ps (between m.Else qs rs) refl a (between_tidy cost m.Else qs rs refl b d)

cost_fits : (d cost : ℕ) → 2 * (1 + d) ≤ cost + 1 → 2 * d + 1 ≤ cost
cost_fits d cost h = omega arith

item_dotted : (cost : ℕ) (ps qs : List Piece) → IsTidy (cost + 1) ps → IsTidy cost qs → IsDotted (cost + 1) (ps ++ in_squares qs)
item_dotted cost ps qs a b = let r = squares_behind cost a.end qs a.ends (tidy_run free refl b) in record { tidy = tidy_on (cost + 1) ps (in_squares qs) a r; dotted = refl }

call_dotted : (cost : ℕ) (ps qs : List Piece) → IsTidy (cost + 1) ps → IsRun cost free qs → IsDotted (cost + 1) (ps ++ in_parens qs)
call_dotted cost ps qs a b = let r = parens_behind cost a.end qs a.ends b in record { tidy = tidy_on (cost + 1) ps (in_parens qs) a r; dotted = refl }

operation_loose : (o : BinaryOp) → rank (operation_level o) ≤ 1 → ⊥
operation_loose b.Add h = omega arith
operation_loose b.Sub h = omega arith
operation_loose b.Mul h = omega arith
operation_loose b.FloorDiv h = omega arith
operation_loose b.Mod h = omega arith
operation_loose b.Pow h = omega arith

weaker_dotted : (c d : ℕ) (ps : List Piece) → c ≤ d → IsDotted c ps → IsDotted d ps
weaker_dotted c d ps l t = record { tidy = weaker c d ps l t.tidy; dotted = t.dotted }

attr_dotted : (cost : ℕ) (ps : List Piece) (x : List ℕ) → IsDotted cost ps → IsDotted cost (ps ++ (mark m.Dot ∷ name x ∷ []))
attr_dotted cost ps x d = record {
  tidy = record { end = word; ends = refl; runs = λ k h most n u. run_append most k n ps (mark m.Dot ∷ name x ∷ []) d.tidy.end n (d.tidy.runs k h most n u) ∙ level_step most d.tidy.end n (The m.Dot) (name x ∷ []) (fits_dot d.tidy.end d.dotted) refl };
  dotted = refl;
}

tuple_dotted : (cost : ℕ) (ts : Trees) → EachTidy (2 * deepest ts) ts → 2 * (1 + deepest ts) ≤ cost + 1 → IsDotted cost (printed (t.tuple ts))
tuple_dotted cost ts e l =
    weaker_dotted (2 * deepest ts + 1) cost (printed (t.tuple ts)) (cost_fits (deepest ts) cost l)
    (record { tidy = parens_tidy (2 * deepest ts) (commas (members ts) ++ one_comma (members ts)) (tuple_run (2 * deepest ts) ts e); dotted = refl })

list_dotted : (cost : ℕ) (ts : Trees) → EachTidy (2 * deepest ts) ts → 2 * (1 + deepest ts) ≤ cost + 1 → IsDotted cost (printed (t.list ts))
list_dotted cost ts e l =
    weaker_dotted (2 * deepest ts + 1) cost (printed (t.list ts)) (cost_fits (deepest ts) cost l)
    (record { tidy = squares_tidy (2 * deepest ts) (commas (members ts)) (commas_run (2 * deepest ts) ts e); dotted = refl })

dict_dotted : (cost : ℕ) (ts : Trees) → EachTidy (2 * deepest ts) ts → 2 * (1 + deepest ts) ≤ cost + 1 → IsDotted cost (printed (t.dict ts))
dict_dotted cost ts e l =
    weaker_dotted (2 * deepest ts + 1) cost (printed (t.dict ts)) (cost_fits (deepest ts) cost l)
    (record { tidy = curly_tidy (2 * deepest ts) (pairs (members ts)) (pairs_run (2 * deepest ts) ts e); dotted = refl })

item_of : (cost : ℕ) (a i : Tree) → ((cost : ℕ) → 2 * depth a ≤ cost → IsTidy cost (at Primary a (printed a))) → IsTidyForm i → 2 * depth (t.item a i) ≤ cost + 1
    → IsDotted cost (printed (t.item a i))
item_of cost a i f g l =
    let d = max (depth a) (depth i) in
    weaker_dotted (2 * d + 1) cost (printed (t.item a i)) (cost_fits d cost l) (item_dotted (2 * d) (at Primary a (printed a)) (printed i) (f (2 * d + 1) (omega arith)) (g (2 * d) (omega arith)))

call_of : (cost : ℕ) (a : Tree) (ts : Trees) → ((cost : ℕ) → 2 * depth a ≤ cost → IsTidy cost (at Primary a (printed a))) → ((cost : ℕ) → 2 * deepest ts ≤ cost + 1 → EachTidy cost ts)
    → 2 * depth (t.call a ts) ≤ cost + 1 → IsDotted cost (printed (t.call a ts))
call_of cost a ts f g l =
    let d = max (depth a) (deepest ts) in
    weaker_dotted (2 * d + 1) cost (printed (t.call a ts)) (cost_fits d cost l)
    (call_dotted (2 * d) (at Primary a (printed a)) (commas (members ts)) (f (2 * d + 1) (omega arith)) (commas_run (2 * d) ts (g (2 * d) (omega arith))))

mutual
  pub form_tidy : (a : Tree) → IsForm a → IsTidyForm a
  form_tidy (t.name x) h cost l = name_tidy cost x
  form_tidy (t.number n) h cost l = sign_tidy cost (Number n) [] refl refl (nothing_run cost digits refl)
  form_tidy (t.text x) h cost l = sign_tidy cost (Text x) [] refl refl (nothing_run cost word refl)
  form_tidy t.nil h cost l = (one_sign cost m.None refl refl refl).tidy
  form_tidy (t.truth v) h cost l = (truth_dotted cost v).tidy
  form_tidy (t.tuple ts) h cost l = (tuple_dotted cost ts (each_tidy ts h (2 * deepest ts) (omega arith)) l).tidy
  form_tidy (t.list ts) h cost l = (list_dotted cost ts (each_tidy ts h (2 * deepest ts) (omega arith)) l).tidy
  form_tidy (t.dict ts) h cost l = (dict_dotted cost ts (each_tidy ts h.0 (2 * deepest ts) (omega arith)) l).tidy
  form_tidy (t.lambda names defaults a) h cost l =
      sign_tidy cost (The m.Lambda) (after_space (params_of names (members defaults)) ++ (mark m.Colon ∷ space ∷ printed a)) refl refl
      (lambda_rest cost (params_of names (members defaults)) (printed a) (params_run cost names defaults (each_tidy defaults h.1 cost (omega arith)))
      (tidy_run free refl (form_tidy a h.2 cost (omega arith))))
  form_tidy (t.choice a test other) h cost l =
      choice_tidy cost (at Or a (printed a)) (at Or test (printed test)) (printed other) (at_tidy Or a (form_tidy a h.0) cost (omega arith))
      (at_tidy Or test (form_tidy test h.1) cost (omega arith)) (form_tidy other h.2 cost (omega arith))
  form_tidy (t.and l r) h cost u =
      between_tidy cost m.And (at And l (printed l)) (at Not r (printed r)) refl (at_tidy And l (form_tidy l h.0) cost (omega arith)) (at_tidy Not r (form_tidy r h.1) cost (omega arith))
  form_tidy (t.or l r) h cost u =
      between_tidy cost m.Or (at Or l (printed l)) (at And r (printed r)) refl (at_tidy Or l (form_tidy l h.0) cost (omega arith)) (at_tidy And r (form_tidy r h.1) cost (omega arith))
  form_tidy (t.not a) h cost l =
      sign_tidy cost (The m.Not) (space ∷ at Not a (printed a)) refl refl
      (space_run cost word (at Not a (printed a)) (tidy_run free refl (at_tidy Not a (form_tidy a h) cost (omega arith))))
  form_tidy (t.compare ops ts) h cost l = compare_tidy cost ts ops (let e = h.2 in omega arith) (operands_tidy ts h.0 cost (omega arith))
  form_tidy (t.binary l o r) h cost u =
      between_tidy cost (operator o) (at (left_place o) l (printed l)) (at (right_place o) r (printed r)) (operator_turn o) (at_tidy (left_place o) l (form_tidy l h.0) cost (omega arith))
      (at_tidy (right_place o) r (form_tidy r h.1) cost (omega arith))
  form_tidy (t.sign o a) h cost l = sign_mark_run cost o (at Factor a (printed a)) (at_tidy Factor a (form_tidy a h) cost (omega arith))
  form_tidy (t.attr a x) h cost l =
      attr_tidy cost (before_dot a (printed a)) x (before_dot_dotted a (form_tidy a h) (form_dotted a h) cost (omega arith))
  form_tidy (t.item a i) h cost l =
      (item_of cost a i (at_tidy Primary a (form_tidy a h.0)) (form_tidy i h.1) l).tidy
  form_tidy (t.call f ts) h cost l =
      (call_of cost f ts (at_tidy Primary f (form_tidy f h.0)) (λ c u. each_tidy ts h.1 c u) l).tidy

  form_dotted : (a : Tree) → IsForm a → DotsItself a
  form_dotted (t.name x) h cost l n k = record { tidy = record { end = word; ends = refl; runs = (name_tidy cost x).runs }; dotted = refl }
  form_dotted (t.number n) h cost l e k = cc
  form_dotted (t.text x) h cost l n k = record { tidy = sign_tidy cost (Text x) [] refl refl (nothing_run cost word refl); dotted = refl }
  form_dotted t.nil h cost l n k = one_sign cost m.None refl refl refl
  form_dotted (t.truth v) h cost l n k = truth_dotted cost v
  form_dotted (t.tuple ts) h cost l n k = tuple_dotted cost ts (each_tidy ts h (2 * deepest ts) (omega arith)) l
  form_dotted (t.list ts) h cost l n k = list_dotted cost ts (each_tidy ts h (2 * deepest ts) (omega arith)) l
  form_dotted (t.dict ts) h cost l n k = dict_dotted cost ts (each_tidy ts h.0 (2 * deepest ts) (omega arith)) l
  form_dotted (t.attr a x) h cost l n k = attr_dotted cost (before_dot a (printed a)) x (before_dot_dotted a (form_tidy a h) (form_dotted a h) cost (omega arith))
  form_dotted (t.item a i) h cost l n k = item_of cost a i (at_tidy Primary a (form_tidy a h.0)) (form_tidy i h.1) l
  form_dotted (t.call f ts) h cost l n k = call_of cost f ts (at_tidy Primary f (form_tidy f h.0)) (λ c u. each_tidy ts h.1 c u) l
  form_dotted (t.lambda names defaults a) h cost l n k = absurd (omega arith)
  form_dotted (t.choice a test other) h cost l n k = absurd (omega arith)
  form_dotted (t.and a b) h cost l n k = absurd (omega arith)
  form_dotted (t.or a b) h cost l n k = absurd (omega arith)
  form_dotted (t.not a) h cost l n k = absurd (omega arith)
  form_dotted (t.compare ops ts) h cost l n k = absurd (omega arith)
  form_dotted (t.binary a o b) h cost l n k = absurd (operation_loose o k)
  form_dotted (t.sign o a) h cost l n k = absurd (omega arith)

  pub each_tidy : (ts : Trees) → AreForms ts → (cost : ℕ) → 2 * deepest ts ≤ cost + 1 → EachTidy cost ts
  each_tidy none h cost l = tt
  each_tidy (more a ts) h cost l = (form_tidy a h.0 cost (omega arith), each_tidy ts h.1 cost (omega arith))

  operands_tidy : (ts : Trees) → AreForms ts → (cost : ℕ) → 2 * deepest ts ≤ cost → EachOperandTidy cost ts
  operands_tidy none h cost l = tt
  operands_tidy (more a ts) h cost l = (at_tidy Sum a (form_tidy a h.0) cost (omega arith), operands_tidy ts h.1 cost (omega arith))
