-- The pieces of each printed line may stand side by side, and at most 200 brackets are open.
use Rattle.std.proofs.Common.{◌≡◌, ℕ, ◌+◌, ◌*◌, ◌≤◌, ◌<◌, List, [], ◌∷◌, ◌++◌, map, true, Option, Some, None, refl, sym, ◌∙◌, subst, arith, append_assoc}
use Rattle.py_ast.specs.Tree as t
use Rattle.py_ast.specs.Tree.{Tree, Trees, none, more, deepest}
use Rattle.py_ast.specs.Statement as s
use Rattle.py_ast.specs.Statement.{Statement}
use Rattle.py_ast.specs.Lawful.{AreForms, IsWhole, AreWhole, Place, IsStatement}
use Rattle.py_ast.specs.declared.expr.BinaryOp.{BinaryOp}
use Rattle.py_ast.specs.declared.expr.BinaryOp.TheVariants as b
use Rattle.py_grammar.specs.Line as l
use Rattle.py_grammar.specs.Line.{Header, line_depth}
use Rattle.py_grammar.specs.declared.mark.Mark.{Mark}
use Rattle.py_grammar.specs.declared.mark.Mark.TheVariants as m
use Rattle.py_grammar.specs.declared.sign.Sign.TheVariants.{Mark as The}
use Rattle.py_grammar.proofs.LawfulBlocks.{IsHeader}
use Rattle.py_print.specs.Pieces.{Piece, space, mark, name, between}
use Rattle.py_print.specs.Expressions.{params_of, printed, members}
use Rattle.py_print.specs.Lines as lines
use Rattle.py_print.specs.Lines.{lefts, augmented, names, name_alone, as_name}
use Rattle.py_print.specs.Printed.{Row, simple, header, pieces, line}
use Rattle.py_print.proofs.Classes.{Class, free, unary, word, class_of}
use Rattle.py_print.proofs.Runs.{level, mark_turn, run, is_end, step, run_append, fits_end}
use Rattle.py_print.proofs.Runs.{IsRun, IsTidy, tidy_run, run_weaker, nothing_run, tidy_on, sign_run, space_run, between_run, between_tidy, parens_behind}
use Rattle.py_print.proofs.TidyForms.{EachTidy, AllTidy, name_tidy, all_commas_run, params_run, form_tidy, each_tidy}
use Rattle.py_print.proofs.LineLaws.{IsPlain}
use Rattle.py_print.proofs.Rows.{IsRow}

-- ---- whole expressions

whole_tidy : (a : Tree) → IsWhole a → IsTidy 150 (printed a)
whole_tidy a h = let d = h.1 in form_tidy a h.0 150 (omega arith)

forms_of : (ts : Trees) → AreWhole ts → AreForms ts
forms_of none h = tt
forms_of (more a ts) h = (h.0.0, forms_of ts h.1)

deepest_of : (ts : Trees) → AreWhole ts → deepest ts ≤ 60
deepest_of none h = omega arith
deepest_of (more a ts) h = let d = h.0.1 in let e = deepest_of ts h.1 in omega arith

whole_each : (ts : Trees) → AreWhole ts → EachTidy 150 ts
whole_each ts h = let d = deepest_of ts h in each_tidy ts (forms_of ts h) 150 (omega arith)

-- ---- lists

lefts_run : (ts : Trees) (qs : List Piece) → EachTidy 150 ts → IsTidy 150 qs → IsTidy 150 (lefts (members ts) ++ qs)
lefts_run none qs e q = q
lefts_run (more a ts) qs e q =
    subst (IsTidy 150) (sym (append_assoc (printed a) (space ∷ mark m.Equals ∷ space ∷ lefts (members ts)) qs))
    (between_tidy 150 m.Equals (printed a) (lefts (members ts) ++ qs) refl e.0 (lefts_run ts qs e.1 q))

names_tidy : (xs : List (List ℕ)) → AllTidy 150 (map name_alone xs)
names_tidy [] = tt
names_tidy (x ∷ xs) = (name_tidy 150 x, names_tidy xs)

augmented_turn : (o : BinaryOp) → mark_turn (augmented o) ≡ level
augmented_turn b.Add = refl
augmented_turn b.Sub = refl
augmented_turn b.Mul = refl
augmented_turn b.FloorDiv = refl
augmented_turn b.Mod = refl
augmented_turn b.Pow = refl

-- ---- lines

-- the class of the last piece of a line
pub record RunsWhole (ps : List Piece) : Type 0 where
  pub last : Class
  pub whole : run 200 free 0 ps ≡ Some (last, 0)

of_run : (cost : ℕ) (ps : List Piece) → cost ≤ 200 → IsRun cost free ps → RunsWhole ps
of_run cost ps l r = record { last = r.end; whole = r.runs 200 0 (omega arith) }

of_tidy : (ps : List Piece) → IsTidy 150 ps → RunsWhole ps
of_tidy ps p = of_run 150 ps (omega arith) (tidy_run free refl p)

keyword_tidy : (k : Mark) (ps : List Piece) → mark_turn k ≡ level → IsTidy 150 ps → IsRun 150 free (mark k ∷ space ∷ ps)
keyword_tidy k ps e p = sign_run 150 free (The k) (space ∷ ps) refl e (space_run 150 (class_of (The k)) ps (tidy_run free refl p))

keyword_run : (k : Mark) (ps : List Piece) → mark_turn k ≡ level → IsRun 150 free ps → IsRun 150 free (mark k ∷ space ∷ ps)
keyword_run k ps e p = sign_run 150 free (The k) (space ∷ ps) refl e (space_run 150 (class_of (The k)) ps p)

comma_run : (k : Class) (ps : List Piece) → is_end k ≡ true → IsTidy 150 ps → IsRun 150 k (mark m.Comma ∷ space ∷ ps)
comma_run k ps h p = sign_run 150 k (The m.Comma) (space ∷ ps) (fits_end k m.Comma h refl) refl (space_run 150 free ps (tidy_run free refl p))

simple_runs : (p : Place) (x : Statement) → IsStatement p x → IsPlain x → RunsWhole (lines.simple x)
simple_runs p (s.expression a) h k = of_tidy (printed a) (whole_tidy a h)
simple_runs p (s.assign none a) h k = absurd h
simple_runs p (s.assign (more target targets) a) h k =
    of_tidy (lefts (members (more target targets)) ++ printed a) (lefts_run (more target targets) (printed a) (whole_each (more target targets) h.2) (whole_tidy a h.3))
simple_runs p (s.augment place o a) h k =
    of_tidy (between (augmented o) (printed place) (printed a)) (between_tidy 150 (augmented o) (printed place) (printed a) (augmented_turn o) (whole_tidy place h.1) (whole_tidy a h.2))
simple_runs p s.pass h k = record { last = word; whole = refl }
simple_runs p s.break h k = record { last = word; whole = refl }
simple_runs p s.continue h k = record { last = word; whole = refl }
simple_runs p (s.return None) h k = record { last = word; whole = refl }
simple_runs p (s.return (Some a)) h k = of_run 150 (mark m.Return ∷ space ∷ printed a) (omega arith) (keyword_tidy m.Return (printed a) refl (whole_tidy a h.1))
simple_runs p (s.raise None) h k = record { last = word; whole = refl }
simple_runs p (s.raise (Some a)) h k = of_run 150 (mark m.Raise ∷ space ∷ printed a) (omega arith) (keyword_tidy m.Raise (printed a) refl (whole_tidy a h))
simple_runs p (s.global xs) h k =
    of_run 150 (mark m.Global ∷ space ∷ names xs) (omega arith) (keyword_run m.Global (names xs) refl (all_commas_run 150 (map name_alone xs) (names_tidy xs)))
simple_runs p (s.nonlocal xs) h k =
    of_run 150 (mark m.Nonlocal ∷ space ∷ names xs) (omega arith) (keyword_run m.Nonlocal (names xs) refl (all_commas_run 150 (map name_alone xs) (names_tidy xs)))
simple_runs p (s.delete target) h k = of_run 150 (mark m.Del ∷ space ∷ printed target) (omega arith) (keyword_tidy m.Del (printed target) refl (whole_tidy target h.1))
simple_runs p (s.assert a None) h k = of_run 150 (mark m.Assert ∷ space ∷ printed a) (omega arith) (keyword_tidy m.Assert (printed a) refl (whole_tidy a h.0))
simple_runs p (s.assert a (Some message)) h k =
    let q = whole_tidy a h.0 in
    of_run 150 (mark m.Assert ∷ space ∷ printed a ++ (mark m.Comma ∷ space ∷ printed message)) (omega arith)
    (keyword_tidy m.Assert (printed a ++ (mark m.Comma ∷ space ∷ printed message)) refl
    (tidy_on 150 (printed a) (mark m.Comma ∷ space ∷ printed message) q (comma_run q.end (printed message) q.ends (whole_tidy message h.1))))
simple_runs p _ h k = absurd k

as_run : (k : Class) (x : Option (List ℕ)) → is_end k ≡ true → IsRun 150 k (as_name x)
as_run k None h = nothing_run 150 k h
as_run k (Some x) h = between_run 150 k m.As (name x ∷ []) refl (name_tidy 150 x)

header_runs : (h : Header) → IsHeader h → IsRun 151 free (lines.header h)
unfolding IsHeader
header_runs (l.if a) h = run_weaker 150 151 free (mark m.If ∷ space ∷ printed a) (omega arith) (keyword_tidy m.If (printed a) refl (whole_tidy a h))
header_runs (l.elif a) h = run_weaker 150 151 free (mark m.Elif ∷ space ∷ printed a) (omega arith) (keyword_tidy m.Elif (printed a) refl (whole_tidy a h))
header_runs l.else h = record { end = word; ends = refl; runs = λ most n u. refl }
header_runs (l.while a) h = run_weaker 150 151 free (mark m.While ∷ space ∷ printed a) (omega arith) (keyword_tidy m.While (printed a) refl (whole_tidy a h))
header_runs (l.for target a) h =
    run_weaker 150 151 free (mark m.For ∷ space ∷ between m.In (printed target) (printed a)) (omega arith)
    (keyword_tidy m.For (between m.In (printed target) (printed a)) refl (between_tidy 150 m.In (printed target) (printed a) refl (whole_tidy target h.1) (whole_tidy a h.2)))
header_runs l.try h = record { end = word; ends = refl; runs = λ most n u. refl }
header_runs l.finally h = record { end = word; ends = refl; runs = λ most n u. refl }
header_runs (l.except None x) h = record { end = word; ends = refl; runs = λ most n u. refl }
header_runs (l.except (Some a) x) h =
    let q = whole_tidy a h in
    run_weaker 150 151 free (mark m.Except ∷ space ∷ printed a ++ as_name x) (omega arith)
    (keyword_tidy m.Except (printed a ++ as_name x) refl (tidy_on 150 (printed a) (as_name x) q (as_run q.end x q.ends)))
header_runs (l.define x xs defaults) h =
    let r = parens_behind 150 word (params_of xs (members defaults)) refl (params_run 150 xs defaults (whole_each defaults h.1)) in
    record { end = r.end; ends = r.ends; runs = r.runs }
header_runs (l.class x None) h = record { end = word; ends = refl; runs = λ most n u. refl }
header_runs (l.class x (Some a)) h =
    let r = parens_behind 150 word (printed a) refl (tidy_run free refl (whole_tidy a h)) in
    record { end = r.end; ends = r.ends; runs = r.runs }

colon_behind : (ps : List Piece) (r : IsRun 151 free ps) → RunsWhole (ps ++ mark m.Colon ∷ [])
colon_behind ps r = record {
  last = unary;
  whole = run_append 200 free 0 ps (mark m.Colon ∷ []) r.end 0 (r.runs 200 0 (omega arith)) ∙ step 200 r.end 0 (The m.Colon) [] (fits_end r.end m.Colon r.ends refl) refl;
}

pub row_runs : (r : Row) → IsRow r → RunsWhole (pieces r)
row_runs (simple x) h = simple_runs h.0 x h.1 h.2
row_runs (header k) h = colon_behind (lines.header k) (header_runs k h)

-- ---- the depth of a line

simple_depth_small : (p : Place) (x : Statement) → IsStatement p x → IsPlain x → l.simple_depth x ≤ 60
simple_depth_small p (s.expression a) h k = h.1
simple_depth_small p (s.assign none a) h k = absurd h
simple_depth_small p (s.assign (more target targets) a) h k = let d = deepest_of (more target targets) h.2 in let e = h.3.1 in omega arith
simple_depth_small p (s.augment place o a) h k = let d = h.1.1 in let e = h.2.1 in omega arith
simple_depth_small p s.pass h k = omega arith
simple_depth_small p s.break h k = omega arith
simple_depth_small p s.continue h k = omega arith
simple_depth_small p (s.return None) h k = omega arith
simple_depth_small p (s.return (Some a)) h k = h.1.1
simple_depth_small p (s.raise None) h k = omega arith
simple_depth_small p (s.raise (Some a)) h k = h.1
simple_depth_small p (s.global xs) h k = omega arith
simple_depth_small p (s.nonlocal xs) h k = omega arith
simple_depth_small p (s.delete target) h k = h.1.1
simple_depth_small p (s.assert a None) h k = let d = h.0.1 in omega arith
simple_depth_small p (s.assert a (Some message)) h k = let d = h.0.1 in let e = h.1.1 in omega arith
simple_depth_small p _ h k = absurd k

header_depth_small : (h : Header) → IsHeader h → l.header_depth h ≤ 60
unfolding IsHeader
header_depth_small (l.if a) h = h.1
header_depth_small (l.elif a) h = h.1
header_depth_small l.else h = omega arith
header_depth_small (l.while a) h = h.1
header_depth_small (l.for target a) h = let d = h.1.1 in let e = h.2.1 in omega arith
header_depth_small l.try h = omega arith
header_depth_small l.finally h = omega arith
header_depth_small (l.except None x) h = omega arith
header_depth_small (l.except (Some a) x) h = h.1
header_depth_small (l.define x xs defaults) h = deepest_of defaults h.1
header_depth_small (l.class x None) h = omega arith
header_depth_small (l.class x (Some a)) h = h.1

pub row_depth : (r : Row) → IsRow r → line_depth (line r) ≤ 60
row_depth (simple x) h = let d = simple_depth_small h.0 x h.1 h.2 in omega arith
row_depth (header k) h = let d = header_depth_small k h in omega arith
