-- Pieces that stand side by side: each may follow the one before it, and so many brackets are open at most.
use Rattle.std.proofs.Common.{◌≡◌, ℕ, zero, suc, ◌+◌, ◌*◌, ◌-◌, ◌≤◌, ◌<◌, List, [], ◌∷◌, ◌++◌, Bool, true, false, ◌&&◌, ◌||◌, nat_lt, if◌then◌else◌, Option, Some, None, refl, ap, ◌∙◌, arith}
use Rattle.std.proofs.lemmas.Bool.{and_from, lt-ltb}
use Rattle.py_grammar.specs.Reading.{mark_begins}
use Rattle.py_grammar.specs.declared.mark.Mark.{Mark}
use Rattle.py_grammar.specs.declared.mark.Mark.TheVariants as m
use Rattle.py_grammar.specs.declared.sign.Sign.{Sign}
use Rattle.py_grammar.specs.declared.sign.Sign.TheVariants.{Name, Number, Text, Mark as The, Other}
use Rattle.py_print.specs.Pieces.{Piece, sign, space, mark, in_parens, in_squares, in_curly, between}
use Rattle.py_print.proofs.Classes.{Class, free, unary, point, word, digits, gap, class_of, mark_class}

-- ---- what may follow

-- what stands directly behind a whole expression, `.` left out
abbrev pub is_closer : Mark → Bool
is_closer m.Open = true
is_closer m.Close = true
is_closer m.OpenSquare = true
is_closer m.CloseSquare = true
is_closer m.CloseCurly = true
is_closer m.Comma = true
is_closer m.Colon = true
is_closer m.Equals = true
is_closer _ = false

abbrev pub is_dot : Mark → Bool
is_dot m.Dot = true
is_dot _ = false

abbrev pub fits : Class → Sign → Bool
fits free (Name x) = true
fits free (Number n) = true
fits free (Text x) = true
fits free (The k) = true
fits free Other = false
fits unary (Name x) = true
fits unary (Number n) = true
fits unary (Text x) = true
fits unary (The k) = mark_begins k
fits unary Other = false
fits point (Name x) = true
fits point _ = false
fits word (The k) = is_closer k || is_dot k
fits word _ = false
fits digits (The k) = is_closer k
fits digits _ = false
fits gap s = false

-- ---- brackets

pub data Turn : Type 0 where
  up : Turn
  down : Turn
  level : Turn

abbrev pub mark_turn : Mark → Turn
mark_turn m.Open = up
mark_turn m.OpenSquare = up
mark_turn m.OpenCurly = up
mark_turn m.Close = down
mark_turn m.CloseSquare = down
mark_turn m.CloseCurly = down
mark_turn _ = level

abbrev pub turn_of : Sign → Turn
turn_of (The k) = mark_turn k
turn_of (Name x) = level
turn_of (Number n) = level
turn_of (Text x) = level
turn_of Other = level

abbrev pub may_turn : ℕ → ℕ → Turn → Bool
may_turn most n up = nat_lt n most
may_turn most n down = true
may_turn most n level = true

abbrev pub less : ℕ → ℕ
less zero = zero
less (suc n) = n

abbrev pub turned : ℕ → Turn → ℕ
turned n up = suc n
turned n down = less n
turned n level = n

-- ---- runs

-- the class of the last piece and how many brackets are open, if each piece may follow the one before it
abbrev pub run : ℕ → Class → ℕ → List Piece → Option (Class × ℕ)
run most k n [] = Some (k, n)
run most k n (space ∷ ps) = run most free n ps
run most k n (sign s ∷ ps) = if fits k s && may_turn most n (turn_of s) then run most (class_of s) (turned n (turn_of s)) ps else None

-- a class behind which a closing mark, a comma or a colon may stand
abbrev pub is_end : Class → Bool
is_end free = true
is_end word = true
is_end digits = true
is_end unary = false
is_end point = false
is_end gap = false

-- a class behind which an expression may stand
abbrev pub starts : Class → Bool
starts free = true
starts unary = true
starts word = false
starts digits = false
starts point = false
starts gap = false

pub step : (most : ℕ) (k : Class) (n : ℕ) (s : Sign) (ps : List Piece) → fits k s ≡ true → may_turn most n (turn_of s) ≡ true
    → run most k n (sign s ∷ ps) ≡ run most (class_of s) (turned n (turn_of s)) ps
step most k n s ps f t =
    ap (λ z. if z then run most (class_of s) (turned n (turn_of s)) ps else None) (and_from (fits k s) (may_turn most n (turn_of s)) f t)

pub level_step : (most : ℕ) (k : Class) (n : ℕ) (s : Sign) (ps : List Piece) → fits k s ≡ true → turn_of s ≡ level
    → run most k n (sign s ∷ ps) ≡ run most (class_of s) n ps
level_step most k n s ps f t =
    step most k n s ps f (ap (may_turn most n) t) ∙ ap (λ z. run most (class_of s) (turned n z) ps) t

-- what a run goes on to
abbrev goes_on : ℕ → Option (Class × ℕ) → List Piece → Option (Class × ℕ)
goes_on most None qs = None
goes_on most (Some r) qs = run most r.0 r.1 qs

run_by_test : (most : ℕ) (b : Bool) (k : Class) (n : ℕ) (ps qs : List Piece) → run most k n (ps ++ qs) ≡ goes_on most (run most k n ps) qs
    → (if b then run most k n (ps ++ qs) else None) ≡ goes_on most (if b then run most k n ps else None) qs
run_by_test most true k n ps qs h = h
run_by_test most false k n ps qs h = refl

run_goes_on : (most : ℕ) (k : Class) (n : ℕ) (ps qs : List Piece) → run most k n (ps ++ qs) ≡ goes_on most (run most k n ps) qs
run_goes_on most k n [] qs = refl
run_goes_on most k n (space ∷ ps) qs = run_goes_on most free n ps qs
run_goes_on most k n (sign s ∷ ps) qs =
    run_by_test most (fits k s && may_turn most n (turn_of s)) (class_of s) (turned n (turn_of s)) ps qs (run_goes_on most (class_of s) (turned n (turn_of s)) ps qs)

pub run_append : (most : ℕ) (k : Class) (n : ℕ) (ps qs : List Piece) (e : Class) (j : ℕ) → run most k n ps ≡ Some (e, j) → run most k n (ps ++ qs) ≡ run most e j qs
run_append most k n ps qs e j h = run_goes_on most k n ps qs ∙ ap (λ z. goes_on most z qs) h

free_fits : (s : Sign) → fits unary s ≡ true → fits free s ≡ true
free_fits (Name x) f = refl
free_fits (Number n) f = refl
free_fits (Text x) f = refl
free_fits (The k) f = refl
free_fits Other f = f

pub fits_start : (k : Class) (s : Sign) → starts k ≡ true → fits unary s ≡ true → fits k s ≡ true
fits_start free s h f = free_fits s f
fits_start unary s h f = f
fits_start word s h f = cc
fits_start digits s h f = cc
fits_start point s h f = cc
fits_start gap s h f = cc

-- what stands in no form fits nowhere
pub fits_no_other : (k : Class) → fits k Other ≡ false
fits_no_other free = refl
fits_no_other unary = refl
fits_no_other point = refl
fits_no_other word = refl
fits_no_other digits = refl
fits_no_other gap = refl

pub fits_end : (k : Class) (c : Mark) → is_end k ≡ true → is_closer c ≡ true → fits k (The c) ≡ true
fits_end free c h f = refl
fits_end word c h f = ap (λ z. z || is_dot c) f
fits_end digits c h f = f
fits_end unary c h f = cc
fits_end point c h f = cc
fits_end gap c h f = cc

-- Pieces run from a class to an end, and leave as many brackets open, where so many more may be opened.
pub record IsRun (cost : ℕ) (k : Class) (ps : List Piece) : Type 0 where
  pub end : Class
  pub ends : is_end end ≡ true
  pub runs : (most n : ℕ) → n + cost ≤ most → run most k n ps ≡ Some (end, n)

-- the same from each class behind which an expression may stand
pub record IsTidy (cost : ℕ) (ps : List Piece) : Type 0 where
  pub end : Class
  pub ends : is_end end ≡ true
  pub runs : (k : Class) → starts k ≡ true → (most n : ℕ) → n + cost ≤ most → run most k n ps ≡ Some (end, n)

abbrev pub tidy_run : {cost : ℕ} {ps : List Piece} → (k : Class) → starts k ≡ true → IsTidy cost ps → IsRun cost k ps
tidy_run k h t = record { end = t.end; ends = t.ends; runs = t.runs k h }

abbrev pub weaker : (c d : ℕ) (ps : List Piece) → c ≤ d → IsTidy c ps → IsTidy d ps
weaker c d ps l t = record { end = t.end; ends = t.ends; runs = λ k h most n u. t.runs k h most n (omega arith) }

pub run_weaker : (c d : ℕ) (k : Class) (ps : List Piece) → c ≤ d → IsRun c k ps → IsRun d k ps
run_weaker c d k ps l t = record { end = t.end; ends = t.ends; runs = λ most n u. t.runs most n (omega arith) }

abbrev pub nothing_run : (cost : ℕ) (k : Class) → is_end k ≡ true → IsRun cost k []
nothing_run cost k h = record { end = k; ends = h; runs = λ most n u. refl }

pub run_on : (cost : ℕ) (k : Class) (ps qs : List Piece) (p : IsRun cost k ps) → IsRun cost p.end qs → IsRun cost k (ps ++ qs)
run_on cost k ps qs p q = record {
  end = q.end;
  ends = q.ends;
  runs = λ most n u. run_append most k n ps qs p.end n (p.runs most n u) ∙ q.runs most n u;
}

abbrev pub tidy_on : (cost : ℕ) (ps qs : List Piece) (p : IsTidy cost ps) → IsRun cost p.end qs → IsTidy cost (ps ++ qs)
tidy_on cost ps qs p q = record {
  end = q.end;
  ends = q.ends;
  runs = λ k h most n u. run_append most k n ps qs p.end n (p.runs k h most n u) ∙ q.runs most n u;
}

-- a sign that opens no bracket, before pieces
pub sign_run : (cost : ℕ) (k : Class) (s : Sign) (ps : List Piece) → fits k s ≡ true → turn_of s ≡ level → IsRun cost (class_of s) ps → IsRun cost k (sign s ∷ ps)
sign_run cost k s ps f t r = record { end = r.end; ends = r.ends; runs = λ most n u. level_step most k n s ps f t ∙ r.runs most n u }

abbrev pub sign_tidy : (cost : ℕ) (s : Sign) (ps : List Piece) → fits unary s ≡ true → turn_of s ≡ level → IsRun cost (class_of s) ps → IsTidy cost (sign s ∷ ps)
sign_tidy cost s ps f t r = record {
  end = r.end;
  ends = r.ends;
  runs = λ k h most n u. level_step most k n s ps (fits_start k s h f) t ∙ r.runs most n u;
}

pub space_run : (cost : ℕ) (k : Class) (ps : List Piece) → IsRun cost free ps → IsRun cost k (space ∷ ps)
space_run cost k ps r = record { end = r.end; ends = r.ends; runs = r.runs }

-- a mark with a space on each side
pub between_run : (cost : ℕ) (k : Class) (c : Mark) (qs : List Piece) → mark_turn c ≡ level → IsTidy cost qs → IsRun cost k (space ∷ mark c ∷ space ∷ qs)
between_run cost k c qs t q =
    space_run cost k (mark c ∷ space ∷ qs) (sign_run cost free (The c) (space ∷ qs) refl t (space_run cost (mark_class c) qs (tidy_run free refl q)))

pub between_tidy : (cost : ℕ) (c : Mark) (ps qs : List Piece) → mark_turn c ≡ level → IsTidy cost ps → IsTidy cost qs → IsTidy cost (between c ps qs)
between_tidy cost c ps qs t p q = tidy_on cost ps (space ∷ mark c ∷ space ∷ qs) p (between_run cost p.end c qs t q)

-- ---- brackets

pub parens_runs : (cost : ℕ) (k : Class) (ps : List Piece) → fits k (The m.Open) ≡ true → IsRun cost free ps → (most n : ℕ) → n + (cost + 1) ≤ most
    → run most k n (in_parens ps) ≡ Some (free, n)
parens_runs cost k ps f r most n u =
    step most k n (The m.Open) (ps ++ mark m.Close ∷ []) f (lt-ltb n most (omega arith))
    ∙ run_append most free (suc n) ps (mark m.Close ∷ []) r.end (suc n) (r.runs most (suc n) (omega arith))
    ∙ step most r.end (suc n) (The m.Close) [] (fits_end r.end m.Close r.ends refl) refl

pub squares_runs : (cost : ℕ) (k : Class) (ps : List Piece) → fits k (The m.OpenSquare) ≡ true → IsRun cost free ps → (most n : ℕ) → n + (cost + 1) ≤ most
    → run most k n (in_squares ps) ≡ Some (free, n)
squares_runs cost k ps f r most n u =
    step most k n (The m.OpenSquare) (ps ++ mark m.CloseSquare ∷ []) f (lt-ltb n most (omega arith))
    ∙ run_append most free (suc n) ps (mark m.CloseSquare ∷ []) r.end (suc n) (r.runs most (suc n) (omega arith))
    ∙ step most r.end (suc n) (The m.CloseSquare) [] (fits_end r.end m.CloseSquare r.ends refl) refl

pub curly_runs : (cost : ℕ) (k : Class) (ps : List Piece) → fits k (The m.OpenCurly) ≡ true → IsRun cost free ps → (most n : ℕ) → n + (cost + 1) ≤ most
    → run most k n (in_curly ps) ≡ Some (free, n)
curly_runs cost k ps f r most n u =
    step most k n (The m.OpenCurly) (ps ++ mark m.CloseCurly ∷ []) f (lt-ltb n most (omega arith))
    ∙ run_append most free (suc n) ps (mark m.CloseCurly ∷ []) r.end (suc n) (r.runs most (suc n) (omega arith))
    ∙ step most r.end (suc n) (The m.CloseCurly) [] (fits_end r.end m.CloseCurly r.ends refl) refl

abbrev pub parens_tidy : (cost : ℕ) (ps : List Piece) → IsRun cost free ps → IsTidy (cost + 1) (in_parens ps)
parens_tidy cost ps r = record { end = free; ends = refl; runs = λ k h most n u. parens_runs cost k ps (fits_start k (The m.Open) h refl) r most n u }

abbrev pub squares_tidy : (cost : ℕ) (ps : List Piece) → IsRun cost free ps → IsTidy (cost + 1) (in_squares ps)
squares_tidy cost ps r = record { end = free; ends = refl; runs = λ k h most n u. squares_runs cost k ps (fits_start k (The m.OpenSquare) h refl) r most n u }

abbrev pub curly_tidy : (cost : ℕ) (ps : List Piece) → IsRun cost free ps → IsTidy (cost + 1) (in_curly ps)
curly_tidy cost ps r = record { end = free; ends = refl; runs = λ k h most n u. curly_runs cost k ps (fits_start k (The m.OpenCurly) h refl) r most n u }

-- brackets behind a whole expression
abbrev pub parens_behind : (cost : ℕ) (k : Class) (ps : List Piece) → is_end k ≡ true → IsRun cost free ps → IsRun (cost + 1) k (in_parens ps)
parens_behind cost k ps h r = record { end = free; ends = refl; runs = λ most n u. parens_runs cost k ps (fits_end k m.Open h refl) r most n u }

abbrev pub squares_behind : (cost : ℕ) (k : Class) (ps : List Piece) → is_end k ≡ true → IsRun cost free ps → IsRun (cost + 1) k (in_squares ps)
squares_behind cost k ps h r = record { end = free; ends = refl; runs = λ most n u. squares_runs cost k ps (fits_end k m.OpenSquare h refl) r most n u }
