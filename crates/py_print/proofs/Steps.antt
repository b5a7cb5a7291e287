-- A printed line stands at most one deeper than the line before it.
use Rattle.std.proofs.Common.{◌≡◌, ℕ, ◌+◌, ◌≤◌, List, [], ◌∷◌, ◌++◌, sym, ◌∙◌, subst, arith, append_assoc}
use Rattle.std.proofs.lemmas.List.{append-nil}
use Rattle.py_ast.specs.Tree.{Tree}
use Rattle.py_ast.specs.Statement as s
use Rattle.py_ast.specs.Statement.{Statement, Block, empty, then, Branches, no_branches, branch, Handlers, no_handlers, handler}
use Rattle.py_grammar.specs.Line as l
use Rattle.py_grammar.specs.Line.{Header}
use Rattle.py_print.specs.Printed.{PrintedLine, head_at, if_there, lines_of, statement, tests, catches}

abbrev pub AreSteps : ℕ → List PrintedLine → Type 0
AreSteps d [] = Unit {0}
AreSteps d (x ∷ xs) = (x.deep ≤ d + 1) × AreSteps x.deep xs

-- lines that may stand behind those of a block
abbrev GoOn : ℕ → List PrintedLine → Type 0
GoOn n tail = (e : ℕ) → n ≤ e + 1 → AreSteps e tail

deeper : (n : ℕ) (tail : List PrintedLine) → GoOn n tail → GoOn (n + 1) tail
deeper n tail k = λ e l. k e (omega arith)

-- a header with its block, and what stands behind it
steps_head : (n : ℕ) (h : Header) (lines more tail : List PrintedLine) (d : ℕ) → n ≤ d + 1 → AreSteps n (lines ++ (more ++ tail)) → AreSteps d (head_at n h (lines ++ more) ++ tail)
steps_head n h lines more tail d l f = (l, subst (AreSteps n) (sym (append_assoc lines more tail)) f)

mutual
  steps_block : (n : ℕ) (b : Block) (tail : List PrintedLine) → GoOn n tail → (d : ℕ) → n ≤ d + 1 → AreSteps d (lines_of n b ++ tail)
  steps_block n empty tail k d h = k d h
  steps_block n (then x b) tail k d h =
      subst (AreSteps d) (sym (append_assoc (statement n x) (lines_of n b) tail)) (steps_statement n x (lines_of n b ++ tail) (λ e l. steps_block n b tail k e l) d h)

  steps_there : (n : ℕ) (h : Header) (b : Block) (tail : List PrintedLine) → GoOn n tail → GoOn n (if_there n h b (lines_of (n + 1) b) ++ tail)
  steps_there n h empty tail k = k
  steps_there n h (then x b) tail k = λ e l. (
    l,
    subst (AreSteps n) (sym (append_assoc (statement (n + 1) x) (lines_of (n + 1) b) tail))
        (steps_statement (n + 1) x (lines_of (n + 1) b ++ tail) (λ e l. steps_block (n + 1) b tail (deeper n tail k) e l) n (omega arith)),
  )

  steps_statement : (n : ℕ) (x : Statement) (tail : List PrintedLine) → GoOn n tail → (d : ℕ) → n ≤ d + 1 → AreSteps d (statement n x ++ tail)
  steps_statement n (s.choose bs otherwise) tail k d h =
      subst (AreSteps d) (sym (append_assoc (tests l.if n bs) (if_there n l.else otherwise (lines_of (n + 1) otherwise)) tail))
      (steps_tests n l.if bs (if_there n l.else otherwise (lines_of (n + 1) otherwise) ++ tail) (steps_there n l.else otherwise tail k) d h)
  steps_statement n (s.while test body otherwise) tail k d h =
      steps_head n (l.while test) (lines_of (n + 1) body) (if_there n l.else otherwise (lines_of (n + 1) otherwise)) tail d h (steps_block (n + 1) body ((if_there n l.else otherwise (lines_of (n + 1) otherwise)) ++ tail) (deeper n ((if_there n l.else otherwise (lines_of (n + 1) otherwise)) ++ tail) (steps_there n l.else otherwise tail k)) n (omega arith))
  steps_statement n (s.for target a body otherwise) tail k d h =
      steps_head n (l.for target a) (lines_of (n + 1) body) (if_there n l.else otherwise (lines_of (n + 1) otherwise)) tail d h (steps_block (n + 1) body ((if_there n l.else otherwise (lines_of (n + 1) otherwise)) ++ tail) (deeper n ((if_there n l.else otherwise (lines_of (n + 1) otherwise)) ++ tail) (steps_there n l.else otherwise tail k)) n (omega arith))
  steps_statement n (s.try body hs otherwise finally) tail k d h =
      let second = if_there n l.else otherwise (lines_of (n + 1) otherwise) in
      let last = if_there n l.finally finally (lines_of (n + 1) finally) in
      steps_head n l.try (lines_of (n + 1) body) (catches n hs ++ (second ++ last)) tail d h
      (steps_block (n + 1) body ((catches n hs ++ (second ++ last)) ++ tail) (deeper n ((catches n hs ++ (second ++ last)) ++ tail)
      (λ e u. subst (AreSteps e) (sym (append_assoc (catches n hs) (second ++ last) tail))
      (steps_catches n hs ((second ++ last) ++ tail)
      (λ e u. subst (AreSteps e) (sym (append_assoc second last tail)) (steps_there n l.else otherwise (last ++ tail) (steps_there n l.finally finally tail k) e u)) e u))) n (omega arith))
  steps_statement n (s.define x names defaults body) tail k d h = (h, steps_block (n + 1) body tail (deeper n tail k) n (omega arith))
  steps_statement n (s.class x base body) tail k d h = (h, steps_block (n + 1) body tail (deeper n tail k) n (omega arith))
  steps_statement n (s.expression a) tail k d h = (h, k n (omega arith))
  steps_statement n (s.assign ts a) tail k d h = (h, k n (omega arith))
  steps_statement n (s.augment place o a) tail k d h = (h, k n (omega arith))
  steps_statement n s.pass tail k d h = (h, k n (omega arith))
  steps_statement n s.break tail k d h = (h, k n (omega arith))
  steps_statement n s.continue tail k d h = (h, k n (omega arith))
  steps_statement n (s.return a) tail k d h = (h, k n (omega arith))
  steps_statement n (s.raise a) tail k d h = (h, k n (omega arith))
  steps_statement n (s.global xs) tail k d h = (h, k n (omega arith))
  steps_statement n (s.nonlocal xs) tail k d h = (h, k n (omega arith))
  steps_statement n (s.delete target) tail k d h = (h, k n (omega arith))
  steps_statement n (s.assert a message) tail k d h = (h, k n (omega arith))

  steps_tests : (n : ℕ) (h : Tree → Header) (bs : Branches) (tail : List PrintedLine) → GoOn n tail → (d : ℕ) → n ≤ d + 1 → AreSteps d (tests h n bs ++ tail)
  steps_tests n h no_branches tail k d l = k d l
  steps_tests n h (branch test body bs) tail k d u =
      steps_head n (h test) (lines_of (n + 1) body) (tests l.elif n bs) tail d u (steps_block (n + 1) body ((tests l.elif n bs) ++ tail) (deeper n ((tests l.elif n bs) ++ tail) (λ e v. steps_tests n l.elif bs tail k e v)) n (omega arith))

  steps_catches : (n : ℕ) (hs : Handlers) (tail : List PrintedLine) → GoOn n tail → (d : ℕ) → n ≤ d + 1 → AreSteps d (catches n hs ++ tail)
  steps_catches n no_handlers tail k d l = k d l
  steps_catches n (handler class x body hs) tail k d u =
      steps_head n (l.except class x) (lines_of (n + 1) body) (catches n hs) tail d u (steps_block (n + 1) body ((catches n hs) ++ tail) (deeper n ((catches n hs) ++ tail) (λ e v. steps_catches n hs tail k e v)) n (omega arith))

pub lines_step : (b : Block) → AreSteps 0 (lines_of 0 b)
lines_step b = subst (AreSteps 0) (append-nil (lines_of 0 b)) (steps_block 0 b [] (λ e l. tt) 0 (omega arith))
