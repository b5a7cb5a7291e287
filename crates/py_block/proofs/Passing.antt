-- One line after another, placed in the levels and held against the limits.
use Rattle.std.proofs.Common.{◌≡◌, ℕ, zero, suc, ◌+◌, ◌-◌, ◌^◌, ◌≤◌, ◌<◌, Bool, true, false, if◌then◌else◌, List, [], ◌∷◌, ◌++◌, length, drop, map, slice_index_or, Option, Some, None, Result, Ok, Err, refl, sym, ap, ◌∙◌, subst, arith}
use Rattle.std.proofs.Math.ListN.{drop_of_length-le}
use Rattle.std.proofs.lemmas.List.{drop_more, length-drop, length-take-le}
use Rattle.flow_base.specs.declared.kinds.SyntaxKind.TheVariants.{Limit, Syntax}
use Rattle.py_ast.specs.Nodes.{count_from, number_of, nodes_of_cell, IsNumbered}
use Rattle.py_ast.specs.Statement.{Block}
use Rattle.py_ast.specs.declared.cell.Cell.{Cell}
use Rattle.py_lexer.specs.declared.token.Token.{Token}
use Rattle.py_layout.specs.Layout.{AreLines}
use Rattle.py_signs.specs.Limits.{has_unsupported}
use Rattle.py_layout.specs.declared.line.LogicalLine.{LogicalLine}
use Rattle.py_grammar.specs.Reading.{on}
use Rattle.py_line.specs.declared.line.LineRead.{LineRead}
use Rattle.py_block.specs.Machine as machine
use Rattle.py_block.specs.Opened.{Opened, IsEnded}
use Rattle.py_block.specs.NodeLines.{nodes_in}
use Rattle.py_block.specs.Parsed.{Fault, Told, told, tokens_of, is_over, is_unsupported, first_number, ended, next_in, blocks}
use Rattle.py_block.proofs.Apart.{AreApart, are_apart}
use Rattle.py_block.proofs.FormAnswers.{unsupported_told}
use Rattle.py_block.specs.Pass.{Answers, IsWithin, IsLine, IsRead, IsLimit, IsNew, next_number, AreFromOne, AreCounted, IsPlacedIn, IsPlacedOrNot, IsWith, IsNext, Goes, IsTaken, Ends}
use Rattle.py_block.specs.declared.fault.SyntaxFault.{SyntaxFault}
use Rattle.py_block.specs.declared.fault.SyntaxFault.TheVariants.{At, NoMemory}
use Rattle.py_block.specs.declared.stage.Stage.{Stage}
use Rattle.py_block.specs.declared.stage.Stage.TheVariants.{Open, Misplaced}

-- ---- numbers one after another

pub counted_length : (k n : ℕ) → length (count_from n k) ≡ k
counted_length zero n = refl
counted_length (suc k) n = ap suc (counted_length k (n + 1))

pub count_split : (a b n : ℕ) → count_from n (a + b) ≡ count_from n a ++ count_from (n + a) b
count_split zero b n =
    ap (λ (z : ℕ). count_from n z) (let f : zero + b ≡ b = omega arith in f)
    ∙ ap (λ (z : ℕ). count_from z b) (let f : n ≡ n + zero = omega arith in f)
count_split (suc a) b n =
    ap (λ (z : ℕ). count_from n z) (let f : suc a + b ≡ suc (a + b) = omega arith in f)
    ∙ ap (λ (z : List ℕ). n ∷ z) (count_split a b (n + 1))
    ∙ ap (λ (z : ℕ). n ∷ count_from (n + 1) a ++ count_from z b) (let f : n + 1 + a ≡ n + suc a = omega arith in f)

map_length : {A B : Type 0} (f : A → B) (xs : List A) → length (map f xs) ≡ length xs
map_length f [] = refl
map_length f (x ∷ xs) = ap suc (map_length f xs)

pub numbered : (o : Opened) (c : Cell) → AreFromOne o → map number_of (nodes_of_cell c) ≡ o.numbers → IsNumbered c
numbered o c h e =
    let all : map number_of (nodes_of_cell c) ≡ count_from 1 h.count = e ∙ h.numbers in
    let size : length (nodes_of_cell c) ≡ h.count = sym (map_length number_of (nodes_of_cell c)) ∙ ap length all ∙ counted_length h.count 1 in
    record { in_order = all ∙ ap (count_from 1) (sym size); few = let few = h.few in omega arith }

-- ---- the end

pub ended_some : (last : ℕ) (levels : Opened) (c : Cell) → AreFromOne levels → IsEnded levels (Ok (Some c)) → Answers (blocks last levels.state []) (Ok c)
ended_some last levels c h e = (ap (ended last) e.0, numbered levels c h e.1)

-- ---- one line more

module _ (text : List ℕ) (tokens : List Token) (line : LogicalLine) where
  abbrev the : Told
  the = told text tokens line

  taken_tokens : IsWithin (length tokens) line → length (tokens_of tokens line) ≡ line.end - line.first
  taken_tokens w =
      let left = length-drop line.first tokens in
      let within = w.1 in
      length-take-le (line.end - line.first) (drop line.first tokens) (omega arith)

  placed_next : (before after : Opened) (first next : ℕ) (read : LineRead) → IsLine text tokens line first read → IsPlacedIn line read before after next
      → IsNext the before first after next
  placed_next before after first next read l p = record {
    stands = ap (next_in before.state line.depth) l.is ∙ p.stands;
    numbers = p.numbers ∙ ap (λ z. before.numbers ++ z) l.counted.in_order ∙ ap (λ f. before.numbers ++ count_from first (nodes_in f)) (sym l.is);
    follows = p.follows ∙ l.counted.follows ∙ ap (λ f. first + nodes_in f) (sym l.is);
  }

  few_nodes : (first : ℕ) (read : LineRead) → IsWithin (length tokens) line → IsLine text tokens line first read → read.next ≤ first + (line.end - line.first) + 1
  few_nodes first read w l = let t = taken_tokens w in let f = l.counted.follows in let k = l.counted.few in omega arith

  taken_open : (before : Opened) (first : ℕ) (read : LineRead) (after : Stage) → IsWithin (length tokens) line → IsLine text tokens line first read
      → IsPlacedOrNot line read before after → IsTaken text tokens line (Open before first) after
  taken_open before first read (Open after next) w l p =
      let few = few_nodes first read w l in
      let follows = p.follows in
      record { within = l.within; goes = placed_next before after first next read l p; few = omega arith }
  taken_open before first read (Misplaced number) w l p =
      record { within = l.within; goes = (ap (next_in before.state line.depth) l.is ∙ p.0, p.1); few = omega arith }

  within_read : (first : ℕ) (read : Option LineRead) → IsRead text tokens line first read → is_over the ≡ false
  within_read first (Some read) l = l.within
  within_read first None l = l.0

  -- a line that was read and placed was taken
  pub taken : (before after : Stage) (read : Option LineRead) → IsWithin (length tokens) line → IsRead text tokens line (next_number before) read
      → IsWith line before read after → IsTaken text tokens line before after
  taken (Open before first) after (Some read) w l p = taken_open before first read after w l p
  taken (Open before first) after None w l p =
      subst (IsTaken text tokens line (Open before first)) (sym p)
      (record { within = l.0; goes = (ap (next_in before.state line.depth) l.1, refl); few = omega arith })
  taken (Misplaced number) after read w l p =
      subst (IsTaken text tokens line (Misplaced number)) (sym p) (record { within = within_read 1 read l; goes = refl; few = omega arith })

-- ---- all lines

-- the open levels, of which the rest of what is answered is what is answered to the lines that are left; or the fault that is answered
abbrev pub IsStage : Result Block Fault → ℕ → List Told → Stage → Type 0
IsStage r last rest (Open levels next) = r ≡ blocks last levels.state rest
IsStage r last rest (Misplaced line) = r ≡ Err (line, Syntax)

-- the nodes so far hold the numbers from 1 on, and are no more than the tokens up to a place
abbrev pub IsCountedTo : ℕ → Stage → Type 0
IsCountedTo from (Open levels next) = (count : ℕ) × (levels.numbers ≡ count_from 1 count) × (next ≡ count + 1) × (next ≤ from + 1)
IsCountedTo from (Misplaced line) = Unit {0}

-- lines of a text up to some place were read
pub record IsPassed (text : List ℕ) (tokens : List Token) (all : List Told) (rest : List LogicalLine) (last : ℕ) (stage : Stage) : Type 0 where
  pub supported : first_number is_unsupported (map (told text tokens) rest) ≡ None
  pub within : first_number is_over all ≡ first_number is_over (map (told text tokens) rest)
  pub so_far : IsStage (blocks 0 machine.start all) last (map (told text tokens) rest) stage
  pub from : ℕ
  pub apart : AreApart (length tokens) from rest
  pub counted : IsCountedTo from stage

module _ (text : List ℕ) (tokens : List Token) where
  abbrev those : List LogicalLine → List Told
  those lines = map (told text tokens) lines

  first_stage : (stage : Stage) (r : Result Block Fault) (rest : List Told) → IsNew stage → r ≡ blocks 0 machine.start rest → IsStage r 0 rest stage
  first_stage (Open levels next) r rest n e = e ∙ ap (λ (o : Opened). blocks 0 o.state rest) (sym n.0)
  first_stage (Misplaced line) r rest n e = absurd n

  first_counted : (stage : Stage) → IsNew stage → IsCountedTo 0 stage
  first_counted (Open levels next) n = let one = n.1 in (0, ap (λ (o : Opened). o.numbers) n.0, omega arith, omega arith)
  first_counted (Misplaced line) n = absurd n

  pub passed_none : (lines : List LogicalLine) (stage : Stage) → first_number is_unsupported (those lines) ≡ None → AreLines text tokens lines → IsNew stage
      → IsPassed text tokens (those lines) lines 0 stage
  passed_none lines stage u l n = record {
    supported = u;
    within = refl;
    so_far = first_stage stage (blocks 0 machine.start (those lines)) (those lines) n refl;
    from = 0;
    apart = are_apart text tokens lines l;
    counted = first_counted stage n;
  }

  none_if : (b : Bool) (n : ℕ) (o : Option ℕ) → (if b then Some n else o) ≡ None → (b ≡ false) × (o ≡ None)
  none_if true n o e = cc
  none_if false n o e = (refl, e)

  module _ (all : List Told) (line : LogicalLine) (rest : List LogicalLine) (last : ℕ) (before : Stage) (h : IsPassed text tokens all (line ∷ rest) last before) where
    pub is_supported : has_unsupported (tokens_of tokens line) ≡ false
    is_supported = sym (unsupported_told text tokens line) ∙ (none_if (is_unsupported (told text tokens line)) line.line (first_number is_unsupported (those rest)) h.supported).0

    pub is_within : IsWithin (length tokens) line
    is_within = h.apart.1

    fits_stage : (n : ℕ) (stage : Stage) → IsCountedTo h.from stage → length tokens < n - 1 → next_number stage + (line.end - line.first) < n
    fits_stage n (Open levels next) c few =
        let p = h.apart.0 in let q = h.apart.1.0 in let r = h.apart.1.1 in let m = c.3 in omega arith
    fits_stage n (Misplaced number) c few = let q = h.apart.1.0 in let r = h.apart.1.1 in omega arith

    pub fits : (n : ℕ) → length tokens < n - 1 → next_number before + (line.end - line.first) < n
    fits n few = fits_stage n before h.counted few

    goes_on : (r : Result Block Fault) (a b : Stage) → IsStage r last (those (line ∷ rest)) a → Goes (told text tokens line) a b → IsStage r line.line (those rest) b
    goes_on r (Open levels first) (Open after next) s g =
        s ∙ ap (λ o. on o (Err (line.line, Syntax)) (λ n. blocks line.line n (those rest))) g.stands
    goes_on r (Open levels first) (Misplaced number) s g =
        s ∙ ap (λ o. on o (Err (line.line, Syntax)) (λ n. blocks line.line n (those rest))) g.0 ∙ ap (λ n. Err (n, Syntax)) (sym g.1)
    goes_on r (Misplaced number) b s g = subst (IsStage r line.line (those rest)) (sym g) s

    counts_on : (a b : Stage) → IsCountedTo h.from a → Goes (told text tokens line) a b → next_number b ≤ next_number a + (line.end - line.first) + 1 → IsCountedTo (line.end + 1) b
    counts_on (Open levels first) (Open after next) c g few =
        let size = nodes_in (told text tokens line).form in
        let p = h.apart.0 in let q = h.apart.1.0 in let m = c.3 in
        let follows : next ≡ first + nodes_in (told text tokens line).form = g.follows in
        let one : 1 + c.0 ≡ first = (let k = c.2 in omega arith) in (
          c.0 + size,
          g.numbers ∙ ap (λ z. z ++ count_from first size) c.1 ∙ ap (λ z. count_from 1 c.0 ++ count_from z size) (sym one) ∙ sym (count_split c.0 size 1),
          omega arith,
          omega arith,
        )
    counts_on (Open levels first) (Misplaced number) c g few = tt
    counts_on (Misplaced number) b c g few = subst (IsCountedTo (line.end + 1)) (sym g) tt

    pub passed_more : (after : Stage) → IsTaken text tokens line before after → IsPassed text tokens all rest line.line after
    passed_more after t = record {
      supported = (none_if (is_unsupported (told text tokens line)) line.line (first_number is_unsupported (those rest)) h.supported).1;
      within = h.within ∙ ap (λ b. if b then Some line.line else first_number is_over (those rest)) t.within;
      so_far = goes_on (blocks 0 machine.start all) before after h.so_far t.goes;
      from = line.end + 1;
      apart = h.apart.2;
      counted = counts_on before after h.counted t.goes t.few;
    }

    pub stopped : (fault : SyntaxFault) → IsLimit text tokens line fault
        → Answers (on (first_number is_over all) (blocks 0 machine.start all) (λ line. Err (line, Limit))) (Err fault)
    stopped (At number kind) l =
        ap (λ o. on o (blocks 0 machine.start all) (λ line. Err (line, Limit))) (h.within ∙ ap (λ b. if b then Some line.line else first_number is_over (those rest)) l.0)
        ∙ ap (λ n. Err (n, Limit)) (sym l.1)
        ∙ ap (λ k. Err (number, k)) (sym l.2)
    stopped NoMemory l = tt

  module _ (all : List Told) (last : ℕ) (stage : Stage) (h : IsPassed text tokens all [] last stage) where
    counted_stage : (n : ℕ) (s : Stage) → IsCountedTo h.from s → length tokens < 2 ^ 32 - 1 → AreCounted s
    counted_stage n (Open levels next) c few = let a = h.apart in let m = c.3 in let k = c.2 in record { count = c.0; numbers = c.1; few = omega arith }
    counted_stage n (Misplaced line) c few = tt

    pub are_counted : length tokens < 2 ^ 32 - 1 → AreCounted stage
    are_counted few = counted_stage 0 stage h.counted few

    ends_stage : (r : Result Block Fault) (s : Stage) (answer : Result Cell SyntaxFault) → IsStage r last [] s → Ends last s answer → Answers r answer
    ends_stage r (Open levels next) answer e a = subst (λ z. Answers z answer) (sym e) a
    ends_stage r (Misplaced line) answer e a = subst (λ z. Answers z answer) (sym e) a

    pub answered : (answer : Result Cell SyntaxFault) → Ends last stage answer
        → Answers (on (first_number is_over all) (blocks 0 machine.start all) (λ line. Err (line, Limit))) answer
    answered answer a =
        subst (λ o. Answers (on o (blocks 0 machine.start all) (λ line. Err (line, Limit))) answer) (sym h.within)
        (ends_stage (blocks 0 machine.start all) stage answer h.so_far a)

-- ---- at a place of the lines

abbrev pub line_in : List LogicalLine → ℕ → LogicalLine
line_in lines i = slice_index_or lines i (record { first = 0; end = 0; depth = 0; line = 0 })

module _ (text : List ℕ) (tokens : List Token) (all : List Told) (lines : List LogicalLine) (i last : ℕ) (stage : Stage) where
  pub at_line : IsPassed text tokens all (drop i lines) last stage → i < length lines
      → IsPassed text tokens all (line_in lines i ∷ drop (i + 1) lines) last stage
  at_line h l = subst (λ z. IsPassed text tokens all z last stage) (drop_more lines i (record { first = 0; end = 0; depth = 0; line = 0 }) l) h

  pub at_end : IsPassed text tokens all (drop i lines) last stage → length lines ≤ i → IsPassed text tokens all [] last stage
  at_end h l = subst (λ z. IsPassed text tokens all z last stage) (drop_of_length-le lines l) h
