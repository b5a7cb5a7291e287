-- A node begins in the one line up to which the nodes are no fewer than its number.
use Rattle.std.proofs.Common.{◌≡◌, ℕ, ◌+◌, ◌≤◌, ◌<◌, Bool, true, false, nat_le, if◌then◌else◌, List, [], ◌∷◌, ◌++◌, length, map, Option, Some, None, Result, Ok, Err, refl, sym, ap, ◌∙◌, subst, arith, inl, inr}
use Rattle.std.proofs.lemmas.Bool.{cases_Bool, leb-true, leb-false}
use Rattle.flow_base.specs.declared.kinds.SyntaxKind.TheVariants.{Limit, Unsupported}
use Rattle.py_ast.specs.Nodes.{nodes_of_cell}
use Rattle.py_ast.specs.Statement.{Block, view_cell}
use Rattle.py_ast.specs.declared.cell.Cell.{Cell}
use Rattle.py_lexer.specs.declared.token.Token.{Token}
use Rattle.py_layout.specs.declared.line.LogicalLine.{LogicalLine}
use Rattle.py_grammar.specs.Blocks.{Placed}
use Rattle.py_grammar.specs.Line.{Line}
use Rattle.py_grammar.specs.Reading.{on}
use Rattle.py_grammar.proofs.Lines.{one_line}
use Rattle.py_line.specs.Numbers.{size_of_line}
use Rattle.py_signs.specs.Limits.{has_unsupported}
use Rattle.py_signs.specs.Signs.{signs_of}
use Rattle.py_block.specs.Cell.{AreSpelled, Cut, HoldsOfNone, IsOver, IsUnsupported, Spelled, SpellsText}
use Rattle.py_block.specs.Cell as c
use Rattle.py_block.specs.Machine.{start}
use Rattle.py_block.specs.NodeLines.{HasNode, line_at, line_from, nodes_in}
use Rattle.py_block.specs.NodePlaces.{BeginsIn, nodes_of}
use Rattle.py_block.specs.Parsed.{Fault, Form, Told, a_line, blocks, first_number, is_over, is_unsupported, of_lines, parsed, told, tokens_of, with_line_ends}
use Rattle.py_block.proofs.CellLaws.{parsed_lines}
use Rattle.py_block.proofs.FormAnswers.{unsupported_told}
use Rattle.py_block.proofs.FormLaws.{line_form, no_unsupported, within_form}
use Rattle.py_block.proofs.Kept.{blocks_size, nodes_told}
use Rattle.py_block.proofs.NodeCounts.{cell_counted}
use Rattle.py_block.proofs.Reaching.{AreForms, blocks_forms, lines_blocks, line_at_is, line_in_lines, line_in_these}

abbrev those : (text : List ℕ) → List Token → List LogicalLine → List Told
those text tokens lines = map (told (with_line_ends text) tokens) lines

-- ---- no line of a cell has an unsupported token

none_if : (b : Bool) (n : ℕ) (o : Option ℕ) → (if b then Some n else o) ≡ None → (b ≡ false) × (o ≡ None)
none_if true n o e = cc
none_if false n o e = (refl, e)

on_none : (o : Option ℕ) (rest : Result Block Fault) (b : Block) → on o rest (λ line. Err (line, Unsupported)) ≡ Ok b → o ≡ None
on_none None rest b e = refl
on_none (Some n) rest b e = cc

-- ---- the line in which a node begins, where so many nodes stand before the lines

record BeginsFrom (text : List ℕ) (tokens : List Token) (lines : List LogicalLine) (count node : ℕ) (line : LogicalLine) : Type 0 where
  before : List LogicalLine
  after : List LogicalLine
  there : lines ≡ before ++ line ∷ after
  these : List Placed
  this : Line
  spelled : AreSpelled text tokens before these
  spells : Spelled text tokens line this
  later : count + nodes_of these < node
  within : node ≤ count + nodes_of these + size_of_line this

module _ (text : List ℕ) (tokens : List Token) where
  abbrev Found : List LogicalLine → ℕ → ℕ → Type 0
  Found lines count node = (line : LogicalLine) × BeginsFrom text tokens lines count node line × (line_from count (those text tokens lines) node ≡ line.line)

  abbrev form_at : LogicalLine → Form
  form_at line = (told (with_line_ends text) tokens line).form

  found_here : (line : LogicalLine) (rest : List LogicalLine) (count node : ℕ) (x : Line) → Spelled text tokens line x → form_at line ≡ a_line x → count < node
      → nat_le node (count + nodes_in (form_at line)) ≡ true → Found (line ∷ rest) count node
  found_here line rest count node x s f l e =
      let size : nodes_in (form_at line) ≡ size_of_line x = ap nodes_in f in
      let within = leb-true node (count + nodes_in (form_at line)) e in (
        line,
        record { before = []; after = rest; there = refl; these = []; this = x; spelled = c.none; spells = s; later = omega arith; within = omega arith },
        ap (λ b. if b then line.line else line_from (count + nodes_in (form_at line)) (those text tokens rest) node) e,
      )

  found_later : (line : LogicalLine) (rest : List LogicalLine) (count node : ℕ) (x : Line) → Spelled text tokens line x → form_at line ≡ a_line x
      → nat_le node (count + nodes_in (form_at line)) ≡ false → Found rest (count + nodes_in (form_at line)) node → Found (line ∷ rest) count node
  found_later line rest count node x s f e h =
      let size : nodes_in (form_at line) ≡ size_of_line x = ap nodes_in f in
      let w = h.1 in
      let later = w.later in
      let within = w.within in (
        h.0,
        record {
          before = line ∷ w.before;
          after = w.after;
          there = ap (◌∷◌ line) w.there;
          these = record { deep = line.depth; line = x } ∷ w.these;
          this = w.this;
          spelled = c.and s w.spelled;
          spells = w.spells;
          later = omega arith;
          within = omega arith;
        },
        ap (λ b. if b then line.line else line_from (count + nodes_in (form_at line)) (those text tokens rest) node) e ∙ h.2,
      )

  found : (lines : List LogicalLine) (count node : ℕ) → AreForms (those text tokens lines) → first_number is_unsupported (those text tokens lines) ≡ None
      → count < node → node ≤ count + nodes_told (those text tokens lines) → Found lines count node
  found [] count node f u l w = absurd (omega arith)
  found (line ∷ rest) count node f u l w =
      let n = none_if (is_unsupported (told (with_line_ends text) tokens line)) line.line (first_number is_unsupported (those text tokens rest)) u in
      let supported : has_unsupported (tokens_of tokens line) ≡ false = sym (unsupported_told (with_line_ends text) tokens line) ∙ n.0 in
      let s = line_form text tokens line supported f.0.line f.0.is in
      elim (cases_Bool (nat_le node (count + nodes_in (form_at line)))) [
        | inl e ↦ found_here line rest count node f.0.line s f.0.is l e
        | inr e ↦
            let past = leb-false node (count + nodes_in (form_at line)) e in
            found_later line rest count node f.0.line s f.0.is e (found rest (count + nodes_in (form_at line)) node f.1 n.1 (omega arith) (omega arith))
      ]

  begins_in : (lines : List LogicalLine) (node : ℕ) (line : LogicalLine) → BeginsFrom text tokens lines 0 node line → BeginsIn text tokens lines node line
  begins_in lines node line h =
      let later = h.later in
      let within = h.within in
      record { before = h.before; after = h.after; there = h.there; these = h.these; this = h.this; spelled = h.spelled; spells = h.spells; later = omega arith; within = omega arith }

  -- ---- one line

  same_size : (line : LogicalLine) (x y : Line) → Spelled text tokens line x → Spelled text tokens line y → size_of_line x ≡ size_of_line y
  same_size line x y s u = ap size_of_line (one_line (signs_of (with_line_ends text) (tokens_of tokens line)) x y s u)

  one : (a b : LogicalLine) (before others after rest : List LogicalLine) (these those : List Placed) (x y : Line) (count node : ℕ)
      → before ++ a ∷ after ≡ others ++ b ∷ rest → AreSpelled text tokens before these → AreSpelled text tokens others those
      → Spelled text tokens a x → Spelled text tokens b y
      → count + nodes_of these < node → node ≤ count + nodes_of these + size_of_line x
      → count + nodes_of those < node → node ≤ count + nodes_of those + size_of_line y → a ≡ b
  one a b [] [] after rest these those x y count node e sa sb s u la wa lb wb = cc
  one a b [] (m ∷ others) after rest _ _ x y count node e c.none (c.and {x = z} sz r) s u la wa lb wb =
      let same : m ≡ a = cc in
      let size = same_size a x z s (subst (λ k. Spelled text tokens k z) same sz) in
      absurd (omega arith)
  one a b (m ∷ before) [] after rest _ _ x y count node e (c.and {x = z} sz r) c.none s u la wa lb wb =
      let same : m ≡ b = cc in
      let size = same_size b y z u (subst (λ k. Spelled text tokens k z) same sz) in
      absurd (omega arith)
  one a b (m ∷ before) (n ∷ others) after rest _ _ x y count node e (c.and {x = z} {xs = zs} sz r) (c.and {x = v} {xs = vs} sv t) s u la wa lb wb =
      let same : n ≡ m = cc in
      let rests : before ++ a ∷ after ≡ others ++ b ∷ rest = cc in
      let size = same_size m z v sz (subst (λ k. Spelled text tokens k v) same sv) in
      one a b before others after rest zs vs x y (count + size_of_line z) node rests r t s u (omega arith) (omega arith) (omega arith) (omega arith)

  pub one_place : (lines : List LogicalLine) (node : ℕ) (a b : LogicalLine) → BeginsIn text tokens lines node a → BeginsIn text tokens lines node b → a ≡ b
  one_place lines node a b g h =
      let la = g.later in let wa = g.within in let lb = h.later in let wb = h.within in
      one a b g.before h.before g.after h.after g.these h.these g.this h.this 0 node (sym g.there ∙ h.there) g.spelled h.spelled g.spells h.spells
      (omega arith) (omega arith) (omega arith) (omega arith)

-- ---- texts

module _ (text : List ℕ) (cut : Cut text) where
  abbrev these_told : List Told
  these_told = those text cut.tokens cut.lines

  number_is : (node : ℕ) → line_at text node ≡ line_from 0 these_told node
  number_is node =
      line_at_is text node ∙ line_in_these (with_line_ends text) node cut.tokens cut.are_tokens ∙ line_in_lines (with_line_ends text) cut.tokens node cut.lines cut.are_lines

  pub begins : (node : ℕ) → HasNode text node → (line : LogicalLine) × BeginsIn text cut.tokens cut.lines node line × (line_at text node ≡ line.line)
  begins node h =
      let b = view_cell h.cell in
      let is : of_lines these_told ≡ Ok (view_cell h.cell) = sym (parsed_lines text cut) ∙ h.spelled.spelled in
      let plain = lines_blocks these_told b is in
      let size = blocks_size these_told 0 start b plain in
      let count = cell_counted h.cell in
      let from_one = h.from_one in
      let within = h.within in
      let none = on_none (first_number is_unsupported these_told) (on (first_number is_over these_told) (blocks 0 start these_told) (λ line. Err (line, Limit))) b is in
      let f = found text cut.tokens cut.lines 0 node (blocks_forms these_told 0 start b plain) none (omega arith) (omega arith) in
      (f.0, begins_in text cut.tokens cut.lines node f.0 f.1, number_is node ∙ f.2)

-- ---- all nodes

module _ (text : List ℕ) (tokens : List Token) where
  spelled_nodes : {lines : List LogicalLine} {xs : List Placed} → AreSpelled text tokens lines xs → HoldsOfNone (IsUnsupported text tokens) lines
      → HoldsOfNone (IsOver text tokens) lines → nodes_told (those text tokens lines) ≡ nodes_of xs
  spelled_nodes c.none h w = refl
  spelled_nodes (c.and {line} {x = x} s r) h w =
      let here = ap nodes_in (within_form text tokens line (no_unsupported text tokens line h.0) w.0 x s) in
      let rest = spelled_nodes r h.1 w.1 in
      omega arith

pub as_many : (text : List ℕ) (b : Cell) (s : SpellsText text (view_cell b)) → parsed text ≡ Ok (view_cell b) → length (nodes_of_cell b) ≡ nodes_of s.lines
as_many text b s e =
    let cut = s.cut in
    let is : of_lines (those text s.cut.tokens s.cut.lines) ≡ Ok (view_cell b) = sym (parsed_lines text s.cut) ∙ e in
    let size = blocks_size (those text s.cut.tokens s.cut.lines) 0 start (view_cell b) (lines_blocks (those text s.cut.tokens s.cut.lines) (view_cell b) is) in
    let count = cell_counted b in
    let nodes = spelled_nodes text s.cut.tokens s.spelled s.plain.supported s.plain.within in
    omega arith
