-- The lines up to the one in which a node begins.
use Rattle.std.proofs.Common.{◌≡◌, ℕ, ◌+◌, ◌-◌, ◌≤◌, ◌<◌, true, false, nat_le, if◌then◌else◌, List, [], ◌∷◌, drop, length, map, slice_index_or, Option, Some, None, Result, Ok, Err, refl, sym, ap, ◌∙◌, subst, arith, inl, inr}
use Rattle.std.proofs.Math.ListN.{drop_of_length-le}
use Rattle.std.proofs.lemmas.Bool.{cases_Bool, leb-true, leb-false}
use Rattle.std.proofs.lemmas.List.{drop_more}
use Rattle.flow_base.specs.declared.kinds.SyntaxKind.TheVariants.{Limit, Syntax, Unsupported as UnsupportedKind}
use Rattle.py_ast.specs.Statement.{Block}
use Rattle.py_lexer.specs.declared.token.Token.{Token}
use Rattle.py_lexer.specs.Cut.{AreTokens}
use Rattle.py_lexer.specs.Cut as lexer
use Rattle.py_layout.specs.declared.line.LogicalLine.{LogicalLine}
use Rattle.py_layout.specs.Layout.{AreLines}
use Rattle.py_layout.specs.Layout as layout
use Rattle.py_grammar.specs.Line.{Line}
use Rattle.py_grammar.specs.Reading.{on}
use Rattle.py_line.specs.Answer.{IsAnswer, IsAnswerFrom}
use Rattle.py_line.specs.Form.{line_of}
use Rattle.py_line.specs.Numbers.{size_of_line}
use Rattle.py_line.specs.declared.line.LineFault.{LineFault}
use Rattle.py_line.specs.declared.line.LineFault.TheVariants.{Unsupported, Limit as LimitFault, NotALine, NoMemory}
use Rattle.py_line.specs.declared.line.LineRead.{LineRead}
use Rattle.py_block.specs.Lexing.{lexed, laid}
use Rattle.py_block.specs.Machine.{State, start}
use Rattle.py_block.specs.NodeLines.{HasNode, line_at, line_from, line_in_laid, line_in_tokens, nodes_in}
use Rattle.py_block.specs.Parsed.{Fault, Form, a_line, unsupported, over, no_line, Told, told, tokens_of, is_over, is_unsupported, first_number, next_in, next_of, blocks, of_lines, of_laid, of_tokens, parsed, with_line_ends}
use Rattle.py_block.specs.Pass.{HasNodeIn, IsLineOfForm}
use Rattle.py_block.proofs.Apart.{AreApart, are_apart}
use Rattle.py_block.proofs.CellLaws.{lexed_ok, lexed_err, laid_ok, laid_err}
use Rattle.py_block.proofs.FormAnswers.{form_is}
use Rattle.py_block.proofs.Kept.{nodes_told, blocks_size, on_some}
use Rattle.py_block.proofs.LexingLaws.{lexed_is, laid_is}
use Rattle.py_block.proofs.NodeCounts.{cell_counted}

-- ---- every line of a cell is a line

abbrev pub AreForms : List Told → Type 0
AreForms [] = Unit {0}
AreForms (x ∷ xs) = IsLineOfForm x × AreForms xs

next_form : (m n : State) (deep : ℕ) (f : Form) → next_in m deep f ≡ Some n → (x : Line) × (f ≡ a_line x)
next_form m n deep (a_line x) e = (x, refl)
next_form m n deep unsupported e = cc
next_form m n deep over e = cc
next_form m n deep no_line e = cc

pub blocks_forms : (xs : List Told) (last : ℕ) (m : State) (b : Block) → blocks last m xs ≡ Ok b → AreForms xs
blocks_forms [] last m b e = tt
blocks_forms (x ∷ xs) last m b e =
    let k = on_some (next_of m x) (x.number, Syntax) (λ next. blocks x.number next xs) b e in
    let f = next_form m k.0 x.deep x.form k.1 in
    (record { line = f.0; is = f.1 }, blocks_forms xs x.number k.0 b k.2)

not_stopped : (o : Option ℕ) (rest : Result Block Fault) (f : ℕ → Fault) (b : Block) → on o rest (λ line. Err (f line)) ≡ Ok b → rest ≡ Ok b
not_stopped None rest f b e = e
not_stopped (Some n) rest f b e = cc

pub lines_blocks : (xs : List Told) (b : Block) → of_lines xs ≡ Ok b → blocks 0 start xs ≡ Ok b
lines_blocks xs b e =
    not_stopped (first_number is_over xs) (blocks 0 start xs) (λ line. (line, Limit)) b
    (not_stopped (first_number is_unsupported xs) (on (first_number is_over xs) (blocks 0 start xs) (λ line. Err (line, Limit))) (λ line. (line, UnsupportedKind)) b e)

-- ---- the lines before

-- the nodes of the lines before some are fewer than a node's number, and those of all lines no fewer
pub record IsReached (text : List ℕ) (tokens : List Token) (all : List Told) (rest : List LogicalLine) (before node : ℕ) : Type 0 where
  pub same : line_from 0 all node ≡ line_from before (map (told text tokens) rest) node
  pub later : before < node
  pub within : node ≤ before + nodes_told (map (told text tokens) rest)
  pub forms : AreForms (map (told text tokens) rest)
  pub from : ℕ
  pub apart : AreApart (length tokens) from rest

module _ (text : List ℕ) (tokens : List Token) where
  abbrev those : List LogicalLine → List Told
  those lines = map (told text tokens) lines

  pub reached_none : (lines : List LogicalLine) (node : ℕ) → AreLines text tokens lines → HasNodeIn (of_lines (those lines)) node
      → IsReached text tokens (those lines) lines 0 node
  reached_none lines node l h =
      let e = lines_blocks (those lines) h.block h.is in
      let size = blocks_size (those lines) 0 start h.block e in
      let one = h.from_one in
      let within = h.within in
      record { same = refl; later = omega arith; within = omega arith; forms = blocks_forms (those lines) 0 start h.block e; from = 0; apart = are_apart text tokens lines l }

  module _ (all : List Told) (line : LogicalLine) (rest : List LogicalLine) (before node : ℕ) (h : IsReached text tokens all (line ∷ rest) before node) where
    abbrev up_to : ℕ
    up_to = before + nodes_in (told text tokens line).form

    less : (a b : ℕ) → b < a → nat_le a b ≡ false
    less a b l = elim (cases_Bool (nat_le a b)) [ inl e ↦ let q = leb-true a b e in absurd (omega arith) | inr e ↦ e ]

    least : (a b : ℕ) → a ≤ b → nat_le a b ≡ true
    least a b l = elim (cases_Bool (nat_le a b)) [ inl e ↦ e | inr e ↦ let q = leb-false a b e in absurd (omega arith) ]

    pub reached : (n : ℕ) → n ≡ up_to → node ≤ n → line_from 0 all node ≡ line.line
    reached n e l = h.same ∙ ap (λ b. if b then line.line else line_from up_to (those rest) node) (least node up_to (omega arith))

    pub reached_later : (n : ℕ) → n ≡ up_to → n < node → IsReached text tokens all rest n node
    reached_later n e l =
        let within = h.within in
        record {
          same = h.same ∙ ap (λ b. if b then line.line else line_from up_to (those rest) node) (less node up_to (omega arith)) ∙ ap (λ k. line_from k (those rest) node) (sym e);
          later = l;
          within = omega arith;
          forms = h.forms.1;
          from = line.end + 1;
          apart = h.apart.2;
        }

  pub never_past : (all : List Told) (before node : ℕ) → IsReached text tokens all [] before node → ⊥
  never_past all before node h = let a = h.later in let b = h.within in absurd (omega arith)

  -- at a place of the lines
  module _ (all : List Told) (lines : List LogicalLine) (i before node : ℕ) where
    pub reached_at : IsReached text tokens all (drop i lines) before node → i < length lines
        → IsReached text tokens all (slice_index_or lines i (record { first = 0; end = 0; depth = 0; line = 0 }) ∷ drop (i + 1) lines) before node
    reached_at h l = subst (λ z. IsReached text tokens all z before node) (drop_more lines i (record { first = 0; end = 0; depth = 0; line = 0 }) l) h

    pub not_at_end : IsReached text tokens all (drop i lines) before node → length lines ≤ i → ⊥
    not_at_end h l = never_past all before node (subst (λ z. IsReached text tokens all z before node) (drop_of_length-le lines l) h)

-- ---- what is read of a line

module _ (text : List ℕ) (tokens : List Token) (line : LogicalLine) (x : Line) (e : (told text tokens line).form ≡ a_line x) where
  pub no_fault : (fault : LineFault) → (fault ≡ NoMemory → ⊥) → IsAnswer text (tokens_of tokens line) 1 (Err fault) → ⊥
  no_fault Unsupported h a = let f = sym e ∙ form_is text (tokens_of tokens line) 1 (Err Unsupported) a in cc
  no_fault LimitFault h a = let f = sym e ∙ form_is text (tokens_of tokens line) 1 (Err LimitFault) a in cc
  no_fault NotALine h a = let f = sym e ∙ form_is text (tokens_of tokens line) 1 (Err NotALine) a in cc
  no_fault NoMemory h a = h refl

pub nodes_of_read : (text : List ℕ) (tokens : List Token) (line : LogicalLine) (read : LineRead) → IsAnswerFrom text (tokens_of tokens line) 1 (Ok read) → (n : ℕ)
    → n ≡ read.next - 1 → n ≡ nodes_in (told text tokens line).form
nodes_of_read text tokens line read a n e =
    let follows = a.1.follows in
    let is : nodes_in (told text tokens line).form ≡ size_of_line (line_of read.form) = ap nodes_in (form_is text (tokens_of tokens line) 1 (Ok read.form) a.0) in
    omega arith

-- ---- texts

module _ (text : List ℕ) (tokens : List Token) (node : ℕ) where
  pub lines_have : (lines : List LogicalLine) → AreLines text tokens lines → HasNodeIn (of_laid text tokens (laid text tokens)) node
      → HasNodeIn (of_lines (map (told text tokens) lines)) node
  lines_have lines l h = subst (λ z. HasNodeIn (of_laid text tokens z) node) (laid_ok text tokens lines l (laid text tokens) (laid_is text tokens)) h

  pub line_in_lines : (lines : List LogicalLine) → AreLines text tokens lines
      → line_in_laid text tokens (laid text tokens) node ≡ line_from 0 (map (told text tokens) lines) node
  line_in_lines lines l = ap (λ z. line_in_laid text tokens z node) (laid_ok text tokens lines l (laid text tokens) (laid_is text tokens))

  pub laid_not_stopped : (line : ℕ) → layout.Stops text tokens line → HasNodeIn (of_laid text tokens (laid text tokens)) node → ⊥
  laid_not_stopped line s h = let e = sym (ap (of_laid text tokens) (laid_err text tokens line s (laid text tokens) (laid_is text tokens))) ∙ h.is in cc

module _ (text : List ℕ) (node : ℕ) where
  pub tokens_have : (tokens : List Token) → AreTokens text tokens → HasNodeIn (of_tokens text (lexed text)) node
      → HasNodeIn (of_laid text tokens (laid text tokens)) node
  tokens_have tokens t h = subst (λ z. HasNodeIn (of_tokens text z) node) (lexed_ok text tokens t (lexed text) (lexed_is text)) h

  pub line_in_these : (tokens : List Token) → AreTokens text tokens
      → line_in_tokens text (lexed text) node ≡ line_in_laid text tokens (laid text tokens) node
  line_in_these tokens t = ap (λ z. line_in_tokens text z node) (lexed_ok text tokens t (lexed text) (lexed_is text))

  pub lex_not_stopped : (line : ℕ) → lexer.Stops text line → HasNodeIn (of_tokens text (lexed text)) node → ⊥
  lex_not_stopped line s h = let e = sym (ap (of_tokens text) (lexed_err text line s (lexed text) (lexed_is text))) ∙ h.is in cc

  pub text_has : HasNode text node → HasNodeIn (of_tokens (with_line_ends text) (lexed (with_line_ends text))) node
  unfolding parsed
  text_has h = let size = cell_counted h.cell in let within = h.within in record { block = _; is = h.spelled.spelled; from_one = h.from_one; within = omega arith }

  pub line_at_is : line_at text node ≡ line_in_tokens (with_line_ends text) (lexed (with_line_ends text)) node
  unfolding line_at
  line_at_is = refl
