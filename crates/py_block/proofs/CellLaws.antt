-- What is answered to a text is what the text is, and nothing else is.
use Rattle.std.proofs.Common.{◌≡◌, ℕ, false, List, [], ◌∷◌, map, Option, Some, None, Result, Ok, Err, refl, sym, ap, ◌∙◌, subst}
use Rattle.flow_base.specs.declared.kinds.SyntaxKind.{SyntaxKind}
use Rattle.flow_base.specs.declared.kinds.SyntaxKind.TheVariants.{Lex, Layout, Unsupported, Limit, Syntax, Scope}
use Rattle.py_ast.specs.Statement.{Block}
use Rattle.py_lexer.specs.declared.token.Token.{Token}
use Rattle.py_lexer.specs.Cut.{AreTokens}
use Rattle.py_lexer.specs.Cut as lexer
use Rattle.py_lexer.proofs.Cutting as cutting
use Rattle.py_layout.specs.declared.line.LogicalLine.{LogicalLine}
use Rattle.py_layout.specs.Layout.{AreLines}
use Rattle.py_layout.specs.Layout as layout
use Rattle.py_layout.proofs.Laying as laying
use Rattle.py_grammar.specs.Reading.{on}
use Rattle.py_signs.specs.Limits.{has_unsupported}
use Rattle.py_block.specs.Machine.{start}
use Rattle.py_block.specs.Lexing.{lexed, laid}
use Rattle.py_block.specs.Parsed.{Told, Fault, told, tokens_of, is_unsupported, is_over, first_number, blocks, of_lines, of_laid, of_tokens, parsed, with_line_ends}
use Rattle.py_block.specs.Cell.{Cut, IsUnsupported, IsOver, HoldsOfNone, IsPlainCut, SpellsText, IsFault, IsParsed}
use Rattle.py_block.proofs.LexingLaws.{IsLexed, lexed_is, IsLaid, laid_is}
use Rattle.py_block.proofs.FormLaws.{unsupported_is, no_unsupported, over_told, told_over, Tests, HoldsOfAll, first_is, none_is, is_first, is_none}
use Rattle.py_block.proofs.BlockLaws.{IsAnswer, blocks_are, misplaced_told, stands_told}

-- ---- the two tests

module _ (text : List ℕ) (tokens : List Token) where
  abbrev Any : LogicalLine → Type 0
  Any line = Unit {0}

  abbrev IsSupported : LogicalLine → Type 0
  IsSupported line = has_unsupported (tokens_of tokens line) ≡ false

  unsupported_test : Tests text tokens is_unsupported (IsUnsupported text tokens) Any
  unsupported_test = record {
    yes = λ line q e. sym (unsupported_is text tokens line) ∙ e;
    passes = λ line q p. unsupported_is text tokens line ∙ p;
  }

  over_test : Tests text tokens is_over (IsOver text tokens) IsSupported
  over_test = record { yes = told_over text tokens; passes = over_told text tokens }

  any : (lines : List LogicalLine) → HoldsOfAll Any lines
  any [] = tt
  any (line ∷ lines) = (tt, any lines)

  supported : (lines : List LogicalLine) → HoldsOfNone (IsUnsupported text tokens) lines → HoldsOfAll IsSupported lines
  supported [] h = tt
  supported (line ∷ lines) h = (no_unsupported text tokens line h.0, supported lines h.1)

  abbrev those : List LogicalLine → List Told
  those lines = map (told (with_line_ends text) tokens) lines

  -- ---- lines

  lines_first : (lines : List LogicalLine) (n : ℕ) → first_number is_unsupported (those lines) ≡ Some n → of_lines (those lines) ≡ Err (n, Unsupported)
  lines_first lines n e = ap (λ o. on o (on (first_number is_over (those lines)) (blocks 0 start (those lines)) (λ line. Err (line, Limit))) (λ line. Err (line, Unsupported))) e

  lines_later : (lines : List LogicalLine) → first_number is_unsupported (those lines) ≡ None
      → of_lines (those lines) ≡ on (first_number is_over (those lines)) (blocks 0 start (those lines)) (λ line. Err (line, Limit))
  lines_later lines e = ap (λ o. on o (on (first_number is_over (those lines)) (blocks 0 start (those lines)) (λ line. Err (line, Limit))) (λ line. Err (line, Unsupported))) e

  lines_over : (lines : List LogicalLine) (o : Option ℕ) → first_number is_unsupported (those lines) ≡ None → first_number is_over (those lines) ≡ o
      → of_lines (those lines) ≡ on o (blocks 0 start (those lines)) (λ line. Err (line, Limit))
  lines_over lines o e f = lines_later lines e ∙ ap (λ o. on o (blocks 0 start (those lines)) (λ line. Err (line, Limit))) f

  -- what is answered to lines is what they are
  module _ (lines : List LogicalLine) (are_tokens : AreTokens (with_line_ends text) tokens) (are_lines : AreLines (with_line_ends text) tokens lines) where
    cut : Cut text
    cut = record { tokens = tokens; lines = lines; are_tokens = are_tokens; are_lines = are_lines }

    blocks_parsed : HoldsOfNone (IsUnsupported text tokens) lines → HoldsOfNone (IsOver text tokens) lines → (r : Result Block Fault) → IsAnswer text tokens lines r → IsParsed text r
    unfolding cut
    blocks_parsed h w (Ok b) a = record { cut = cut; plain = record { supported = h; within = w }; lines = a.0; spelled = a.1; stands = a.2 }
    blocks_parsed h w (Err f) a = subst (IsFault text f.0) (sym a.1) (cut, record { supported = h; within = w }, a.0)

    over_parsed : HoldsOfNone (IsUnsupported text tokens) lines → (o : Option ℕ) → first_number is_over (those lines) ≡ o
        → IsParsed text (on o (blocks 0 start (those lines)) (λ line. Err (line, Limit)))
    unfolding cut
    over_parsed h None e =
        let w = none_is text tokens is_over (IsOver text tokens) IsSupported over_test lines (supported lines h) e in
        blocks_parsed h w (blocks 0 start (those lines)) (blocks_are text tokens lines h w)
    over_parsed h (Some n) e = (cut, h, first_is text tokens is_over (IsOver text tokens) IsSupported over_test lines n (supported lines h) e)

    lines_parsed : (o : Option ℕ) → first_number is_unsupported (those lines) ≡ o → IsParsed text (of_lines (those lines))
    unfolding cut
    lines_parsed None e =
        subst (IsParsed text) (sym (lines_later lines e))
        (over_parsed (none_is text tokens is_unsupported (IsUnsupported text tokens) Any unsupported_test lines (any lines) e) (first_number is_over (those lines)) refl)
    lines_parsed (Some n) e =
        subst (IsParsed text) (sym (lines_first lines n e))
        (cut, first_is text tokens is_unsupported (IsUnsupported text tokens) Any unsupported_test lines n (any lines) e)

-- ---- sound

laid_parsed : (text : List ℕ) (tokens : List Token) → AreTokens (with_line_ends text) tokens → (r : Result (List LogicalLine) ℕ) → IsLaid (with_line_ends text) tokens r
    → IsParsed text (of_laid (with_line_ends text) tokens r)
laid_parsed text tokens t (Ok lines) h = lines_parsed text tokens lines t h (first_number is_unsupported (map (told (with_line_ends text) tokens) lines)) refl
laid_parsed text tokens t (Err n) h = (tokens, t, h)

lexed_parsed : (text : List ℕ) (r : Result (List Token) ℕ) → IsLexed (with_line_ends text) r → IsParsed text (of_tokens (with_line_ends text) r)
lexed_parsed text (Ok tokens) h = laid_parsed text tokens h (laid (with_line_ends text) tokens) (laid_is (with_line_ends text) tokens)
lexed_parsed text (Err n) h = h

pub is_parsed : (text : List ℕ) → IsParsed text (parsed text)
unfolding parsed
is_parsed text = lexed_parsed text (lexed (with_line_ends text)) (lexed_is (with_line_ends text))

-- ---- exact

pub lexed_ok : (text : List ℕ) (tokens : List Token) → AreTokens text tokens → (r : Result (List Token) ℕ) → IsLexed text r → r ≡ Ok tokens
lexed_ok text tokens t (Ok others) h = ap Ok (cutting.one_list text others tokens h t)
lexed_ok text tokens t (Err n) h = absurd (cutting.not_both text tokens n t h)

pub lexed_err : (text : List ℕ) (n : ℕ) → lexer.Stops text n → (r : Result (List Token) ℕ) → IsLexed text r → r ≡ Err n
lexed_err text n s (Ok tokens) h = absurd (cutting.not_both text tokens n h s)
lexed_err text n s (Err m) h = ap Err (cutting.one_line text m n h s)

pub laid_ok : (text : List ℕ) (tokens : List Token) (lines : List LogicalLine) → AreLines text tokens lines → (r : Result (List LogicalLine) ℕ) → IsLaid text tokens r → r ≡ Ok lines
laid_ok text tokens lines t (Ok others) h = ap Ok (laying.one_list text tokens others lines h t)
laid_ok text tokens lines t (Err n) h = absurd (laying.not_both text tokens lines n t h)

pub laid_err : (text : List ℕ) (tokens : List Token) (n : ℕ) → layout.Stops text tokens n → (r : Result (List LogicalLine) ℕ) → IsLaid text tokens r → r ≡ Err n
laid_err text tokens n s (Ok lines) h = absurd (laying.not_both text tokens lines n h s)
laid_err text tokens n s (Err m) h = ap Err (laying.one_stop text tokens m n h s)

parsed_tokens : (text : List ℕ) (tokens : List Token) → AreTokens (with_line_ends text) tokens
    → parsed text ≡ of_laid (with_line_ends text) tokens (laid (with_line_ends text) tokens)
unfolding parsed
parsed_tokens text tokens t = ap (of_tokens (with_line_ends text)) (lexed_ok (with_line_ends text) tokens t (lexed (with_line_ends text)) (lexed_is (with_line_ends text)))

pub parsed_lines : (text : List ℕ) (c : Cut text) → parsed text ≡ of_lines (map (told (with_line_ends text) c.tokens) c.lines)
parsed_lines text c =
    parsed_tokens text c.tokens c.are_tokens
    ∙ ap (of_laid (with_line_ends text) c.tokens) (laid_ok (with_line_ends text) c.tokens c.lines c.are_lines (laid (with_line_ends text) c.tokens) (laid_is (with_line_ends text) c.tokens))

module _ (text : List ℕ) (c : Cut text) where
  no_number : HoldsOfNone (IsUnsupported text c.tokens) c.lines → first_number is_unsupported (those text c.tokens c.lines) ≡ None
  no_number h = is_none text c.tokens is_unsupported (IsUnsupported text c.tokens) (Any text c.tokens) (unsupported_test text c.tokens) c.lines (any text c.tokens c.lines) h

  plain_parsed : IsPlainCut text c → parsed text ≡ blocks 0 start (those text c.tokens c.lines)
  plain_parsed p =
      parsed_lines text c
      ∙ lines_over text c.tokens c.lines None (no_number p.supported)
      (is_none text c.tokens is_over (IsOver text c.tokens) (IsSupported text c.tokens) (over_test text c.tokens) c.lines (supported text c.tokens c.lines p.supported) p.within)

pub spelled_parsed : (text : List ℕ) (b : Block) → SpellsText text b → parsed text ≡ Ok b
spelled_parsed text b s = plain_parsed text s.cut s.plain ∙ stands_told text s.cut.tokens s.cut.lines s.lines b s.spelled s.stands s.plain.supported s.plain.within

fault_parsed : (text : List ℕ) (n : ℕ) (kind : SyntaxKind) → IsFault text n kind → parsed text ≡ Err (n, kind)
unfolding parsed
fault_parsed text n Lex s = ap (of_tokens (with_line_ends text)) (lexed_err (with_line_ends text) n s (lexed (with_line_ends text)) (lexed_is (with_line_ends text)))
fault_parsed text n Layout s =
    parsed_tokens text s.0 s.1
    ∙ ap (of_laid (with_line_ends text) s.0) (laid_err (with_line_ends text) s.0 n s.2 (laid (with_line_ends text) s.0) (laid_is (with_line_ends text) s.0))
fault_parsed text n Unsupported s =
    let c = s.0 in
    parsed_lines text c
    ∙ lines_first text c.tokens c.lines n
    (is_first text c.tokens is_unsupported (IsUnsupported text c.tokens) (Any text c.tokens) (unsupported_test text c.tokens) c.lines n (any text c.tokens c.lines) s.1)
fault_parsed text n Limit s =
    let c = s.0 in
    parsed_lines text c
    ∙ lines_over text c.tokens c.lines (Some n) (no_number text c s.1)
    (is_first text c.tokens is_over (IsOver text c.tokens) (IsSupported text c.tokens) (over_test text c.tokens) c.lines n (supported text c.tokens c.lines s.1) s.2)
fault_parsed text n Syntax s =
    let c = s.0 in
    plain_parsed text c s.1 ∙ misplaced_told text c.tokens c.lines n s.2 s.1.supported s.1.within
fault_parsed text n Scope s = absurd s

pub parsed_is : (text : List ℕ) (r : Result Block Fault) → IsParsed text r → r ≡ parsed text
parsed_is text (Ok b) s = sym (spelled_parsed text b s)
parsed_is text (Err f) s = sym (fault_parsed text f.0 f.1 s)

ok_is : (a b : Block) (r : Result Block Fault) → r ≡ Ok a → r ≡ Ok b → a ≡ b
ok_is a b r e f = let g = sym e ∙ f in cc

pub one_cell : (text : List ℕ) (a b : Block) → SpellsText text a → SpellsText text b → a ≡ b
one_cell text a b s u = ok_is a b (parsed text) (spelled_parsed text a s) (spelled_parsed text b u)
