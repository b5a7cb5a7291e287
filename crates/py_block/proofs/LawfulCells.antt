-- The statements that a text spells are those of a lawful cell.
use Rattle.std.proofs.Common.{◌≡◌, ℕ, ◌+◌, ◌≤◌, ◌<◌, ◌≤ℤ◌, Bool, true, false, nat_le, if◌then◌else◌, List, [], ◌∷◌, Option, Some, None, ◌∙◌, arith, ◌⊎◌, inl, inr}
use Rattle.std.proofs.lemmas.Int.{ints}
use Rattle.std.proofs.lemmas.Bool.{cases_Bool, leb-true, leb-false}
use Rattle.py_scalars.specs.NumberForm.{number_of}
use Rattle.py_scalars.specs.TextForm.{text_of}
use Rattle.py_ast.specs.Statement.{Block}
use Rattle.py_ast.specs.Lawful.{top, IsBlock}
use Rattle.py_lexer.specs.declared.token.TokenKind.{TokenKind}
use Rattle.py_lexer.specs.declared.token.TokenKind.TheVariants.{Word, Number as NumberToken, Text as TextToken, Op, LineEnd, Unsupported}
use Rattle.py_lexer.specs.declared.token.Token.{Token}
use Rattle.py_layout.specs.declared.line.LogicalLine.{LogicalLine}
use Rattle.py_grammar.specs.Line as l
use Rattle.py_grammar.specs.Line.{Line, line_depth}
use Rattle.py_grammar.specs.Blocks.{Placed}
use Rattle.py_grammar.specs.declared.mark.Mark.{Mark}
use Rattle.py_grammar.specs.declared.sign.Sign.{Sign}
use Rattle.py_grammar.specs.declared.sign.Sign.TheVariants.{Name, Number, Text, Mark as The, Other}
use Rattle.py_grammar.proofs.LawfulForms.{AreNatural}
use Rattle.py_grammar.proofs.LawfulBlocks.{line_lawful, IsShallow, AreLines, stands_lawful}
use Rattle.py_signs.specs.Signs.{is_keyword, keyword_of, operator_of, or_else, name_sign, number_sign, text_sign, sign_of, text_of_token, sign_of_token, signs_of}
use Rattle.py_block.specs.Parsed.{tokens_of, with_line_ends}
use Rattle.py_block.specs.Cell.{counted, IsOver, expression, counts_deep, AreSpelled, HoldsOfNone, SpellsText}
use Rattle.py_block.specs.Cell as c

-- ---- no sign of a token is a number below 0

abbrev IsNatural : Sign → Type 0
IsNatural x = AreNatural (x ∷ [])

natural_keyword : (b : Bool) (x : List ℕ) → IsNatural (if b then Other else Name x)
natural_keyword true x = tt
natural_keyword false x = tt

natural_name : (x : List ℕ) → IsNatural (name_sign x)
natural_name x = natural_keyword (is_keyword x) x

natural_or : (o : Option Mark) (x : Sign) → IsNatural x → IsNatural (or_else o x)
natural_or (Some k) x h = tt
natural_or None x h = h

natural_number : (o : Option ℕ) → IsNatural (number_sign o)
natural_number (Some n) = (omega (arith, ints), tt)
natural_number None = tt

natural_text : (o : Option (List ℕ)) → IsNatural (text_sign o)
natural_text (Some x) = tt
natural_text None = tt

natural_sign : (k : TokenKind) (text : List ℕ) → IsNatural (sign_of k text)
natural_sign Word text = natural_or (keyword_of text) _ (natural_name _)
natural_sign NumberToken text = natural_number (number_of text)
natural_sign TextToken text = natural_text (text_of text)
natural_sign Op text = natural_or (operator_of text) Other tt
natural_sign LineEnd text = tt
natural_sign Unsupported text = tt

natural_more : (x : Sign) (xs : List Sign) → IsNatural x → AreNatural xs → AreNatural (x ∷ xs)
natural_more (Number n) xs h r = (h.0, r)
natural_more (Name x) xs h r = r
natural_more (Text x) xs h r = r
natural_more (The k) xs h r = r
natural_more _ xs h r = r

are_natural : (text : List ℕ) (tokens : List Token) → AreNatural (signs_of text tokens)
are_natural text [] = tt
are_natural text (t ∷ tokens) = natural_more (sign_of_token text t) (signs_of text tokens) (natural_sign t.kind (text_of_token text t)) (are_natural text tokens)

-- ---- lines

not_more : (n : ℕ) → (60 < n → ⊥) → n ≤ 60
not_more n h = elim (cases_le n) [ inl p ↦ p | inr p ↦ absurd (h p) ]
  where
    cases_le : (n : ℕ) → (n ≤ 60) ⊎ (60 < n)
    cases_le n = elim (cases_Bool (nat_le n 60)) [ inl e ↦ inl (leb-true n 60 e) | inr e ↦ inr (leb-false n 60 e) ]

shallow_line : (deep : ℕ) (x : Line) → counted deep x ≤ 60 → IsShallow deep x
unfolding IsShallow
shallow_line deep (l.simples xs) d = d
shallow_line deep (l.header h []) d = d
shallow_line deep (l.header h (x ∷ xs)) d = d

module _ (text : List ℕ) (tokens : List Token) where
  lines_lawful : {lines : List LogicalLine} {xs : List Placed} → AreSpelled text tokens lines xs → HoldsOfNone (IsOver text tokens) lines → AreLines xs
  unfolding AreLines
  lines_lawful c.none h = tt
  lines_lawful (c.and {line} {x = x} s r) h = (
    line_lawful s (are_natural (with_line_ends text) (tokens_of tokens line)) (not_more (line_depth x) (λ d. h.0 (expression s d))),
    shallow_line line.depth x (not_more (counted line.depth x) (λ d. h.0 (counts_deep s d))),
    lines_lawful r h.1,
  )

pub cell_lawful : (text : List ℕ) (b : Block) → SpellsText text b → IsBlock top b
cell_lawful text b s = stands_lawful s.stands (lines_lawful text s.cut.tokens s.spelled s.plain.within)
