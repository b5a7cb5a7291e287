-- What is answered to the tokens of a line, by what is read of their signs.
use Rattle.std.proofs.Common.{◌≡◌, ℕ, ◌+◌, ◌≤◌, ◌<◌, ◌^◌, List, length, Some, None, Result, Ok, Err, arith, refl, subst, sym}
use Rattle.std.proofs.lemmas.List.{length-map}
use Rattle.py_lexer.specs.declared.token.Token.{Token}
use Rattle.py_ast.specs.Nodes.{count_from}
use Rattle.py_grammar.specs.Line.{Line, SpellsLine, line_depth}
use Rattle.py_grammar.specs.LineReading.{read_line}
use Rattle.py_grammar.specs.declared.sign.Sign.{Sign}
use Rattle.py_grammar.proofs.Lines.{line_found, line_deep, line_none, read_line_spells}
use Rattle.py_signs.specs.Signs.{sign_of_token, signs_of}
use Rattle.py_line.specs.Answer.{IsAnswerFrom, IsLineOf, IsPlain, depth}
use Rattle.py_line.specs.Form.{line_of, numbers_of_form, NumberedLine}
use Rattle.py_line.specs.Numbers.{size_of_line}
use Rattle.py_line.specs.declared.line.LineFault.{LineFault}
use Rattle.py_line.specs.declared.line.LineRead.{LineRead}
use Rattle.py_line.specs.declared.line.LineFault.TheVariants.{Unsupported, Limit, NotALine, NoMemory}
use Rattle.py_line.proofs.NumberedForms.{in_order}
use Rattle.py_line.proofs.Sizes.{line_fits}

pub plain_answer : (text : List ℕ) (tokens : List Token) (first : ℕ) (answer : Result LineRead LineFault) → IsPlain text tokens
    → IsLineOf (signs_of text tokens) first answer → IsAnswerFrom text tokens first answer
plain_answer text tokens first (Ok read) p a = (
  (p, a.0, a.1, in_order first (size_of_line (line_of read.form)) read.form a.2.in_order),
  record {
    in_order = a.2.in_order;
    follows = a.2.follows;
    few = let fits = line_fits a.0 in let e : length (signs_of text tokens) ≡ length tokens = length-map tokens (sign_of_token text) in omega arith;
  },
)
plain_answer text tokens first (Err Unsupported) p a = absurd a
plain_answer text tokens first (Err Limit) p a = (p.supported, depth a.1 a.2)
plain_answer text tokens first (Err NotALine) p a = (p, a)
plain_answer text tokens first (Err NoMemory) p a = tt

pub too_deep : (first : ℕ) (signs : List Sign) → read_line 60 signs ≡ Some None → IsLineOf signs first (Err Limit)
too_deep first signs e = line_deep 60 signs (omega arith) e

pub no_line : (first : ℕ) (signs : List Sign) → read_line 60 signs ≡ None → IsLineOf signs first (Err NotALine)
no_line first signs e = λ x s. line_none 60 signs x (omega arith) e s

-- a numbered line is its own
own_line : (first : ℕ) (x : Line) (read : LineRead) → NumberedLine first x read → NumberedLine first (line_of read.form) read
own_line first x read n = record {
  same = refl;
  in_order = subst (λ z. numbers_of_form read.form ≡ count_from first (size_of_line z)) (sym n.same) n.in_order;
  follows = subst (λ z. read.next ≡ first + size_of_line z) (sym n.same) n.follows;
}

pub a_line : (first : ℕ) (signs : List Sign) (x : Line) (read : LineRead) → read_line 60 signs ≡ Some (Some x) → NumberedLine first x read
    → IsLineOf signs first (Ok read)
a_line first signs x read e n =
    let f = line_found 60 signs x (omega arith) e in
    (subst (SpellsLine signs) (sym n.same) f.0, subst (λ z. line_depth z ≤ 60) (sym n.same) f.1, own_line first x read n)

pub nodes_fit : (first : ℕ) (signs : List Sign) (x : Line) → read_line 60 signs ≡ Some (Some x) → first + length signs < 2 ^ 32
    → first + size_of_line x ≤ 2 ^ 32
nodes_fit first signs x e small = let fits = line_fits (read_line_spells signs x e) in omega arith
