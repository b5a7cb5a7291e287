-- What the words and operators of the program stand for, and what its readers of signs answer.
use Rattle.std.specs.Prelude.{ℕ, List, [], ◌∷◌, ◌++◌, Bool, true, ◌&&◌, not, Some, None, is_some}
use Rattle.flow_base.specs.Names.{symbol_of}
use Rattle.py_grammar.specs.Reading as reading
use Rattle.py_grammar.specs.Reading.{Reader}
use Rattle.py_grammar.specs.LineReading as lines
use Rattle.py_grammar.specs.declared.sign.Sign.TheVariants.{Text}
use Rattle.py_line.specs.declared.at.Suffix.{Suffix}
use Rattle.py_line.specs.declared.at.Suffix.TheVariants.{Attribute, Subscript, Call}
use Rattle.py_line.specs.declared.words.Word.{Word}
use Rattle.py_line.specs.declared.words.Word.TheVariants as w
use Rattle.py_line.specs.declared.words.Head.{Head}
use Rattle.py_line.specs.declared.words.Head.TheVariants as h

abbrev pub suffix : Suffix → reading.Suffix
suffix Attribute = reading.attributed
suffix Subscript = reading.subscripted
suffix Call = reading.called

abbrev pub word : Word → lines.Word
word w.Pass = lines.pass
word w.Break = lines.break
word w.Continue = lines.continue
word w.Return = lines.return
word w.Raise = lines.raise
word w.Global = lines.global
word w.Nonlocal = lines.nonlocal
word w.Delete = lines.delete
word w.Assert = lines.assert

abbrev pub head : Head → lines.Head
head h.If = lines.an_if
head h.Elif = lines.an_elif
head h.Else = lines.an_else
head h.While = lines.a_while
head h.For = lines.a_for
head h.Try = lines.a_try
head h.Finally = lines.a_finally
head h.Except = lines.an_except
head h.Def = lines.a_def
head h.Class = lines.a_class

-- a text that stands first
abbrev pub text_at : Reader (List ℕ)
text_at (Text x ∷ rest) = Some (x, rest)
text_at _ = None

-- no name is among some that were seen, or stands there twice
abbrev pub all_new : List (List ℕ) → List (List ℕ) → Bool
all_new seen [] = true
all_new seen (x ∷ xs) = not (is_some (symbol_of seen x)) && all_new (seen ++ x ∷ []) xs
