-- Reading a line from left to right: what is kept of it, which is None where an expression of it is too deep.
use Rattle.std.specs.Prelude.{ℕ, ◌-◌, nat_le, Bool, true, false, ◌&&◌, not, if◌then◌else◌, List, [], ◌∷◌, ◌++◌, length, take, Option, Some, None, option_map}
use Rattle.py_ast.specs.Tree.{Tree}
use Rattle.py_ast.specs.Statement as stmt
use Rattle.py_ast.specs.Statement.{Statement}
use Rattle.py_ast.specs.declared.expr.BinaryOp.{BinaryOp}
use Rattle.py_ast.specs.declared.expr.BinaryOp.TheVariants as b
use Rattle.py_grammar.specs.Kept.{Kept, kept, is_kept_target, is_kept_place, kept_target, KeptAll, all_kept, no_trees, push_kept, is_none_kept}
use Rattle.py_grammar.specs.Reading.{Reader, ◌>>=◌, on, giving, mark_at, name_at, marked, begins, next_at, loop, if_mark, up_to, Inside, primary, expr, exprs, end_of_exprs, Parameters, params, distinct_params, nested, is_same}
use Rattle.py_grammar.specs.Line as line
use Rattle.py_grammar.specs.Line.{Header, Line, simple_depth, simples_depth, header_depth, line_depth}
use Rattle.py_grammar.specs.declared.mark.Mark.{Mark}
use Rattle.py_grammar.specs.declared.mark.Mark.TheVariants as m
use Rattle.py_grammar.specs.declared.sign.Sign.{Sign}
use Rattle.py_grammar.specs.declared.sign.Sign.TheVariants.{Mark as The}

-- ---- what is kept

abbrev pub both : {A B C : Type 0} → (A → B → C) → Option A → Option B → Option C
both f a b = a >>= λ a. b >>= λ b. Some (f a b)

-- ---- targets

abbrev pub as_target : Kept × List Sign → Option (Kept × List Sign)
as_target a = if is_kept_target a.0 then Some (kept_target a.0, a.1) else None

-- ---- simple statements

abbrev pub SimpleReader : Type 0
SimpleReader = Reader (Option Statement)

-- the targets so far, and the expression after the last `=`
abbrev pub Assigned : Type 0
Assigned = KeptAll × Kept

abbrev pub equals_at : Reader (Unit {0})
equals_at tokens = mark_at m.Equals tokens >>= λ rest. Some (tt, rest)

abbrev pub next_value : Assigned → Kept → Assigned
next_value s a = (push_kept s.0 (kept_target s.1), a)

abbrev pub assigned : Assigned → Option Statement
assigned s = if is_none_kept s.0 then option_map stmt.expression (kept s.1) else both stmt.assign (all_kept s.0) (kept s.1)

abbrev pub augment_of : Mark → Option BinaryOp
augment_of m.PlusEquals = Some b.Add
augment_of m.MinusEquals = Some b.Sub
augment_of m.StarEquals = Some b.Mul
augment_of m.SlashesEquals = Some b.FloorDiv
augment_of m.PercentEquals = Some b.Mod
augment_of m.StarsEquals = Some b.Pow
augment_of _ = None

-- the signs before the last so many
abbrev pub before : List Sign → List Sign → List Sign
before tokens rest = take (length tokens - length rest) tokens

abbrev pub is_close : Sign → Bool
is_close (The k) = is_same m.Close k
is_close _ = false

abbrev pub ends_in_close : List Sign → Bool
ends_in_close [] = false
ends_in_close (x ∷ []) = is_close x
ends_in_close (x ∷ y ∷ rest) = ends_in_close (y ∷ rest)

-- a place is a name, an attribute or an item that does not stand in parentheses
abbrev pub is_place_before : List Sign → Kept × List Sign → Bool
is_place_before tokens a = is_kept_place a.0 && not (ends_in_close (before tokens a.1))

abbrev pub augmented : Kept → BinaryOp → Kept → Option Statement
augmented p o a = both (λ p. stmt.augment p o) (kept p) (kept a)

-- the words with which a simple statement begins
pub data Word : Type 0 where
  pass : Word
  break : Word
  continue : Word
  return : Word
  raise : Word
  global : Word
  nonlocal : Word
  delete : Word
  assert : Word

abbrev pub word_of : Mark → Option Word
word_of m.Pass = Some pass
word_of m.Break = Some break
word_of m.Continue = Some continue
word_of m.Return = Some return
word_of m.Raise = Some raise
word_of m.Global = Some global
word_of m.Nonlocal = Some nonlocal
word_of m.Del = Some delete
word_of m.Assert = Some assert
word_of _ = None

-- a value may follow
abbrev pub maybe : Reader Kept → (Option Tree → Statement) → SimpleReader
maybe reader f tokens = if begins tokens then (reader tokens >>= giving (λ a. option_map (λ a. f (Some a)) (kept a))) else Some (Some (f None), tokens)

abbrev pub comma_at : Reader (Unit {0})
comma_at tokens = mark_at m.Comma tokens >>= λ rest. Some (tt, rest)

abbrev pub name_turn : List (List ℕ) → Unit {0} → Reader (List (List ℕ))
name_turn names o tokens = name_at tokens >>= giving (λ x. names ++ x ∷ [])

abbrev pub more_names : List (List ℕ) → Reader (List (List ℕ))
more_names = loop comma_at name_turn

unfoldable pub names : Reader (List (List ℕ))
names tokens = name_at tokens >>= λ x. more_names (x.0 ∷ []) x.1

abbrev pub asserted : Kept → Option Statement
asserted a = option_map (λ a. stmt.assert a None) (kept a)

abbrev pub asserted_with : Kept → Kept → Option Statement
asserted_with a message = both (λ a message. stmt.assert a (Some message)) (kept a) (kept message)

abbrev pub SimplesReader : Type 0
SimplesReader = Reader (Option (List Statement))

abbrev pub is_empty : List Sign → Bool
is_empty [] = true
is_empty (x ∷ tokens) = false

-- a semicolon with something behind it
abbrev pub next_simple_at : Reader (Unit {0})
next_simple_at tokens = mark_at m.Semicolon tokens >>= λ rest. if is_empty rest then None else Some (tt, rest)

abbrev pub with_simple : Option (List Statement) → Option Statement → Option (List Statement)
with_simple before x = both (λ before x. before ++ x ∷ []) before x

-- ---- headers

pub data Head : Type 0 where
  an_if : Head
  an_elif : Head
  an_else : Head
  a_while : Head
  a_for : Head
  a_try : Head
  a_finally : Head
  an_except : Head
  a_def : Head
  a_class : Head

abbrev pub head_of : Mark → Option Head
head_of m.If = Some an_if
head_of m.Elif = Some an_elif
head_of m.Else = Some an_else
head_of m.While = Some a_while
head_of m.For = Some a_for
head_of m.Try = Some a_try
head_of m.Finally = Some a_finally
head_of m.Except = Some an_except
head_of m.Def = Some a_def
head_of m.Class = Some a_class
head_of _ = None

abbrev pub HeaderReader : Type 0
HeaderReader = Reader (Option Header)

-- a header with one expression
abbrev pub tested : (Tree → Header) → Kept → Option Header
tested f a = option_map f (kept a)

abbrev pub looped : Kept → Kept → Option Header
looped target a = both line.for (kept target) (kept a)

abbrev pub caught : Kept → Option (List ℕ) → Option Header
caught a x = option_map (λ a. line.except (Some a) x) (kept a)

abbrev pub defined : List ℕ → Parameters → Option Header
defined x s = option_map (line.define x s.0) (all_kept s.1)

abbrev pub with_base : List ℕ → Kept → Option Header
with_base x a = option_map (λ a. line.class x (Some a)) (kept a)

-- ---- lines

-- all of the signs are read
abbrev pub whole : {A : Type 0} → Option (A × List Sign) → Option A
whole (Some (a, [])) = Some a
whole _ = None

-- the number is the most levels of a tree that are kept
module _ (most : ℕ) where
  -- ---- what is kept

  abbrev pub keep_simple : Statement → Option Statement
  keep_simple x = if nat_le (simple_depth x) most then Some x else None

  abbrev pub keep_simples : List Statement → Option (List Statement)
  keep_simples xs = if nat_le (simples_depth xs) most then Some xs else None

  abbrev pub keep_header : Header → Option Header
  keep_header h = if nat_le (header_depth h) most then Some h else None

  abbrev pub keep_line : Line → Option Line
  keep_line l = if nat_le (line_depth l) most then Some l else None

  -- ---- targets

  unfoldable pub places_turn : Inside → KeptAll → Unit {0} → Reader KeptAll
  places_turn inside ts o tokens = primary most inside tokens >>= giving (push_kept ts)

  abbrev pub more_places : Inside → KeptAll → Reader KeptAll
  more_places inside = loop next_at (places_turn inside)

  unfoldable pub places : Inside → Reader Kept
  places inside tokens = primary most inside tokens >>= λ a. more_places inside (push_kept no_trees a.0) a.1 >>= end_of_exprs most

  unfoldable pub targets : Inside → Reader Kept
  targets inside tokens = places inside tokens >>= as_target

  -- ---- simple statements

  unfoldable pub assigned_turn : Inside → Assigned → Unit {0} → Reader Assigned
  assigned_turn inside s o tokens = if is_kept_target s.1 then (exprs most inside tokens >>= giving (next_value s)) else None

  abbrev pub more_assigned : Inside → Assigned → Reader Assigned
  more_assigned inside = loop equals_at (assigned_turn inside)

  unfoldable pub augment : Inside → List Sign → Kept × List Sign → BinaryOp × List Sign → Option (Option Statement × List Sign)
  augment inside tokens a o = if is_place_before tokens a then (exprs most inside o.1 >>= giving (augmented a.0 o.0)) else None

  -- a statement that begins with an expression
  unfoldable pub unmarked : Inside → SimpleReader
  unmarked inside tokens =
      exprs most inside tokens >>= λ a. on (marked augment_of a.1) (more_assigned inside (no_trees, a.0) a.1 >>= giving assigned) (augment inside tokens a)

  unfoldable pub worded : Inside → Word → SimpleReader
  worded inside pass tokens = Some (Some stmt.pass, tokens)
  worded inside break tokens = Some (Some stmt.break, tokens)
  worded inside continue tokens = Some (Some stmt.continue, tokens)
  worded inside return tokens = maybe (exprs most inside) stmt.return tokens
  worded inside raise tokens = maybe (expr most inside) stmt.raise tokens
  worded inside global tokens = names tokens >>= giving (λ names. Some (stmt.global names))
  worded inside nonlocal tokens = names tokens >>= giving (λ names. Some (stmt.nonlocal names))
  worded inside delete tokens = targets inside tokens >>= giving (λ a. option_map stmt.delete (kept a))
  worded inside assert tokens =
      expr most inside tokens >>= λ a. on (mark_at m.Comma a.1) (Some (asserted a.0, a.1)) (λ rest. expr most inside rest >>= giving (asserted_with a.0))

  unfoldable pub simple : Inside → SimpleReader
  simple inside tokens = on (marked word_of tokens) (unmarked inside tokens) (λ w. worded inside w.0 w.1)

  unfoldable pub simples_turn : Inside → Option (List Statement) → Unit {0} → SimplesReader
  simples_turn inside before o tokens = simple inside tokens >>= giving (with_simple before)

  abbrev pub more_simples : Inside → Option (List Statement) → SimplesReader
  more_simples inside = loop next_simple_at (simples_turn inside)

  unfoldable pub simples : Inside → SimplesReader
  simples inside tokens =
      simple inside tokens >>= λ x. more_simples inside (with_simple (Some []) x.0) x.1 >>= if_mark m.Semicolon

  -- ---- headers

  unfoldable pub except_of : Inside → HeaderReader
  except_of inside tokens =
      expr most inside tokens >>= λ a. on (mark_at m.As a.1) (Some (caught a.0 None, a.1)) (λ rest. name_at rest >>= giving (λ x. caught a.0 (Some x)))

  unfoldable pub define_of : Inside → HeaderReader
  define_of inside tokens =
      name_at tokens >>= λ x. mark_at m.Open x.1 >>= λ rest. params most inside rest >>= distinct_params >>= up_to m.Close (defined x.0)

  -- what may stand in parentheses after the name of a class
  unfoldable pub base_of : Inside → List ℕ → HeaderReader
  base_of inside x tokens =
      on (mark_at m.Close tokens) (expr most inside tokens >>= up_to m.Close (with_base x)) (λ after. Some (Some (line.class x None), after))

  unfoldable pub class_of : Inside → HeaderReader
  class_of inside tokens =
      name_at tokens >>= λ x. on (mark_at m.Open x.1) (Some (Some (line.class x.0 None), x.1)) (base_of inside x.0)

  unfoldable pub header : Inside → Head → HeaderReader
  header inside an_if tokens = expr most inside tokens >>= giving (tested line.if)
  header inside an_elif tokens = expr most inside tokens >>= giving (tested line.elif)
  header inside an_else tokens = Some (Some line.else, tokens)
  header inside a_while tokens = expr most inside tokens >>= giving (tested line.while)
  header inside a_for tokens = targets inside tokens >>= λ a. mark_at m.In a.1 >>= λ rest. exprs most inside rest >>= giving (looped a.0)
  header inside a_try tokens = Some (Some line.try, tokens)
  header inside a_finally tokens = Some (Some line.finally, tokens)
  header inside an_except tokens = if begins tokens then except_of inside tokens else Some (Some (line.except None None), tokens)
  header inside a_def tokens = define_of inside tokens
  header inside a_class tokens = class_of inside tokens

  -- ---- lines

  -- the statements after the colon of a header, if there are any
  unfoldable pub after_colon : Inside → Option Header → List Sign → Option (Option Line)
  after_colon inside h [] = Some (option_map (λ h. line.header h []) h)
  after_colon inside h (x ∷ tokens) = option_map (both line.header h) (whole (simples inside (x ∷ tokens)))

  unfoldable pub header_line : Inside → Head × List Sign → Option (Option Line)
  header_line inside k = header inside k.0 k.1 >>= λ h. mark_at m.Colon h.1 >>= after_colon inside h.0

  unfoldable pub simple_line : Inside → List Sign → Option (Option Line)
  simple_line inside tokens = option_map (option_map line.simples) (whole (simples inside tokens))

  -- None where the signs spell no line, and Some None where they spell one that is too deep
  unfoldable pub read_line : List Sign → Option (Option Line)
  read_line tokens = on (marked head_of tokens) (simple_line (nested most (length tokens)) tokens) (header_line (nested most (length tokens)))
