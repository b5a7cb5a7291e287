-- The parts of a line: what a phrase of each stands for, and what is kept of it.
use Rattle.std.proofs.Common.{ℕ, ◌<◌, List, Option}
use Rattle.py_ast.specs.Statement.{Statement}
use Rattle.py_grammar.specs.Grammar.{Primary, Expr, Exprs}
use Rattle.py_grammar.specs.Line.{Targets, Simple, Simples, Header, Heads}
use Rattle.py_grammar.specs.Kept.{Kept, keep}
use Rattle.py_grammar.specs.Reading.{primary, expr, exprs, params, nested}
use Rattle.py_grammar.specs.LineReading.{keep_simple, keep_simples, keep_header}
use Rattle.py_grammar.specs.declared.sign.Sign.{Sign}
use Rattle.py_grammar.proofs.Takes.{Spelled, Sound}
use Rattle.py_grammar.proofs.Phrases.{OfLevel, OfParams}
use Rattle.py_grammar.proofs.Sound.{primary_sound}
use Rattle.py_grammar.proofs.SoundLists.{expr_sound, exprs_sound, params_sound, nested_sound}

module _ (most : ℕ) where
  abbrev pub OfTargets : List Sign → Kept → Type 0
  OfTargets = Spelled Targets (keep most)

  abbrev pub OfSimple : List Sign → Option Statement → Type 0
  OfSimple = Spelled Simple (keep_simple most)

  abbrev pub OfSimples : List Sign → Option (List Statement) → Type 0
  OfSimples = Spelled Simples (keep_simples most)

  abbrev pub OfHeader : List Sign → Option Header → Type 0
  OfHeader = Spelled Heads (keep_header most)

  -- ---- the expressions of a line, over what is nested to a depth

  module _ (some : 0 < most) (n : ℕ) where
    pub primary_nested : Sound (OfLevel most Primary) (primary most (nested most n))
    primary_nested = primary_sound most some (nested most n) (nested_sound most some n)

    pub expr_nested : Sound (OfLevel most Expr) (expr most (nested most n))
    expr_nested = expr_sound most some (nested most n) (nested_sound most some n)

    pub exprs_nested : Sound (OfLevel most Exprs) (exprs most (nested most n))
    exprs_nested = exprs_sound most some (nested most n) (nested_sound most some n)

    pub params_nested : Sound (OfParams most) (params most (nested most n))
    params_nested = params_sound most some (nested most n) (nested_sound most some n)
