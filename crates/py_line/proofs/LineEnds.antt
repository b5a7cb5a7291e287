-- Where nothing is left: whether there are expressions, whether all of the signs are read, and the statements after a colon.
use Rattle.std.proofs.Common.{◌≡◌, ℕ, suc, ◌==◌, Bool, true, false, List, [], ◌∷◌, length, Option, Some, None, option_map, refl, ◌∙◌, ◌<◌, arith}
use Rattle.std.proofs.lemmas.Bool.Decides.{nat_tests}
use Rattle.py_ast.specs.View.{views}
use Rattle.py_ast.specs.declared.expr.Expr.{Expr}
use Rattle.py_grammar.specs.Kept.{all, is_none_kept}
use Rattle.py_grammar.specs.Line as line
use Rattle.py_grammar.specs.Line.{Header}
use Rattle.py_grammar.specs.LineReading.{after_colon, both, simples, whole}
use Rattle.py_grammar.specs.declared.sign.Sign.{Sign}
use Rattle.py_line.specs.declared.fault.ReadFault.{ReadFault}
use Rattle.py_line.specs.declared.fault.ReadFault.TheVariants.{NoLine, NoMemory}
use Rattle.py_line.specs.Full.{full}
use Rattle.py_line.specs.Gives.{Fails}

not_none : (n : ℕ) → (suc n == 0) ≡ false
not_none n = grind (arith, nat_tests)

pub none_of : (xs : List Expr) (d : ℕ) (b : Bool) → b ≡ (length xs == 0) → b ≡ is_none_kept (all (views xs) d)
none_of [] d b e = e
none_of (x ∷ xs) d b e = e ∙ not_none (length xs)

pub whole_of : {A : Type 0} (a : A) (rest : List Sign) (b : Bool) → b ≡ (length rest == 0) → b ≡ true → whole (Some (a, rest)) ≡ Some a
whole_of a [] b e t = refl
whole_of a (x ∷ rest) b e t = let n = not_none (length rest) in cc

pub whole_not : {A : Type 0} (a : A) (rest : List Sign) (b : Bool) → b ≡ (length rest == 0) → b ≡ false → whole (Some (a, rest)) ≡ None
whole_not a [] b e t = cc
whole_not a (x ∷ rest) b e t = refl

pub fails_map : {A B : Type 0} (f : A → B) (o : Option A) (fault : ReadFault) → Fails fault o → Fails fault (option_map f o)
fails_map f (Some a) NoLine e = cc
fails_map f None NoLine e = refl
fails_map f o NoMemory e = tt

pub colon_ends : (h : Option Header) (tokens : List Sign) → length tokens ≡ 0
    → after_colon 60 (full 60) h tokens ≡ Some (both line.header h (Some []))
unfolding after_colon
colon_ends (Some h) [] e = refl
colon_ends None [] e = refl
colon_ends h (x ∷ tokens) e = absurd (omega arith)

pub colon_goes : (h : Option Header) (tokens : List Sign) → 0 < length tokens
    → after_colon 60 (full 60) h tokens ≡ option_map (both line.header h) (whole (simples 60 (full 60) tokens))
unfolding after_colon
colon_goes h [] e = absurd (omega arith)
colon_goes h (x ∷ tokens) e = refl
