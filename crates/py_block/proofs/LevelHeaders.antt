-- Which headers go on with a statement, and levels after them.
use Rattle.std.proofs.Common.{◌≡◌, ℕ, Bool, true, false, List, [], ◌∷◌, ◌++◌, refl, ◌∙◌, Some, None}
use Rattle.py_ast.specs.Tree.{Tree}
use Rattle.py_ast.specs.Statement.{Block, empty}
use Rattle.py_grammar.specs.Line as l
use Rattle.py_block.specs.Machine as m

pub elif_except : (b : Block) (hs : List m.Clause) (more : Bool) (test : Tree) → m.goes_on (m.after_except b hs more) (l.elif test) ≡ None
elif_except b hs true test = refl
elif_except b hs false test = refl

pub else_except : (b : Block) (hs : List m.Clause) (more : Bool) → m.goes_on (m.after_except b hs more) l.else ≡ Some (m.try_else b hs)
else_except b hs true = refl
else_except b hs false = refl

pub finally_except : (b : Block) (hs : List m.Clause) (more : Bool) → m.goes_on (m.after_except b hs more) l.finally ≡ Some (m.finally_body b hs empty)
finally_except b hs true = refl
finally_except b hs false = refl
