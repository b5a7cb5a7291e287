-- How the index of the table of names is tied to the list of its texts.
use Rattle.std.specs.Prelude.{◌≡◌, ◌≢◌, ℕ, List, AllPairs, Vec}
use Rattle.std.specs.Ordering.{nat_cmp}
use Rattle.std.specs.Cmp.Lexicographic.{slice_cmp}
use Rattle.std.specs.BTreeMap.{BTreeMap, get_by}
use Rattle.std.specs.declared.alloc.Global.{Global}
use Rattle.flow_base.specs.declared.numbers.Sym.{Sym}
use Rattle.flow_base.specs.Names.{symbol_of}

-- what the index has at each text is the symbol that the list gives it, and the list has each text once
pub record IsIndex (index : BTreeMap (Vec ℕ Global) Sym) (texts : List (List ℕ)) : Type 0 where
  pub finds : (q : List ℕ) → get_by (λ k. slice_cmp nat_cmp q k.items) index ≡ symbol_of texts q
  pub distinct : AllPairs (λ s t. s ≢ t) texts
