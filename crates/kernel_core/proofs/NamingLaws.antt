-- Names that are put into the table statement by statement.
use Rattle.std.proofs.Common.{◌≡◌, ℕ, List, [], ◌∷◌, ◌++◌, refl}
use Rattle.std.specs.Prelude.{Option, Some, None}
use Rattle.std.proofs.lemmas.List.Sums.{fold-append}
use Rattle.flow_base.specs.Names.{with_name}
use Rattle.py_ast.specs.Statement.{view_stmt, view_block}
use Rattle.py_ast.specs.Tree.{Tree}
use Rattle.py_ast.specs.declared.stmt.Stmt.{Stmt}
use Rattle.plain_cells.specs.Plain.{assigned, name_bound, names_assigned, names_in, names_read, names_used}
use Rattle.kernel_core.specs.Naming.{one_name}
use Rattle.kernel_core.specs.State.{with_names}

names_step : (table : List (List ℕ)) (o : Option (List ℕ × Tree)) (rest : List (List ℕ))
    → with_names table (names_assigned o ++ rest) ≡ with_names (with_names (with_names table (one_name (name_bound o))) (names_read o)) rest
names_step table None rest = refl
names_step table (Some p) rest = fold-append with_name (with_name table p.0) (names_used p.1) rest

-- the names of the first statement, and then of the others
pub names_first : (table : List (List ℕ)) (s : Stmt) (statements : List Stmt)
    → with_names table (names_in (view_block (s ∷ statements)))
    ≡ with_names (with_names (with_names table (one_name (name_bound (assigned (view_stmt s))))) (names_read (assigned (view_stmt s)))) (names_in (view_block statements))
names_first table s statements = names_step table (assigned (view_stmt s)) (names_in (view_block statements))
