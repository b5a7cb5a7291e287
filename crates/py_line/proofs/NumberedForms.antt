-- Lines with the numbers of their nodes.
use Rattle.std.proofs.Common.{◌≡◌, ℕ, zero, suc, ◌+◌, List, ◌∷◌, ◌++◌, length, refl, sym, ap, ◌∙◌, arith}
use Rattle.py_ast.specs.Nodes.{Node, count_from, nodes_of_block}
use Rattle.py_ast.specs.Statement.{Statement}
use Rattle.py_ast.specs.declared.stmt.Stmt.{Stmt}
use Rattle.py_grammar.specs.Line.{Header, header}
use Rattle.py_line.specs.Numbers.{size_of_statements}
use Rattle.py_line.specs.declared.form.LineForm.{LineForm}
use Rattle.py_line.specs.Form.{IsNumberedFrom, NumberedStatements, numbers, numbers_of_form}
use Rattle.py_line.proofs.NumberRuns.{both_counted}

pub same_line : (h g : Header) (ss ts : List Statement) → h ≡ g → ss ≡ ts → header h ss ≡ header g ts
same_line h g ss ts p q = ap (λ (z : Header). header z ss) p ∙ ap (λ (z : List Statement). header g z) q

-- a header without nodes
pub body_alone : (n : ℕ) (ss : List Statement) (xs : List Stmt) → NumberedStatements n ss xs → numbers (nodes_of_block xs) ≡ count_from n (0 + size_of_statements ss)
body_alone n ss xs q = q.in_order ∙ ap (λ (z : ℕ). count_from n z) (let f : size_of_statements ss ≡ 0 + size_of_statements ss = omega arith in f)

-- the nodes of a header, before the statements after its colon
pub with_body : (n m a : ℕ) (ns : List Node) (ss : List Statement) (xs : List Stmt) → numbers ns ≡ count_from n a → m ≡ n + a → NumberedStatements m ss xs
    → numbers (ns ++ nodes_of_block xs) ≡ count_from n (a + size_of_statements ss)
with_body n m a ns ss xs p h q = both_counted n m a (size_of_statements ss) ns (nodes_of_block xs) p h q.in_order

-- a header that is a node, before the nodes below it and the statements
pub headed : (n k j : ℕ) (ns : List Node) → numbers ns ≡ count_from (n + 1) k → j ≡ 1 + k → (n ∷ numbers ns) ≡ count_from n j
headed n k j ns p h = ap (λ (z : List ℕ). n ∷ z) p ∙ ap (λ (z : ℕ). count_from n z) (let f : suc k ≡ j = omega arith in f)

pub node_with_body : (n m a : ℕ) (ns : List Node) (ss : List Statement) (xs : List Stmt) → numbers ns ≡ count_from (n + 1) a → m ≡ n + 1 + a
    → NumberedStatements m ss xs → (n ∷ numbers (ns ++ nodes_of_block xs)) ≡ count_from n (1 + a + size_of_statements ss)
node_with_body n m a ns ss xs p h q =
    headed n (a + size_of_statements ss) (1 + a + size_of_statements ss) (ns ++ nodes_of_block xs) (with_body (n + 1) m a ns ss xs p h q) (omega arith)

length_counted : (n k : ℕ) → length (count_from n k) ≡ k
length_counted n zero = refl
length_counted n (suc k) = let e : length (count_from (n + 1) k) ≡ k = length_counted (n + 1) k in omega arith

-- as many numbers as nodes
pub as_many : (n k : ℕ) (form : LineForm) → numbers_of_form form ≡ count_from n k → length (numbers_of_form form) ≡ k
as_many n k form p = ap (λ (z : List ℕ). length z) p ∙ length_counted n k

pub in_order : (n k : ℕ) (form : LineForm) → numbers_of_form form ≡ count_from n k → IsNumberedFrom n form
in_order n k form p = p ∙ ap (λ (z : ℕ). count_from n z) (sym (as_many n k form p))
