-- What is answered to a text, by what `parse`, `scopes` and `line_of` answer, and what it means.
use Rattle.std.proofs.Common.{◌≡◌, ◌↔◌, ℕ, List, [], Option, Some, None, Result, Ok, Err, refl, sym, ap, subst, ◌∙◌}
use Rattle.flow_base.specs.declared.kinds.SyntaxKind.{SyntaxKind}
use Rattle.flow_base.specs.declared.kinds.SyntaxKind.TheVariants.{Scope}
use Rattle.py_ast.specs.Nodes.{IsNumbered}
use Rattle.py_ast.specs.Statement.{Block, view_cell}
use Rattle.py_ast.specs.declared.cell.Cell.{Cell}
use Rattle.py_block.specs.Answer as block
use Rattle.py_block.specs.Answer.{IsCellOf}
use Rattle.py_block.specs.Cell.{IsParsed, SpellsText}
use Rattle.py_block.specs.NodeLines.{HasNode, line_at}
use Rattle.py_block.specs.Parsed.{Fault, parsed}
use Rattle.py_block.specs.declared.fault.SyntaxFault.{SyntaxFault}
use Rattle.py_block.specs.declared.fault.SyntaxFault.TheVariants.{At, NoMemory}
use Rattle.py_numbered.specs.Numbered.{numbered}
use Rattle.py_scope.specs.Chart.{faults_of_cell, first_fault}
use Rattle.py_scope.specs.Faults.{least}
use Rattle.py_accepted.specs.Accepted.{IsFaultOf, cell_of, with_scopes, without_fault}
use Rattle.py_accepted.specs.Faults.{HasScopeFault}
use Rattle.py_accepted.proofs.FaultNodes.{first_within}
use Rattle.py_accepted.proofs.Least.{is_least, least_is, none_least}

-- ---- what is answered to a text that spells a cell, and to one that spells none

pub spelled : (text : List ℕ) (b : Block) → parsed text ≡ Ok b → cell_of text ≡ without_fault text b (first_fault (numbered b))
unfolding cell_of
spelled text b e = ap (with_scopes text) e

pub not_spelled : (text : List ℕ) (fault : Fault) → parsed text ≡ Err fault → cell_of text ≡ Err fault
unfolding cell_of
not_spelled text fault e = ap (with_scopes text) e

module _ (same : (c : Cell) → IsNumbered c → c ≡ numbered (view_cell c)) (text : List ℕ) (c : Cell) (h : IsCellOf text c) where
  fault_is : first_fault (numbered (view_cell c)) ≡ first_fault c
  fault_is = ap first_fault (sym (same c h.numbered))

  pub accepted : first_fault c ≡ None → cell_of text ≡ Ok (view_cell c)
  accepted e = spelled text (view_cell c) h.spelled ∙ ap (without_fault text (view_cell c)) (fault_is ∙ e)

  pub refused : (node line : ℕ) → first_fault c ≡ Some node → line ≡ line_at text node → cell_of text ≡ Err (line, Scope)
  refused node line e f =
      spelled text (view_cell c) h.spelled
      ∙ ap (without_fault text (view_cell c)) (fault_is ∙ e)
      ∙ ap (λ (l : ℕ). Err (l, Scope)) (sym f)

pub has_node : (text : List ℕ) (c : Cell) (node : ℕ) → IsCellOf text c → first_fault c ≡ Some node → HasNode text node
has_node text c node h e =
    let w = first_within c node h.numbered e in
    record { cell = c; spelled = h; from_one = w.from_one; within = w.up_to }

pub told : (text : List ℕ) (fault : SyntaxFault) → block.IsFaultOf text fault → IsFaultOf text fault
told text (At line kind) e = not_spelled text (line, kind) e
told text NoMemory e = tt

-- ---- what it means

data Case (text : List ℕ) : Type 0 where
  no_fault : (b : Block) → parsed text ≡ Ok b → first_fault (numbered b) ≡ None → cell_of text ≡ Ok b → Case text
  of_scope : (b : Block) (node : ℕ) → parsed text ≡ Ok b → first_fault (numbered b) ≡ Some node
      → cell_of text ≡ Err (line_at text node, Scope) → Case text
  before : (fault : Fault) → parsed text ≡ Err fault → cell_of text ≡ Err fault → Case text

case_of : (text : List ℕ) → Case text
case_of text = by_parsed (parsed text) refl
  where
    by_fault : (b : Block) (o : Option ℕ) → parsed text ≡ Ok b → first_fault (numbered b) ≡ o → Case text
    by_fault b None p e = no_fault b p e (spelled text b p ∙ ap (without_fault text b) e)
    by_fault b (Some node) p e = of_scope b node p e (spelled text b p ∙ ap (without_fault text b) e)

    by_parsed : (r : Result Block Fault) → parsed text ≡ r → Case text
    by_parsed (Ok b) p = by_fault b (first_fault (numbered b)) p refl
    by_parsed (Err fault) p = before fault p (not_spelled text fault p)

cell_means : (text : List ℕ) (b : Block) → Case text → cell_of text ≡ Ok b → (parsed text ≡ Ok b) × (faults_of_cell (numbered b) ≡ [])
cell_means text b (no_fault d p e f) g =
    let same : d ≡ b = cc in
    subst (λ z. (parsed text ≡ Ok z) × (faults_of_cell (numbered z) ≡ [])) same (p, none_least (faults_of_cell (numbered d)) e)
cell_means text b (of_scope d node p e f) g = cc
cell_means text b (before fault p f) g = cc

pub cell_where : (text : List ℕ) (b : Block) → (cell_of text ≡ Ok b) ↔ ((parsed text ≡ Ok b) × (faults_of_cell (numbered b) ≡ []))
cell_where text b = (
  cell_means text b (case_of text),
  λ h. spelled text b h.0 ∙ ap (λ (ns : List ℕ). without_fault text b (least ns)) h.1,
)

other_means : (text : List ℕ) (line : ℕ) (kind : SyntaxKind) → (kind ≡ Scope → ⊥) → Case text → cell_of text ≡ Err (line, kind)
    → parsed text ≡ Err (line, kind)
other_means text line kind other (no_fault d p e f) g = cc
other_means text line kind other (of_scope d node p e f) g =
    let same : (line_at text node, Scope) ≡ (line, kind) = cc in
    absurd (other (sym (ap (λ (z : Fault). z.1) same)))
other_means text line kind other (before fault p f) g = p ∙ sym f ∙ g

pub other_where : (text : List ℕ) (line : ℕ) (kind : SyntaxKind) → (kind ≡ Scope → ⊥)
    → (cell_of text ≡ Err (line, kind)) ↔ (parsed text ≡ Err (line, kind))
other_where text line kind other = (other_means text line kind other (case_of text), not_spelled text (line, kind))

module _ (sound : (text : List ℕ) → IsParsed text (parsed text)) (complete : (text : List ℕ) (b : Block) → SpellsText text b → parsed text ≡ Ok b) where
  scope_means : (text : List ℕ) (line : ℕ) → Case text → cell_of text ≡ Err (line, Scope) → HasScopeFault text line
  scope_means text line (no_fault d p e f) g = cc
  scope_means text line (of_scope d node p e f) g =
      let same : (line_at text node, Scope) ≡ (line, Scope) = cc in
      let w = is_least (faults_of_cell (numbered d)) node e in
      record {
        block = d;
        spells = subst (IsParsed text) p (sound text);
        node = node;
        first = record { faulty = w.0; first = w.1 };
        begins = sym (ap (λ (z : Fault). z.0) same);
      }
  scope_means text line (before fault p f) g =
      let is : parsed text ≡ Err (line, Scope) = p ∙ sym f ∙ g in
      absurd (subst (IsParsed text) is (sound text))

  scope_told : (text : List ℕ) (line : ℕ) → HasScopeFault text line → cell_of text ≡ Err (line, Scope)
  scope_told text line h =
      spelled text h.block (complete text h.block h.spells)
      ∙ ap (without_fault text h.block) (least_is (faults_of_cell (numbered h.block)) h.node h.first.faulty h.first.first)
      ∙ ap (λ (l : ℕ). Err (l, Scope)) (sym h.begins)

  pub scope_where : (text : List ℕ) (line : ℕ) → (cell_of text ≡ Err (line, Scope)) ↔ HasScopeFault text line
  scope_where text line = (scope_means text line (case_of text), scope_told text line)
