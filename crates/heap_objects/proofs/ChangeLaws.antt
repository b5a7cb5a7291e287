-- What a change of one object's cell changes of a state.
use Rattle.std.proofs.Common.{◌≡◌, ◌≢◌, ℕ, zero, suc, Bool, true, false, cond, List, [], ◌∷◌, refl, sym, ap, ◌∙◌, arith, eq-eqb, eqb-true, ne_eqb}
use Rattle.std.specs.Prelude.{Option, Some, None, ◌==◌, slice_get}
use Rattle.std.proofs.lemmas.Bool.{true≢false}
use Rattle.flow_base.specs.Same.{loc_eq}
use Rattle.flow_base.specs.declared.loc.Loc.{Loc}
use Rattle.flow_base.specs.declared.loc.Loc.TheVariants as loc
use Rattle.flow_base.specs.declared.numbers.ObjRef.{ObjRef}
use Rattle.flow_base.proofs.SameLaws.{same_loc_true}
use Rattle.heap_objects.specs.Changes.{Wrote, after}
use Rattle.heap_objects.specs.State.{State, cell_at, cell_in, changed, changed_at, content, content_in, object_in, object_of, with_cell}
use Rattle.heap_objects.specs.declared.object.Cell.{Cell}
use Rattle.heap_objects.specs.declared.object.Cell.TheVariants as cell
use Rattle.heap_objects.specs.declared.object.Content.{Content}
use Rattle.heap_objects.specs.declared.object.Node.{Node}

pub changed_head : (f : Cell → Cell) (n : Node) (ns : List Node) (i : ℕ) (o : Option Node) → changed_at f (n ∷ ns) (suc i) o ≡ n ∷ changed_at f ns i o
changed_head f n ns i None = refl
changed_head f n ns i (Some m) = refl

pub zero_suc : (j : ℕ) → 0 ≡ suc j → ⊥
zero_suc j e = let no : ⊥ = omega (arith, e) in no

pub suc_eqb : (i j : ℕ) → (suc i == suc j) ≡ (i == j)
suc_eqb i j = go (suc i == suc j) (i == j) refl refl
  where
    go : (a b : Bool) → (suc i == suc j) ≡ a → (i == j) ≡ b → a ≡ b
    go true true e f = refl
    go true false e f = let same : i ≡ j = omega (arith, eqb-true (suc i) (suc j) e) in absurd (true≢false (sym (eq-eqb i j same) ∙ f))
    go false true e f = absurd (true≢false (sym (eq-eqb (suc i) (suc j) (ap suc (eqb-true i j f))) ∙ e))
    go false false e f = refl

-- the cell at a place after a change
pub cell-changed : (f : Cell → Cell) (ns : List Node) (i j : ℕ) → f cell.Nothing ≡ cell.Nothing
    → cell_in (slice_get (changed f ns i) j) ≡ cond (i == j) (f (cell_in (slice_get ns j))) (cell_in (slice_get ns j))
cell-changed f [] i j e = go (i == j)
  where
    go : (b : Bool) → cell.Nothing ≡ cond b (f cell.Nothing) cell.Nothing
    go true = sym e
    go false = refl
cell-changed f (n ∷ ns) zero zero e = refl
cell-changed f (n ∷ ns) zero (suc j) e =
    sym (ap (λ (b : Bool). cond b (f (cell_in (slice_get ns j))) (cell_in (slice_get ns j))) (ne_eqb 0 (suc j) (λ p. zero_suc j p)))
cell-changed f (n ∷ ns) (suc i) zero e =
    ap (λ (x : List Node). cell_in (slice_get x zero)) (changed_head f n ns i (slice_get ns i))
    ∙ sym (ap (λ (b : Bool). cond b (f n.cell) n.cell) (ne_eqb (suc i) 0 (λ p. zero_suc i (sym p))))
cell-changed f (n ∷ ns) (suc i) (suc j) e =
    ap (λ (x : List Node). cell_in (slice_get x (suc j))) (changed_head f n ns i (slice_get ns i)) ∙ cell-changed f ns i j e
    ∙ ap (λ (b : Bool). cond b (f (cell_in (slice_get ns j))) (cell_in (slice_get ns j))) (sym (suc_eqb i j))

pub object-changed : (f : Cell → Cell) (ns : List Node) (i j : ℕ) → object_in (slice_get (changed f ns i) j) ≡ object_in (slice_get ns j)
object-changed f [] i j = refl
object-changed f (n ∷ ns) zero zero = refl
object-changed f (n ∷ ns) zero (suc j) = refl
object-changed f (n ∷ ns) (suc i) zero = ap (λ (x : List Node). object_in (slice_get x zero)) (changed_head f n ns i (slice_get ns i))
object-changed f (n ∷ ns) (suc i) (suc j) =
    ap (λ (x : List Node). object_in (slice_get x (suc j))) (changed_head f n ns i (slice_get ns i)) ∙ object-changed f ns i j

-- what a location holds is a matter of the cell of its object
pub content_of : (at : ObjRef → Cell) (l : Loc) → content_in at l ≡ content_in (λ _. at (object_of l)) l
content_of at (loc.Name f n) = refl
content_of at (loc.Attr o n) = refl
content_of at (loc.Item o k) = refl
content_of at (loc.Present o k) = refl
content_of at (loc.Shape o) = refl

same_object : (k l : Loc) → loc_eq k l ≡ true → object_of k ≡ object_of l
same_object k l e = ap object_of (same_loc_true k l e)

-- all writes are of one object
abbrev pub AreOf : ObjRef → List (Loc × Content) → Type 0
AreOf o [] = Unit {0}
AreOf o (w ∷ ws) = (object_of w.0 ≡ o) × AreOf o ws

pub after_other : (o : ObjRef) (ws : List (Loc × Content)) (c d : Loc → Content) (l : Loc) → AreOf o ws → o ≢ object_of l → c l ≡ d l → after ws c l ≡ d l
after_other o [] c d l of other e = e
after_other o (w ∷ ws) c d l of other e = after_other o ws (λ k. cond (loc_eq w.0 k) w.1 (c k)) d l of.1 other (go (loc_eq w.0 l) refl)
  where
    go : (b : Bool) → loc_eq w.0 l ≡ b → cond b w.1 (c l) ≡ d l
    go true t = absurd (other (sym of.0 ∙ same_object w.0 l t))
    go false t = e

pub after_same : (ws : List (Loc × Content)) (c d : Loc → Content) (l : Loc) → c l ≡ d l → after ws c l ≡ after ws d l
after_same [] c d l e = e
after_same (w ∷ ws) c d l e = after_same ws (λ k. cond (loc_eq w.0 k) w.1 (c k)) (λ k. cond (loc_eq w.0 k) w.1 (d k)) l (ap (λ x. cond (loc_eq w.0 l) w.1 x) e)

-- A change of a cell is these writes where it is so for the locations of its object.
pub wrote_cell : (o : ObjRef) (f : Cell → Cell) (ws : List (Loc × Content)) (s : State) → f cell.Nothing ≡ cell.Nothing → AreOf o ws
    → ((l : Loc) → o ≡ object_of l → content_in (λ _. f (cell_at s o)) l ≡ after ws (content_in (λ _. cell_at s o)) l) → Wrote ws s (with_cell o f s)
unfolding content with_cell
wrote_cell o f ws s nothing of law = record {
  objects = λ p. object-changed f s.nodes o.0 p.0;
  contents = λ l. content_of (cell_at (with_cell o f s)) l ∙ ap (λ (c : Cell). content_in (λ _. c) l) (cell-changed f s.nodes o.0 (object_of l).0 nothing) ∙ go l (o.0 == (object_of l).0) refl;
}
  where
    go : (l : Loc) (b : Bool) → (o.0 == (object_of l).0) ≡ b
        → content_in (λ _. cond b (f (cell_at s (object_of l))) (cell_at s (object_of l))) l ≡ after ws (content_in (cell_at s)) l
    go l true e =
        let same : o ≡ object_of l = ap (λ (n : ℕ). record { 0 = n }) (eqb-true o.0 (object_of l).0 e) in
        ap (λ (p : ObjRef). content_in (λ _. f (cell_at s p)) l) (sym same) ∙ law l same
        ∙ after_same ws (content_in (λ _. cell_at s o)) (content_in (cell_at s)) l
        (ap (λ (p : ObjRef). content_in (λ _. cell_at s p) l) same ∙ sym (content_of (cell_at s) l))
    go l false e =
        let other : o ≢ object_of l = λ p. true≢false (sym (eq-eqb o.0 (object_of l).0 (ap (λ (x : ObjRef). x.0) p)) ∙ e) in
        sym (content_of (cell_at s) l) ∙ sym (after_other o ws (content_in (cell_at s)) (content_in (cell_at s)) l of other refl)
