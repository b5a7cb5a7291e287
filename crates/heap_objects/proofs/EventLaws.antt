-- Lists of events, put at the end of others.
use Rattle.std.proofs.Common.{◌≡◌, ℕ, zero, suc, ◌+◌, ◌-◌, ◌<◌, ◌≤◌, List, [], ◌∷◌, ◌++◌, refl, sym, ap, ◌∙◌, append_assoc, arith, drop, length}
use Rattle.flow_base.specs.declared.event.Event.{Event}
use Rattle.flow_base.specs.declared.event.Event.TheVariants.{Write}
use Rattle.flow_base.specs.declared.numbers.ObjRef.{ObjRef}
use Rattle.std.specs.Prelude.{Some, slice_get}
use Rattle.flow_base.specs.declared.loc.Loc.TheVariants.{Item, Present, Shape}
use Rattle.heap_objects.specs.Calls.{entry_writes, item_writes}
use Rattle.heap_objects.specs.State.{item}
use Rattle.heap_objects.specs.declared.tree.Entry.{Entry}
use Rattle.std.proofs.lemmas.List.{drop_all}
use Rattle.heap_objects.proofs.SlotLaws.{none_some, same_some}

-- no events more
pub no_more : (es : List Event) → es ≡ es ++ []
no_more [] = refl
no_more (e ∷ es) = ap (λ (x : List Event). e ∷ x) (no_more es)

first_write : (o : ObjRef) (i n m : ℕ) → n ≡ suc m → item_writes o i n ≡ Write (item o i) ∷ item_writes o (i + 1) m
first_write o i n m e =
    let next : suc i ≡ i + 1 = omega arith in
    ap (λ (k : ℕ). item_writes o i k) e ∙ ap (λ (k : ℕ). Write (item o i) ∷ item_writes o k m) next

-- one write more of those that are left
pub writes-step : (o : ObjRef) (i to : ℕ) (before now next : List Event) → i < to → before ≡ now ++ item_writes o i (to - i) → next ≡ now ++ Write (item o i) ∷ []
    → before ≡ next ++ item_writes o (i + 1) (to - (i + 1))
writes-step o i to before now next lt is step =
    let left : to - i ≡ suc (to - (i + 1)) = omega arith in
    is ∙ ap (λ (x : List Event). now ++ x) (first_write o i (to - i) (to - (i + 1)) left)
    ∙ sym (append_assoc now (Write (item o i) ∷ []) (item_writes o (i + 1) (to - (i + 1))))
    ∙ ap (λ (x : List Event). x ++ item_writes o (i + 1) (to - (i + 1))) (sym step)

-- the first of the entries that are left
pub drop-at : (es : List Entry) (i : ℕ) (e : Entry) → Some e ≡ slice_get es i → drop i es ≡ e ∷ drop (suc i) es
drop-at [] i e h = absurd (none_some e (sym h))
drop-at (x ∷ xs) zero e h = ap (λ (y : Entry). y ∷ xs) (sym (same_some e x h))
drop-at (x ∷ xs) (suc i) e h = drop-at xs i e h

-- the writes of one entry more
pub entries-step : (d : ObjRef) (es : List Entry) (i : ℕ) (e : Entry) (before now next : List Event) → Some e ≡ slice_get es i → before ≡ now ++ entry_writes d (drop i es)
    → next ≡ (now ++ Write (Item d e.key) ∷ []) ++ Write (Present d e.key) ∷ [] → before ≡ next ++ entry_writes d (drop (i + 1) es)
entries-step d es i e before now next at is step =
    let later : suc i ≡ i + 1 = omega arith in
    is ∙ ap (λ (x : List Entry). now ++ entry_writes d x) (drop-at es i e at ∙ ap (λ (k : ℕ). e ∷ drop k es) later)
    ∙ sym (append_assoc now (Write (Item d e.key) ∷ Write (Present d e.key) ∷ []) (entry_writes d (drop (i + 1) es)))
    ∙ ap (λ (x : List Event). x ++ entry_writes d (drop (i + 1) es)) (sym (step ∙ append_assoc now (Write (Item d e.key) ∷ []) (Write (Present d e.key) ∷ [])))

pub entries-end : (d : ObjRef) (es : List Entry) (i : ℕ) (before now : List Event) → length es ≤ i → before ≡ now ++ entry_writes d (drop i es) → before ≡ now ++ Write (Shape d) ∷ []
entries-end d es i before now past is = is ∙ ap (λ (x : List Entry). now ++ entry_writes d x) (drop_all i es past)
