-- What a call writes it tells by its events, in the same order.
use Rattle.std.proofs.Common.{◌≡◌, ℕ, zero, suc, ◌-◌, Bool, true, false, List, [], ◌∷◌, ◌++◌, length, max, refl, sym, ap, ◌∙◌}
use Rattle.std.specs.Prelude.{◌==◌}
use Rattle.flow_base.specs.declared.event.Event.{Event}
use Rattle.flow_base.specs.declared.event.Event.TheVariants.{Place, Write}
use Rattle.flow_base.specs.declared.key.Key.{Key}
use Rattle.flow_base.specs.declared.loc.Loc.{Loc}
use Rattle.flow_base.specs.declared.loc.Loc.TheVariants as loc
use Rattle.flow_base.specs.declared.numbers.ObjRef.{ObjRef}
use Rattle.heap_objects.specs.Calls.{clear_events, entry_writes, item_writes, length_write, put_events, put_writes, remove_events, splice_events, spliced_items}
use Rattle.heap_objects.specs.Changes.{clear_change, dict_change, each_key, item_changes, length_change, list_change, put_change, put_reads, remove_change, spellings, splice_change, told}
use Rattle.heap_objects.specs.Entries.{has_key}
use Rattle.heap_objects.specs.State.{item}
use Rattle.heap_objects.specs.declared.object.Cell.TheVariants as cell
use Rattle.heap_objects.specs.declared.object.Content.{Content}
use Rattle.heap_objects.specs.declared.object.Content.TheVariants.{Absent, Held, Length, Present}
use Rattle.heap_objects.specs.declared.tree.Entry.{Entry}
use Rattle.heap_objects.specs.declared.value.Value.{Value}

told_both : (ws vs : List (Loc × Content)) → told (ws ++ vs) ≡ told ws ++ told vs
told_both [] vs = refl
told_both (w ∷ ws) vs = ap (λ (es : List Event). Write w.0 ∷ es) (told_both ws vs)

told_items : (o : ObjRef) (items : List Value) (i n : ℕ) → item_writes o i n ≡ told (item_changes o items i n)
told_items o items i zero = refl
told_items o items i (suc n) = ap (λ (es : List Event). Write (item o i) ∷ es) (told_items o items (suc i) n)

told_length : (o : ObjRef) (n : ℕ) (b : Bool) → length_write o b ≡ told (length_change o n b)
told_length o n true = refl
told_length o n false = refl

told_keys : (value : Entry → Content) (shown : Content) (keys : List Value) (d : ObjRef) (es : List Entry) → entry_writes d es ≡ told (each_key value shown keys d es)
told_keys value shown keys d [] = refl
told_keys value shown keys d (e ∷ es) = ap (λ (x : List Event). Write (loc.Item d e.key) ∷ Write (loc.Present d e.key) ∷ x) (told_keys value shown keys d es)

pub told_splice : (o : ObjRef) (items : List Value) (i : ℕ) (tail : List Value) → splice_events o i tail (cell.List items) ≡ told (splice_change o i items (spliced_items items i tail))
told_splice o items i tail =
    ap (λ (x : List Event). x ++ length_write o (length items == length (spliced_items items i tail)))
    (told_items o (spliced_items items i tail) i (max (length items) (length (spliced_items items i tail)) - i))
    ∙ ap (λ (x : List Event). told (item_changes o (spliced_items items i tail) i (max (length items) (length (spliced_items items i tail)) - i)) ++ x)
    (told_length o (length (spliced_items items i tail)) (length items == length (spliced_items items i tail)))
    ∙ sym (told_both (item_changes o (spliced_items items i tail) i (max (length items) (length (spliced_items items i tail)) - i))
    (length_change o (length (spliced_items items i tail)) (length items == length (spliced_items items i tail))))

told_put_at : (d : ObjRef) (k : Key) (spelled v : Value) (es : List Entry) (b : Bool) → put_writes d k b ≡ put_reads d k b ++ told (put_change d k spelled v es b)
told_put_at d k spelled v es true = refl
told_put_at d k spelled v es false = refl

pub told_put : (d : ObjRef) (k : Key) (spelled v : Value) (es : List Entry) → put_events d k (cell.Dict es) ≡ put_reads d k (has_key es k) ++ told (put_change d k spelled v es (has_key es k))
told_put d k spelled v es = told_put_at d k spelled v es (has_key es k)

pub told_remove : (d : ObjRef) (k : Key) (es : List Entry) → remove_events d k (cell.Dict es) ≡ Place (loc.Shape d) ∷ told (remove_change d k es)
told_remove d k es = refl

pub told_clear : (d : ObjRef) (es : List Entry) → clear_events d (cell.Dict es) ≡ told (clear_change d es)
told_clear d es = told_keys (λ _. Absent) Absent [] d es

pub told_list : (o : ObjRef) (items : List Value) → item_writes o 0 (length items) ++ Write (loc.Shape o) ∷ [] ≡ told (list_change o items)
told_list o items =
    ap (λ (x : List Event). x ++ Write (loc.Shape o) ∷ []) (told_items o items 0 (length items))
    ∙ sym (told_both (item_changes o items 0 (length items)) ((loc.Shape o, Length (length items)) ∷ []))

pub told_dict : (d : ObjRef) (es : List Entry) → entry_writes d es ≡ told (dict_change d es)
told_dict d es = told_keys (λ e. Held e.value) Present (spellings es) d es
