-- Writes of names, attributes and items change one location alone.
use Rattle.std.proofs.Common.{◌≡◌, ℕ, ◌<◌, ◌≤◌, List, [], ◌∷◌, length, refl, sym, subst}
use Rattle.std.specs.Prelude.{Bool, true, false, Option, Some}
use Rattle.flow_base.specs.declared.event.Event.{Event}
use Rattle.flow_base.specs.declared.event.Event.TheVariants.{Write}
use Rattle.flow_base.specs.declared.key.Key.{Key}
use Rattle.flow_base.specs.declared.loc.Loc.{Loc}
use Rattle.flow_base.specs.declared.loc.Loc.TheVariants.{Attr, Name}
use Rattle.flow_base.specs.declared.numbers.ObjRef.{ObjRef}
use Rattle.flow_base.specs.declared.numbers.Sym.{Sym}
use Rattle.heap_objects.specs.Calls.{clear_entries, clear_events, dict_clear, dict_put, dict_remove, list_put, put_entry, put_events, put_item, remove_entry, remove_events, splice_events, splice_items, spliced, spliced_items, store_attr, store_name, stored}
use Rattle.heap_objects.specs.Changes.{Wrote, after, clear_change, put_change, remove_change, splice_change}
use Rattle.heap_objects.specs.Entries.{has_key}
use Rattle.heap_objects.specs.State.{State, cell_at, content, content_in, held, item, logged, logged_all, with_cell}
use Rattle.heap_objects.specs.Storable.{HasAttrs, HoldsName}
use Rattle.heap_objects.specs.declared.object.Cell.{Cell}
use Rattle.heap_objects.specs.declared.object.Cell.TheVariants as cell
use Rattle.heap_objects.specs.declared.object.Content.{Content}
use Rattle.heap_objects.specs.declared.tree.Entry.{Entry}
use Rattle.heap_objects.specs.declared.value.Value.{Value}
use Rattle.heap_objects.proofs.CellLaws.{attr_law, name_law, put_entry_law, put_law, remove_law}
use Rattle.heap_objects.proofs.ChangeLaws.{AreOf, wrote_cell}
use Rattle.heap_objects.proofs.EachKeyLaws.{clear_law, of_keys}
use Rattle.heap_objects.proofs.ListLaws.{of_splice, splice_law}

pub nothing_wrote : (s : State) (e : Event) → Wrote [] s (logged e s)
unfolding logged content
nothing_wrote s e = record { objects = λ o. refl; contents = λ l. refl }

-- an event behind some writes
pub wrote_logged : (ws : List (Loc × Content)) (s t : State) (e : Event) → Wrote ws s t → Wrote ws s (logged e t)
unfolding logged content
wrote_logged ws s t e w = record { objects = λ o. w.objects o; contents = λ l. w.contents l }

pub name_wrote : (s : State) (f : ObjRef) (n : Sym) (v : Option Value) → HoldsName (cell_at s f) n → Wrote ((Name f n, held v) ∷ []) s (stored (Name f n) v s)
unfolding stored
name_wrote s f n v h =
    wrote_logged _ s (with_cell f (store_name n v) s) (Write (Name f n))
    (wrote_cell f (store_name n v) ((Name f n, held v) ∷ []) s refl (refl, tt) (λ l e. name_law (cell_at s f) f n v l h e))

pub attr_wrote : (s : State) (o : ObjRef) (n : Sym) (v : Option Value) → HasAttrs (cell_at s o) → Wrote ((Attr o n, held v) ∷ []) s (stored (Attr o n) v s)
unfolding stored
attr_wrote s o n v h =
    wrote_logged _ s (with_cell o (store_attr n v) s) (Write (Attr o n))
    (wrote_cell o (store_attr n v) ((Attr o n, held v) ∷ []) s refl (refl, tt) (λ l e. attr_law (cell_at s o) o n v l h e))

pub item_wrote : (s : State) (o : ObjRef) (items : List Value) (i : ℕ) (v : Value) → cell_at s o ≡ cell.List items → i < length items
    → Wrote ((item o i, held (Some v)) ∷ []) s (list_put o i v s)
unfolding list_put
item_wrote s o items i v is lt =
    wrote_logged _ s (with_cell o (put_item i v) s) (Write (item o i))
    (wrote_cell o (put_item i v) ((item o i, held (Some v)) ∷ []) s refl (refl, tt)
    (λ l e. subst (λ (c : Cell). content_in (λ _. put_item i v c) l ≡ after ((item o i, held (Some v)) ∷ []) (content_in (λ _. c)) l) (sym is) (put_law items o i v l lt e)))

-- several events behind some writes
pub wrote_logged_all : (ws : List (Loc × Content)) (s t : State) (es : List Event) → Wrote ws s t → Wrote ws s (logged_all es t)
unfolding logged_all content
wrote_logged_all ws s t es w = record { objects = λ o. w.objects o; contents = λ l. w.contents l }

put_of : (d : ObjRef) (k : Key) (spelled v : Value) (es : List Entry) (b : Bool) → AreOf d (put_change d k spelled v es b)
put_of d k spelled v es true = (refl, tt)
put_of d k spelled v es false = (refl, (refl, (refl, tt)))

pub put_wrote : (s : State) (d : ObjRef) (es : List Entry) (k : Key) (spelled v : Value) → cell_at s d ≡ cell.Dict es
    → Wrote (put_change d k spelled v es (has_key es k)) s (dict_put d k spelled v s)
unfolding dict_put
put_wrote s d es k spelled v is =
    wrote_logged_all _ s (with_cell d (put_entry k spelled v) s) (put_events d k (cell_at s d))
    (wrote_cell d (put_entry k spelled v) (put_change d k spelled v es (has_key es k)) s refl (put_of d k spelled v es (has_key es k))
    (λ l e. subst (λ (c : Cell). content_in (λ _. put_entry k spelled v c) l ≡ after (put_change d k spelled v es (has_key es k)) (content_in (λ _. c)) l) (sym is) (put_entry_law es d k spelled v l e)))

pub remove_wrote : (s : State) (d : ObjRef) (es : List Entry) (k : Key) → cell_at s d ≡ cell.Dict es → Wrote (remove_change d k es) s (dict_remove d k s)
unfolding dict_remove
remove_wrote s d es k is =
    wrote_logged_all _ s (with_cell d (remove_entry k) s) (remove_events d k (cell_at s d))
    (wrote_cell d (remove_entry k) (remove_change d k es) s refl (refl, (refl, (refl, tt)))
    (λ l e. subst (λ (c : Cell). content_in (λ _. remove_entry k c) l ≡ after (remove_change d k es) (content_in (λ _. c)) l) (sym is) (remove_law es d k l e)))

pub splice_wrote : (s : State) (o : ObjRef) (items : List Value) (i : ℕ) (tail : List Value) → cell_at s o ≡ cell.List items → i ≤ length items
    → Wrote (splice_change o i items (spliced_items items i tail)) s (spliced o i tail s)
unfolding spliced
splice_wrote s o items i tail is le =
    wrote_logged_all _ s (with_cell o (splice_items i tail) s) (splice_events o i tail (cell_at s o))
    (wrote_cell o (splice_items i tail) (splice_change o i items (spliced_items items i tail)) s refl (of_splice o i items (spliced_items items i tail))
    (λ l e. subst (λ (c : Cell). content_in (λ _. splice_items i tail c) l ≡ after (splice_change o i items (spliced_items items i tail)) (content_in (λ _. c)) l) (sym is) (splice_law items tail o i l le e)))

pub clear_wrote : (s : State) (d : ObjRef) (es : List Entry) → cell_at s d ≡ cell.Dict es → Wrote (clear_change d es) s (dict_clear d s)
unfolding dict_clear
clear_wrote s d es is =
    wrote_logged_all _ s (with_cell d clear_entries s) (clear_events d (cell_at s d))
    (wrote_cell d clear_entries (clear_change d es) s refl (of_keys _ _ _ d es)
    (λ l e. subst (λ (c : Cell). content_in (λ _. clear_entries c) l ≡ after (clear_change d es) (content_in (λ _. c)) l) (sym is) (clear_law es d l e)))
