-- What a clear and the making of a dictionary leave.
use Rattle.std.proofs.Common.{◌≡◌, Bool, true, false, cond, List, [], ◌∷◌, refl, sym, ap, ◌∙◌}
use Rattle.std.specs.Prelude.{Option, Some, None, is_some}
use Rattle.flow_base.specs.Same.{key_eq}
use Rattle.flow_base.specs.declared.key.Key.{Key}
use Rattle.flow_base.specs.declared.loc.Loc.{Loc}
use Rattle.flow_base.specs.declared.loc.Loc.TheVariants as loc
use Rattle.flow_base.specs.declared.numbers.ObjRef.{ObjRef}
use Rattle.flow_base.specs.declared.numbers.Sym.{Sym}
use Rattle.flow_base.proofs.SameLaws.{same_key_true}
use Rattle.heap_objects.specs.Calls.{clear_entries}
use Rattle.heap_objects.specs.Changes.{after, clear_change, dict_change, each_key, spellings}
use Rattle.heap_objects.specs.Entries.{entry_of, has_key}
use Rattle.heap_objects.specs.State.{content_in, entry_value, held, object_of, present_if}
use Rattle.heap_objects.specs.WellFormed.{AreKeyed}
use Rattle.heap_objects.specs.declared.object.Cell.TheVariants as cell
use Rattle.heap_objects.specs.declared.object.Content.{Content}
use Rattle.heap_objects.specs.declared.object.Content.TheVariants.{Absent, Held, Keys, Present}
use Rattle.heap_objects.specs.declared.tree.Entry.{Entry}
use Rattle.heap_objects.specs.declared.value.Value.{Value}
use Rattle.heap_objects.proofs.CellLaws.{own_key, own_shape}
use Rattle.heap_objects.proofs.ChangeLaws.{AreOf}

-- ---- the writes of each key

pub of_keys : (value : Entry → Content) (shown : Content) (keys : List Value) (d : ObjRef) (es : List Entry) → AreOf d (each_key value shown keys d es)
of_keys value shown keys d [] = (refl, tt)
of_keys value shown keys d (e ∷ es) = (refl, (refl, of_keys value shown keys d es))

each_name : (value : Entry → Content) (shown : Content) (keys : List Value) (d : ObjRef) (es : List Entry) (c : Loc → Content) (f : ObjRef) (n : Sym)
    → after (each_key value shown keys d es) c (loc.Name f n) ≡ c (loc.Name f n)
each_name value shown keys d [] c f n = refl
each_name value shown keys d (e ∷ es) c f n = each_name value shown keys d es _ f n

each_attr : (value : Entry → Content) (shown : Content) (keys : List Value) (d : ObjRef) (es : List Entry) (c : Loc → Content) (f : ObjRef) (n : Sym)
    → after (each_key value shown keys d es) c (loc.Attr f n) ≡ c (loc.Attr f n)
each_attr value shown keys d [] c f n = refl
each_attr value shown keys d (e ∷ es) c f n = each_attr value shown keys d es _ f n

each_shape : (value : Entry → Content) (shown : Content) (keys : List Value) (d : ObjRef) (es : List Entry) (c : Loc → Content) (f : ObjRef) → d ≡ f
    → after (each_key value shown keys d es) c (loc.Shape f) ≡ Keys keys
each_shape value shown keys d [] c f same = sym (own_shape d f (Keys keys) (c (loc.Shape f)) same)
each_shape value shown keys d (e ∷ es) c f same = each_shape value shown keys d es _ f same

-- a content that is written at each key
either_key : (e : Entry) (es : List Entry) (k : Key) (b : Bool) (x y : Content) → cond (has_key es k) x (cond b x y) ≡ cond (is_some (cond b (Some e) (entry_of es k))) x y
either_key e es k true x y = go (has_key es k)
  where
    go : (b : Bool) → cond b x x ≡ x
    go true = refl
    go false = refl
either_key e es k false x y = refl

each_present : (value : Entry → Content) (shown : Content) (keys : List Value) (d : ObjRef) (es : List Entry) (c : Loc → Content) (f : ObjRef) (k : Key) → d ≡ f
    → after (each_key value shown keys d es) c (loc.Present f k) ≡ cond (has_key es k) shown (c (loc.Present f k))
each_present value shown keys d [] c f k same = refl
each_present value shown keys d (e ∷ es) c f k same =
    each_present value shown keys d es _ f k same
    ∙ ap (λ (x : Content). cond (has_key es k) shown x) (sym (own_key d f e.key k shown (c (loc.Present f k)) same))
    ∙ either_key e es k (key_eq e.key k) shown (c (loc.Present f k))

each_gone : (shown : Content) (keys : List Value) (d : ObjRef) (es : List Entry) (c : Loc → Content) (f : ObjRef) (k : Key) → d ≡ f
    → after (each_key (λ _. Absent) shown keys d es) c (loc.Item f k) ≡ cond (has_key es k) Absent (c (loc.Item f k))
each_gone shown keys d [] c f k same = refl
each_gone shown keys d (e ∷ es) c f k same =
    each_gone shown keys d es _ f k same
    ∙ ap (λ (x : Content). cond (has_key es k) Absent x) (sym (own_key d f e.key k Absent (c (loc.Item f k)) same))
    ∙ either_key e es k (key_eq e.key k) Absent (c (loc.Item f k))

-- the value of a key, which stands once
value_head : (e : Entry) (es : List Entry) (k : Key) (b : Bool) (x : Content) → key_eq e.key k ≡ b → has_key es e.key ≡ false
    → cond (has_key es k) (held (entry_value (entry_of es k))) (cond b (Held e.value) x) ≡ cond (is_some (cond b (Some e) (entry_of es k))) (held (entry_value (cond b (Some e) (entry_of es k)))) x
value_head e es k true x is none =
    ap (λ (t : Bool). cond t (held (entry_value (entry_of es k))) (Held e.value)) (ap (has_key es) (sym (same_key_true e.key k is)) ∙ none)
value_head e es k false x is none = refl

each_value : (shown : Content) (keys : List Value) (d : ObjRef) (es : List Entry) (c : Loc → Content) (f : ObjRef) (k : Key) → AreKeyed es → d ≡ f
    → after (each_key (λ e. Held e.value) shown keys d es) c (loc.Item f k) ≡ cond (has_key es k) (held (entry_value (entry_of es k))) (c (loc.Item f k))
each_value shown keys d [] c f k h same = refl
each_value shown keys d (e ∷ es) c f k h same =
    each_value shown keys d es _ f k h.2 same
    ∙ ap (λ (x : Content). cond (has_key es k) (held (entry_value (entry_of es k))) x) (sym (own_key d f e.key k (Held e.value) (c (loc.Item f k)) same))
    ∙ value_head e es k (key_eq e.key k) (c (loc.Item f k)) refl h.1

-- ---- dictionaries

gone_value : (o : Option Entry) → Absent ≡ cond (is_some o) Absent (held (entry_value o))
gone_value None = refl
gone_value (Some e) = refl

gone_presence : (b : Bool) → Absent ≡ cond b Absent (present_if b)
gone_presence true = refl
gone_presence false = refl

pub clear_law : (es : List Entry) (o : ObjRef) (l : Loc) → o ≡ object_of l
    → content_in (λ _. clear_entries (cell.Dict es)) l ≡ after (clear_change o es) (content_in (λ _. cell.Dict es)) l
clear_law es o (loc.Name f n) same = sym (each_name (λ _. Absent) Absent [] o es _ f n)
clear_law es o (loc.Attr f n) same = sym (each_attr (λ _. Absent) Absent [] o es _ f n)
clear_law es o (loc.Item f k) same = gone_value (entry_of es k) ∙ sym (each_gone Absent [] o es _ f k same)
clear_law es o (loc.Present f k) same = gone_presence (has_key es k) ∙ sym (each_present (λ _. Absent) Absent [] o es _ f k same)
clear_law es o (loc.Shape f) same = sym (each_shape (λ _. Absent) Absent [] o es _ f same)

new_value : (o : Option Entry) → held (entry_value o) ≡ cond (is_some o) (held (entry_value o)) Absent
new_value None = refl
new_value (Some e) = refl

new_presence : (b : Bool) → present_if b ≡ cond b Present Absent
new_presence true = refl
new_presence false = refl

-- a dictionary that is made where nothing was held
pub dict_law : (es : List Entry) (o : ObjRef) (l : Loc) → AreKeyed es → o ≡ object_of l
    → content_in (λ _. cell.Dict es) l ≡ after (dict_change o es) (content_in (λ _. cell.Nothing)) l
dict_law es o (loc.Name f n) h same = sym (each_name (λ e. Held e.value) Present (spellings es) o es _ f n)
dict_law es o (loc.Attr f n) h same = sym (each_attr (λ e. Held e.value) Present (spellings es) o es _ f n)
dict_law es o (loc.Item f k) h same = new_value (entry_of es k) ∙ sym (each_value Present (spellings es) o es _ f k h same)
dict_law es o (loc.Present f k) h same = new_presence (has_key es k) ∙ sym (each_present (λ e. Held e.value) Present (spellings es) o es _ f k same)
dict_law es o (loc.Shape f) h same = sym (each_shape (λ e. Held e.value) Present (spellings es) o es _ f same)
