-- Operations keep objects well formed, and come to values that are allowed.
use Rattle.std.proofs.Common.{◌≡◌, ◌==◌, ◌∙◌, ◌-◌, ℕ, zero, suc, ℤ, max, Bool, true, false, cond, List, [], ◌∷◌, ◌++◌, length, Option, Some, None, Result, Ok, Err, refl, sym, ap, subst, eq-eqb}
use Rattle.std.specs.Prelude.{IsTrue, nat_le, nat_lt, option_map}
use Rattle.std.proofs.lemmas.List.Elements.{All-append, All-cons, All-nil}
use Rattle.exceptions_core.specs.declared.class.ExcClass.{ExcClass}
use Rattle.exceptions_core.specs.declared.class.ExcClass.TheVariants as class
use Rattle.exceptions_core.specs.declared.error.FaultKind.{FaultKind}
use Rattle.exceptions_core.specs.declared.error.FaultKind.TheVariants as error
use Rattle.flow_base.specs.declared.event.Event.TheVariants as event
use Rattle.flow_base.specs.declared.event.ReadHow.{ReadHow}
use Rattle.flow_base.specs.declared.key.Key.{Key}
use Rattle.flow_base.specs.declared.loc.Loc.{Loc}
use Rattle.flow_base.specs.declared.numbers.ObjRef.{ObjRef}
use Rattle.flow_base.specs.declared.numbers.Sym.{Sym}
use Rattle.heap_objects.specs.Calls as calls
use Rattle.heap_objects.specs.Changes.{Keeps}
use Rattle.heap_objects.specs.Keyed.{key_of}
use Rattle.heap_objects.specs.Nesting.{kept_step, tuple_of}
use Rattle.heap_objects.specs.State.{State, next_object, object_at}
use Rattle.heap_objects.specs.WellFormed.{AreSteady, IsAllowedIf, IsClassValue_at, IsInstance, IsNoFrame, IsWellFormed}
use Rattle.heap_objects.specs.declared.object.Object.{Object}
use Rattle.heap_objects.specs.declared.object.Object.TheVariants as object
use Rattle.heap_objects.specs.declared.value.TheConstants.{NESTING_LIMIT}
use Rattle.heap_objects.specs.declared.value.Value.{Value, out-Value}
use Rattle.heap_objects.specs.declared.value.Value.TheFolds.{fold-roll-Value}
use Rattle.heap_objects.specs.declared.value.Value.TheOpen as v
use Rattle.heap_objects.specs.declared.value.Value.TheOpen.{Value-F}
use Rattle.heap_objects.specs.declared.value.Value.TheViews.{out-roll-Value}
use Rattle.heap_objects.proofs.FormedLaws.{dict_formed, event_formed, instance_formed, item_formed, list_formed, put_formed, remove_formed, splice_formed, store_formed}
use Rattle.heap_objects.proofs.KeptLaws.{kept_event, kept_itself, kept_item, kept_put_at, kept_remove, kept_splice, kept_store}
use Rattle.heap_objects.proofs.MadeLaws.{dict_made, instance_made, kept_dict, kept_instance, kept_list, list_made}
use Rattle.heap_objects.proofs.SlotLaws.{none_some, same_some}
use Rattle.interp_laws.specs.Formed.{Allowed, AllowedAll, AllowedObject, AllowedStep, AllowedWalk, Any, AreSteadyCodes, Codes, Ends, Gives, IsFormed, rules_of}
use Rattle.interp_laws.proofs.AllowedLaws.{all_more, allowed_builtin, allowed_int, allowed_more, allowed_object, allowed_text, allowed_tuple, get_held, key_allowed, parts_allowed, steady_rules, value_allowed}
use Rattle.interp_laws.proofs.Kept.{Kept, Raises, Reads}
use Rattle.interp_laws.proofs.LaterLaws.{keeps_then}
use Rattle.interp_machine.specs.Kinds.{kind, kind_at, kind_of, object_kind, pair, pair_of}
use Rattle.interp_machine.specs.Meaning.{Outcome, M, go_on, ◌>>=◌, ◌>>◌, pure, stop_with, steps, fixed, load, present, shape, key_at, store, list_put, list_splice, dict_put, dict_remove, new_list, new_dict, new_instance, raise, give_args, new_error, error_of, error_with, fault, fault_named, nests_over, object_value, text_value, builtin_value, with_heap}
use Rattle.interp_machine.specs.Symbols.{class_symbol}
use Rattle.interp_machine.specs.Walks.{collect, counted, gather, go_through, int_value, member, member_after, next, next_of, point_value, some_member, walk, walk_of}
use Rattle.interp_machine.specs.declared.kinds.Kind.{Kind}
use Rattle.interp_machine.specs.declared.kinds.Kind.TheVariants as k
use Rattle.interp_machine.specs.declared.kinds.Pair.{Pair}
use Rattle.interp_machine.specs.declared.kinds.Pair.TheVariants as two
use Rattle.interp_machine.specs.declared.machine.Machine.{Machine}
use Rattle.interp_machine.specs.declared.stop.Stop.{Stop}
use Rattle.interp_machine.specs.declared.stop.Stop.TheVariants as stop
use Rattle.interp_machine.specs.declared.walks.Walker.{Walker}
use Rattle.interp_machine.specs.declared.walks.Walker.TheVariants as w
use Rattle.interp_ops.specs.Making.{all_keyed, make_dict, make_list, make_text, make_tuple, tuple}

-- the object that is made
new_at : (s t : State) (new : Object) → object_at t (next_object s) ≡ cond (length s.nodes == length s.nodes) (Some new) (object_at s (next_object s))
    → object_at t (next_object s) ≡ Some new
new_at s t new e = e ∙ ap (λ (b : Bool). cond b (Some new) (object_at s (next_object s))) (eq-eqb (length s.nodes) (length s.nodes) refl)

class_known : (c : ExcClass) → IsTrue (nat_lt (class_symbol c).0 39)
class_known class.Exception = refl
class_known class.ArithmeticError = refl
class_known class.ZeroDivisionError = refl
class_known class.LookupError = refl
class_known class.IndexError = refl
class_known class.KeyError = refl
class_known class.NameError = refl
class_known class.UnboundLocalError = refl
class_known class.RuntimeError = refl
class_known class.RecursionError = refl
class_known class.AttributeError = refl
class_known class.TypeError = refl
class_known class.ValueError = refl
class_known class.AssertionError = refl

text_low : (t : List ℕ) → nests_over (text_value t ∷ []) ≡ false
text_low t = ap (λ (n : ℕ). nat_le NESTING_LIMIT (max n 0)) (fold-roll-Value ℕ kept_step (v.Text t))

option_text : (o : Option ℕ) (x : Value) → option_map point_value o ≡ Some x → (c : ℕ) × (point_value c ≡ x)
option_text None x e = absurd (none_some x e)
option_text (Some c) x e = (c, same_some (point_value c) x e)

module _ (codes : Codes) (steady : AreSteadyCodes codes) where
  abbrev GoodIf : State → Option Value → Type 0
  GoodIf s x = IsAllowedIf (rules_of codes) s x

  rules_steady : AreSteady (rules_of codes)
  rules_steady = steady_rules codes steady

  pub good_more : (s t : State) → Keeps s t → (x : Value) → Allowed codes s x → Allowed codes t x
  good_more s t l x h = allowed_more (rules_of codes) s t rules_steady l x h

  pub good_all : (s t : State) → Keeps s t → (xs : List Value) → AllowedAll codes s xs → AllowedAll codes t xs
  good_all s t l xs h = all_more (rules_of codes) s t rules_steady l xs h

  pub good_if : (s t : State) → Keeps s t → (x : Option Value) → IsAllowedIf (rules_of codes) s x → IsAllowedIf (rules_of codes) t x
  good_if s t l o h x e = good_more s t l x (h x e)

  pub walk_more : (s t : State) → Keeps s t → (x : Walker) → AllowedWalk codes s x → AllowedWalk codes t x
  walk_more s t l (w.Parts xs i) h = good_all s t l xs h
  walk_more s t l (w.Items o i) h = tt
  walk_more s t l (w.Keys d i) h = tt
  walk_more s t l (w.Points x i) h = tt
  walk_more s t l (w.Range a b n) h = tt

  pub no_value : (s : State) → IsAllowedIf (rules_of codes) s None
  no_value s x e = absurd (none_some x e)

  pub one_value : (s : State) (y : Value) → Allowed codes s y → IsAllowedIf (rules_of codes) s (Some y)
  one_value s y h x e = subst (Allowed codes s) (same_some y x e) h

  -- ---- the judgement

  pub record Goes {A : Type 0} (Q : State → A → Type 0) (s : State) (o : Outcome A) : Type 0 where
    pub later : Keeps s o.1.heap
    pub formed : IsFormed codes o.1
    pub result : Gives codes Q o.1.heap o.0

  -- from every formed machine that has the objects of this state
  pub record Lawful {A : Type 0} (Q : State → A → Type 0) (s : State) (p : M A) : Type 0 where
    pub lawful : (m : Machine) → Keeps s m.heap → IsFormed codes m → Goes Q m.heap (p m)

  pub lawful-pure : {A : Type 0} (Q : State → A → Type 0) (s : State) (a : A) → ((t : State) → Keeps s t → Q t a) → Lawful Q s (pure a)
  lawful-pure Q s a h = record { lawful = λ m l i. record { later = kept_itself m.heap; formed = i; result = h m.heap l } }

  on : {A B : Type 0} (Q : State → A → Type 0) {Z : State → B → Type 0} (u : State) (r : Result A Stop) (m : Machine) (f : A → M B) → Keeps u m.heap → IsFormed codes m → Gives codes Q m.heap r
      → ((a : A) → Q m.heap a → Lawful Z m.heap (f a)) → Goes Z u (go_on r m f)
  on Q u (Ok a) m f l i q h =
      let e = (h a q).lawful m (kept_itself m.heap) i in record { later = keeps_then u m.heap (f a m).1.heap l e.later; formed = e.formed; result = e.result }
  on Q u (Err (stop.Raised x)) m f l i q h = record { later = l; formed = i; result = q }
  on Q u (Err stop.Steps) m f l i q h = record { later = l; formed = i; result = tt }
  on Q u (Err stop.Range) m f l i q h = record { later = l; formed = i; result = tt }
  on Q u (Err stop.NoMemory) m f l i q h = record { later = l; formed = i; result = tt }

  pub lawful-bind : {A B : Type 0} {Q : State → A → Type 0} {Z : State → B → Type 0} {s : State} {p : M A} {f : A → M B}
      → Lawful Q s p → ((t : State) → Keeps s t → (a : A) → Q t a → Lawful Z t (f a)) → Lawful Z s (p >>= f)
  lawful-bind {Q = Q} {s = s} {p = p} {f = f} hp hf = record {
    lawful = λ m l i.
        let e = hp.lawful m l i in
        on Q m.heap (p m).0 (p m).1 f e.later e.formed e.result (λ a q. hf (p m).1.heap (keeps_then s m.heap (p m).1.heap l e.later) a q);
  }

  pub lawful-machine : {A : Type 0} (Q : State → A → Type 0) (s : State) (p : Machine → M A) → ((m : Machine) → Lawful Q s (p m)) → Lawful Q s (λ m. p m m)
  lawful-machine Q s p h = record { lawful = λ m l i. (h m).lawful m l i }

  pub lawful-cond : {A : Type 0} (Q : State → A → Type 0) (s : State) (b : Bool) (p q : M A) → (b ≡ true → Lawful Q s p) → (b ≡ false → Lawful Q s q) → Lawful Q s (cond b p q)
  lawful-cond Q s true p q h g = h refl
  lawful-cond Q s false p q h g = g refl

  pub lawful-steps : {A : Type 0} (Q : State → A → Type 0) (s : State) → Lawful Q s (stop_with {A = A} stop.Steps)
  lawful-steps Q s = record { lawful = λ m l i. record { later = kept_itself m.heap; formed = i; result = tt } }

  pub lawful-range : {A : Type 0} (Q : State → A → Type 0) (s : State) → Lawful Q s (stop_with {A = A} stop.Range)
  lawful-range Q s = record { lawful = λ m l i. record { later = kept_itself m.heap; formed = i; result = tt } }

  raised_lawful : {A : Type 0} (Q : State → A → Type 0) (s : State) (o : ObjRef) → AllowedObject codes s o → Lawful Q s (stop_with {A = A} (stop.Raised (object_value o)))
  raised_lawful Q s o h = record { lawful = λ m l i. record { later = kept_itself m.heap; formed = i; result = good_more s m.heap l (object_value o) h } }

  pub raise_lawful : {A : Type 0} (Q : State → A → Type 0) (s : State) (p : M ObjRef) → Lawful (AllowedObject codes) s p → Lawful Q s (raise {A = A} p)
  raise_lawful Q s p h = lawful-bind h (λ t l o q. raised_lawful Q t o q)

  -- ---- the primitive operations

  with_state : (m : Machine) (t : State) → IsFormed codes m → IsWellFormed (rules_of codes) t → IsFormed codes (with_heap t m)
  with_state m t i h = record { heap = h; names = i.names }

  pub steps_lawful : (s : State) (n : ℕ) → Lawful Any s (steps n)
  unfolding steps
  steps_lawful s n = record { lawful = λ m l i. go m i (nat_le n m.left) }
    where
      go : (m : Machine) → IsFormed codes m → (b : Bool)
          → Goes Any m.heap (cond {A = Outcome (Unit {0})} b (Ok tt, record m { left = m.left - n }) (Err stop.Steps, record m { left = 0 }))
      go m i true = record { later = kept_itself m.heap; formed = record { heap = i.heap; names = i.names }; result = tt }
      go m i false = record { later = kept_itself m.heap; formed = record { heap = i.heap; names = i.names }; result = tt }

  pub load_lawful : (s : State) (x : Loc) → Lawful GoodIf s (load x)
  unfolding load
  load_lawful s x = record {
    lawful = λ m l i. record {
      later = kept_event m.heap (event.Use x);
      formed = with_state m _ i (event_formed (rules_of codes) m.heap (event.Use x) rules_steady i.heap);
      result = good_if m.heap _ (kept_event m.heap (event.Use x)) _ (value_allowed (rules_of codes) m.heap i.heap x);
    };
  }

  pub present_lawful : (s : State) (d : ObjRef) (key : Key) → Lawful Any s (present d key)
  unfolding present
  present_lawful s d key = record {
    lawful = λ m l i. record {
      later = kept_event m.heap _;
      formed = with_state m _ i (event_formed (rules_of codes) m.heap _ rules_steady i.heap);
      result = tt;
    };
  }

  pub shape_lawful : (s : State) (how : ReadHow) (o : ObjRef) → Lawful Any s (shape how o)
  unfolding shape
  shape_lawful s how o = record {
    lawful = λ m l i. record {
      later = kept_event m.heap _;
      formed = with_state m _ i (event_formed (rules_of codes) m.heap _ rules_steady i.heap);
      result = tt;
    };
  }

  pub key_at_lawful : (s : State) (d : ObjRef) (n : ℕ) → Lawful GoodIf s (key_at d n)
  unfolding key_at
  key_at_lawful s d n = record {
    lawful = λ m l i. record { later = kept_itself m.heap; formed = i; result = key_allowed (rules_of codes) m.heap i.heap d n };
  }

  pub fixed_lawful : (s : State) (o : ObjRef) → Lawful (λ t r. r ≡ object_at t o) s (fixed o)
  unfolding fixed
  fixed_lawful s o = record { lawful = λ m l i. record { later = kept_itself m.heap; formed = i; result = refl } }

  pub store_lawful : (s : State) (x : Loc) (y : Option Value) → IsAllowedIf (rules_of codes) s y → Lawful Any s (store x y)
  unfolding store
  store_lawful s x y h = record {
    lawful = λ m l i. record {
      later = kept_store m.heap x y;
      formed = with_state m _ i (store_formed (rules_of codes) m.heap x y rules_steady i.heap (good_if s m.heap l y h));
      result = tt;
    };
  }

  pub list_put_lawful : (s : State) (o : ObjRef) (n : ℕ) (x : Value) → Allowed codes s x → Lawful Any s (list_put o n x)
  unfolding list_put
  list_put_lawful s o n x h = record {
    lawful = λ m l i. record {
      later = kept_item m.heap o n x;
      formed = with_state m _ i (item_formed (rules_of codes) m.heap o n x rules_steady i.heap (good_more s m.heap l x h));
      result = tt;
    };
  }

  pub list_splice_lawful : (s : State) (o : ObjRef) (n : ℕ) (tail : List Value) → AllowedAll codes s tail → Lawful Any s (list_splice o n tail)
  unfolding list_splice
  list_splice_lawful s o n tail h = record {
    lawful = λ m l i. record {
      later = kept_splice m.heap o n tail;
      formed = with_state m _ i (splice_formed (rules_of codes) m.heap o n tail rules_steady i.heap (good_all s m.heap l tail h));
      result = tt;
    };
  }

  pub dict_put_lawful : (s : State) (d : ObjRef) (key x : Value) → Allowed codes s key → Allowed codes s x → Lawful Any s (dict_put d key x)
  unfolding dict_put
  dict_put_lawful s d key x g h = record {
    lawful = λ m l i. record {
      later = kept_put_at m.heap d (key_of key) key x;
      formed = with_state m _ i (put_formed (rules_of codes) m.heap d key x rules_steady i.heap (good_more s m.heap l key g) (good_more s m.heap l x h));
      result = tt;
    };
  }

  pub dict_remove_lawful : (s : State) (d : ObjRef) (key : Key) → Lawful Any s (dict_remove d key)
  unfolding dict_remove
  dict_remove_lawful s d key = record {
    lawful = λ m l i. record {
      later = kept_remove m.heap d key;
      formed = with_state m _ i (remove_formed (rules_of codes) m.heap d key rules_steady i.heap);
      result = tt;
    };
  }

  new_allowed : (s t : State) (new : Object) → object_at t (next_object s) ≡ Some new → IsNoFrame (Some new) → AllowedObject codes t (next_object s)
  new_allowed s t new e is = allowed_object (rules_of codes) t (next_object s) (subst IsNoFrame (sym e) is)

  pub new_list_lawful : (s : State) (items : List Value) → AllowedAll codes s items → Lawful (AllowedObject codes) s (new_list items)
  unfolding new_list
  new_list_lawful s items h = record {
    lawful = λ m l i. record {
      later = kept_list m.heap items;
      formed = with_state m _ i (list_formed (rules_of codes) m.heap items rules_steady i.heap (good_all s m.heap l items h));
      result = new_allowed m.heap (calls.new_list items m.heap) object.List (new_at m.heap (calls.new_list items m.heap) object.List ((list_made m.heap items).objects (next_object m.heap))) tt;
    };
  }

  pub new_dict_lawful : (s : State) (keys values : List Value) → AllowedAll codes s keys → AllowedAll codes s values → Lawful (AllowedObject codes) s (new_dict keys values)
  unfolding new_dict
  new_dict_lawful s keys values g h = record {
    lawful = λ m l i. record {
      later = kept_dict m.heap keys values;
      formed = with_state m _ i (dict_formed (rules_of codes) m.heap keys values rules_steady i.heap (good_all s m.heap l keys g) (good_all s m.heap l values h));
      result = new_allowed m.heap (calls.new_dict keys values m.heap) object.Dict
          (new_at m.heap (calls.new_dict keys values m.heap) object.Dict ((dict_made m.heap keys values).objects (next_object m.heap))) tt;
    };
  }

  -- ---- errors

  class_allowed : (s : State) (c : ExcClass) → Allowed codes s (builtin_value (class_symbol c))
  class_allowed s c = allowed_builtin (rules_of codes) s (class_symbol c) (class_known c)

  pub new_error_lawful : (s : State) (c : ExcClass) → Lawful (AllowedObject codes) s (new_error c)
  unfolding new_instance
  new_error_lawful s c = record {
    lawful = λ m l i. record {
      later = kept_instance m.heap x;
      formed = with_state m _ i (instance_formed (rules_of codes) m.heap x rules_steady i.heap
          (subst (IsClassValue_at (object_at m.heap)) (sym (out-roll-Value (v.Builtin (class_symbol c)))) tt) (class_allowed m.heap c).lawful);
      result = new_allowed m.heap (calls.new_instance x m.heap) (object.Instance x)
          (new_at m.heap (calls.new_instance x m.heap) (object.Instance x) ((instance_made m.heap x).objects (next_object m.heap))) tt;
    };
  }
    where
      x : Value
      x = builtin_value (class_symbol c)

  give_args_lawful : (s : State) (o : ObjRef) (x : Value) → AllowedObject codes s o → Allowed codes s (tuple_of (x ∷ [])) → Lawful (AllowedObject codes) s (give_args o x)
  give_args_lawful s o x g h =
      lawful-bind (store_lawful s _ _ (one_value s _ h)) (λ t l u q. lawful-pure (AllowedObject codes) t o (λ r j. good_more s r (keeps_then s t r l j) (object_value o) g))

  one_tuple : (s : State) (x : Value) → nests_over (x ∷ []) ≡ false → Allowed codes s x → Allowed codes s (tuple_of (x ∷ []))
  one_tuple s x low h = allowed_tuple (rules_of codes) s (x ∷ []) low (All-cons (Allowed codes s) x [] h (All-nil (Allowed codes s)))

  pub error_of_lawful : (s : State) (what : FaultKind) (name : List ℕ) → Lawful (AllowedObject codes) s (error_of what name)
  unfolding error_of
  error_of_lawful s what name =
      lawful-bind (new_error_lawful s _) (λ t l o q. give_args_lawful t o _ q (one_tuple t _ (text_low _) (allowed_text (rules_of codes) t _)))

  pub error_with_lawful : (s : State) (c : ExcClass) (x : Value) → Allowed codes s x → Lawful (AllowedObject codes) s (error_with c x)
  unfolding error_with
  error_with_lawful s c x h =
      lawful-bind (new_error_lawful s c) (λ t l o q. lawful-cond (AllowedObject codes) t _ _ _ (λ e. error_of_lawful t _ [])
      (λ e. give_args_lawful t o x q (one_tuple t x e (good_more s t l x h))))

  pub fault_lawful : {A : Type 0} (Q : State → A → Type 0) (s : State) (what : FaultKind) → Lawful Q s (fault {A = A} what)
  fault_lawful Q s what = raise_lawful Q s _ (error_of_lawful s what [])

  pub fault_named_lawful : {A : Type 0} (Q : State → A → Type 0) (s : State) (what : FaultKind) (name : Sym) → Lawful Q s (fault_named {A = A} what name)
  fault_named_lawful {A} Q s what name = lawful-machine Q s _ (λ m. raise_lawful {A = A} Q s _ (error_of_lawful s what _))

  -- ---- new values

  pub object_lawful : (s : State) (o : ObjRef) → AllowedObject codes s o → Lawful (Allowed codes) s (pure (object_value o))
  object_lawful s o h = lawful-pure (Allowed codes) s _ (λ t l. good_more s t l (object_value o) h)

  pub make_list_lawful : (s : State) (items : List Value) → AllowedAll codes s items → Lawful (Allowed codes) s (make_list items)
  unfolding make_list
  make_list_lawful s items h =
      lawful-bind (steps_lawful s _) (λ t l u q.
      lawful-bind (new_list_lawful t items (good_all s t l items h)) (λ r j o g. object_lawful r o g))

  pub tuple_lawful : (s : State) (xs : List Value) → AllowedAll codes s xs → Lawful (Allowed codes) s (tuple xs)
  tuple_lawful s xs h =
      lawful-cond (Allowed codes) s _ _ _ (λ e. fault_lawful (Allowed codes) s _)
      (λ e. lawful-pure (Allowed codes) s _ (λ t l. good_more s t l (tuple_of xs) (allowed_tuple (rules_of codes) s xs e h)))

  pub make_tuple_lawful : (s : State) (xs : List Value) → AllowedAll codes s xs → Lawful (Allowed codes) s (make_tuple xs)
  unfolding make_tuple
  make_tuple_lawful s xs h = lawful-bind (steps_lawful s _) (λ t l u q. tuple_lawful t xs (good_all s t l xs h))

  pub make_text_lawful : (s : State) (x : List ℕ) → Lawful (Allowed codes) s (make_text x)
  unfolding make_text
  make_text_lawful s x = lawful-bind (steps_lawful s _) (λ t l u q. lawful-pure (Allowed codes) t _ (λ r j. allowed_text (rules_of codes) r x))

  pub make_dict_lawful : (s : State) (keys values : List Value) → AllowedAll codes s keys → AllowedAll codes s values → Lawful (Allowed codes) s (make_dict keys values)
  unfolding make_dict
  make_dict_lawful s keys values g h =
      lawful-cond (Allowed codes) s (all_keyed keys) (steps (length keys) >> (new_dict keys values >>= λ d. pure (object_value d))) (fault error.Kind) (λ e.
      lawful-bind (steps_lawful s _) (λ t l u q.
      lawful-bind (new_dict_lawful t keys values (good_all s t l keys g) (good_all s t l values h)) (λ r j d o. object_lawful r d o)))
      (λ e. fault_lawful (Allowed codes) s _)

  pub int_lawful : (s : State) (n : ℤ) → Lawful (Allowed codes) s (pure (int_value n))
  int_lawful s n = lawful-pure (Allowed codes) s _ (λ t l. allowed_int (rules_of codes) t n)

  -- ---- kinds

  -- what holds of the kind of a value that is allowed
  abbrev pub KindSo : State → Kind → Type 0
  KindSo s (k.Tuple xs) = AllowedAll codes s xs
  KindSo s (k.Instance o class) = IsInstance (object_at s o)
  KindSo s _ = Unit {0}

  object_so : (s : State) (o : ObjRef) (p : Option Object) → object_at s o ≡ p → KindSo s (object_kind o p)
  object_so s o None e = tt
  object_so s o (Some (object.Frame parent)) e = tt
  object_so s o (Some object.List) e = tt
  object_so s o (Some object.Dict) e = tt
  object_so s o (Some (object.Instance class)) e = subst IsInstance (sym e) tt
  object_so s o (Some (object.Class name base)) e = tt
  object_so s o (Some (object.Function name code defaults parent)) e = tt

  level_so : (s : State) (x : Value) → Allowed codes s x → (y : Value-F Value) → out-Value x ≡ y → KindSo s (kind_at (object_at s) y)
  level_so s x h v.Nil e = tt
  level_so s x h (v.Truth true) e = tt
  level_so s x h (v.Truth false) e = tt
  level_so s x h (v.Int n) e = tt
  level_so s x h (v.Text t) e = tt
  level_so s x h (v.Tuple xs kept) e = parts_allowed (rules_of codes) s x xs kept e h
  level_so s x h (v.Range a b c) e = tt
  level_so s x h (v.Builtin f) e = tt
  level_so s x h (v.Obj o) e = object_so s o (object_at s o) refl
  level_so s x h (v.Bound f o) e = tt
  level_so s x h (v.Method f o) e = tt

  pub kind_so : (s : State) (x : Value) → Allowed codes s x → KindSo s (kind_of s x)
  kind_so s x h = level_so s x h (out-Value x) refl

  pub kind_lawful : (s : State) (x : Value) → Lawful (λ t y. y ≡ kind_of t x) s (kind x)
  unfolding kind
  kind_lawful s x = record { lawful = λ m l i. record { later = kept_itself m.heap; formed = i; result = refl } }

  -- the kind of a value that is allowed
  pub kind_good : (s : State) (x : Value) → Allowed codes s x → Lawful KindSo s (kind x)
  unfolding kind
  kind_good s x h = record { lawful = λ m l i. record { later = kept_itself m.heap; formed = i; result = kind_so m.heap x (good_more s m.heap l x h) } }

  abbrev pub PairSo : State → Pair → Type 0
  PairSo s (two.Tuples xs ys) = AllowedAll codes s xs × AllowedAll codes s ys
  PairSo s _ = Unit {0}

  pair_so : (s : State) (x y : Kind) → KindSo s x → KindSo s y → PairSo s (pair_of x y)
  pair_so s (k.Tuple xs) (k.Tuple ys) g h = (g, h)
  pair_so s (k.Number m) (k.Number n) g h = tt
  pair_so s (k.Text t) (k.Text x) g h = tt
  pair_so s (k.List o) (k.List p) g h = tt
  pair_so s (k.Dict d) (k.Dict e) g h = tt
  pair_so s x y g h = tt

  pub pair_good : (s : State) (a b : Value) → Allowed codes s a → Allowed codes s b → Lawful PairSo s (pair a b)
  unfolding pair
  pair_good s a b g h = record {
    lawful = λ m l i. record {
      later = kept_itself m.heap;
      formed = i;
      result = pair_so m.heap _ _ (kind_so m.heap a (good_more s m.heap l a g)) (kind_so m.heap b (good_more s m.heap l b h));
    };
  }

  -- ---- walks

  counted_lawful : (s : State) (x : Option Value) (after : Walker) → IsAllowedIf (rules_of codes) s x → AllowedWalk codes s after → Lawful (AllowedStep codes) s (counted x after)
  unfolding counted
  counted_lawful s None after h g = lawful-pure (AllowedStep codes) s _ (λ t l. (no_value t, walk_more s t l after g))
  counted_lawful s (Some x) after h g =
      lawful-bind (steps_lawful s 1) (λ t l u q.
      lawful-pure (AllowedStep codes) t _ (λ r j. (good_if s r (keeps_then s t r l j) (Some x) h, walk_more s r (keeps_then s t r l j) after g)))

  some_member_lawful : (s : State) (a step : ℤ) (n : ℕ) → Lawful (AllowedStep codes) s (some_member a step n)
  unfolding some_member
  some_member_lawful s a step n =
      counted_lawful s (Some (int_value a)) (w.Range (member_after a step n) step n) (one_value s (int_value a) (allowed_int (rules_of codes) s a)) tt

  member_lawful : (s : State) (a step : ℤ) (n : ℕ) → Lawful (AllowedStep codes) s (member a step n)
  unfolding member
  member_lawful s a step n =
      lawful-cond (AllowedStep codes) s (n == 0) (pure (None, w.Range a step 0)) (some_member a step (n - 1))
      (λ e. lawful-pure (AllowedStep codes) s (None, w.Range a step 0) (λ t l. (no_value t, tt))) (λ e. some_member_lawful s a step (n - 1))

  pub point_good : (s : State) (o : Option ℕ) → IsAllowedIf (rules_of codes) s (option_map point_value o)
  point_good s o x e = let c = option_text o x e in subst (Allowed codes s) c.1 (allowed_text (rules_of codes) s (c.0 ∷ []))

  next_of_lawful : (s : State) (x : Walker) → AllowedWalk codes s x → Lawful (AllowedStep codes) s (next_of x)
  next_of_lawful s (w.Items o i) h = lawful-bind (load_lawful s _) (λ t l x q. counted_lawful t x _ q tt)
  next_of_lawful s (w.Keys d i) h = lawful-bind (key_at_lawful s d i) (λ t l x q. counted_lawful t x _ q tt)
  next_of_lawful s (w.Parts xs i) h = counted_lawful s _ (w.Parts xs (suc i)) (λ x e. get_held (Allowed codes s) xs i x h e) h
  next_of_lawful s (w.Points x i) h = counted_lawful s _ (w.Points x (suc i)) (point_good s _) tt
  next_of_lawful s (w.Range a step n) h = member_lawful s a step n

  pub next_lawful : (s : State) (x : Walker) → AllowedWalk codes s x → Lawful (AllowedStep codes) s (next x)
  unfolding next
  next_lawful s x h = next_of_lawful s x h

  walk_pure : (s : State) (x : Walker) → AllowedWalk codes s x → Lawful (AllowedWalk codes) s (pure x)
  walk_pure s x h = lawful-pure (AllowedWalk codes) s x (λ t l. walk_more s t l x h)

  walk_of_lawful : (s : State) (x : Kind) → KindSo s x → Lawful (AllowedWalk codes) s (walk_of x)
  walk_of_lawful s (k.List o) h = walk_pure s _ tt
  walk_of_lawful s (k.Dict d) h = lawful-bind (shape_lawful s _ d) (λ t l n q. walk_pure t (w.Keys d 0) tt)
  walk_of_lawful s (k.Tuple xs) h = walk_pure s _ h
  walk_of_lawful s (k.Text t) h = walk_pure s _ tt
  walk_of_lawful s (k.Range start end step) h = walk_pure s _ tt
  walk_of_lawful s k.Nil h = fault_lawful (AllowedWalk codes) s _
  walk_of_lawful s (k.Number n) h = fault_lawful (AllowedWalk codes) s _
  walk_of_lawful s (k.Instance o class) h = fault_lawful (AllowedWalk codes) s _
  walk_of_lawful s (k.Class o) h = fault_lawful (AllowedWalk codes) s _
  walk_of_lawful s k.Other h = fault_lawful (AllowedWalk codes) s _

  pub walk_lawful : (s : State) (x : Value) → Allowed codes s x → Lawful (AllowedWalk codes) s (walk x)
  unfolding walk
  walk_lawful s x h = lawful-bind (kind_good s x h) (λ t l y q. walk_of_lawful t y q)

  all_with : (s : State) (xs : List Value) (x : Value) → AllowedAll codes s xs → Allowed codes s x → AllowedAll codes s (xs ++ x ∷ [])
  all_with s xs x g h = All-append (Allowed codes s) xs (x ∷ []) g (All-cons (Allowed codes s) x [] h (All-nil (Allowed codes s)))

  pub all_lawful : (s : State) (xs : List Value) → AllowedAll codes s xs → Lawful (AllowedAll codes) s (pure xs)
  all_lawful s xs h = lawful-pure (AllowedAll codes) s xs (λ t l. good_all s t l xs h)

  go_through_lawful : (more : Walker → List Value → M (List Value))
      → ((t : State) (x : Walker) (done : List Value) → AllowedWalk codes t x → AllowedAll codes t done → Lawful (AllowedAll codes) t (more x done))
      → (s : State) (done : List Value) (part : Option Value × Walker) → AllowedAll codes s done → AllowedStep codes s part → Lawful (AllowedAll codes) s (go_through more done part)
  go_through_lawful more h s done (None, x) g q = all_lawful s done g
  go_through_lawful more h s done (Some part, x) g q = h s x _ q.1 (all_with s done part g (q.0 part refl))

  gather_lawful : (n : ℕ) (s : State) (x : Walker) (done : List Value) → AllowedWalk codes s x → AllowedAll codes s done → Lawful (AllowedAll codes) s (gather n x done)
  unfolding gather
  gather_lawful zero s x done h g = lawful-steps (AllowedAll codes) s
  gather_lawful (suc n) s x done h g =
      lawful-bind (next_lawful s x h) (λ t l part q. go_through_lawful (gather n) (gather_lawful n) t done part (good_all s t l done g) q)

  pub collect_lawful : (s : State) (x : Walker) → AllowedWalk codes s x → Lawful (AllowedAll codes) s (collect x)
  unfolding collect
  collect_lawful s x h = lawful-machine (AllowedAll codes) s (λ m. gather (suc m.left) x []) (λ m. gather_lawful (suc m.left) s x [] h (All-nil (Allowed codes s)))

  -- ---- operations whose results are no values

  raised_so : {A : Type 0} (Q : State → A → Type 0) (r : Result A Stop) (m : Machine) → Gives codes Q m.heap r → Raises (IsFormed codes) (λ n x. Allowed codes n.heap x) r m
  raised_so Q (Ok a) m h = tt
  raised_so Q (Err (stop.Raised x)) m h = h
  raised_so Q (Err stop.Steps) m h = tt
  raised_so Q (Err stop.Range) m h = tt
  raised_so Q (Err stop.NoMemory) m h = tt

  kept_of : {A : Type 0} (Q : State → A → Type 0) (p : M A) → ((s : State) → Lawful Q s p) → Kept (IsFormed codes) (λ n x. Allowed codes n.heap x) p
  kept_of Q p h = record {
    kept = λ m i. ((h m.heap).lawful m (kept_itself m.heap) i).formed;
    raises = λ m i. raised_so Q (p m).0 (p m).1 ((h m.heap).lawful m (kept_itself m.heap) i).result;
  }

  pub formed_reads : Reads (IsFormed codes) (λ n x. Allowed codes n.heap x)
  formed_reads = record {
    steps_kept = λ n. kept_of Any _ (λ s. steps_lawful s n);
    load_kept = λ x. kept_of GoodIf _ (λ s. load_lawful s x);
    present_kept = λ d key. kept_of Any _ (λ s. present_lawful s d key);
    shape_kept = λ how o. kept_of Any _ (λ s. shape_lawful s how o);
    error_of_made = λ what name. record {
      made = kept_of (AllowedObject codes) _ (λ s. error_of_lawful s what name);
      good = λ m i o e. subst (Gives codes (AllowedObject codes) (error_of what name m).1.heap) e ((error_of_lawful m.heap what name).lawful m (kept_itself m.heap) i).result;
    };
  }

  gives_any : {A : Type 0} (r : Result A Stop) (m : Machine) → Raises (IsFormed codes) (λ n x. Allowed codes n.heap x) r m → Gives codes Any m.heap r
  gives_any (Ok a) m h = tt
  gives_any (Err (stop.Raised x)) m h = h
  gives_any (Err stop.Steps) m h = tt
  gives_any (Err stop.Range) m h = tt
  gives_any (Err stop.NoMemory) m h = tt

  pub ends_kept : {A : Type 0} (p : M A) → Kept (IsFormed codes) (λ n x. Allowed codes n.heap x) p → (m : Machine) → IsFormed codes m → Ends codes Any (p m)
  ends_kept p h m i = record { formed = h.kept m i; result = gives_any (p m).0 (p m).1 (h.raises m i) }

  pub ends : {A : Type 0} (Q : State → A → Type 0) (p : M A) (m : Machine) → Lawful Q m.heap p → IsFormed codes m → Ends codes Q (p m)
  ends Q p m h i = let e = h.lawful m (kept_itself m.heap) i in record { formed = e.formed; result = e.result }
