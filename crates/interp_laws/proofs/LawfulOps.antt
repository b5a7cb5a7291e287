-- The same of lookups, operators and items.
use Rattle.std.proofs.Common.{◌≡◌, ℕ, zero, suc, ℤ, pos, negsuc, Bool, true, false, List, [], ◌∷◌, length, Option, Some, None, Result, Ok, Err, refl, sym, ap, subst}
use Rattle.std.specs.Prelude.{nat_le}
use Rattle.std.proofs.lemmas.List.Elements.{All-append, All-cons, All-drop, All-nil}
use Rattle.exceptions_core.specs.declared.class.ExcClass.TheVariants.{KeyError}
use Rattle.exceptions_core.specs.declared.error.FaultKind.TheVariants as error
use Rattle.flow_base.specs.declared.key.Key.{Key}
use Rattle.flow_base.specs.declared.numbers.ObjRef.{ObjRef}
use Rattle.flow_base.specs.declared.numbers.Sym.{Sym}
use Rattle.heap_objects.specs.Changes.{Keeps}
use Rattle.heap_objects.specs.Nesting.{kept_nesting}
use Rattle.heap_objects.specs.State.{State, object_at}
use Rattle.heap_objects.specs.WellFormed.{IsAllowedIf, IsFunction, IsInstance}
use Rattle.heap_objects.specs.declared.object.Object.{Object}
use Rattle.heap_objects.specs.declared.object.Object.TheVariants as object
use Rattle.heap_objects.specs.declared.value.TheConstants.{NESTING_LIMIT}
use Rattle.heap_objects.specs.declared.value.Value.{Value, roll-Value}
use Rattle.heap_objects.specs.declared.value.Value.TheOpen as v
use Rattle.heap_objects.specs.declared.value.Value.TheOpen.{Value-F}
use Rattle.heap_objects.proofs.KeptLaws.{kept_itself}
use Rattle.heap_objects.proofs.RefersLaws.{keeps_more}
use Rattle.interp_laws.specs.Formed.{has_method, Allowed, AllowedAll, Any, AreSteadyCodes, Codes, rules_of}
use Rattle.interp_laws.proofs.AllowedLaws.{allowed_bound, allowed_method, get_held}
use Rattle.interp_laws.proofs.LaterLaws.{keeps_then}
use Rattle.interp_machine.specs.Kinds.{kind_of}
use Rattle.interp_machine.specs.Meaning.{M, pure, raise, error_with, fault}
use Rattle.interp_machine.specs.declared.kinds.Kind.{Kind}
use Rattle.interp_machine.specs.declared.kinds.Kind.TheVariants as k
use Rattle.interp_machine.specs.declared.kinds.Pair.{Pair}
use Rattle.interp_machine.specs.declared.kinds.Pair.TheVariants as two
use Rattle.interp_machine.specs.declared.walks.Walker.TheVariants as w
use Rattle.interp_ops.specs.Lookups as look
use Rattle.interp_ops.specs.Operators as ops
use Rattle.interp_ops.specs.Subscripts as sub
use Rattle.interp_ops.specs.declared.products.Product.{Product}
use Rattle.interp_ops.specs.declared.products.Product.TheVariants as p
use Rattle.interp_ops.specs.declared.operators.BinaryOp.{BinaryOp}
use Rattle.interp_ops.specs.declared.operators.BinaryOp.TheVariants as binop
use Rattle.py_scalars.specs.declared.numbers.NumFault.{NumFault}
use Rattle.py_scalars.specs.declared.numbers.NumFault.TheVariants.{ZeroDiv, Range}
use Rattle.interp_laws.proofs.Lawful.{KindSo, PairSo, Lawful, all_lawful, collect_lawful, dict_put_lawful, dict_remove_lawful, error_with_lawful, fault_lawful, fault_named_lawful, fixed_lawful, good_all, good_if, good_more, int_lawful, kind_good, kind_lawful, kind_so, lawful-bind, lawful-cond, lawful-machine, lawful-pure, lawful-range, list_put_lawful, list_splice_lawful, load_lawful, make_list_lawful, make_text_lawful, make_tuple_lawful, no_value, pair_good, point_good, present_lawful, raise_lawful, shape_lawful, steps_lawful}

module _ (codes : Codes) (steady : AreSteadyCodes codes) where
  abbrev Good : State → Value → Type 0
  Good s x = Allowed codes s x

  abbrev GoodIf : State → Option Value → Type 0
  GoodIf s x = IsAllowedIf (rules_of codes) s x

  value_lawful : (s : State) (x : Value) → Allowed codes s x → Lawful codes steady (Allowed codes) s (pure x)
  value_lawful s x h = lawful-pure codes steady (Allowed codes) s x (λ t l. good_more codes steady s t l x h)

  maybe_lawful : (s : State) (x : Option Value) → IsAllowedIf (rules_of codes) s x → Lawful codes steady GoodIf s (pure x)
  maybe_lawful s x h = lawful-pure codes steady GoodIf s x (λ t l. good_if codes steady s t l x h)

  -- ---- lookups

  module _ (a : Sym) where
    found_or_lawful : (above : Option Value → M (Option Value)) → ((t : State) (x : Option Value) → Lawful codes steady GoodIf t (above x)) → (s : State) (c : ObjRef) (found : Option Value)
        → IsAllowedIf (rules_of codes) s found → Lawful codes steady GoodIf s (look.found_or a above c found)
    found_or_lawful above h s c (Some x) g = maybe_lawful s (Some x) g
    found_or_lawful above h s c None g = lawful-bind codes steady (fixed_lawful codes steady s c) (λ t l o q. h t _)

    found_at_lawful : (above : Option Value → M (Option Value)) → ((t : State) (x : Option Value) → Lawful codes steady GoodIf t (above x)) → (s : State) (c : Option ObjRef) → Lawful codes steady GoodIf s (look.found_at a above c)
    found_at_lawful above h s None = maybe_lawful s None (no_value codes steady s)
    found_at_lawful above h s (Some c) = lawful-bind codes steady (load_lawful codes steady s _) (λ t l x q. found_or_lawful above h t c x q)

    found_above_lawful : (n : ℕ) (s : State) (x : Option Value) → Lawful codes steady GoodIf s (look.found_above a n x)
    found_above_lawful zero s x = maybe_lawful s None (no_value codes steady s)
    found_above_lawful (suc n) s x = found_at_lawful _ (found_above_lawful n) s _

    find_lawful : (s : State) (class : Value) → Lawful codes steady GoodIf s (look.find a class)
    unfolding look.find
    find_lawful s class = lawful-machine codes steady GoodIf s (λ m. look.found_above a (length m.heap.nodes) (Some class)) (λ m. found_above_lawful (length m.heap.nodes) s (Some class))

    or_missing_lawful : (s : State) (x : Option Value) → IsAllowedIf (rules_of codes) s x → Lawful codes steady (Allowed codes) s (look.or_missing a x)
    or_missing_lawful s (Some x) h = value_lawful s x (h x refl)
    or_missing_lawful s None h = fault_named_lawful codes steady (Allowed codes) s _ a

    bound_if_good : (s : State) (receiver : ObjRef) (x : Value) (f : ObjRef) (o : Option Object) → o ≡ object_at s f → IsInstance (object_at s receiver) → Allowed codes s x
        → Allowed codes s (look.bound_if receiver x f o)
    bound_if_good s receiver x f (Some (object.Function name code defaults parent)) e is h = allowed_bound (rules_of codes) s f receiver (subst IsFunction e tt) is
    bound_if_good s receiver x f (Some (object.Frame parent)) e is h = h
    bound_if_good s receiver x f (Some object.List) e is h = h
    bound_if_good s receiver x f (Some object.Dict) e is h = h
    bound_if_good s receiver x f (Some (object.Instance class)) e is h = h
    bound_if_good s receiver x f (Some (object.Class name base)) e is h = h
    bound_if_good s receiver x f None e is h = h

    instance_stays : (s t : State) (o : ObjRef) → Keeps s t → IsInstance (object_at s o) → IsInstance (object_at t o)
    instance_stays s t o l is = go (object_at s o) refl is
      where
        go : (p : Option Object) → object_at s o ≡ p → IsInstance p → IsInstance (object_at t o)
        go None e never = absurd never
        go (Some x) e has = subst IsInstance (sym ((keeps_more s t l).same o x e)) has

    bound_at_lawful : (s : State) (receiver : ObjRef) (x : Value) (y : Value-F Value) → IsInstance (object_at s receiver) → Allowed codes s x → Lawful codes steady (Allowed codes) s (look.bound_at receiver x y)
    bound_at_lawful s receiver x (v.Obj f) is h =
        lawful-bind codes steady (fixed_lawful codes steady s f) (λ t l o q. value_lawful t _ (bound_if_good t receiver x f o q (instance_stays s t receiver l is) (good_more codes steady s t l x h)))
    bound_at_lawful s receiver x v.Nil is h = value_lawful s x h
    bound_at_lawful s receiver x (v.Truth b) is h = value_lawful s x h
    bound_at_lawful s receiver x (v.Int n) is h = value_lawful s x h
    bound_at_lawful s receiver x (v.Text t) is h = value_lawful s x h
    bound_at_lawful s receiver x (v.Tuple xs kept) is h = value_lawful s x h
    bound_at_lawful s receiver x (v.Range b c d) is h = value_lawful s x h
    bound_at_lawful s receiver x (v.Builtin f) is h = value_lawful s x h
    bound_at_lawful s receiver x (v.Bound f o) is h = value_lawful s x h
    bound_at_lawful s receiver x (v.Method f o) is h = value_lawful s x h

    bind_lawful : (s : State) (receiver : ObjRef) (x : Option Value) → IsInstance (object_at s receiver) → IsAllowedIf (rules_of codes) s x → Lawful codes steady (Allowed codes) s (look.bind a receiver x)
    bind_lawful s receiver None is h = fault_named_lawful codes steady (Allowed codes) s _ a
    bind_lawful s receiver (Some x) is h = bound_at_lawful s receiver x _ is (h x refl)

    own_or_bound_lawful : (s : State) (o : ObjRef) (class : Value) (x : Option Value) → IsInstance (object_at s o) → IsAllowedIf (rules_of codes) s x
        → Lawful codes steady (Allowed codes) s (look.own_or_bound a o class x)
    own_or_bound_lawful s o class (Some x) is h = value_lawful s x (h x refl)
    own_or_bound_lawful s o class None is h = lawful-bind codes steady (find_lawful s class) (λ t l x q. bind_lawful t o x (instance_stays s t o l is) q)

    method_lawful : (s : State) (x : Value) (b : Bool) → b ≡ has_method a (kind_of s x) → Allowed codes s x → Lawful codes steady (Allowed codes) s (look.method a x b)
    method_lawful s x false e h = fault_named_lawful codes steady (Allowed codes) s _ a
    method_lawful s x true e h =
        lawful-cond codes steady (Allowed codes) s (nat_le NESTING_LIMIT (kept_nesting x)) (fault error.Depth) (pure (roll-Value (v.Method a x))) (λ f. fault_lawful codes steady (Allowed codes) s _)
        (λ low. value_lawful s _ (allowed_method (rules_of codes) s a x low (sym e) h))

    lookup_of_lawful : (s : State) (x : Value) (y : Kind) → y ≡ kind_of s x → Allowed codes s x → KindSo codes steady s y → Lawful codes steady (Allowed codes) s (look.lookup_of a x y)
    lookup_of_lawful s x (k.Instance o class) e h is = lawful-bind codes steady (load_lawful codes steady s _) (λ t l found q. own_or_bound_lawful t o class found (instance_stays s t o l is) q)
    lookup_of_lawful s x (k.Class c) e h is = lawful-bind codes steady (find_lawful s x) (λ t l found q. or_missing_lawful t found q)
    lookup_of_lawful s x (k.List o) e h is = method_lawful s x _ (ap (has_method a) e) h
    lookup_of_lawful s x (k.Dict d) e h is = method_lawful s x _ (ap (has_method a) e) h
    lookup_of_lawful s x (k.Text t) e h is = method_lawful s x _ (ap (has_method a) e) h
    lookup_of_lawful s x (k.Tuple xs) e h is = method_lawful s x _ (ap (has_method a) e) h
    lookup_of_lawful s x k.Nil e h is = fault_named_lawful codes steady (Allowed codes) s _ a
    lookup_of_lawful s x (k.Number n) e h is = fault_named_lawful codes steady (Allowed codes) s _ a
    lookup_of_lawful s x (k.Range b c d) e h is = fault_named_lawful codes steady (Allowed codes) s _ a
    lookup_of_lawful s x k.Other e h is = fault_named_lawful codes steady (Allowed codes) s _ a

  pub lookup_lawful : (s : State) (x : Value) (a : Sym) → Allowed codes s x → Lawful codes steady (Allowed codes) s (look.lookup x a)
  unfolding look.lookup
  lookup_lawful s x a h =
      lawful-bind codes steady (kind_lawful codes steady s x) (λ t l y q.
      let g = good_more codes steady s t l x h in lookup_of_lawful a t x y q g (subst (KindSo codes steady t) (sym q) (kind_so codes steady t x g)))

  -- ---- operators

  answered_lawful : (s : State) (r : Result ℤ NumFault) → Lawful codes steady (Allowed codes) s (ops.answered r)
  answered_lawful s (Ok n) = int_lawful codes steady s n
  answered_lawful s (Err Range) = lawful-range codes steady (Allowed codes) s
  answered_lawful s (Err ZeroDiv) = fault_lawful codes steady (Allowed codes) s _

  raised_to_lawful : (s : State) (x y : ℤ) → Lawful codes steady (Allowed codes) s (ops.raised_to x y)
  raised_to_lawful s x (pos n) = answered_lawful s _
  raised_to_lawful s x (negsuc n) = fault_lawful codes steady (Allowed codes) s _

  of_numbers_lawful : (f : ℤ → ℤ → M Value) → ((t : State) (x y : ℤ) → Lawful codes steady (Allowed codes) t (f x y)) → (s : State) (x : Pair) → Lawful codes steady (Allowed codes) s (ops.of_numbers f x)
  of_numbers_lawful f h s (two.Numbers x y) = h s x y
  of_numbers_lawful f h s (two.Texts x y) = fault_lawful codes steady (Allowed codes) s _
  of_numbers_lawful f h s (two.Tuples xs ys) = fault_lawful codes steady (Allowed codes) s _
  of_numbers_lawful f h s (two.Lists o p) = fault_lawful codes steady (Allowed codes) s _
  of_numbers_lawful f h s (two.Dicts d e) = fault_lawful codes steady (Allowed codes) s _
  of_numbers_lawful f h s two.Others = fault_lawful codes steady (Allowed codes) s _

  joined_lists_lawful : (s : State) (o p : ObjRef) → Lawful codes steady (Allowed codes) s (ops.joined_lists o p)
  joined_lists_lawful s o p =
      lawful-bind codes steady (collect_lawful codes steady s (w.Items o 0) tt) (λ t l xs g.
      lawful-bind codes steady (collect_lawful codes steady t (w.Items p 0) tt) (λ r j ys h. make_list_lawful codes steady r _ (All-append (Good r) xs ys (good_all codes steady t r j xs g) h)))

  sum_of_lawful : (s : State) (x : Pair) → PairSo codes steady s x → Lawful codes steady (Allowed codes) s (ops.sum_of x)
  sum_of_lawful s (two.Numbers x y) h = answered_lawful s _
  sum_of_lawful s (two.Texts x y) h = make_text_lawful codes steady s _
  sum_of_lawful s (two.Tuples xs ys) h = make_tuple_lawful codes steady s _ (All-append (Good s) xs ys h.0 h.1)
  sum_of_lawful s (two.Lists o p) h = joined_lists_lawful s o p
  sum_of_lawful s (two.Dicts d e) h = fault_lawful codes steady (Allowed codes) s _
  sum_of_lawful s two.Others h = fault_lawful codes steady (Allowed codes) s _

  repeated_good : (s : State) (n : ℕ) (xs : List Value) → AllowedAll codes s xs → AllowedAll codes s (ops.repeated n xs)
  repeated_good s zero xs h = All-nil (Good s)
  repeated_good s (suc n) xs h = All-append (Good s) xs (ops.repeated n xs) h (repeated_good s n xs h)

  abbrev ProductSo : State → Product → Type 0
  ProductSo s (p.Tuple xs n) = AllowedAll codes s xs
  ProductSo s (p.Numbers x y) = Unit {0}
  ProductSo s (p.Text t n) = Unit {0}
  ProductSo s (p.List o n) = Unit {0}
  ProductSo s p.Others = Unit {0}

  product_so : (s : State) (x y : Kind) → KindSo codes steady s x → KindSo codes steady s y → ProductSo s (ops.product_with x y)
  product_so s (k.Number m) (k.Tuple ys) g h = h
  product_so s (k.Tuple xs) (k.Number n) g h = g
  product_so s (k.Text t) (k.Number n) g h = tt
  product_so s (k.List o) (k.Number n) g h = tt
  product_so s x y g h = tt

  product_good : (s : State) (a b : Value) → Allowed codes s a → Allowed codes s b → Lawful codes steady ProductSo s (ops.product a b)
  unfolding ops.product
  product_good s a b g h = record {
    lawful = λ m l i. record {
      later = kept_itself m.heap;
      formed = i;
      result = product_so m.heap _ _ (kind_so codes steady m.heap a (good_more codes steady s m.heap l a g)) (kind_so codes steady m.heap b (good_more codes steady s m.heap l b h));
    };
  }

  product_of_lawful : (s : State) (x : Product) → ProductSo s x → Lawful codes steady (Allowed codes) s (ops.product_of x)
  product_of_lawful s (p.Numbers x y) h = answered_lawful s _
  product_of_lawful s (p.Text t n) h = make_text_lawful codes steady s _
  product_of_lawful s (p.Tuple xs n) h = make_tuple_lawful codes steady s _ (repeated_good s _ xs h)
  product_of_lawful s (p.List o n) h = lawful-bind codes steady (collect_lawful codes steady s (w.Items o 0) tt) (λ t l xs g. make_list_lawful codes steady t _ (repeated_good t _ xs g))
  product_of_lawful s p.Others h = fault_lawful codes steady (Allowed codes) s _

  binary_of_lawful : (s : State) (op : BinaryOp) (a b : Value) → Allowed codes s a → Allowed codes s b → Lawful codes steady (Allowed codes) s (ops.binary_of op a b)
  binary_of_lawful s binop.Add a b g h = lawful-bind codes steady (pair_good codes steady s a b g h) (λ t l x q. sum_of_lawful t x q)
  binary_of_lawful s binop.Sub a b g h = lawful-bind codes steady (pair_good codes steady s a b g h) (λ t l x q. of_numbers_lawful _ (λ r y z. answered_lawful r _) t x)
  binary_of_lawful s binop.Mul a b g h = lawful-bind codes steady (product_good s a b g h) (λ t l x q. product_of_lawful t x q)
  binary_of_lawful s binop.FloorDiv a b g h = lawful-bind codes steady (pair_good codes steady s a b g h) (λ t l x q. of_numbers_lawful _ (λ r y z. answered_lawful r _) t x)
  binary_of_lawful s binop.Mod a b g h = lawful-bind codes steady (pair_good codes steady s a b g h) (λ t l x q. of_numbers_lawful _ (λ r y z. answered_lawful r _) t x)
  binary_of_lawful s binop.Power a b g h = lawful-bind codes steady (pair_good codes steady s a b g h) (λ t l x q. of_numbers_lawful _ raised_to_lawful t x)

  pub binary_lawful : (s : State) (op : BinaryOp) (a b : Value) → Allowed codes s a → Allowed codes s b → Lawful codes steady (Allowed codes) s (ops.binary op a b)
  unfolding ops.binary
  binary_lawful s op a b g h = binary_of_lawful s op a b g h

  negated_lawful : (s : State) (x : Kind) → Lawful codes steady (Allowed codes) s (ops.negated x)
  negated_lawful s (k.Number n) = answered_lawful s _
  negated_lawful s k.Nil = fault_lawful codes steady (Allowed codes) s _
  negated_lawful s (k.Text t) = fault_lawful codes steady (Allowed codes) s _
  negated_lawful s (k.Tuple xs) = fault_lawful codes steady (Allowed codes) s _
  negated_lawful s (k.Range start end step) = fault_lawful codes steady (Allowed codes) s _
  negated_lawful s (k.List o) = fault_lawful codes steady (Allowed codes) s _
  negated_lawful s (k.Dict d) = fault_lawful codes steady (Allowed codes) s _
  negated_lawful s (k.Instance o class) = fault_lawful codes steady (Allowed codes) s _
  negated_lawful s (k.Class o) = fault_lawful codes steady (Allowed codes) s _
  negated_lawful s k.Other = fault_lawful codes steady (Allowed codes) s _

  pub negate_lawful : (s : State) (x : Value) → Lawful codes steady (Allowed codes) s (ops.negate x)
  unfolding ops.negate
  negate_lawful s x = lawful-bind codes steady (kind_lawful codes steady s x) (λ t l y q. negated_lawful t y)

  unchanged_lawful : (s : State) (x : Kind) → Lawful codes steady (Allowed codes) s (ops.unchanged x)
  unchanged_lawful s (k.Number n) = int_lawful codes steady s n
  unchanged_lawful s k.Nil = fault_lawful codes steady (Allowed codes) s _
  unchanged_lawful s (k.Text t) = fault_lawful codes steady (Allowed codes) s _
  unchanged_lawful s (k.Tuple xs) = fault_lawful codes steady (Allowed codes) s _
  unchanged_lawful s (k.Range start end step) = fault_lawful codes steady (Allowed codes) s _
  unchanged_lawful s (k.List o) = fault_lawful codes steady (Allowed codes) s _
  unchanged_lawful s (k.Dict d) = fault_lawful codes steady (Allowed codes) s _
  unchanged_lawful s (k.Instance o class) = fault_lawful codes steady (Allowed codes) s _
  unchanged_lawful s (k.Class o) = fault_lawful codes steady (Allowed codes) s _
  unchanged_lawful s k.Other = fault_lawful codes steady (Allowed codes) s _

  pub plus_lawful : (s : State) (x : Value) → Lawful codes steady (Allowed codes) s (ops.plus x)
  unfolding ops.plus
  plus_lawful s x = lawful-bind codes steady (kind_lawful codes steady s x) (λ t l y q. unchanged_lawful t y)

  -- ---- items

  or_index_error_lawful : (s : State) (x : Option Value) → IsAllowedIf (rules_of codes) s x → Lawful codes steady (Allowed codes) s (sub.or_index_error x)
  or_index_error_lawful s None h = fault_lawful codes steady (Allowed codes) s _
  or_index_error_lawful s (Some x) h = value_lawful s x (h x refl)

  list_item_lawful : (s : State) (o : ObjRef) (i : Option ℕ) → Lawful codes steady (Allowed codes) s (sub.list_item o i)
  list_item_lawful s o None = fault_lawful codes steady (Allowed codes) s _
  list_item_lawful s o (Some i) = lawful-bind codes steady (load_lawful codes steady s _) (λ t l x q. or_index_error_lawful t x q)

  list_at_lawful : (s : State) (o : ObjRef) (n : ℤ) → Lawful codes steady (Allowed codes) s (sub.list_at o n)
  list_at_lawful s o (pos i) = list_item_lawful s o (Some i)
  list_at_lawful s o (negsuc i) = lawful-bind codes steady (shape_lawful codes steady s _ o) (λ t l count q. list_item_lawful t o _)

  part_at_lawful : (s : State) (xs : List Value) (i : Option ℕ) → AllowedAll codes s xs → Lawful codes steady (Allowed codes) s (sub.part_at xs i)
  part_at_lawful s xs None h = fault_lawful codes steady (Allowed codes) s _
  part_at_lawful s xs (Some i) h = or_index_error_lawful s _ (λ x e. get_held (Good s) xs i x h e)

  point_at_lawful : (s : State) (x : List ℕ) (i : Option ℕ) → Lawful codes steady (Allowed codes) s (sub.point_at x i)
  point_at_lawful s x None = fault_lawful codes steady (Allowed codes) s _
  point_at_lawful s x (Some i) = or_index_error_lawful s _ (point_good codes steady s _)

  member_at_lawful : (s : State) (start step : ℤ) (i : Option ℕ) → Lawful codes steady (Allowed codes) s (sub.member_at start step i)
  member_at_lawful s start step None = fault_lawful codes steady (Allowed codes) s _
  member_at_lawful s start step (Some i) = int_lawful codes steady s _

  key_error_lawful : {A : Type 0} (Q : State → A → Type 0) (s : State) (key : Value) → Allowed codes s key → Lawful codes steady Q s (raise {A = A} (error_with KeyError key))
  key_error_lawful Q s key h = raise_lawful codes steady Q s _ (error_with_lawful codes steady s KeyError key h)

  or_key_error_lawful : (s : State) (key : Value) (x : Option Value) → Allowed codes s key → IsAllowedIf (rules_of codes) s x → Lawful codes steady (Allowed codes) s (sub.or_key_error key x)
  or_key_error_lawful s key None h q = key_error_lawful (Allowed codes) s key h
  or_key_error_lawful s key (Some x) h q = value_lawful s x (q x refl)

  dict_at_lawful : (s : State) (d : ObjRef) (key : Value) (k : Option Key) → Allowed codes s key → Lawful codes steady (Allowed codes) s (sub.dict_at d key k)
  dict_at_lawful s d key None h = fault_lawful codes steady (Allowed codes) s _
  dict_at_lawful s d key (Some k) h = lawful-bind codes steady (load_lawful codes steady s _) (λ t l x q. or_key_error_lawful t key x (good_more codes steady s t l key h) q)

  index_of_lawful : (s : State) (x : Kind) (n : Option ℤ) → KindSo codes steady s x → Lawful codes steady (Allowed codes) s (sub.index_of x n)
  index_of_lawful s x None h = fault_lawful codes steady (Allowed codes) s _
  index_of_lawful s (k.List o) (Some n) h = list_at_lawful s o n
  index_of_lawful s (k.Tuple xs) (Some n) h = part_at_lawful s xs _ h
  index_of_lawful s (k.Text t) (Some n) h = point_at_lawful s t _
  index_of_lawful s (k.Range start end step) (Some n) h = member_at_lawful s start step _
  index_of_lawful s k.Nil (Some n) h = fault_lawful codes steady (Allowed codes) s _
  index_of_lawful s (k.Number i) (Some n) h = fault_lawful codes steady (Allowed codes) s _
  index_of_lawful s (k.Dict d) (Some n) h = fault_lawful codes steady (Allowed codes) s _
  index_of_lawful s (k.Instance o class) (Some n) h = fault_lawful codes steady (Allowed codes) s _
  index_of_lawful s (k.Class o) (Some n) h = fault_lawful codes steady (Allowed codes) s _
  index_of_lawful s k.Other (Some n) h = fault_lawful codes steady (Allowed codes) s _

  subscript_of_lawful : (s : State) (i : Value) (x : Kind) → Allowed codes s i → KindSo codes steady s x → Lawful codes steady (Allowed codes) s (sub.subscript_of i x)
  subscript_of_lawful s i (k.Dict d) g h = dict_at_lawful s d i _ g
  subscript_of_lawful s i k.Nil g h = index_of_lawful s k.Nil _ h
  subscript_of_lawful s i (k.Number n) g h = index_of_lawful s (k.Number n) _ h
  subscript_of_lawful s i (k.Text t) g h = index_of_lawful s (k.Text t) _ h
  subscript_of_lawful s i (k.Tuple xs) g h = index_of_lawful s (k.Tuple xs) _ h
  subscript_of_lawful s i (k.Range start end step) g h = index_of_lawful s (k.Range start end step) _ h
  subscript_of_lawful s i (k.List o) g h = index_of_lawful s (k.List o) _ h
  subscript_of_lawful s i (k.Instance o class) g h = index_of_lawful s (k.Instance o class) _ h
  subscript_of_lawful s i (k.Class o) g h = index_of_lawful s (k.Class o) _ h
  subscript_of_lawful s i k.Other g h = index_of_lawful s k.Other _ h

  pub subscript_lawful : (s : State) (a i : Value) → Allowed codes s a → Allowed codes s i → Lawful codes steady (Allowed codes) s (sub.subscript a i)
  unfolding sub.subscript
  subscript_lawful s a i g h = lawful-bind codes steady (kind_good codes steady s a g) (λ t l x q. subscript_of_lawful t i x (good_more codes steady s t l i h) q)

  put_item_lawful : (s : State) (o : ObjRef) (x : Value) (i : Option ℕ) → Allowed codes s x → Lawful codes steady Any s (sub.put_item o x i)
  put_item_lawful s o x None h = fault_lawful codes steady Any s _
  put_item_lawful s o x (Some i) h = list_put_lawful codes steady s o i x h

  list_store_lawful : (s : State) (o : ObjRef) (x : Value) (n : Option ℤ) → Allowed codes s x → Lawful codes steady Any s (sub.list_store o x n)
  list_store_lawful s o x None h = fault_lawful codes steady Any s _
  list_store_lawful s o x (Some n) h = lawful-bind codes steady (shape_lawful codes steady s _ o) (λ t l count q. put_item_lawful t o x _ (good_more codes steady s t l x h))

  dict_store_lawful : (s : State) (d : ObjRef) (key x : Value) (k : Option Key) → Allowed codes s key → Allowed codes s x → Lawful codes steady Any s (sub.dict_store d key x k)
  dict_store_lawful s d key x None g h = fault_lawful codes steady Any s _
  dict_store_lawful s d key x (Some k) g h = dict_put_lawful codes steady s d key x g h

  store_of_lawful : (s : State) (i x : Value) (y : Kind) → Allowed codes s i → Allowed codes s x → Lawful codes steady Any s (sub.store_of i x y)
  store_of_lawful s i x (k.List o) g h = list_store_lawful s o x _ h
  store_of_lawful s i x (k.Dict d) g h = dict_store_lawful s d i x _ g h
  store_of_lawful s i x k.Nil g h = fault_lawful codes steady Any s _
  store_of_lawful s i x (k.Number n) g h = fault_lawful codes steady Any s _
  store_of_lawful s i x (k.Text t) g h = fault_lawful codes steady Any s _
  store_of_lawful s i x (k.Tuple xs) g h = fault_lawful codes steady Any s _
  store_of_lawful s i x (k.Range start end step) g h = fault_lawful codes steady Any s _
  store_of_lawful s i x (k.Instance o class) g h = fault_lawful codes steady Any s _
  store_of_lawful s i x (k.Class o) g h = fault_lawful codes steady Any s _
  store_of_lawful s i x k.Other g h = fault_lawful codes steady Any s _

  pub store_item_lawful : (s : State) (a i x : Value) → Allowed codes s i → Allowed codes s x → Lawful codes steady Any s (sub.store_item a i x)
  unfolding sub.store_item
  store_item_lawful s a i x g h = lawful-bind codes steady (kind_lawful codes steady s a) (λ t l y q. store_of_lawful t i x y (good_more codes steady s t l i g) (good_more codes steady s t l x h))

  with_part_good : (s : State) (done : List Value) (x : Option Value) → AllowedAll codes s done → IsAllowedIf (rules_of codes) s x → AllowedAll codes s (sub.with_part done x)
  with_part_good s done None g h = g
  with_part_good s done (Some x) g h = All-append (Good s) done (x ∷ []) g (All-cons (Good s) x [] (h x refl) (All-nil (Good s)))

  used_from_lawful : (n : ℕ) (s : State) (o : ObjRef) (i : ℕ) (done : List Value) → AllowedAll codes s done → Lawful codes steady (AllowedAll codes) s (sub.used_from o i n done)
  used_from_lawful zero s o i done h = all_lawful codes steady s done h
  used_from_lawful (suc n) s o i done h =
      lawful-bind codes steady (load_lawful codes steady s _) (λ t l x q.
      lawful-bind codes steady (steps_lawful codes steady t 1) (λ r j u g. used_from_lawful n r o (suc i) _ (with_part_good r done x (good_all codes steady s r (keeps_then s t r l j) done h) (good_if codes steady t r j x q))))

  pub splice_lawful : (s : State) (o : ObjRef) (i : ℕ) (tail : List Value) → AllowedAll codes s tail → Lawful codes steady Any s (sub.splice o i tail)
  unfolding sub.splice
  splice_lawful s o i tail h = lawful-bind codes steady (steps_lawful codes steady s _) (λ t l u q. list_splice_lawful codes steady t o i tail (good_all codes steady s t l tail h))

  remove_at_lawful : (s : State) (o : ObjRef) (count : ℕ) (i : Option ℕ) → Lawful codes steady Any s (sub.remove_at o count i)
  remove_at_lawful s o count None = fault_lawful codes steady Any s _
  remove_at_lawful s o count (Some i) = lawful-bind codes steady (used_from_lawful _ s o i [] (All-nil (Good s))) (λ t l items q. splice_lawful t o i _ (All-drop (Good t) 1 items q))

  list_delete_lawful : (s : State) (o : ObjRef) (n : Option ℤ) → Lawful codes steady Any s (sub.list_delete o n)
  list_delete_lawful s o None = fault_lawful codes steady Any s _
  list_delete_lawful s o (Some n) = lawful-bind codes steady (shape_lawful codes steady s _ o) (λ t l count q. remove_at_lawful t o count _)

  remove_if_lawful : (s : State) (d : ObjRef) (key : Value) (k : Key) (b : Bool) → Allowed codes s key → Lawful codes steady Any s (sub.remove_if d key k b)
  remove_if_lawful s d key k false h = key_error_lawful Any s key h
  remove_if_lawful s d key k true h = dict_remove_lawful codes steady s d k

  dict_delete_lawful : (s : State) (d : ObjRef) (key : Value) (k : Option Key) → Allowed codes s key → Lawful codes steady Any s (sub.dict_delete d key k)
  dict_delete_lawful s d key None h = fault_lawful codes steady Any s _
  dict_delete_lawful s d key (Some k) h = lawful-bind codes steady (present_lawful codes steady s d k) (λ t l b q. remove_if_lawful t d key k b (good_more codes steady s t l key h))

  delete_of_lawful : (s : State) (i : Value) (x : Kind) → Allowed codes s i → Lawful codes steady Any s (sub.delete_of i x)
  delete_of_lawful s i (k.List o) h = list_delete_lawful s o _
  delete_of_lawful s i (k.Dict d) h = dict_delete_lawful s d i _ h
  delete_of_lawful s i k.Nil h = fault_lawful codes steady Any s _
  delete_of_lawful s i (k.Number n) h = fault_lawful codes steady Any s _
  delete_of_lawful s i (k.Text t) h = fault_lawful codes steady Any s _
  delete_of_lawful s i (k.Tuple xs) h = fault_lawful codes steady Any s _
  delete_of_lawful s i (k.Range start end step) h = fault_lawful codes steady Any s _
  delete_of_lawful s i (k.Instance o class) h = fault_lawful codes steady Any s _
  delete_of_lawful s i (k.Class o) h = fault_lawful codes steady Any s _
  delete_of_lawful s i k.Other h = fault_lawful codes steady Any s _

  pub delete_item_lawful : (s : State) (a i : Value) → Allowed codes s i → Lawful codes steady Any s (sub.delete_item a i)
  unfolding sub.delete_item
  delete_item_lawful s a i h = lawful-bind codes steady (kind_lawful codes steady s a) (λ t l x q. delete_of_lawful t i x (good_more codes steady s t l i h))
