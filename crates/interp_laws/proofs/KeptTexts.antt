-- The same of items and of texts.
use Rattle.std.proofs.Common.{ℕ, zero, suc, ℤ, pos, negsuc, Bool, true, false, List, [], ◌∷◌, Option, Some, None}
use Rattle.exceptions_core.specs.declared.class.ExcClass.{ExcClass}
use Rattle.exceptions_core.specs.declared.class.ExcClass.TheVariants.{KeyError}
use Rattle.flow_base.specs.declared.key.Key.{Key}
use Rattle.flow_base.specs.declared.numbers.ObjRef.{ObjRef}
use Rattle.heap_objects.specs.declared.value.Value.{Value}
use Rattle.interp_laws.proofs.Kept.{Kept, Reads, Writes, kept-pure, kept-steps, by_machine, kept-bind, key_at_kept, kind_kept, form_kept, exception_kept, raise_kept, fault_kept, next_kept}
use Rattle.interp_machine.specs.Meaning.{M, raise, error_with}
use Rattle.interp_machine.specs.declared.kinds.Kind.{Kind}
use Rattle.interp_machine.specs.declared.kinds.Kind.TheVariants as k
use Rattle.interp_machine.specs.declared.machine.Machine.{Machine}
use Rattle.interp_machine.specs.declared.walks.Walker.{Walker}
use Rattle.interp_ops.specs.Subscripts as sub
use Rattle.interp_texts.specs.Shown as shown
use Rattle.interp_texts.specs.Shown.{Shower, Arguments, Teller}
use Rattle.interp_texts.specs.declared.forms.Form.{Form}
use Rattle.interp_texts.specs.declared.forms.Form.TheVariants as form

module _ (I : Machine → Type 0) (G : Machine → Value → Type 0) (prims : Reads I G) (more : Writes I G) where
  open prims use {steps_kept, load_kept, present_kept, shape_kept}
  open more use {list_put_kept, list_splice_kept, dict_put_kept, dict_remove_kept, error_with_made}

  -- ---- items

  or_index_error_kept : (x : Option Value) → Kept I G (sub.or_index_error x)
  or_index_error_kept None = fault_kept I G prims _
  or_index_error_kept (Some x) = kept-pure I G _

  list_item_kept : (o : ObjRef) (i : Option ℕ) → Kept I G (sub.list_item o i)
  list_item_kept o None = fault_kept I G prims _
  list_item_kept o (Some i) = kept-bind I G _ _ (load_kept _) or_index_error_kept

  list_at_kept : (o : ObjRef) (n : ℤ) → Kept I G (sub.list_at o n)
  list_at_kept o (pos i) = list_item_kept o (Some i)
  list_at_kept o (negsuc i) = kept-bind I G _ _ (shape_kept _ o) (λ count. list_item_kept o _)

  part_at_kept : (xs : List Value) (i : Option ℕ) → Kept I G (sub.part_at xs i)
  part_at_kept xs None = fault_kept I G prims _
  part_at_kept xs (Some i) = or_index_error_kept _

  point_at_kept : (t : List ℕ) (i : Option ℕ) → Kept I G (sub.point_at t i)
  point_at_kept t None = fault_kept I G prims _
  point_at_kept t (Some i) = or_index_error_kept _

  member_at_kept : (start step : ℤ) (i : Option ℕ) → Kept I G (sub.member_at start step i)
  member_at_kept start step None = fault_kept I G prims _
  member_at_kept start step (Some i) = kept-pure I G _

  key_error_kept : {A : Type 0} (key : Value) → Kept I G (raise {A = A} (error_with KeyError key))
  key_error_kept key = raise_kept I G _ (error_with_made KeyError key)

  or_key_error_kept : (key : Value) (x : Option Value) → Kept I G (sub.or_key_error key x)
  or_key_error_kept key None = key_error_kept key
  or_key_error_kept key (Some x) = kept-pure I G _

  dict_at_kept : (d : ObjRef) (key : Value) (k : Option Key) → Kept I G (sub.dict_at d key k)
  dict_at_kept d key None = fault_kept I G prims _
  dict_at_kept d key (Some k) = kept-bind I G _ _ (load_kept _) (or_key_error_kept key)

  index_of_kept : (x : Kind) (n : Option ℤ) → Kept I G (sub.index_of x n)
  index_of_kept x None = fault_kept I G prims _
  index_of_kept (k.List o) (Some n) = list_at_kept o n
  index_of_kept (k.Tuple xs) (Some n) = part_at_kept xs _
  index_of_kept (k.Text t) (Some n) = point_at_kept t _
  index_of_kept (k.Range start end step) (Some n) = member_at_kept start step _
  index_of_kept k.Nil (Some n) = fault_kept I G prims _
  index_of_kept (k.Number i) (Some n) = fault_kept I G prims _
  index_of_kept (k.Dict d) (Some n) = fault_kept I G prims _
  index_of_kept (k.Instance o class) (Some n) = fault_kept I G prims _
  index_of_kept (k.Class o) (Some n) = fault_kept I G prims _
  index_of_kept k.Other (Some n) = fault_kept I G prims _

  subscript_of_kept : (i : Value) (x : Kind) → Kept I G (sub.subscript_of i x)
  subscript_of_kept i (k.Dict d) = dict_at_kept d i _
  subscript_of_kept i k.Nil = index_of_kept k.Nil _
  subscript_of_kept i (k.Number n) = index_of_kept (k.Number n) _
  subscript_of_kept i (k.Text t) = index_of_kept (k.Text t) _
  subscript_of_kept i (k.Tuple xs) = index_of_kept (k.Tuple xs) _
  subscript_of_kept i (k.Range start end step) = index_of_kept (k.Range start end step) _
  subscript_of_kept i (k.List o) = index_of_kept (k.List o) _
  subscript_of_kept i (k.Instance o class) = index_of_kept (k.Instance o class) _
  subscript_of_kept i (k.Class o) = index_of_kept (k.Class o) _
  subscript_of_kept i k.Other = index_of_kept k.Other _

  pub subscript_kept : (a i : Value) → Kept I G (sub.subscript a i)
  unfolding sub.subscript
  subscript_kept a i = kept-bind I G _ _ (kind_kept I G a) (subscript_of_kept i)

  put_item_kept : (o : ObjRef) (x : Value) (i : Option ℕ) → Kept I G (sub.put_item o x i)
  put_item_kept o x None = fault_kept I G prims _
  put_item_kept o x (Some i) = list_put_kept o i x

  list_store_kept : (o : ObjRef) (x : Value) (n : Option ℤ) → Kept I G (sub.list_store o x n)
  list_store_kept o x None = fault_kept I G prims _
  list_store_kept o x (Some n) = kept-bind I G _ _ (shape_kept _ o) (λ count. put_item_kept o x _)

  dict_store_kept : (d : ObjRef) (key x : Value) (k : Option Key) → Kept I G (sub.dict_store d key x k)
  dict_store_kept d key x None = fault_kept I G prims _
  dict_store_kept d key x (Some k) = dict_put_kept d key x

  store_of_kept : (i x : Value) (y : Kind) → Kept I G (sub.store_of i x y)
  store_of_kept i x (k.List o) = list_store_kept o x _
  store_of_kept i x (k.Dict d) = dict_store_kept d i x _
  store_of_kept i x k.Nil = fault_kept I G prims _
  store_of_kept i x (k.Number n) = fault_kept I G prims _
  store_of_kept i x (k.Text t) = fault_kept I G prims _
  store_of_kept i x (k.Tuple xs) = fault_kept I G prims _
  store_of_kept i x (k.Range start end step) = fault_kept I G prims _
  store_of_kept i x (k.Instance o class) = fault_kept I G prims _
  store_of_kept i x (k.Class o) = fault_kept I G prims _
  store_of_kept i x k.Other = fault_kept I G prims _

  pub store_item_kept : (a i x : Value) → Kept I G (sub.store_item a i x)
  unfolding sub.store_item
  store_item_kept a i x = kept-bind I G _ _ (kind_kept I G a) (store_of_kept i x)

  used_from_kept : (o : ObjRef) (i n : ℕ) (done : List Value) → Kept I G (sub.used_from o i n done)
  used_from_kept o i zero done = kept-pure I G _
  used_from_kept o i (suc n) done = kept-bind I G _ _ (load_kept _) (λ x. kept-bind I G _ _ (steps_kept 1) (λ u. used_from_kept o (suc i) n _))

  pub splice_kept : (o : ObjRef) (i : ℕ) (tail : List Value) → Kept I G (sub.splice o i tail)
  unfolding sub.splice
  splice_kept o i tail = kept-bind I G _ _ (steps_kept _) (λ u. list_splice_kept o i tail)

  remove_at_kept : (o : ObjRef) (count : ℕ) (i : Option ℕ) → Kept I G (sub.remove_at o count i)
  remove_at_kept o count None = fault_kept I G prims _
  remove_at_kept o count (Some i) = kept-bind I G _ _ (used_from_kept o i _ []) (λ items. splice_kept o i _)

  list_delete_kept : (o : ObjRef) (n : Option ℤ) → Kept I G (sub.list_delete o n)
  list_delete_kept o None = fault_kept I G prims _
  list_delete_kept o (Some n) = kept-bind I G _ _ (shape_kept _ o) (λ count. remove_at_kept o count _)

  remove_if_kept : (d : ObjRef) (key : Value) (k : Key) (b : Bool) → Kept I G (sub.remove_if d key k b)
  remove_if_kept d key k false = key_error_kept key
  remove_if_kept d key k true = dict_remove_kept d k

  dict_delete_kept : (d : ObjRef) (key : Value) (k : Option Key) → Kept I G (sub.dict_delete d key k)
  dict_delete_kept d key None = fault_kept I G prims _
  dict_delete_kept d key (Some k) = kept-bind I G _ _ (present_kept d k) (remove_if_kept d key k)

  delete_of_kept : (i : Value) (x : Kind) → Kept I G (sub.delete_of i x)
  delete_of_kept i (k.List o) = list_delete_kept o _
  delete_of_kept i (k.Dict d) = dict_delete_kept d i _
  delete_of_kept i k.Nil = fault_kept I G prims _
  delete_of_kept i (k.Number n) = fault_kept I G prims _
  delete_of_kept i (k.Text t) = fault_kept I G prims _
  delete_of_kept i (k.Tuple xs) = fault_kept I G prims _
  delete_of_kept i (k.Range start end step) = fault_kept I G prims _
  delete_of_kept i (k.Instance o class) = fault_kept I G prims _
  delete_of_kept i (k.Class o) = fault_kept I G prims _
  delete_of_kept i k.Other = fault_kept I G prims _

  pub delete_item_kept : (a i : Value) → Kept I G (sub.delete_item a i)
  unfolding sub.delete_item
  delete_item_kept a i = kept-bind I G _ _ (kind_kept I G a) (delete_of_kept i)

-- ---- texts

module _ (I : Machine → Type 0) (G : Machine → Value → Type 0) (prims : Reads I G) where
  open prims use {steps_kept, load_kept, shape_kept}

  args_of_kept : (o : ObjRef) → Kept I G (shown.args_of o)
  unfolding shown.args_of
  args_of_kept o = kept-bind I G _ _ (load_kept _) (λ x. kept-pure I G _)

  ends_kept : (word d : List ℕ) → Kept I G (shown.ends_with word d)
  ends_kept word d = kept-pure I G _

  plain_kept : (d t : List ℕ) → Kept I G (shown.plain d t)
  plain_kept d t = kept-bind I G _ _ (steps_kept _) (λ u. kept-pure I G _)

  module _ (below : Shower) (h : (inside : List ObjRef) (d : List ℕ) (x : Value) → Kept I G (below inside d x)) where
    show_part_kept : (inside : List ObjRef) (more : Walker → Bool → List ℕ → M (List ℕ)) → ((x : Walker) (follows : Bool) (d : List ℕ) → Kept I G (more x follows d))
        → (follows : Bool) (d : List ℕ) (part : Option Value × Walker) → Kept I G (shown.show_part below inside more follows d part)
    show_part_kept inside more k follows d (None, after) = kept-pure I G _
    show_part_kept inside more k follows d (Some x, after) = kept-bind I G _ _ (h inside _ x) (λ e. k after true e)

    show_parts_kept : (inside : List ObjRef) (n : ℕ) (x : Walker) (follows : Bool) (d : List ℕ) → Kept I G (shown.show_parts below inside n x follows d)
    unfolding shown.show_parts
    show_parts_kept inside zero x follows d = kept-steps I G
    show_parts_kept inside (suc n) x follows d =
        kept-bind I G _ _ (next_kept I G prims x) (λ part. show_part_kept inside _ (show_parts_kept inside n) follows d part)

    show_walk_kept : (inside : List ObjRef) (x : Walker) (d : List ℕ) → Kept I G (shown.show_walk below inside x d)
    unfolding shown.show_walk
    show_walk_kept inside x d = by_machine I G _ (λ m. show_parts_kept inside (suc m.left) x false d)

    show_pair_kept : (inside : List ObjRef) (d : List ℕ) (key : Value) (x : Option Value) → Kept I G (shown.show_pair below inside d key x)
    show_pair_kept inside d key None = kept-pure I G _
    show_pair_kept inside d key (Some x) = kept-bind I G _ _ (steps_kept 1) (λ u. kept-bind I G _ _ (h inside d key) (λ e. h inside _ x))

    show_item_kept : (inside : List ObjRef) (o : ObjRef) (d : List ℕ) (key : Value) (k : Option Key) → Kept I G (shown.show_item below inside o d key k)
    show_item_kept inside o d key None = kept-pure I G _
    show_item_kept inside o d key (Some k) = kept-bind I G _ _ (load_kept _) (show_pair_kept inside d key)

    show_entry_kept : (inside : List ObjRef) (o : ObjRef) (d : List ℕ) (key : Option Value) → Kept I G (shown.show_entry below inside o d key)
    show_entry_kept inside o d None = kept-pure I G _
    show_entry_kept inside o d (Some key) = show_item_kept inside o d key _

    show_entries_kept : (inside : List ObjRef) (o : ObjRef) (i n : ℕ) (follows : Bool) (d : List ℕ) → Kept I G (shown.show_entries below inside o i n follows d)
    unfolding shown.show_entries
    show_entries_kept inside o i zero follows d = kept-pure I G _
    show_entries_kept inside o i (suc n) follows d =
        kept-bind I G _ _ (kept-bind I G _ _ (key_at_kept I G o i) (λ key. show_entry_kept inside o _ key)) (λ e. show_entries_kept inside o (suc i) n true e)

  module _ (below : Shower) (h : (inside : List ObjRef) (d : List ℕ) (x : Value) → Kept I G (below inside d x)) (arguments : Arguments)
      (g : (inside : List ObjRef) (d : List ℕ) (xs : List Value) → Kept I G (arguments inside d xs)) where
    show_form_kept : (inside : List ObjRef) (d : List ℕ) (x : Form) → Kept I G (shown.show_form below arguments inside d x)
    show_form_kept inside d (form.Plain t) = plain_kept d t
    show_form_kept inside d (form.List o) = kept-bind I G _ _ (show_walk_kept below h _ _ _) (ends_kept _)
    show_form_kept inside d (form.Tuple xs) = kept-bind I G _ _ (show_walk_kept below h _ _ _) (ends_kept _)
    show_form_kept inside d (form.Dict o) = kept-bind I G _ _ (shape_kept _ o) (λ n. kept-bind I G _ _ (show_entries_kept below h _ o 0 n false _) (ends_kept _))
    show_form_kept inside d (form.Error o name) = kept-bind I G _ _ (args_of_kept o) (λ xs. kept-bind I G _ _ (g _ _ xs) (ends_kept _))

    show_with_kept : (inside : List ObjRef) (d : List ℕ) (x : Value) → Kept I G (shown.show_with below arguments inside d x)
    unfolding shown.show_with
    show_with_kept inside d x = kept-bind I G _ _ (form_kept I G inside x) (show_form_kept inside d)

  mutual
    unfolding shown.show_to shown.arguments_to

    show_to_kept : (n : ℕ) (inside : List ObjRef) (d : List ℕ) (x : Value) → Kept I G (shown.show_to n inside d x)
    show_to_kept zero inside d x = fault_kept I G prims _
    show_to_kept (suc n) inside d x = show_with_kept _ (show_to_kept n) _ (arguments_to_kept n) inside d x

    arguments_to_kept : (n : ℕ) (inside : List ObjRef) (d : List ℕ) (xs : List Value) → Kept I G (shown.arguments_to n inside d xs)
    arguments_to_kept zero inside d xs = fault_kept I G prims _
    arguments_to_kept (suc n) inside d xs = show_walk_kept _ (show_to_kept n) inside _ d

  pub show_kept : (x : Value) → Kept I G (shown.show x)
  unfolding shown.show
  show_kept x = by_machine I G _ (λ m. show_to_kept _ [] [] x)

  tuple_to_kept : (n : ℕ) (d : List ℕ) (xs : List Value) → Kept I G (shown.tuple_to n d xs)
  tuple_to_kept n d xs = kept-bind I G _ _ (arguments_to_kept n [] _ xs) (ends_kept _)

  module _ (n below : ℕ) (told : Teller) (h : (d : List ℕ) (x : Value) → Kept I G (told d x)) (d : List ℕ) where
    str_one_kept : (keyed : Bool) (x : Value) → Kept I G (shown.str_one below told d keyed x)
    str_one_kept true x = show_to_kept below [] d x
    str_one_kept false x = h d x

    str_arguments_kept : (keyed : Bool) (xs : List Value) → Kept I G (shown.str_arguments below told d keyed xs)
    str_arguments_kept keyed [] = kept-pure I G _
    str_arguments_kept keyed (x ∷ []) = str_one_kept keyed x
    str_arguments_kept keyed (x ∷ y ∷ ys) = tuple_to_kept below d _

    str_instance_kept : (x : Value) (o : ObjRef) (c : Option ExcClass) → Kept I G (shown.str_instance n below told d x o c)
    str_instance_kept x o None = show_to_kept n [] d x
    str_instance_kept x o (Some c) = kept-bind I G _ _ (args_of_kept o) (str_arguments_kept _)

    str_of_kept : (x : Value) (y : Kind) → Kept I G (shown.str_of n below told d x y)
    str_of_kept x (k.Text t) = plain_kept d t
    str_of_kept x (k.Instance o class) = kept-bind I G _ _ (exception_kept I G class) (str_instance_kept x o)
    str_of_kept x k.Nil = show_to_kept n [] d x
    str_of_kept x (k.Number i) = show_to_kept n [] d x
    str_of_kept x (k.Tuple xs) = show_to_kept n [] d x
    str_of_kept x (k.Range start end step) = show_to_kept n [] d x
    str_of_kept x (k.List o) = show_to_kept n [] d x
    str_of_kept x (k.Dict o) = show_to_kept n [] d x
    str_of_kept x (k.Class o) = show_to_kept n [] d x
    str_of_kept x k.Other = show_to_kept n [] d x

    str_with_kept : (x : Value) → Kept I G (shown.str_with n below told d x)
    unfolding shown.str_with
    str_with_kept x = kept-bind I G _ _ (kind_kept I G x) (str_of_kept x)

  str_to_kept : (n : ℕ) (d : List ℕ) (x : Value) → Kept I G (shown.str_to n d x)
  unfolding shown.str_to
  str_to_kept zero d x = fault_kept I G prims _
  str_to_kept (suc n) d x = str_with_kept (suc n) n _ (str_to_kept n) d x

  pub to_str_kept : (x : Value) → Kept I G (shown.to_str x)
  unfolding shown.to_str
  to_str_kept x = by_machine I G _ (λ m. str_to_kept _ [] x)
