-- What each primitive operation keeps of a machine, each operation keeps.
use Rattle.std.proofs.Common.{◌≡◌, ℕ, zero, suc, ℤ, pos, negsuc, Bool, true, false, cond, List, [], Option, Some, None, Result, Ok, Err, refl}
use Rattle.exceptions_core.specs.declared.class.ExcClass.{ExcClass}
use Rattle.exceptions_core.specs.declared.error.FaultKind.{FaultKind}
use Rattle.exceptions_core.specs.declared.error.FaultKind.TheVariants as error
use Rattle.flow_base.specs.declared.event.ReadHow.{ReadHow}
use Rattle.flow_base.specs.declared.key.Key.{Key}
use Rattle.flow_base.specs.declared.loc.Loc.{Loc}
use Rattle.flow_base.specs.declared.numbers.ObjRef.{ObjRef}
use Rattle.flow_base.specs.declared.numbers.Sym.{Sym}
use Rattle.heap_objects.specs.declared.value.Value.{Value}
use Rattle.heap_objects.specs.declared.value.Value.TheOpen as v
use Rattle.heap_objects.specs.declared.value.Value.TheOpen.{Value-F}
use Rattle.interp_machine.specs.Kinds.{kind, pair}
use Rattle.interp_machine.specs.Meaning.{M, go_on, ◌>>=◌, pure, stop_with, steps, fixed, load, present, shape, key_at, key_if, store, list_put, list_splice, dict_put, dict_remove, new_list, new_dict, new_instance, raise, object_value, give_args, new_error, error_of, error_with, fault, fault_named}
use Rattle.interp_machine.specs.Walks.{collect, counted, gather, go_through, int_value, member, member_after, next, next_of, some_member, walk, walk_of}
use Rattle.interp_machine.specs.declared.kinds.Kind.{Kind}
use Rattle.interp_machine.specs.declared.kinds.Kind.TheVariants as k
use Rattle.interp_machine.specs.declared.kinds.Pair.{Pair}
use Rattle.interp_machine.specs.declared.kinds.Pair.TheVariants as two
use Rattle.interp_machine.specs.declared.machine.Machine.{Machine}
use Rattle.interp_machine.specs.declared.stop.Stop.{Stop}
use Rattle.interp_machine.specs.declared.stop.Stop.TheVariants as stop
use Rattle.interp_machine.specs.declared.walks.Walker.{Walker}
use Rattle.interp_machine.specs.declared.walks.Walker.TheVariants as w
use Rattle.interp_ops.specs.Equality as eq
use Rattle.interp_ops.specs.Lookups as look
use Rattle.interp_ops.specs.Making.{make_dict, make_list, make_text, make_tuple, tuple}
use Rattle.interp_ops.specs.Operators as ops
use Rattle.interp_ops.specs.Orders as ord
use Rattle.interp_ops.specs.Truths.{has_entries, truth, truth_of}
use Rattle.interp_ops.specs.declared.products.Product.{Product}
use Rattle.interp_ops.specs.declared.products.Product.TheVariants as p
use Rattle.interp_ops.specs.declared.operators.BinaryOp.{BinaryOp}
use Rattle.interp_ops.specs.declared.operators.BinaryOp.TheVariants as binop
use Rattle.interp_texts.specs.Shown as shown
use Rattle.py_scalars.specs.declared.numbers.NumFault.{NumFault}
use Rattle.py_scalars.specs.declared.numbers.NumFault.TheVariants.{ZeroDiv, Range}

-- G m v says of a value that is raised in a machine what is to hold of it.
module _ (I : Machine → Type 0) (G : Machine → Value → Type 0) where
  abbrev pub Raises : {A : Type 0} → Result A Stop → Machine → Type 0
  Raises (Ok a) m = Unit {0}
  Raises (Err (stop.Raised v)) m = G m v
  Raises (Err stop.Steps) m = Unit {0}
  Raises (Err stop.Range) m = Unit {0}
  Raises (Err stop.NoMemory) m = Unit {0}

  pub record Kept {A : Type 0} (p : M A) : Type 0 where
    pub kept : (m : Machine) → I m → I (p m).1
    pub raises : (m : Machine) → I m → Raises (p m).0 (p m).1

  -- an object is made that may be raised
  pub record Makes (p : M ObjRef) : Type 0 where
    pub made : Kept p
    pub good : (m : Machine) → I m → (o : ObjRef) → (p m).0 ≡ Ok o → G (p m).1 (object_value o)

  pub record Reads : Type 0 where
    pub steps_kept : (n : ℕ) → Kept (steps n)
    pub load_kept : (l : Loc) → Kept (load l)
    pub present_kept : (d : ObjRef) (k : Key) → Kept (present d k)
    pub shape_kept : (how : ReadHow) (o : ObjRef) → Kept (shape how o)
    pub error_of_made : (what : FaultKind) (name : List ℕ) → Makes (error_of what name)

  pub record Writes : Type 0 where
    pub list_put_kept : (o : ObjRef) (i : ℕ) (x : Value) → Kept (list_put o i x)
    pub list_splice_kept : (o : ObjRef) (i : ℕ) (tail : List Value) → Kept (list_splice o i tail)
    pub dict_put_kept : (d : ObjRef) (k x : Value) → Kept (dict_put d k x)
    pub dict_remove_kept : (d : ObjRef) (k : Key) → Kept (dict_remove d k)
    pub new_list_kept : (items : List Value) → Kept (new_list items)
    pub new_dict_kept : (keys values : List Value) → Kept (new_dict keys values)
    pub error_with_made : (c : ExcClass) (x : Value) → Makes (error_with c x)

  pub kept-pure : {A : Type 0} (a : A) → Kept (pure a)
  kept-pure a = record { kept = λ m i. i; raises = λ m i. tt }

  pub kept-steps : {A : Type 0} → Kept (stop_with {A = A} stop.Steps)
  kept-steps = record { kept = λ m i. i; raises = λ m i. tt }

  kept-range : {A : Type 0} → Kept (stop_with {A = A} stop.Range)
  kept-range = record { kept = λ m i. i; raises = λ m i. tt }

  on : {A B : Type 0} (f : A → M B) → ((a : A) → Kept (f a)) → (r : Result A Stop) (m : Machine) → I m → I (go_on r m f).1
  on f h (Ok a) m i = (h a).kept m i
  on f h (Err e) m i = i

  raised_on : {A B : Type 0} (f : A → M B) → ((a : A) → Kept (f a)) → (r : Result A Stop) (m : Machine) → I m → Raises r m → Raises (go_on r m f).0 (go_on r m f).1
  raised_on f h (Ok a) m i g = (h a).raises m i
  raised_on f h (Err (stop.Raised v)) m i g = g
  raised_on f h (Err stop.Steps) m i g = g
  raised_on f h (Err stop.Range) m i g = g
  raised_on f h (Err stop.NoMemory) m i g = g

  pub kept-bind : {A B : Type 0} (p : M A) (f : A → M B) → Kept p → ((a : A) → Kept (f a)) → Kept (p >>= f)
  kept-bind p f hp hf = record {
    kept = λ m i. on f hf (p m).0 (p m).1 (hp.kept m i);
    raises = λ m i. raised_on f hf (p m).0 (p m).1 (hp.kept m i) (hp.raises m i);
  }

  raises_made : (A : Type 0) (r : Result ObjRef Stop) (m : Machine) → ((o : ObjRef) → r ≡ Ok o → G m (object_value o)) → Raises r m
      → Raises (go_on {B = A} r m (λ o. stop_with (stop.Raised (object_value o)))).0 (go_on {B = A} r m (λ o. stop_with (stop.Raised (object_value o)))).1
  raises_made A (Ok o) m h g = h o refl
  raises_made A (Err (stop.Raised v)) m h g = g
  raises_made A (Err stop.Steps) m h g = g
  raises_made A (Err stop.Range) m h g = g
  raises_made A (Err stop.NoMemory) m h g = g

  kept_made : (A : Type 0) (r : Result ObjRef Stop) (m : Machine) → I m → I (go_on {B = A} r m (λ o. stop_with (stop.Raised (object_value o)))).1
  kept_made A (Ok o) m i = i
  kept_made A (Err e) m i = i

  pub raise_kept : {A : Type 0} (p : M ObjRef) → Makes p → Kept (raise {A = A} p)
  raise_kept {A} p h = record {
    kept = λ m i. kept_made A (p m).0 (p m).1 (h.made.kept m i);
    raises = λ m i. raises_made A (p m).0 (p m).1 (h.good m i) (h.made.raises m i);
  }

  pub cond_kept : {A : Type 0} (b : Bool) (p q : M A) → Kept p → Kept q → Kept (cond b p q)
  cond_kept true p q h k = h
  cond_kept false p q h k = k

  -- an operation that looks at the machine first
  pub by_machine : {A : Type 0} (p : Machine → M A) → ((m : Machine) → Kept (p m)) → Kept (λ m. p m m)
  by_machine p h = record { kept = λ m i. (h m).kept m i; raises = λ m i. (h m).raises m i }

  -- ---- what reads no location

  pub fixed_kept : (o : ObjRef) → Kept (fixed o)
  unfolding fixed
  fixed_kept o = record { kept = λ m i. i; raises = λ m i. tt }

  pub key_at_kept : (d : ObjRef) (i : ℕ) → Kept (key_at d i)
  unfolding key_at
  key_at_kept d n = record { kept = λ m i. i; raises = λ m i. tt }

  pub kind_kept : (x : Value) → Kept (kind x)
  unfolding kind
  kind_kept x = record { kept = λ m i. i; raises = λ m i. tt }

  pub pair_kept : (a b : Value) → Kept (pair a b)
  unfolding pair
  pair_kept a b = record { kept = λ m i. i; raises = λ m i. tt }

  pub product_kept : (a b : Value) → Kept (ops.product a b)
  unfolding ops.product
  product_kept a b = record { kept = λ m i. i; raises = λ m i. tt }

  pub form_kept : (inside : List ObjRef) (x : Value) → Kept (shown.form inside x)
  unfolding shown.form
  form_kept inside x = record { kept = λ m i. i; raises = λ m i. tt }

  pub exception_kept : (class : Value) → Kept (shown.exception class)
  unfolding shown.exception
  exception_kept class = record { kept = λ m i. i; raises = λ m i. tt }

  -- ---- errors

  module _ (instances : (class : Value) → Kept (new_instance class)) (stores : (l : Loc) (x : Option Value) → Kept (store l x)) where
    pub give_args_kept : (o : ObjRef) (x : Value) → Kept (give_args o x)
    give_args_kept o x = kept-bind _ _ (stores _ _) (λ u. kept-pure o)

    pub new_error_kept : (c : ExcClass) → Kept (new_error c)
    new_error_kept c = instances _

    pub error_of_kept : (what : FaultKind) (name : List ℕ) → Kept (error_of what name)
    unfolding error_of
    error_of_kept what name = kept-bind _ _ (new_error_kept _) (λ o. give_args_kept o _)

    pub error_with_kept : (c : ExcClass) (x : Value) → Kept (error_with c x)
    unfolding error_with
    error_with_kept c x = kept-bind _ _ (new_error_kept c) (λ o. cond_kept _ _ _ (error_of_kept _ _) (give_args_kept o x))

  module _ (prims : Reads) where
    open prims use {steps_kept, load_kept, present_kept, shape_kept, error_of_made}

    pub fault_kept : {A : Type 0} (what : FaultKind) → Kept (fault {A = A} what)
    fault_kept what = raise_kept _ (error_of_made what [])

    pub fault_named_kept : {A : Type 0} (what : FaultKind) (s : Sym) → Kept (fault_named {A = A} what s)
    fault_named_kept {A} what s = by_machine _ (λ m. raise_kept {A = A} _ (error_of_made what _))

    -- ---- new values

    pub tuple_kept : (parts : List Value) → Kept (tuple parts)
    tuple_kept parts = cond_kept _ _ _ (fault_kept _) (kept-pure _)

    pub make_tuple_kept : (parts : List Value) → Kept (make_tuple parts)
    unfolding make_tuple
    make_tuple_kept parts = kept-bind _ _ (steps_kept _) (λ u. tuple_kept parts)

    pub make_text_kept : (t : List ℕ) → Kept (make_text t)
    unfolding make_text
    make_text_kept t = kept-bind _ _ (steps_kept _) (λ u. kept-pure _)

    -- ---- walks

    pub counted_kept : (x : Option Value) (after : Walker) → Kept (counted x after)
    unfolding counted
    counted_kept None after = kept-pure _
    counted_kept (Some x) after = kept-bind _ _ (steps_kept 1) (λ u. kept-pure _)

    some_member_kept : (a step : ℤ) (n : ℕ) → Kept (some_member a step n)
    unfolding some_member
    some_member_kept a step n = counted_kept (Some (int_value a)) (w.Range (member_after a step n) step n)

    member_kept : (a step : ℤ) (n : ℕ) → Kept (member a step n)
    unfolding member
    member_kept a step n = cond_kept _ _ _ (kept-pure _) (some_member_kept a step _)

    next_of_kept : (x : Walker) → Kept (next_of x)
    next_of_kept (w.Items o i) = kept-bind _ _ (load_kept _) (λ x. counted_kept x _)
    next_of_kept (w.Keys d i) = kept-bind _ _ (key_at_kept d i) (λ x. counted_kept x _)
    next_of_kept (w.Parts xs i) = counted_kept _ _
    next_of_kept (w.Points t i) = counted_kept _ _
    next_of_kept (w.Range a step n) = member_kept a step n

    pub next_kept : (x : Walker) → Kept (next x)
    unfolding next
    next_kept x = next_of_kept x

    walk_of_kept : (x : Kind) → Kept (walk_of x)
    walk_of_kept (k.List o) = kept-pure _
    walk_of_kept (k.Dict d) = kept-bind _ _ (shape_kept _ d) (λ n. kept-pure _)
    walk_of_kept (k.Tuple xs) = kept-pure _
    walk_of_kept (k.Text t) = kept-pure _
    walk_of_kept (k.Range start end step) = kept-pure _
    walk_of_kept k.Nil = fault_kept _
    walk_of_kept (k.Number n) = fault_kept _
    walk_of_kept (k.Instance o class) = fault_kept _
    walk_of_kept (k.Class o) = fault_kept _
    walk_of_kept k.Other = fault_kept _

    pub walk_kept : (x : Value) → Kept (walk x)
    unfolding walk
    walk_kept x = kept-bind _ _ (kind_kept x) walk_of_kept

    go_through_kept : (more : Walker → List Value → M (List Value)) → ((x : Walker) (done : List Value) → Kept (more x done)) → (done : List Value) (part : Option Value × Walker)
        → Kept (go_through more done part)
    go_through_kept more h done (None, x) = kept-pure done
    go_through_kept more h done (Some part, x) = h x _

    pub gather_kept : (n : ℕ) (x : Walker) (done : List Value) → Kept (gather n x done)
    unfolding gather
    gather_kept zero x done = kept-steps
    gather_kept (suc n) x done = kept-bind _ _ (next_kept x) (λ part. go_through_kept (gather n) (gather_kept n) done part)

    pub collect_kept : (x : Walker) → Kept (collect x)
    unfolding collect
    collect_kept x = by_machine _ (λ m. gather_kept (suc m.left) x [])

    -- ---- truth

    has_entries_kept : (o : ObjRef) → Kept (has_entries o)
    has_entries_kept o = kept-bind _ _ (shape_kept _ o) (λ n. kept-pure _)

    truth_of_kept : (x : Kind) → Kept (truth_of x)
    truth_of_kept k.Nil = kept-pure _
    truth_of_kept (k.Number n) = kept-pure _
    truth_of_kept (k.Text t) = kept-pure _
    truth_of_kept (k.Tuple xs) = kept-pure _
    truth_of_kept (k.Range start end step) = kept-pure _
    truth_of_kept (k.List o) = has_entries_kept o
    truth_of_kept (k.Dict d) = has_entries_kept d
    truth_of_kept (k.Instance o class) = kept-pure _
    truth_of_kept (k.Class o) = kept-pure _
    truth_of_kept k.Other = kept-pure _

    pub truth_kept : (x : Value) → Kept (truth x)
    unfolding truth
    truth_kept x = kept-bind _ _ (kind_kept x) truth_of_kept

    -- ---- equality and order

    lengths_kept : (s : Pair) → Kept (eq.lengths s)
    lengths_kept (two.Tuples xs ys) = kept-pure _
    lengths_kept (two.Lists o p) = kept-bind _ _ (shape_kept _ o) (λ m. kept-bind _ _ (shape_kept _ p) (λ n. kept-pure _))
    lengths_kept (two.Numbers x y) = kept-pure _
    lengths_kept (two.Texts s t) = kept-pure _
    lengths_kept (two.Dicts d e) = kept-pure _
    lengths_kept two.Others = kept-pure _

    sides_kept : (s : Pair) (i : ℕ) → Kept (eq.sides s i)
    sides_kept (two.Tuples xs ys) i = kept-bind _ _ (steps_kept 1) (λ u. kept-pure _)
    sides_kept (two.Lists o p) i = kept-bind _ _ (steps_kept 1) (λ u. kept-bind _ _ (load_kept _) (λ x. kept-bind _ _ (load_kept _) (λ y. kept-pure _)))
    sides_kept (two.Numbers x y) i = kept-bind _ _ (steps_kept 1) (λ u. kept-pure _)
    sides_kept (two.Texts s t) i = kept-bind _ _ (steps_kept 1) (λ u. kept-pure _)
    sides_kept (two.Dicts d e) i = kept-bind _ _ (steps_kept 1) (λ u. kept-pure _)
    sides_kept two.Others i = kept-bind _ _ (steps_kept 1) (λ u. kept-pure _)

    both_kept : (test : Value → Value → M Bool) → ((x y : Value) → Kept (test x y)) → (xy : Option Value × Option Value) → Kept (eq.both test xy)
    both_kept test h (Some x, Some y) = h x y
    both_kept test h (Some x, None) = kept-pure _
    both_kept test h (None, y) = kept-pure _

    and_then_kept : (more : M Bool) (b : Bool) → Kept more → Kept (eq.and_then more b)
    and_then_kept more true h = h
    and_then_kept more false h = kept-pure _

    all_from_kept : (test : ℕ → M Bool) → ((i : ℕ) → Kept (test i)) → (i n : ℕ) → Kept (eq.all_from test i n)
    unfolding eq.all_from
    all_from_kept test h i zero = kept-pure _
    all_from_kept test h i (suc n) = kept-bind _ _ (h i) (λ b. and_then_kept _ b (all_from_kept test h (suc i) n))

    module _ (below : Value → Value → M Bool) (h : (x y : Value) → Kept (below x y)) where
      equal_sides_kept : (s : Pair) (i : ℕ) → Kept (eq.equal_sides below s i)
      equal_sides_kept s i = kept-bind _ _ (sides_kept s i) (both_kept below h)

      equal_sequences_kept : (s : Pair) (counts : ℕ × ℕ) → Kept (eq.equal_sequences below s counts)
      equal_sequences_kept s counts = cond_kept _ _ _ (all_from_kept _ (equal_sides_kept s) 0 counts.0) (kept-pure _)

      equal_parts_kept : (s : Pair) → Kept (eq.equal_parts below s)
      equal_parts_kept s = kept-bind _ _ (lengths_kept s) (equal_sequences_kept s)

      equal_at_kept : (d e : ObjRef) (key : Key) (b : Bool) → Kept (eq.equal_at below d e key b)
      equal_at_kept d e key true = kept-bind _ _ (load_kept _) (λ x. kept-bind _ _ (load_kept _) (λ y. both_kept below h (x, y)))
      equal_at_kept d e key false = kept-pure _

      equal_entry_kept : (d e : ObjRef) (key : Option Key) → Kept (eq.equal_entry below d e key)
      equal_entry_kept d e None = kept-pure _
      equal_entry_kept d e (Some key) = kept-bind _ _ (present_kept e key) (equal_at_kept d e key)

      equal_place_kept : (d e : ObjRef) (i : ℕ) → Kept (eq.equal_place below d e i)
      equal_place_kept d e i = kept-bind _ _ (steps_kept 1) (λ u. kept-bind _ _ (key_at_kept d i) (λ x. equal_entry_kept d e (key_if x)))

      equal_counts_kept : (d e : ObjRef) (m n : ℕ) → Kept (eq.equal_counts below d e m n)
      equal_counts_kept d e m n = cond_kept _ _ _ (all_from_kept _ (equal_place_kept d e) 0 m) (kept-pure _)

      equal_dicts_kept : (d e : ObjRef) → Kept (eq.equal_dicts below d e)
      equal_dicts_kept d e = kept-bind _ _ (shape_kept _ d) (λ m. kept-bind _ _ (shape_kept _ e) (λ n. equal_counts_kept d e m n))

      equal_pair_kept : (a b : Value) (s : Pair) → Kept (eq.equal_pair below a b s)
      equal_pair_kept a b (two.Numbers x y) = kept-pure _
      equal_pair_kept a b (two.Texts s t) = kept-pure _
      equal_pair_kept a b (two.Tuples xs ys) = equal_parts_kept (two.Tuples xs ys)
      equal_pair_kept a b (two.Lists o p) = cond_kept _ _ _ (kept-pure _) (equal_parts_kept (two.Lists o p))
      equal_pair_kept a b (two.Dicts d e) = cond_kept _ _ _ (kept-pure _) (equal_dicts_kept d e)
      equal_pair_kept a b two.Others = kept-pure _

      pub equal_with_kept : (a b : Value) → Kept (eq.equal_with below a b)
      unfolding eq.equal_with
      equal_with_kept a b = kept-bind _ _ (pair_kept a b) (equal_pair_kept a b)

    pub equal_below_kept : (n : ℕ) (a b : Value) → Kept (eq.equal_below n a b)
    unfolding eq.equal_below
    equal_below_kept zero a b = fault_kept error.Depth
    equal_below_kept (suc n) a b = equal_with_kept _ (equal_below_kept n) a b

    pub equal_kept : (a b : Value) → Kept (eq.equal a b)
    unfolding eq.equal
    equal_kept a b = by_machine _ (λ m. equal_with_kept _ (equal_below_kept _) a b)

    or_else_kept : (rest : M Bool) (b : Option Bool) → Kept rest → Kept (ord.or_else rest b)
    or_else_kept rest None h = h
    or_else_kept rest (Some b) h = kept-pure _

    first_from_kept : (test : ℕ → M (Option Bool)) → ((i : ℕ) → Kept (test i)) → (i n : ℕ) (otherwise : Bool) → Kept (ord.first_from test i n otherwise)
    unfolding ord.first_from
    first_from_kept test h i zero otherwise = kept-pure _
    first_from_kept test h i (suc n) otherwise = kept-bind _ _ (h i) (λ b. or_else_kept _ b (first_from_kept test h (suc i) n otherwise))

    module _ (equal_below less_below : Value → Value → M Bool) (he : (x y : Value) → Kept (equal_below x y)) (hl : (x y : Value) → Kept (less_below x y)) where
      decided_kept : (xy : Option Value × Option Value) (b : Bool) → Kept (ord.decided equal_below less_below xy b)
      decided_kept xy true = kept-pure _
      decided_kept xy false = kept-bind _ _ (both_kept less_below hl xy) (λ b. kept-pure _)

      decided_at_kept : (s : Pair) (i : ℕ) → Kept (ord.decided_at equal_below less_below s i)
      decided_at_kept s i = kept-bind _ _ (sides_kept s i) (λ xy. kept-bind _ _ (both_kept equal_below he xy) (decided_kept xy))

      less_sequences_kept : (same : Bool) (s : Pair) (counts : ℕ × ℕ) → Kept (ord.less_sequences equal_below less_below same s counts)
      less_sequences_kept same s counts = first_from_kept _ (decided_at_kept s) 0 _ _

      less_parts_kept : (same : Bool) (s : Pair) → Kept (ord.less_parts equal_below less_below same s)
      less_parts_kept same s = kept-bind _ _ (lengths_kept s) (less_sequences_kept same s)

      less_pair_kept : (same : Bool) (s : Pair) → Kept (ord.less_pair equal_below less_below same s)
      less_pair_kept same (two.Numbers x y) = kept-pure _
      less_pair_kept same (two.Texts s t) = kept-pure _
      less_pair_kept same (two.Tuples xs ys) = less_parts_kept same (two.Tuples xs ys)
      less_pair_kept same (two.Lists o p) = less_parts_kept same (two.Lists o p)
      less_pair_kept same (two.Dicts d e) = fault_kept _
      less_pair_kept same two.Others = fault_kept _

      pub less_with_kept : (same : Bool) (a b : Value) → Kept (ord.less_with equal_below less_below same a b)
      unfolding ord.less_with
      less_with_kept same a b = kept-bind _ _ (pair_kept a b) (less_pair_kept same)

    pub less_below_kept : (n : ℕ) (a b : Value) → Kept (ord.less_below n a b)
    unfolding ord.less_below
    less_below_kept zero a b = fault_kept error.Depth
    less_below_kept (suc n) a b = less_with_kept _ _ (equal_below_kept n) (less_below_kept n) false a b

    pub less_kept : (a b : Value) → Kept (ord.less a b)
    unfolding ord.less
    less_kept a b = by_machine _ (λ m. less_with_kept _ _ (equal_below_kept _) (less_below_kept _) false a b)

    pub less_or_equal_kept : (a b : Value) → Kept (ord.less_or_equal a b)
    unfolding ord.less_or_equal
    less_or_equal_kept a b = by_machine _ (λ m. less_with_kept _ _ (equal_below_kept _) (less_below_kept _) true a b)

    -- ---- lookups

    module _ (a : Sym) where
      found_or_kept : (above : Option Value → M (Option Value)) → ((x : Option Value) → Kept (above x)) → (c : ObjRef) (found : Option Value) → Kept (look.found_or a above c found)
      found_or_kept above h c (Some x) = kept-pure _
      found_or_kept above h c None = kept-bind _ _ (fixed_kept c) (λ o. h _)

      found_at_kept : (above : Option Value → M (Option Value)) → ((x : Option Value) → Kept (above x)) → (c : Option ObjRef) → Kept (look.found_at a above c)
      found_at_kept above h None = kept-pure _
      found_at_kept above h (Some c) = kept-bind _ _ (load_kept _) (λ x. found_or_kept above h c x)

      found_above_kept : (n : ℕ) (x : Option Value) → Kept (look.found_above a n x)
      found_above_kept zero x = kept-pure _
      found_above_kept (suc n) x = found_at_kept _ (found_above_kept n) _

      pub find_kept : (class : Value) → Kept (look.find a class)
      unfolding look.find
      find_kept class = by_machine _ (λ m. found_above_kept _ (Some class))

      or_missing_kept : (x : Option Value) → Kept (look.or_missing a x)
      or_missing_kept (Some x) = kept-pure _
      or_missing_kept None = fault_named_kept _ a

      bound_at_kept : (receiver : ObjRef) (x : Value) (y : Value-F Value) → Kept (look.bound_at receiver x y)
      bound_at_kept receiver x (v.Obj f) = kept-bind _ _ (fixed_kept f) (λ o. kept-pure _)
      bound_at_kept receiver x v.Nil = kept-pure _
      bound_at_kept receiver x (v.Truth b) = kept-pure _
      bound_at_kept receiver x (v.Int n) = kept-pure _
      bound_at_kept receiver x (v.Text t) = kept-pure _
      bound_at_kept receiver x (v.Tuple xs kept) = kept-pure _
      bound_at_kept receiver x (v.Range b c d) = kept-pure _
      bound_at_kept receiver x (v.Builtin f) = kept-pure _
      bound_at_kept receiver x (v.Bound f o) = kept-pure _
      bound_at_kept receiver x (v.Method f o) = kept-pure _

      bind_kept : (receiver : ObjRef) (x : Option Value) → Kept (look.bind a receiver x)
      bind_kept receiver None = fault_named_kept _ a
      bind_kept receiver (Some x) = bound_at_kept receiver x _

      own_or_bound_kept : (o : ObjRef) (class : Value) (x : Option Value) → Kept (look.own_or_bound a o class x)
      own_or_bound_kept o class (Some x) = kept-pure _
      own_or_bound_kept o class None = kept-bind _ _ (find_kept class) (bind_kept o)

      method_kept : (receiver : Value) (b : Bool) → Kept (look.method a receiver b)
      method_kept receiver true = cond_kept _ _ _ (fault_kept _) (kept-pure _)
      method_kept receiver false = fault_named_kept _ a

      lookup_of_kept : (x : Value) (y : Kind) → Kept (look.lookup_of a x y)
      lookup_of_kept x (k.Instance o class) = kept-bind _ _ (load_kept _) (own_or_bound_kept o class)
      lookup_of_kept x (k.Class c) = kept-bind _ _ (find_kept x) or_missing_kept
      lookup_of_kept x (k.List o) = method_kept x _
      lookup_of_kept x (k.Dict d) = method_kept x _
      lookup_of_kept x (k.Text t) = method_kept x _
      lookup_of_kept x (k.Tuple xs) = method_kept x _
      lookup_of_kept x k.Nil = fault_named_kept _ a
      lookup_of_kept x (k.Number n) = fault_named_kept _ a
      lookup_of_kept x (k.Range b c d) = fault_named_kept _ a
      lookup_of_kept x k.Other = fault_named_kept _ a

    pub lookup_kept : (x : Value) (a : Sym) → Kept (look.lookup x a)
    unfolding look.lookup
    lookup_kept x a = kept-bind _ _ (kind_kept x) (lookup_of_kept a x)

    -- ---- operators

    answered_kept : (r : Result ℤ NumFault) → Kept (ops.answered r)
    answered_kept (Ok n) = kept-pure _
    answered_kept (Err Range) = kept-range
    answered_kept (Err ZeroDiv) = fault_kept _

    raised_to_kept : (x y : ℤ) → Kept (ops.raised_to x y)
    raised_to_kept x (pos n) = answered_kept _
    raised_to_kept x (negsuc n) = fault_kept _

    of_numbers_kept : (f : ℤ → ℤ → M Value) → ((x y : ℤ) → Kept (f x y)) → (s : Pair) → Kept (ops.of_numbers f s)
    of_numbers_kept f h (two.Numbers x y) = h x y
    of_numbers_kept f h (two.Texts s t) = fault_kept _
    of_numbers_kept f h (two.Tuples xs ys) = fault_kept _
    of_numbers_kept f h (two.Lists o p) = fault_kept _
    of_numbers_kept f h (two.Dicts d e) = fault_kept _
    of_numbers_kept f h two.Others = fault_kept _

    negated_kept : (x : Kind) → Kept (ops.negated x)
    negated_kept (k.Number n) = answered_kept _
    negated_kept k.Nil = fault_kept _
    negated_kept (k.Text t) = fault_kept _
    negated_kept (k.Tuple xs) = fault_kept _
    negated_kept (k.Range start end step) = fault_kept _
    negated_kept (k.List o) = fault_kept _
    negated_kept (k.Dict d) = fault_kept _
    negated_kept (k.Instance o class) = fault_kept _
    negated_kept (k.Class o) = fault_kept _
    negated_kept k.Other = fault_kept _

    pub negate_kept : (x : Value) → Kept (ops.negate x)
    unfolding ops.negate
    negate_kept x = kept-bind _ _ (kind_kept x) negated_kept

    unchanged_kept : (x : Kind) → Kept (ops.unchanged x)
    unchanged_kept (k.Number n) = kept-pure _
    unchanged_kept k.Nil = fault_kept _
    unchanged_kept (k.Text t) = fault_kept _
    unchanged_kept (k.Tuple xs) = fault_kept _
    unchanged_kept (k.Range start end step) = fault_kept _
    unchanged_kept (k.List o) = fault_kept _
    unchanged_kept (k.Dict d) = fault_kept _
    unchanged_kept (k.Instance o class) = fault_kept _
    unchanged_kept (k.Class o) = fault_kept _
    unchanged_kept k.Other = fault_kept _

    pub plus_kept : (x : Value) → Kept (ops.plus x)
    unfolding ops.plus
    plus_kept x = kept-bind _ _ (kind_kept x) unchanged_kept

    text_in_kept : (x : Kind) (t : List ℕ) → Kept (ops.text_in x t)
    text_in_kept (k.Text s) t = kept-bind _ _ (steps_kept _) (λ u. kept-pure _)
    text_in_kept k.Nil t = fault_kept _
    text_in_kept (k.Number n) t = fault_kept _
    text_in_kept (k.Tuple xs) t = fault_kept _
    text_in_kept (k.Range start end step) t = fault_kept _
    text_in_kept (k.List o) t = fault_kept _
    text_in_kept (k.Dict d) t = fault_kept _
    text_in_kept (k.Instance o class) t = fault_kept _
    text_in_kept (k.Class o) t = fault_kept _
    text_in_kept k.Other t = fault_kept _

    key_in_kept : (key : Option Key) (d : ObjRef) → Kept (ops.key_in key d)
    key_in_kept None d = fault_kept _
    key_in_kept (Some key) d = present_kept d key

    or_more_kept : (more : M Bool) (b : Bool) → Kept more → Kept (ops.or_more more b)
    or_more_kept more true h = kept-pure _
    or_more_kept more false h = h

    found_part_kept : (more : Walker → M Bool) → ((x : Walker) → Kept (more x)) → (x : Value) (part : Option Value × Walker) → Kept (ops.found_part more x part)
    found_part_kept more h x (None, after) = kept-pure _
    found_part_kept more h x (Some y, after) = kept-bind _ _ (equal_kept y x) (λ b. or_more_kept _ b (h after))

    found_from_kept : (x : Value) (n : ℕ) (after : Walker) → Kept (ops.found_from x n after)
    found_from_kept x zero after = kept-steps
    found_from_kept x (suc n) after = kept-bind _ _ (next_kept after) (λ part. found_part_kept _ (found_from_kept x n) x part)

    pub find_equal_kept : (x : Value) (after : Walker) → Kept (ops.find_equal x after)
    unfolding ops.find_equal
    find_equal_kept x after = by_machine _ (λ m. found_from_kept x (suc m.left) after)

    through_kept : (x c : Value) → Kept (walk c >>= ops.find_equal x)
    through_kept x c = kept-bind _ _ (walk_kept c) (find_equal_kept x)

    contains_of_kept : (x c : Value) (y : Kind) → Kept (ops.contains_of x c y)
    contains_of_kept x c (k.Dict d) = key_in_kept _ d
    contains_of_kept x c (k.Text t) = kept-bind _ _ (kind_kept x) (λ s. text_in_kept s t)
    contains_of_kept x c k.Nil = through_kept x c
    contains_of_kept x c (k.Number n) = through_kept x c
    contains_of_kept x c (k.Tuple xs) = through_kept x c
    contains_of_kept x c (k.Range start end step) = through_kept x c
    contains_of_kept x c (k.List o) = through_kept x c
    contains_of_kept x c (k.Instance o class) = through_kept x c
    contains_of_kept x c (k.Class o) = through_kept x c
    contains_of_kept x c k.Other = through_kept x c

    pub contains_kept : (x c : Value) → Kept (ops.contains x c)
    unfolding ops.contains
    contains_kept x c = kept-bind _ _ (kind_kept c) (contains_of_kept x c)

  -- ---- what makes lists and dictionaries

  module _ (prims : Reads) (more : Writes) where
    open prims use {steps_kept}
    open more use {new_list_kept, new_dict_kept}

    pub make_list_kept : (items : List Value) → Kept (make_list items)
    unfolding make_list
    make_list_kept items = search (kept-bind, steps_kept, new_list_kept, kept-pure)

    pub make_dict_kept : (keys values : List Value) → Kept (make_dict keys values)
    unfolding make_dict
    make_dict_kept keys values =
        cond_kept _ _ _ (kept-bind _ _ (steps_kept _) (λ u. kept-bind _ _ (new_dict_kept keys values) (λ d. kept-pure _))) (fault_kept prims _)

    joined_lists_kept : (o p : ObjRef) → Kept (ops.joined_lists o p)
    joined_lists_kept o p = kept-bind _ _ (collect_kept prims _) (λ xs. kept-bind _ _ (collect_kept prims _) (λ ys. make_list_kept _))

    sum_of_kept : (s : Pair) → Kept (ops.sum_of s)
    sum_of_kept (two.Numbers x y) = answered_kept prims _
    sum_of_kept (two.Texts s t) = make_text_kept prims _
    sum_of_kept (two.Tuples xs ys) = make_tuple_kept prims _
    sum_of_kept (two.Lists o p) = joined_lists_kept o p
    sum_of_kept (two.Dicts d e) = fault_kept prims _
    sum_of_kept two.Others = fault_kept prims _

    product_of_kept : (x : Product) → Kept (ops.product_of x)
    product_of_kept (p.Numbers x y) = answered_kept prims _
    product_of_kept (p.Text t n) = make_text_kept prims _
    product_of_kept (p.Tuple xs n) = make_tuple_kept prims _
    product_of_kept (p.List o n) = kept-bind _ _ (collect_kept prims _) (λ xs. make_list_kept _)
    product_of_kept p.Others = fault_kept prims _

    binary_of_kept : (op : BinaryOp) (a b : Value) → Kept (ops.binary_of op a b)
    binary_of_kept binop.Add a b = kept-bind _ _ (pair_kept a b) sum_of_kept
    binary_of_kept binop.Sub a b = kept-bind _ _ (pair_kept a b) (of_numbers_kept prims _ (λ x y. answered_kept prims _))
    binary_of_kept binop.Mul a b = kept-bind _ _ (product_kept a b) product_of_kept
    binary_of_kept binop.FloorDiv a b = kept-bind _ _ (pair_kept a b) (of_numbers_kept prims _ (λ x y. answered_kept prims _))
    binary_of_kept binop.Mod a b = kept-bind _ _ (pair_kept a b) (of_numbers_kept prims _ (λ x y. answered_kept prims _))
    binary_of_kept binop.Power a b = kept-bind _ _ (pair_kept a b) (of_numbers_kept prims _ (raised_to_kept prims))

    pub binary_kept : (op : BinaryOp) (a b : Value) → Kept (ops.binary op a b)
    unfolding ops.binary
    binary_kept op a b = binary_of_kept op a b
