-- Which values are allowed.
use Rattle.std.proofs.Common.{◌≡◌, ◌≤◌, ◌<◌, ◌+◌, ◌∙◌, ℕ, zero, suc, ℤ, pos, negsuc, max, Bool, true, false, cond, List, [], ◌∷◌, map, Option, Some, None, refl, sym, ap, subst, arith}
use Rattle.std.specs.Prelude.{IsTrue, nat_le, slice_get}
use Rattle.std.specs.List.{All}
use Rattle.std.proofs.lemmas.Bool.{leb-false}
use Rattle.std.proofs.lemmas.List.Elements.{All-cons, All-head, All-nil, All-tail, All-weaker}
use Rattle.flow_base.specs.Same.{key_eq}
use Rattle.flow_base.specs.declared.key.Key.{Key, out-Key}
use Rattle.flow_base.specs.declared.key.Key.TheOpen as key
use Rattle.flow_base.specs.declared.key.Key.TheOpen.{Key-F}
use Rattle.flow_base.specs.declared.loc.Loc.{Loc}
use Rattle.flow_base.specs.declared.loc.Loc.TheVariants as loc
use Rattle.flow_base.specs.declared.numbers.ObjRef.{ObjRef}
use Rattle.flow_base.specs.declared.numbers.Sym.{Sym}
use Rattle.heap_objects.specs.Changes.{Keeps}
use Rattle.heap_objects.specs.Entries.{entry_of}
use Rattle.heap_objects.specs.Nesting.{IsNested, IsNested_at, kept_nesting, kept_step, largest, nesting, nesting_step, tuple_of}
use Rattle.heap_objects.specs.State.{State, attr_in, cell_at, cell_in, entry_value, item_in, keys_at, keys_in, list_item, name_in, object_at, value_at, value_in}
use Rattle.heap_objects.specs.WellFormed.{AreEntries, AreSteady, Holds, IsAllowed, IsAllowedIf, IsFunction, IsInstance, IsLawful, IsLawful_at, IsNoFrame, IsWellFormed, Refers, Refers_at, Rules}
use Rattle.heap_objects.specs.declared.object.Cell.{Cell}
use Rattle.heap_objects.specs.declared.object.Cell.TheVariants as cell
use Rattle.heap_objects.specs.declared.object.Node.{Node}
use Rattle.heap_objects.specs.declared.object.Object.{Object}
use Rattle.heap_objects.specs.declared.tree.Entry.{Entry}
use Rattle.heap_objects.specs.declared.value.TheConstants.{NESTING_LIMIT}
use Rattle.heap_objects.specs.declared.value.Value.{Value, out-Value, roll-Value}
use Rattle.heap_objects.specs.declared.value.Value.TheFolds.{every-Value, every_held-Value, every_here-Value, every_made-Value, fold-roll-Value, ind-Value, map-Value}
use Rattle.heap_objects.specs.declared.value.Value.TheOpen as v
use Rattle.heap_objects.specs.declared.value.Value.TheOpen.{Value-F}
use Rattle.heap_objects.specs.declared.value.Value.TheViews.{out-roll-Value, roll-out-Value}
use Rattle.heap_objects.proofs.RefersLaws.{every_more, keeps_more, refers_more}
use Rattle.heap_objects.proofs.SlotLaws.{none_some, same_some}
use Rattle.interp_laws.specs.Formed.{AreSteadyCodes, Codes, has_method, rules_of}
use Rattle.interp_machine.specs.Kinds.{kind_at, object_kind}
use Rattle.interp_machine.specs.Meaning.{nests_over}

-- ---- the rules are steady

kind_stays : (a : Sym) (o : ObjRef) (p q : Option Object) → ((x : Object) → p ≡ Some x → q ≡ Some x) → IsTrue (has_method a (object_kind o p)) → IsTrue (has_method a (object_kind o q))
kind_stays a o None q h is = cc
kind_stays a o (Some x) q h is = subst (λ (r : Option Object). IsTrue (has_method a (object_kind o r))) (sym (h x refl)) is

method_at : (a : Sym) (s t : State) → Keeps s t → (y : Value-F Value) → IsTrue (has_method a (kind_at (object_at s) y)) → IsTrue (has_method a (kind_at (object_at t) y))
method_at a s t k (v.Obj o) h = kind_stays a o (object_at s o) (object_at t o) ((keeps_more s t k).same o) h
method_at a s t k v.Nil h = h
method_at a s t k (v.Truth true) h = h
method_at a s t k (v.Truth false) h = h
method_at a s t k (v.Int n) h = h
method_at a s t k (v.Text x) h = h
method_at a s t k (v.Tuple ps kept) h = h
method_at a s t k (v.Range b c d) h = h
method_at a s t k (v.Builtin name) h = h
method_at a s t k (v.Bound f o) h = h
method_at a s t k (v.Method name receiver) h = h

pub steady_rules : (codes : Codes) → AreSteadyCodes codes → AreSteady (rules_of codes)
steady_rules codes h = record {
  methods = λ s t name receiver k is. method_at name s t k (out-Value receiver) is;
  codes = λ s t name code defaults parent k is. h.steady s t name code defaults parent k is;
}

-- ---- more objects

lawful_at : (rules : Rules) (s t : State) → AreSteady rules → Keeps s t → (y : Value-F Value) → IsLawful_at rules s y → IsLawful_at rules t y
lawful_at rules s t steady k v.Nil h = h
lawful_at rules s t steady k (v.Truth b) h = h
lawful_at rules s t steady k (v.Int n) h = h
lawful_at rules s t steady k (v.Text x) h = h
lawful_at rules s t steady k (v.Tuple ps kept) h = h
lawful_at rules s t steady k (v.Range a b c) h = h
lawful_at rules s t steady k (v.Builtin name) h = h
lawful_at rules s t steady k (v.Obj o) h = h
lawful_at rules s t steady k (v.Bound f o) h = h
lawful_at rules s t steady k (v.Method name receiver) h = steady.methods s t name receiver k h

pub allowed_more : (rules : Rules) (s t : State) → AreSteady rules → Keeps s t → (x : Value) → IsAllowed rules s x → IsAllowed rules t x
allowed_more rules s t steady k x h = record {
  refers = refers_more (object_at s) (object_at t) (keeps_more s t k) x h.refers;
  lawful = record {
    parts = every_more (IsLawful_at rules s) (IsLawful_at rules t) (lawful_at rules s t steady k) x h.lawful.parts;
    nested = h.lawful.nested;
    within = h.lawful.within;
  };
}

pub all_more : (rules : Rules) (s t : State) → AreSteady rules → Keeps s t → (xs : List Value) → All (IsAllowed rules s) xs → All (IsAllowed rules t) xs
all_more rules s t steady k xs h = All-weaker (IsAllowed rules s) (IsAllowed rules t) (λ x a. allowed_more rules s t steady k x a) xs h

-- ---- single values

no_more : (a b c : ℕ) → a ≡ b → b ≤ c → a ≤ c
no_more a b c e le = omega arith

nests : (y : Value-F Value) (n : ℕ) → nesting_step (map-Value Value ℕ nesting y) ≡ n → n ≤ NESTING_LIMIT → nesting (roll-Value y) ≤ NESTING_LIMIT
nests y n e le = no_more (nesting (roll-Value y)) n NESTING_LIMIT (fold-roll-Value ℕ nesting_step y ∙ e) le

pub allowed_int : (rules : Rules) (s : State) (n : ℤ) → IsAllowed rules s (roll-Value (v.Int n))
allowed_int rules s n = record {
  refers = every_made-Value (Refers_at (object_at s)) (v.Int n) (v.Int n) refl tt;
  lawful = record {
    parts = every_made-Value (IsLawful_at rules s) (v.Int n) (v.Int n) refl tt;
    nested = every_made-Value IsNested_at (v.Int n) (v.Int n) refl tt;
    within = nests (v.Int n) 0 refl (omega arith);
  };
}

pub allowed_text : (rules : Rules) (s : State) (t : List ℕ) → IsAllowed rules s (roll-Value (v.Text t))
allowed_text rules s t = record {
  refers = every_made-Value (Refers_at (object_at s)) (v.Text t) (v.Text t) refl tt;
  lawful = record {
    parts = every_made-Value (IsLawful_at rules s) (v.Text t) (v.Text t) refl tt;
    nested = every_made-Value IsNested_at (v.Text t) (v.Text t) refl tt;
    within = nests (v.Text t) 0 refl (omega arith);
  };
}

pub allowed_builtin : (rules : Rules) (s : State) (f : Sym) → IsTrue (rules.is_builtin f) → IsAllowed rules s (roll-Value (v.Builtin f))
allowed_builtin rules s f is = record {
  refers = every_made-Value (Refers_at (object_at s)) (v.Builtin f) (v.Builtin f) refl tt;
  lawful = record {
    parts = every_made-Value (IsLawful_at rules s) (v.Builtin f) (v.Builtin f) refl is;
    nested = every_made-Value IsNested_at (v.Builtin f) (v.Builtin f) refl tt;
    within = nests (v.Builtin f) 0 refl (omega arith);
  };
}

pub allowed_object : (rules : Rules) (s : State) (o : ObjRef) → IsNoFrame (object_at s o) → IsAllowed rules s (roll-Value (v.Obj o))
allowed_object rules s o is = record {
  refers = every_made-Value (Refers_at (object_at s)) (v.Obj o) (v.Obj o) refl is;
  lawful = record {
    parts = every_made-Value (IsLawful_at rules s) (v.Obj o) (v.Obj o) refl tt;
    nested = every_made-Value IsNested_at (v.Obj o) (v.Obj o) refl tt;
    within = nests (v.Obj o) 0 refl (omega arith);
  };
}

pub allowed_bound : (rules : Rules) (s : State) (f o : ObjRef) → IsFunction (object_at s f) → IsInstance (object_at s o) → IsAllowed rules s (roll-Value (v.Bound f o))
allowed_bound rules s f o is has = record {
  refers = every_made-Value (Refers_at (object_at s)) (v.Bound f o) (v.Bound f o) refl (is, has);
  lawful = record {
    parts = every_made-Value (IsLawful_at rules s) (v.Bound f o) (v.Bound f o) refl tt;
    nested = every_made-Value IsNested_at (v.Bound f o) (v.Bound f o) refl tt;
    within = nests (v.Bound f o) 1 refl (omega arith);
  };
}

-- ---- values with parts

abbrev Each : (Value-F Value → Type 0) → Type 0
Each P = (x : Value) × every-Value P x

abbrev Wrap : Type 0
Wrap = (x : Value) × (IsNested x → kept_nesting x ≡ nesting x)

each_of : (P : Value-F Value → Type 0) (xs : List Value) → All (every-Value P) xs → (zs : List (Each P)) × (map (λ z. z.0) zs ≡ xs)
each_of P [] h = ([], refl)
each_of P (x ∷ xs) h =
    let rest = each_of P xs (All-tail (every-Value P) x xs h) in
    ((x, All-head (every-Value P) x xs h) ∷ rest.0, ap (λ (ys : List Value). x ∷ ys) rest.1)

all_of_each : (P : Value-F Value → Type 0) (zs : List (Each P)) (xs : List Value) → map (λ z. z.0) zs ≡ xs → All (every-Value P) xs
all_of_each P zs xs e = subst (All (every-Value P)) e (go zs)
  where
    go : (ys : List (Each P)) → All (every-Value P) (map (λ z. z.0) ys)
    go [] = All-nil (every-Value P)
    go (z ∷ ys) = All-cons (every-Value P) z.0 (map (λ y. y.0) ys) z.1 (go ys)

tuple_parts : (P : Value-F Value → Type 0) (z : Value-F (Each P)) (xs : List Value) (kept : ℕ) → map-Value (Each P) Value (λ z. z.0) z ≡ v.Tuple xs kept
    → (zs : List (Each P)) × (map (λ z. z.0) zs ≡ xs)
tuple_parts P v.Nil xs kept e = cc
tuple_parts P (v.Truth b) xs kept e = cc
tuple_parts P (v.Int n) xs kept e = cc
tuple_parts P (v.Text t) xs kept e = cc
tuple_parts P (v.Tuple zs k) xs kept e = (zs, cc)
tuple_parts P (v.Range a b c) xs kept e = cc
tuple_parts P (v.Builtin s) xs kept e = cc
tuple_parts P (v.Obj o) xs kept e = cc
tuple_parts P (v.Bound f o) xs kept e = cc
tuple_parts P (v.Method s p) xs kept e = cc

receiver_of : (P : Value-F Value → Type 0) (z : Value-F (Each P)) (name : Sym) (x : Value) → map-Value (Each P) Value (λ z. z.0) z ≡ v.Method name x → every-Value P x
receiver_of P v.Nil name x e = cc
receiver_of P (v.Truth b) name x e = cc
receiver_of P (v.Int n) name x e = cc
receiver_of P (v.Text t) name x e = cc
receiver_of P (v.Tuple zs k) name x e = cc
receiver_of P (v.Range a b c) name x e = cc
receiver_of P (v.Builtin s) name x e = cc
receiver_of P (v.Obj o) name x e = cc
receiver_of P (v.Bound f o) name x e = cc
receiver_of P (v.Method s p) name x e = let same : p.0 ≡ x = cc in subst (every-Value P) same p.1

-- the parts of a tuple each level of which is so
parts_so : (P : Value-F Value → Type 0) (x : Value) (xs : List Value) (kept : ℕ) → out-Value x ≡ v.Tuple xs kept → every-Value P x → All (every-Value P) xs
parts_so P x xs kept e h =
    let held = every_held-Value P x h in
    let zs = tuple_parts P held.0 xs kept (held.1 ∙ e) in
    all_of_each P zs.0 xs zs.1

-- ---- the nesting beside the parts

kept_level : (y : Value-F Wrap) → IsNested (roll-Value (map-Value Wrap Value (λ p. p.0) y))
    → kept_step (map-Value Value ℕ kept_nesting (map-Value Wrap Value (λ p. p.0) y)) ≡ nesting_step (map-Value Value ℕ nesting (map-Value Wrap Value (λ p. p.0) y))
kept_level v.Nil h = refl
kept_level (v.Truth b) h = refl
kept_level (v.Int n) h = refl
kept_level (v.Text t) h = refl
kept_level (v.Tuple ps kept) h =
    subst IsNested_at (out-roll-Value (v.Tuple (map (λ p. p.0) ps) kept)) (every_here-Value IsNested_at (roll-Value (v.Tuple (map (λ p. p.0) ps) kept)) h)
kept_level (v.Range a b c) h = refl
kept_level (v.Builtin s) h = refl
kept_level (v.Obj o) h = refl
kept_level (v.Bound f o) h = refl
kept_level (v.Method s p) h =
    let held = every_held-Value IsNested_at (roll-Value (v.Method s p.0)) h in
    ap (λ (n : ℕ). n + 1) (p.1 (receiver_of IsNested_at held.0 s p.0 (held.1 ∙ out-roll-Value (v.Method s p.0))))

pub kept_is : (x : Value) → IsNested x → kept_nesting x ≡ nesting x
kept_is = ind-Value (λ x. IsNested x → kept_nesting x ≡ nesting x)
    (λ x y e. subst (λ (z : Value-F Value). IsNested (roll-Value z) → kept_nesting (roll-Value z) ≡ nesting (roll-Value z)) e (step y))
  where
    step : (y : Value-F Wrap) → IsNested (roll-Value (map-Value Wrap Value (λ p. p.0) y))
        → kept_nesting (roll-Value (map-Value Wrap Value (λ p. p.0) y)) ≡ nesting (roll-Value (map-Value Wrap Value (λ p. p.0) y))
    step y h = let x : Value-F Value = map-Value Wrap Value (λ p. p.0) y in
        fold-roll-Value ℕ kept_step x ∙ kept_level y h ∙ sym (fold-roll-Value ℕ nesting_step x)

all_kept_is : (xs : List Value) → All IsNested xs → map kept_nesting xs ≡ map nesting xs
all_kept_is [] h = refl
all_kept_is (x ∷ xs) h =
    ap (λ (n : ℕ). n ∷ map kept_nesting xs) (kept_is x (All-head IsNested x xs h)) ∙ ap (λ (ns : List ℕ). nesting x ∷ ns) (all_kept_is xs (All-tail IsNested x xs h))

-- ---- tuples and methods

one_more : (m k n : ℕ) → m ≡ k → k < n → m + 1 ≤ n
one_more m k n e lt = omega arith

pub allowed_tuple : (rules : Rules) (s : State) (xs : List Value) → nests_over xs ≡ false → All (IsAllowed rules s) xs → IsAllowed rules s (tuple_of xs)
allowed_tuple rules s xs low h = record {
  refers = every_made-Value (Refers_at (object_at s)) top (v.Tuple refs.0 kept) (ap (λ (ys : List Value). v.Tuple ys kept) refs.1) tt;
  lawful = record {
    parts = every_made-Value (IsLawful_at rules s) top (v.Tuple laws.0 kept) (ap (λ (ys : List Value). v.Tuple ys kept) laws.1) tt;
    nested = every_made-Value IsNested_at top (v.Tuple deep.0 kept) (ap (λ (ys : List Value). v.Tuple ys kept) deep.1) (ap (λ (ns : List ℕ). largest ns + 1) same);
    within = nests top (largest (map nesting xs) + 1) refl (one_more (largest (map nesting xs)) (largest (map kept_nesting xs)) NESTING_LIMIT (ap largest (sym same)) (leb-false NESTING_LIMIT (largest (map kept_nesting xs)) low));
  };
}
  where
    kept : ℕ
    kept = largest (map kept_nesting xs) + 1

    top : Value-F Value
    top = v.Tuple xs kept

    refs : (zs : List (Each (Refers_at (object_at s)))) × (map (λ z. z.0) zs ≡ xs)
    refs = each_of (Refers_at (object_at s)) xs (All-weaker (IsAllowed rules s) (every-Value (Refers_at (object_at s))) (λ x a. a.refers) xs h)

    laws : (zs : List (Each (IsLawful_at rules s))) × (map (λ z. z.0) zs ≡ xs)
    laws = each_of (IsLawful_at rules s) xs (All-weaker (IsAllowed rules s) (every-Value (IsLawful_at rules s)) (λ x a. a.lawful.parts) xs h)

    nested_all : All IsNested xs
    nested_all = All-weaker (IsAllowed rules s) IsNested (λ x a. a.lawful.nested) xs h

    deep : (zs : List (Each IsNested_at)) × (map (λ z. z.0) zs ≡ xs)
    deep = each_of IsNested_at xs nested_all

    same : map kept_nesting xs ≡ map nesting xs
    same = all_kept_is xs nested_all

pub allowed_method : (rules : Rules) (s : State) (a : Sym) (x : Value) → nat_le NESTING_LIMIT (kept_nesting x) ≡ false → IsTrue (rules.is_method s a x) → IsAllowed rules s x
    → IsAllowed rules s (roll-Value (v.Method a x))
allowed_method rules s a x low is h = record {
  refers = every_made-Value (Refers_at (object_at s)) (v.Method a x) (v.Method a (x, h.refers)) refl tt;
  lawful = record {
    parts = every_made-Value (IsLawful_at rules s) (v.Method a x) (v.Method a (x, h.lawful.parts)) refl is;
    nested = every_made-Value IsNested_at (v.Method a x) (v.Method a (x, h.lawful.nested)) refl tt;
    within = nests (v.Method a x) (nesting x + 1) refl (one_more (nesting x) (kept_nesting x) NESTING_LIMIT (sym (kept_is x h.lawful.nested)) (leb-false NESTING_LIMIT (kept_nesting x) low));
  };
}

-- ---- the parts of a tuple that is allowed

max_parts : (a b n : ℕ) → max a b ≤ n → (a ≤ n) × (b ≤ n)
max_parts a b n le = (omega arith, omega arith)

all_low : (xs : List Value) (n : ℕ) → largest (map nesting xs) ≤ n → All (λ x. nesting x ≤ n) xs
all_low [] n le = All-nil (λ x. nesting x ≤ n)
all_low (x ∷ xs) n le =
    let both = max_parts (nesting x) (largest (map nesting xs)) n le in
    All-cons (λ x. nesting x ≤ n) x xs both.0 (all_low xs n both.1)

all_allowed : (rules : Rules) (s : State) (xs : List Value) → All (Refers (object_at s)) xs → All (every-Value (IsLawful_at rules s)) xs → All IsNested xs
    → All (λ x. nesting x ≤ NESTING_LIMIT) xs → All (IsAllowed rules s) xs
all_allowed rules s [] a b c d = All-nil (IsAllowed rules s)
all_allowed rules s (x ∷ xs) a b c d =
    All-cons (IsAllowed rules s) x xs
    (record {
      refers = All-head (Refers (object_at s)) x xs a;
      lawful = record {
        parts = All-head (every-Value (IsLawful_at rules s)) x xs b;
        nested = All-head IsNested x xs c;
        within = All-head (λ y. nesting y ≤ NESTING_LIMIT) x xs d;
      };
    })
    (all_allowed rules s xs (All-tail (Refers (object_at s)) x xs a) (All-tail (every-Value (IsLawful_at rules s)) x xs b) (All-tail IsNested x xs c)
    (All-tail (λ y. nesting y ≤ NESTING_LIMIT) x xs d))

less_one : (a b n : ℕ) → b ≡ a + 1 → b ≤ n → a ≤ n
less_one a b n e le = omega arith

tuple_nests : (x : Value) (xs : List Value) (kept : ℕ) → out-Value x ≡ v.Tuple xs kept → nesting x ≡ largest (map nesting xs) + 1
tuple_nests x xs kept e = ap nesting (sym (roll-out-Value x)) ∙ ap (λ (y : Value-F Value). nesting (roll-Value y)) e ∙ fold-roll-Value ℕ nesting_step (v.Tuple xs kept)

pub parts_allowed : (rules : Rules) (s : State) (x : Value) (xs : List Value) (kept : ℕ) → out-Value x ≡ v.Tuple xs kept → IsAllowed rules s x → All (IsAllowed rules s) xs
parts_allowed rules s x xs kept e h =
    all_allowed rules s xs (parts_so (Refers_at (object_at s)) x xs kept e h.refers) (parts_so (IsLawful_at rules s) x xs kept e h.lawful.parts)
    (parts_so IsNested_at x xs kept e h.lawful.nested)
    (all_low xs NESTING_LIMIT (less_one (largest (map nesting xs)) (nesting x) NESTING_LIMIT (tuple_nests x xs kept e) h.lawful.within))

-- ---- what objects hold

module _ (P : Value → Type 0) where
  name_held : (c : Cell) (n : Sym) (x : Value) → Holds P c → name_in c n ≡ Some x → P x
  name_held (cell.Global names) n x h e = h n.0 x e
  name_held (cell.Frame slots) n x h e = h n x e
  name_held (cell.List items) n x h e = absurd (none_some x e)
  name_held (cell.Dict es) n x h e = absurd (none_some x e)
  name_held (cell.Attrs names) n x h e = absurd (none_some x e)
  name_held cell.Nothing n x h e = absurd (none_some x e)

  attr_held : (c : Cell) (n : Sym) (x : Value) → Holds P c → attr_in c n ≡ Some x → P x
  attr_held (cell.Attrs names) n x h e = h n.0 x e
  attr_held (cell.Global names) n x h e = absurd (none_some x e)
  attr_held (cell.Frame slots) n x h e = absurd (none_some x e)
  attr_held (cell.List items) n x h e = absurd (none_some x e)
  attr_held (cell.Dict es) n x h e = absurd (none_some x e)
  attr_held cell.Nothing n x h e = absurd (none_some x e)

  pub get_held : (xs : List Value) (i : ℕ) (x : Value) → All P xs → slice_get xs i ≡ Some x → P x
  get_held [] i x h e = absurd (none_some x e)
  get_held (y ∷ ys) zero x h e = subst P (same_some y x e) (All-head P y ys h)
  get_held (y ∷ ys) (suc i) x h e = get_held ys i x (All-tail P y ys h) e

  list_held : (xs : List Value) (y : Key-F Key) (x : Value) → All P xs → list_item xs y ≡ Some x → P x
  list_held xs (key.Int (pos i)) x h e = get_held xs i x h e
  list_held xs (key.Int (negsuc i)) x h e = absurd (none_some x e)
  list_held xs key.Nil x h e = absurd (none_some x e)
  list_held xs (key.Text t) x h e = absurd (none_some x e)
  list_held xs (key.Tuple ks) x h e = absurd (none_some x e)

  entry_held : (es : List Entry) (k : Key) (x : Value) → AreEntries P es → entry_value (entry_of es k) ≡ Some x → P x
  entry_held [] k x h e = absurd (none_some x e)
  entry_held (d ∷ es) k x h e = go (key_eq d.key k) (λ is. entry_held es k x h.2 is) e
    where
      go : (b : Bool) → (entry_value (entry_of es k) ≡ Some x → P x) → entry_value (cond b (Some d) (entry_of es k)) ≡ Some x → P x
      go true rest is = subst P (same_some d.value x is) h.1
      go false rest is = rest is

  item_held : (c : Cell) (k : Key) (x : Value) → Holds P c → item_in c k ≡ Some x → P x
  item_held (cell.List items) k x h e = list_held items (out-Key k) x h e
  item_held (cell.Dict es) k x h e = entry_held es k x h e
  item_held (cell.Global names) k x h e = absurd (none_some x e)
  item_held (cell.Frame slots) k x h e = absurd (none_some x e)
  item_held (cell.Attrs names) k x h e = absurd (none_some x e)
  item_held cell.Nothing k x h e = absurd (none_some x e)

  spelled_held : (es : List Entry) → AreEntries P es → All P (map (λ e. e.spelled) es)
  spelled_held [] h = All-nil P
  spelled_held (e ∷ es) h = All-cons P e.spelled (map (λ d. d.spelled) es) h.0 (spelled_held es h.2)

  keys_held : (c : Cell) → Holds P c → All P (keys_in c)
  keys_held (cell.Dict es) h = spelled_held es h
  keys_held (cell.List items) h = All-nil P
  keys_held (cell.Global names) h = All-nil P
  keys_held (cell.Frame slots) h = All-nil P
  keys_held (cell.Attrs names) h = All-nil P
  keys_held cell.Nothing h = All-nil P

  cell_held : (o : Option Node) → ((n : Node) → o ≡ Some n → Holds P n.cell) → Holds P (cell_in o)
  cell_held None h = tt
  cell_held (Some n) h = h n refl

  value_held : (at : ObjRef → Cell) → ((o : ObjRef) → Holds P (at o)) → (l : Loc) (x : Value) → value_in at l ≡ Some x → P x
  value_held at h (loc.Name f n) x e = name_held (at f) n x (h f) e
  value_held at h (loc.Attr o n) x e = attr_held (at o) n x (h o) e
  value_held at h (loc.Item o k) x e = item_held (at o) k x (h o) e
  value_held at h (loc.Present o k) x e = absurd (none_some x e)
  value_held at h (loc.Shape o) x e = absurd (none_some x e)

refers_held : (rules : Rules) (s : State) → IsWellFormed rules s → (o : ObjRef) → Holds (Refers (object_at s)) (cell_at s o)
refers_held rules s h o = cell_held (Refers (object_at s)) (slice_get s.nodes o.0) (λ n e. h.sound.held o.0 n e)

lawful_held : (rules : Rules) (s : State) → IsWellFormed rules s → (o : ObjRef) → Holds (IsLawful rules s) (cell_at s o)
lawful_held rules s h o = cell_held (IsLawful rules s) (slice_get s.nodes o.0) (λ n e. h.values o.0 n e)

-- what a location holds is allowed
pub value_allowed : (rules : Rules) (s : State) → IsWellFormed rules s → (l : Loc) → IsAllowedIf rules s (value_at s l)
unfolding value_at
value_allowed rules s h l x e = record {
  refers = value_held (Refers (object_at s)) (cell_at s) (refers_held rules s h) l x e;
  lawful = value_held (IsLawful rules s) (cell_at s) (lawful_held rules s h) l x e;
}

-- so is a key as it was written
pub key_allowed : (rules : Rules) (s : State) → IsWellFormed rules s → (d : ObjRef) (i : ℕ) → IsAllowedIf rules s (slice_get (keys_at s d) i)
unfolding keys_at
key_allowed rules s h d i x e = record {
  refers = get_held (Refers (object_at s)) (keys_in (cell_at s d)) i x (keys_held (Refers (object_at s)) (cell_at s d) (refers_held rules s h d)) e;
  lawful = get_held (IsLawful rules s) (keys_in (cell_at s d)) i x (keys_held (IsLawful rules s) (cell_at s d) (lawful_held rules s h d)) e;
}
