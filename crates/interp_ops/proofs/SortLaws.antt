-- Sort kinds and their tests.
use Rattle.std.proofs.Common.{◌≡◌, ◌↔◌, ◌<◌, ◌≤◌, ◌==◌, ◌&&◌, ℕ, zero, suc, IsTrue, length, drop, get_or, subst, arith, Bool, true, false, List, [], ◌∷◌, refl, sym, ap, ◌∙◌}
use Rattle.std.specs.List.{AllByRecursion}
use Rattle.std.specs.Prelude.{Option, Some, None}
use Rattle.std.proofs.lemmas.Bool.{false≢true, and_parts, and_from}
use Rattle.heap_objects.specs.declared.value.Value.{Value}
use Rattle.interp_ops.specs.Orders.{SortKind, SortKinds, SortTogether, number, text, tuple, done, then, all_of_kind, kind_of_value, kinds_of_values, one_kind, one_list, same_kind, same_kinds, then_kind, tuple_kind}

-- ---- what the tests compute to

pub number_tuple : (ks : Option SortKinds) → one_kind (Some number) (tuple_kind ks) ≡ false
number_tuple None = refl
number_tuple (Some ks) = refl

pub text_tuple : (ks : Option SortKinds) → one_kind (Some text) (tuple_kind ks) ≡ false
text_tuple None = refl
text_tuple (Some ks) = refl

pub tuple_number : (ks : Option SortKinds) → one_kind (tuple_kind ks) (Some number) ≡ false
tuple_number None = refl
tuple_number (Some ks) = refl

pub tuple_text : (ks : Option SortKinds) → one_kind (tuple_kind ks) (Some text) ≡ false
tuple_text None = refl
tuple_text (Some ks) = refl

pub tuple_none : (ks : Option SortKinds) → one_kind (tuple_kind ks) None ≡ false
tuple_none None = refl
tuple_none (Some ks) = refl

pub tuples : (js ks : Option SortKinds) → one_kind (tuple_kind js) (tuple_kind ks) ≡ one_list js ks
tuples None ks = refl
tuples (Some js) None = refl
tuples (Some js) (Some ks) = refl

pub lists_more : (j k : Option SortKind) (js ks : Option SortKinds) → one_list (then_kind j js) (then_kind k ks) ≡ (one_kind j k && one_list js ks)
lists_more None k js ks = refl
lists_more (Some j) None None ks = refl
lists_more (Some j) None (Some js) ks = refl
lists_more (Some j) (Some k) None ks = none (same_kind j k)
  where
    none : (b : Bool) → false ≡ (b && false)
    none true = refl
    none false = refl
lists_more (Some j) (Some k) (Some js) None = none (same_kind j k)
  where
    none : (b : Bool) → false ≡ (b && false)
    none true = refl
    none false = refl
lists_more (Some j) (Some k) (Some js) (Some ks) = refl

pub more_done : (j : Option SortKind) (js : Option SortKinds) → one_list (then_kind j js) (Some done) ≡ false
more_done None js = refl
more_done (Some j) None = refl
more_done (Some j) (Some js) = refl

pub done_more : (k : Option SortKind) (ks : Option SortKinds) → one_list (Some done) (then_kind k ks) ≡ false
done_more None ks = refl
done_more (Some k) None = refl
done_more (Some k) (Some ks) = refl

-- ---- what the tests mean

mutual
  same_kind_true : (j k : SortKind) → same_kind j k ≡ true → j ≡ k
  same_kind_true number number e = refl
  same_kind_true text text e = refl
  same_kind_true (tuple js) (tuple ks) e = ap tuple (same_kinds_true js ks e)
  same_kind_true _ _ e = absurd (false≢true e)

  same_kinds_true : (js ks : SortKinds) → same_kinds js ks ≡ true → js ≡ ks
  same_kinds_true done done e = refl
  same_kinds_true (then j js) (then k ks) e =
      let both = and_parts (same_kind j k) (same_kinds js ks) e in
      ap (λ (x : SortKind). then x js) (same_kind_true j k both.0) ∙ ap (then k) (same_kinds_true js ks both.1)
  same_kinds_true _ _ e = absurd (false≢true e)

mutual
  kind_itself : (k : SortKind) → same_kind k k ≡ true
  kind_itself number = refl
  kind_itself text = refl
  kind_itself (tuple ks) = kinds_itself ks

  kinds_itself : (ks : SortKinds) → same_kinds ks ks ≡ true
  kinds_itself done = refl
  kinds_itself (then k ks) = and_from (same_kind k k) (same_kinds ks ks) (kind_itself k) (kinds_itself ks)

one_kind_same : (k : SortKind) (o : Option SortKind) → one_kind (Some k) o ≡ true → o ≡ Some k
one_kind_same k None e = absurd (false≢true e)
one_kind_same k (Some j) e = ap Some (sym (same_kind_true k j e))

all_same : (k : SortKind) (xs : List Value) → all_of_kind (Some k) xs ≡ true → AllByRecursion (λ x. kind_of_value x ≡ Some k) xs
all_same k [] e = tt
all_same k (x ∷ xs) e =
    let both = and_parts (one_kind (Some k) (kind_of_value x)) (all_of_kind (Some k) xs) e in
    (one_kind_same k (kind_of_value x) both.0, all_same k xs both.1)

same_all : (k : SortKind) (xs : List Value) → AllByRecursion (λ x. kind_of_value x ≡ Some k) xs → all_of_kind (Some k) xs ≡ true
same_all k [] h = refl
same_all k (x ∷ xs) h =
    and_from (one_kind (Some k) (kind_of_value x)) (all_of_kind (Some k) xs) (ap (one_kind (Some k)) h.0 ∙ kind_itself k) (same_all k xs h.1)

like_first : (x : Value) (xs : List Value) → all_of_kind (kind_of_value x) (x ∷ xs) ≡ true → SortTogether (x ∷ xs)
like_first x xs e = go (kind_of_value x) refl e
  where
    go : (o : Option SortKind) → kind_of_value x ≡ o → all_of_kind o (x ∷ xs) ≡ true → SortTogether (x ∷ xs)
    go None is e = absurd (false≢true e)
    go (Some k) is e = record { kind = k; all = all_same k (x ∷ xs) e }

first_like : (x : Value) (xs : List Value) → SortTogether (x ∷ xs) → all_of_kind (kind_of_value x) (x ∷ xs) ≡ true
first_like x xs h = ap (λ (o : Option SortKind). all_of_kind o (x ∷ xs)) h.all.0 ∙ same_all h.kind (x ∷ xs) h.all

pub none_together : (xs : List Value) → length xs < 1 → IsTrue true ↔ SortTogether xs
none_together [] short = (λ _. record { kind = number; all = tt }, λ _. refl)
none_together (x ∷ xs) short = absurd (omega arith)

pub some_together : (xs : List Value) (x : Value) → 1 ≤ length xs → x ≡ get_or xs 0 x → IsTrue (all_of_kind (kind_of_value x) xs) ↔ SortTogether xs
some_together [] x some is = absurd (omega arith)
some_together (y ∷ xs) x some is =
    subst (λ (z : Value). IsTrue (all_of_kind (kind_of_value z) (y ∷ xs)) ↔ SortTogether (y ∷ xs)) (sym is) (like_first y xs, first_like y xs)

-- ---- the end of two lists beside each other

none_left : (ys : List Value) → one_list (Some done) (kinds_of_values ys) ≡ (length ys == 0)
none_left [] = refl
none_left (y ∷ ys) = done_more (kind_of_value y) (kinds_of_values ys) ∙ grind arith

pub all_used : (xs ys : List Value) (n : ℕ) → length xs ≤ n → one_list (kinds_of_values (drop n xs)) (kinds_of_values ys) ≡ (length ys == 0)
all_used [] ys zero past = none_left ys
all_used [] ys (suc n) past = none_left ys
all_used (x ∷ xs) ys zero past = absurd (omega arith)
all_used (x ∷ xs) ys (suc n) past = all_used xs ys n (omega arith)
