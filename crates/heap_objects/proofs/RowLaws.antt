-- Rows in the order of their stamps, in two parts.
use Rattle.std.proofs.Common.{◌≡◌, ◌≢◌, ℕ, ◌<◌, ◌≤◌, Bool, true, false, not, cond, List, [], ◌∷◌, ◌++◌, length, refl, ap, ◌∙◌, arith, ne_eqb}
use Rattle.std.specs.Prelude.{Option, Some, None, ◌==◌}
use Rattle.heap_objects.specs.Rows.{AllBelow, AllFrom, row_of, with_stamp, without_stamp}
use Rattle.heap_objects.specs.declared.tree.Row.{Row}
use Rattle.heap_objects.specs.declared.value.Value.{Value}

-- ---- a stamp below all of a part is not in it

pub row_of-from : (n : ℕ) (ys : List Row) (s : ℕ) → AllFrom n ys → s < n → row_of ys s ≡ None
row_of-from n [] s h lt = refl
row_of-from n (y ∷ ys) s h lt =
    let apart : y.stamp ≢ s = omega (arith, h.0) in
    ap (λ (b : Bool). cond b (Some y) (row_of ys s)) (ne_eqb y.stamp s apart) ∙ row_of-from n ys s h.1 lt

pub with_stamp-from : (n : ℕ) (ys : List Row) (s : ℕ) (v : Value) → AllFrom n ys → s < n → with_stamp ys s v ≡ ys
with_stamp-from n [] s v h lt = refl
with_stamp-from n (y ∷ ys) s v h lt =
    let apart : y.stamp ≢ s = omega (arith, h.0) in
    ap (λ (b : Bool). cond b (record y { entry = record y.entry { value = v } } ∷ ys) (y ∷ with_stamp ys s v)) (ne_eqb y.stamp s apart)
    ∙ ap (λ (x : List Row). y ∷ x) (with_stamp-from n ys s v h.1 lt)

pub without_stamp-from : (n : ℕ) (ys : List Row) (s : ℕ) → AllFrom n ys → s < n → without_stamp ys s ≡ ys
without_stamp-from n [] s h lt = refl
without_stamp-from n (y ∷ ys) s h lt =
    let apart : y.stamp ≢ s = omega (arith, h.0) in
    ap (λ (b : Bool). cond (not b) (y ∷ without_stamp ys s) (without_stamp ys s)) (ne_eqb y.stamp s apart)
    ∙ ap (λ (x : List Row). y ∷ x) (without_stamp-from n ys s h.1 lt)

-- ---- in the left part

left_row : (x : Row) (xs ys : List Row) (s : ℕ) (b : Bool) → row_of (xs ++ ys) s ≡ row_of xs s → cond b (Some x) (row_of (xs ++ ys) s) ≡ cond b (Some x) (row_of xs s)
left_row x xs ys s b e = ap (λ (o : Option Row). cond b (Some x) o) e

pub row_of-left : (n : ℕ) (xs ys : List Row) (s : ℕ) → AllFrom n ys → s < n → row_of (xs ++ ys) s ≡ row_of xs s
row_of-left n [] ys s h lt = row_of-from n ys s h lt
row_of-left n (x ∷ xs) ys s h lt = left_row x xs ys s (x.stamp == s) (row_of-left n xs ys s h lt)

pub with_stamp-left : (n : ℕ) (xs ys : List Row) (s : ℕ) (v : Value) → AllFrom n ys → s < n → with_stamp (xs ++ ys) s v ≡ with_stamp xs s v ++ ys
with_stamp-left n [] ys s v h lt = with_stamp-from n ys s v h lt
with_stamp-left n (x ∷ xs) ys s v h lt = go (x.stamp == s) (with_stamp-left n xs ys s v h lt)
  where
    go : (b : Bool) → with_stamp (xs ++ ys) s v ≡ with_stamp xs s v ++ ys
        → cond b (record x { entry = record x.entry { value = v } } ∷ (xs ++ ys)) (x ∷ with_stamp (xs ++ ys) s v)
        ≡ cond b (record x { entry = record x.entry { value = v } } ∷ xs) (x ∷ with_stamp xs s v) ++ ys
    go true e = refl
    go false e = ap (λ (z : List Row). x ∷ z) e

pub without_stamp-append : (xs ys : List Row) (s : ℕ) → without_stamp (xs ++ ys) s ≡ without_stamp xs s ++ without_stamp ys s
without_stamp-append [] ys s = refl
without_stamp-append (x ∷ xs) ys s = go (x.stamp == s) (without_stamp-append xs ys s)
  where
    go : (b : Bool) → without_stamp (xs ++ ys) s ≡ without_stamp xs s ++ without_stamp ys s
        → cond (not b) (x ∷ without_stamp (xs ++ ys) s) (without_stamp (xs ++ ys) s) ≡ cond (not b) (x ∷ without_stamp xs s) (without_stamp xs s) ++ without_stamp ys s
    go true e = e
    go false e = ap (λ (z : List Row). x ∷ z) e

-- ---- in the right part

pub row_of-right : (n : ℕ) (xs ys : List Row) (s : ℕ) → AllBelow n xs → n ≤ s → row_of (xs ++ ys) s ≡ row_of ys s
row_of-right n [] ys s h le = refl
row_of-right n (x ∷ xs) ys s h le =
    let apart : x.stamp ≢ s = omega (arith, h.0) in
    ap (λ (b : Bool). cond b (Some x) (row_of (xs ++ ys) s)) (ne_eqb x.stamp s apart) ∙ row_of-right n xs ys s h.1 le

pub with_stamp-right : (n : ℕ) (xs ys : List Row) (s : ℕ) (v : Value) → AllBelow n xs → n ≤ s → with_stamp (xs ++ ys) s v ≡ xs ++ with_stamp ys s v
with_stamp-right n [] ys s v h le = refl
with_stamp-right n (x ∷ xs) ys s v h le =
    let apart : x.stamp ≢ s = omega (arith, h.0) in
    ap (λ (b : Bool). cond b (record x { entry = record x.entry { value = v } } ∷ (xs ++ ys)) (x ∷ with_stamp (xs ++ ys) s v)) (ne_eqb x.stamp s apart)
    ∙ ap (λ (z : List Row). x ∷ z) (with_stamp-right n xs ys s v h.1 le)

pub without_stamp-below : (n : ℕ) (xs : List Row) (s : ℕ) → AllBelow n xs → n ≤ s → without_stamp xs s ≡ xs
without_stamp-below n [] s h le = refl
without_stamp-below n (x ∷ xs) s h le =
    let apart : x.stamp ≢ s = omega (arith, h.0) in
    ap (λ (b : Bool). cond (not b) (x ∷ without_stamp xs s) (without_stamp xs s)) (ne_eqb x.stamp s apart)
    ∙ ap (λ (z : List Row). x ∷ z) (without_stamp-below n xs s h.1 le)

-- ---- bounds stay

pub AllBelow-append : (n : ℕ) (xs ys : List Row) → AllBelow n xs → AllBelow n ys → AllBelow n (xs ++ ys)
AllBelow-append n [] ys h g = g
AllBelow-append n (x ∷ xs) ys h g = (h.0, AllBelow-append n xs ys h.1 g)

pub AllBelow-left : (n : ℕ) (xs ys : List Row) → AllBelow n (xs ++ ys) → AllBelow n xs
AllBelow-left n [] ys h = tt
AllBelow-left n (x ∷ xs) ys h = (h.0, AllBelow-left n xs ys h.1)

pub AllBelow-right : (n : ℕ) (xs ys : List Row) → AllBelow n (xs ++ ys) → AllBelow n ys
AllBelow-right n [] ys h = h
AllBelow-right n (x ∷ xs) ys h = AllBelow-right n xs ys h.1

pub AllBelow-weaken : (n m : ℕ) (xs : List Row) → n ≤ m → AllBelow n xs → AllBelow m xs
AllBelow-weaken n m [] le h = tt
AllBelow-weaken n m (x ∷ xs) le h = (omega (arith, h.0), AllBelow-weaken n m xs le h.1)

pub AllFrom-append : (n : ℕ) (xs ys : List Row) → AllFrom n xs → AllFrom n ys → AllFrom n (xs ++ ys)
AllFrom-append n [] ys h g = g
AllFrom-append n (x ∷ xs) ys h g = (h.0, AllFrom-append n xs ys h.1 g)

pub AllBelow-with_stamp : (n : ℕ) (xs : List Row) (s : ℕ) (v : Value) → AllBelow n xs → AllBelow n (with_stamp xs s v)
AllBelow-with_stamp n [] s v h = tt
AllBelow-with_stamp n (x ∷ xs) s v h = go (x.stamp == s) (AllBelow-with_stamp n xs s v h.1)
  where
    go : (b : Bool) → AllBelow n (with_stamp xs s v) → AllBelow n (cond b (record x { entry = record x.entry { value = v } } ∷ xs) (x ∷ with_stamp xs s v))
    go true e = h
    go false e = (h.0, e)

pub AllFrom-with_stamp : (n : ℕ) (xs : List Row) (s : ℕ) (v : Value) → AllFrom n xs → AllFrom n (with_stamp xs s v)
AllFrom-with_stamp n [] s v h = tt
AllFrom-with_stamp n (x ∷ xs) s v h = go (x.stamp == s) (AllFrom-with_stamp n xs s v h.1)
  where
    go : (b : Bool) → AllFrom n (with_stamp xs s v) → AllFrom n (cond b (record x { entry = record x.entry { value = v } } ∷ xs) (x ∷ with_stamp xs s v))
    go true e = h
    go false e = (h.0, e)

pub AllBelow-without_stamp : (n : ℕ) (xs : List Row) (s : ℕ) → AllBelow n xs → AllBelow n (without_stamp xs s)
AllBelow-without_stamp n [] s h = tt
AllBelow-without_stamp n (x ∷ xs) s h = go (x.stamp == s) (AllBelow-without_stamp n xs s h.1)
  where
    go : (b : Bool) → AllBelow n (without_stamp xs s) → AllBelow n (cond (not b) (x ∷ without_stamp xs s) (without_stamp xs s))
    go true e = e
    go false e = (h.0, e)

pub AllFrom-without_stamp : (n : ℕ) (xs : List Row) (s : ℕ) → AllFrom n xs → AllFrom n (without_stamp xs s)
AllFrom-without_stamp n [] s h = tt
AllFrom-without_stamp n (x ∷ xs) s h = go (x.stamp == s) (AllFrom-without_stamp n xs s h.1)
  where
    go : (b : Bool) → AllFrom n (without_stamp xs s) → AllFrom n (cond (not b) (x ∷ without_stamp xs s) (without_stamp xs s))
    go true e = e
    go false e = (h.0, e)

pub length-with_stamp : (xs : List Row) (s : ℕ) (v : Value) → length (with_stamp xs s v) ≡ length xs
length-with_stamp [] s v = refl
length-with_stamp (x ∷ xs) s v = go (x.stamp == s) (length-with_stamp xs s v)
  where
    go : (b : Bool) → length (with_stamp xs s v) ≡ length xs → length (cond b (record x { entry = record x.entry { value = v } } ∷ xs) (x ∷ with_stamp xs s v)) ≡ length (x ∷ xs)
    go true e = refl
    go false e = omega (arith, e)

pub length-without_stamp : (xs : List Row) (s : ℕ) → length (without_stamp xs s) ≤ length xs
length-without_stamp [] s = omega arith
length-without_stamp (x ∷ xs) s = go (x.stamp == s) (length-without_stamp xs s)
  where
    go : (b : Bool) → length (without_stamp xs s) ≤ length xs → length (cond (not b) (x ∷ without_stamp xs s) (without_stamp xs s)) ≤ length (x ∷ xs)
    go true e = omega (arith, e)
    go false e = omega (arith, e)

-- a stamp of the left part is taken out of it
pub without_stamp-left : (n : ℕ) (xs ys : List Row) (s : ℕ) → AllFrom n ys → s < n → without_stamp (xs ++ ys) s ≡ without_stamp xs s ++ ys
without_stamp-left n xs ys s h lt = without_stamp-append xs ys s ∙ ap (λ (z : List Row). without_stamp xs s ++ z) (without_stamp-from n ys s h lt)

pub without_stamp-right : (n : ℕ) (xs ys : List Row) (s : ℕ) → AllBelow n xs → n ≤ s → without_stamp (xs ++ ys) s ≡ xs ++ without_stamp ys s
without_stamp-right n xs ys s h le = without_stamp-append xs ys s ∙ ap (λ (z : List Row). z ++ without_stamp ys s) (without_stamp-below n xs s h le)
