-- On lists of writes: the last one of a location, and the one at a place.
use Rattle.std.proofs.Common.{◌≡◌, ◌≢◌, ℕ, zero, suc, ◌+◌, ◌<◌, ◌≤◌, Bool, true, false, cond, List, [], ◌∷◌, ◌++◌, length, take, drop, get_or, refl, sym, ap, ◌∙◌, arith, add-one, eq-eqb, ne_eqb}
use Rattle.std.specs.Prelude.{Option, Some, None, ◌↔◌, IsTrue, slice_get}
use Rattle.std.proofs.lemmas.List.{take_more}
use Rattle.flow_base.specs.Same.{loc_eq}
use Rattle.flow_base.proofs.SameLaws.{same_loc_true, true_same_loc}
use Rattle.flow_base.specs.declared.loc.Loc.{Loc}
use Rattle.trace_events.specs.History.{write_at}
use Rattle.trace_events.specs.Lawful.{IsAscendingFrom}
use Rattle.trace_events.specs.Trace.{Written, last_write, or_else}

-- ---- the same location

by_test : (r t : Bool) (A : Type 0) → (r ≡ true → A) → (A → r ≡ true) → (t ≡ true → A) → (A → t ≡ true) → r ≡ t
by_test true t A f g h k = sym (k (f refl))
by_test false true A f g h k = g (h refl)
by_test false false A f g h k = refl

pub same_test : (r : Bool) (a b : Loc) → (IsTrue r ↔ (a ≡ b)) → r ≡ loc_eq a b
same_test r a b f = by_test r (loc_eq a b) (a ≡ b) f.0 f.1 (same_loc_true a b) (true_same_loc a b)

-- ---- the last write

pub or_else-cond : {T : Type 0} (b : Bool) (x : T) (o other : Option T) → or_else (cond b (Some x) o) other ≡ cond b (Some x) (or_else o other)
or_else-cond true x o other = refl
or_else-cond false x o other = refl

pub last_write_push : (l : Loc) (ws : List Written) (w : Written) → last_write l (ws ++ w ∷ []) ≡ cond (loc_eq w.location l) (Some w.place) (last_write l ws)
last_write_push l [] w = refl
last_write_push l (x ∷ xs) w =
    ap (λ o. or_else o (cond (loc_eq x.location l) (Some x.place) None)) (last_write_push l xs w)
    ∙ or_else-cond (loc_eq w.location l) w.place (last_write l xs) (cond (loc_eq x.location l) (Some x.place) None)

last_write_more : (l : Loc) (ws : List Written) (i : ℕ) (w : Written) → i < length ws
    → last_write l (take (i + 1) ws) ≡ cond (loc_eq (get_or ws i w).location l) (Some (get_or ws i w).place) (last_write l (take i ws))
last_write_more l ws i w h = ap (last_write l) (take_more ws i w h) ∙ last_write_push l (take i ws) (get_or ws i w)

-- where the i-th write w is of the location, and where it is not
pub last_write_at : (l : Loc) (ws : List Written) (i : ℕ) (w : Written) → i < length ws → w ≡ get_or ws i w → loc_eq w.location l ≡ true
    → last_write l (take (i + 1) ws) ≡ Some w.place
last_write_at l ws i w h e same =
    last_write_more l ws i w h ∙ (rw (← e) (ap (λ b. cond b (Some w.place) (last_write l (take i ws))) same))

pub last_write_past : (l : Loc) (ws : List Written) (i : ℕ) (w : Written) → i < length ws → w ≡ get_or ws i w → loc_eq w.location l ≡ false
    → last_write l (take (i + 1) ws) ≡ last_write l (take i ws)
last_write_past l ws i w h e other =
    last_write_more l ws i w h ∙ (rw (← e) (ap (λ b. cond b (Some w.place) (last_write l (take i ws))) other))

-- ---- the write at a place

pub ascending_bound : (p : ℕ) (ws : List Written) (k : ℕ) (d : Written) → IsAscendingFrom p ws → k < length ws → p ≤ (get_or ws k d).place
ascending_bound p [] k d a h = absurd (omega arith)
ascending_bound p (w ∷ ws) zero d a h = a.0
ascending_bound p (w ∷ ws) (suc k) d a h =
    let later : w.place + 1 ≤ (get_or ws k d).place = ascending_bound (w.place + 1) ws k d a.2 (omega arith) in
    let here : p ≤ w.place = a.0 in
    omega arith

-- no write at a place before the first one
write_at-early : (p : ℕ) (ws : List Written) (place : ℕ) → IsAscendingFrom p ws → place < p → write_at ws place ≡ None
write_at-early p [] place a lt = refl
write_at-early p (w ∷ ws) place a lt =
    let here : p ≤ w.place = a.0 in
    let other : w.place ≢ place = omega arith in
    ap (λ b. cond b (Some w) (write_at ws place)) (ne_eqb w.place place other) ∙ write_at-early (w.place + 1) ws place a.2 (omega arith)

-- writes up to one at an earlier place do not count
pub write_at-drop : (p : ℕ) (ws : List Written) (m place : ℕ) (d : Written) → IsAscendingFrom p ws → m < length ws → (get_or ws m d).place < place
    → write_at (drop (suc m) ws) place ≡ write_at ws place
write_at-drop p [] m place d a h lt = absurd (omega arith)
write_at-drop p (w ∷ ws) zero place d a h lt =
    let other : w.place ≢ place = omega arith in
    sym (ap (λ b. cond b (Some w) (write_at ws place)) (ne_eqb w.place place other))
write_at-drop p (w ∷ ws) (suc m) place d a h lt =
    let later : w.place + 1 ≤ (get_or ws m d).place = ascending_bound (w.place + 1) ws m d a.2 (omega arith) in
    let other : w.place ≢ place = omega arith in
    write_at-drop (w.place + 1) ws m place d a.2 (omega arith) lt
    ∙ sym (ap (λ b. cond b (Some w) (write_at ws place)) (ne_eqb w.place place other))

-- the first write that is left, where the places before it do not count
pub write_at-here : (ws : List Written) (k place : ℕ) (d : Written) → k < length ws → (get_or ws k d).place ≡ place
    → write_at (drop k ws) place ≡ slice_get ws k
write_at-here [] k place d h e = absurd (omega arith)
write_at-here (w ∷ ws) zero place d h e = ap (λ b. cond b (Some w) (write_at ws place)) (eq-eqb w.place place e)
write_at-here (w ∷ ws) (suc k) place d h e = write_at-here ws k place d (omega arith) e

pub write_at-past : (p : ℕ) (ws : List Written) (k place : ℕ) (d : Written) → IsAscendingFrom p ws → k < length ws → place < (get_or ws k d).place
    → write_at (drop k ws) place ≡ None
write_at-past p [] k place d a h lt = absurd (omega arith)
write_at-past p (w ∷ ws) zero place d a h lt =
    let other : w.place ≢ place = omega arith in
    ap (λ b. cond b (Some w) (write_at ws place)) (ne_eqb w.place place other) ∙ write_at-early (w.place + 1) ws place a.2 (omega arith)
write_at-past p (w ∷ ws) (suc k) place d a h lt = write_at-past (w.place + 1) ws k place d a.2 (omega arith) lt

pub write_at-none : (ws : List Written) (k place : ℕ) → length ws ≤ k → write_at (drop k ws) place ≡ None
write_at-none [] zero place h = refl
write_at-none [] (suc k) place h = refl
write_at-none (w ∷ ws) zero place h = absurd (omega arith)
write_at-none (w ∷ ws) (suc k) place h = write_at-none ws k place (omega arith)

-- ---- the search for a place

pub more_before : (ws : List Written) (m place : ℕ) (d : Written) → IsAscendingFrom 0 ws → m < length ws → (get_or ws m d).place < place
    → write_at (drop (m + 1) ws) place ≡ write_at ws place
more_before ws m place d a h lt = rw add-one (write_at-drop 0 ws m place d a h lt)

pub found_write : (ws : List Written) (k place : ℕ) (d : Written) → k < length ws → (get_or ws k d).place ≡ place
    → write_at (drop k ws) place ≡ write_at ws place → write_at ws place ≡ slice_get ws k
found_write ws k place d h here rest = sym rest ∙ write_at-here ws k place d h here

pub lacked_write : (ws : List Written) (k place : ℕ) (d : Written) → IsAscendingFrom 0 ws → k < length ws → (get_or ws k d).place ≢ place
    → place ≤ (get_or ws k d).place → write_at (drop k ws) place ≡ write_at ws place → write_at ws place ≡ None
lacked_write ws k place d a h other le rest = sym rest ∙ write_at-past 0 ws k place d a h (omega arith)

pub no_write_left : (ws : List Written) (k place : ℕ) → length ws ≤ k → write_at (drop k ws) place ≡ write_at ws place → write_at ws place ≡ None
no_write_left ws k place h rest = sym rest ∙ write_at-none ws k place h
