-- Where versions are.
use Rattle.std.proofs.Common.{◌≡◌, ◌≢◌, ℕ, zero, suc, ◌+◌, ◌-◌, ◌≤◌, Bool, true, false, cond, List, [], ◌∷◌, ◌<◌, length, map, get_or, refl, sym, ap, subst, ◌∙◌, ⊎_elim, arith, eq-eqb, eqb-true, ne_eqb}
use Rattle.std.specs.Prelude.{Option, Some, None, IsTrue, ◌==◌, is_some}
use Rattle.std.specs.List.{Contains}
use Rattle.std.proofs.lemmas.Bool.{cases_lt, false≢true, true≢false}
use Rattle.std.proofs.Math.Nat.{eq-or-lt_of_le}
use Rattle.version_store.proofs.Extension.{writes_of_past}
use Rattle.flow_base.specs.Same.{loc_eq}
use Rattle.flow_base.proofs.SameLaws.{same_loc_true, true_same_loc}
use Rattle.flow_base.specs.declared.loc.Loc.{Loc}
use Rattle.flow_base.specs.declared.numbers.RunNo.{RunNo}
use Rattle.trace_events.specs.declared.version.Version.{Version}
use Rattle.trace_events.specs.declared.version.Version.TheVariants.{Empty, Written as at_write}
use Rattle.trace_events.specs.declared.summary.Seen.{Seen}
use Rattle.trace_events.specs.declared.summary.Seen.TheVariants.{Before, Own}
use Rattle.trace_events.specs.declared.summary.Write.{Write as Written}
use Rattle.trace_events.specs.Trace.{last_write, or_else}
use Rattle.trace_events.specs.History.{History, current, deps, location_at, location_of, or_earlier, run_of, uses_at, version_at, version_seen, write_at, writes_of, wrote, wrote_location}
use Rattle.trace_events.specs.Lawful.{IsAscendingFrom}
use Rattle.trace_events.proofs.Ancestors.{IsAscending}
use Rattle.trace_events.proofs.Lists.{no_member, Contains-cons, Contains-head, list_any-Contains, list_any_of}
use Rattle.trace_events.proofs.Writes.{ascending_bound}

-- ---- the last write of a location

no_some : {T : Type 0} (x : T) → None ≡ Some x → ⊥
no_some x e = false≢true (ap is_some e)

abbrev WriteOf : Loc → List Written → ℕ → Type 0
WriteOf l ws p = (w : Written) × Contains ws w × (w.place ≡ p) × (w.location ≡ l)

abbrev or_zero : Option ℕ → ℕ
or_zero None = 0
or_zero (Some n) = n

-- the same with one write before the others, by the last write among these
there_head : (l : Loc) (w : Written) (ws : List Written) (p : ℕ) (o : Option ℕ) (b : Bool) → loc_eq w.location l ≡ b → (o ≡ Some p → WriteOf l ws p)
    → or_else o (cond b (Some w.place) None) ≡ Some p → WriteOf l (w ∷ ws) p
there_head l w ws p (Some q) b same rest is = let r = rest is in (r.0, Contains-cons w r.0 ws r.1, r.2, r.3)
there_head l w ws p None true same rest is = (w, Contains-head w ws, ap or_zero is, same_loc_true w.location l same)
there_head l w ws p None false same rest is = absurd (no_some p is)

-- where there is one, it stands among the writes
pub last_write_there : (l : Loc) (ws : List Written) (p : ℕ) → last_write l ws ≡ Some p → WriteOf l ws p
last_write_there l [] p e = absurd (no_some p e)
last_write_there l (w ∷ ws) p e = there_head l w ws p (last_write l ws) (loc_eq w.location l) refl (last_write_there l ws p) e

none_head : (l : Loc) (x : Written) (xs : List Written) (w : Written) (o : Option ℕ) (b : Bool) → loc_eq x.location l ≡ b
    → (o ≡ None → Contains xs w → ⊥) → or_else o (cond b (Some x.place) None) ≡ None → w.location ≡ l → Contains (x ∷ xs) w → ⊥
none_head l x xs w (Some q) b here rest is same c = no_some q (sym is)
none_head l x xs w None true here rest is same c = no_some x.place (sym is)
none_head l x xs w None false here rest is same (zero, lt, q) =
    true≢false (sym (true_same_loc x.location l (ap (λ (y : Written). y.location) q ∙ same)) ∙ here)
none_head l x xs w None false here rest is same (suc k, lt, q) = rest refl (k, omega arith, q)

-- where there is none, no write is of the location
pub last_write_none : (l : Loc) (ws : List Written) → last_write l ws ≡ None → (w : Written) → Contains ws w → w.location ≡ l → ⊥
last_write_none l [] e w c same = no_member w c
last_write_none l (x ∷ xs) e w c same = none_head l x xs w (last_write l xs) (loc_eq x.location l) refl (λ n d. last_write_none l xs n w d same) e same c

-- where some write is of the location, there is a last one
pub last_write_some : (l : Loc) (ws : List Written) (w : Written) → Contains ws w → w.location ≡ l → (p : ℕ) × (last_write l ws ≡ Some p)
last_write_some l ws w c same = go (last_write l ws) refl
  where
    go : (o : Option ℕ) → last_write l ws ≡ o → (p : ℕ) × (last_write l ws ≡ Some p)
    go (Some p) e = (p, e)
    go None e = absurd (last_write_none l ws e w c same)

-- ---- the write at a place

-- each write is the one at its place
pub write_at-itself : (p : ℕ) (ws : List Written) (w : Written) → IsAscendingFrom p ws → Contains ws w → write_at ws w.place ≡ Some w
write_at-itself p [] w a c = absurd (no_member w c)
write_at-itself p (x ∷ xs) w a (zero, lt, e) =
    ap (λ (b : Bool). cond b (Some x) (write_at xs w.place)) (eq-eqb x.place w.place (ap (λ (y : Written). y.place) e)) ∙ ap Some e
write_at-itself p (x ∷ xs) w a (suc k, lt, e) =
    let later : x.place + 1 ≤ (get_or xs k w).place = ascending_bound (x.place + 1) xs k w a.2 (omega arith) in
    let same : (get_or xs k w).place ≡ w.place = ap (λ (y : Written). y.place) e in
    let other : x.place ≢ w.place = omega arith in
    ap (λ (b : Bool). cond b (Some x) (write_at xs w.place)) (ne_eqb x.place w.place other) ∙ write_at-itself (x.place + 1) xs w a.2 (k, omega arith, e)

abbrev or_other : Written → Option Written → Written
or_other x None = x
or_other x (Some y) = y

at_head : (x : Written) (xs : List Written) (place : ℕ) (w : Written) (b : Bool) → (x.place == place) ≡ b → (write_at xs place ≡ Some w → Contains xs w × (w.place ≡ place))
    → cond b (Some x) (write_at xs place) ≡ Some w → Contains (x ∷ xs) w × (w.place ≡ place)
at_head x xs place w true same rest is =
    let x_is : x ≡ w = ap (or_other x) is in ((0, omega arith, x_is), ap (λ (y : Written). y.place) (sym x_is) ∙ eqb-true x.place place same)
at_head x xs place w false same rest is = let r = rest is in (Contains-cons x w xs r.0, r.1)

-- what stands at a place is among the writes
pub write_at-there : (ws : List Written) (place : ℕ) (w : Written) → write_at ws place ≡ Some w → Contains ws w × (w.place ≡ place)
write_at-there [] place w e = absurd (no_some w e)
write_at-there (x ∷ xs) place w e = at_head x xs place w (x.place == place) refl (write_at-there xs place w) e

-- ---- the location of a version

abbrev pub or_loc : Loc → Option Loc → Loc
or_loc l None = l
or_loc l (Some k) = k

-- a version with a location that is not empty is a write of its run
pub located : (h : History) (run : RunNo) (place : ℕ) (l : Loc) → location_of h (at_write run place) ≡ Some l
    → (w : Written) × Contains (writes_of h run.0) w × (w.place ≡ place) × (w.location ≡ l)
located h run place l e = go (write_at (writes_of h run.0) place) refl e
  where
    go : (o : Option Written) → write_at (writes_of h run.0) place ≡ o → location_at o ≡ Some l
        → (w : Written) × Contains (writes_of h run.0) w × (w.place ≡ place) × (w.location ≡ l)
    go None found is = absurd (no_some l is)
    go (Some w) found is = let there = write_at-there (writes_of h run.0) place w found in (w, there.0, there.1, ap (or_loc l) is)

-- the location of the version of a write
pub location_of-write : (h : History) → IsAscending h → (n : ℕ) (w : Written) → Contains (writes_of h n) w → location_of h (version_at n w.place) ≡ Some w.location
location_of-write h ascend n w c = ap location_at (write_at-itself 0 (writes_of h n) w (ascend n) c)

located_next : (h : History) → IsAscending h → (n : ℕ) (l : Loc) (o : Option ℕ) → last_write l (writes_of h (suc n)) ≡ o → location_of h (current h n l) ≡ Some l
    → location_of h (or_earlier (suc n) o (current h n l)) ≡ Some l
located_next h ascend n l None e before = before
located_next h ascend n l (Some p) e before =
    let there = last_write_there l (writes_of h (suc n)) p e in
    ap (λ (q : ℕ). location_of h (version_at (suc n) q)) (sym there.2) ∙ location_of-write h ascend (suc n) there.0 there.1 ∙ ap Some there.3

-- the current version of a location is of it
pub location_of-current : (h : History) → IsAscending h → (n : ℕ) (l : Loc) → location_of h (current h n l) ≡ Some l
location_of-current h ascend zero l = refl
location_of-current h ascend (suc n) l = located_next h ascend n l (last_write l (writes_of h (suc n))) refl (location_of-current h ascend n l)

-- ---- what a run wrote

-- where a run wrote the location, some write is of it
pub wrote_true : (h : History) (m : ℕ) (v : Version) → IsTrue (wrote h m v)
    → (l : Loc) × (w : Written) × (location_of h v ≡ Some l) × Contains (writes_of h m) w × (w.location ≡ l)
wrote_true h m v t = go (location_of h v) refl t
  where
    go : (o : Option Loc) → location_of h v ≡ o → IsTrue (wrote_location (writes_of h m) o)
        → (l : Loc) × (w : Written) × (location_of h v ≡ Some l) × Contains (writes_of h m) w × (w.location ≡ l)
    go None e t = absurd (false≢true t)
    go (Some l) e t =
        let f = list_any-Contains (λ (w : Written). loc_eq w.location l) (writes_of h m) t in
        (l, f.0, e, f.1, same_loc_true f.0.location l f.2)

pub true_wrote : (h : History) (m : ℕ) (v : Version) (l : Loc) (w : Written) → location_of h v ≡ Some l → Contains (writes_of h m) w → w.location ≡ l → IsTrue (wrote h m v)
true_wrote h m v l w e c same =
    subst (λ (o : Option Loc). IsTrue (wrote_location (writes_of h m) o)) (sym e)
    (list_any_of (λ (x : Written). loc_eq x.location l) (writes_of h m) w c (true_same_loc w.location l same))

-- ---- what a version of a run rests on

-- a version that rests on something is a write of its run
pub dep_write : (h : History) (v u : Version) → Contains (deps h v) u
    → (x : Written) × Contains (writes_of h (run_of v)) x × (v ≡ version_at (run_of v) x.place) × Contains (map (version_seen h (run_of v)) x.uses) u
dep_write h (Empty l) u c = absurd (no_member u c)
dep_write h (at_write run place) u c = go (write_at (writes_of h run.0) place) refl c
  where
    go : (o : Option Written) → write_at (writes_of h run.0) place ≡ o → Contains (map (version_seen h run.0) (uses_at o)) u
        → (x : Written) × Contains (writes_of h run.0) x × (at_write run place ≡ version_at run.0 x.place) × Contains (map (version_seen h run.0) x.uses) u
    go None e d = absurd (no_member u d)
    go (Some x) e d = let there = write_at-there (writes_of h run.0) place x e in (x, there.0, ap (at_write run) (sym there.1), d)

-- the converse
pub write_dep : (h : History) → IsAscending h → (n : ℕ) (x : Written) (u : Version) → Contains (writes_of h n) x → Contains (map (version_seen h n) x.uses) u
    → Contains (deps h (version_at n x.place)) u
write_dep h ascend n x u c d =
    subst (λ (o : Option Written). Contains (map (version_seen h n) (uses_at o)) u) (sym (write_at-itself 0 (writes_of h n) x (ascend n) c)) d

-- where a run does not write a location, it sees the version that the location had
pub seen_current : (h : History) → IsAscending h → (n : ℕ) (l : Loc) (s : Seen) → last_write l (writes_of h n) ≡ None → location_of h (version_seen h n s) ≡ Some l
    → version_seen h n s ≡ current h (n - 1) l
seen_current h ascend n l (Before k) none e =
    let same : k ≡ l = ap (or_loc k) (sym (location_of-current h ascend (n - 1) k) ∙ e) in ap (current h (n - 1)) same
seen_current h ascend n l (Own place) none e =
    let w = located h (record { 0 = n }) place l e in absurd (last_write_none l (writes_of h n) none w.0 w.1 w.3)

-- ---- the last run that wrote a location

-- a run that wrote a location is not after the run of its version
upto_cases : (h : History) (n m : ℕ) (l : Loc) (w : Written) (o : Option ℕ) → last_write l (writes_of h (suc n)) ≡ o → (m ≤ n → m ≤ run_of (current h n l))
    → m ≤ suc n → Contains (writes_of h m) w → w.location ≡ l → m ≤ run_of (or_earlier (suc n) o (current h n l))
upto_cases h n m l w (Some p) e rest le c same = le
upto_cases h n m l w None e rest le c same = ⊎_elim
    (λ (here : m ≡ suc n). absurd (last_write_none l (writes_of h (suc n)) e w (subst (λ (k : ℕ). Contains (writes_of h k) w) here c) same))
    (λ (before : m < suc n). rest (omega arith))
    (eq-or-lt_of_le le)

wrote_upto : (h : History) → (n m : ℕ) (l : Loc) (w : Written) → m ≤ n → Contains (writes_of h m) w → w.location ≡ l → m ≤ run_of (current h n l)
wrote_upto h zero m l w le c same = le
wrote_upto h (suc n) m l w le c same = upto_cases h n m l w (last_write l (writes_of h (suc n))) refl (λ lower. wrote_upto h n m l w lower c same) le c same

abbrev is_written : Version → Bool
is_written (Empty l) = false
is_written (at_write run place) = true

WrittenBy : History → ℕ → Loc → Type 0
WrittenBy h n l = (w : Written) × Contains (writes_of h n) w × (w.location ≡ l)

written_cases : (h : History) (n : ℕ) (l : Loc) (run : RunNo) (place : ℕ) (o : Option ℕ) → last_write l (writes_of h (suc n)) ≡ o
    → (current h n l ≡ at_write run place → WrittenBy h run.0 l) → or_earlier (suc n) o (current h n l) ≡ at_write run place → WrittenBy h run.0 l
unfolding WrittenBy
written_cases h n l run place None e rest is = rest is
written_cases h n l run place (Some p) e rest is =
    let w = last_write_there l (writes_of h (suc n)) p e in
    subst (λ (m : ℕ). (x : Written) × Contains (writes_of h m) x × (x.location ≡ l)) (ap run_of is) (w.0, w.1, w.3)

-- the run of the version of a location wrote it
current_written : (h : History) (n : ℕ) (l : Loc) (run : RunNo) (place : ℕ) → current h n l ≡ at_write run place → WrittenBy h run.0 l
current_written h zero l run place is = absurd (false≢true (ap is_written is))
current_written h (suc n) l run place is = written_cases h n l run place (last_write l (writes_of h (suc n))) refl (current_written h n l run place) is

pub last_writer_some : (h : History) (v : Version) (l : Loc) (run : RunNo) (place : ℕ) → location_of h v ≡ Some l → current h (length h) l ≡ at_write run place → IsTrue (wrote h run.0 v)
unfolding WrittenBy
last_writer_some h v l run place there now =
    let w = current_written h (length h) l run place now in true_wrote h run.0 v l w.0 there w.1 w.2

pub wrote_before : (h : History) (v : Version) (l : Loc) (m : ℕ) → location_of h v ≡ Some l → IsTrue (wrote h m v) → m ≤ run_of (current h (length h) l)
wrote_before h v l m there t =
    let q = wrote_true h m v t in
    let same : q.0 ≡ l = ap (or_loc q.0) (sym q.2 ∙ there) in
    let within : m ≤ length h = ⊎_elim
    (λ (past : length h < m). absurd (no_member q.1 (subst (λ (ws : List Written). Contains ws q.1) (writes_of_past h m past) q.3)))
    (λ (le : m ≤ length h). le)
    (cases_lt (length h) m) in
    wrote_upto h (length h) m l q.1 within q.3 (q.4 ∙ same)

pub wrote_nowhere : (h : History) (v : Version) (m : ℕ) → location_of h v ≡ None → IsTrue (wrote h m v) → ⊥
wrote_nowhere h v m none t = let q = wrote_true h m v t in no_some q.0 (sym none ∙ q.2)
