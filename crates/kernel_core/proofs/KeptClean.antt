-- A run none of whose start uses was stale leaves no stale version.
use Rattle.std.proofs.Common.{◌≡◌, ℕ, zero, suc, ◌+◌, ◌-◌, ◌<◌, ◌≤◌, Bool, true, false, cond, List, [], ◌∷◌, ◌++◌, length, reverse, refl, sym, subst, ap, ◌∙◌, arith}
use Rattle.std.specs.Prelude.{Some, ◌==◌}
use Rattle.std.specs.List.{Contains, AllByRecursion, fold}
use Rattle.std.proofs.lemmas.List.{get_or_push}
use Rattle.std.proofs.lemmas.List.Elements.{All-contains, All-from_recursion, Contains-append_left, Contains-push}
use Rattle.flow_base.specs.declared.event.Event.{Event}
use Rattle.flow_base.specs.declared.event.Event.TheVariants.{Use, Place, Write, Open, Close, CallIn, CallOut}
use Rattle.flow_base.specs.declared.event.How.{How}
use Rattle.flow_base.specs.declared.event.How.TheVariants.{Normal, Raise, Break, Continue, Return}
use Rattle.flow_base.specs.declared.event.ReadHow.TheVariants.{Use as ByUse, Place as ByPlace}
use Rattle.flow_base.specs.declared.loc.Loc.{Loc}
use Rattle.trace_events.specs.declared.version.Version.{Version}
use Rattle.trace_events.specs.declared.version.Version.TheVariants.{Empty, Written as at_write}
use Rattle.trace_events.specs.declared.summary.Seen.{Seen}
use Rattle.trace_events.specs.declared.summary.Seen.TheVariants.{Before, Own}
use Rattle.trace_events.specs.declared.summary.StartRead.{StartRead}
use Rattle.trace_events.specs.declared.summary.Write.{Write as Written}
use Rattle.trace_events.specs.Trace.{Reading, Summary, all_uses, close, forget, gather, hand_out, seen_after, start, start_read, step, summary_of}
use Rattle.trace_events.specs.History.{History, current, deps, run_of, uses_at, version_seen, write_at, writes_of}
use Rattle.trace_events.specs.Staleness.{Near, earlier, within, Stale}
use Rattle.trace_events.proofs.Ancestors.{IsAscending, run_of-current}
use Rattle.trace_events.proofs.Lists.{no_member, Contains-map}
use Rattle.trace_events.proofs.Reading.{each-append, each-flat, each-reverse, each-weaker}
use Rattle.trace_events.proofs.StepLaw.{stale_own}
use Rattle.version_store.proofs.Extension.{current-append, writes_of-append}
use Rattle.version_store.proofs.Creation.{run_of-made}
use Rattle.version_store.proofs.SameRuns.{stale_to}
use Rattle.kernel_core.specs.Clean.{HasNoStaleUse, LeavesNoStale, history_after}

-- ---- what was seen of the time before the run was read by a start use

abbrev IsBacked : List StartRead → Seen → Type 0
IsBacked rs (Before l) = Contains rs (record { location = l; how = ByUse })
IsBacked rs (Own i) = Unit {0}

backed_more : (rs ts : List StartRead) (s : Seen) → IsBacked rs s → IsBacked (rs ++ ts) s
backed_more rs ts (Before l) c = Contains-append_left rs ts (record { location = l; how = ByUse }) c
backed_more rs ts (Own i) c = tt

backed_itself : (rs : List StartRead) (s : Seen) → IsBacked (rs ++ start_read s ByUse) s
backed_itself rs (Before l) = Contains-push rs (record { location = l; how = ByUse })
backed_itself rs (Own i) = tt

module _ (P : Seen → Type 0) where
  abbrev AllGathered : List (List Seen) → Type 0
  AllGathered gs = AllByRecursion (AllByRecursion P) gs

  gather_each : (s : Seen) (gs : List (List Seen)) → P s → AllGathered gs → AllGathered (gather s gs)
  gather_each s [] p a = tt
  gather_each s (g ∷ gs) p a = (each-append P g (s ∷ []) a.0 (p, tt), a.1)

  forget_each : (gs : List (List Seen)) → AllGathered gs → AllGathered (forget gs)
  forget_each [] a = tt
  forget_each (g ∷ gs) a = a.1

  hand_out_each : (gs : List (List Seen)) → AllGathered gs → AllGathered (hand_out gs)
  hand_out_each [] a = tt
  hand_out_each (g ∷ []) a = tt
  hand_out_each (g ∷ outer ∷ gs) a = (each-append P outer g a.1.0 a.0, a.1.1)

  close_each : (how : How) (n : ℕ) (gs : List (List Seen)) → AllGathered gs → AllGathered (close how n gs)
  close_each Normal zero gs a = forget_each gs a
  close_each Normal (suc n) gs a = hand_out_each gs a
  close_each Raise n gs a = hand_out_each gs a
  close_each Break n gs a = hand_out_each gs a
  close_each Continue n gs a = hand_out_each gs a
  close_each Return n gs a = hand_out_each gs a

  all_uses_each : (gs : List (List Seen)) → AllGathered gs → AllByRecursion P (all_uses gs)
  all_uses_each gs a = each-flat P (reverse gs) (each-reverse (AllByRecursion P) gs a)

record AreBacked (r : Reading) : Type 0 where
  gathered : AllByRecursion (AllByRecursion (IsBacked r.reads)) r.open_uses
  written : AllByRecursion (λ w. AllByRecursion (IsBacked r.reads) w.uses) r.writes

gathered_more : (rs ts : List StartRead) (gs : List (List Seen)) → AllByRecursion (AllByRecursion (IsBacked rs)) gs → AllByRecursion (AllByRecursion (IsBacked (rs ++ ts))) gs
gathered_more rs ts gs a =
    each-weaker (AllByRecursion (IsBacked rs)) (AllByRecursion (IsBacked (rs ++ ts))) (λ g b. each-weaker (IsBacked rs) (IsBacked (rs ++ ts)) (backed_more rs ts) g b) gs a

written_more : (rs ts : List StartRead) (ws : List Written) → AllByRecursion (λ w. AllByRecursion (IsBacked rs) w.uses) ws → AllByRecursion (λ w. AllByRecursion (IsBacked (rs ++ ts)) w.uses) ws
written_more rs ts ws a =
    each-weaker (λ (w : Written). AllByRecursion (IsBacked rs) w.uses) (λ (w : Written). AllByRecursion (IsBacked (rs ++ ts)) w.uses)
    (λ w b. each-weaker (IsBacked rs) (IsBacked (rs ++ ts)) (backed_more rs ts) w.uses b) ws a

backed_step : (r : Reading) (e : Event) → AreBacked r → AreBacked (step r e)
backed_step r (Use l) k =
    let s : Seen = seen_after r.writes l in
    let ts : List StartRead = start_read s ByUse in
    record {
      gathered = gather_each (IsBacked (r.reads ++ ts)) s r.open_uses (backed_itself r.reads s) (gathered_more r.reads ts r.open_uses k.gathered);
      written = written_more r.reads ts r.writes k.written;
    }
backed_step r (Place l) k =
    let ts : List StartRead = start_read (seen_after r.writes l) ByPlace in
    record { gathered = gathered_more r.reads ts r.open_uses k.gathered; written = written_more r.reads ts r.writes k.written }
backed_step r (Write l) k = record {
  gathered = k.gathered;
  written = each-append (λ (w : Written). AllByRecursion (IsBacked r.reads) w.uses) r.writes ((record { place = r.place; location = l; uses = all_uses r.open_uses }) ∷ [])
      k.written (all_uses_each (IsBacked r.reads) r.open_uses k.gathered, tt);
}
backed_step r Open k = record { gathered = (tt, k.gathered); written = k.written }
backed_step r (Close how) k = record { gathered = close_each (IsBacked r.reads) how r.calls r.open_uses k.gathered; written = k.written }
backed_step r CallIn k = record { gathered = k.gathered; written = k.written }
backed_step r CallOut k = record { gathered = k.gathered; written = k.written }

backed_fold : (es : List Event) (r : Reading) → AreBacked r → AreBacked (fold step r es)
backed_fold [] r k = k
backed_fold (e ∷ es) r k = backed_fold es (step r e) (backed_step r e k)

-- ---- one use of one write

find_head : (P : Written → Type 0) (w : Written) (ws : List Written) (i : ℕ) (s : Seen) → P w → (b : Bool)
    → (Contains (uses_at (write_at ws i)) s → (x : Written) × P x × Contains x.uses s)
    → Contains (uses_at (cond b (Some w) (write_at ws i))) s → (x : Written) × P x × Contains x.uses s
find_head P w ws i s a true rest c = (w, a, c)
find_head P w ws i s a false rest c = rest c

find_each : (P : Written → Type 0) (ws : List Written) (i : ℕ) (s : Seen) → AllByRecursion P ws → Contains (uses_at (write_at ws i)) s
    → (w : Written) × P w × Contains w.uses s
find_each P [] i s a c = absurd (no_member s c)
find_each P (w ∷ ws) i s a c = find_head P w ws i s a.0 (w.place == i) (find_each P ws i s a.1) c

pub each_contains : {X : Type 0} (P : X → Type 0) (xs : List X) (x : X) → AllByRecursion P xs → Contains xs x → P x
each_contains P xs x a c = All-contains P xs x (All-from_recursion P xs a) c

-- ---- the run after a history

module _ (h : History) (es : List Event) (ascend : IsAscending h) (ascend_after : IsAscending (history_after h es)) (none : HasNoStaleUse h es) where
  -- what the run wrote
  writes_of_last : writes_of (history_after h es) (length h + 1) ≡ (summary_of es).writes
  writes_of_last =
      ap (λ (n : ℕ). writes_of (history_after h es) n) (let one : length h + 1 ≡ suc (length h) = omega arith in one)
      ∙ ap (λ (s : Summary). s.writes) (get_or_push h (summary_of es) (record { reads = []; writes = [] }) (length h) refl)

  -- a location whose version was not stale before the run
  start_stale : (l : Loc) → ¬ Stale h (length h) (current h (length h) l) → Stale (history_after h es) (length h) (current (history_after h es) (length h) l) → ⊥
  start_stale l fresh st =
      let v : Version = current h (length h) l in
      let bound : run_of v ≤ length h = run_of-current h (length h) l in
      let same : current (history_after h es) (length h) l ≡ v = current-append h (summary_of es ∷ []) (length h) l (omega arith) in
      let was : Stale h (length h) v =
      stale_to (length h) (history_after h es) h (λ m le. writes_of-append h (summary_of es ∷ []) m le) ascend_after (omega arith) bound
      (subst (λ (x : Version). Stale (history_after h es) (length h) x) same st) in
      fresh was

  seen_stale : (s : Seen) → IsBacked (summary_of es).reads s → run_of (version_seen (history_after h es) (length h + 1) s) < length h + 1
      → Stale (history_after h es) (length h) (version_seen (history_after h es) (length h + 1) s) → ⊥
  seen_stale (Before l) b lt st =
      let last : (length h + 1) - 1 ≡ length h = omega arith in
      start_stale l (none l b) (subst (λ (n : ℕ). Stale (history_after h es) (length h) (current (history_after h es) n l)) last st)
  seen_stale (Own i) b lt st = omega arith

  dep_stale : (i : ℕ) (u : Version) → Contains (deps (history_after h es) (at_write (record { 0 = length h + 1 }) i)) u → run_of u < length h + 1
      → Stale (history_after h es) (length h) u → ⊥
  dep_stale i u c lt st =
      let n : ℕ = length h + 1 in
      let all : History = history_after h es in
      let used = Contains-map (version_seen all n) (uses_at (write_at (writes_of all n) i)) u c in
      let c' : Contains (uses_at (write_at (summary_of es).writes i)) used.0 =
      subst (λ (ws : List Written). Contains (uses_at (write_at ws i)) used.0) writes_of_last used.1 in
      let w = find_each (λ (x : Written). AllByRecursion (IsBacked (summary_of es).reads) x.uses) (summary_of es).writes i used.0
      (backed_fold es start (record { gathered = tt; written = tt })).written c' in
      seen_stale used.0 (each_contains (IsBacked (summary_of es).reads) w.0.uses used.0 w.1 w.2)
      (subst (λ (x : Version). run_of x < n) (sym used.2) lt) (subst (λ (x : Version). Stale all (length h) x) (sym used.2) st)

  from_written : (v u : Version) → Contains (deps (history_after h es) v) u → run_of u < run_of v → run_of v ≡ length h + 1 → Stale (history_after h es) (length h) u → ⊥
  from_written (Empty l) u c less same st = no_member u c
  from_written (at_write run i) u c less same st =
      dep_stale i u (subst (λ (m : ℕ). Contains (deps (history_after h es) (at_write (record { 0 = m }) i)) u) same c) (omega arith) st

  near_stale : {v u : Version} → Near (history_after h es) v u → run_of v ≡ length h + 1 → Stale (history_after h es) (length h) u → ⊥
  near_stale (earlier {v = v} {u = u} c lt) same st = from_written v u c lt same st
  near_stale (within c e n) same st = near_stale n (e ∙ same) st

  -- no version that the run wrote is stale when it ends
  pub leaves_no_stale : LeavesNoStale h es
  leaves_no_stale v c st =
      let run : run_of v ≡ length h + 1 = run_of-made (history_after h es) (length h + 1) v c in
      let near = stale_own (history_after h es) (length h + 1) run st in
      let last : (length h + 1) - 1 ≡ length h = omega arith in
      near_stale near.1 run (subst (λ (n : ℕ). Stale (history_after h es) n near.0) last near.2)
