-- Which places of a trace its summary speaks of.
use Rattle.std.proofs.Common.{◌≡◌, ℕ, zero, suc, ◌+◌, ◌<◌, ◌≤◌, ◌⊎◌, inl, inr, Bool, true, false, cond, List, [], ◌∷◌, ◌++◌, length, get_or, unwrap_or, refl, sym, ap, subst, ◌∙◌, ⊎_elim, arith}
use Rattle.std.specs.Prelude.{Option, Some, None, is_some}
use Rattle.std.specs.List.{fold, AllPairs, Contains}
use Rattle.std.proofs.lemmas.Bool.{false≢true, true≢false, false_from_ne_true}
use Rattle.std.proofs.lemmas.List.Elements.{Contains-append_cases, Contains-append_left, Contains-append_right}
use Rattle.flow_base.specs.Same.{loc_eq}
use Rattle.flow_base.proofs.SameLaws.{loc_itself, same_loc_true}
use Rattle.flow_base.specs.declared.event.Event.{Event}
use Rattle.flow_base.specs.declared.event.Event.TheVariants.{Use, Place, Write, Open, Close, CallIn, CallOut}
use Rattle.flow_base.specs.declared.event.ReadHow.{ReadHow}
use Rattle.flow_base.specs.declared.event.ReadHow.TheVariants.{Use as ByUse, Place as ByPlace}
use Rattle.flow_base.specs.declared.loc.Loc.{Loc}
use Rattle.trace_events.specs.Trace.{IsAt, IsReadBeforeWrite, IsStartRead, Reading, StartRead, Written, all_uses, last_write, read_event, reading_of, seen_after, seen_from, start, start_read, step, summary_of}
use Rattle.trace_events.proofs.Lists.{no_member, Contains-head}
use Rattle.trace_events.specs.Lawful.{IsAscendingFrom}
use Rattle.trace_events.proofs.Writes.{ascending_bound, last_write_push}
use Rattle.trace_events.proofs.Reading.{place_step, reading_of-ascending}

-- ---- the last write

-- what is there does not lack
no_some : {T : Type 0} (x : T) → Some x ≡ None → ⊥
no_some x e = true≢false (ap is_some e)

-- a choice lacks where its test fails and the rest lacks
none_cond : (b : Bool) (p : ℕ) (o : Option ℕ) → cond b (Some p) o ≡ None → (b ≡ false) × (o ≡ None)
none_cond true p o e = absurd (no_some p e)
none_cond false p o e = (refl, e)

-- ---- what an event is not

-- whether the event is a write
is_write : Event → Bool
is_write (Write l) = true
is_write _ = false

-- ---- one event more

-- no write of the location so far, where there is none after one event more
none_step : (r : Reading) (e : Event) (l : Loc) → last_write l (step r e).writes ≡ None → (last_write l r.writes ≡ None) × (e ≡ Write l → ⊥)
unfolding is_write
none_step r (Use k) l n = (n, λ q. false≢true (ap is_write q))
none_step r (Place k) l n = (n, λ q. false≢true (ap is_write q))
none_step r (Write k) l n =
    let parts = none_cond (loc_eq k l) r.place (last_write l r.writes)
    (sym (last_write_push l r.writes (record { place = r.place; location = k; uses = all_uses r.open_uses })) ∙ n) in
    (parts.1, λ q. true≢false (sym (loc_itself l) ∙ ap (λ x. loc_eq x l) (sym (same_write k l q)) ∙ parts.0))
  where
    same_write : (k l : Loc) → Write k ≡ Write l → k ≡ l
    same_write k l q = ap (λ (e : Event). elim e [ Use x ↦ x | Place x ↦ x | Write x ↦ x | Open ↦ l | Close how ↦ l | CallIn ↦ l | CallOut ↦ l ]) q
none_step r Open l n = (n, λ q. false≢true (ap is_write q))
none_step r (Close how) l n = (n, λ q. false≢true (ap is_write q))
none_step r CallIn l n = (n, λ q. false≢true (ap is_write q))
none_step r CallOut l n = (n, λ q. false≢true (ap is_write q))

-- and the other way round
step_none : (r : Reading) (e : Event) (l : Loc) → last_write l r.writes ≡ None → (e ≡ Write l → ⊥) → last_write l (step r e).writes ≡ None
step_none r (Use k) l n other = n
step_none r (Place k) l n other = n
step_none r (Write k) l n other =
    last_write_push l r.writes (record { place = r.place; location = k; uses = all_uses r.open_uses })
    ∙ ap (λ b. cond b (Some r.place) (last_write l r.writes)) (false_from_ne_true (loc_eq k l) (λ t. other (ap Write (same_loc_true k l t)))) ∙ n
step_none r Open l n other = n
step_none r (Close how) l n other = n
step_none r CallIn l n other = n
step_none r CallOut l n other = n

-- ---- start reads

-- a read that is kept as a start read is that read, of what no write so far wrote
start_read_is : (k l : Loc) (did how : ReadHow) (o : Option ℕ) → Contains (start_read (seen_from k o) did) (record { location = l; how = how })
    → (o ≡ None) × (k ≡ l) × (read_event k did ≡ read_event l how)
start_read_is k l did how (Some place) c = absurd (no_member (record { location = l; how = how }) c)
start_read_is k l did how None (zero, lt, e) = (refl, ap (λ (x : StartRead). x.location) e, ap (λ (x : StartRead). read_event x.location x.how) e)
start_read_is k l did how None (suc i, lt, e) = absurd (omega arith)

-- after one read more
read_step_at : (r : Reading) (k l : Loc) (did how : ReadHow) → Contains (r.reads ++ start_read (seen_after r.writes k) did) (record { location = l; how = how })
    → Contains r.reads (record { location = l; how = how }) ⊎ ((last_write l r.writes ≡ None) × (read_event k did ≡ read_event l how))
read_step_at r k l did how c = ⊎_elim
    (λ (old : Contains r.reads (record { location = l; how = how })). inl old)
    (λ (new : Contains (start_read (seen_after r.writes k) did) (record { location = l; how = how })).
    let is = start_read_is k l did how (last_write k r.writes) new in
    inr (subst (λ (x : Loc). last_write x r.writes ≡ None) is.1 is.0, is.2))
    (Contains-append_cases r.reads (start_read (seen_after r.writes k) did) (record { location = l; how = how }) c)

-- a start read after one event more was there before, or is that event
read_step : (r : Reading) (e : Event) (l : Loc) (how : ReadHow) → Contains (step r e).reads (record { location = l; how = how })
    → Contains r.reads (record { location = l; how = how }) ⊎ ((last_write l r.writes ≡ None) × (e ≡ read_event l how))
read_step r (Use k) l how c = read_step_at r k l ByUse how c
read_step r (Place k) l how c = read_step_at r k l ByPlace how c
read_step r (Write k) l how c = inl c
read_step r Open l how c = inl c
read_step r (Close h) l how c = inl c
read_step r CallIn l how c = inl c
read_step r CallOut l how c = inl c

-- what was read stays
read_kept : (r : Reading) (e : Event) (x : StartRead) → Contains r.reads x → Contains (step r e).reads x
read_kept r (Use k) x c = Contains-append_left r.reads (start_read (seen_after r.writes k) ByUse) x c
read_kept r (Place k) x c = Contains-append_left r.reads (start_read (seen_after r.writes k) ByPlace) x c
read_kept r (Write k) x c = c
read_kept r Open x c = c
read_kept r (Close how) x c = c
read_kept r CallIn x c = c
read_kept r CallOut x c = c

-- the same after all events
read_kept_all : (es : List Event) (r : Reading) (x : StartRead) → Contains r.reads x → Contains (fold step r es).reads x
read_kept_all [] r x c = c
read_kept_all (e ∷ es) r x c = read_kept_all es (step r e) x (read_kept r e x c)

-- a read of what no write so far wrote is kept
read_new_at : (r : Reading) (l : Loc) (how : ReadHow) → last_write l r.writes ≡ None
    → Contains (r.reads ++ start_read (seen_after r.writes l) how) (record { location = l; how = how })
read_new_at r l how n = subst (λ (o : Option ℕ). Contains (r.reads ++ start_read (seen_from l o) how) (record { location = l; how = how })) (sym n)
    (Contains-append_right r.reads (record { location = l; how = how } ∷ []) (record { location = l; how = how }) (Contains-head (record { location = l; how = how }) []))

-- the same for the event of that read
read_new : (r : Reading) (l : Loc) (how : ReadHow) → last_write l r.writes ≡ None → Contains (step r (read_event l how)).reads (record { location = l; how = how })
read_new r l ByUse n = read_new_at r l ByUse n
read_new r l ByPlace n = read_new_at r l ByPlace n

-- a read with no write before it, by recursion over the events
abbrev ReadsFirst : List Event → Loc → ReadHow → Type 0
ReadsFirst [] l how = ⊥
ReadsFirst (e ∷ es) l how = (e ≡ read_event l how) ⊎ ((e ≡ Write l → ⊥) × ReadsFirst es l how)

-- a start read after all events was there before, or is the first of its location
read_first : (es : List Event) (r : Reading) (l : Loc) (how : ReadHow) → Contains (fold step r es).reads (record { location = l; how = how })
    → Contains r.reads (record { location = l; how = how }) ⊎ ((last_write l r.writes ≡ None) × ReadsFirst es l how)
read_first [] r l how c = inl c
read_first (e ∷ es) r l how c = ⊎_elim
    (λ (old : Contains (step r e).reads (record { location = l; how = how })). ⊎_elim
    (λ (x : Contains r.reads (record { location = l; how = how })). inl x)
    (λ (x : (last_write l r.writes ≡ None) × (e ≡ read_event l how)). inr (x.0, inl x.1))
    (read_step r e l how old))
    (λ (new : (last_write l (step r e).writes ≡ None) × ReadsFirst es l how).
    let parts = none_step r e l new.0 in inr (parts.0, inr (parts.1, new.1)))
    (read_first es (step r e) l how c)

-- a read before any write of its location is kept
first_read : (es : List Event) (r : Reading) (l : Loc) (how : ReadHow) → last_write l r.writes ≡ None → ReadsFirst es l how
    → Contains (fold step r es).reads (record { location = l; how = how })
first_read [] r l how n f = absurd f
first_read (e ∷ es) r l how n f = ⊎_elim
    (λ (here : e ≡ read_event l how). read_kept_all es (step r e) (record { location = l; how = how })
    (subst (λ (x : Event). Contains (step r x).reads (record { location = l; how = how })) (sym here) (read_new r l how n)))
    (λ (later : (e ≡ Write l → ⊥) × ReadsFirst es l how). first_read es (step r e) l how (step_none r e l n later.0) later.1)
    f

-- what is there is the same
some_same : (x y : Event) → Some x ≡ Some y → x ≡ y
some_same x y e = ap (λ o. unwrap_or o x) e

-- the place of such a read
first_at : (es : List Event) (l : Loc) (how : ReadHow) → ReadsFirst es l how → (place : ℕ) × IsReadBeforeWrite es l how place
first_at [] l how f = absurd f
first_at (e ∷ es) l how f = ⊎_elim
    (λ (here : e ≡ read_event l how). (0, (ap Some here, λ j lt q. absurd (omega arith))))
    (λ (later : (e ≡ Write l → ⊥) × ReadsFirst es l how).
    let rest = first_at es l how later.1 in (suc rest.0, (rest.1.0, none_earlier e es l rest.0 later.0 rest.1.1)))
    f
  where
    none_earlier : (e : Event) (es : List Event) (l : Loc) (place : ℕ) → (e ≡ Write l → ⊥) → ((j : ℕ) → j < place → IsAt es j (Write l) → ⊥)
        → (j : ℕ) → j < suc place → IsAt (e ∷ es) j (Write l) → ⊥
    none_earlier e es l place other none zero lt q = other (some_same e (Write l) q)
    none_earlier e es l place other none (suc j) lt q = none j (omega arith) q

-- and back from its place
at_first : (es : List Event) (l : Loc) (how : ReadHow) (place : ℕ) → IsReadBeforeWrite es l how place → ReadsFirst es l how
at_first [] l how place q = absurd (no_some (read_event l how) (sym q.0))
at_first (e ∷ es) l how zero q = inl (some_same e (read_event l how) q.0)
at_first (e ∷ es) l how (suc place) q =
    inr (λ w. q.1 0 (omega arith) (ap Some w), at_first es l how place (q.0, λ j lt x. q.1 (suc j) (omega arith) x))

-- a start read stands at a place, before any write of its location
pub start_read_at : (es : List Event) (l : Loc) (how : ReadHow) → IsStartRead es l how → (place : ℕ) × IsReadBeforeWrite es l how place
start_read_at es l how c = first_at es l how (⊎_elim
    (λ (old : Contains [] (record { location = l; how = how })). absurd (no_member {X = StartRead} (record { location = l; how = how }) old))
    (λ (new : (last_write l [] ≡ None) × ReadsFirst es l how). new.1)
    (read_first es start l how c))

-- what stands so is a start read
pub at_start_read : (es : List Event) (l : Loc) (how : ReadHow) → (place : ℕ) × IsReadBeforeWrite es l how place → IsStartRead es l how
at_start_read es l how q = first_read es start l how refl (at_first es l how q.0 q.1)

-- ---- writes

-- a write that is kept after one event more was kept before, or is that event
write_step : (r : Reading) (e : Event) (w : Written) → Contains (step r e).writes w → Contains r.writes w ⊎ ((w.place ≡ r.place) × (e ≡ Write w.location))
write_step r (Use k) w c = inl c
write_step r (Place k) w c = inl c
write_step r (Write k) w c = ⊎_elim
    (λ (old : Contains r.writes w). inl old)
    (λ (new : Contains (record { place = r.place; location = k; uses = all_uses r.open_uses } ∷ []) w). inr (only w new))
    (Contains-append_cases r.writes (record { place = r.place; location = k; uses = all_uses r.open_uses } ∷ []) w c)
  where
    only : (w : Written) → Contains (record { place = r.place; location = k; uses = all_uses r.open_uses } ∷ []) w → (w.place ≡ r.place) × (Write k ≡ Write w.location)
    only w (zero, lt, e) = (ap (λ (x : Written). x.place) (sym e), ap (λ (x : Written). Write x.location) e)
    only w (suc i, lt, e) = absurd (omega arith)
write_step r Open w c = inl c
write_step r (Close how) w c = inl c
write_step r CallIn w c = inl c
write_step r CallOut w c = inl c

-- what was written stays
write_kept : (r : Reading) (e : Event) (w : Written) → Contains r.writes w → Contains (step r e).writes w
write_kept r (Use k) w c = c
write_kept r (Place k) w c = c
write_kept r (Write k) w c = Contains-append_left r.writes (record { place = r.place; location = k; uses = all_uses r.open_uses } ∷ []) w c
write_kept r Open w c = c
write_kept r (Close how) w c = c
write_kept r CallIn w c = c
write_kept r CallOut w c = c

-- the same after all events
write_kept_all : (es : List Event) (r : Reading) (w : Written) → Contains r.writes w → Contains (fold step r es).writes w
write_kept_all [] r w c = c
write_kept_all (e ∷ es) r w c = write_kept_all es (step r e) w (write_kept r e w c)

-- a write that is kept after all events was kept before, or is the event at its place
write_at_place : (es : List Event) (r : Reading) (w : Written) → Contains (fold step r es).writes w
    → Contains r.writes w ⊎ ((k : ℕ) × (w.place ≡ r.place + k) × IsAt es k (Write w.location))
write_at_place [] r w c = inl c
write_at_place (e ∷ es) r w c = ⊎_elim
    (λ (old : Contains (step r e).writes w). ⊎_elim
    (λ (x : Contains r.writes w). inl x)
    (λ (x : (w.place ≡ r.place) × (e ≡ Write w.location)). inr (0, omega arith, ap Some x.1))
    (write_step r e w old))
    (λ (new : (k : ℕ) × (w.place ≡ (step r e).place + k) × IsAt es k (Write w.location)).
    inr (suc new.0, omega (arith, new.1, place_step r e), new.2))
    (write_at_place es (step r e) w c)

-- a write at a place is kept
place_written : (es : List Event) (r : Reading) (k : ℕ) (l : Loc) → IsAt es k (Write l)
    → (w : Written) × Contains (fold step r es).writes w × (w.place ≡ r.place + k) × (w.location ≡ l)
place_written [] r k l q = absurd (no_some (Write l) (sym q))
place_written (e ∷ es) r zero l q =
    let w : Written = record { place = r.place; location = l; uses = all_uses r.open_uses } in (
      w,
      write_kept_all es (step r e) w (subst (λ (x : Event). Contains (step r x).writes w) (sym (some_same e (Write l) q))
          (Contains-append_right r.writes (w ∷ []) w (Contains-head w []))),
      omega arith,
      refl,
    )
place_written (e ∷ es) r (suc k) l q =
    let rest = place_written es (step r e) k l q in
    (rest.0, rest.1, omega (arith, rest.2, place_step r e), rest.3)

-- a write that is kept stands at its place
written_at : (es : List Event) (w : Written) → Contains (summary_of es).writes w → IsAt es w.place (Write w.location)
written_at es w c = ⊎_elim
    (λ (old : Contains [] w). absurd (no_member {X = Written} w old))
    (λ (new : (k : ℕ) × (w.place ≡ 0 + k) × IsAt es k (Write w.location)).
    let same : new.0 ≡ w.place = omega (arith, new.1) in subst (λ (p : ℕ). IsAt es p (Write w.location)) same new.2)
    (write_at_place es start w c)

-- the write at a place is kept
pub at_written : (es : List Event) (place : ℕ) (l : Loc) → IsAt es place (Write l)
    → (w : Written) × Contains (summary_of es).writes w × (w.place ≡ place) × (w.location ≡ l)
at_written es place l q = let is = place_written es start place l q in (is.0, is.1, omega (arith, is.2), is.3)

-- a place of a kept write is one of a write of its location
pub kept_write_at : (es : List Event) (place : ℕ) (l : Loc) → (w : Written) × Contains (summary_of es).writes w × (w.place ≡ place) × (w.location ≡ l)
    → IsAt es place (Write l)
kept_write_at es place l k = subst (λ (p : ℕ). IsAt es p (Write l)) k.2 (subst (λ (x : Loc). IsAt es k.0.place (Write x)) k.3 (written_at es k.0 k.1))

-- ---- places ascend

-- of two writes the earlier one has the lower place
ascending_pairs : (p : ℕ) (ws : List Written) (i j : ℕ) (d : Written) → IsAscendingFrom p ws → i < j → j < length ws → (get_or ws i d).place < (get_or ws j d).place
ascending_pairs p [] i j d a lt in_list = absurd (omega arith)
ascending_pairs p (w ∷ ws) i zero d a lt in_list = absurd (omega arith)
ascending_pairs p (w ∷ ws) zero (suc j) d a lt in_list =
    let later : w.place + 1 ≤ (get_or ws j d).place = ascending_bound (w.place + 1) ws j d a.2 (omega arith) in omega arith
ascending_pairs p (w ∷ ws) (suc i) (suc j) d a lt in_list = ascending_pairs (w.place + 1) ws i j d a.2 (omega arith) (omega arith)

-- the places of the kept writes ascend
pub places_ascend : (es : List Event) → AllPairs (λ (w x : Written). w.place < x.place) (summary_of es).writes
places_ascend es i j d lt in_list = ascending_pairs 0 (reading_of es).writes i j d (reading_of-ascending es) lt in_list
