-- The last versions of numbered locations.
use Rattle.std.proofs.Common.{◌≡◌, ◌≢◌, ℕ, suc, ◌+◌, ◌<◌, ◌≤◌, Bool, true, false, cond, List, [], ◌∷◌, ◌++◌, length, get_or, set, take, unwrap_or, append_assoc, refl, sym, subst, ap, ◌∙◌, arith}
use Rattle.std.specs.Prelude.{Option, Some, None, IsTrue, is_some, slice_get}
use Rattle.std.specs.List.{AllByRecursion}
use Rattle.std.proofs.lemmas.Bool.{false≢true, true≢false}
use Rattle.std.proofs.lemmas.List.{append-nil, get_or-set_same, get_or-set_other, get_or_past, get_or_push, length-append, length-set}
use Rattle.std.proofs.lemmas.List.Elements.{All-more, All-weaker, recursion_from_All}
use Rattle.flow_base.specs.Same.{loc_eq}
use Rattle.flow_base.proofs.SameLaws.{same_loc_true, true_same_loc, loc_itself}
use Rattle.flow_base.specs.declared.loc.Loc.{Loc}
use Rattle.flow_base.specs.declared.numbers.RunNo.{RunNo}
use Rattle.trace_events.specs.History.{History, current, or_earlier, writes_of}
use Rattle.trace_events.specs.Trace.{Summary, last_write, or_else}
use Rattle.trace_events.specs.declared.summary.Write.{Write}
use Rattle.trace_events.specs.declared.version.Version.{Version}
use Rattle.trace_events.specs.declared.version.Version.TheVariants.{Written}
use Rattle.version_store.specs.Table.{AllNumbered, IsCurrent, IsGrown, Latest, number_from, number_of, put, settled, version_from, version_in, with_location}
use Rattle.version_store.proofs.Extension.{current-append}
use Rattle.version_store.proofs.Numbers.{number_from-push, or_else-cond}

-- ---- numbers

-- the number after a list of others
number_from-append : (n : ℕ) (l : Loc) (xs ys : List Loc) → number_from n l (xs ++ ys) ≡ or_else (number_from n l xs) (number_from (n + length xs) l ys)
number_from-append n l [] ys = let same : n ≡ n + 0 = omega arith in ap (λ m. number_from m l ys) same
number_from-append n l (x ∷ xs) ys =
    let same : suc n + length xs ≡ n + suc (length xs) = omega arith in
    ap (λ o. cond (loc_eq x l) (Some n) o) (number_from-append (suc n) l xs ys ∙ ap (λ m. or_else (number_from (suc n) l xs) (number_from m l ys)) same)
    ∙ sym (or_else-cond (loc_eq x l) n (number_from (suc n) l xs) (number_from (n + suc (length xs)) l ys))

some_same : (i j : ℕ) → Some i ≡ Some j → i ≡ j
some_same i j e = ap (λ o. unwrap_or o 0) e

no_some : {T : Type 0} (x : T) → None ≡ Some x → ⊥
no_some x e = false≢true (ap is_some e)

-- where a location has a number, it stands there
number_at : (n : ℕ) (l : Loc) (xs : List Loc) (j : ℕ) → number_from n l xs ≡ Some j → (k : ℕ) × (j ≡ n + k) × (k < length xs) × (slice_get xs k ≡ Some l)
number_at n l [] j e = absurd (no_some j e)
number_at n l (x ∷ xs) j e = go (loc_eq x l) refl e (number_at (suc n) l xs j)
  where
    go : (b : Bool) → loc_eq x l ≡ b → cond b (Some n) (number_from (suc n) l xs) ≡ Some j
        → (number_from (suc n) l xs ≡ Some j → (k : ℕ) × (j ≡ suc n + k) × (k < length xs) × (slice_get xs k ≡ Some l))
        → (k : ℕ) × (j ≡ n + k) × (k < length (x ∷ xs)) × (slice_get (x ∷ xs) k ≡ Some l)
    go true is f rest = let same : n ≡ j = some_same n j f in (0, omega arith, omega arith, ap Some (same_loc_true x l is))
    go false is f rest = let r = rest f in
        let same : j ≡ suc n + r.0 = r.1 in
        let inside : r.0 < length xs = r.2 in
        (suc r.0, omega arith, omega arith, r.3)

-- no two locations have one number
one_location : (l m : Loc) (xs : List Loc) (i : ℕ) → number_of l xs ≡ Some i → number_of m xs ≡ Some i → l ≡ m
one_location l m xs i e f =
    let a = number_at 0 l xs i e in
    let b = number_at 0 m xs i f in
    let a_is : i ≡ 0 + a.0 = a.1 in
    let b_is : i ≡ 0 + b.0 = b.1 in
    let same : a.0 ≡ b.0 = omega arith in
    ap (λ o. unwrap_or o l) (sym a.3 ∙ ap (slice_get xs) same ∙ b.3)

number_within : (l : Loc) (xs : List Loc) (i : ℕ) → number_of l xs ≡ Some i → i < length xs
number_within l xs i e =
    let a = number_at 0 l xs i e in
    let is : i ≡ 0 + a.0 = a.1 in
    let inside : a.0 < length xs = a.2 in
    omega arith

-- ---- more locations

more_numbers : (latest : List Latest) (l : Loc) (xs ys : List Loc) (o p : Option ℕ) → length latest ≤ length xs → number_of l xs ≡ o → number_from (0 + length xs) l ys ≡ p
    → version_in latest l (or_else o p) ≡ version_in latest l o
more_numbers latest l xs ys (Some i) p le e f = refl
more_numbers latest l xs ys None None le e f = refl
more_numbers latest l xs ys None (Some j) le e f =
    let a = number_at (0 + length xs) l ys j f in
    let is : j ≡ 0 + length xs + a.0 = a.1 in
    ap (version_from l) (get_or_past latest j None (omega arith))

pub grown_current : (h : History) (latest : List Latest) (xs ys : List Loc) → IsGrown xs ys → IsCurrent h xs latest → IsCurrent h ys latest
grown_current h latest xs ys g c = subst (λ (zs : List Loc). IsCurrent h zs latest) (sym g.is) (record {
  within = let inside : length latest ≤ length xs = c.within in omega (arith, length-append xs g.more);
  each = λ l. ap (version_in latest l) (number_from-append 0 l xs g.more)
      ∙ more_numbers latest l xs g.more (number_of l xs) (number_from (0 + length xs) l g.more) c.within refl refl
      ∙ c.each l;
})

same_version : (new latest : List Latest) (l : Loc) (o : Option ℕ) → ((i : ℕ) → get_or new i None ≡ get_or latest i None) → version_in new l o ≡ version_in latest l o
same_version new latest l None same = refl
same_version new latest l (Some i) same = ap (version_from l) (same i)

pub filled_current : (h : History) (new latest : List Latest) (xs : List Loc) → ((i : ℕ) → get_or new i None ≡ get_or latest i None) → length new ≤ length xs
    → IsCurrent h xs latest → IsCurrent h xs new
filled_current h new latest xs same le c = record {
  within = le;
  each = λ l. same_version new latest l (number_of l xs) same ∙ c.each l;
}

-- ---- after the writes of a run

module _ (xs : List Loc) (run : RunNo) (l : Loc) where
  put_other : (latest : List Latest) (m : Loc) (place i : ℕ) (o : Option ℕ) → number_of m xs ≡ Some i → number_of l xs ≡ o → loc_eq m l ≡ false
      → version_in (set latest i (Some (run, place))) l o ≡ version_in latest l o
  put_other latest m place i None e f other = refl
  put_other latest m place i (Some j) e f other =
      let apart : j ≢ i = λ same. true≢false (sym (true_same_loc m l (one_location m l xs i e (f ∙ ap Some same))) ∙ other) in
      ap (version_from l) (get_or-set_other latest i j (Some (run, place)) None apart)

  put_version : (latest : List Latest) (m : Loc) (place i : ℕ) (b : Bool) → number_of m xs ≡ Some i → i < length latest → loc_eq m l ≡ b
      → version_in (put latest (number_of m xs) (Some (run, place))) l (number_of l xs) ≡ cond b (Written run place) (version_in latest l (number_of l xs))
  put_version latest m place i true e lt is =
      let same : number_of l xs ≡ Some i = ap (λ (x : Loc). number_of x xs) (sym (same_loc_true m l is)) ∙ e in
      ap (λ o. version_in (put latest o (Some (run, place))) l (number_of l xs)) e
      ∙ ap (version_in (set latest i (Some (run, place))) l) same
      ∙ ap (version_from l) (get_or-set_same latest i (Some (run, place)) None lt)
  put_version latest m place i false e lt is =
      ap (λ o. version_in (put latest o (Some (run, place))) l (number_of l xs)) e
      ∙ put_other latest m place i (number_of l xs) e refl is

length-put : (latest : List Latest) (o : Option ℕ) (v : Latest) → length (put latest o v) ≡ length latest
length-put latest None v = refl
length-put latest (Some i) v = length-set latest i v

pub length-settled : (xs : List Loc) (run : RunNo) (latest : List Latest) (ws : List Write) → length (settled xs run latest ws) ≡ length latest
length-settled xs run latest [] = refl
length-settled xs run latest (w ∷ ws) =
    length-settled xs run (put latest (number_of w.location xs) (Some (run, w.place))) ws ∙ length-put latest (number_of w.location xs) (Some (run, w.place))

some_number : (o : Option ℕ) → IsTrue (is_some o) → (i : ℕ) × (o ≡ Some i)
some_number None t = absurd (false≢true t)
some_number (Some i) t = (i, refl)

or_earlier-else : (run : RunNo) (o : Option ℕ) (b : Bool) (place : ℕ) (v : Version)
    → or_earlier run.0 o (cond b (Written run place) v) ≡ or_earlier run.0 (or_else o (cond b (Some place) None)) v
or_earlier-else run (Some p) b place v = refl
or_earlier-else run None true place v = refl
or_earlier-else run None false place v = refl

settled_version : (xs : List Loc) (run : RunNo) (latest : List Latest) (ws : List Write) (l : Loc) → length xs ≤ length latest
    → AllByRecursion (λ w. IsTrue (is_some (number_of w.location xs))) ws
    → version_in (settled xs run latest ws) l (number_of l xs) ≡ or_earlier run.0 (last_write l ws) (version_in latest l (number_of l xs))
settled_version xs run latest [] l le a = refl
settled_version xs run latest (w ∷ ws) l le a =
    let n = some_number (number_of w.location xs) a.0 in
    let inside : n.0 < length xs = number_within w.location xs n.0 n.1 in
    let next : List Latest = put latest (number_of w.location xs) (Some (run, w.place)) in
    settled_version xs run next ws l (omega (arith, length-put latest (number_of w.location xs) (Some (run, w.place)))) a.1
    ∙ ap (or_earlier run.0 (last_write l ws)) (put_version xs run l latest w.location w.place n.0 (loc_eq w.location l) n.1 (omega arith) refl)
    ∙ or_earlier-else run (last_write l ws) (loc_eq w.location l) w.place (version_in latest l (number_of l xs))

pub settled_current : (h : History) (s : Summary) (xs : List Loc) (run : RunNo) (latest : List Latest) → IsCurrent h xs latest → AllNumbered xs s.writes
    → length xs ≤ length latest → run.0 ≡ suc (length h) → IsCurrent (h ++ s ∷ []) xs (settled xs run latest s.writes)
settled_current h s xs run latest c all le next = record {
  within = let inside : length latest ≤ length xs = c.within in omega (arith, length-settled xs run latest s.writes);
  each = λ l.
      settled_version xs run latest s.writes l le (recursion_from_All (λ w. IsTrue (is_some (number_of w.location xs))) s.writes all)
      ∙ ap (or_earlier run.0 (last_write l s.writes)) (c.each l)
      ∙ ap (λ n. or_earlier n (last_write l s.writes) (current h (length h) l)) next
      ∙ ap (λ ws. or_earlier (suc (length h)) (last_write l ws) (current h (length h) l)) (sym last_writes)
      ∙ ap (or_earlier (suc (length h)) (last_write l (writes_of longer (suc (length h))))) (sym (current-append h (s ∷ []) (length h) l (omega arith)))
      ∙ ap (λ n. current longer n l) count;
}
  where
    longer : History
    longer = h ++ s ∷ []

    last_writes : writes_of (h ++ s ∷ []) (suc (length h)) ≡ s.writes
    last_writes = ap (λ (x : Summary). x.writes) (get_or_push h s (record { reads = []; writes = [] }) (length h) refl)

    count : suc (length h) ≡ length (h ++ s ∷ [])
    count = omega (arith, length-append h (s ∷ []))

-- ---- numbers for the locations of writes

-- what has a number keeps one
numbered_grown : (l : Loc) (xs ys : List Loc) → IsGrown xs ys → IsTrue (is_some (number_of l xs)) → IsTrue (is_some (number_of l ys))
numbered_grown l xs ys g t =
    subst (λ (zs : List Loc). IsTrue (is_some (number_of l zs))) (sym g.is)
    (ap is_some (number_from-append 0 l xs g.more) ∙ is_some-or_else (number_of l xs) (number_from (0 + length xs) l g.more) t)
  where
    is_some-or_else : (o p : Option ℕ) → IsTrue (is_some o) → is_some (or_else o p) ≡ true
    is_some-or_else None p t = absurd (false≢true t)
    is_some-or_else (Some i) p t = refl

with_grown : (b : Bool) (l : Loc) (xs : List Loc) → IsGrown xs (cond b xs (xs ++ l ∷ []))
with_grown true l xs = record { more = []; is = sym (append-nil xs) }
with_grown false l xs = record { more = l ∷ []; is = refl }

with_numbered : (b : Bool) (l : Loc) (xs : List Loc) → is_some (number_of l xs) ≡ b → IsTrue (is_some (number_of l (cond b xs (xs ++ l ∷ []))))
with_numbered true l xs e = e
with_numbered false l xs e = ap is_some (number_from-push 0 l l xs) ∙ last (number_of l xs) (loc_eq l l) (loc_itself l)
  where
    last : (o : Option ℕ) (b : Bool) → b ≡ true → is_some (or_else o (cond b (Some (0 + length xs)) None)) ≡ true
    last None true t = refl
    last None false t = absurd (false≢true t)
    last (Some i) b t = refl

grown_further : (xs ys zs : List Loc) → IsGrown xs ys → IsGrown ys zs → IsGrown xs zs
grown_further xs ys zs g k = record {
  more = g.more ++ k.more;
  is = k.is ∙ ap (λ (x : List Loc). x ++ k.more) g.is ∙ append_assoc xs g.more k.more;
}

-- one write more
pub next_grown : (first xs ys : List Loc) (l : Loc) → IsGrown first xs → ys ≡ with_location xs l → IsGrown first ys
next_grown first xs ys l g e =
    grown_further first xs ys g (subst (λ (x : List Loc). IsGrown xs x) (sym e) (with_grown (is_some (number_of l xs)) l xs))

pub next_numbered : (xs ys : List Loc) (ws : List Write) (i : ℕ) (w : Write) (l : Loc) → i < length ws → AllNumbered xs (take i ws)
    → ys ≡ with_location xs l → l ≡ (get_or ws i w).location → AllNumbered ys (take (i + 1) ws)
next_numbered xs ys ws i w l lt all e is =
    let grown : IsGrown xs ys = subst (λ (x : List Loc). IsGrown xs x) (sym e) (with_grown (is_some (number_of l xs)) l xs) in
    let here : IsTrue (is_some (number_of l ys)) =
    subst (λ (x : List Loc). IsTrue (is_some (number_of l x))) (sym e) (with_numbered (is_some (number_of l xs)) l xs refl) in
    All-more (λ (v : Write). IsTrue (is_some (number_of v.location ys))) ws i w lt
    (All-weaker (λ (v : Write). IsTrue (is_some (number_of v.location xs))) (λ (v : Write). IsTrue (is_some (number_of v.location ys)))
    (λ v. numbered_grown v.location xs ys grown) (take i ws) all)
    (subst (λ (x : Loc). IsTrue (is_some (number_of x ys))) is here)

-- ---- a run that is added

-- the same where what was done is told by equations
pub settled_told : (h now reserved runs : History) (s : Summary) (xs : List Loc) (run : RunNo) (latest new : List Latest) (ws us : List Write)
    → IsCurrent h xs latest → AllNumbered xs ws → ws ≡ s.writes → us ≡ s.writes → length xs ≤ length latest → h ≡ now → run.0 ≡ length now + 1
    → new ≡ settled xs run latest us → reserved ≡ h → runs ≡ reserved ++ s ∷ [] → IsCurrent runs xs new
settled_told h now reserved runs s xs run latest new ws us c all ws_is us_is le same next new_is reserved_is runs_is =
    let length_is : length now ≡ length h = ap length (sym same) in
    subst (λ (x : History). IsCurrent x xs new) (sym (runs_is ∙ ap (λ (x : History). x ++ s ∷ []) reserved_is))
    (subst (λ (x : List Latest). IsCurrent (h ++ s ∷ []) xs x) (sym (new_is ∙ ap (settled xs run latest) us_is))
    (settled_current h s xs run latest c (subst (λ (x : List Write). AllNumbered xs x) ws_is all) le (omega arith)))
