-- What a cell uses before it writes it is one of its live names.
use Rattle.std.proofs.Common.{◌≡◌, ℕ, zero, suc, Bool, true, false, not, cond, List, [], ◌∷◌, ◌++◌, refl, sym, subst, ap, ◌∙◌, ⊎_elim}
use Rattle.std.specs.Prelude.{ℤ, ◌+ℤ◌, Option, Some, None, Result, Ok, Err, is_some}
use Rattle.std.specs.List.{AllByRecursion, fold}
use Rattle.std.proofs.lemmas.Bool.{false≢true, true≢false, or_cases}
use Rattle.std.proofs.lemmas.List.Sums.{fold-append}
use Rattle.std.proofs.lemmas.Slice.Eq.{bytes_eq-Decides}
use Rattle.std.specs.Str.{bytes_eq}
use Rattle.flow_base.proofs.SameLaws.{loc_itself}
use Rattle.flow_base.specs.Names.{symbol_of}
use Rattle.flow_base.specs.Same.{loc_eq}
use Rattle.flow_base.specs.declared.event.Event.{Event}
use Rattle.flow_base.specs.declared.event.Event.TheVariants.{Use, Write, Open, Close}
use Rattle.flow_base.specs.declared.event.How.TheVariants.{Normal, Raise}
use Rattle.flow_base.specs.declared.event.ReadHow.TheVariants.{Use as ByUse}
use Rattle.flow_base.specs.declared.loc.Loc.{Loc}
use Rattle.flow_base.specs.declared.numbers.Sym.{Sym}
use Rattle.trace_events.specs.declared.summary.StartRead.{StartRead}
use Rattle.trace_events.specs.declared.summary.Write.{Write as Written}
use Rattle.trace_events.specs.Trace.{IsStartUse, Reading, all_uses, last_write, seen_after, seen_from, start, start_read, step, summary_of}
use Rattle.trace_events.proofs.Reading.{each-append}
use Rattle.trace_events.proofs.Writes.{last_write_push}
use Rattle.py_ast.specs.Statement.{Block, empty, then as before}
use Rattle.py_ast.specs.Tree as tree
use Rattle.py_ast.specs.Tree.{Tree}
use Rattle.py_ast.specs.declared.expr.BinaryOp.TheVariants.{Add}
use Rattle.py_scalars.specs.Exact.{fits}
use Rattle.plain_cells.specs.declared.machine.End.{End}
use Rattle.plain_cells.specs.declared.machine.End.TheVariants.{Done, NameError, Steps, Range}
use Rattle.plain_cells.specs.declared.machine.Machine.{Machine}
use Rattle.plain_cells.specs.Plain.{assigned, name_bound, names_read, names_used}
use Rattle.plain_cells.specs.Run as run
use Rattle.plain_cells.specs.Run.{M, Outcome, Values, ◌>>=◌, ◌>>◌, go_on, pure, log, logged, logged_at, load, found, value_of, store, with_value, whole, eval, closed, closing, bind, assign, exec, exec_all, global, events_from, run_of}
use Rattle.kernel_core.specs.Lineage.{is_in, live_from, live_names, with_bound}
use Rattle.kernel_core.specs.Marking.{live_in}
use Rattle.kernel_core.proofs.KeptClean.{each_contains}

-- ---- the locations of names

-- a fact on the location of a symbol, where there is one
abbrev pub AtSymbol : (Loc → Type 0) → Option Sym → Type 0
AtSymbol P None = Unit {0}
AtSymbol P (Some s) = P (global s)

at_weaker : (P Q : Loc → Type 0) → ((l : Loc) → P l → Q l) → (o : Option Sym) → AtSymbol P o → AtSymbol Q o
at_weaker P Q f None a = tt
at_weaker P Q f (Some s) a = f (global s) a

-- on the location of a name, where the table has it
abbrev pub OfName : List (List ℕ) → (Loc → Type 0) → List ℕ → Type 0
OfName names P name = AtSymbol P (symbol_of names name)

-- ---- what was written

abbrev IsWritten : List Written → Loc → Type 0
IsWritten ws l = is_some (last_write l ws) ≡ true

-- each of the names that the table has was written
abbrev AreWritten : List (List ℕ) → List Written → List (List ℕ) → Type 0
AreWritten names ws bound = (name : List ℕ) → is_in bound name ≡ true → OfName names (IsWritten ws) name

some_cond : (b : Bool) (p : ℕ) (o : Option ℕ) → is_some o ≡ true → is_some (cond b (Some p) o) ≡ true
some_cond true p o e = refl
some_cond false p o e = e

written_push : (ws : List Written) (w : Written) (l : Loc) → IsWritten ws l → IsWritten (ws ++ w ∷ []) l
written_push ws w l h = ap is_some (last_write_push l ws w) ∙ some_cond (loc_eq w.location l) w.place (last_write l ws) h

written_last : (ws : List Written) (w : Written) → IsWritten (ws ++ w ∷ []) w.location
written_last ws w =
    ap is_some (last_write_push w.location ws w)
    ∙ ap (λ (b : Bool). is_some (cond b (Some w.place) (last_write w.location ws))) (loc_itself w.location)

-- the reading after the write of a name
abbrev binding : Reading → Option Sym → Reading
binding r None = r
binding r (Some s) = step r (Write (global s))

binding_here : (r : Reading) (o : Option Sym) → AtSymbol (IsWritten (binding r o).writes) o
binding_here r None = tt
binding_here r (Some s) = written_last r.writes (record { place = r.place; location = global s; uses = all_uses r.open_uses })

binding_keeps : (r : Reading) (o : Option Sym) (l : Loc) → IsWritten r.writes l → IsWritten (binding r o).writes l
binding_keeps r None l h = h
binding_keeps r (Some s) l h = written_push r.writes (record { place = r.place; location = global s; uses = all_uses r.open_uses }) l h

binding_reads : (r : Reading) (o : Option Sym) → (binding r o).reads ≡ r.reads
binding_reads r None = refl
binding_reads r (Some s) = refl

bind_name : (names bound : List (List ℕ)) (name : List ℕ) (r : Reading) → AreWritten names r.writes bound
    → AreWritten names (binding r (symbol_of names name)).writes (name ∷ bound)
bind_name names bound name r w other t = ⊎_elim
    (λ (here : bytes_eq name other ≡ true).
    subst (λ (x : List ℕ). OfName names (IsWritten (binding r (symbol_of names name)).writes) x) ((bytes_eq-Decides name other).0 here) (binding_here r (symbol_of names name)))
    (λ (there : is_in bound other ≡ true).
    at_weaker (IsWritten r.writes) (IsWritten (binding r (symbol_of names name)).writes) (binding_keeps r (symbol_of names name)) (symbol_of names other) (w other there))
    (or_cases (bytes_eq name other) (is_in bound other) t)

-- ---- live names

head_live : (Q : List ℕ → Type 0) (b : Bool) (name : List ℕ) (rest : List (List ℕ)) → AllByRecursion Q (cond (not b) (name ∷ rest) rest) → b ≡ false → Q name
head_live Q true name rest a e = absurd (true≢false e)
head_live Q false name rest a e = a.0

rest_live : (Q : List ℕ → Type 0) (b : Bool) (name : List ℕ) (rest : List (List ℕ)) → AllByRecursion Q (cond (not b) (name ∷ rest) rest) → AllByRecursion Q rest
rest_live Q true name rest a = a
rest_live Q false name rest a = a.1

each_left : (Q : List ℕ → Type 0) (xs ys : List (List ℕ)) → AllByRecursion Q (xs ++ ys) → AllByRecursion Q xs
each_left Q [] ys a = tt
each_left Q (x ∷ xs) ys a = (a.0, each_left Q xs ys a.1)

each_right : (Q : List ℕ → Type 0) (xs ys : List (List ℕ)) → AllByRecursion Q (xs ++ ys) → AllByRecursion Q ys
each_right Q [] ys a = a
each_right Q (x ∷ xs) ys a = each_right Q xs ys a.1

-- what holds of a name that is live holds of each name in the list, unless it is bound
abbrev pub IfLive : List (List ℕ) → (List ℕ → Type 0) → List ℕ → Type 0
IfLive bound Q name = is_in bound name ≡ false → Q name

if_live : (bound : List (List ℕ)) (Q : List ℕ → Type 0) (xs : List (List ℕ)) → AllByRecursion Q (live_in (is_in bound) xs) → AllByRecursion (IfLive bound Q) xs
if_live bound Q [] a = tt
if_live bound Q (x ∷ xs) a =
    (head_live Q (is_in bound x) x (live_in (is_in bound) xs) a, if_live bound Q xs (rest_live Q (is_in bound x) x (live_in (is_in bound) xs) a))

-- ---- the reading of what a run has done so far

abbrev reading : Machine → Reading
reading m = fold step start m.events

reading_logged : (e : Event) (m : Machine) → reading (logged e m) ≡ step (reading m) e
reading_logged e m = fold-append step start m.events (e ∷ [])

-- ---- the parts of a run, where P holds of the locations of live names

module _ (names : List (List ℕ)) (P : Loc → Type 0) where
  abbrev AllReads : List StartRead → Type 0
  AllReads reads = AllByRecursion (λ (read : StartRead). P read.location) reads

  -- P holds of each start read, and each of these names was written that the table has
  record IsRead (bound : List (List ℕ)) (r : Reading) : Type 0 where
    reads : AllReads r.reads
    writes : AreWritten names r.writes bound

  abbrev IsAfter : {A : Type 0} → List (List ℕ) → Result A End → Machine → Type 0
  IsAfter bound (Ok a) m = IsRead bound (reading m)
  IsAfter bound (Err end) m = AllReads (reading m).reads

  -- a part of a run that keeps this, and after which each of the later names was written
  abbrev Keeps : {A : Type 0} → List (List ℕ) → List (List ℕ) → M A → Type 0
  Keeps bound later p = (m : Machine) → IsRead bound (reading m) → IsAfter later (p m).0 (p m).1

  -- one after which nothing is said of what was written
  abbrev Ends : {A : Type 0} → List (List ℕ) → M A → Type 0
  Ends bound p = (m : Machine) → IsRead bound (reading m) → AllReads (reading (p m).1).reads

  goes_on : {A B : Type 0} (b c : List (List ℕ)) (f : A → M B) → ((a : A) → Keeps b c (f a)) → (r : Result A End) (m : Machine) → IsAfter b r m
      → IsAfter c (go_on r m f).0 (go_on r m f).1
  goes_on b c f each (Ok a) m is = each a m is
  goes_on b c f each (Err end) m is = is

  keeps_then : {A B : Type 0} (a b c : List (List ℕ)) (p : M A) (f : A → M B) → Keeps a b p → ((x : A) → Keeps b c (f x)) → Keeps a c (p >>= f)
  keeps_then a b c p f first each m is = goes_on b c f each (p m).0 (p m).1 (first m is)

  ends_on : {A B : Type 0} (b : List (List ℕ)) (f : A → M B) → ((a : A) → Ends b (f a)) → (r : Result A End) (m : Machine) → IsAfter b r m
      → AllReads (reading (go_on r m f).1).reads
  ends_on b f each (Ok a) m is = each a m is
  ends_on b f each (Err end) m is = is

  ends_then : {A B : Type 0} (a b : List (List ℕ)) (p : M A) (f : A → M B) → Keeps a b p → ((x : A) → Ends b (f x)) → Ends a (p >>= f)
  ends_then a b p f first each m is = ends_on b f each (p m).0 (p m).1 (first m is)

  -- ---- the primitives

  stepped : (bound : List (List ℕ)) (n : ℕ) (m : Machine) → IsRead bound (reading m) → IsAfter bound (run.take_step n m).0 (run.take_step n m).1
  stepped bound zero m is = is.reads
  stepped bound (suc n) m is = is

  keeps_step : (bound : List (List ℕ)) → Keeps bound bound run.step
  unfolding run.step
  keeps_step bound m is = stepped bound m.left m is

  -- a use of what was written is no start read
  use_reads : (l : Loc) (o : Option ℕ) (b : Bool) → (b ≡ true → is_some o ≡ true) → (b ≡ false → P l) → AllReads (start_read (seen_from l o) ByUse)
  use_reads l (Some place) b w f = tt
  use_reads l None true w f = absurd (false≢true (w refl))
  use_reads l None false w f = (f refl, tt)

  used : (bound : List (List ℕ)) (o : Option Sym) (b : Bool) (m : Machine) → (b ≡ true → AtSymbol (IsWritten (reading m).writes) o) → (b ≡ false → AtSymbol P o)
      → IsRead bound (reading m) → IsRead bound (reading (logged_at Use o m))
  used bound None b m w f is = is
  used bound (Some s) b m w f is = subst (IsRead bound) (sym (reading_logged (Use (global s)) m)) (record {
    reads = each-append (λ (read : StartRead). P read.location) (reading m).reads (start_read (seen_after (reading m).writes (global s)) ByUse) is.reads
        (use_reads (global s) (last_write (global s) (reading m).writes) b w f);
    writes = is.writes;
  })

  keeps_found : (bound : List (List ℕ)) (o : Option ℤ) → Keeps bound bound (found o)
  keeps_found bound None m is = is.reads
  keeps_found bound (Some v) m is = is

  keeps_load : (bound : List (List ℕ)) (x : List ℕ) → IfLive bound (OfName names P) x → Keeps bound bound (load names x)
  unfolding load
  keeps_load bound x live m is =
      keeps_found bound (value_of names m.values x) (logged_at Use (symbol_of names x) m)
      (used bound (symbol_of names x) (is_in bound x) m (is.writes x) live is)

  fitted : (bound : List (List ℕ)) (n : ℤ) (m : Machine) → IsRead bound (reading m) → (b : Bool)
      → IsAfter bound (cond {A = Outcome ℤ} b (Ok n, m) (Err Range, m)).0 (cond {A = Outcome ℤ} b (Ok n, m) (Err Range, m)).1
  fitted bound n m is true = is
  fitted bound n m is false = is.reads

  keeps_whole : (bound : List (List ℕ)) (n : ℤ) → Keeps bound bound (whole n)
  unfolding whole
  keeps_whole bound n m is = fitted bound n m is (fits n)

  keeps_open : (bound : List (List ℕ)) → Keeps bound bound (log Open)
  unfolding log
  keeps_open bound m is = subst (IsRead bound) (sym (reading_logged Open m)) (record { reads = is.reads; writes = is.writes })

  reading_bound : (o : Option Sym) (m : Machine) → reading (logged_at Write o m) ≡ binding (reading m) o
  reading_bound None m = refl
  reading_bound (Some s) m = reading_logged (Write (global s)) m

  keeps_store : (bound : List (List ℕ)) (x : List ℕ) (v : ℤ) → Keeps bound (x ∷ bound) (store names x v)
  unfolding store
  keeps_store bound x v m is =
      let o : Option Sym = symbol_of names x in
      subst (IsRead (x ∷ bound)) (sym (reading_bound o (record m { values = with_value o v m.values }))) (record {
        reads = subst AllReads (sym (binding_reads (reading m) o)) is.reads;
        writes = bind_name names bound x (reading m) is.writes;
      })

  keeps_closed : {A : Type 0} (later : List (List ℕ)) (r : Result A End) (m : Machine) → IsAfter later r m → IsAfter later (closed r m).0 (closed r m).1
  keeps_closed later (Ok a) m is = subst (IsRead later) (sym (reading_logged (Close Normal) m)) (record { reads = is.reads; writes = is.writes })
  keeps_closed later (Err NameError) m is = subst (λ (r : Reading). AllReads r.reads) (sym (reading_logged (Close Raise) m)) is
  keeps_closed later (Err Done) m is = is
  keeps_closed later (Err Steps) m is = is
  keeps_closed later (Err Range) m is = is

  keeps_closing : {A : Type 0} (bound later : List (List ℕ)) (p : M A) → Keeps bound later p → Keeps bound later (closing p)
  unfolding closing
  keeps_closing bound later p k m is = keeps_closed later (p m).0 (p m).1 (k m is)

  -- ---- expressions and statements

  keeps_eval : (bound : List (List ℕ)) (e : Tree) → AllByRecursion (IfLive bound (OfName names P)) (names_used e) → Keeps bound bound (eval names e)
  keeps_eval bound (tree.name x) live = keeps_then bound bound bound run.step (λ _. load names x) (keeps_step bound) (λ _. keeps_load bound x live.0)
  keeps_eval bound (tree.number n) live = keeps_then bound bound bound run.step (λ _. pure n) (keeps_step bound) (λ _ m is. is)
  keeps_eval bound (tree.binary a Add b) live =
      let Q : List ℕ → Type 0 = IfLive bound (OfName names P) in
      keeps_then bound bound bound run.step (λ _. eval names a >>= λ x. eval names b >>= λ y. whole (x +ℤ y)) (keeps_step bound)
      (λ _. keeps_then bound bound bound (eval names a) (λ x. eval names b >>= λ y. whole (x +ℤ y))
      (keeps_eval bound a (each_left Q (names_used a) (names_used b) live))
      (λ x. keeps_then bound bound bound (eval names b) (λ y. whole (x +ℤ y))
      (keeps_eval bound b (each_right Q (names_used a) (names_used b) live))
      (λ y. keeps_whole bound (x +ℤ y))))
  keeps_eval bound _ live = λ m is. is

  keeps_assign : (bound : List (List ℕ)) (o : Option (List ℕ × Tree)) → AllByRecursion (IfLive bound (OfName names P)) (names_read o)
      → Keeps bound (with_bound (name_bound o) bound) (assign names o)
  keeps_assign bound None live = λ m is. is
  keeps_assign bound (Some p) live =
      let later : List (List ℕ) = p.0 ∷ bound in
      keeps_then bound bound later run.step (λ _. log Open >> closing (bind names p)) (keeps_step bound)
      (λ _. keeps_then bound bound later (log Open) (λ _. closing (bind names p)) (keeps_open bound)
      (λ _. keeps_closing bound later (bind names p)
      (keeps_then bound bound later (eval names p.1) (store names p.0) (keeps_eval bound p.1 live) (λ v. keeps_store bound p.0 v))))

  ends_all : (b : Block) (bound : List (List ℕ)) → AllByRecursion (OfName names P) (live_from bound b) → Ends bound (exec_all names b)
  ends_all empty bound q = λ m is. is.reads
  ends_all (before s b) bound q =
      let Q : List ℕ → Type 0 = OfName names P in
      let o : Option (List ℕ × Tree) = assigned s in
      let first : List (List ℕ) = live_in (is_in bound) (names_read o) in
      let later : List (List ℕ) = live_from (with_bound (name_bound o) bound) b in
      ends_then bound (with_bound (name_bound o) bound) (exec names s) (λ _. exec_all names b)
      (keeps_assign bound o (if_live bound Q (names_read o) (each_left Q first later q)))
      (λ _. ends_all b (with_bound (name_bound o) bound) (each_right Q first later q))

  all_read : (values : Values) (steps : ℕ) (b : Block) → AllByRecursion (OfName names P) (live_names b) → AllReads (fold step start (events_from names values steps b)).reads
  unfolding run_of
  all_read values steps b q = ends_all b [] q (run.start values steps) (record { reads = tt; writes = λ name t. absurd (false≢true t) })

  -- what holds of the locations of live names holds of each start use
  pub live_uses : (values : Values) (steps : ℕ) (b : Block) → AllByRecursion (OfName names P) (live_names b) → (l : Loc)
      → IsStartUse (events_from names values steps b) l → P l
  live_uses values steps b q l c =
      each_contains (λ (read : StartRead). P read.location) (summary_of (events_from names values steps b)).reads (record { location = l; how = ByUse })
      (all_read values steps b q) c
