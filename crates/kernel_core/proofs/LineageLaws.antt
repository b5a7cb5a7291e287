-- Lists of live names, and the least of stale versions.
use Rattle.std.proofs.Common.{◌≡◌, ◌∙◌, ℕ, List, [], ◌∷◌, ◌++◌, filter, take, drop, Bool, true, false, not, cond, ◌||◌, Option, Some, None, ap, sym, refl}
use Rattle.std.specs.Prelude.{is_some}
use Rattle.std.specs.Ordering.{nat_cmp, eq_by_cmp}
use Rattle.std.specs.Cmp.{eq_by_cmp_equiv}
use Rattle.std.specs.Cmp.Lexicographic.{slice_cmp, nat_list_cmp_total}
use Rattle.std.specs.FinMap.{FinMap, get, insert, empty as empty_map, get-insert, get-empty}
use Rattle.std.proofs.lemmas.List.{map-append}
use Rattle.std.proofs.lemmas.Map.Text.{is_eq-slice_cmp}
use Rattle.flow_base.specs.declared.numbers.RunNo.{RunNo}
use Rattle.trace_events.specs.declared.version.Version.{Version}
use Rattle.trace_events.specs.Why.{least, lesser}
use Rattle.py_ast.specs.Statement.{Block, empty, then as before, view_stmt, view_block}
use Rattle.py_ast.specs.declared.stmt.Stmt.{Stmt}
use Rattle.plain_cells.specs.Plain.{assigned, name_bound, names_read}
use Rattle.kernel_core.specs.Lineage.{is_in, live_from, live_names, with_bound, with_path}
use Rattle.kernel_core.specs.Naming.{binds}
use Rattle.kernel_core.specs.Marking.{all_written, has_name, live_in, written}

-- ---- live names, by a test for what is bound

abbrev pub or_bound : Option (List ℕ) → (List ℕ → Bool) → List ℕ → Bool
or_bound o is_bound other = binds o other || is_bound other

abbrev pub live_by : (List ℕ → Bool) → Block → List (List ℕ)
live_by is_bound empty = []
live_by is_bound (before s b) = live_in is_bound (names_read (assigned s)) ++ live_by (or_bound (name_bound (assigned s)) is_bound) b

filter_alike : (p q : List ℕ → Bool) → ((x : List ℕ) → p x ≡ q x) → (xs : List (List ℕ)) → filter p xs ≡ filter q xs
filter_alike p q same [] = refl
filter_alike p q same (x ∷ xs) = ap (λ b. cond b (x ∷ filter p xs) (filter p xs)) (same x) ∙ ap (λ ys. cond (q x) (x ∷ ys) ys) (filter_alike p q same xs)

live_in_alike : (p q : List ℕ → Bool) → ((x : List ℕ) → p x ≡ q x) → (used : List (List ℕ)) → live_in p used ≡ live_in q used
live_in_alike p q same used = filter_alike (λ x. not (p x)) (λ x. not (q x)) (λ x. ap not (same x)) used

pub live_by_alike : (b : Block) (p q : List ℕ → Bool) → ((x : List ℕ) → p x ≡ q x) → live_by p b ≡ live_by q b
live_by_alike empty p q same = refl
live_by_alike (before s b) p q same =
    let used : List (List ℕ) = names_read (assigned s) in
    let o : Option (List ℕ) = name_bound (assigned s) in
    ap (λ xs. xs ++ live_by (or_bound o p) b) (live_in_alike p q same used)
    ∙ ap (λ xs. live_in q used ++ xs) (live_by_alike b (or_bound o p) (or_bound o q) (λ x. ap (λ t. binds o x || t) (same x)))

or_bound-is_in : (o : Option (List ℕ)) (bound : List (List ℕ)) (x : List ℕ) → or_bound o (is_in bound) x ≡ is_in (with_bound o bound) x
or_bound-is_in None bound x = refl
or_bound-is_in (Some name) bound x = refl

live_by-live_from : (b : Block) (bound : List (List ℕ)) → live_by (is_in bound) b ≡ live_from bound b
live_by-live_from empty bound = refl
live_by-live_from (before s b) bound =
    let o : Option (List ℕ) = name_bound (assigned s) in
    ap (λ more. live_in (is_in bound) (names_read (assigned s)) ++ more)
    (live_by_alike b (or_bound o (is_in bound)) (is_in (with_bound o bound)) (or_bound-is_in o bound) ∙ live_by-live_from b (with_bound o bound))

has_name-cond : {X : Type 0} (b : Bool) (x : X) (o : Option X) → is_some (cond b (Some x) o) ≡ b || is_some o
has_name-cond true x o = refl
has_name-cond false x o = refl

pub has_name-insert : {X : Type 0} (bound : FinMap (slice_cmp nat_cmp) X) (name : List ℕ) (x : X) (other : List ℕ)
    → has_name (insert bound name x) other ≡ or_bound (Some name) (has_name bound) other
has_name-insert bound name x other =
    ap is_some (get-insert nat_list_cmp_total bound name x other)
    ∙ has_name-cond (eq_by_cmp (slice_cmp nat_cmp) other name) x (get bound other)
    ∙ ap (λ b. b || has_name bound other) ((eq_by_cmp_equiv nat_list_cmp_total).symm other name ∙ is_eq-slice_cmp name other)

-- one statement more, where the second test is for what is bound after it
pub live_step : (p q : List ℕ → Bool) (s : Stmt) (statements : List Stmt)
    → ((x : List ℕ) → q x ≡ or_bound (name_bound (assigned (view_stmt s))) p x)
    → live_by p (view_block (s ∷ statements)) ≡ live_in p (names_read (assigned (view_stmt s))) ++ live_by q (view_block statements)
live_step p q s statements same =
    ap (λ more. live_in p (names_read (assigned (view_stmt s))) ++ more)
    (live_by_alike (view_block statements) (or_bound (name_bound (assigned (view_stmt s))) p) q (λ x. sym (same x)))

pub live_at_start : (X : Type 0) (b : Block) → live_by (has_name (empty_map {X = X} {R = slice_cmp nat_cmp})) b ≡ live_names b
live_at_start X b =
    live_by_alike b (has_name (empty_map {X = X} {R = slice_cmp nat_cmp})) (is_in []) (λ x. ap is_some (get-empty {X = X} (slice_cmp nat_cmp) x))
    ∙ live_by-live_from b []

-- ---- the least version

-- of these versions, and of the best so far where there is one, which comes behind them
abbrev pub least_onto : List (List ℕ) → List Version → Option Version → Option Version
least_onto names [] best = best
least_onto names (v ∷ vs) best = Some (lesser names v (least_onto names vs best))

pub least_onto-none : (names : List (List ℕ)) (vs : List Version) → least_onto names vs None ≡ least names vs
least_onto-none names [] = refl
least_onto-none names (v ∷ vs) = ap (λ o. Some (lesser names v o)) (least_onto-none names vs)

least_onto-push : (names : List (List ℕ)) (vs : List Version) (v : Version) (best : Option Version)
    → least_onto names (vs ++ v ∷ []) best ≡ least_onto names vs (Some (lesser names v best))
least_onto-push names [] v best = refl
least_onto-push names (u ∷ vs) v best = ap (λ o. Some (lesser names u o)) (least_onto-push names vs v best)

pub least_popped : (names : List (List ℕ)) (ps : List (RunNo × ℕ)) (p : RunNo × ℕ) (best : Option Version)
    → least_onto names (all_written (ps ++ p ∷ [])) best ≡ least_onto names (all_written ps) (Some (lesser names (written p) best))
least_popped names ps p best = ap (λ vs. least_onto names vs best) (map-append written ps (p ∷ [])) ∙ least_onto-push names (all_written ps) (written p) best

-- ---- paths

-- the list with a path, when the paths up to a place were passed
abbrev pub path_from : List ℕ → List (List ℕ) → ℕ → List (List ℕ)
path_from path sorted at = take at sorted ++ with_path path (drop at sorted)
