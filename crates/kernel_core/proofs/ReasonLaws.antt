-- A reason names a version that has a location.
use Rattle.std.proofs.Common.{◌≡◌, ◌∙◌, ℕ, zero, suc, ◌+◌, ◌-◌, List, [], ◌∷◌, length, Bool, true, false, cond, Option, Some, None, ap, refl, subst}
use Rattle.std.specs.Prelude.{is_some}
use Rattle.std.specs.List.{find}
use Rattle.std.proofs.lemmas.Bool.{false≢true}
use Rattle.flow_base.specs.declared.loc.Loc.{Loc}
use Rattle.flow_wire.specs.declared.reply.MarkText.{MarkText}
use Rattle.flow_wire.specs.declared.reply.MarkText.TheVariants.{Clean, Stale}
use Rattle.trace_events.specs.declared.version.Version.{Version}
use Rattle.trace_events.specs.declared.summary.Write.{Write as Written}
use Rattle.trace_events.specs.History.{History, location_of, run_of, wrote, wrote_location, writes_of}
use Rattle.trace_events.specs.Decided.{runs_after}
use Rattle.trace_events.specs.Why.{Reason, first_overwrite, least_overwritten, least_stale_near, or_carried, reason_of_dep, reason_with, reason_within, why_of}
use Rattle.dependence_graph.specs.declared.why.Why.{Why}
use Rattle.dependence_graph.specs.Answer.{answer_of}
use Rattle.kernel_core.specs.Lineage.{path_of, stale_mark}

-- what is written has a location
located : (ws : List Written) (o : Option Loc) → wrote_location ws o ≡ true → is_some o ≡ true
located ws None t = t
located ws (Some l) t = refl

found_passes : (p : ℕ → Bool) (xs : List ℕ) (m : ℕ) → find p xs ≡ Some m → p m ≡ true
found_passes p [] m e = absurd (false≢true (ap is_some e))
found_passes p (x ∷ xs) m e =
    elim (p x) as (λ b. p x ≡ b → cond b (Some x) (find p xs) ≡ Some m → p m ≡ true) [
      | true ↦ λ is f. subst (λ o. option_passes o) f is
      | false ↦ λ is f. found_passes p xs m f
    ] refl e
  where
    option_passes : Option ℕ → Type 0
    option_passes None = Unit {0}
    option_passes (Some y) = p y ≡ true

abbrev IsLocated : History → Option Reason → Type 0
IsLocated h None = Unit {0}
IsLocated h (Some reason) = is_some (location_of h reason.dep) ≡ true

with_located : (h : History) (r n computed : ℕ) (u : Version) (o : Option ℕ) → first_overwrite h r n u ≡ o → IsLocated h (reason_with computed u o)
with_located h r n computed u None e = tt
with_located h r n computed u (Some m) e = located (writes_of h m) (location_of h u) (found_passes (λ k. wrote h k u) (runs_after r n) m e)

dep_located : (h : History) (n : ℕ) (v : Version) (o : Option Version) → IsLocated h (reason_of_dep h n v o)
dep_located h n v None = tt
dep_located h n v (Some u) = with_located h (run_of v) n (run_of v) u (first_overwrite h (run_of v) n u) refl

or_located : (h : History) (go_on : Version → Option Reason) → ((u : Version) → IsLocated h (go_on u)) → (o : Option Reason) → IsLocated h o → (near : Option Version)
    → IsLocated h (or_carried go_on o near)
or_located h go_on each (Some reason) here near = here
or_located h go_on each None here None = tt
or_located h go_on each None here (Some u) = each u

within_located : (runs : ℕ) (names : List (List ℕ)) (h : History) (n : ℕ) (v : Version) → IsLocated h (reason_within runs names h n v)
within_located zero names h n v = tt
within_located (suc runs) names h n v =
    or_located h (reason_within runs names h (run_of v - 1)) (λ u. within_located runs names h (run_of v - 1) u)
    (reason_of_dep h n v (least_overwritten names h n v)) (dep_located h n v (least_overwritten names h n v)) (least_stale_near names h v)

-- the mark by the answer to why a version is stale
abbrev pub mark_by : List (List ℕ) → History → Version → Option Why → MarkText
mark_by names h v None = Clean
mark_by names h v (Some why) = Stale why.computed.0 (path_of names (Some why.dep)) why.overwritten.0 (path_of names (location_of h v))

mark_at : (names : List (List ℕ)) (h : History) (v : Version) (reason : Reason) (o : Option Loc) → location_of h reason.dep ≡ o → is_some o ≡ true
    → mark_by names h v (answer_of h (Some reason)) ≡ stale_mark names h v (Some reason)
mark_at names h v reason None e some = absurd (false≢true some)
mark_at names h v reason (Some l) e some = rw e refl

mark_of_reason : (names : List (List ℕ)) (h : History) (v : Version) (o : Option Reason) → IsLocated h o
    → mark_by names h v (answer_of h o) ≡ stale_mark names h v o
mark_of_reason names h v None here = refl
mark_of_reason names h v (Some reason) here = mark_at names h v reason (location_of h reason.dep) refl here

pub mark_of_answer : (names : List (List ℕ)) (h : History) (v : Version) (answer : Option Why) → answer ≡ answer_of h (why_of names h (length h) v)
    → mark_by names h v answer ≡ stale_mark names h v (why_of names h (length h) v)
mark_of_answer names h v answer e =
    ap (mark_by names h v) e ∙ mark_of_reason names h v (why_of names h (length h) v) (within_located (run_of v + 1) names h (length h) v)
