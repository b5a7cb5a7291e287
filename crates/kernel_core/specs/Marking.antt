-- What the passes behind a mark come to.
use Rattle.std.specs.Prelude.{ℕ, List, [], ◌∷◌, length, map, filter, Bool, true, false, not, Option, Some, None, option_map, is_some}
use Rattle.std.specs.List.{filter_map, insert}
use Rattle.std.specs.Ordering.{nat_cmp}
use Rattle.std.specs.Cmp.Lexicographic.{slice_cmp}
use Rattle.std.specs.FinMap.{FinMap, get}
use Rattle.flow_base.specs.Names.{symbol_of}
use Rattle.flow_base.specs.declared.numbers.RunNo.{RunNo}
use Rattle.trace_events.specs.declared.version.Version.{Version}
use Rattle.trace_events.specs.declared.version.Version.TheVariants.{Written}
use Rattle.trace_events.specs.History.{History}
use Rattle.trace_events.specs.Decided.{is_stale}
use Rattle.plain_cells.specs.Run.{global}
use Rattle.kernel_core.specs.Lineage.{version_now}

-- ---- live names

-- whether a name is among those that earlier statements bind
abbrev pub has_name : {X : Type 0} → FinMap (slice_cmp nat_cmp) X → List ℕ → Bool
has_name bound name = is_some (get bound name)

abbrev pub unless_bound : Bool → List ℕ → List (List ℕ)
unless_bound true name = []
unless_bound false name = name ∷ []

-- the names that the test does not pass
abbrev pub live_in : (List ℕ → Bool) → List (List ℕ) → List (List ℕ)
live_in is_bound used = filter (λ name. not (is_bound name)) used

-- ---- versions, each as its run and its place

abbrev pub written : RunNo × ℕ → Version
written p = Written p.0 p.1

abbrev pub all_written : List (RunNo × ℕ) → List Version
all_written ps = map written ps

abbrev pub one_written : Option (RunNo × ℕ) → List Version
one_written None = []
one_written (Some p) = written p ∷ []

-- the versions that names have now
abbrev pub versions_of : List (List ℕ) → History → List (List ℕ) → List Version
versions_of names h live = filter_map (λ name. option_map (λ s. version_now h (global s)) (symbol_of names name)) live

abbrev pub stale_among : History → List Version → List Version
stale_among h vs = filter (is_stale h (length h)) vs

-- ---- paths

-- the list with the path at a place, unless it is there
abbrev pub put_path : Bool → ℕ → List ℕ → List (List ℕ) → List (List ℕ)
put_path true at path sorted = sorted
put_path false at path sorted = insert sorted at path
