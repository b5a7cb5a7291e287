-- Which names a run of a plain cell finds as they stood before it; and what its mark and its stale names are, by the history before it.
use Rattle.std.specs.Prelude.{ℕ, List, [], ◌∷◌, ◌++◌, length, map, filter, Bool, true, false, not, ◌&&◌, Option, Some, None, option_map, codes}
use Rattle.std.specs.List.{filter_map, fold, list_any}
use Rattle.std.specs.Ordering.{nat_cmp, ordering_then, match_ordering}
use Rattle.std.specs.Cmp.Lexicographic.{slice_cmp}
use Rattle.std.specs.Str.{bytes_eq}
use Rattle.std.specs.declared.cmp.Ordering.{Ordering}
use Rattle.flow_base.specs.Names.{symbol_of}
use Rattle.flow_base.specs.declared.event.Event.{Event}
use Rattle.flow_base.specs.declared.event.ReadHow.{ReadHow}
use Rattle.flow_base.specs.declared.event.ReadHow.TheVariants.{Use as ByUse, Place as ByPlace}
use Rattle.flow_base.specs.declared.loc.Loc.{Loc}
use Rattle.flow_base.specs.declared.loc.Loc.TheVariants.{Name as at_name}
use Rattle.flow_wire.specs.declared.reply.MarkText.{MarkText}
use Rattle.flow_wire.specs.declared.reply.MarkText.TheVariants.{Clean, Stale}
use Rattle.trace_events.specs.declared.summary.StartRead.{StartRead}
use Rattle.trace_events.specs.declared.version.Version.{Version}
use Rattle.trace_events.specs.Trace.{summary_of}
use Rattle.trace_events.specs.History.{History, current, location_of}
use Rattle.trace_events.specs.Decided.{is_stale}
use Rattle.trace_events.specs.Order.{text_of}
use Rattle.trace_events.specs.Why.{Reason, least, why_of}
use Rattle.py_ast.specs.Statement.{Block, empty, then as before}
use Rattle.plain_cells.specs.Plain.{assigned, name_bound, names_read}
use Rattle.plain_cells.specs.Run.{global}

-- ---- live names

abbrev pub is_in : List (List ℕ) → List ℕ → Bool
is_in texts text = list_any (λ t. bytes_eq t text) texts

-- with the name to which a statement gives a value, if it does
abbrev pub with_bound : Option (List ℕ) → List (List ℕ) → List (List ℕ)
with_bound None bound = bound
with_bound (Some name) bound = name ∷ bound

-- the names that some statement uses and no earlier statement binds
abbrev pub live_from : List (List ℕ) → Block → List (List ℕ)
live_from bound empty = []
live_from bound (before s b) =
    filter (λ name. not (is_in bound name)) (names_read (assigned s)) ++ live_from (with_bound (name_bound (assigned s)) bound) b

abbrev pub live_names : Block → List (List ℕ)
live_names b = live_from [] b

-- ---- the mark

-- the version of a location now
abbrev pub version_now : History → Loc → Version
version_now h l = current h (length h) l

abbrev pub live_versions : List (List ℕ) → History → Block → List Version
live_versions names h b = filter_map (λ name. option_map (λ s. version_now h (global s)) (symbol_of names name)) (live_names b)

-- the text of a location: the name
abbrev pub path_of : List (List ℕ) → Option Loc → List ℕ
path_of names (Some (at_name o s)) = text_of names s
path_of names _ = codes "?"

abbrev pub stale_mark : List (List ℕ) → History → Version → Option Reason → MarkText
stale_mark names h v None = Clean
stale_mark names h v (Some reason) =
    Stale reason.computed (path_of names (location_of h reason.dep)) reason.overwritten (path_of names (location_of h v))

abbrev pub mark_for : List (List ℕ) → History → Option Version → MarkText
mark_for names h None = Clean
mark_for names h (Some v) = stale_mark names h v (why_of names h (length h) v)

-- clean, unless the current version of some live name is stale; then the least such version, and why it is stale
abbrev pub mark_of : List (List ℕ) → History → Block → MarkText
mark_of names h b = mark_for names h (least names (filter (is_stale h (length h)) (live_versions names h b)))

-- ---- the stale names that a run used

abbrev pub is_use : ReadHow → Bool
is_use ByUse = true
is_use ByPlace = false

-- by length, and then by code points
abbrev pub path_cmp : List ℕ → List ℕ → Ordering
path_cmp p q = ordering_then (nat_cmp (length p) (length q)) (slice_cmp nat_cmp p q)

-- into an ordered list, in which each path stands once
abbrev pub with_path : List ℕ → List (List ℕ) → List (List ℕ)
with_path p [] = p ∷ []
with_path p (q ∷ qs) = match_ordering (path_cmp p q) (p ∷ q ∷ qs) (q ∷ qs) (q ∷ with_path p qs)

abbrev pub in_order : List (List ℕ) → List (List ℕ)
in_order paths = fold (λ sorted p. with_path p sorted) [] paths

-- the locations whose stale version these reads use
abbrev pub read_paths : List (List ℕ) → History → List StartRead → List (List ℕ)
read_paths names h reads = in_order (map (λ read. path_of names (Some read.location))
    (filter (λ read. is_use read.how && is_stale h (length h) (version_now h read.location)) reads))

-- the locations whose stale version a run with these events used before it wrote them
abbrev pub stale_paths : List (List ℕ) → History → List Event → List (List ℕ)
stale_paths names h events = read_paths names h (summary_of events).reads
