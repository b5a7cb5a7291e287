-- Numbered locations, and the last version of each.
use Rattle.std.specs.Prelude.{◌≡◌, ◌==◌, ℕ, suc, ◌≤◌, List, [], ◌∷◌, ◌++◌, length, Option, Some, None, if◌then◌else◌, is_some, IsTrue, slice_index_or, set}
use Rattle.std.specs.BTreeMap.{BTreeMap, get}
use Rattle.std.specs.List.{All, fold}
use Rattle.std.specs.Option.{unwrap_or}
use Rattle.std.specs.Ordering.{nat_cmp}
use Rattle.flow_base.specs.Same.{loc_eq}
use Rattle.flow_base.specs.declared.loc.Loc.{Loc}
use Rattle.flow_base.specs.declared.numbers.RunNo.{RunNo}
use Rattle.trace_events.specs.History.{History, current}
use Rattle.trace_events.specs.declared.summary.Write.{Write}
use Rattle.trace_events.specs.declared.version.Version.{Version}
use Rattle.trace_events.specs.declared.version.Version.TheVariants.{Empty, Written}
use Rattle.version_store.specs.Hash.{hash_loc}

-- ---- numbered locations

-- the number of a location among those of a list, whose first has number n
abbrev pub number_from : ℕ → Loc → List Loc → Option ℕ
number_from n l [] = None
number_from n l (x ∷ xs) = if loc_eq x l then Some n else number_from (suc n) l xs

abbrev pub number_of : Loc → List Loc → Option ℕ
number_of l xs = number_from 0 l xs

-- the same by pairs
abbrev pub number_in : Loc → List (Loc × ℕ) → Option ℕ
number_in l [] = None
number_in l (e ∷ es) = if loc_eq e.0 l then Some e.1 else number_in l es

abbrev pub pairs_at : BTreeMap ℕ (List (Loc × ℕ)) → ℕ → List (Loc × ℕ)
pairs_at m hash = unwrap_or (get nat_cmp m hash) []

-- what is looked up by its hash is the number in the list
abbrev pub IsIndex : BTreeMap ℕ (List (Loc × ℕ)) → List Loc → Type 0
IsIndex m xs = (l : Loc) → number_in l (pairs_at m (hash_loc l)) ≡ number_of l xs

-- one pair more at a hash
abbrev pub Adds : BTreeMap ℕ (List (Loc × ℕ)) → BTreeMap ℕ (List (Loc × ℕ)) → ℕ → Loc × ℕ → Type 0
Adds m n hash pair = (h : ℕ) → pairs_at n h ≡ (if h == hash then pairs_at m h ++ pair ∷ [] else pairs_at m h)

-- the list with the location, where it has it not yet
abbrev pub with_location : List Loc → Loc → List Loc
with_location xs l = if is_some (number_of l xs) then xs else xs ++ l ∷ []

-- ---- the last version of each numbered location

-- a run and a place, or none where no run wrote the location
abbrev pub Latest : Type 0
Latest = Option (RunNo × ℕ)

abbrev pub version_from : Loc → Latest → Version
version_from l None = Empty l
version_from l (Some written) = Written written.0 written.1

-- the version of the location with this number
abbrev pub version_in : List Latest → Loc → Option ℕ → Version
version_in latest l None = Empty l
version_in latest l (Some number) = version_from l (slice_index_or latest number None)

-- the versions of the numbered locations xs are those when all runs of the history have ended
pub record IsCurrent (h : History) (xs : List Loc) (latest : List Latest) : Type 0 where
  pub within : length latest ≤ length xs
  pub each : (l : Loc) → version_in latest l (number_of l xs) ≡ current h (length h) l

-- one location more, with a number
abbrev pub put : List Latest → Option ℕ → Latest → List Latest
put latest None version = latest
put latest (Some number) version = set latest number version

-- after the writes of a run
abbrev pub settled : List Loc → RunNo → List Latest → List Write → List Latest
settled xs run latest ws = fold (λ ls w. put ls (number_of w.location xs) (Some (run, w.place))) latest ws

-- the list of numbered locations ys has all of xs, with the same numbers
pub record IsGrown (xs ys : List Loc) : Type 0 where
  pub more : List Loc
  pub is : ys ≡ xs ++ more

-- each write is of a location with a number
abbrev pub AllNumbered : List Loc → List Write → Type 0
AllNumbered xs ws = All (λ w. IsTrue (is_some (number_of w.location xs))) ws
