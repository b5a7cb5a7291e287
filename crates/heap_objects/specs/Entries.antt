-- The entries of a dictionary: a list in which each key stands once.
use Rattle.std.specs.Prelude.{Bool, not, List, [], ◌∷◌, ◌++◌, filter, Option, Some, None, is_some, if◌then◌else◌}
use Rattle.flow_base.specs.Same.{key_eq}
use Rattle.flow_base.specs.declared.key.Key.{Key}
use Rattle.heap_objects.specs.Keyed.{key_of}
use Rattle.heap_objects.specs.declared.tree.Entry.{Entry}
use Rattle.heap_objects.specs.declared.value.Value.{Value}

-- the entry of a key
abbrev pub entry_of : List Entry → Key → Option Entry
entry_of [] k = None
entry_of (e ∷ es) k = if key_eq e.key k then Some e else entry_of es k

abbrev pub has_key : List Entry → Key → Bool
has_key es k = is_some (entry_of es k)

-- the entries with a value at a key, which stays as it was written; nothing changes where the key is not present
abbrev pub with_value : List Entry → Key → Value → List Entry
with_value [] k v = []
with_value (e ∷ es) k v = if key_eq e.key k then record e { value = v } ∷ es else e ∷ with_value es k v

abbrev pub without : List Entry → Key → List Entry
without es k = filter (λ e. not (key_eq e.key k)) es

-- the entries with a value at a key: a key that is present stays where it is and as it was written, and a new one comes last
abbrev pub with_entry : List Entry → Key → Value → Value → List Entry
with_entry es k spelled v = if has_key es k then with_value es k v else es ++ record { key = k; spelled = spelled; value = v } ∷ []

abbrev pub with_keyed : List Entry → Option Key → Value → Value → List Entry
with_keyed es None spelled v = es
with_keyed es (Some k) spelled v = with_entry es k spelled v

-- the entries with a value at each of these keys in turn; what has no key is left out
abbrev pub with_all : List Entry → List Value → List Value → List Entry
with_all es [] values = es
with_all es (k ∷ keys) [] = es
with_all es (k ∷ keys) (v ∷ values) = with_all (with_keyed es (key_of k) k v) keys values
