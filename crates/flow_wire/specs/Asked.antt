-- The ask that a line has, over `serde_json`'s values. A key that stands twice in an object has its last value.
use Rattle.std.specs.Prelude.{ℕ, suc, List, [], ◌∷◌, length, Bool, false, ◌&&◌, ◌||◌, ◌==◌, nat_le, if◌then◌else◌, Option, Some, None, ◌≡◌, option_map, option_and_then, Result, Ok, Err, codes}
use Rattle.std.specs.List.{list_all}
use Rattle.std.specs.Str.{chars, is_utf8, bytes_eq}
use Rattle.serde_json.specs.Data.{Data, Members, no_members, member}
use Rattle.serde_json.specs.Find.{get, as_str, as_object}
use Rattle.serde_json.specs.Read.{read}
use Rattle.flow_wire.specs.declared.ask.Ask.{Ask}
use Rattle.flow_wire.specs.declared.ask.Ask.TheVariants.{Edit, Run, Show}
use Rattle.flow_wire.specs.declared.ask.BadAsk.{BadAsk}
use Rattle.flow_wire.specs.declared.ask.BadAsk.TheVariants as bad
use Rattle.flow_wire.specs.declared.reply.EventKind.{EventKind}
use Rattle.flow_wire.specs.declared.reply.EventKind.TheVariants.{Utf8, Json, Shape}

-- ---- parts of a line

-- an ASCII letter, a digit, `_` or `-`
abbrev pub is_cell_char : ℕ → Bool
is_cell_char c = (nat_le 48 c && nat_le c 57) || (nat_le 65 c && nat_le c 90) || (nat_le 97 c && nat_le c 122) || c == 95 || c == 45

-- a cell has a name of 1 to 64 such characters
abbrev pub is_cell_name : List ℕ → Bool
is_cell_name name = nat_le 1 (length name) && nat_le (length name) 64 && list_all is_cell_char name

abbrev pub count_members : Members → ℕ
count_members no_members = 0
count_members (member k d ms) = suc (count_members ms)

abbrev pub is_count : ℕ → Option Members → Bool
is_count n None = false
is_count n (Some ms) = count_members ms == n

-- an object with so many members and no more
abbrev pub has_members : ℕ → Data → Bool
has_members n d = is_count n (as_object d)

abbrev pub is_text : List ℕ → Option (List ℕ) → Bool
is_text want None = false
is_text want (Some s) = bytes_eq s want

abbrev pub is_event : List ℕ → Data → Bool
is_event name d = is_text name (option_and_then as_str (get (codes "event") d))

-- the text at a key, as code points
abbrev pub text_at : List ℕ → Data → Option (List ℕ)
text_at key d = option_map chars (option_and_then as_str (get key d))

abbrev pub if_cell_name : List ℕ → Option (List ℕ)
if_cell_name name = if is_cell_name name then Some name else None

abbrev pub cell_at : Data → Option (List ℕ)
cell_at d = option_and_then if_cell_name (text_at (codes "cell") d)

-- ---- the shapes, each with exactly its keys: so many members, and among them each of these

-- {"event":"edit","cell":C,"text":T}
abbrev pub edit_of : Data → Option Ask
edit_of d =
    if is_event (codes "edit") d && has_members 3 d
    then option_and_then (λ cell. option_map (λ text. Edit cell text) (text_at (codes "text") d)) (cell_at d)
    else None

-- {"event":"run","cell":C}
abbrev pub run_of : Data → Option Ask
run_of d = if is_event (codes "run") d && has_members 2 d then option_map (λ cell. Run cell None) (cell_at d) else None

-- {"event":"show","cell":C}
abbrev pub show_of : Data → Option Ask
show_of d = if is_event (codes "show") d && has_members 2 d then option_map (λ cell. Show cell) (cell_at d) else None

-- ---- the line

abbrev pub first_shape : List (Option Ask) → Result Ask EventKind
first_shape [] = Err Shape
first_shape (Some ask ∷ others) = Ok ask
first_shape (None ∷ others) = first_shape others

abbrev pub ask_of : Data → Result Ask EventKind
ask_of d = first_shape (edit_of d ∷ run_of d ∷ show_of d ∷ [])

abbrev pub or_json : Option Data → Result Data EventKind
or_json None = Err Json
or_json (Some d) = Ok d

abbrev pub data_of_line : List ℕ → Result Data EventKind
data_of_line line = if is_utf8 line then or_json (read line) else Err Utf8

-- the ask of its data, if it has data
abbrev pub then_ask_of : Result Data EventKind → Result Ask EventKind
then_ask_of (Ok d) = ask_of d
then_ask_of (Err kind) = Err kind

abbrev pub ask_of_line : List ℕ → Result Ask EventKind
ask_of_line line = then_ask_of (data_of_line line)

-- why a line has none; want of memory may come in place of each answer
abbrev pub IsBad : {T : Type 0} → BadAsk → Result T EventKind → Type 0
IsBad bad.Utf8 asked = asked ≡ Err Utf8
IsBad bad.Json asked = asked ≡ Err Json
IsBad bad.Shape asked = asked ≡ Err Shape
IsBad bad.NoMemory asked = Unit {0}
