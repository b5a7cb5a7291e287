-- What each status says of the source and the sink.
use Rattle.std.specs.Prelude.{◌≡◌, ℕ, ◌<◌, ◌≤◌, ◌⊎◌, List, [], ◌++◌, length, nat_le, if◌then◌else◌, Bool, true, false, Option, Some, None, IfSome}
use Rattle.std.specs.Io.KnownBytes.{prepend_known, append_known, IsAtEnd}
use Rattle.flow_io.specs.Causes.{Rose}
use Rattle.flow_io.specs.declared.TheConstants.{INPUT_LIMIT}
use Rattle.flow_base.specs.Lines.{lines_of}
use Rattle.flow_wire.specs.declared.reply.Reply.{Reply}
use Rattle.kernel_cli.specs.Output.{output_of, whole_output_of, refuses, replies_to, written_for}
use Rattle.kernel_cli.specs.declared.status.Status.{Status}
use Rattle.kernel_cli.specs.declared.status.Status.TheVariants.{Done, Refused, Usage, ReadFault, WriteFault, NoMemory, InputLimit}
use Rattle.kernel_cli.specs.declared.words.Command.{Command}
use Rattle.kernel_cli.specs.declared.words.Command.TheVariants.{Run}

-- what is known of an object that is handed in: its bytes, where it tells them, and its count of faults
pub record Told : Type 0 where
  pub bytes : Option (List ℕ)
  pub faults : ℕ

-- The input was read to its end, and is within the limit; each line was answered; and whether one was refused.
abbrev pub Answers : ℕ → Bool → Told → Told → Told → Told → Type 0
Answers steps refused source after sink now = IsAtEnd after.bytes × IfSome source.bytes (λ input.
    (after.bytes ≡ Some []) × (length input ≤ INPUT_LIMIT) × (now.bytes ≡ append_known sink.bytes (output_of steps input)) × (refuses steps input ≡ refused))

-- The source gave these bytes, and their whole lines were answered, and no more.
abbrev pub AnswersWhole : ℕ → List ℕ → Told → Told → Told → Told → Type 0
AnswersWhole steps given source after sink now =
    (source.bytes ≡ prepend_known given after.bytes) × (now.bytes ≡ append_known sink.bytes (whole_output_of steps given))

-- A beginning of the output was written.
abbrev pub WritesFront : ℕ → Told → Told → Told → Type 0
WritesFront steps source sink now = IfSome source.bytes (λ input.
    (front : List ℕ) × (rest : List ℕ) × (output_of steps input ≡ front ++ rest) × (now.bytes ≡ append_known sink.bytes front))

-- Some first replies of the output were written, each whole.
abbrev pub WritesWhole : ℕ → Told → Told → Told → Type 0
WritesWhole steps source sink now = IfSome source.bytes (λ input.
    (front : List Reply) × (rest : List Reply) × (replies_to steps (lines_of input) ≡ front ++ rest) × (now.bytes ≡ append_known sink.bytes (written_for front)))

-- The status of an input that was read to its end, where some line was refused or none was.
abbrev pub end_status : Bool → Status
end_status true = Refused
end_status false = Done

-- The answers to `run`, where a run that names no steps is allowed this many.
abbrev pub IsRunOutcome : ℕ → Status → Told → Told → Told → Told → Type 0
IsRunOutcome steps Done source after sink now = Answers steps false source after sink now
IsRunOutcome steps Refused source after sink now = Answers steps true source after sink now
IsRunOutcome steps Usage source after sink now = ⊥
IsRunOutcome steps ReadFault source after sink now =
    Rose source.faults after.faults × ((given : List ℕ) × AnswersWhole steps given source after sink now)
IsRunOutcome steps WriteFault source after sink now = Rose sink.faults now.faults × WritesFront steps source sink now
IsRunOutcome steps InputLimit source after sink now =
    (given : List ℕ) × (INPUT_LIMIT < length given) × AnswersWhole steps given source after sink now
IsRunOutcome steps NoMemory source after sink now = WritesWhole steps source sink now

-- Words without a shape, and only these, are answered by Usage, and leave source and sink as they were.
abbrev pub IsOutcome : Option Command → Status → Told → Told → Told → Told → Type 0
IsOutcome None status source after sink now = (status ≡ Usage) × (after ≡ source) × (now ≡ sink)
IsOutcome (Some (Run steps)) status source after sink now = IsRunOutcome steps status source after sink now

-- ---- where nothing fails

-- The status of an input, by its bytes alone.
abbrev pub status_of : ℕ → List ℕ → Status
status_of steps input = if nat_le (length input) INPUT_LIMIT then end_status (refuses steps input) else InputLimit

abbrev pub IsStatusOf : ℕ → List ℕ → Status → Type 0
IsStatusOf steps input status = (status ≡ status_of steps input) ⊎ (status ≡ NoMemory)

-- Where neither count of faults rose, the status is that of the input, unless memory was wanting.
abbrev pub IsComplete : Option Command → Status → Told → Told → Told → Told → Type 0
IsComplete None status source after sink now = Unit {0}
IsComplete (Some (Run steps)) status source after sink now =
    IfSome source.bytes (λ input. ¬ Rose source.faults after.faults → ¬ Rose sink.faults now.faults → IsStatusOf steps input status)

-- Over a source that never fails and gives these bytes, and a sink that never fails.
abbrev pub IsSure : Option Command → List ℕ → Status → Type 0
IsSure None input status = status ≡ Usage
IsSure (Some (Run steps)) input status = IsStatusOf steps input status
