-- What one turn of the loop does: it takes a line and makes its reply.
use Rattle.std.specs.Prelude.{◌≡◌, ℕ, ◌+◌, ◌<◌, ◌≤◌, List, [], ◌++◌, length, true, Option, Some, None, Result, Ok, Err}
use Rattle.std.specs.Io.KnownBytes.{prepend_known, IsAtEnd}
use Rattle.flow_base.specs.Lines.{HasNoEnd}
use Rattle.flow_io.specs.Reader.{Reader}
use Rattle.flow_io.specs.Reading.{IsFirstLine}
use Rattle.flow_io.specs.declared.TheConstants.{INPUT_LIMIT}
use Rattle.flow_io.specs.declared.line.LineFault.{LineFault}
use Rattle.flow_io.specs.declared.line.LineFault.TheVariants.{Read, InputLimit, NoMemory}
use Rattle.flow_wire.specs.declared.reply.Reply.{Reply}
use Rattle.kernel_core.specs.Kernel.{Held}
use Rattle.kernel_cli.specs.Output.{line_answer}

abbrev pub IsTurn : Result (Option Reply) LineFault → List ℕ → Option (List ℕ) → Reader → Held → Held → Type 0
IsTurn (Ok (Some reply)) bytes left now old new =
    (line : List ℕ) × IsFirstLine line bytes left now × (now.is_open ≡ true) × (reply ≡ (line_answer old line).reply) × (new ≡ (line_answer old line).kernel)
IsTurn (Ok None) bytes left now old new = (bytes ≡ []) × IsAtEnd left × (now.taken ≤ INPUT_LIMIT)
IsTurn (Err Read) bytes left now old new = HasNoEnd bytes
IsTurn (Err InputLimit) bytes left now old new = HasNoEnd bytes × (INPUT_LIMIT < now.taken)
IsTurn (Err NoMemory) bytes left now old new = Unit {0}

-- A turn, in which the source gave these bytes.
pub record Turns (given : List ℕ) (before after : Option (List ℕ)) (old new : Reader) (kernel now : Held) (result : Result (Option Reply) LineFault) : Type 0 where
  pub source : before ≡ prepend_known given after
  pub count : new.taken ≡ old.taken + length given
  pub turn : IsTurn result (old.pending ++ given) after new kernel now
