-- What `clean` promises in the replies to a log, over the history that the log has.
use Rattle.std.specs.Prelude.{◌≡◌, ℕ, List, slice_get, take, Option, Some, None, IfSome}
use Rattle.flow_base.specs.Lines.{lines_of}
use Rattle.flow_wire.specs.declared.reply.Reply.{Reply}
use Rattle.kernel_core.specs.declared.state.State.{State}
use Rattle.kernel_core.specs.Clean.{KeepsClean}
use Rattle.kernel_core.specs.Kernel.{new_kernel}
use Rattle.kernel_core.specs.State.{state_of}
use Rattle.kernel_cli.specs.Output.{kernel_after, replies_to}
use Rattle.kernel_cli.specs.declared.words.Command.{Command}
use Rattle.kernel_cli.specs.declared.words.Command.TheVariants.{Run}

-- what a session has come to by the lines
abbrev pub state_after : ℕ → List (List ℕ) → State
state_after steps lines = state_of (kernel_after (new_kernel steps) lines).log

-- Each reply to the lines, the n-th from 0, that says `clean` of a run keeps what that promises, over the history of the runs
-- in the n lines before it.
abbrev pub AllKeepClean : ℕ → List (List ℕ) → Type 0
AllKeepClean steps lines = (n : ℕ) (reply : Reply) → slice_get (replies_to steps lines) n ≡ Some reply → KeepsClean (state_after steps (take n lines)) reply

-- so do the replies that are defined for the input, where it is told
abbrev pub IsCovered : Option Command → Option (List ℕ) → Type 0
IsCovered None input = Unit {0}
IsCovered (Some (Run steps)) input = IfSome input (λ bytes. AllKeepClean steps (lines_of bytes))
