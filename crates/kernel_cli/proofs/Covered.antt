-- The replies to a log keep what `clean` promises, as each reply of the kernel does.
use Rattle.std.proofs.Common.{◌≡◌, ℕ, zero, suc, List, [], ◌∷◌, length, take, true, false, cond, None, Some, Ok, Err, IfSome, subst}
use Rattle.std.specs.Prelude.{nat_lt, slice_get}
use Rattle.std.specs.declared.option.Option.{Option}
use Rattle.std.specs.declared.result.Result.{Result}
use Rattle.flow_base.specs.Lines.{lines_of}
use Rattle.flow_io.specs.declared.TheConstants.{LINE_LIMIT}
use Rattle.flow_wire.specs.Asked.{ask_of_line}
use Rattle.flow_wire.specs.declared.ask.Ask.{Ask}
use Rattle.flow_wire.specs.declared.reply.EventKind.{EventKind}
use Rattle.flow_wire.specs.declared.reply.EventKind.TheVariants.{Long}
use Rattle.flow_wire.specs.declared.reply.Reply.{Reply}
use Rattle.flow_wire.specs.declared.reply.Reply.TheVariants.{Event}
use Rattle.kernel_core.specs.Answer.{Answer, answer_of}
use Rattle.kernel_core.specs.Clean.{KeepsClean}
use Rattle.kernel_core.specs.Kernel.{Held, new_kernel}
use Rattle.kernel_core.specs.State.{state_of}
use Rattle.kernel_cli.specs.Headline.{AllKeepClean, IsCovered}
use Rattle.kernel_cli.specs.Output.{ask_answer, line_answer, kernel_after, replies_from}
use Rattle.kernel_cli.specs.declared.words.Command.{Command}
use Rattle.kernel_cli.specs.declared.words.Command.TheVariants.{Run}

-- ---- clean runs

module _ (law : (k : Held) (a : Ask) → KeepsClean (state_of k.log) (answer_of k a).reply) where
  ask_keeps : (k : Held) (asked : Result Ask EventKind) → KeepsClean (state_of k.log) (ask_answer k asked).reply
  ask_keeps k (Ok ask) = law k ask
  ask_keeps k (Err kind) = tt

  line_keeps : (k : Held) (line : List ℕ) → KeepsClean (state_of k.log) (line_answer k line).reply
  line_keeps k line =
      elim (nat_lt LINE_LIMIT (length line)) as (λ b. KeepsClean (state_of k.log) (cond {A = Answer} b (record { reply = Event Long; kernel = k }) (ask_answer k (ask_of_line line))).reply) [
        | true ↦ tt
        | false ↦ ask_keeps k (ask_of_line line)
      ]

  all_keep : (lines : List (List ℕ)) (k : Held) (n : ℕ) (reply : Reply) → slice_get (replies_from k lines) n ≡ Some reply
      → KeepsClean (state_of (kernel_after k (take n lines)).log) reply
  all_keep [] k n reply e = cc
  all_keep (line ∷ lines) k zero reply e = let is : (line_answer k line).reply ≡ reply = cc in subst (KeepsClean (state_of k.log)) is (line_keeps k line)
  all_keep (line ∷ lines) k (suc n) reply e = all_keep lines (line_answer k line).kernel n reply e

  if_told : (steps : ℕ) (input : Option (List ℕ)) → IfSome input (λ bytes. AllKeepClean steps (lines_of bytes))
  if_told steps None = tt
  if_told steps (Some bytes) = all_keep (lines_of bytes) (new_kernel steps)

  pub is_covered : (command : Option Command) (input : Option (List ℕ)) → IsCovered command input
  is_covered None input = tt
  is_covered (Some (Run steps)) input = if_told steps input
