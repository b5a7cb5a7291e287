-- What is written for an input.
use Rattle.std.specs.Prelude.{ℕ, List, [], ◌∷◌, ◌++◌, length, nat_lt, if◌then◌else◌, flat_map, Bool, Result, Ok, Err}
use Rattle.std.specs.List.{list_any}
use Rattle.flow_base.specs.Lines.{lines_of, whole_lines_of}
use Rattle.flow_io.specs.declared.TheConstants.{LINE_LIMIT}
use Rattle.flow_wire.specs.Asked.{ask_of_line}
use Rattle.flow_wire.specs.Replied.{reply_text, is_refusal}
use Rattle.flow_wire.specs.declared.ask.Ask.{Ask}
use Rattle.flow_wire.specs.declared.reply.EventKind.{EventKind}
use Rattle.flow_wire.specs.declared.reply.EventKind.TheVariants.{Long}
use Rattle.flow_wire.specs.declared.reply.Reply.{Reply}
use Rattle.flow_wire.specs.declared.reply.Reply.TheVariants.{Event}
use Rattle.kernel_core.specs.Kernel.{Held, new_kernel}
use Rattle.kernel_core.specs.Answer.{Answer, answer_of}

-- ---- one line

-- a line that has no ask changes nothing
abbrev pub ask_answer : Held → Result Ask EventKind → Answer
ask_answer k (Ok ask) = answer_of k ask
ask_answer k (Err kind) = record { reply = Event kind; kernel = k }

-- nor does one that is too long, whatever it holds
abbrev pub line_answer : Held → List ℕ → Answer
line_answer k line =
    if nat_lt LINE_LIMIT (length line) then record { reply = Event Long; kernel = k } else ask_answer k (ask_of_line line)

-- ---- all lines, from the first

abbrev pub replies_from : Held → List (List ℕ) → List Reply
replies_from k [] = []
replies_from k (line ∷ lines) = (line_answer k line).reply ∷ replies_from (line_answer k line).kernel lines

abbrev pub kernel_after : Held → List (List ℕ) → Held
kernel_after k [] = k
kernel_after k (line ∷ lines) = kernel_after (line_answer k line).kernel lines

-- the replies of a fresh kernel whose runs have this allowance where they name none
abbrev pub replies_to : ℕ → List (List ℕ) → List Reply
replies_to steps lines = replies_from (new_kernel steps) lines

-- ---- as bytes

abbrev pub reply_line : Reply → List ℕ
reply_line reply = reply_text reply ++ 10 ∷ []

abbrev pub written_for : List Reply → List ℕ
written_for replies = flat_map reply_line replies

-- ---- an input

abbrev pub output_of : ℕ → List ℕ → List ℕ
output_of steps input = written_for (replies_to steps (lines_of input))

-- whether some line is answered by a refusal
abbrev pub refuses : ℕ → List ℕ → Bool
refuses steps input = list_any is_refusal (replies_to steps (lines_of input))

-- for the lines alone that have their line feed
abbrev pub whole_output_of : ℕ → List ℕ → List ℕ
whole_output_of steps input = written_for (replies_to steps (whole_lines_of input))
