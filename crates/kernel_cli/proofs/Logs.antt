-- The replies to logs, computed.
use Rattle.std.proofs.Common.{◌≡◌, ℕ, List, [], ◌∷◌, ◌∙◌, refl, ap, sym, subst, take}
use Rattle.std.specs.Prelude.{codes}
use Rattle.std.specs.Fmt.{digits}
use Rattle.std.specs.Str.{chars, is_utf8}
use lib.Utf8.{encode}
use Rattle.json.specs.Json.{value}
use Rattle.json.specs.Lex.{lex, punctuate}
use Rattle.json.specs.Print.{escape_byte}
use Rattle.json.specs.Text.{content}
use Rattle.flow_base.specs.Lines.{lines_of}
use Rattle.flow_wire.specs.declared.reply.EndText.TheVariants as end
use Rattle.flow_wire.specs.declared.reply.MarkText.TheVariants.{Clean, Stale}
use Rattle.flow_wire.specs.declared.reply.Reply.{Reply}
use Rattle.flow_wire.specs.declared.reply.Reply.TheVariants.{Edited, Ran}
use Rattle.kernel_core.specs.declared.accepted.Accepted.{Accepted}
use Rattle.kernel_core.specs.Answer.{Answer}
use Rattle.kernel_core.specs.Kernel.{Held, running}
use Rattle.kernel_core.specs.Examples.{UsesRun}
use Rattle.kernel_core.proofs.Shown as session
use Rattle.kernel_core.proofs.Shown.{answer_1, answer_2, answer_3, answer_4, answer_5, answer_6, answer_7, b_uses_a, c_uses_b}
use Rattle.kernel_cli.specs.declared.words.TheConstants.{DEFAULT_STEPS}
use Rattle.kernel_cli.specs.Examples.{accepted_of, clean_log, clean_replies, stale_log, stale_replies}
use Rattle.kernel_cli.specs.Output.{kernel_after, line_answer, output_of, replies_from, written_for}

-- a kernel that has accepted this
abbrev at : List Accepted → Held
at log = running log 100_000

step : (k next : Held) (line : List ℕ) (lines : List (List ℕ)) (reply : Reply) (replies : List Reply)
    → line_answer k line ≡ record { reply = reply; kernel = next } → replies_from next lines ≡ replies → replies_from k (line ∷ lines) ≡ reply ∷ replies
step k next line lines reply replies is rest = ap (λ (a : Answer). a.reply ∷ replies_from a.kernel lines) is ∙ ap (λ (rs : List Reply). reply ∷ rs) rest

-- ---- what was accepted, line by line; each run is allowed two steps more than the number

abbrev log_1 : List Accepted
log_1 = session.log_1 99_998

abbrev log_2 : List Accepted
log_2 = session.log_2 99_998

abbrev log_3 : List Accepted
log_3 = session.log_3 99_998

abbrev log_4 : List Accepted
log_4 = session.log_4 99_998

abbrev log_5 : List Accepted
log_5 = session.log_5 99_998

abbrev log_6 : List Accepted
log_6 = session.log_6 99_998

abbrev log_7 : List Accepted
log_7 = session.log_7 99_998

-- ---- the answer to each line

abbrev line_1 : List ℕ
line_1 = codes "{\"event\":\"edit\",\"cell\":\"a\",\"text\":\"x = 1\"}"

abbrev line_2 : List ℕ
line_2 = codes "{\"event\":\"run\",\"cell\":\"a\"}"

abbrev line_3 : List ℕ
line_3 = codes "{\"event\":\"edit\",\"cell\":\"b\",\"text\":\"y = x\"}"

abbrev line_4 : List ℕ
line_4 = codes "{\"event\":\"run\",\"cell\":\"b\"}"

abbrev line_5 : List ℕ
line_5 = codes "{\"event\":\"run\",\"cell\":\"a\"}"

abbrev line_6 : List ℕ
line_6 = codes "{\"event\":\"edit\",\"cell\":\"c\",\"text\":\"z = y\"}"

abbrev line_7 : List ℕ
line_7 = codes "{\"event\":\"run\",\"cell\":\"c\"}"

abbrev reply_1 : Reply
reply_1 = Edited (codes "a")

abbrev reply_2 : Reply
reply_2 = Ran (codes "a") end.Ok Clean [] 1 []

abbrev reply_3 : Reply
reply_3 = Edited (codes "b")

abbrev reply_4 : Reply
reply_4 = Ran (codes "b") end.Ok Clean [] 2 []

abbrev reply_5 : Reply
reply_5 = Ran (codes "a") end.Ok Clean [] 3 []

abbrev reply_6 : Reply
reply_6 = Edited (codes "c")

abbrev reply_7 : Reply
reply_7 = Ran (codes "c") end.Ok (Stale 2 (codes "x") 3 (codes "y")) [] 4 (codes "y" ∷ [])

is_1 : line_answer (at []) line_1 ≡ record { reply = reply_1; kernel = at log_1 }
unfolding is_utf8 chars encode value punctuate lex content
is_1 = answer_1 99_998

is_2 : line_answer (at log_1) line_2 ≡ record { reply = reply_2; kernel = at log_2 }
unfolding is_utf8 chars encode value punctuate lex content
is_2 = answer_2 99_998 refl

is_3 : line_answer (at log_2) line_3 ≡ record { reply = reply_3; kernel = at log_3 }
unfolding is_utf8 chars encode value punctuate lex content
is_3 = answer_3 99_998

is_4 : line_answer (at log_3) line_4 ≡ record { reply = reply_4; kernel = at log_4 }
unfolding is_utf8 chars encode value punctuate lex content
is_4 = answer_4 99_998 refl

is_5 : line_answer (at log_4) line_5 ≡ record { reply = reply_5; kernel = at log_5 }
unfolding is_utf8 chars encode value punctuate lex content
is_5 = answer_5 99_998 refl

is_6 : line_answer (at log_5) line_6 ≡ record { reply = reply_6; kernel = at log_6 }
unfolding is_utf8 chars encode value punctuate lex content
is_6 = answer_6 99_998

is_7 : line_answer (at log_6) line_7 ≡ record { reply = reply_7; kernel = at log_7 }
unfolding is_utf8 chars encode value punctuate lex content
is_7 = answer_7 99_998 refl

-- ---- the replies

clean_said : replies_from (at []) (lines_of clean_log) ≡ (reply_1 ∷ reply_2 ∷ reply_3 ∷ reply_4 ∷ [])
clean_said = step (at []) (at log_1) line_1 (line_2 ∷ line_3 ∷ line_4 ∷ []) reply_1 (reply_2 ∷ reply_3 ∷ reply_4 ∷ []) is_1 (
    step (at log_1) (at log_2) line_2 (line_3 ∷ line_4 ∷ []) reply_2 (reply_3 ∷ reply_4 ∷ []) is_2 (
    step (at log_2) (at log_3) line_3 (line_4 ∷ []) reply_3 (reply_4 ∷ []) is_3 (
    step (at log_3) (at log_4) line_4 [] reply_4 [] is_4 (
    refl))))

stale_said : replies_from (at []) (lines_of stale_log) ≡ (reply_1 ∷ reply_2 ∷ reply_3 ∷ reply_4 ∷ reply_5 ∷ reply_6 ∷ reply_7 ∷ [])
stale_said = step (at []) (at log_1) line_1 (line_2 ∷ line_3 ∷ line_4 ∷ line_5 ∷ line_6 ∷ line_7 ∷ []) reply_1 (reply_2 ∷ reply_3 ∷ reply_4 ∷ reply_5 ∷ reply_6 ∷ reply_7 ∷ []) is_1 (
    step (at log_1) (at log_2) line_2 (line_3 ∷ line_4 ∷ line_5 ∷ line_6 ∷ line_7 ∷ []) reply_2 (reply_3 ∷ reply_4 ∷ reply_5 ∷ reply_6 ∷ reply_7 ∷ []) is_2 (
    step (at log_2) (at log_3) line_3 (line_4 ∷ line_5 ∷ line_6 ∷ line_7 ∷ []) reply_3 (reply_4 ∷ reply_5 ∷ reply_6 ∷ reply_7 ∷ []) is_3 (
    step (at log_3) (at log_4) line_4 (line_5 ∷ line_6 ∷ line_7 ∷ []) reply_4 (reply_5 ∷ reply_6 ∷ reply_7 ∷ []) is_4 (
    step (at log_4) (at log_5) line_5 (line_6 ∷ line_7 ∷ []) reply_5 (reply_6 ∷ reply_7 ∷ []) is_5 (
    step (at log_5) (at log_6) line_6 (line_7 ∷ []) reply_6 (reply_7 ∷ []) is_6 (
    step (at log_6) (at log_7) line_7 [] reply_7 [] is_7 (
    refl)))))))

clean_written : written_for (reply_1 ∷ reply_2 ∷ reply_3 ∷ reply_4 ∷ []) ≡ clean_replies
unfolding chars encode escape_byte digits
clean_written = refl

stale_written : written_for (reply_1 ∷ reply_2 ∷ reply_3 ∷ reply_4 ∷ reply_5 ∷ reply_6 ∷ reply_7 ∷ []) ≡ stale_replies
unfolding chars encode escape_byte digits
stale_written = refl

pub clean_output : output_of DEFAULT_STEPS clean_log ≡ clean_replies
clean_output = ap written_for clean_said ∙ clean_written

pub stale_output : output_of DEFAULT_STEPS stale_log ≡ stale_replies
stale_output = ap written_for stale_said ∙ stale_written

-- ---- what the last runs use

-- the kernel after one line more
after_step : (k next : Held) (line : List ℕ) (lines : List (List ℕ)) (reply : Reply) (last : Held)
    → line_answer k line ≡ record { reply = reply; kernel = next } → kernel_after next lines ≡ last → kernel_after k (line ∷ lines) ≡ last
after_step k next line lines reply last is rest = ap (λ (a : Answer). kernel_after a.kernel lines) is ∙ rest

clean_accepted : kernel_after (at []) (take 3 (lines_of clean_log)) ≡ at log_3
clean_accepted = after_step (at []) (at log_1) line_1 (line_2 ∷ line_3 ∷ []) reply_1 (at log_3) is_1 (
    after_step (at log_1) (at log_2) line_2 (line_3 ∷ []) reply_2 (at log_3) is_2 (
    after_step (at log_2) (at log_3) line_3 [] reply_3 (at log_3) is_3 (
    refl)))

stale_accepted : kernel_after (at []) (take 6 (lines_of stale_log)) ≡ at log_6
stale_accepted = after_step (at []) (at log_1) line_1 (line_2 ∷ line_3 ∷ line_4 ∷ line_5 ∷ line_6 ∷ []) reply_1 (at log_6) is_1 (
    after_step (at log_1) (at log_2) line_2 (line_3 ∷ line_4 ∷ line_5 ∷ line_6 ∷ []) reply_2 (at log_6) is_2 (
    after_step (at log_2) (at log_3) line_3 (line_4 ∷ line_5 ∷ line_6 ∷ []) reply_3 (at log_6) is_3 (
    after_step (at log_3) (at log_4) line_4 (line_5 ∷ line_6 ∷ []) reply_4 (at log_6) is_4 (
    after_step (at log_4) (at log_5) line_5 (line_6 ∷ []) reply_5 (at log_6) is_5 (
    after_step (at log_5) (at log_6) line_6 [] reply_6 (at log_6) is_6 (
    refl))))))

pub clean_uses : UsesRun (accepted_of clean_log 3) (codes "b") DEFAULT_STEPS 1
clean_uses = subst (λ (k : Held). UsesRun k.log (codes "b") DEFAULT_STEPS 1) (sym clean_accepted) (b_uses_a 99_998)

pub stale_uses : UsesRun (accepted_of stale_log 6) (codes "c") DEFAULT_STEPS 2
stale_uses = subst (λ (k : Held). UsesRun k.log (codes "c") DEFAULT_STEPS 2) (sym stale_accepted) (c_uses_b 99_998)
