-- What holds of a session between two lines, and what follows where it ends.
use Rattle.std.proofs.Common.{◌≡◌, ℕ, ◌+◌, ◌<◌, ◌≤◌, List, [], ◌∷◌, ◌++◌, length, take, drop, Bool, true, false, ◌||◌, None, Some, IfSome, ap, sym, ◌∙◌, refl, subst, append_assoc, append-nil, arith, length-append, inl, inr}
use Rattle.std.specs.declared.option.Option.{Option}
use Rattle.std.specs.List.{list_any}
use Rattle.std.proofs.lemmas.List.{take-append-drop}
use Rattle.std.proofs.lemmas.List.Concat.{flat_map-append}
use Rattle.std.proofs.lemmas.List.Folds.{list_any-append}
use Rattle.std.specs.Io.KnownBytes.{prepend_known, append_known, IsAtEnd}
use Rattle.flow_base.specs.Lines.{lines_of, whole_lines_of, HasNoEnd}
use Rattle.flow_io.specs.Causes.{Rose}
use Rattle.flow_io.specs.Reader.{Reader}
use Rattle.flow_io.specs.Reading.{IsFirstLine}
use Rattle.flow_io.proofs.Known.{prepend_known-append, prepend_known-nil, append_known-append, append_known-nil}
use Rattle.flow_base.proofs.LineLaws.{lines_of-line, whole_lines_of-line, lines_of_last, whole_lines_of_none}
use Rattle.flow_wire.specs.declared.reply.Reply.{Reply}
use Rattle.flow_wire.specs.Replied.{is_refusal}
use Rattle.kernel_core.specs.Kernel.{Held, new_kernel}
use Rattle.kernel_cli.specs.Outcome.{Told, Answers, IsRunOutcome, end_status}
use Rattle.kernel_cli.specs.Output.{line_answer, replies_from, replies_to, kernel_after, reply_line, written_for, output_of, whole_output_of, refuses}

-- the bytes that the source gave are the lines that were answered, and then those that the reader holds back
abbrev pub IsCut : Bool → List ℕ → List (List ℕ) → List ℕ → Option (List ℕ) → Type 0
IsCut false given answered pending left = (more : List ℕ)
    → (lines_of (given ++ more) ≡ answered ++ lines_of (pending ++ more)) × (whole_lines_of (given ++ more) ≡ answered ++ whole_lines_of (pending ++ more))
IsCut true given answered pending left = (lines_of given ≡ answered) × IsAtEnd left × (pending ≡ []) × (length given ≤ 67_108_864)

-- a session that began with runs of this allowance, in which the source gave these bytes and these lines were answered
pub record IsServed (steps : ℕ) (given : List ℕ) (answered : List (List ℕ)) (before left out now : Option (List ℕ)) (reader : Reader) (kept : Held) (flag : Bool) : Type 0 where
  pub source : before ≡ prepend_known given left
  pub count : reader.taken ≡ length given
  pub cut : IsCut reader.ended given answered reader.pending left
  pub kernel : kept ≡ kernel_after (new_kernel steps) answered
  pub written : now ≡ append_known out (written_for (replies_to steps answered))
  pub refused : flag ≡ list_any is_refusal (replies_to steps answered)

-- ---- one line more

pub is_false : (b : Bool) → (b ≡ true → ⊥) → b ≡ false
is_false true h = absurd (h refl)
is_false false h = refl

-- the cut goes on by a line, for each way to cut that takes the first line off
one_line : (cut : List ℕ → List (List ℕ)) → ((line rest : List ℕ) → HasNoEnd line → cut (line ++ 10 ∷ rest) ≡ line ∷ cut rest)
    → (given pending g line after more : List ℕ) (answered : List (List ℕ)) → HasNoEnd line → pending ++ g ≡ line ++ 10 ∷ after
    → cut (given ++ (g ++ more)) ≡ answered ++ cut (pending ++ (g ++ more)) → cut ((given ++ g) ++ more) ≡ (answered ++ line ∷ []) ++ cut (after ++ more)
one_line cut law given pending g line after more answered no_end bytes was =
    ap cut (append_assoc given g more)
    ∙ was
    ∙ ap (λ (bs : List ℕ). answered ++ cut bs) (sym (append_assoc pending g more) ∙ ap (λ (bs : List ℕ). bs ++ more) bytes ∙ append_assoc line (10 ∷ after) more)
    ∙ ap (λ (ls : List (List ℕ)). answered ++ ls) (law line (after ++ more) no_end)
    ∙ sym (append_assoc answered (line ∷ []) (cut (after ++ more)))

pub cut_line : (given pending g line : List ℕ) (answered : List (List ℕ)) (mid left : Option (List ℕ)) (now : Reader)
    → IsCut false given answered pending mid → IsFirstLine line (pending ++ g) left now → now.taken ≡ length (given ++ g)
    → IsCut now.ended (given ++ g) (answered ++ line ∷ []) now.pending left
cut_line given pending g line answered mid left now was first count =
    elim first.1 [
      | inl whole ↦
          subst (λ (b : Bool). IsCut b (given ++ g) (answered ++ line ∷ []) now.pending left) (sym whole.1)
          (λ more. (
            one_line lines_of lines_of-line given pending g line now.pending more answered first.0 whole.0 (was (g ++ more)).0,
            one_line whole_lines_of whole_lines_of-line given pending g line now.pending more answered first.0 whole.0 (was (g ++ more)).1,
          ))
      | inr last ↦
          subst (λ (b : Bool). IsCut b (given ++ g) (answered ++ line ∷ []) now.pending left) (sym last.4) (
            (was g).0 ∙ ap (λ (bs : List ℕ). answered ++ lines_of bs) last.0 ∙ ap (λ (ls : List (List ℕ)). answered ++ ls) (lines_of_last line first.0 last.1),
            last.2,
            last.3,
            omega (arith, count, last.5),
          )
    ]

pub replies_from-append : (k : Held) (a b : List (List ℕ)) → replies_from k (a ++ b) ≡ replies_from k a ++ replies_from (kernel_after k a) b
replies_from-append k [] b = refl
replies_from-append k (line ∷ a) b = ap (λ (rs : List Reply). (line_answer k line).reply ∷ rs) (replies_from-append (line_answer k line).kernel a b)

pub kernel_after-append : (k : Held) (a b : List (List ℕ)) → kernel_after k (a ++ b) ≡ kernel_after (kernel_after k a) b
kernel_after-append k [] b = refl
kernel_after-append k (line ∷ a) b = kernel_after-append (line_answer k line).kernel a b

or_false : (b : Bool) → (b || false) ≡ b
or_false true = refl
or_false false = refl

module _ (steps : ℕ) (answered : List (List ℕ)) (line : List ℕ) (reply : Reply) (is : reply ≡ (line_answer (kernel_after (new_kernel steps) answered) line).reply) where
  replies_line : replies_to steps (answered ++ line ∷ []) ≡ replies_to steps answered ++ reply ∷ []
  replies_line = replies_from-append (new_kernel steps) answered (line ∷ []) ∙ ap (λ (r : Reply). replies_to steps answered ++ r ∷ []) (sym is)

  written_line : written_for (replies_to steps (answered ++ line ∷ [])) ≡ written_for (replies_to steps answered) ++ reply_line reply
  written_line =
      ap written_for replies_line
      ∙ flat_map-append reply_line (replies_to steps answered) (reply ∷ [])
      ∙ ap (λ (bs : List ℕ). written_for (replies_to steps answered) ++ bs) (append-nil (reply_line reply))

  refused_line : list_any is_refusal (replies_to steps (answered ++ line ∷ [])) ≡ (list_any is_refusal (replies_to steps answered) || is_refusal reply)
  refused_line =
      ap (list_any is_refusal) replies_line
      ∙ list_any-append is_refusal (replies_to steps answered) (reply ∷ [])
      ∙ ap (λ (b : Bool). list_any is_refusal (replies_to steps answered) || b) (or_false (is_refusal reply))

-- the state after a turn that answered a line, whose reply was written
pub served_line : (steps : ℕ) (given g line : List ℕ) (answered : List (List ℕ)) (before mid left out now new : Option (List ℕ)) (old reader : Reader) (kept after : Held) (flag said : Bool) (reply : Reply)
    → IsServed steps given answered before mid out now old kept flag → old.ended ≡ false
    → mid ≡ prepend_known g left → reader.taken ≡ old.taken + length g → IsFirstLine line (old.pending ++ g) left reader
    → reply ≡ (line_answer kept line).reply → after ≡ (line_answer kept line).kernel
    → new ≡ append_known now (reply_line reply) → said ≡ is_refusal reply
    → IsServed steps (given ++ g) (answered ++ line ∷ []) before left out new reader after (flag || said)
served_line steps given g line answered before mid left out now new old reader kept after flag said reply was goes source count first is_reply is_after is_new is_said =
    let taken : reader.taken ≡ length (given ++ g) = omega (arith, count, was.count, length-append given g) in
    let cut : IsCut false given answered old.pending mid = subst (λ (b : Bool). IsCut b given answered old.pending mid) goes was.cut in
    let is : reply ≡ (line_answer (kernel_after (new_kernel steps) answered) line).reply = is_reply ∙ ap (λ (k : Held). (line_answer k line).reply) was.kernel in
    record {
      source = was.source ∙ ap (prepend_known given) source ∙ sym (prepend_known-append given g left);
      count = taken;
      cut = cut_line given old.pending g line answered mid left reader cut first taken;
      kernel = is_after ∙ ap (λ (k : Held). (line_answer k line).kernel) was.kernel ∙ sym (kernel_after-append (new_kernel steps) answered (line ∷ []));
      written =
          is_new
          ∙ ap (λ (k : Option (List ℕ)). append_known k (reply_line reply)) was.written
          ∙ sym (append_known-append out (written_for (replies_to steps answered)) (reply_line reply))
          ∙ ap (append_known out) (sym (written_line steps answered line reply is));
      refused =
          ap (λ (b : Bool). flag || b) is_said
          ∙ ap (λ (b : Bool). b || is_refusal reply) was.refused
          ∙ sym (refused_line steps answered line reply is);
    }

-- the session before its first line
pub served_none : (steps : ℕ) (before out : Option (List ℕ))
    → IsServed steps [] [] before before out out (record { pending = []; taken = 0; ended = false; is_open = true }) (new_kernel steps) false
served_none steps before out = record {
  source = prepend_known-nil before;
  count = refl;
  cut = λ more. (refl, refl);
  kernel = refl;
  written = append_known-nil out;
  refused = refl;
}

-- ---- where it ends

-- a fact on the bytes before, where they are told
if_told : (given : List ℕ) (before left : Option (List ℕ)) (P : List ℕ → Type 0) → before ≡ prepend_known given left → ((l : List ℕ) → left ≡ Some l → P (given ++ l)) → IfSome before P
if_told given None left P e h = tt
if_told given (Some input) None P e h = cc
if_told given (Some input) (Some l) P e h = let same : given ++ l ≡ input = cc in subst P same (h l refl)

at_end : (left : Option (List ℕ)) (l : List ℕ) → left ≡ Some l → IsAtEnd left → l ≡ []
at_end left l e h = subst IsAtEnd e h

pub nil_right : (a b : List ℕ) → a ++ b ≡ [] → b ≡ []
nil_right [] b e = e
nil_right (x ∷ a) b e = cc

pub nil_left : (a b : List ℕ) → a ++ b ≡ [] → a ≡ []
nil_left [] b e = refl
nil_left (x ∷ a) b e = cc

-- the lines of the input begin with those that were answered
cut_front : (ended : Bool) (given pending l : List ℕ) (answered : List (List ℕ)) (left : Option (List ℕ)) → left ≡ Some l → IsCut ended given answered pending left
    → (rest : List (List ℕ)) × (lines_of (given ++ l) ≡ answered ++ rest)
cut_front false given pending l answered left e h = (lines_of (pending ++ l), (h l).0)
cut_front true given pending l answered left e h =
    ([], ap lines_of (ap (λ (bs : List ℕ). given ++ bs) (at_end left l e h.1) ∙ append-nil given) ∙ h.0 ∙ sym (append-nil answered))

-- all of them, where nothing is left
cut_all : (ended : Bool) (given pending : List ℕ) (answered : List (List ℕ)) (left : Option (List ℕ)) → pending ≡ [] → IsCut ended given answered pending left → lines_of given ≡ answered
cut_all false given pending answered left none h =
    ap lines_of (sym (append-nil given)) ∙ (h []).0 ∙ ap (λ (bs : List ℕ). answered ++ lines_of bs) (append-nil pending ∙ none) ∙ append-nil answered
cut_all true given pending answered left none h = h.0

module _ (steps : ℕ) (given : List ℕ) (answered : List (List ℕ)) (before mid out now : Option (List ℕ)) (old : Reader) (kept : Held) (flag : Bool) (was : IsServed steps given answered before mid out now old kept flag) where
  pub writes_whole : IfSome before (λ input. (front : List Reply) × (rest : List Reply) × (replies_to steps (lines_of input) ≡ front ++ rest) × (now ≡ append_known out (written_for front)))
  writes_whole = if_told given before mid _ was.source (λ l e.
      let front = cut_front old.ended given old.pending l answered mid e was.cut in
      (replies_to steps answered, replies_from (kernel_after (new_kernel steps) answered) front.0, ap (replies_to steps) front.1 ∙ replies_from-append (new_kernel steps) answered front.0, was.written))

  module _ (g : List ℕ) (left : Option (List ℕ)) (source : mid ≡ prepend_known g left) where
    goes_on : before ≡ prepend_known (given ++ g) left
    goes_on = was.source ∙ ap (prepend_known given) source ∙ sym (prepend_known-append given g left)

    -- at the end of the input
    pub answers : old.pending ++ g ≡ [] → IsAtEnd left → old.taken + length g ≤ 67_108_864
        → IsAtEnd left × IfSome before (λ input. (left ≡ Some []) × (length input ≤ 67_108_864) × (now ≡ append_known out (output_of steps input)) × (refuses steps input ≡ flag))
    answers none end limit = (
      end,
      if_told (given ++ g) before left _ goes_on (λ l e.
          let is : l ≡ [] = at_end left l e end in
          let all : (given ++ g) ++ l ≡ given = ap (λ (bs : List ℕ). (given ++ g) ++ bs) is ∙ append-nil (given ++ g) ∙ ap (λ (bs : List ℕ). given ++ bs) (nil_right old.pending g none) ∙ append-nil given in
          let lines : lines_of ((given ++ g) ++ l) ≡ answered = ap lines_of all ∙ cut_all old.ended given old.pending answered mid (nil_left old.pending g none) was.cut in (
            e ∙ ap Some is,
            omega (arith, ap length all, was.count),
            was.written ∙ ap (λ (ls : List (List ℕ)). append_known out (written_for (replies_to steps ls))) (sym lines),
            ap (λ (ls : List (List ℕ)). list_any is_refusal (replies_to steps ls)) lines ∙ sym was.refused,
          )),
    )

    -- at a fault of the source, or past the limit
    pub answers_whole : old.ended ≡ false → HasNoEnd (old.pending ++ g)
        → (before ≡ prepend_known (given ++ g) left) × (now ≡ append_known out (whole_output_of steps (given ++ g)))
    answers_whole goes none =
        let cut : IsCut false given answered old.pending mid = subst (λ (b : Bool). IsCut b given answered old.pending mid) goes was.cut in
        let lines : whole_lines_of (given ++ g) ≡ answered =
        (cut g).1 ∙ ap (λ (ls : List (List ℕ)). answered ++ ls) (whole_lines_of_none (old.pending ++ g) none) ∙ append-nil answered in
        (goes_on, was.written ∙ ap (λ (ls : List (List ℕ)). append_known out (written_for (replies_to steps ls))) (sym lines))

    -- at a fault of the sink
    pub writes_front : (line : List ℕ) (reader : Reader) (reply : Reply) (n : ℕ) (new : Option (List ℕ)) → old.ended ≡ false
        → reader.taken ≡ old.taken + length g → IsFirstLine line (old.pending ++ g) left reader → reply ≡ (line_answer kept line).reply
        → new ≡ append_known now (take n (reply_line reply))
        → IfSome before (λ input. (front : List ℕ) × (rest : List ℕ) × (output_of steps input ≡ front ++ rest) × (new ≡ append_known out front))
    writes_front line reader reply n new goes count first is_reply is_new = if_told (given ++ g) before left _ goes_on (λ l e.
        let taken : reader.taken ≡ length (given ++ g) = omega (arith, count, was.count, length-append given g) in
        let cut : IsCut false given answered old.pending mid = subst (λ (b : Bool). IsCut b given answered old.pending mid) goes was.cut in
        let is : reply ≡ (line_answer (kernel_after (new_kernel steps) answered) line).reply = is_reply ∙ ap (λ (k : Held). (line_answer k line).reply) was.kernel in
        let front = cut_front reader.ended (given ++ g) reader.pending l (answered ++ line ∷ []) left e (cut_line given old.pending g line answered mid left reader cut first taken) in
        let more : List ℕ = written_for (replies_from (kernel_after (new_kernel steps) (answered ++ line ∷ [])) front.0) in
        let said : List ℕ = written_for (replies_to steps answered) in
        let piece : List ℕ = reply_line reply in (
          said ++ take n piece,
          drop n piece ++ more,
          ap (λ (ls : List (List ℕ)). written_for (replies_to steps ls)) front.1
              ∙ ap written_for (replies_from-append (new_kernel steps) (answered ++ line ∷ []) front.0)
              ∙ flat_map-append reply_line (replies_to steps (answered ++ line ∷ [])) (replies_from (kernel_after (new_kernel steps) (answered ++ line ∷ [])) front.0)
              ∙ ap (λ (bs : List ℕ). bs ++ more) (written_line steps answered line reply is ∙ ap (λ (bs : List ℕ). said ++ bs) (sym (take-append-drop n piece)))
              ∙ simp append_assoc,
          is_new ∙ ap (λ (k : Option (List ℕ)). append_known k (take n piece)) was.written ∙ sym (append_known-append out said (take n piece)),
        ))

-- the row of the status that an input ends with
pub ends_as : (steps : ℕ) (refused : Bool) (source after sink now : Told) → Answers steps refused source after sink now
    → IsRunOutcome steps (end_status refused) source after sink now
ends_as steps true source after sink now h = h
ends_as steps false source after sink now h = h

-- ---- counts

pub rose_since : (first before now : ℕ) → first ≤ before → Rose before now → Rose first now
rose_since first before now h r = omega arith

pub longer : (given g : List ℕ) (n old new : ℕ) → old ≡ length given → new ≡ old + length g → n < new → n < length (given ++ g)
longer given g n old new p q r = omega (arith, length-append given g)
