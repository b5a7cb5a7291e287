use Rattle.std.proofs.Common.{◌≡◌, ◌∷◌, [], ◌++◌, false, List, ℕ, ap, ◌∙◌, refl, arith, take, Err}
use Rattle.std.specs.Io.KnownBytes.{append_known}
use Rattle.flow_io.proofs.Laws.{fuel_falls}
use Rattle.kernel_cli.proofs.Served.{served_none, served_line, is_false, rose_since, longer, writes_whole, answers_whole, writes_front, answers, ends_as}
use Rattle.kernel_cli.proofs.serve.serve.Goals as goal

pub loop-reply-preserved : goal.loop-reply-preserved
loop-reply-preserved g c =
    let was = c.loop-reply.invariant in
    let turn = rw c.in-Ok-Some.field-0-is at c.in-Ok-Some.ensures.turns in
    let goes : c.loop-reply.reader.ended ≡ false = is_false _ (λ e. cc (c.in-Ok-Some.ensures.ended e, c.in-Ok-Some.field-0-is)) in (
      (
        was.0.0 ++ turn.0,
        was.0.1 ++ turn.1.turn.0 ∷ [],
        served_line _ was.0.0 turn.0 turn.1.turn.0 was.0.1 _ _ _ _ _ _ _ _ _ _ _ _ c.in-Ok-Some.reply was.0.2 goes turn.1.source turn.1.count turn.1.turn.1 turn.1.turn.3 turn.1.turn.4
            (c.in-Ok-put.ensures.takes ∙ ap (append_known (g.K.Sink.written c.loop-reply.sink)) (c.as_slice.ensures ∙ c.in-Ok-encode.ensures.0))
            c.in-Ok-encode.ensures.1,
      ),
      turn.1.turn.2,
      c.in-Ok-Some.ensures.limit,
      omega (arith, c.in-Ok-Some.ensures.later, was.3),
      omega (arith, c.in-Ok-put.ensures.cause.later, was.4),
    )

pub loop-reply-smaller : goal.loop-reply-smaller
loop-reply-smaller g c =
    let turn = rw c.in-Ok-Some.field-0-is at c.in-Ok-Some.ensures.turns in
    fuel_falls turn.1.turn.0 turn.0 _ c.loop-reply.reader c.next_reply.new.reader turn.1.turn.1 turn.1.count c.in-Ok-Some.ensures.limit

pub returns-in_default-encode : goal.returns-in_default-encode
returns-in_default-encode g c = writes_whole _ _ _ _ _ _ _ _ _ _ c.loop-reply.invariant.0.2

pub returns-in-Err-NoMemory : goal.returns-in-Err-NoMemory
returns-in-Err-NoMemory g c = writes_whole _ _ _ _ _ _ _ _ _ _ c.loop-reply.invariant.0.2

pub returns-in-Err-Read : goal.returns-in-Err-Read
returns-in-Err-Read g c =
    let was = c.loop-reply.invariant in
    let turn = rw c.in-Err-Read.field-0-is at c.in-Err-Read.ensures.turns in
    let goes : c.loop-reply.reader.ended ≡ false = is_false _ (λ e. cc (c.in-Err-Read.ensures.ended e)) in
    (rose_since _ _ _ was.3 (c.in-Err-Read.ensures.failed (ap Err c.in-Err-Read.field-0-is)), (was.0.0 ++ turn.0, answers_whole _ was.0.0 was.0.1 _ _ _ _ _ _ _ was.0.2 turn.0 _ turn.1.source goes turn.1.turn))

pub returns-in-Err-InputLimit : goal.returns-in-Err-InputLimit
returns-in-Err-InputLimit g c =
    let was = c.loop-reply.invariant in
    let turn = rw c.in-Err-InputLimit.field-0-is at c.in-Err-InputLimit.ensures.turns in
    let goes : c.loop-reply.reader.ended ≡ false = is_false _ (λ e. cc (c.in-Err-InputLimit.ensures.ended e)) in
    (was.0.0 ++ turn.0, longer was.0.0 turn.0 _ _ _ was.0.2.count turn.1.count turn.1.turn.1, answers_whole _ was.0.0 was.0.1 _ _ _ _ _ _ _ was.0.2 turn.0 _ turn.1.source goes turn.1.turn.0)

pub returns-in_default-put : goal.returns-in_default-put
returns-in_default-put g c =
    let was = c.loop-reply.invariant in
    let turn = rw c.in-Ok-Some.field-0-is at c.in-Ok-Some.ensures.turns in
    let goes : c.loop-reply.reader.ended ≡ false = is_false _ (λ e. cc (c.in-Ok-Some.ensures.ended e, c.in-Ok-Some.field-0-is)) in
    let front = c.in_default-put.ensures.takes in (
      rose_since _ _ _ was.4 c.in_default-put.ensures.cause.failed,
      writes_front _ was.0.0 was.0.1 _ _ _ _ _ _ _ was.0.2 turn.0 _ turn.1.source turn.1.turn.0 c.next_reply.new.reader c.in-Ok-Some.reply front.0 _ goes turn.1.count turn.1.turn.1 turn.1.turn.3
          (front.2 ∙ ap (λ (piece : List ℕ). append_known (g.K.Sink.written c.loop-reply.sink) (take front.0 piece)) (c.as_slice.ensures ∙ c.in-Ok-encode.ensures.0)),
    )

pub loop-reply-init : goal.loop-reply-init
loop-reply-init g c =
    rw (c.in-Ok.ensures, c.in-Ok-new.ensures)
    (([], [], served_none _ _ _), refl, omega arith, omega arith, omega arith)

pub returns-in-Ok-None : goal.returns-in-Ok-None
returns-in-Ok-None g c =
    let was = c.loop-reply.invariant in
    let turn = rw c.in-Ok-None.field-0-is at c.in-Ok-None.ensures.turns in
    let all = answers _ was.0.0 was.0.1 _ _ _ _ _ _ _ was.0.2 turn.0 _ turn.1.source turn.1.turn.0 turn.1.turn.1 (rw (← turn.1.count) turn.1.turn.2) in
    rw c.end_status.ensures (ends_as c.args.steps c.loop-reply.refused _ _ _ _ all)
