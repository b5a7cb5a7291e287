-- What a reader may still take, and when it may be called again.
use Rattle.std.proofs.Common.{◌≡◌, ◌≢◌, ℕ, ◌+◌, ◌<◌, ◌≤◌, List, [], ◌∷◌, ◌++◌, length, true, Ok, Err, ap, refl, arith, length-append, inl, inr}
use Rattle.std.specs.declared.option.Option.{Option}
use Rattle.flow_io.specs.Reader.{Reader, fuel}
use Rattle.std.specs.declared.result.Result.{Result}
use Rattle.std.specs.Io.KnownBytes.{IsAtEnd}
use Rattle.flow_io.specs.declared.TheConstants.{INPUT_LIMIT}
use Rattle.flow_io.specs.declared.line.Line.{Line}
use Rattle.flow_io.specs.declared.line.Line.TheVariants.{Text, TooLong, End}
use Rattle.flow_io.specs.declared.line.LineFault.{LineFault}
use Rattle.flow_io.specs.declared.line.LineFault.TheVariants.{Read, InputLimit, NoMemory}
use Rattle.flow_io.specs.Reading.{IsFirstLine, IsAnswer, Reads}

some_length : (line : List ℕ) → line ≢ [] → 0 < length line
some_length [] some = absurd (some refl)
some_length (b ∷ line) some = omega arith

-- a line that was answered leaves the reader less to take
pub fuel_falls : (line given : List ℕ) (left : Option (List ℕ)) (old now : Reader)
    → IsFirstLine line (old.pending ++ given) left now → now.taken ≡ old.taken + length given → now.taken ≤ 67_108_865 → fuel now < fuel old
fuel_falls line given left old now first count limit =
    let total = length-append old.pending given in
    elim first.1 [
      | inl whole ↦ let e = ap length whole.0 in omega (arith, total, e, length-append line (10 ∷ now.pending))
      | inr last ↦ omega (arith, total, ap length last.0, ap length last.3, some_length line last.1)
    ]

-- a line that ended with its source, and not with a line feed
last_line : (line bytes : List ℕ) (left : Option (List ℕ)) (now : Reader) → IsFirstLine line bytes left now → now.ended ≡ true
    → IsAtEnd left × (now.pending ≡ []) × (now.taken ≤ INPUT_LIMIT)
last_line line bytes left now first at_end =
    elim first.1 [
      | inl whole ↦ cc
      | inr last ↦ (last.2, last.3, last.5)
    ]

-- an open reader whose source answered its end holds nothing, and has taken no more than the limit
ready_after : (result : Result Line LineFault) (bytes : List ℕ) (left : Option (List ℕ)) (now : Reader) → IsAnswer result bytes left now
    → now.is_open ≡ true → now.ended ≡ true → IsAtEnd left × (now.pending ≡ []) × (now.taken ≤ INPUT_LIMIT)
ready_after (Ok (Text line)) bytes left now answer is_open at_end = last_line line bytes left now answer.1 at_end
ready_after (Ok TooLong) bytes left now answer is_open at_end = last_line answer.0 bytes left now answer.2 at_end
ready_after (Ok End) bytes left now answer is_open at_end = cc
ready_after (Err Read) bytes left now answer is_open at_end = cc
ready_after (Err InputLimit) bytes left now answer is_open at_end = cc
ready_after (Err NoMemory) bytes left now answer is_open at_end = cc

-- what the next call of `next_line` requires, after a call that left the reader open
pub ready_again : {given : List ℕ} {before after : Option (List ℕ)} {old now : Reader} {result : Result Line LineFault}
    → Reads given before after old now result → now.is_open ≡ true → now.ended ≡ true
    → IsAtEnd after × (now.pending ≡ []) × (now.taken ≤ INPUT_LIMIT)
ready_again {given} {before} {after} {old} {now} {result} reads is_open at_end = ready_after result (old.pending ++ given) after now reads.answer is_open at_end
