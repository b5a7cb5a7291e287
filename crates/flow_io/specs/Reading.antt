-- What `next_line` answers, over the bytes that it took from the source.
use Rattle.std.specs.Prelude.{◌≡◌, ◌≢◌, ◌⊎◌, ℕ, ◌+◌, ◌<◌, ◌≤◌, List, [], ◌∷◌, ◌++◌, length, true, false, Option, Result, Ok, Err}
use Rattle.std.specs.Io.KnownBytes.{prepend_known, IsAtEnd}
use Rattle.flow_base.specs.Lines.{HasNoEnd}
use Rattle.flow_io.specs.declared.TheConstants.{LINE_LIMIT, INPUT_LIMIT}
use Rattle.flow_io.specs.declared.line.Line.{Line}
use Rattle.flow_io.specs.declared.line.Line.TheVariants.{Text, TooLong, End}
use Rattle.flow_io.specs.declared.line.LineFault.{LineFault}
use Rattle.flow_io.specs.declared.line.LineFault.TheVariants.{Read, InputLimit, NoMemory}
use Rattle.flow_io.specs.Reader.{Reader}

-- The bytes are a line with its line feed, and then what the reader holds back. Or they are the last line, without one.
abbrev pub IsFirstLine : List ℕ → List ℕ → Option (List ℕ) → Reader → Type 0
IsFirstLine line bytes left now =
    HasNoEnd line
    × (((bytes ≡ line ++ 10 ∷ now.pending) × (now.ended ≡ false))
    ⊎ ((bytes ≡ line) × (line ≢ []) × IsAtEnd left × (now.pending ≡ []) × (now.ended ≡ true) × (now.taken ≤ INPUT_LIMIT)))

-- what is answered, where these bytes had come and this is left at the source
abbrev pub IsAnswer : Result Line LineFault → List ℕ → Option (List ℕ) → Reader → Type 0
IsAnswer (Ok (Text line)) bytes left now = (length line ≤ LINE_LIMIT) × IsFirstLine line bytes left now × (now.is_open ≡ true)
IsAnswer (Ok TooLong) bytes left now = (line : List ℕ) × (LINE_LIMIT < length line) × IsFirstLine line bytes left now × (now.is_open ≡ true)
IsAnswer (Ok End) bytes left now = (bytes ≡ []) × IsAtEnd left × (now.taken ≤ INPUT_LIMIT) × (now.is_open ≡ false) × (now.ended ≡ true)
IsAnswer (Err Read) bytes left now = HasNoEnd bytes × (now.is_open ≡ false) × (now.ended ≡ false)
IsAnswer (Err InputLimit) bytes left now = HasNoEnd bytes × (INPUT_LIMIT < now.taken) × (now.is_open ≡ false) × (now.ended ≡ false)
IsAnswer (Err NoMemory) bytes left now = now.is_open ≡ false

-- A call of `next_line`, in which the source gave these bytes.
pub record Reads (given : List ℕ) (before after : Option (List ℕ)) (old new : Reader) (result : Result Line LineFault) : Type 0 where
  pub source : before ≡ prepend_known given after
  pub count : new.taken ≡ old.taken + length given
  pub answer : IsAnswer result (old.pending ++ given) after new

-- the line as it is answered
abbrev pub IsLineOf : List ℕ → Line → Type 0
IsLineOf line (Text bytes) = (bytes ≡ line) × (length line ≤ LINE_LIMIT)
IsLineOf line TooLong = LINE_LIMIT < length line
IsLineOf line End = ⊥

-- the line is answered, unless memory is wanting
abbrev pub AnswersLine : List ℕ → Result Line LineFault → Type 0
AnswersLine line (Ok answer) = IsLineOf line answer
AnswersLine line (Err Read) = ⊥
AnswersLine line (Err InputLimit) = ⊥
AnswersLine line (Err NoMemory) = Unit {0}
