-- Each answer of a reader comes always where its cause holds.
use Rattle.std.proofs.Common.{◌≡◌, ◌≢◌, ◌⊎◌, ℕ, ◌<◌, List, [], ◌∷◌, ◌++◌, ◌∙◌, length, true, false, Ok, Err, ap, sym, subst, refl, arith, length-append, inl, inr}
use Rattle.std.specs.declared.option.Option.{Option}
use Rattle.std.specs.declared.result.Result.{Result}
use Rattle.flow_base.specs.Lines.{HasNoEnd}
use Rattle.flow_io.specs.Reader.{Reader}
use Rattle.flow_io.specs.Reading.{AnswersLine, IsAnswer, IsFirstLine}
use Rattle.flow_io.specs.declared.TheConstants.{INPUT_LIMIT}
use Rattle.flow_io.specs.declared.line.Line.{Line}
use Rattle.flow_io.specs.declared.line.Line.TheVariants.{Text, TooLong, End}
use Rattle.flow_io.specs.declared.line.LineFault.{LineFault}
use Rattle.flow_io.specs.declared.line.LineFault.TheVariants.{Read, InputLimit, NoMemory}

-- ---- the first line

no_end_inside : (line rest : List ℕ) → HasNoEnd (line ++ 10 ∷ rest) → ⊥
no_end_inside [] rest h = h.0 refl
no_end_inside (b ∷ line) rest h = no_end_inside line rest h.1

same_line : (a b x y : List ℕ) → HasNoEnd a → HasNoEnd b → a ++ 10 ∷ x ≡ b ++ 10 ∷ y → a ≡ b
same_line [] [] x y h k e = refl
same_line [] (d ∷ b) x y h k e = absurd (k.0 (cc))
same_line (c ∷ a) [] x y h k e = absurd (h.0 (cc))
same_line (c ∷ a) (d ∷ b) x y h k e =
    let heads : c ≡ d = cc in
    let tails : a ++ 10 ∷ x ≡ b ++ 10 ∷ y = cc in
    let rest : a ≡ b = same_line a b x y h.1 k.1 tails in
    cc

module _ (bytes : List ℕ) (left : Option (List ℕ)) (now : Reader) where
  -- there is one first line
  one_line : (line other : List ℕ) → IsFirstLine line bytes left now → IsFirstLine other bytes left now → line ≡ other
  one_line line other first second =
      elim first.1 [
        | inl whole ↦ elim second.1 [
          | inl also ↦ same_line line other now.pending now.pending first.0 second.0 (sym whole.0 ∙ also.0)
          | inr last ↦ absurd (no_end_inside line now.pending (subst HasNoEnd (sym last.0 ∙ whole.0) second.0))
        ]
        | inr last ↦ elim second.1 [
          | inl whole ↦ absurd (no_end_inside other now.pending (subst HasNoEnd (sym last.0 ∙ whole.0) first.0))
          | inr also ↦ sym last.0 ∙ also.0
        ]
      ]

  no_line_in_nothing : (line : List ℕ) → IsFirstLine line bytes left now → bytes ≡ [] → ⊥
  no_line_in_nothing line first none =
      elim first.1 [
        | inl whole ↦ omega (arith, ap length whole.0, ap length none, length-append line (10 ∷ now.pending))
        | inr last ↦ last.1 (sym last.0 ∙ none)
      ]

  no_line_before_end : (line : List ℕ) → IsFirstLine line bytes left now → HasNoEnd bytes → now.ended ≡ false → ⊥
  no_line_before_end line first none goes =
      elim first.1 [
        | inl whole ↦ no_end_inside line now.pending (subst HasNoEnd whole.0 none)
        | inr last ↦ cc
      ]

  within_limit : (line : List ℕ) → IsFirstLine line bytes left now → HasNoEnd bytes → INPUT_LIMIT < now.taken → ⊥
  within_limit line first none over =
      elim first.1 [
        | inl whole ↦ no_end_inside line now.pending (subst HasNoEnd whole.0 none)
        | inr last ↦ let most = last.5 in omega arith
      ]

  -- ---- the answers

  pub line_answered : (result : Result Line LineFault) → IsAnswer result bytes left now → (line : List ℕ) → IsFirstLine line bytes left now → AnswersLine line result
  line_answered (Ok (Text other)) answer line first = let e = one_line line other first answer.1 in (sym e, omega (arith, answer.0, ap length e))
  line_answered (Ok TooLong) answer line first = let e = one_line line answer.0 first answer.2 in omega (arith, answer.1, ap length e)
  line_answered (Ok End) answer line first = no_line_in_nothing line first answer.0
  line_answered (Err Read) answer line first = no_line_before_end line first answer.0 answer.2
  line_answered (Err InputLimit) answer line first = no_line_before_end line first answer.0 answer.3
  line_answered (Err NoMemory) answer line first = tt

  pub end_answered : (result : Result Line LineFault) → IsAnswer result bytes left now → now.ended ≡ true → bytes ≡ [] → (result ≡ Ok End) ⊎ (result ≡ Err NoMemory)
  end_answered (Ok (Text line)) answer ended none = absurd (no_line_in_nothing line answer.1 none)
  end_answered (Ok TooLong) answer ended none = absurd (no_line_in_nothing answer.0 answer.2 none)
  end_answered (Ok End) answer ended none = inl refl
  end_answered (Err Read) answer ended none = cc
  end_answered (Err InputLimit) answer ended none = cc
  end_answered (Err NoMemory) answer ended none = inr refl

  pub limit_answered : (result : Result Line LineFault) → IsAnswer result bytes left now → HasNoEnd bytes → INPUT_LIMIT < now.taken → result ≢ Err Read
      → (result ≡ Err InputLimit) ⊎ (result ≡ Err NoMemory)
  limit_answered (Ok (Text line)) answer none over reads = absurd (within_limit line answer.1 none over)
  limit_answered (Ok TooLong) answer none over reads = absurd (within_limit answer.0 answer.2 none over)
  limit_answered (Ok End) answer none over reads = let most = answer.2 in absurd (omega arith)
  limit_answered (Err Read) answer none over reads = absurd (reads refl)
  limit_answered (Err InputLimit) answer none over reads = inl refl
  limit_answered (Err NoMemory) answer none over reads = inr refl
