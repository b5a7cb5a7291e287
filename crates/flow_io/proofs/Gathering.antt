-- A line while its bytes come.
use Rattle.std.proofs.Common.{◌≡◌, ℕ, ◌+◌, ◌≤◌, ◌<◌, List, [], ◌∷◌, ◌++◌, length, sym, ◌∙◌, ap, subst, ◌⊎◌, inl, inr, zero, suc, slice_index_or, arith, append_assoc, append-nil, length-append, Bool, true, Ok}
use Rattle.std.specs.declared.option.Option.{Option}
use Rattle.std.specs.Io.KnownBytes.{prepend_known}
use Rattle.flow_base.specs.Lines.{HasNoEnd}
use Rattle.flow_io.specs.Reader.{Backlog, HasLine, Reader}
use Rattle.flow_io.specs.Reading.{IsAnswer, IsFirstLine, IsLineOf}
use Rattle.flow_io.specs.declared.TheConstants.{LINE_LIMIT}
use Rattle.flow_io.specs.declared.line.Line.{Line}
use Rattle.flow_io.specs.declared.line.Line.TheVariants.{Text, TooLong, End}
use Rattle.flow_io.specs.Gathered.{Holds, Gathers, IsGathered}
use Rattle.std.specs.declared.result.Result.{Result}
use Rattle.flow_io.specs.declared.line.LineFault.{LineFault}
use Rattle.flow_io.specs.declared.gathered.Gathered.{Gathered}
use Rattle.flow_io.proofs.Known.{prepend_known-append, prepend_known-nil}

-- of the bytes that were held and those that the source gave, a line has some, none of them a line feed, and the rest is held
pub record IsGathering (given line : List ℕ) (before left : Option (List ℕ)) (old now : Backlog) (g : Gathered) : Type 0 where
  pub no_end : HasNoEnd line
  pub source : before ≡ prepend_known given left
  pub count : now.taken ≡ old.taken + length given
  pub bytes : old.bytes ++ given ≡ line ++ now.bytes
  pub holds : Holds g line

pub HasNoEnd-append : (a b : List ℕ) → HasNoEnd a → HasNoEnd b → HasNoEnd (a ++ b)
HasNoEnd-append [] b p q = q
HasNoEnd-append (x ∷ a) b p q = (p.0, HasNoEnd-append a b p.1 q)

no_line_feed_at : (bytes : List ℕ) (k : ℕ) → HasNoEnd bytes → k < length bytes → slice_index_or bytes k 10 ≡ 10 → ⊥
no_line_feed_at [] k h within is = omega (arith, within)
no_line_feed_at (b ∷ bytes) zero h within is = h.0 is
no_line_feed_at (b ∷ bytes) (suc k) h within is = no_line_feed_at bytes k h.1 (omega (arith, within)) is

-- where no byte is a line feed, there is no whole line
pub has_no_line : (bytes : List ℕ) → HasNoEnd bytes → HasLine bytes → ⊥
has_no_line bytes h line = no_line_feed_at bytes line.0 h line.1 line.2

-- what was held at first has no line feed, or nothing was read since
abbrev pub IsUnread : {S : Type 0} → S → S → List ℕ → List ℕ → Type 0
IsUnread before now first held = HasNoEnd first ⊎ ((now ≡ before) × (held ≡ first))

pub unread_source : {S : Type 0} {before now : S} {first held : List ℕ} → IsUnread before now first held → HasLine first → now ≡ before
unread_source {S} {before} {now} {first} {held} was line =
    elim was [
      | inl none ↦ absurd (has_no_line first none line)
      | inr same ↦ same.0
    ]

pub unread_none : {S : Type 0} {before now : S} {first held : List ℕ} → IsUnread before now first held → HasNoEnd held → HasNoEnd first
unread_none {S} {before} {now} {first} {held} was none =
    elim was [
      | inl h ↦ h
      | inr same ↦ subst HasNoEnd same.1 none
    ]

-- before the first piece
pub gathering_none : (before : Option (List ℕ)) (old : Backlog) (g : Gathered) → Holds g [] → IsGathering [] [] before before old old g
gathering_none before old g holds = record {
  no_end = tt;
  source = prepend_known-nil before;
  count = omega arith;
  bytes = append-nil old.bytes;
  holds = holds;
}

module _ (given line : List ℕ) (before mid : Option (List ℕ)) (old now : Backlog) (g0 : Gathered) (was : IsGathering given line before mid old now g0) where
  -- all that was held moved into the line, and the next piece came
  pub gathering_more : (left : Option (List ℕ)) (next : Backlog) (g : Gathered) → HasNoEnd now.bytes → Holds g (line ++ now.bytes)
      → mid ≡ prepend_known next.bytes left → next.taken ≡ now.taken + length next.bytes
      → IsGathering (given ++ next.bytes) (line ++ now.bytes) before left old next g
  gathering_more left next g no_end holds source count = record {
    no_end = HasNoEnd-append line now.bytes was.no_end no_end;
    source = was.source ∙ ap (prepend_known given) source ∙ sym (prepend_known-append given next.bytes left);
    count = omega (arith, count, was.count, length-append given next.bytes);
    bytes = sym (append_assoc old.bytes given next.bytes) ∙ ap (λ (bs : List ℕ). bs ++ next.bytes) was.bytes;
    holds = holds;
  }

  -- the line ends in what was held
  pub gathers_line : (part : List ℕ) (next : Backlog) (g : Gathered) → HasNoEnd part → now.bytes ≡ part ++ 10 ∷ next.bytes → Holds g (line ++ part)
      → next.taken ≡ now.taken → Gathers given before mid old next (Ok true) g
  gathers_line part next g no_end bytes holds count = record {
    source = was.source;
    count = count ∙ was.count;
    gathered = (
      line ++ part,
      HasNoEnd-append line part was.no_end no_end,
      was.bytes ∙ ap (λ (bs : List ℕ). line ++ bs) bytes ∙ sym (append_assoc line part (10 ∷ next.bytes)),
      holds,
    );
  }

  -- no line feed came, and nothing more is taken
  pub gathers_all : (left : Option (List ℕ)) (next : Backlog) (g : Gathered) (result : Result Bool LineFault) → HasNoEnd now.bytes → Holds g (line ++ now.bytes)
      → left ≡ mid → next.taken ≡ now.taken
      → ((bytes : List ℕ) → HasNoEnd bytes → Holds g bytes → IsGathered result bytes left next g)
      → Gathers given before left old next result g
  gathers_all left next g result no_end holds same count answer = record {
    source = was.source ∙ ap (prepend_known given) (sym same);
    count = count ∙ was.count;
    gathered =
        let all = sym was.bytes in
        answer (old.bytes ++ given) (subst HasNoEnd all (HasNoEnd-append line now.bytes was.no_end no_end)) (subst (Holds g) all holds);
  }

-- the answer to a line
pub answered : (result : Line) (line bytes : List ℕ) (left : Option (List ℕ)) (now : Reader) → IsLineOf line result → IsFirstLine line bytes left now → now.is_open ≡ true
    → IsAnswer (Ok result) bytes left now
answered (Text kept) line bytes left now is first is_open =
    subst (λ (l : List ℕ). (length l ≤ LINE_LIMIT) × IsFirstLine l bytes left now × (now.is_open ≡ true)) (sym is.0) (is.1, first, is_open)
answered TooLong line bytes left now is first is_open = (line, is, first, is_open)
answered End line bytes left now is first is_open = absurd is
