-- Targets are read where they are spelled, and only there.
use Rattle.std.proofs.Common.{◌≡◌, ℕ, ◌≤◌, ◌<◌, true, false, if◌then◌else◌, List, [], ◌∷◌, ◌++◌, length, Some, None, refl, sym, ap, ◌∙◌}
use Rattle.std.proofs.Common.{subst, arith, length-append, append_assoc, inl, inr}
use Rattle.std.proofs.lemmas.Bool.{and_from, and_parts}
use Rattle.std.proofs.lemmas.List.{append-nil}
use Rattle.py_ast.specs.Tree as t
use Rattle.py_ast.specs.Tree.{Tree, Trees, none, more}
use Rattle.py_grammar.specs.Grammar.{Primary, Spells, push}
use Rattle.py_grammar.specs.Line as l
use Rattle.py_grammar.specs.Line.{Members, Targets}
use Rattle.py_grammar.specs.Kept.{some_of, is_target, are_targets, target_of, targets_of, Kept, keep, is_kept_target, kept_target, KeptAll}
use Rattle.py_grammar.specs.Kept.{no_trees, push_kept, keep_all, alone, made_tuple}
use Rattle.py_grammar.specs.Reading.{Reader, ◌>>=◌, on, giving, mark_at, begins, next_at, primary, end_of_exprs, nested, Inside}
use Rattle.py_grammar.specs.LineReading.{as_target, places_turn, more_places, places, targets}
use Rattle.py_grammar.specs.declared.mark.Mark.TheVariants as m
use Rattle.py_grammar.specs.declared.sign.Sign.{Sign}
use Rattle.py_grammar.specs.declared.sign.Sign.TheVariants.{Mark as The}
use Rattle.py_grammar.proofs.Steps.{some_is, bind_ok, bind_bind, on_ok, if_ok, Shrinks, loop_goes, loop_stops}
use Rattle.py_grammar.proofs.Marks.{mark_is, next_is, next_here, next_not}
use Rattle.py_grammar.proofs.Kept.{keep_tuple, keep_push, keep_one, keep_alone, keep_several}
use Rattle.py_grammar.proofs.Targets.{push_some, push_targets, pushed, targets_push, target_placed, spelled_target}
use Rattle.py_grammar.proofs.KeptLines.{is_target_kept, target_kept}
use Rattle.py_grammar.proofs.Takes.{Spelled, Takes, Sound, Anything, sound_shorter, takes_none, after_mark, joined_with, giving_sound}
use Rattle.py_grammar.proofs.Takes.{Turns, level_sound}
use Rattle.py_grammar.proofs.Phrases.{OfLevel}
use Rattle.py_grammar.proofs.Follow.{follow, phrase_begins}
use Rattle.py_grammar.proofs.Exact.{primary_read}
use Rattle.py_grammar.proofs.LineParts.{OfTargets, primary_nested}

-- ---- primaries, and what they are alone or several

-- primary {"," primary}
pub data Primaries : List Sign → Trees → Type 0 where
  one_primary : {xs : List Sign} {a : Tree} → Spells Primary xs a → Primaries xs (more a none)
  and_primary : {xs ys : List Sign} {ts : Trees} {a : Tree} → Primaries xs ts → Spells Primary ys a
      → Primaries (xs ++ The m.Comma ∷ ys) (push ts a)

-- primary {"," primary} [","]
pub data Spots : List Sign → Tree → Type 0 where
  a_spot : {xs : List Sign} {a : Tree} → Spells Primary xs a → Spots xs a
  several : {xs : List Sign} {a b : Tree} {ts : Trees} → Primaries xs (more a (more b ts)) → Spots xs (t.tuple (more a (more b ts)))
  some_and_comma : {xs : List Sign} {ts : Trees} → Primaries xs ts → Spots (xs ++ The m.Comma ∷ []) (t.tuple ts)

-- ---- targets stand in spots

record SpotsAll (xs : List Sign) (ts : Trees) : Type 0 where
  pub trees : Trees
  pub primaries : Primaries xs trees
  pub targets : are_targets trees ≡ true
  pub is : targets_of trees ≡ ts

record Spot (xs : List Sign) (a : Tree) : Type 0 where
  pub tree : Tree
  pub spots : Spots xs tree
  pub target : is_target tree ≡ true
  pub is : target_of tree ≡ a

members_spots : {xs : List Sign} {ts : Trees} → Members xs ts → SpotsAll xs ts
members_spots (l.one_member x) =
    let e = target_placed x in
    record {
      trees = more e.tree none;
      primaries = one_primary e.spells;
      targets = and_from (is_target e.tree) true e.target refl;
      is =
          ap (λ z. more z none) e.is;
    }
members_spots (l.and_member {ts = us} {a = a} x y) =
    let p = members_spots x in
    let e = target_placed y in
    record {
      trees = push p.trees e.tree;
      primaries = and_primary p.primaries e.spells;
      targets = push_targets p.trees e.tree p.targets e.target;
      is = targets_push p.trees e.tree ∙ ap (λ z. push z (target_of e.tree)) p.is ∙ ap (push us) e.is;
    }

some_of_primaries : {xs : List Sign} {ts : Trees} → Primaries xs ts → some_of ts ≡ true
some_of_primaries (one_primary s) = refl
some_of_primaries (and_primary {ts = us} {a = a} x s) = push_some us a

several_spot : (xs : List Sign) (trees : Trees) (a b : Tree) (ts : Trees) → Primaries xs trees → are_targets trees ≡ true
    → targets_of trees ≡ more a (more b ts)
    → Spot xs (t.tuple (more a (more b ts)))
several_spot xs none a b ts s e is = cc
several_spot xs (more c none) a b ts s e is = cc
several_spot xs (more c (more d us)) a b ts s e is =
    record { tree = t.tuple (more c (more d us)); spots = several s; target = e; is = ap t.tuple is }

targets_spot : {xs : List Sign} {a : Tree} → Targets xs a → Spot xs a
targets_spot (l.a_target x) =
    let e = target_placed x in
    record { tree = e.tree; spots = a_spot e.spells; target = e.target; is = e.is }
targets_spot (l.several {xs} {a} {b} {ts} x) =
    let p = members_spots x in
    several_spot xs p.trees a b ts p.primaries p.targets p.is
targets_spot (l.some_and_comma x) =
    let p = members_spots x in
    record {
      tree = t.tuple p.trees;
      spots = some_and_comma p.primaries;
      target =
          and_from (some_of p.trees) (are_targets p.trees) (some_of_primaries p.primaries) p.targets;
      is = ap t.tuple p.is;
    }

-- ---- spots of targets spell them

primaries_members : {xs : List Sign} {ts : Trees} → Primaries xs ts → are_targets ts ≡ true → Members xs (targets_of ts)
primaries_members (one_primary {xs} {a} s) e = l.one_member (spelled_target s (and_parts (is_target a) true e).0)
primaries_members (and_primary {xs} {ys} {ts} {a} x y) e =
    let p = pushed ts a e in
    subst (Members (xs ++ The m.Comma ∷ ys)) (sym (targets_push ts a)) (l.and_member (primaries_members x p.0) (spelled_target y p.1))

spots_targets : {xs : List Sign} {a : Tree} → Spots xs a → is_target a ≡ true → Targets xs (target_of a)
spots_targets (a_spot s) e = l.a_target (spelled_target s e)
spots_targets (several {xs} {a} {b} {ts} p) e =
    l.several (primaries_members p (and_parts (some_of (more a (more b ts))) (are_targets (more a (more b ts))) e).1)
spots_targets (some_and_comma {xs} {ts} p) e = l.some_and_comma (primaries_members p (and_parts (some_of ts) (are_targets ts) e).1)

-- one or more
data Counted (xs : List Sign) : Trees → Type 0 where
  one : {a : Tree} → Spells Primary xs a → Counted xs (more a none)
  two : {a b : Tree} {ts : Trees} → Primaries xs (more a (more b ts)) → Counted xs (more a (more b ts))

counted_more : (xs ys : List Sign) (ts : Trees) (a : Tree) → Counted xs ts → Primaries ys (push ts a) → Counted ys (push ts a)
counted_more xs ys _ a (one s) y = two y
counted_more xs ys _ a (two s) y = two y

primaries_counted : {xs : List Sign} {ts : Trees} → Primaries xs ts → Counted xs ts
primaries_counted (one_primary s) = one s
primaries_counted (and_primary {xs} {ys} {ts} {a} x y) =
    counted_more xs (xs ++ The m.Comma ∷ ys) ts a (primaries_counted x) (and_primary x y)

-- ---- what is kept

module _ (most : ℕ) where
  abbrev OfPrimaries : List Sign → KeptAll → Type 0
  OfPrimaries = Spelled Primaries (keep_all most)

  abbrev OfSpots : List Sign → Kept → Type 0
  OfSpots = Spelled Spots (keep most)

  one_of : (xs : List Sign) (v : Kept) → OfLevel most Primary xs v → OfPrimaries xs (push_kept no_trees v)
  one_of xs v s =
      record { tree = more s.tree none; spells = one_primary s.spells; kept = keep_one most s.tree ∙ ap (push_kept no_trees) s.kept }

  more_of : (before xs : List Sign) (v : KeptAll) (w : Kept) → OfPrimaries before v → OfLevel most Primary xs w
      → OfPrimaries (before ++ The m.Comma ∷ xs) (push_kept v w)
  more_of before xs v w s y = record {
    tree = push s.tree y.tree;
    spells = and_primary s.spells y.spells;
    kept = keep_push most s.tree y.tree ∙ ap (λ z. push_kept z (keep most y.tree)) s.kept ∙ ap (push_kept v) y.kept;
  }

  alone_of : (xs : List Sign) (ts : Trees) → Counted xs ts → OfSpots xs (alone most (keep_all most ts))
  alone_of xs _ (one {a} s) = record { tree = a; spells = a_spot s; kept = keep_alone most a }
  alone_of xs _ (two {a} {b} {ts} s) = record { tree = t.tuple (more a (more b ts)); spells = several s; kept = keep_several most a b ts }

  alone_spot : (xs : List Sign) (v : KeptAll) → OfPrimaries xs v → OfSpots xs (alone most v)
  alone_spot xs v s = subst (λ v. OfSpots xs (alone most v)) s.kept (alone_of xs s.tree (primaries_counted s.spells))

  tuple_spot : (xs : List Sign) (v : KeptAll) → OfPrimaries xs v → OfSpots (xs ++ The m.Comma ∷ []) (made_tuple most v)
  tuple_spot xs v s =
      record { tree = t.tuple s.tree; spells = some_and_comma s.spells; kept = keep_tuple most s.tree ∙ ap (made_tuple most) s.kept }

  -- a spot that is a target
  target_spot : (xs : List Sign) (v : Kept) → is_kept_target v ≡ true → OfSpots xs v → OfTargets most xs (kept_target v)
  target_spot xs v h s = record {
    tree = target_of s.tree;
    spells = spots_targets s.spells (sym (is_target_kept most s.tree) ∙ ap is_kept_target s.kept ∙ h);
    kept = sym (target_kept most s.tree) ∙ ap kept_target s.kept;
  }

module _ (most : ℕ) (some : 0 < most) (n : ℕ) where
  abbrev inside : Inside
  inside = nested most n

  -- ---- what is read is spelled

  places_turns : Turns (OfPrimaries most) next_at (places_turn most inside)
  unfolding places_turn
  places_turns before v tokens o r s eo e =
      after_mark (λ xs w. OfPrimaries most (before ++ xs) w) m.Comma tokens o.1 r (next_is tokens o eo)
      (giving_sound (OfLevel most Primary) (λ xs w. OfPrimaries most (before ++ The m.Comma ∷ xs) w) (primary most inside)
      (primary_nested most some n) (push_kept v)
      (λ xs w y. more_of most before xs v w s y) o.1 r e)

  pub places_shrink : Shrinks next_at (places_turn most inside)
  unfolding places_turn
  places_shrink = record {
    operators = λ tokens o e. rw (next_is tokens o e) (omega arith);
    turns = λ v o tokens r e.
        sound_shorter Anything (λ tokens. primary most inside tokens >>= giving (push_kept v))
        (giving_sound (OfLevel most Primary) Anything (primary most inside) (primary_nested most some n) (push_kept v) (λ xs w y. tt))
        tokens r e;
  }

  -- the primaries, and what follows them
  abbrev first_places : Reader KeptAll
  first_places tokens = primary most inside tokens >>= λ a. more_places most inside (push_kept no_trees a.0) a.1

  first_places_sound : Sound (OfPrimaries most) first_places
  first_places_sound =
      level_sound (OfPrimaries most) next_at (places_turn most inside) places_turns (OfLevel most Primary) (primary most inside)
      (push_kept no_trees)
      (primary_nested most some n) (one_of most)

  places_as : (tokens : List Sign) → places most inside tokens ≡ (first_places tokens >>= end_of_exprs most)
  unfolding places
  places_as tokens =
      sym (bind_bind (primary most inside tokens) (λ a. more_places most inside (push_kept no_trees a.0) a.1) (end_of_exprs most))

  end_sound : (before : List Sign) (c : KeptAll × List Sign) (r : Kept × List Sign) → OfPrimaries most before c.0
      → end_of_exprs most c ≡ Some r
      → Takes (λ xs v. OfSpots most (before ++ xs) v) c.1 r
  end_sound before c r s e =
      elim (on_ok (mark_at m.Comma c.1) (Some (alone most c.0, c.1)) (λ after. Some (made_tuple most c.0, after)) (Some r) e) [
        | inl p ↦
            takes_none (λ xs v. OfSpots most (before ++ xs) v) (alone most c.0) c.1 r (rw append-nil (alone_spot most before c.0 s)) p.1
        | inr p ↦
            after_mark (λ xs v. OfSpots most (before ++ xs) v) m.Comma c.1 p.0 r (mark_is m.Comma c.1 p.0 p.1)
            (takes_none (λ xs v. OfSpots most (before ++ The m.Comma ∷ xs) v) (made_tuple most c.0) p.0 r
            (tuple_spot most before c.0 s) p.2)
      ]

  places_sound : Sound (OfSpots most) (places most inside)
  places_sound tokens r e =
      let b = bind_ok (first_places tokens) (end_of_exprs most) r (sym (places_as tokens) ∙ e) in
      let x = first_places_sound tokens b.0 b.1 in
      joined_with (OfPrimaries most) (OfSpots most) tokens b.0 r x (end_sound x.phrase b.0 r x.is b.2)

  pub targets_sound : Sound (OfTargets most) (targets most inside)
  unfolding targets
  targets_sound tokens r e =
      let b = bind_ok (places most inside tokens) as_target r e in
      let x = places_sound tokens b.0 b.1 in
      elim (if_ok (is_kept_target b.0.0) (Some (kept_target b.0.0, b.0.1)) None r b.2) [
        | inl p ↦
            subst (Takes (OfTargets most) tokens) (some_is p.1)
            (record { phrase = x.phrase; is = target_spot most x.phrase b.0.0 p.0 x.is; whole = x.whole })
        | inr p ↦ cc
      ]

  -- ---- what is spelled is read

  primaries_read : {xs : List Sign} {ts : Trees} → Primaries xs ts → (rest : List Sign) → length xs ≤ n → 1 < follow rest
      → first_places (xs ++ rest) ≡ more_places most inside (keep_all most ts) rest
  unfolding places_turn
  primaries_read (one_primary {xs} {a} s) rest small ends =
      ap (λ z. z >>= λ a. more_places most inside (push_kept no_trees a.0) a.1) (primary_read most some n s rest small ends)
      ∙ ap (λ z. more_places most inside z rest) (sym (keep_one most a))
  primaries_read (and_primary {xs} {ys} {ts} {a} x y) rest small ends =
      let e = length-append xs (The m.Comma ∷ ys) in
      ap first_places (append_assoc xs (The m.Comma ∷ ys) rest)
      ∙ primaries_read x (The m.Comma ∷ ys ++ rest) (omega arith) (omega arith)
      ∙ loop_goes next_at (places_turn most inside) places_shrink (keep_all most ts) (The m.Comma ∷ ys ++ rest) (tt, ys ++ rest)
      (next_here (ys ++ rest) (phrase_begins y rest))
      ∙ ap (λ z. (z >>= giving (push_kept (keep_all most ts))) >>= λ r. more_places most inside r.0 r.1)
      (primary_read most some n y rest (omega arith) ends)
      ∙ ap (λ z. more_places most inside z rest) (sym (keep_push most ts a))

  -- no comma after them
  no_comma : {xs : List Sign} {ts : Trees} → Primaries xs ts → (rest : List Sign) → length xs ≤ n → 1 < follow rest
      → mark_at m.Comma rest ≡ None
      → places most inside (xs ++ rest) ≡ Some (alone most (keep_all most ts), rest)
  no_comma {xs} {ts} p rest small ends comma =
      places_as (xs ++ rest)
      ∙ ap (λ z. z >>= end_of_exprs most) (primaries_read p rest small ends)
      ∙ ap (λ z. z >>= end_of_exprs most)
      (loop_stops next_at (places_turn most inside) places_shrink (keep_all most ts) rest
      (ap (λ z. z >>= λ rest. if begins rest then Some (tt, rest) else None) comma))
      ∙ ap (λ z. on z (Some (alone most (keep_all most ts), rest)) (λ after. Some (made_tuple most (keep_all most ts), after))) comma

  places_read : {xs : List Sign} {a : Tree} → Spots xs a → (rest : List Sign) → length xs ≤ n → 1 < follow rest → begins rest ≡ false
      → mark_at m.Comma rest ≡ None
      → places most inside (xs ++ rest) ≡ Some (keep most a, rest)
  places_read (a_spot {xs} {a} s) rest small ends last comma =
      no_comma (one_primary s) rest small ends comma ∙ ap (λ z. Some (z, rest)) (sym (keep_alone most a))
  places_read (several {a = a} {b = b} {ts = ts} p) rest small ends last comma =
      no_comma p rest small ends comma ∙ ap (λ z. Some (z, rest)) (sym (keep_several most a b ts))
  places_read (some_and_comma {xs} {ts} p) rest small ends last comma =
      let e = length-append xs (The m.Comma ∷ []) in
      ap (places most inside) (append_assoc xs (The m.Comma ∷ []) rest)
      ∙ places_as (xs ++ The m.Comma ∷ rest)
      ∙ ap (λ z. z >>= end_of_exprs most) (primaries_read p (The m.Comma ∷ rest) (omega arith) (omega arith))
      ∙ ap (λ z. z >>= end_of_exprs most)
      (loop_stops next_at (places_turn most inside) places_shrink (keep_all most ts) (The m.Comma ∷ rest) (next_not rest last))
      ∙ ap (λ z. Some (z, rest)) (sym (keep_tuple most ts))

  pub targets_read : {xs : List Sign} {a : Tree} → Targets xs a → (rest : List Sign) → length xs ≤ n → 1 < follow rest
      → begins rest ≡ false → mark_at m.Comma rest ≡ None
      → targets most inside (xs ++ rest) ≡ Some (keep most a, rest)
  unfolding targets
  targets_read x rest small ends last comma =
      let p = targets_spot x in
      ap (λ z. z >>= as_target) (places_read p.spots rest small ends last comma)
      ∙ ap (λ b. if b then Some (kept_target (keep most p.tree), rest) else None) (is_target_kept most p.tree ∙ p.target)
      ∙ ap (λ z. Some (z, rest)) (target_kept most p.tree ∙ ap (keep most) p.is)
