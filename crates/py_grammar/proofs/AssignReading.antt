-- Expressions, assignments and augmented assignments are read where they are spelled, and only there.
use Rattle.std.proofs.Common.{◌≡◌, ℕ, ◌-◌, ◌≤◌, ◌<◌, true, false, not, if◌then◌else◌, List, [], ◌∷◌, ◌++◌, length, take, Option, Some, None}
use Rattle.std.proofs.Common.{option_map, refl, sym, ap, ◌∙◌, subst, arith, length-append, append_assoc, inl, inr}
use Rattle.std.proofs.Math.Seq.{take-append_seam}
use Rattle.std.proofs.lemmas.Bool.{and_from, and_parts, false_from_ne_true, not-true}
use Rattle.py_ast.specs.Tree.{Tree, Trees, none, more}
use Rattle.py_ast.specs.Statement as stmt
use Rattle.py_ast.specs.Statement.{Statement}
use Rattle.py_ast.specs.declared.expr.BinaryOp.{BinaryOp}
use Rattle.py_grammar.specs.Grammar as g
use Rattle.py_grammar.specs.Grammar.{Exprs, Spells, push}
use Rattle.py_grammar.specs.Line as l
use Rattle.py_grammar.specs.Line.{Targets, Lefts, Augments}
use Rattle.py_grammar.specs.Kept.{some_of, is_target, target_of, Kept, keep, kept, is_kept_target, is_kept_place, KeptAll, no_trees}
use Rattle.py_grammar.specs.Kept.{push_kept, keep_all, all_kept, is_none_kept}
use Rattle.py_grammar.specs.Reading.{Reader, ◌>>=◌, on, giving, mark_at, marked, begins, exprs, nested, Inside}
use Rattle.py_grammar.specs.LineReading.{both, Assigned, equals_at, next_value, assigned, augment_of, before, ends_in_close}
use Rattle.py_grammar.specs.LineReading.{is_place_before, augmented, keep_simple, assigned_turn, more_assigned, augment, unmarked}
use Rattle.py_grammar.specs.declared.mark.Mark.{Mark}
use Rattle.py_grammar.specs.declared.mark.Mark.TheVariants as m
use Rattle.py_grammar.specs.declared.sign.Sign.{Sign}
use Rattle.py_grammar.specs.declared.sign.Sign.TheVariants.{Mark as The}
use Rattle.py_grammar.proofs.Steps.{some_is, bind_ok, bind_bind, on_ok, if_ok, Shrinks, loop_goes, loop_stops}
use Rattle.py_grammar.proofs.Marks.{mark_is, marked_is}
use Rattle.py_grammar.proofs.Kept.{keep_push, keep_none, kept_none}
use Rattle.py_grammar.proofs.Targets.{push_some, targets_placed, spelled_target, IsPlaceTree, place_spelled, place_ends, spelled_place}
use Rattle.py_grammar.proofs.Targets.{expr_of_primary}
use Rattle.py_grammar.proofs.KeptLines.{is_target_kept, target_kept, is_place_kept, kept_place, map_tree, both_trees, both_all}
use Rattle.py_grammar.proofs.Takes.{Spelled, Takes, Sound, Anything, sound_shorter, after_mark, joined_with, giving_sound, Turns}
use Rattle.py_grammar.proofs.Takes.{loop_sound}
use Rattle.py_grammar.proofs.Phrases.{OfLevel}
use Rattle.py_grammar.proofs.Follow.{follow}
use Rattle.py_grammar.proofs.Exact.{exprs_read}
use Rattle.py_grammar.proofs.LineParts.{OfSimple, exprs_nested}

-- ---- marks

pub equals_is : (tokens : List Sign) (o : Unit {0} × List Sign) → equals_at tokens ≡ Some o → tokens ≡ The m.Equals ∷ o.1
equals_is tokens o e =
    let b = bind_ok (mark_at m.Equals tokens) (λ rest. Some (tt, rest)) o e in
    mark_is m.Equals tokens b.0 b.1 ∙ ap (λ o. The m.Equals ∷ o.1) (some_is b.2)

augments_is : (k : Mark) (o : BinaryOp) → augment_of k ≡ Some o → Augments k o
augments_is m.PlusEquals o e = subst (Augments m.PlusEquals) (some_is e) l.add
augments_is m.MinusEquals o e = subst (Augments m.MinusEquals) (some_is e) l.subtract
augments_is m.StarEquals o e = subst (Augments m.StarEquals) (some_is e) l.multiply
augments_is m.SlashesEquals o e = subst (Augments m.SlashesEquals) (some_is e) l.divide
augments_is m.PercentEquals o e = subst (Augments m.PercentEquals) (some_is e) l.modulo
augments_is m.StarsEquals o e = subst (Augments m.StarsEquals) (some_is e) l.power
augments_is _ o e = cc

-- what stands after a phrase of an augmented assignment's place
record AugmentsHere (k : Mark) (o : BinaryOp) (rest : List Sign) : Type 0 where
  pub read : marked augment_of (The k ∷ rest) ≡ Some (o, rest)
  pub ends : 11 < follow (The k ∷ rest)

augments_here : {k : Mark} {o : BinaryOp} → Augments k o → (rest : List Sign) → AugmentsHere k o rest
augments_here l.add rest = record { read = refl; ends = omega arith }
augments_here l.subtract rest = record { read = refl; ends = omega arith }
augments_here l.multiply rest = record { read = refl; ends = omega arith }
augments_here l.divide rest = record { read = refl; ends = omega arith }
augments_here l.modulo rest = record { read = refl; ends = omega arith }
augments_here l.power rest = record { read = refl; ends = omega arith }

before_is : (xs rest : List Sign) → before (xs ++ rest) rest ≡ xs
before_is xs rest =
    let e : length (xs ++ rest) - length rest ≡ length xs = omega (arith, length-append xs rest) in
    ap (λ n. take n (xs ++ rest)) e ∙ take-append_seam xs rest

-- what stands where a simple statement ends
pub record EndsHere (rest : List Sign) : Type 0 where
  pub follows : 11 < follow rest
  pub begins_none : begins rest ≡ false
  pub no_comma : mark_at m.Comma rest ≡ None
  pub no_equals : mark_at m.Equals rest ≡ None
  pub no_augment : marked augment_of rest ≡ None

pub ends_at_end : EndsHere []
ends_at_end = record { follows = omega arith; begins_none = refl; no_comma = refl; no_equals = refl; no_augment = refl }

pub ends_at_semicolon : (rest : List Sign) → EndsHere (The m.Semicolon ∷ rest)
ends_at_semicolon rest = record { follows = omega arith; begins_none = refl; no_comma = refl; no_equals = refl; no_augment = refl }

-- ---- lefts, if any, and an expression after them

pub data AssignedBy : List Sign → Trees → Tree → Type 0 where
  a_value : {xs : List Sign} {a : Tree} → Spells Exprs xs a → AssignedBy xs none a
  after_lefts : {xs ys : List Sign} {ts : Trees} {a : Tree} → Lefts xs ts → Spells Exprs ys a → AssignedBy (xs ++ ys) ts a

abbrev IsAssigned : List Sign → Trees × Tree → Type 0
IsAssigned xs x = AssignedBy xs x.0 x.1

abbrev keep_assigned : ℕ → Trees × Tree → Assigned
keep_assigned most x = (keep_all most x.0, keep most x.1)

with_left : {xs ys : List Sign} {ts : Trees} {a b : Tree} → AssignedBy xs ts a → is_target a ≡ true → Spells Exprs ys b
    → AssignedBy (xs ++ The m.Equals ∷ ys) (push ts (target_of a)) b
with_left {ys = ys} {b = b} (a_value {xs} {a} s) e r =
    subst (λ z. AssignedBy z (more (target_of a) none) b) (append_assoc xs (The m.Equals ∷ []) ys)
    (after_lefts (l.one_left (spelled_target s e)) r)
with_left {ys = ys} {b = b} (after_lefts {xs} {ys = zs} {ts} {a} h s) e r =
    subst (λ z. AssignedBy z (push ts (target_of a)) b)
    (append_assoc xs (zs ++ The m.Equals ∷ []) ys ∙ ap (λ z. xs ++ z) (append_assoc zs (The m.Equals ∷ []) ys)
    ∙ sym (append_assoc xs zs (The m.Equals ∷ ys)))
    (after_lefts (l.and_left h (spelled_target s e)) r)

place_tree : {xs : List Sign} {a : Tree} → l.Place xs a → IsPlaceTree a
place_tree l.a_name = tt
place_tree (l.attribute s) = tt
place_tree (l.subscript s i) = tt

lefts_some : {xs : List Sign} {ts : Trees} → Lefts xs ts → some_of ts ≡ true
lefts_some (l.one_left x) = refl
lefts_some (l.and_left {ts = ts} {a = a} h x) = push_some ts a

some_none : (most : ℕ) (ts : Trees) → some_of ts ≡ true → is_none_kept (keep_all most ts) ≡ false
some_none most ts e = false_from_ne_true (is_none_kept (keep_all most ts)) (λ h. let n = ap some_of (kept_none most ts h) in cc)

-- ---- what is kept

module _ (most : ℕ) where
  abbrev OfAssigned : List Sign → Assigned → Type 0
  OfAssigned = Spelled IsAssigned (keep_assigned most)

  -- what is kept of an expression alone, and of an assignment
  value_kept : (a : Tree) → assigned (keep_all most none, keep most a) ≡ keep_simple most (stmt.expression a)
  value_kept a =
      ap (λ z. if is_none_kept z then option_map stmt.expression (kept (keep most a)) else both stmt.assign (all_kept z)
      (kept (keep most a))) (keep_none most)
      ∙ map_tree most stmt.expression a

  assigned_kept : (ts : Trees) (a : Tree) → some_of ts ≡ true
      → assigned (keep_all most ts, keep most a) ≡ keep_simple most (stmt.assign ts a)
  assigned_kept ts a e =
      ap (λ b. if b then option_map stmt.expression (kept (keep most a)) else both stmt.assign (all_kept (keep_all most ts))
      (kept (keep most a))) (some_none most ts e)
      ∙ both_all most stmt.assign ts a

  value_alone : (xs : List Sign) (v : Kept) → OfLevel most Exprs xs v → OfAssigned xs (no_trees, v)
  value_alone xs v s =
      record {
        tree = (none, s.tree);
        spells = a_value s.spells;
        kept =
            ap (λ z. (z, keep most s.tree)) (keep_none most) ∙ ap (λ z. (no_trees, z)) s.kept;
      }

  with_value : (before xs : List Sign) (v : Assigned) (w : Kept) → OfAssigned before v → is_kept_target v.1 ≡ true → OfLevel most Exprs xs w
      → OfAssigned (before ++ The m.Equals ∷ xs) (next_value v w)
  with_value before xs v w s h y = record {
    tree = (push s.tree.0 (target_of s.tree.1), y.tree);
    spells = with_left s.spells (sym (is_target_kept most s.tree.1) ∙ ap (λ z. is_kept_target z.1) s.kept ∙ h) y.spells;
    kept =
        ap (λ z. (z, keep most y.tree))
        (keep_push most s.tree.0 (target_of s.tree.1) ∙ ap (push_kept (keep_all most s.tree.0)) (sym (target_kept most s.tree.1)))
        ∙ ap (λ z. next_value z (keep most y.tree)) s.kept ∙ ap (next_value v) y.kept;
  }

  finished_of : (xs : List Sign) (ts : Trees) (a : Tree) → AssignedBy xs ts a → OfSimple most xs (assigned (keep_all most ts, keep most a))
  finished_of _ _ _ (a_value {a = a} s) = record { tree = stmt.expression a; spells = l.expression s; kept = sym (value_kept a) }
  finished_of _ _ _ (after_lefts {ts = ts} {a = a} h s) =
      record { tree = stmt.assign ts a; spells = l.assignment h s; kept = sym (assigned_kept ts a (lefts_some h)) }

  finished : (xs : List Sign) (v : Assigned) → OfAssigned xs v → OfSimple most xs (assigned v)
  finished xs v s = subst (λ v. OfSimple most xs (assigned v)) s.kept (finished_of xs s.tree.0 s.tree.1 s.spells)

  -- a place, an operator and a value
  augmented_of : (before xs : List Sign) (k : Mark) (o : BinaryOp) (v w : Kept) → OfLevel most Exprs before v → is_kept_place v ≡ true
      → ends_in_close before ≡ false → Augments k o
      → OfLevel most Exprs xs w → OfSimple most (before ++ The k ∷ xs) (augmented v o w)
  augmented_of before xs k o v w s h e x y = record {
    tree = stmt.augment s.tree o y.tree;
    spells = l.augmented (spelled_place s.spells (kept_place most s.tree (ap is_kept_place s.kept ∙ h)) e) x y.spells;
    kept = sym (both_trees most (λ p. stmt.augment p o) s.tree y.tree) ∙ ap (λ z. augmented z o (keep most y.tree)) s.kept
        ∙ ap (augmented v o) y.kept;
  }

module _ (most : ℕ) (some : 0 < most) (n : ℕ) where
  abbrev inside : Inside
  inside = nested most n

  -- ---- what is read is spelled

  assigned_turns : Turns (OfAssigned most) equals_at (assigned_turn most inside)
  unfolding assigned_turn
  assigned_turns before v tokens o r s eo e =
      elim (if_ok (is_kept_target v.1) (exprs most inside o.1 >>= giving (next_value v)) None r e) [
        | inl p ↦
            after_mark (λ xs w. OfAssigned most (before ++ xs) w) m.Equals tokens o.1 r (equals_is tokens o eo)
            (giving_sound (OfLevel most Exprs) (λ xs w. OfAssigned most (before ++ The m.Equals ∷ xs) w) (exprs most inside)
            (exprs_nested most some n) (next_value v)
            (λ xs w y. with_value most before xs v w s p.0 y) o.1 r p.1)
        | inr p ↦ cc
      ]

  assigned_less : (v : Assigned) (o : Unit {0}) (tokens : List Sign) (r : Assigned × List Sign)
      → assigned_turn most inside v o tokens ≡ Some r
      → length r.1 ≤ length tokens
  unfolding assigned_turn
  assigned_less v o tokens r e =
      elim (if_ok (is_kept_target v.1) (exprs most inside tokens >>= giving (next_value v)) None r e) [
        | inl p ↦
            sound_shorter Anything (λ tokens. exprs most inside tokens >>= giving (next_value v))
            (giving_sound (OfLevel most Exprs) Anything (exprs most inside) (exprs_nested most some n) (next_value v) (λ xs w y. tt))
            tokens r p.1
        | inr p ↦ cc
      ]

  pub assigned_shrink : Shrinks equals_at (assigned_turn most inside)
  assigned_shrink = record { operators = λ tokens o e. rw (equals_is tokens o e) (omega arith); turns = assigned_less }

  assigned_sound : (before : List Sign) (v : Kept) (tokens : List Sign) (r : Option Statement × List Sign) → OfLevel most Exprs before v
      → (more_assigned most inside (no_trees, v) tokens >>= giving assigned) ≡ Some r
      → Takes (λ xs w. OfSimple most (before ++ xs) w) tokens r
  assigned_sound before v tokens r s e =
      giving_sound (λ xs w. OfAssigned most (before ++ xs) w) (λ xs w. OfSimple most (before ++ xs) w)
      (more_assigned most inside (no_trees, v))
      (λ tokens r e. loop_sound (OfAssigned most) equals_at (assigned_turn most inside) assigned_turns before (no_trees, v) tokens r
      (value_alone most before v s) e)
      assigned (λ xs w y. finished most (before ++ xs) w y) tokens r e

  augment_sound : (tokens : List Sign) (a : Kept × List Sign) (o : BinaryOp × List Sign) (r : Option Statement × List Sign)
      → (t : Takes (OfLevel most Exprs) tokens a)
      → marked augment_of a.1 ≡ Some o → augment most inside tokens a o ≡ Some r → Takes (λ xs w. OfSimple most (t.phrase ++ xs) w) a.1 r
  unfolding augment
  augment_sound tokens a o r t eo e =
      elim (if_ok (is_place_before tokens a) (exprs most inside o.1 >>= giving (augmented a.0 o.0)) None r e) [
        | inl p ↦
            let k = marked_is augment_of a.1 o eo in
            let q = and_parts (is_kept_place a.0) (not (ends_in_close (before tokens a.1))) p.0 in
            let front : before tokens a.1 ≡ t.phrase = ap (λ z. before z a.1) t.whole ∙ before_is t.phrase a.1 in
            let open_end : ends_in_close t.phrase ≡ false =
            ap ends_in_close (sym front) ∙ not-true (ends_in_close (before tokens a.1)) q.1 in
            after_mark (λ xs w. OfSimple most (t.phrase ++ xs) w) k.0 a.1 o.1 r k.1
            (giving_sound (OfLevel most Exprs) (λ xs w. OfSimple most (t.phrase ++ The k.0 ∷ xs) w) (exprs most inside)
            (exprs_nested most some n) (augmented a.0 o.0)
            (λ xs w y. augmented_of most t.phrase xs k.0 o.0 a.0 w t.is q.0 open_end (augments_is k.0 o.0 k.2) y) o.1 r p.1)
        | inr p ↦ cc
      ]

  -- what follows the first expressions of a statement
  abbrev after_exprs : List Sign → Kept × List Sign → Option (Option Statement × List Sign)
  after_exprs tokens a =
      on (marked augment_of a.1) (more_assigned most inside (no_trees, a.0) a.1 >>= giving assigned) (augment most inside tokens a)

  pub unmarked_sound : Sound (OfSimple most) (unmarked most inside)
  unfolding unmarked
  unmarked_sound tokens r e =
      let a = bind_ok (exprs most inside tokens) (after_exprs tokens) r e in
      let x = exprs_nested most some n tokens a.0 a.1 in
      joined_with (OfLevel most Exprs) (OfSimple most) tokens a.0 r x
      (elim (on_ok (marked augment_of a.0.1) (more_assigned most inside (no_trees, a.0.0) a.0.1 >>= giving assigned)
      (augment most inside tokens a.0) (Some r) a.2) [
        | inl p ↦ assigned_sound x.phrase a.0.0 a.0.1 r x.is p.1
        | inr p ↦ augment_sound tokens a.0 p.0 r x p.1 p.2
      ])

  -- ---- what is spelled is read

  -- an expression, and then the loop
  abbrev value_after : KeptAll → Reader Assigned
  value_after ts tokens = exprs most inside tokens >>= λ a. more_assigned most inside (ts, a.0) a.1

  left_read : {xs : List Sign} {a : Tree} → Targets xs a → (ts : Trees) (rest : List Sign) → length xs ≤ n
      → value_after (keep_all most ts) (xs ++ The m.Equals ∷ rest) ≡ value_after (keep_all most (push ts a)) rest
  unfolding assigned_turn
  left_read {xs} {a} x ts rest small =
      let p = targets_placed x in
      ap (λ z. z >>= λ a. more_assigned most inside (keep_all most ts, a.0) a.1)
      (exprs_read most some n p.spells (The m.Equals ∷ rest) small (omega arith))
      ∙ loop_goes equals_at (assigned_turn most inside) assigned_shrink (keep_all most ts, keep most p.tree) (The m.Equals ∷ rest)
      (tt, rest) refl
      ∙ ap (λ b.
      (if b then (exprs most inside rest >>= giving (next_value (keep_all most ts, keep most p.tree))) else None) >>= λ r.
      more_assigned most inside r.0 r.1)
      (is_target_kept most p.tree ∙ p.target)
      ∙ bind_bind (exprs most inside rest) (giving (next_value (keep_all most ts, keep most p.tree)))
      (λ r. more_assigned most inside r.0 r.1)
      ∙ ap (λ z. exprs most inside rest >>= λ a. more_assigned most inside (z, a.0) a.1)
      (ap (push_kept (keep_all most ts)) (target_kept most p.tree ∙ ap (keep most) p.is) ∙ sym (keep_push most ts a))

  lefts_read : {xs : List Sign} {ts : Trees} → Lefts xs ts → (rest : List Sign) → length xs ≤ n
      → value_after (keep_all most none) (xs ++ rest) ≡ value_after (keep_all most ts) rest
  lefts_read (l.one_left {xs} {a} x) rest small =
      let e = length-append xs (The m.Equals ∷ []) in
      ap (value_after (keep_all most none)) (append_assoc xs (The m.Equals ∷ []) rest) ∙ left_read x none rest (omega arith)
  lefts_read (l.and_left {xs} {ys} {ts} {a} h x) rest small =
      let e = length-append xs (ys ++ The m.Equals ∷ []) in
      let f = length-append ys (The m.Equals ∷ []) in
      ap (value_after (keep_all most none))
      (append_assoc xs (ys ++ The m.Equals ∷ []) rest ∙ ap (λ z. xs ++ z) (append_assoc ys (The m.Equals ∷ []) rest))
      ∙ lefts_read h (ys ++ The m.Equals ∷ rest) (omega arith)
      ∙ left_read x ts rest (omega arith)

  -- the first of the lefts, and what follows it
  lefts_first : {xs : List Sign} {ts : Trees} → Lefts xs ts → (rest : List Sign) → length xs ≤ n
      → (a : Kept) × (after : List Sign) × (exprs most inside (xs ++ rest) ≡ Some (a, The m.Equals ∷ after))
  lefts_first (l.one_left {xs} {a} x) rest small =
      let p = targets_placed x in
      let e = length-append xs (The m.Equals ∷ []) in (
        keep most p.tree,
        rest,
        ap (exprs most inside) (append_assoc xs (The m.Equals ∷ []) rest)
            ∙ exprs_read most some n p.spells (The m.Equals ∷ rest) (omega arith) (omega arith),
      )
  lefts_first (l.and_left {xs} {ys} h x) rest small =
      let e = length-append xs (ys ++ The m.Equals ∷ []) in
      let f = lefts_first h ((ys ++ The m.Equals ∷ []) ++ rest) (omega arith) in
      (f.0, f.1, ap (exprs most inside) (append_assoc xs (ys ++ The m.Equals ∷ []) rest) ∙ f.2)

  -- no augmented assignment
  unmarked_as : (tokens : List Sign) (a : Kept × List Sign) → exprs most inside tokens ≡ Some a → marked augment_of a.1 ≡ None
      → unmarked most inside tokens ≡ (value_after (keep_all most none) tokens >>= giving assigned)
  unfolding unmarked
  unmarked_as tokens a e plain =
      ap (λ z. z >>= after_exprs tokens) e
      ∙ ap (λ z. on z (more_assigned most inside (no_trees, a.0) a.1 >>= giving assigned) (augment most inside tokens a)) plain
      ∙ ap (λ z. more_assigned most inside (z, a.0) a.1 >>= giving assigned) (sym (keep_none most))
      ∙ sym (ap (λ z. (z >>= λ a. more_assigned most inside (keep_all most none, a.0) a.1) >>= giving assigned) e)

  last_read : {xs : List Sign} {a : Tree} → Spells Exprs xs a → (ts : Trees) (rest : List Sign) → length xs ≤ n → EndsHere rest
      → (value_after (keep_all most ts) (xs ++ rest) >>= giving assigned) ≡ Some (assigned (keep_all most ts, keep most a), rest)
  last_read {xs} {a} s ts rest small h =
      ap (λ z. (z >>= λ a. more_assigned most inside (keep_all most ts, a.0) a.1) >>= giving assigned)
      (exprs_read most some n s rest small h.follows)
      ∙ ap (λ z. z >>= giving assigned)
      (loop_stops equals_at (assigned_turn most inside) assigned_shrink (keep_all most ts, keep most a) rest
      (ap (λ z. z >>= λ rest. Some (tt, rest)) h.no_equals))

  pub expression_read : {xs : List Sign} {a : Tree} → Spells Exprs xs a → (rest : List Sign) → length xs ≤ n → EndsHere rest
      → unmarked most inside (xs ++ rest) ≡ Some (keep_simple most (stmt.expression a), rest)
  expression_read {xs} {a} s rest small h =
      unmarked_as (xs ++ rest) (keep most a, rest) (exprs_read most some n s rest small h.follows) h.no_augment
      ∙ last_read s none rest small h
      ∙ ap (λ z. Some (z, rest)) (value_kept most a)

  pub assignment_read : {xs ys : List Sign} {ts : Trees} {a : Tree} → Lefts xs ts → Spells Exprs ys a → (rest : List Sign)
      → length (xs ++ ys) ≤ n → EndsHere rest
      → unmarked most inside ((xs ++ ys) ++ rest) ≡ Some (keep_simple most (stmt.assign ts a), rest)
  assignment_read {xs} {ys} {ts} {a} h s rest small ends =
      let e = length-append xs ys in
      let f = lefts_first h (ys ++ rest) (omega arith) in
      ap (unmarked most inside) (append_assoc xs ys rest)
      ∙ unmarked_as (xs ++ (ys ++ rest)) (f.0, The m.Equals ∷ f.1) f.2 refl
      ∙ ap (λ z. z >>= giving assigned) (lefts_read h (ys ++ rest) (omega arith))
      ∙ last_read s ts rest (omega arith) ends
      ∙ ap (λ z. Some (z, rest)) (assigned_kept most ts a (lefts_some h))

  pub augmented_read : {xs ys : List Sign} {k : Mark} {o : BinaryOp} {p a : Tree} → l.Place xs p → Augments k o → Spells Exprs ys a
      → (rest : List Sign)
      → length (xs ++ The k ∷ ys) ≤ n → EndsHere rest
      → unmarked most inside ((xs ++ The k ∷ ys) ++ rest) ≡ Some (keep_simple most (stmt.augment p o a), rest)
  unfolding unmarked augment
  augmented_read {xs} {ys} {k} {o} {p} {a} x y s rest small ends =
      let e = length-append xs (The k ∷ ys) in
      let h = augments_here y (ys ++ rest) in
      let tokens = xs ++ (The k ∷ ys ++ rest) in
      ap (unmarked most inside) (append_assoc xs (The k ∷ ys) rest)
      ∙ ap (λ z. z >>= after_exprs tokens)
      (exprs_read most some n (g.an_expr (expr_of_primary (place_spelled x))) (The k ∷ ys ++ rest) (omega arith) h.ends)
      ∙ ap (λ z. on z (more_assigned most inside (no_trees, keep most p) (The k ∷ ys ++ rest) >>= giving assigned)
      (augment most inside tokens (keep most p, The k ∷ ys ++ rest))) h.read
      ∙ ap (λ b. if b then (exprs most inside (ys ++ rest) >>= giving (augmented (keep most p) o)) else None)
      (and_from (is_kept_place (keep most p)) (not (ends_in_close (before tokens (The k ∷ ys ++ rest))))
      (is_place_kept most p (place_tree x))
      (ap (λ z. not (ends_in_close z)) (before_is xs (The k ∷ ys ++ rest)) ∙ ap not (place_ends x)))
      ∙ ap (λ z. z >>= giving (augmented (keep most p) o)) (exprs_read most some n s rest (omega arith) ends.follows)
      ∙ ap (λ z. Some (z, rest)) (both_trees most (λ p. stmt.augment p o) p a)
