-- A line is read where it is spelled, and only there; signs spell one line, or none.
use Rattle.std.proofs.Common.{◌≡◌, ℕ, suc, max, ◌≤◌, ◌<◌, true, false, List, [], ◌∷◌, ◌++◌, length, Option, Some, None, option_map, refl}
use Rattle.std.proofs.Common.{sym, ap, ◌∙◌, subst, arith, length-append, append_assoc, inl, inr}
use Rattle.std.proofs.lemmas.List.{append-nil}
use Rattle.std.proofs.lemmas.Bool.{cases_lt}
use Rattle.py_ast.specs.Statement.{Statement}
use Rattle.py_grammar.specs.Line as l
use Rattle.py_grammar.specs.Line.{Simple, SomeSimples, Simples, Header, Heads, Line, SpellsLine, line_depth}
use Rattle.py_grammar.specs.Reading.{◌>>=◌, on, mark_at, marked, mark_begins, nested, Inside}
use Rattle.py_grammar.specs.LineReading.{both, Head, head_of, is_empty, keep_simples, keep_header, keep_line, whole, simples, header}
use Rattle.py_grammar.specs.LineReading.{after_colon, header_line, simple_line, read_line}
use Rattle.py_grammar.specs.declared.mark.Mark.{Mark}
use Rattle.py_grammar.specs.declared.mark.Mark.TheVariants as m
use Rattle.py_grammar.specs.declared.sign.Sign.{Sign}
use Rattle.py_grammar.specs.declared.sign.Sign.TheVariants.{Mark as The}
use Rattle.py_grammar.proofs.Steps.{some_is, bind_ok, on_ok}
use Rattle.py_grammar.proofs.Marks.{mark_is, marked_is}
use Rattle.py_grammar.proofs.Targets.{place_spelled}
use Rattle.py_grammar.proofs.KeptLines.{below_is, above_is, line_of_simples, line_of_header, line_of_both}
use Rattle.py_grammar.proofs.Follow.{phrase_begins}
use Rattle.py_grammar.proofs.SimpleReading.{begins_not, begins_at_front, lefts_begin, simple_some, simples_read, simples_sound}
use Rattle.py_grammar.proofs.HeaderSound.{head_mark, head_is, header_sound}
use Rattle.py_grammar.proofs.HeaderReading.{header_read}

-- ---- no header begins a simple statement

no_head : (k : Mark) → mark_begins k ≡ true → head_of k ≡ None
no_head m.If e = cc
no_head m.Elif e = cc
no_head m.Else e = cc
no_head m.While e = cc
no_head m.For e = cc
no_head m.Try e = cc
no_head m.Finally e = cc
no_head m.Except e = cc
no_head m.Def e = cc
no_head m.Class e = cc
no_head _ e = refl

simple_no_head : {xs : List Sign} {x : Statement} → Simple xs x → (rest : List Sign) → marked head_of (xs ++ rest) ≡ None
simple_no_head (l.expression {xs} s) rest = begins_not head_of no_head (xs ++ rest) (phrase_begins s rest)
simple_no_head (l.assignment {xs} {ys} h s) rest =
    begins_not head_of no_head ((xs ++ ys) ++ rest) (begins_at_front xs ys rest (lefts_begin h (ys ++ rest)))
simple_no_head (l.augmented {xs} {ys} {k} x y s) rest =
    begins_not head_of no_head ((xs ++ The k ∷ ys) ++ rest)
    (begins_at_front xs (The k ∷ ys) rest (phrase_begins (place_spelled x) (The k ∷ ys ++ rest)))
simple_no_head l.pass rest = refl
simple_no_head l.break rest = refl
simple_no_head l.continue rest = refl
simple_no_head l.return rest = refl
simple_no_head (l.return_value s) rest = refl
simple_no_head l.raise rest = refl
simple_no_head (l.raise_value s) rest = refl
simple_no_head (l.global s) rest = refl
simple_no_head (l.nonlocal s) rest = refl
simple_no_head (l.delete x) rest = refl
simple_no_head (l.assert s) rest = refl
simple_no_head (l.assert_message s r) rest = refl

some_simples_no_head : {xs : List Sign} {ss : List Statement} → SomeSimples xs ss → (rest : List Sign) → marked head_of (xs ++ rest) ≡ None
some_simples_no_head (l.one_simple s) rest = simple_no_head s rest
some_simples_no_head (l.and_simple {xs} {ys} p s) rest =
    ap (marked head_of) (append_assoc xs (The m.Semicolon ∷ ys) rest) ∙ some_simples_no_head p (The m.Semicolon ∷ ys ++ rest)

simples_no_head : {xs : List Sign} {ss : List Statement} → Simples xs ss → marked head_of xs ≡ None
simples_no_head (l.some_simples {xs} p) = ap (marked head_of) (sym (append-nil xs)) ∙ some_simples_no_head p []
simples_no_head (l.simples_and_semicolon p) = some_simples_no_head p (The m.Semicolon ∷ [])

some_simples_some : {xs : List Sign} {ss : List Statement} → SomeSimples xs ss → (rest : List Sign) → is_empty (xs ++ rest) ≡ false
some_simples_some (l.one_simple s) rest = simple_some s rest
some_simples_some (l.and_simple {xs} {ys} p s) rest =
    ap is_empty (append_assoc xs (The m.Semicolon ∷ ys) rest) ∙ some_simples_some p (The m.Semicolon ∷ ys ++ rest)

simples_some : {xs : List Sign} {ss : List Statement} → Simples xs ss → is_empty xs ≡ false
simples_some (l.some_simples {xs} p) = ap is_empty (sym (append-nil xs)) ∙ some_simples_some p []
simples_some (l.simples_and_semicolon p) = some_simples_some p (The m.Semicolon ∷ [])

-- ---- all of the signs

whole_is : {A : Type 0} (o : Option (A × List Sign)) (a : A) → whole o ≡ Some a → o ≡ Some (a, [])
whole_is (Some (b, [])) a e = ap (λ z. Some (z, [])) (some_is e)
whole_is (Some (b, x ∷ rest)) a e = cc
whole_is None a e = cc

map_ok : {A B : Type 0} (f : A → B) (o : Option A) (b : B) → option_map f o ≡ Some b → (a : A) × (o ≡ Some a) × (f a ≡ b)
map_ok f (Some a) b e = (a, refl, some_is e)
map_ok f None b e = cc

-- what is read of the signs is kept of a line that they spell
pub record ReadsLine (most : ℕ) (tokens : List Sign) (r : Option Line) : Type 0 where
  pub line : Line
  pub spells : SpellsLine tokens line
  pub is : keep_line most line ≡ r

module _ (most : ℕ) (some : 0 < most) (n : ℕ) where
  abbrev inside : Inside
  inside = nested most n

  -- ---- what is read is spelled

  simples_whole : (tokens : List Sign) (r : Option (List Statement)) → whole (simples most inside tokens) ≡ Some r
      → (ss : List Statement) × Simples tokens ss × (keep_simples most ss ≡ r)
  simples_whole tokens r e =
      let x = simples_sound most some n tokens (r, []) (whole_is (simples most inside tokens) r e) in
      (x.is.tree, subst (λ z. Simples z x.is.tree) (sym (x.whole ∙ append-nil x.phrase)) x.is.spells, x.is.kept)

  simple_line_sound : (tokens : List Sign) (r : Option Line) → simple_line most inside tokens ≡ Some r → ReadsLine most tokens r
  unfolding simple_line
  simple_line_sound tokens r e =
      let a = map_ok (option_map l.simples) (whole (simples most inside tokens)) r e in
      let x = simples_whole tokens a.0 a.1 in
      record { line = l.simples x.0; spells = l.of_simples x.1; is = sym (line_of_simples most x.0) ∙ ap (option_map l.simples) x.2 ∙ a.2 }

  after_colon_sound : (front : List Sign) (h : Header) (tokens : List Sign) (r : Option Line) → Heads front h
      → after_colon most inside (keep_header most h) tokens ≡ Some r
      → ReadsLine most (front ++ The m.Colon ∷ tokens) r
  unfolding after_colon
  after_colon_sound front h [] r s e = record { line = l.header h []; spells = l.of_header s; is = sym (line_of_header most h) ∙ some_is e }
  after_colon_sound front h (x ∷ tokens) r s e =
      let a = map_ok (both l.header (keep_header most h)) (whole (simples most inside (x ∷ tokens))) r e in
      let y = simples_whole (x ∷ tokens) a.0 a.1 in
      record {
        line = l.header h y.0;
        spells = l.of_header_with s y.1;
        is =
            sym (line_of_both most h y.0) ∙ ap (both l.header (keep_header most h)) y.2 ∙ a.2;
      }

  header_line_sound : (tokens : List Sign) (k : Head × List Sign) (r : Option Line) → marked head_of tokens ≡ Some k
      → header_line most inside k ≡ Some r → ReadsLine most tokens r
  unfolding header_line
  header_line_sound tokens k r ek e =
      let i = marked_is head_of tokens k ek in
      let a = bind_ok (header most inside k.0 k.1) (λ h. mark_at m.Colon h.1 >>= after_colon most inside h.0) r e in
      let b = bind_ok (mark_at m.Colon a.0.1) (after_colon most inside a.0.0) r a.2 in
      let x = header_sound most some n k.0 k.1 a.0 a.1 in
      let front = The (head_mark k.0) ∷ x.phrase in
      let whole : tokens ≡ front ++ The m.Colon ∷ b.0 =
      i.1 ∙ ap (λ z. The z ∷ k.1) (head_is i.0 k.0 i.2)
      ∙ ap (λ z. The (head_mark k.0) ∷ z) (x.whole ∙ ap (λ z. x.phrase ++ z) (mark_is m.Colon a.0.1 b.0 b.1)) in
      subst (λ z. ReadsLine most z r) (sym whole)
      (after_colon_sound front x.is.tree b.0 r x.is.spells (ap (λ z. after_colon most inside z b.0) x.is.kept ∙ b.2))

  -- ---- what is spelled is read

  simple_line_read : {xs : List Sign} {ss : List Statement} → Simples xs ss → length xs ≤ n
      → simple_line most inside xs ≡ Some (keep_line most (l.simples ss))
  unfolding simple_line
  simple_line_read {ss = ss} s small =
      ap (λ z. option_map (option_map l.simples) (whole z)) (simples_read most some n s small) ∙ ap Some (line_of_simples most ss)

  after_some : (h : Option Header) (tokens : List Sign) → is_empty tokens ≡ false
      → after_colon most inside h tokens ≡ option_map (both l.header h) (whole (simples most inside tokens))
  unfolding after_colon
  after_some h [] e = cc
  after_some h (x ∷ tokens) e = refl

  header_line_read : {xs : List Sign} {h : Header} → Heads xs h → (rest : List Sign) (r : Option (Option Line)) → length xs ≤ n
      → after_colon most inside (keep_header most h) rest ≡ r
      → on (marked head_of (xs ++ The m.Colon ∷ rest)) (simple_line most inside (xs ++ The m.Colon ∷ rest)) (header_line most inside) ≡ r
  unfolding header_line
  header_line_read {xs} {h} s rest r small e =
      let p = header_read most some n s rest small in
      ap (λ z. on z (simple_line most inside (xs ++ The m.Colon ∷ rest)) (header_line most inside)) p.front
      ∙ ap (λ z. z >>= λ h. mark_at m.Colon h.1 >>= after_colon most inside h.0) p.read
      ∙ e

  header_alone_read : (h : Header) → after_colon most inside (keep_header most h) [] ≡ Some (keep_line most (l.header h []))
  unfolding after_colon
  header_alone_read h = ap Some (line_of_header most h)

  header_with_read : {ys : List Sign} {ss : List Statement} (h : Header) → Simples ys ss → length ys ≤ n
      → after_colon most inside (keep_header most h) ys ≡ Some (keep_line most (l.header h ss))
  header_with_read {ys} {ss} h s small =
      after_some (keep_header most h) ys (simples_some s)
      ∙ ap (λ z. option_map (both l.header (keep_header most h)) (whole z)) (simples_read most some n s small)
      ∙ ap Some (line_of_both most h ss)

-- ---- whole lines

module _ (most : ℕ) (some : 0 < most) where
  pub line_read : {xs : List Sign} {a : Line} → SpellsLine xs a → read_line most xs ≡ Some (keep_line most a)
  unfolding read_line
  line_read (l.of_simples {xs} {statements = ss} s) =
      ap (λ z. on z (simple_line most (nested most (length xs)) xs) (header_line most (nested most (length xs)))) (simples_no_head s)
      ∙ simple_line_read most some (length xs) s (omega arith)
  line_read (l.of_header {xs} {h} s) =
      let e = length-append xs (The m.Colon ∷ []) in
      header_line_read most some (length (xs ++ The m.Colon ∷ [])) s [] (Some (keep_line most (l.header h []))) (omega arith)
      (header_alone_read most some (length (xs ++ The m.Colon ∷ [])) h)
  line_read (l.of_header_with {xs} {ys} {h} {statements = ss} s p) =
      let e = length-append xs (The m.Colon ∷ ys) in
      header_line_read most some (length (xs ++ The m.Colon ∷ ys)) s ys (Some (keep_line most (l.header h ss))) (omega arith)
      (header_with_read most some (length (xs ++ The m.Colon ∷ ys)) h p (omega arith))

  pub line_spelled : (tokens : List Sign) (r : Option Line) → read_line most tokens ≡ Some r → ReadsLine most tokens r
  unfolding read_line
  line_spelled tokens r e =
      elim (on_ok (marked head_of tokens) (simple_line most (nested most (length tokens)) tokens)
      (header_line most (nested most (length tokens))) (Some r) e) [
        | inl p ↦ simple_line_sound most some (length tokens) tokens r p.1
        | inr p ↦ header_line_sound most some (length tokens) tokens p.0 r p.1 p.2
      ]

-- ---- one line, or none

pub one_line : (xs : List Sign) (a b : Line) → SpellsLine xs a → SpellsLine xs b → a ≡ b
one_line xs a b x y =
    let e : Some a ≡ Some b =
    sym (below_is (suc (max (line_depth a) (line_depth b))) (line_depth a) a (omega arith))
    ∙ some_is
    (sym (line_read (suc (max (line_depth a) (line_depth b))) (omega arith) x)
    ∙ line_read (suc (max (line_depth a) (line_depth b))) (omega arith) y)
    ∙ below_is (suc (max (line_depth a) (line_depth b))) (line_depth b) b (omega arith) in
    some_is e

-- ---- what reading tells of a line

-- a line that is not too deep
pub line_found : (most : ℕ) (xs : List Sign) (a : Line) → 0 < most → read_line most xs ≡ Some (Some a)
    → SpellsLine xs a × (line_depth a ≤ most)
line_found most xs a some e =
    let x = line_spelled most some xs (Some a) e in
    elim (cases_lt most (line_depth x.line)) [
      | inl p ↦ let k = sym (above_is most (line_depth x.line) x.line p) ∙ x.is in cc
      | inr p ↦
          let same : x.line ≡ a = some_is (sym (below_is most (line_depth x.line) x.line p) ∙ x.is) in
          (subst (SpellsLine xs) same x.spells, subst (λ z. line_depth z ≤ most) same p)
    ]

pub line_only : (most : ℕ) (xs : List Sign) (a other : Line) → 0 < most → read_line most xs ≡ Some (Some a) → SpellsLine xs other
    → other ≡ a
line_only most xs a other some e s = let x = line_found most xs a some e in one_line xs other a s x.0

-- a line that is too deep
pub line_deep : (most : ℕ) (xs : List Sign) → 0 < most → read_line most xs ≡ Some None
    → (a : Line) × SpellsLine xs a × (most < line_depth a)
line_deep most xs some e =
    let x = line_spelled most some xs None e in
    elim (cases_lt most (line_depth x.line)) [
      | inl p ↦ (x.line, x.spells, p)
      | inr p ↦ let k = sym (below_is most (line_depth x.line) x.line p) ∙ x.is in cc
    ]

-- no line
pub line_none : (most : ℕ) (xs : List Sign) (a : Line) → 0 < most → read_line most xs ≡ None → SpellsLine xs a → ⊥
line_none most xs a some e s = let k = sym e ∙ line_read most some s in cc

-- ---- given signs, of which it is computed what is read

pub read_line_spells : (xs : List Sign) (a : Line) → read_line 60 xs ≡ Some (Some a) → SpellsLine xs a
read_line_spells xs a e = (line_found 60 xs a (omega arith) e).0

pub not_line : (xs : List Sign) (a : Line) → SpellsLine xs a → read_line 60 xs ≡ None → ⊥
not_line xs a s e = line_none 60 xs a (omega arith) e s
