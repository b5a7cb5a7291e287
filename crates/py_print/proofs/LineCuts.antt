-- The text of printed lines is cut into their tokens, and these are put into lines of the same depths, which spell what is printed.
use Rattle.std.proofs.Common.{◌≡◌, ℕ, zero, suc, ◌+◌, ◌*◌, ◌-◌, ◌<◌, ◌≤◌, List, [], ◌∷◌, ◌++◌, length, drop, map, replicate, slice_range, true, false, ◌==◌, ◌&&◌, ◌||◌, not, if◌then◌else◌, Some, None, refl, sym, ap, ◌∙◌, subst, ◌⊎◌, ⊎_elim, arith, append_assoc, length-append, option_map, option_and_then}
use Rattle.std.specs.List.{AllByRecursion}
use Rattle.std.proofs.Math.Seq.{drop-append_seam}
use Rattle.std.proofs.lemmas.Bool.{or_parts, cond-true, cond-false, false_from_ne_true}
use Rattle.py_lexer.specs.declared.token.TokenKind.{TokenKind}
use Rattle.py_lexer.specs.declared.token.TokenKind.TheVariants.{LineEnd}
use Rattle.py_lexer.specs.declared.token.Token.{Token}
use Rattle.py_lexer.specs.Cut.{Place, Cuts, AreTokens, blank_len, behind, behind_token, token_at}
use Rattle.py_lexer.specs.Cut as lexer
use Rattle.py_lexer.proofs.Cutting.{blank_no_token}
use Rattle.py_layout.specs.declared.line.LogicalLine.{LogicalLine}
use Rattle.py_layout.specs.Layout.{Spot, Lays, is_line_end, indent_of, stack_after, line_len, entered, behind_end, behind_line, line_at}
use Rattle.py_layout.specs.Layout as layout
use Rattle.py_grammar.specs.Line as l
use Rattle.py_grammar.specs.Line.{SpellsLine, line_depth}
use Rattle.py_grammar.proofs.Lines.{one_line}
use Rattle.py_signs.specs.Signs.{signs_of}
use Rattle.py_signs.specs.Limits.{has_unsupported, is_crowded, has_wide}
use Rattle.py_block.specs.Lexing.{front_of}
use Rattle.py_block.specs.Parsed.{tokens_of, with_line_ends}
use Rattle.py_block.specs.Cell as c
use Rattle.py_block.specs.Cell.{counted, IsOver, HoldsOfNone}
use Rattle.py_print.specs.Pieces.{Piece, sign, space, signs_in, text_of}
use Rattle.py_print.specs.Printed.{Row, simple, header, PrintedLine, pieces, line, placed, line_text, lines_text}
use Rattle.py_print.specs.Spelled.{IsWritten}
use Rattle.py_print.proofs.Classes.{free}
use Rattle.py_print.proofs.WordFronts.{no_start}
use Rattle.py_print.proofs.MarkFronts.{other_of}
use Rattle.py_print.proofs.SignFronts.{end_goes}
use Rattle.py_print.proofs.Rows.{IsLawfulLine, row_spelled}
use Rattle.py_print.proofs.RowRuns.{row_runs, row_depth}
use Rattle.py_print.proofs.Heads.{is_headed, row_headed}
use Rattle.py_print.proofs.Steps.{AreSteps}
use Rattle.py_print.proofs.Widths.{widths, widths_length, stack_is}
use Rattle.py_print.proofs.PieceCuts.{head_front, tokens_at, place_after, is_token, token_cut, space_cut, pieces_cut, nested_after, at_after, slice_is, AreTexts, texts_of, signs_are, all_supported, no_ends, all_narrow, not_crowded}

-- ---- places and tokens

abbrev pub after_spaces : ℕ → Place → Place
after_spaces zero p = p
after_spaces (suc n) p = after_spaces n (behind p (32 ∷ []))

abbrev pub begins : Place → PrintedLine → Place
begins p x = after_spaces (4 * x.deep) p

abbrev pub line_tokens : Place → PrintedLine → List Token
line_tokens p x = tokens_at (begins p x) (pieces x.row)

-- where the line end stands
abbrev pub ends : Place → PrintedLine → Place
ends p x = place_after (begins p x) (pieces x.row)

abbrev pub end_token : Place → PrintedLine → Token
end_token p x = token_at (ends p x) LineEnd 1

abbrev pub next : Place → PrintedLine → Place
next p x = behind_token (ends p x) LineEnd (10 ∷ [])

abbrev pub all_tokens : Place → List PrintedLine → List Token
all_tokens p [] = []
all_tokens p (x ∷ xs) = line_tokens p x ++ end_token p x ∷ all_tokens (next p x) xs

abbrev all_after : Place → List PrintedLine → Place
all_after p [] = p
all_after p (x ∷ xs) = all_after (next p x) xs

-- a lawful line whose names and numbers a text can hold
abbrev pub IsPrintable : PrintedLine → Type 0
IsPrintable x = IsLawfulLine x × AllByRecursion IsWritten (signs_in (pieces x.row))

spaces_at : (n : ℕ) (p : Place) → (after_spaces n p).at ≡ p.at + n
spaces_at zero p = omega arith
spaces_at (suc n) p = let r = spaces_at n (behind p (32 ∷ [])) in omega arith

spaces_nested : (n : ℕ) (p : Place) → (after_spaces n p).nested ≡ p.nested
spaces_nested zero p = refl
spaces_nested (suc n) p = spaces_nested n (behind p (32 ∷ []))

length_replicate : (n : ℕ) → length {A = ℕ} (replicate n 32) ≡ n
length_replicate zero = refl
length_replicate (suc n) = ap suc (length_replicate n)

-- ---- cutting

spaces_cut : {q : Place} {ts : List Token} {end : List ℕ} (n : ℕ) (p : Place) (text : List ℕ) → Cuts (after_spaces n p) text ts q end → Cuts p (replicate n 32 ++ text) ts q end
spaces_cut zero p text c = c
spaces_cut (suc n) p text c = space_cut p (replicate n 32 ++ text) (spaces_cut n (behind p (32 ∷ [])) text c)

cuts_on : {p q r : Place} {text rest end : List ℕ} {ts us : List Token} → Cuts p text ts q rest → Cuts q rest us r end → Cuts p text (ts ++ us) r end
cuts_on lexer.here d = d
cuts_on (lexer.blank b c) d = lexer.blank b (cuts_on c d)
cuts_on (lexer.token t c) d = lexer.token t (cuts_on c d)

end_front : (nested : ℕ) (rest : List ℕ) → nested ≡ 0 → front_of nested (10 ∷ rest) ≡ Some (LineEnd, 1)
end_front nested rest e =
    other_of nested 10 rest (no_start 10 refl) refl refl ∙ ap (λ n. if n == 0 then Some (LineEnd, 1) else None) e

-- the text of a line before what follows
line_split : (x : PrintedLine) (rest : List ℕ) → line_text x ++ rest ≡ replicate (4 * x.deep) 32 ++ (text_of (pieces x.row) ++ 10 ∷ rest)
line_split x rest =
    append_assoc (replicate (4 * x.deep) 32) (text_of (pieces x.row) ++ 10 ∷ []) rest
    ∙ ap (λ z. replicate (4 * x.deep) 32 ++ z) (append_assoc (text_of (pieces x.row)) (10 ∷ []) rest)

ends_flat : (p : Place) (x : PrintedLine) → IsPrintable x → p.nested ≡ 0 → (ends p x).nested ≡ 0
ends_flat p x h n =
    let r = row_runs x.row h.0.0 in
    nested_after 200 free 0 (pieces x.row) r.last 0 r.whole h.1 (begins p x) (spaces_nested (4 * x.deep) p ∙ n)

line_cut : {q : Place} {us : List Token} {end : List ℕ} (p : Place) (x : PrintedLine) (rest : List ℕ) → IsPrintable x → p.nested ≡ 0
    → Cuts (next p x) rest us q end → Cuts p (line_text x ++ rest) (line_tokens p x ++ end_token p x ∷ us) q end
line_cut {q} {us} {end} p x rest h n d =
    let r = row_runs x.row h.0.0 in
    subst (λ z. Cuts p z (line_tokens p x ++ end_token p x ∷ us) q end) (sym (line_split x rest))
    (spaces_cut (4 * x.deep) p (text_of (pieces x.row) ++ 10 ∷ rest)
    (cuts_on (pieces_cut 200 free 0 (pieces x.row) r.last 0 (10 ∷ rest) r.whole h.1 (end_goes r.last rest) (begins p x))
    (token_cut (ends p x) (10 ∷ []) rest LineEnd (end_front (ends p x).nested rest (ends_flat p x h n)) d)))

lines_cut : (p : Place) (xs : List PrintedLine) → AllByRecursion IsPrintable xs → p.nested ≡ 0 → Cuts p (lines_text xs) (all_tokens p xs) (all_after p xs) []
lines_cut p [] h n = lexer.here
lines_cut p (x ∷ xs) h n = line_cut p x (lines_text xs) h.0 n (lines_cut (next p x) xs h.1 (ends_flat p x h.0 n))

pub are_tokens : (xs : List PrintedLine) → AllByRecursion IsPrintable xs → AreTokens (lines_text xs) (all_tokens lexer.start xs)
are_tokens xs h = (all_after lexer.start xs, lines_cut lexer.start xs h refl)

-- ---- indentation

indented : (n : ℕ) (text : List ℕ) (c : ℕ) → (c == 32) ≡ false → (c == 9) ≡ false → indent_of (replicate n 32 ++ (c ∷ text)) ≡ Some n
indented zero text c e f =
    cond-false (c == 32) (option_map suc (indent_of text)) (if c == 9 then None else Some 0) e ∙ cond-false (c == 9) None (Some 0) f
indented (suc n) text c e f = ap (option_map suc) (indented n text c e f)

-- what a token begins with is no space and no tab
no_blank : (nested c : ℕ) (text : List ℕ) (x : TokenKind × ℕ) → front_of nested (c ∷ text) ≡ Some x → ((c == 32) ≡ false) × ((c == 9) ≡ false)
no_blank nested c text x e =
    let t = is_token nested (c ∷ text) x.0 x.1 e in
    or_parts (c == 32) (c == 9) (false_from_ne_true ((c == 32) || (c == 9)) (λ b.
    let one : blank_len nested (c ∷ text) ≡ 1 = cond-true ((c == 32) || (c == 9)) 1 _ b in
    let none = blank_no_token nested (c ∷ text) (omega arith) x.1 t.within in
    let some = t.kind in cc))

text_indented : (n nested : ℕ) (text : List ℕ) (x : TokenKind × ℕ) → front_of nested text ≡ Some x → indent_of (replicate n 32 ++ text) ≡ Some n
text_indented n nested [] x e = cc
text_indented n nested (c ∷ text) x e = let b = no_blank nested c text x e in indented n text c b.0 b.1

-- ---- lines

line_long : (ts : List Token) (e : Token) (more : List Token) → AllByRecursion (λ (t : Token). is_line_end t.kind ≡ false) ts → is_line_end e.kind ≡ true
    → line_len (ts ++ e ∷ more) ≡ length ts
line_long [] e more h k = cond-false (not (is_line_end e.kind)) (1 + line_len more) 0 (ap not k)
line_long (t ∷ ts) e more h k =
    let r = line_long ts e more h.1 k in
    cond-true (not (is_line_end t.kind)) (1 + line_len (ts ++ e ∷ more)) 0 (ap not h.0) ∙ omega arith

line_lays : {last : Spot} {lines : List LogicalLine} (text : List ℕ) (s : Spot) (t : Token) (ts : List Token) (e : Token) (more : List Token) (stack : List ℕ)
    → AllByRecursion (λ (t : Token). is_line_end t.kind ≡ false) (t ∷ ts) → is_line_end e.kind ≡ true → entered text s ≡ Some stack
    → Lays text (behind_end (behind_line s stack (length (t ∷ ts))) e) more lines last []
    → Lays text s ((t ∷ ts) ++ e ∷ more) (line_at s t stack (length (t ∷ ts)) ∷ lines) last []
line_lays {last} {lines} text s t ts e more stack h k i d =
    let long : line_len ((t ∷ ts) ++ e ∷ more) ≡ length (t ∷ ts) = line_long (t ∷ ts) e more h k in
    subst (λ n. Lays text s ((t ∷ ts) ++ e ∷ more) (line_at s t stack n ∷ lines) last []) long
    (layout.laid h.0 i
    (subst (λ n. Lays text (behind_line s stack n) (drop n ((t ∷ ts) ++ e ∷ more)) lines last []) (sym long)
    (subst (λ z. Lays text (behind_line s stack (length (t ∷ ts))) z lines last []) (sym (drop-append_seam (t ∷ ts) (e ∷ more)))
    (layout.skip k d))))

-- ---- what a line is

module _ (text : List ℕ) (tokens : List Token) (stay : with_line_ends text ≡ text) where
  -- a logical line of tokens that are the signs of a printed line
  record IsLineOf (x : PrintedLine) (g : LogicalLine) : Type 0 where
    spelled : c.Spelled text tokens g (line x.row)
    deep : g.depth ≡ x.deep
    supported : c.IsUnsupported text tokens g → ⊥
    within : IsOver text tokens g → ⊥

  row_counts : (deep : ℕ) (r : Row) → counted deep (line r) ≡ deep
  row_counts deep (simple x) = refl
  row_counts deep (header h) = refl

  not_over : (x : PrintedLine) (g : LogicalLine) → IsPrintable x → c.Spelled text tokens g (line x.row) → g.depth ≡ x.deep
      → is_crowded text 0 (tokens_of tokens g) ≡ false → has_wide text (tokens_of tokens g) ≡ false → IsOver text tokens g → ⊥
  not_over x g h s d crowded wide (c.brackets b) = let f = ap (λ z. is_crowded z 0 (tokens_of tokens g)) stay in cc
  not_over x g h s d crowded wide (c.number b) = let f = ap (λ z. has_wide z (tokens_of tokens g)) stay in cc
  not_over x g h s d crowded wide (c.expression {x = y} b deep) =
      let same = one_line (signs_of (with_line_ends text) (tokens_of tokens g)) y (line x.row) b s in
      let small = row_depth x.row h.0.0 in
      let e = ap line_depth same in absurd (omega arith)
  not_over x g h s d crowded wide (c.stands_deep b) = let small = h.0.1 in absurd (omega arith)
  not_over x g h s d crowded wide (c.counts_deep {x = y} b deep) =
      let same = one_line (signs_of (with_line_ends text) (tokens_of tokens g)) y (line x.row) b s in
      let e = ap (counted g.depth) same ∙ row_counts g.depth x.row in
      let small = h.0.1 in absurd (omega arith)

  line_is : (x : PrintedLine) (g : LogicalLine) (ts : List Token) → IsPrintable x → tokens_of tokens g ≡ ts → g.depth ≡ x.deep → AreTexts text ts (signs_in (pieces x.row)) → IsLineOf x g
  line_is x g ts h e d a =
      let r = row_runs x.row h.0.0 in
      let signs : signs_of (with_line_ends text) (tokens_of tokens g) ≡ signs_in (pieces x.row) =
      ap (λ z. signs_of z (tokens_of tokens g)) stay ∙ ap (signs_of text) e ∙ signs_are text ts (signs_in (pieces x.row)) a h.1 in
      let spelled : c.Spelled text tokens g (line x.row) = subst (λ z. SpellsLine z (line x.row)) (sym signs) (row_spelled x.row h.0.0) in
      record {
        spelled = spelled;
        deep = d;
        supported = λ b. let f = ap has_unsupported e ∙ all_supported text ts (signs_in (pieces x.row)) a in cc;
        within = not_over x g h spelled d (ap (is_crowded text 0) e ∙ not_crowded text free 0 (pieces x.row) r.last 0 ts r.whole (omega arith) a h.1)
            (ap (has_wide text) e ∙ all_narrow text ts (signs_in (pieces x.row)) a h.1);
      }

  -- the logical lines of printed lines
  pub record AreLaid (s : Spot) (ts : List Token) (xs : List PrintedLine) : Type 0 where
    pub lines : List LogicalLine
    pub last : Spot
    pub lays : Lays text s ts lines last []
    pub spelled : c.AreSpelled text tokens lines (map placed xs)
    pub supported : HoldsOfNone (c.IsUnsupported text tokens) lines
    pub within : HoldsOfNone (IsOver text tokens) lines

  first_laid : (s : Spot) (x : PrintedLine) (xs : List PrintedLine) (t : Token) (ts : List Token) (e : Token) (more : List Token) (stack : List ℕ)
      → AllByRecursion (λ (t : Token). is_line_end t.kind ≡ false) (t ∷ ts) → is_line_end e.kind ≡ true → entered text s ≡ Some stack
      → IsLineOf x (line_at s t stack (length (t ∷ ts)))
      → AreLaid (behind_end (behind_line s stack (length (t ∷ ts))) e) more xs → AreLaid s ((t ∷ ts) ++ e ∷ more) (x ∷ xs)
  first_laid s x xs t ts e more stack h k i g r = record {
    lines = line_at s t stack (length (t ∷ ts)) ∷ r.lines;
    last = r.last;
    lays = line_lays text s t ts e more stack h k i r.lays;
    spelled = subst (λ z. c.AreSpelled text tokens (line_at s t stack (length (t ∷ ts)) ∷ r.lines) (record { deep = z; line = line x.row } ∷ map placed xs)) g.deep (c.and g.spelled r.spelled);
    supported = (g.supported, r.supported);
    within = (g.within, r.within);
  }

  some_laid : (s : Spot) (x : PrintedLine) (xs : List PrintedLine) (ts : List Token) (e : Token) (more : List Token) → 0 < length ts
      → AllByRecursion (λ (t : Token). is_line_end t.kind ≡ false) ts → is_line_end e.kind ≡ true → entered text s ≡ Some (widths x.deep)
      → IsPrintable x → slice_range tokens s.index (s.index + length ts) ≡ ts → AreTexts text ts (signs_in (pieces x.row))
      → AreLaid (behind_end (behind_line s (widths x.deep) (length ts)) e) more xs → AreLaid s (ts ++ e ∷ more) (x ∷ xs)
  some_laid s x xs [] e more some h k i p q a r = absurd (omega arith)
  some_laid s x xs (t ∷ ts) e more some h k i p q a r =
      first_laid s x xs t ts e more (widths x.deep) h k i
      (line_is x (line_at s t (widths x.deep) (length (t ∷ ts))) (t ∷ ts) p q (let w = widths_length x.deep in omega arith) a) r

  -- where printed lines begin: in the text, among the tokens, and below so many widths
  record IsAt (p : Place) (s : Spot) (d : ℕ) (xs : List PrintedLine) : Type 0 where
    before : List ℕ
    front : List Token
    whole : text ≡ before ++ lines_text xs
    at : p.at ≡ length before
    flat : p.nested ≡ 0
    all : tokens ≡ front ++ all_tokens p xs
    index : s.index ≡ length front
    begin : s.begin ≡ p.at
    stack : s.stack ≡ widths d

  headed_some : (p : Place) (ps : List Piece) → is_headed ps ≡ true → 0 < length (tokens_at p ps)
  headed_some p [] h = cc
  headed_some p (space ∷ ps) h = cc
  headed_some p (sign s ∷ ps) h = omega arith

  entered_at : (p : Place) (s : Spot) (d : ℕ) (x : PrintedLine) (xs : List PrintedLine) → IsAt p s d (x ∷ xs) → IsPrintable x → x.deep ≤ d + 1
      → indent_of (replicate (4 * x.deep) 32 ++ (text_of (pieces x.row) ++ 10 ∷ lines_text xs)) ≡ Some (4 * x.deep) → entered text s ≡ Some (widths x.deep)
  entered_at p s d x xs i h l e =
      let here : drop s.begin text ≡ replicate (4 * x.deep) 32 ++ (text_of (pieces x.row) ++ 10 ∷ lines_text xs) =
      ap (λ z. drop z text) (i.begin ∙ i.at) ∙ ap (drop (length i.before)) i.whole ∙ drop-append_seam i.before (lines_text (x ∷ xs)) ∙ line_split x (lines_text xs) in
      ap (λ z. option_and_then (stack_after s.stack) (indent_of z)) here
      ∙ ap (option_and_then (stack_after s.stack)) e
      ∙ ap (λ z. stack_after z (4 * x.deep)) i.stack
      ∙ stack_is d x.deep l

  line_texts : (p : Place) (s : Spot) (d : ℕ) (x : PrintedLine) (xs : List PrintedLine) → IsAt p s d (x ∷ xs) → AreTexts text (line_tokens p x) (signs_in (pieces x.row))
  line_texts p s d x xs i =
      let indent = replicate (4 * x.deep) 32 in
      texts_of text (i.before ++ indent) (begins p x) (pieces x.row) (10 ∷ lines_text xs)
      (i.whole ∙ ap (λ z. i.before ++ z) (line_split x (lines_text xs)) ∙ sym (append_assoc i.before indent (text_of (pieces x.row) ++ 10 ∷ lines_text xs)))
      (spaces_at (4 * x.deep) p ∙ ap (λ n. n + 4 * x.deep) i.at ∙ ap (λ n. length i.before + n) (sym (length_replicate (4 * x.deep))) ∙ sym (length-append i.before indent))

  next_at : (p : Place) (s : Spot) (d : ℕ) (x : PrintedLine) (xs : List PrintedLine) → IsAt p s d (x ∷ xs) → IsPrintable x
      → IsAt (next p x) (behind_end (behind_line s (widths x.deep) (length (line_tokens p x))) (end_token p x)) x.deep xs
  next_at p s d x xs i h = record {
    before = i.before ++ line_text x;
    front = i.front ++ (line_tokens p x ++ end_token p x ∷ []);
    whole = i.whole ∙ sym (append_assoc i.before (line_text x) (lines_text xs));
    at =
        let a = at_after (begins p x) (pieces x.row) in
        let b = spaces_at (4 * x.deep) p in
        let r = length_replicate (4 * x.deep) in
        let u = length-append (replicate (4 * x.deep) 32) (text_of (pieces x.row) ++ 10 ∷ []) in
        let v = length-append (text_of (pieces x.row)) (10 ∷ []) in
        let w = length-append i.before (line_text x) in
        let z = i.at in omega arith;
    flat = ends_flat p x h i.flat;
    all = i.all
        ∙ ap (λ z. i.front ++ z) (sym (append_assoc (line_tokens p x) (end_token p x ∷ []) (all_tokens (next p x) xs)))
        ∙ sym (append_assoc i.front (line_tokens p x ++ end_token p x ∷ []) (all_tokens (next p x) xs));
    index =
        let u = length-append i.front (line_tokens p x ++ end_token p x ∷ []) in
        let v = length-append (line_tokens p x) (end_token p x ∷ []) in
        let z = i.index in omega arith;
    begin = refl;
    stack = refl;
  }

  laid_all : (xs : List PrintedLine) (p : Place) (s : Spot) (d : ℕ) → AllByRecursion IsPrintable xs → AreSteps d xs → IsAt p s d xs → AreLaid s (all_tokens p xs) xs
  laid_all [] p s d h k i = record { lines = []; last = s; lays = layout.here; spelled = c.none; supported = tt; within = tt }
  laid_all (x ∷ xs) p s d h k i =
      let ts = line_tokens p x in
      let texts = line_texts p s d x xs i in
      let r = row_runs x.row h.0.0.0 in
      let f = head_front 200 free 0 (pieces x.row) r.last 0 (10 ∷ lines_text xs) r.whole h.0.1 (row_headed x.row h.0.0.0) (end_goes r.last (lines_text xs)) 0 in
      some_laid s x xs ts (end_token p x) (all_tokens (next p x) xs) (headed_some (begins p x) (pieces x.row) (row_headed x.row h.0.0.0))
      (no_ends text ts (signs_in (pieces x.row)) texts) refl
      (entered_at p s d x xs i h.0 k.0 (text_indented (4 * x.deep) 0 (text_of (pieces x.row) ++ 10 ∷ lines_text xs) f.token f.front))
      h.0
      (ap (λ z. slice_range z s.index (s.index + length ts)) i.all ∙ slice_is i.front ts (end_token p x ∷ all_tokens (next p x) xs) s.index (length ts) i.index refl)
      texts
      (laid_all xs (next p x) (behind_end (behind_line s (widths x.deep) (length ts)) (end_token p x)) x.deep h.1 k.1 (next_at p s d x xs i h.0))

pub lines_laid : (xs : List PrintedLine) (stay : with_line_ends (lines_text xs) ≡ lines_text xs) → AllByRecursion IsPrintable xs → AreSteps 0 xs
    → AreLaid (lines_text xs) (all_tokens lexer.start xs) stay layout.start (all_tokens lexer.start xs) xs
lines_laid xs stay h k =
    laid_all (lines_text xs) (all_tokens lexer.start xs) stay xs lexer.start layout.start 0 h k
    (record { before = []; front = []; whole = refl; at = refl; flat = refl; all = refl; index = refl; begin = refl; stack = refl })
