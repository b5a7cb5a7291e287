-- A keyword, an operator or a delimiter is cut where it ends, and its sign is the mark.
use Rattle.std.proofs.Common.{◌≡◌, ℕ, List, [], ◌∷◌, ◌++◌, length, Bool, true, false, ◌==◌, ◌&&◌, ◌||◌, not, Some, None, refl, sym, ap, ◌∙◌, subst, ◌⊎◌, ⊎_elim}
use Rattle.std.specs.List.{list_all}
use Rattle.std.specs.Prelude.{codes, option_map, if◌then◌else◌}
use Rattle.std.proofs.lemmas.Bool.{and_parts, or_cases, cond-false, eqb-true}
use Rattle.py_scalars.specs.NumberForm.{is_digit, begins_with_digit}
use Rattle.py_lexer.specs.declared.token.TokenKind.{TokenKind}
use Rattle.py_lexer.specs.declared.token.TokenKind.TheVariants.{Word, LineEnd, Op, Unsupported}
use Rattle.py_lexer.specs.Form.{is_name_start, is_quote, is_unsupported_word, sign_kind}
use Rattle.py_lexer.specs.Scan.{real_len, or_else, sign_front, other_front, word_front, number_front, literal_front}
use Rattle.py_grammar.specs.declared.mark.Mark.{Mark}
use Rattle.py_grammar.specs.declared.mark.Mark.TheVariants as m
use Rattle.py_grammar.specs.declared.sign.Sign.{Sign}
use Rattle.py_grammar.specs.declared.sign.Sign.TheVariants.{Mark as The, Other}
use Rattle.py_signs.specs.Signs.{keyword_of, operator_of, name_sign, sign_of}
use Rattle.py_signs.specs.Signs as signs
use Rattle.py_block.specs.Lexing.{front_of}
use Rattle.unicode_normalization.specs.Forms.{nfkc}
use Rattle.py_print.specs.Pieces.{mark_text}
use Rattle.py_print.proofs.Classes.{Class, free, unary, point, word, gap, may, goes, mark_class, mark_kind}
use Rattle.py_print.proofs.WordFronts.{is_low, is_low_start, is_low_other, no_start, low_is_cut, not_false}

-- a text is cut as a token of a kind where a text of a class follows, and its sign is this one
pub record IsCut (k : TokenKind) (w : List ℕ) (c : Class) (s : Sign) : Type 0 where
  pub front : (nested : ℕ) (rest : List ℕ) → goes c rest ≡ true → front_of nested (w ++ rest) ≡ Some (k, length w)
  pub sign : sign_of k w ≡ s

-- ---- keywords

abbrev is_low_word : List ℕ → Bool
is_low_word [] = false
is_low_word (c ∷ w) = is_low_start c && list_all is_low (c ∷ w)

keyword_front : (nested : ℕ) (w rest : List ℕ) → is_low_word w ≡ true → is_unsupported_word w ≡ false → goes word rest ≡ true
    → front_of nested (w ++ rest) ≡ Some (Word, length w)
keyword_front nested [] rest h u g = cc
keyword_front nested (c ∷ w) rest h u g =
    let both = and_parts (is_low_start c) (list_all is_low (c ∷ w)) h in
    low_is_cut nested c w rest both.0 both.1 u g

keyword : (k : Mark) (w : List ℕ) → is_low_word w ≡ true → is_unsupported_word w ≡ false → keyword_of w ≡ Some k → IsCut Word w word (The k)
keyword k w h u e = record {
  front = λ nested rest g. keyword_front nested w rest h u g;
  sign = ap (λ z. signs.or_else z (name_sign (nfkc w))) e;
}

-- ---- operators

-- what begins an operator, `.` left out
abbrev is_sign_start : ℕ → Bool
is_sign_start c = is_low_other c && (not (is_digit 10 c) && (not (is_quote c) && (not (c == 10) && not (c == 46))))

pub other_of : (nested c : ℕ) (text : List ℕ) → is_name_start c ≡ false → is_digit 10 c ≡ false → is_quote c ≡ false → front_of nested (c ∷ text) ≡ other_front nested (c ∷ text)
other_of nested c text s d q =
    cond-false (is_name_start c) (Some (word_front (c ∷ text)))
    (if is_digit 10 c then number_front (c ∷ text) else (if is_quote c then literal_front (c ∷ text) else other_front nested (c ∷ text))) s
    ∙ cond-false (is_digit 10 c) (number_front (c ∷ text)) (if is_quote c then literal_front (c ∷ text) else other_front nested (c ∷ text)) d
    ∙ cond-false (is_quote c) (literal_front (c ∷ text)) (other_front nested (c ∷ text)) q

sign_of_start : (nested c : ℕ) (text : List ℕ) → is_sign_start c ≡ true → front_of nested (c ∷ text) ≡ sign_front (c ∷ text)
sign_of_start nested c text h =
    let a = and_parts (is_low_other c) (not (is_digit 10 c) && (not (is_quote c) && (not (c == 10) && not (c == 46)))) h in
    let b = and_parts (not (is_digit 10 c)) (not (is_quote c) && (not (c == 10) && not (c == 46))) a.1 in
    let d = and_parts (not (is_quote c)) (not (c == 10) && not (c == 46)) b.1 in
    let e = and_parts (not (c == 10)) (not (c == 46)) d.1 in
    other_of nested c text (no_start c a.0) (not_false (is_digit 10 c) b.0) (not_false (is_quote c) d.0)
    ∙ cond-false (c == 10) (if nested == 0 then Some (LineEnd, 1) else None)
    (if (c == 46) && begins_with_digit 10 text then Some (Unsupported, real_len (c ∷ text)) else sign_front (c ∷ text)) (not_false (c == 10) e.0)
    ∙ ap (λ z. if z && begins_with_digit 10 text then Some (Unsupported, real_len (c ∷ text)) else sign_front (c ∷ text)) (not_false (c == 46) e.1)

one_front : (a b : ℕ) (r : List ℕ) → sign_kind (a ∷ []) ≡ Some Op → sign_kind (a ∷ b ∷ []) ≡ None → ((d : ℕ) → sign_kind (a ∷ b ∷ d ∷ []) ≡ None)
    → sign_front (a ∷ b ∷ r) ≡ Some (Op, 1)
one_front a b [] e f g = ap (λ z. or_else (option_map (λ k. (k, 2)) z) (option_map (λ k. (k, 1)) (sign_kind (a ∷ [])))) f ∙ ap (option_map (λ k. (k, 1))) e
one_front a b (d ∷ r) e f g =
    ap (λ z. or_else (option_map (λ k. (k, 3)) z) (or_else (option_map (λ k. (k, 2)) (sign_kind (a ∷ b ∷ []))) (option_map (λ k. (k, 1)) (sign_kind (a ∷ []))))) (g d)
    ∙ ap (λ z. or_else (option_map (λ k. (k, 2)) z) (option_map (λ k. (k, 1)) (sign_kind (a ∷ [])))) f
    ∙ ap (option_map (λ k. (k, 1))) e

one_is_cut : (c : Class) (nested a : ℕ) (rest : List ℕ) → is_sign_start a ≡ true → sign_kind (a ∷ []) ≡ Some Op
    → ((b : ℕ) → may c b ≡ true → sign_kind (a ∷ b ∷ []) ≡ None) → ((b d : ℕ) → may c b ≡ true → sign_kind (a ∷ b ∷ d ∷ []) ≡ None)
    → goes c rest ≡ true → front_of nested (a ∷ rest) ≡ Some (Op, 1)
one_is_cut c nested a [] s e f h g = cc
one_is_cut c nested a (b ∷ r) s e f h g = sign_of_start nested a (b ∷ r) s ∙ one_front a b r e (f b g) (λ d. h b d g)

two_is_cut : (c : Class) (nested a b : ℕ) (rest : List ℕ) → is_sign_start a ≡ true → sign_kind (a ∷ b ∷ []) ≡ Some Op
    → ((d : ℕ) → may c d ≡ true → sign_kind (a ∷ b ∷ d ∷ []) ≡ None) → goes c rest ≡ true → front_of nested (a ∷ b ∷ rest) ≡ Some (Op, 2)
two_is_cut c nested a b [] s e f g = cc
two_is_cut c nested a b (d ∷ r) s e f g =
    sign_of_start nested a (b ∷ d ∷ r) s
    ∙ ap (λ z. or_else (option_map (λ k. (k, 3)) z) (or_else (option_map (λ k. (k, 2)) (sign_kind (a ∷ b ∷ []))) (option_map (λ k. (k, 1)) (sign_kind (a ∷ []))))) (f d g)
    ∙ ap (λ z. or_else (option_map (λ k. (k, 2)) z) (option_map (λ k. (k, 1)) (sign_kind (a ∷ [])))) e

three_is_cut : (nested a b d : ℕ) (rest : List ℕ) → is_sign_start a ≡ true → sign_kind (a ∷ b ∷ d ∷ []) ≡ Some Op → front_of nested (a ∷ b ∷ d ∷ rest) ≡ Some (Op, 3)
three_is_cut nested a b d rest s e =
    sign_of_start nested a (b ∷ d ∷ rest) s
    ∙ ap (λ z. or_else (option_map (λ k. (k, 3)) z) (or_else (option_map (λ k. (k, 2)) (sign_kind (a ∷ b ∷ []))) (option_map (λ k. (k, 1)) (sign_kind (a ∷ []))))) e

operator : {w : List ℕ} {c : Class} (k : Mark) → ((nested : ℕ) (rest : List ℕ) → goes c rest ≡ true → front_of nested (w ++ rest) ≡ Some (Op, length w)) → operator_of w ≡ Some k
    → IsCut Op w c (The k)
operator k f e = record { front = f; sign = ap (λ z. signs.or_else z Other) e }

-- behind a gap stands a space or a line end
at_gap : (P : ℕ → Type 0) → P 32 → P 10 → (b : ℕ) → may gap b ≡ true → P b
at_gap P x y b h =
    ⊎_elim (λ e. subst P (sym (eqb-true b 32 e)) x) (λ e. subst P (sym (eqb-true b 10 e)) y) (or_cases (b == 32) (b == 10) h)

-- one code point behind which anything may stand
one_free : (k : Mark) (a : ℕ) → is_sign_start a ≡ true → sign_kind (a ∷ []) ≡ Some Op → ((b : ℕ) → sign_kind (a ∷ b ∷ []) ≡ None)
    → ((b d : ℕ) → sign_kind (a ∷ b ∷ d ∷ []) ≡ None) → operator_of (a ∷ []) ≡ Some k → IsCut Op (a ∷ []) free (The k)
one_free k a s e f h o = operator k (λ nested rest g. one_is_cut free nested a rest s e (λ b g. f b) (λ b d g. h b d) g) o

one_gap : (k : Mark) (a : ℕ) → is_sign_start a ≡ true → sign_kind (a ∷ []) ≡ Some Op → sign_kind (a ∷ 32 ∷ []) ≡ None → sign_kind (a ∷ 10 ∷ []) ≡ None
    → ((d : ℕ) → sign_kind (a ∷ 32 ∷ d ∷ []) ≡ None) → ((d : ℕ) → sign_kind (a ∷ 10 ∷ d ∷ []) ≡ None) → operator_of (a ∷ []) ≡ Some k → IsCut Op (a ∷ []) gap (The k)
one_gap k a s e f h i j o =
    operator k
    (λ nested rest g. one_is_cut gap nested a rest s e (at_gap (λ b. sign_kind (a ∷ b ∷ []) ≡ None) f h)
    (λ b d l. at_gap (λ b. sign_kind (a ∷ b ∷ d ∷ []) ≡ None) (i d) (j d) b l) g) o

two_gap : (k : Mark) (a b : ℕ) → is_sign_start a ≡ true → sign_kind (a ∷ b ∷ []) ≡ Some Op → sign_kind (a ∷ b ∷ 32 ∷ []) ≡ None → sign_kind (a ∷ b ∷ 10 ∷ []) ≡ None
    → operator_of (a ∷ b ∷ []) ≡ Some k → IsCut Op (a ∷ b ∷ []) gap (The k)
two_gap k a b s e f h o =
    operator k (λ nested rest g. two_is_cut gap nested a b rest s e (at_gap (λ d. sign_kind (a ∷ b ∷ d ∷ []) ≡ None) f h) g) o

three_gap : (k : Mark) (a b d : ℕ) → is_sign_start a ≡ true → sign_kind (a ∷ b ∷ d ∷ []) ≡ Some Op → operator_of (a ∷ b ∷ d ∷ []) ≡ Some k
    → IsCut Op (a ∷ b ∷ d ∷ []) gap (The k)
three_gap k a b d s e o = operator k (λ nested rest g. three_is_cut nested a b d rest s e) o

unary_parts : (b : ℕ) → may unary b ≡ true → ((b == 61) ≡ false) × ((b == 62) ≡ false)
unary_parts b h =
    let both = and_parts (not (b == 61)) (not (b == 62)) h in
    (not_false (b == 61) both.0, not_false (b == 62) both.1)

-- an operator that makes another with `=` or `>` behind it
one_unary : (k : Mark) (a : ℕ) → is_sign_start a ≡ true → sign_kind (a ∷ []) ≡ Some Op → ((b : ℕ) → (b == 61) ≡ false → (b == 62) ≡ false → sign_kind (a ∷ b ∷ []) ≡ None)
    → ((b d : ℕ) → sign_kind (a ∷ b ∷ d ∷ []) ≡ None) → operator_of (a ∷ []) ≡ Some k → IsCut Op (a ∷ []) unary (The k)
one_unary k a s e f h o =
    operator k (λ nested rest g. one_is_cut unary nested a rest s e (λ b l. let u = unary_parts b l in f b u.0 u.1) (λ b d l. h b d) g) o

if_two : (x : Bool) → x ≡ false → (if x || false then Some Op else None) ≡ None
if_two x e = ap (λ z. if z || false then Some Op else None) e

minus_two : (x y : Bool) → x ≡ false → y ≡ false → (if x || false then Some Op else (if y then Some Unsupported else None)) ≡ None
minus_two x y e f = ap (λ z. if z || false then Some Op else (if y then Some Unsupported else None)) e ∙ ap (λ z. if z then Some Unsupported else None) f

colon_two : (x : Bool) → x ≡ false → (if x || false || false then Some Unsupported else None) ≡ None
colon_two x e = ap (λ z. if z || false || false then Some Unsupported else None) e

point_three : (x y : Bool) → x ≡ false → (if x && y then Some Unsupported else None) ≡ None
point_three x y e = ap (λ z. if z && y then Some Unsupported else None) e

point_front : (nested : ℕ) (rest : List ℕ) → goes point rest ≡ true → front_of nested (46 ∷ rest) ≡ Some (Op, 1)
point_front nested [] g = cc
point_front nested (b ∷ r) g =
    let both = and_parts (not (is_digit 10 b)) (not (b == 46)) g in
    other_of nested 46 (b ∷ r) (no_start 46 refl) refl refl
    ∙ ap (λ z. if z then Some (Unsupported, real_len (46 ∷ b ∷ r)) else sign_front (46 ∷ b ∷ r)) (not_false (is_digit 10 b) both.0)
    ∙ one_front 46 b r refl refl (λ d. point_three (b == 46) (d == 46) (not_false (b == 46) both.1))

-- ---- each mark

pub mark_is_cut : (k : Mark) → IsCut (mark_kind (mark_class k)) (mark_text k) (mark_class k) (The k)
unfolding keyword_of operator_of
mark_is_cut m.False = keyword m.False (codes "False") refl refl refl
mark_is_cut m.None = keyword m.None (codes "None") refl refl refl
mark_is_cut m.True = keyword m.True (codes "True") refl refl refl
mark_is_cut m.And = keyword m.And (codes "and") refl refl refl
mark_is_cut m.As = keyword m.As (codes "as") refl refl refl
mark_is_cut m.Assert = keyword m.Assert (codes "assert") refl refl refl
mark_is_cut m.Break = keyword m.Break (codes "break") refl refl refl
mark_is_cut m.Class = keyword m.Class (codes "class") refl refl refl
mark_is_cut m.Continue = keyword m.Continue (codes "continue") refl refl refl
mark_is_cut m.Def = keyword m.Def (codes "def") refl refl refl
mark_is_cut m.Del = keyword m.Del (codes "del") refl refl refl
mark_is_cut m.Elif = keyword m.Elif (codes "elif") refl refl refl
mark_is_cut m.Else = keyword m.Else (codes "else") refl refl refl
mark_is_cut m.Except = keyword m.Except (codes "except") refl refl refl
mark_is_cut m.Finally = keyword m.Finally (codes "finally") refl refl refl
mark_is_cut m.For = keyword m.For (codes "for") refl refl refl
mark_is_cut m.Global = keyword m.Global (codes "global") refl refl refl
mark_is_cut m.If = keyword m.If (codes "if") refl refl refl
mark_is_cut m.In = keyword m.In (codes "in") refl refl refl
mark_is_cut m.Is = keyword m.Is (codes "is") refl refl refl
mark_is_cut m.Lambda = keyword m.Lambda (codes "lambda") refl refl refl
mark_is_cut m.Nonlocal = keyword m.Nonlocal (codes "nonlocal") refl refl refl
mark_is_cut m.Not = keyword m.Not (codes "not") refl refl refl
mark_is_cut m.Or = keyword m.Or (codes "or") refl refl refl
mark_is_cut m.Pass = keyword m.Pass (codes "pass") refl refl refl
mark_is_cut m.Raise = keyword m.Raise (codes "raise") refl refl refl
mark_is_cut m.Return = keyword m.Return (codes "return") refl refl refl
mark_is_cut m.Try = keyword m.Try (codes "try") refl refl refl
mark_is_cut m.While = keyword m.While (codes "while") refl refl refl
mark_is_cut m.Plus = one_unary m.Plus 43 refl refl (λ b e f. if_two (b == 61) e) (λ b d. refl) refl
mark_is_cut m.Minus = one_unary m.Minus 45 refl refl (λ b e f. minus_two (b == 61) (b == 62) e f) (λ b d. refl) refl
mark_is_cut m.Star = one_gap m.Star 42 refl refl refl refl (λ d. refl) (λ d. refl) refl
mark_is_cut m.Slashes = two_gap m.Slashes 47 47 refl refl refl refl refl
mark_is_cut m.Percent = one_gap m.Percent 37 refl refl refl refl (λ d. refl) (λ d. refl) refl
mark_is_cut m.Stars = two_gap m.Stars 42 42 refl refl refl refl refl
mark_is_cut m.Less = one_gap m.Less 60 refl refl refl refl (λ d. refl) (λ d. refl) refl
mark_is_cut m.Greater = one_gap m.Greater 62 refl refl refl refl (λ d. refl) (λ d. refl) refl
mark_is_cut m.AtMost = two_gap m.AtMost 60 61 refl refl refl refl refl
mark_is_cut m.AtLeast = two_gap m.AtLeast 62 61 refl refl refl refl refl
mark_is_cut m.Same = two_gap m.Same 61 61 refl refl refl refl refl
mark_is_cut m.Differs = two_gap m.Differs 33 61 refl refl refl refl refl
mark_is_cut m.Open = one_free m.Open 40 refl refl (λ b. refl) (λ b d. refl) refl
mark_is_cut m.Close = one_free m.Close 41 refl refl (λ b. refl) (λ b d. refl) refl
mark_is_cut m.OpenSquare = one_free m.OpenSquare 91 refl refl (λ b. refl) (λ b d. refl) refl
mark_is_cut m.CloseSquare = one_free m.CloseSquare 93 refl refl (λ b. refl) (λ b d. refl) refl
mark_is_cut m.OpenCurly = one_free m.OpenCurly 123 refl refl (λ b. refl) (λ b d. refl) refl
mark_is_cut m.CloseCurly = one_free m.CloseCurly 125 refl refl (λ b. refl) (λ b d. refl) refl
mark_is_cut m.Comma = one_free m.Comma 44 refl refl (λ b. refl) (λ b d. refl) refl
mark_is_cut m.Colon = one_unary m.Colon 58 refl refl (λ b e f. colon_two (b == 61) e) (λ b d. refl) refl
mark_is_cut m.Semicolon = one_free m.Semicolon 59 refl refl (λ b. refl) (λ b d. refl) refl
mark_is_cut m.Dot = operator m.Dot (λ nested rest g. point_front nested rest g) refl
mark_is_cut m.Equals = one_unary m.Equals 61 refl refl (λ b e f. if_two (b == 61) e) (λ b d. refl) refl
mark_is_cut m.PlusEquals = two_gap m.PlusEquals 43 61 refl refl refl refl refl
mark_is_cut m.MinusEquals = two_gap m.MinusEquals 45 61 refl refl refl refl refl
mark_is_cut m.StarEquals = two_gap m.StarEquals 42 61 refl refl refl refl refl
mark_is_cut m.SlashesEquals = three_gap m.SlashesEquals 47 47 61 refl refl refl
mark_is_cut m.PercentEquals = two_gap m.PercentEquals 37 61 refl refl refl refl refl
mark_is_cut m.StarsEquals = three_gap m.StarsEquals 42 42 61 refl refl refl
