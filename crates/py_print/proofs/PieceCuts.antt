-- The text of pieces is cut into the tokens of their signs.
use Rattle.std.proofs.Common.{◌≡◌, ℕ, zero, suc, ◌+◌, ◌-◌, ◌<◌, ◌≤◌, ◌^◌, pos, negsuc, List, [], ◌∷◌, ◌++◌, length, take, drop, slice_range, Bool, true, false, ◌&&◌, ◌||◌, not, nat_lt, if◌then◌else◌, Option, Some, None, refl, sym, ap, ◌∙◌, subst, arith, append_assoc, length-append}
use Rattle.std.specs.List.{AllByRecursion}
use Rattle.std.proofs.Math.Seq.{take-append_seam, drop-append_seam}
use Rattle.std.proofs.lemmas.Bool.{ltb-true, lt-ltb, le-ltb}
use Rattle.py_lexer.specs.declared.token.TokenKind.{TokenKind}
use Rattle.py_lexer.specs.declared.token.Token.{Token}
use Rattle.py_lexer.specs.Cut.{Place, Cuts, IsToken, IsFront, behind, behind_token, token_at, open_after}
use Rattle.py_lexer.specs.Cut as lexer
use Rattle.py_layout.specs.Layout.{is_line_end}
use Rattle.py_grammar.specs.declared.sign.Sign.{Sign}
use Rattle.py_grammar.specs.declared.sign.Sign.TheVariants.{Name, Number, Text, Mark as The, Other}
use Rattle.py_signs.specs.Signs.{sign_of, text_of_token, signs_of}
use Rattle.py_signs.specs.Limits.{is_unsupported, has_unsupported, is_crowded, is_over, is_wide, has_wide}
use Rattle.py_block.specs.Lexing.{front_of}
use Rattle.py_block.proofs.LexingLaws.{is_front}
use Rattle.py_print.specs.Pieces.{Piece, sign, space, signs_in, sign_text, text_of}
use Rattle.py_print.specs.Spelled.{IsWritten}
use Rattle.py_print.proofs.Classes.{Class, free, word, goes, class_of, kind_of_sign, mark_class, mark_kind}
use Rattle.py_print.proofs.NumberFronts.{decimal_reads}
use Rattle.py_print.proofs.Runs.{fits, Turn, up, down, level, turn_of, may_turn, turned, less, run}
use Rattle.py_print.proofs.Heads.{is_headed}
use Rattle.py_print.proofs.SignFronts.{below_wide, sign_is_cut, sign_goes, space_goes, sign_turns}

-- ---- tokens of pieces

abbrev pub tokens_at : Place → List Piece → List Token
tokens_at p [] = []
tokens_at p (space ∷ ps) = tokens_at (behind p (32 ∷ [])) ps
tokens_at p (sign s ∷ ps) = token_at p (kind_of_sign s) (length (sign_text s)) ∷ tokens_at (behind_token p (kind_of_sign s) (sign_text s)) ps

abbrev pub place_after : Place → List Piece → Place
place_after p [] = p
place_after p (space ∷ ps) = place_after (behind p (32 ∷ [])) ps
place_after p (sign s ∷ ps) = place_after (behind_token p (kind_of_sign s) (sign_text s)) ps

-- ---- a run, taken apart

pub record IsSignRun (most : ℕ) (k : Class) (n : ℕ) (s : Sign) (ps : List Piece) (e : Class) (j : ℕ) : Type 0 where
  pub fit : fits k s ≡ true
  pub turn : may_turn most n (turn_of s) ≡ true
  pub rest : run most (class_of s) (turned n (turn_of s)) ps ≡ Some (e, j)

pub sign_run_of : (most : ℕ) (k : Class) (n : ℕ) (s : Sign) (ps : List Piece) (e : Class) (j : ℕ) → run most k n (sign s ∷ ps) ≡ Some (e, j) → IsSignRun most k n s ps e j
sign_run_of most k n s ps e j h = by_test (fits k s) (may_turn most n (turn_of s)) refl refl h
  where
    by_test : (a b : Bool) → fits k s ≡ a → may_turn most n (turn_of s) ≡ b
        → (if a && b then run most (class_of s) (turned n (turn_of s)) ps else None) ≡ Some (e, j) → IsSignRun most k n s ps e j
    by_test true true x y h = record { fit = x; turn = y; rest = h }
    by_test true false x y h = cc
    by_test false b x y h = cc

abbrev class_in : Class → Option (Class × ℕ) → Class
class_in k None = k
class_in k (Some r) = r.0

abbrev count_in : ℕ → Option (Class × ℕ) → ℕ
count_in n None = n
count_in n (Some r) = r.1

-- ---- what may follow

goes_on : (most : ℕ) (k : Class) (n : ℕ) (ps : List Piece) (e : Class) (j : ℕ) (rest : List ℕ) → run most k n ps ≡ Some (e, j) → AllByRecursion IsWritten (signs_in ps)
    → goes e rest ≡ true → goes k (text_of ps ++ rest) ≡ true
goes_on most k n [] e j rest h w g = ap (λ z. goes z rest) (ap (class_in k) h) ∙ g
goes_on most k n (space ∷ ps) e j rest h w g = space_goes k (text_of ps ++ rest)
goes_on most k n (sign s ∷ ps) e j rest h w g =
    let r = sign_run_of most k n s ps e j h in
    ap (goes k) (append_assoc (sign_text s) (text_of ps) rest) ∙ sign_goes k s (text_of ps ++ rest) w.0 r.fit

-- ---- cutting

some_front : (nested : ℕ) (text : List ℕ) (x : TokenKind × ℕ) → front_of nested text ≡ Some x → 0 < length text
some_front nested [] x e = cc
some_front nested (c ∷ text) x e = omega arith

pub is_token : (nested : ℕ) (text : List ℕ) (k : TokenKind) (n : ℕ) → front_of nested text ≡ Some (k, n) → IsToken nested text k n
is_token nested text k n e = subst (IsFront nested text) e (is_front nested text (some_front nested text (k, n) e))

pub token_cut : {q : Place} {ts : List Token} {end : List ℕ} (p : Place) (w r : List ℕ) (k : TokenKind) → front_of p.nested (w ++ r) ≡ Some (k, length w)
    → Cuts (behind_token p k w) r ts q end → Cuts p (w ++ r) (token_at p k (length w) ∷ ts) q end
token_cut {q} {ts} {end} p w r k e c =
    lexer.token (is_token p.nested (w ++ r) k (length w) e)
    (subst (λ z. Cuts (behind_token p k z) (drop (length w) (w ++ r)) ts q end) (sym (take-append_seam w r))
    (subst (λ z. Cuts (behind_token p k w) z ts q end) (sym (drop-append_seam w r)) c))

pub space_cut : {q : Place} {ts : List Token} {end : List ℕ} (p : Place) (r : List ℕ) → Cuts (behind p (32 ∷ [])) r ts q end → Cuts p (32 ∷ r) ts q end
space_cut p r c = lexer.blank (omega arith) c

pub pieces_cut : (most : ℕ) (k : Class) (n : ℕ) (ps : List Piece) (e : Class) (j : ℕ) (rest : List ℕ) → run most k n ps ≡ Some (e, j) → AllByRecursion IsWritten (signs_in ps)
    → goes e rest ≡ true → (p : Place) → Cuts p (text_of ps ++ rest) (tokens_at p ps) (place_after p ps) rest
pieces_cut most k n [] e j rest h w g p = lexer.here
pieces_cut most k n (space ∷ ps) e j rest h w g p =
    space_cut p (text_of ps ++ rest) (pieces_cut most free n ps e j rest h w g (behind p (32 ∷ [])))
pieces_cut most k n (sign s ∷ ps) e j rest h w g p =
    let r = sign_run_of most k n s ps e j h in
    subst (λ z. Cuts p z (tokens_at p (sign s ∷ ps)) (place_after p (sign s ∷ ps)) rest) (sym (append_assoc (sign_text s) (text_of ps) rest))
    (token_cut p (sign_text s) (text_of ps ++ rest) (kind_of_sign s)
    ((sign_is_cut s w.0).front p.nested (text_of ps ++ rest) (goes_on most (class_of s) (turned n (turn_of s)) ps e j rest r.rest w.1 g))
    (pieces_cut most (class_of s) (turned n (turn_of s)) ps e j rest r.rest w.1 g (behind_token p (kind_of_sign s) (sign_text s))))

pub nested_after : (most : ℕ) (k : Class) (n : ℕ) (ps : List Piece) (e : Class) (j : ℕ) → run most k n ps ≡ Some (e, j) → AllByRecursion IsWritten (signs_in ps)
    → (p : Place) → p.nested ≡ n → (place_after p ps).nested ≡ j
nested_after most k n [] e j h w p b = b ∙ ap (count_in n) h
nested_after most k n (space ∷ ps) e j h w p b = nested_after most free n ps e j h w (behind p (32 ∷ [])) b
nested_after most k n (sign s ∷ ps) e j h w p b =
    let r = sign_run_of most k n s ps e j h in
    nested_after most (class_of s) (turned n (turn_of s)) ps e j r.rest w.1 (behind_token p (kind_of_sign s) (sign_text s))
    (ap (λ z. open_after z (kind_of_sign s) (sign_text s)) b ∙ sign_turns s n w.0)

-- where the text of pieces ends
pub at_after : (p : Place) (ps : List Piece) → (place_after p ps).at ≡ p.at + length (text_of ps)
at_after p [] = omega arith
at_after p (space ∷ ps) = let r = at_after (behind p (32 ∷ [])) ps in omega arith
at_after p (sign s ∷ ps) =
    let r = at_after (behind_token p (kind_of_sign s) (sign_text s)) ps in
    let l = length-append (sign_text s) (text_of ps) in omega arith

-- ---- the texts of tokens

pub slice_is : {X : Type 0} (before w r : List X) (at n : ℕ) → at ≡ length before → n ≡ length w → slice_range (before ++ (w ++ r)) at (at + n) ≡ w
slice_is before w r at n a b =
    let e : at + n - at ≡ length w = omega arith in
    ap (λ z. take z (drop at (before ++ (w ++ r)))) e
    ∙ ap (λ z. take (length w) (drop z (before ++ (w ++ r)))) a
    ∙ ap (take (length w)) (drop-append_seam before (w ++ r))
    ∙ take-append_seam w r

-- tokens have the texts and the kinds of signs
abbrev pub AreTexts : List ℕ → List Token → List Sign → Type 0
AreTexts text [] [] = Unit {0}
AreTexts text [] (s ∷ ss) = ⊥
AreTexts text (t ∷ ts) [] = ⊥
AreTexts text (t ∷ ts) (s ∷ ss) = (text_of_token text t ≡ sign_text s) × (t.kind ≡ kind_of_sign s) × AreTexts text ts ss

pub texts_of : (whole before : List ℕ) (p : Place) (ps : List Piece) (rest : List ℕ) → whole ≡ before ++ (text_of ps ++ rest) → p.at ≡ length before
    → AreTexts whole (tokens_at p ps) (signs_in ps)
texts_of whole before p [] rest e a = tt
texts_of whole before p (space ∷ ps) rest e a =
    texts_of whole (before ++ 32 ∷ []) (behind p (32 ∷ [])) ps rest
    (e ∙ sym (append_assoc before (32 ∷ []) (text_of ps ++ rest)))
    (let l = length-append before (32 ∷ []) in omega arith)
texts_of whole before p (sign s ∷ ps) rest e a =
    let w = sign_text s in
    let split : whole ≡ before ++ (w ++ (text_of ps ++ rest)) = e ∙ ap (λ z. before ++ z) (append_assoc w (text_of ps) rest) in (
      ap (λ z. slice_range z p.at (p.at + length w)) split ∙ slice_is before w (text_of ps ++ rest) p.at (length w) a refl,
      refl,
      texts_of whole (before ++ w) (behind_token p (kind_of_sign s) w) ps rest
          (split ∙ sym (append_assoc before w (text_of ps ++ rest)))
          (let l = length-append before w in omega arith),
    )

pub signs_are : (text : List ℕ) (ts : List Token) (ss : List Sign) → AreTexts text ts ss → AllByRecursion IsWritten ss → signs_of text ts ≡ ss
signs_are text [] [] h w = refl
signs_are text [] (s ∷ ss) h w = absurd h
signs_are text (t ∷ ts) [] h w = absurd h
signs_are text (t ∷ ts) (s ∷ ss) h w =
    ap (λ z. sign_of z (text_of_token text t) ∷ signs_of text ts) h.1
    ∙ ap (λ z. sign_of (kind_of_sign s) z ∷ signs_of text ts) h.0
    ∙ ap (λ z. z ∷ signs_of text ts) (sign_is_cut s w.0).sign
    ∙ ap (λ z. s ∷ z) (signs_are text ts ss h.2 w.1)

mark_supported : (c : Class) → is_unsupported (mark_kind c) ≡ false
mark_supported word = refl
mark_supported _ = refl

supported : (s : Sign) → is_unsupported (kind_of_sign s) ≡ false
supported (Name x) = refl
supported (Number n) = refl
supported (Text x) = refl
supported (The k) = mark_supported (mark_class k)
supported Other = refl

pub all_supported : (text : List ℕ) (ts : List Token) (ss : List Sign) → AreTexts text ts ss → has_unsupported ts ≡ false
all_supported text [] [] h = refl
all_supported text [] (s ∷ ss) h = absurd h
all_supported text (t ∷ ts) [] h = absurd h
all_supported text (t ∷ ts) (s ∷ ss) h =
    ap (λ z. z || has_unsupported ts) (ap is_unsupported h.1 ∙ supported s) ∙ all_supported text ts ss h.2

mark_no_end : (c : Class) → is_line_end (mark_kind c) ≡ false
mark_no_end word = refl
mark_no_end _ = refl

no_end : (s : Sign) → is_line_end (kind_of_sign s) ≡ false
no_end (Name x) = refl
no_end (Number n) = refl
no_end (Text x) = refl
no_end (The k) = mark_no_end (mark_class k)
no_end Other = refl

pub no_ends : (text : List ℕ) (ts : List Token) (ss : List Sign) → AreTexts text ts ss → AllByRecursion (λ (t : Token). is_line_end t.kind ≡ false) ts
no_ends text [] [] h = tt
no_ends text [] (s ∷ ss) h = absurd h
no_ends text (t ∷ ts) [] h = absurd h
no_ends text (t ∷ ts) (s ∷ ss) h = (ap is_line_end h.1 ∙ no_end s, no_ends text ts ss h.2)

-- ---- limits

mark_narrow : (c : Class) (text : List ℕ) → is_wide (mark_kind c) text ≡ false
mark_narrow word text = refl
mark_narrow _ text = refl

narrow : (s : Sign) → IsWritten s → is_wide (kind_of_sign s) (sign_text s) ≡ false
narrow (Name x) h = refl
narrow (Number (pos n)) h = ap is_over (decimal_reads n (below_wide n h)) ∙ ap not (lt-ltb n (2 ^ 127) h)
narrow (Number (negsuc n)) h = absurd h
narrow (Text x) h = refl
narrow (The k) h = mark_narrow (mark_class k) (sign_text (The k))
narrow Other h = absurd h

pub all_narrow : (text : List ℕ) (ts : List Token) (ss : List Sign) → AreTexts text ts ss → AllByRecursion IsWritten ss → has_wide text ts ≡ false
all_narrow text [] [] h w = refl
all_narrow text [] (s ∷ ss) h w = absurd h
all_narrow text (t ∷ ts) [] h w = absurd h
all_narrow text (t ∷ ts) (s ∷ ss) h w =
    ap (λ z. is_wide z (text_of_token text t) || has_wide text ts) h.1
    ∙ ap (λ z. is_wide (kind_of_sign s) z || has_wide text ts) h.0
    ∙ ap (λ z. z || has_wide text ts) (narrow s w.0)
    ∙ all_narrow text ts ss h.2 w.1

less_small : (n : ℕ) → less n ≤ n
less_small zero = omega arith
less_small (suc n) = omega arith

turned_small : (most n : ℕ) (t : Turn) → n ≤ most → may_turn most n t ≡ true → turned n t ≤ most
turned_small most n up l h = ltb-true n most h
turned_small most n down l h = let s = less_small n in omega arith
turned_small most n level l h = l

pub not_crowded : (text : List ℕ) (k : Class) (n : ℕ) (ps : List Piece) (e : Class) (j : ℕ) (ts : List Token) → run 200 k n ps ≡ Some (e, j) → n ≤ 200
    → AreTexts text ts (signs_in ps) → AllByRecursion IsWritten (signs_in ps) → is_crowded text n ts ≡ false
not_crowded text k n [] e j [] h l a w = refl
not_crowded text k n [] e j (t ∷ ts) h l a w = absurd a
not_crowded text k n (space ∷ ps) e j ts h l a w = not_crowded text free n ps e j ts h l a w
not_crowded text k n (sign s ∷ ps) e j [] h l a w = absurd a
not_crowded text k n (sign s ∷ ps) e j (t ∷ ts) h l a w =
    let r = sign_run_of 200 k n s ps e j h in
    let small = turned_small 200 n (turn_of s) l r.turn in
    let opened : open_after n t.kind (text_of_token text t) ≡ turned n (turn_of s) =
    ap (λ z. open_after n z (text_of_token text t)) a.1 ∙ ap (open_after n (kind_of_sign s)) a.0 ∙ sign_turns s n w.0 in
    ap (λ z. nat_lt 200 z || is_crowded text z ts) opened
    ∙ ap (λ z. z || is_crowded text (turned n (turn_of s)) ts) (le-ltb 200 (turned n (turn_of s)) small)
    ∙ not_crowded text (class_of s) (turned n (turn_of s)) ps e j ts r.rest small a.2 w.1

-- ---- the first token

pub record HasFront (nested : ℕ) (text : List ℕ) : Type 0 where
  pub token : TokenKind × ℕ
  pub front : front_of nested text ≡ Some token

pub head_front : (most : ℕ) (k : Class) (n : ℕ) (ps : List Piece) (e : Class) (j : ℕ) (rest : List ℕ) → run most k n ps ≡ Some (e, j) → AllByRecursion IsWritten (signs_in ps)
    → is_headed ps ≡ true → goes e rest ≡ true → (nested : ℕ) → HasFront nested (text_of ps ++ rest)
head_front most k n [] e j rest h w f g nested = cc
head_front most k n (space ∷ ps) e j rest h w f g nested = cc
head_front most k n (sign s ∷ ps) e j rest h w f g nested =
    let r = sign_run_of most k n s ps e j h in
    subst (HasFront nested) (sym (append_assoc (sign_text s) (text_of ps) rest))
    (record {
      token = (kind_of_sign s, length (sign_text s));
      front = (sign_is_cut s w.0).front nested (text_of ps ++ rest) (goes_on most (class_of s) (turned n (turn_of s)) ps e j rest r.rest w.1 g);
    })
