-- A text is cut in one way.
use Rattle.std.proofs.Common.{◌≡◌, ℕ, zero, suc, ◌+◌, ◌<◌, ◌≤◌, List, [], ◌∷◌, ◌++◌, length, take, drop, false, cond, ◌&&◌, ◌||◌, ◌==◌, nat_lt, None, Result, Ok, Err, ap, sym, ◌∙◌, refl, subst, inl, inr, append_assoc, arith, lit<}
use Rattle.std.specs.List.{prefix_len}
use Rattle.std.proofs.lemmas.Bool.{or_cases, or_from, and_parts, eqb-true, ne_eqb, ltb-true}
use Rattle.std.proofs.lemmas.List.{append-nil, drop-drop, drop_all, length-take-le, length-drop}
use Rattle.unicode_ident.specs.Ident.{is_xid_start}
use Rattle.unicode_ident.proofs.IdentLemmas.{is_xid_start-ascii}
use Rattle.py_lexer.specs.declared.token.TokenKind.{TokenKind}
use Rattle.py_lexer.specs.declared.token.Token.{Token}
use Rattle.py_lexer.specs.declared.fault.LexFault.{LexFault}
use Rattle.py_lexer.specs.declared.fault.LexFault.TheVariants.{At, NoMemory}
use Rattle.py_lexer.specs.Form.{is_name_start, token_kind}
use Rattle.py_lexer.specs.Cut.{IsToken, HasNoToken, is_inside_line, begins_with_end, blank_len, Place, start, ends_in, behind, open_after, behind_token, token_at, Cuts, here, blank, token, AreTokens, IsStuck, Stops, IsLexed, Gives}
use Rattle.py_lexer.proofs.Quotes.{chosen, same_some}
use Rattle.py_lexer.proofs.Signs.{no_sign_space, no_sign_tab, no_sign_hash, no_sign_backslash}
use Rattle.py_lexer.proofs.Fronts.{no_token, no_token_end}

-- ---- what stands between tokens begins none

no_name_end : is_name_start 10 ≡ false
no_name_end = or_from (is_xid_start 10) false (is_xid_start-ascii 10 (lit< tt)) refl

blank_at : (nested c : ℕ) (cs : List ℕ) → 0 < blank_len nested (c ∷ cs) → HasNoToken nested (c ∷ cs)
blank_at nested c cs l =
    elim (chosen ((c == 32) || (c == 9)) 1 (cond (c == 35) (1 + prefix_len is_inside_line cs) (cond ((c == 92) && begins_with_end cs) 2 (cond ((c == 10) && nat_lt 0 nested) 1 0))) (blank_len nested (c ∷ cs)) refl) [
      | inl p ↦ elim (or_cases (c == 32) (c == 9) p.0) [
        | inl e ↦ subst (λ z. HasNoToken nested (z ∷ cs)) (sym (eqb-true c 32 e)) (no_token nested 32 (or_from (is_xid_start 32) false (is_xid_start-ascii 32 (lit< tt)) refl) refl refl refl refl no_sign_space cs)
        | inr e ↦ subst (λ z. HasNoToken nested (z ∷ cs)) (sym (eqb-true c 9 e)) (no_token nested 9 (or_from (is_xid_start 9) false (is_xid_start-ascii 9 (lit< tt)) refl) refl refl refl refl no_sign_tab cs)
      ]
      | inr p ↦ elim (chosen (c == 35) (1 + prefix_len is_inside_line cs) (cond ((c == 92) && begins_with_end cs) 2 (cond ((c == 10) && nat_lt 0 nested) 1 0)) (blank_len nested (c ∷ cs)) p.1) [
        | inl q ↦ subst (λ z. HasNoToken nested (z ∷ cs)) (sym (eqb-true c 35 q.0)) (no_token nested 35 (or_from (is_xid_start 35) false (is_xid_start-ascii 35 (lit< tt)) refl) refl refl refl refl no_sign_hash cs)
        | inr q ↦ elim (chosen ((c == 92) && begins_with_end cs) 2 (cond ((c == 10) && nat_lt 0 nested) 1 0) (blank_len nested (c ∷ cs)) q.1) [
          | inl r ↦ subst (λ z. HasNoToken nested (z ∷ cs)) (sym (eqb-true c 92 (and_parts (c == 92) (begins_with_end cs) r.0).0)) (no_token nested 92 (or_from (is_xid_start 92) false (is_xid_start-ascii 92 (lit< tt)) refl) refl refl refl refl no_sign_backslash cs)
          | inr r ↦ elim (chosen ((c == 10) && nat_lt 0 nested) 1 0 (blank_len nested (c ∷ cs)) r.1) [
            | inl s ↦
                let both = and_parts (c == 10) (nat_lt 0 nested) s.0 in
                let some = ltb-true 0 nested both.1 in
                subst (λ z. HasNoToken nested (z ∷ cs)) (sym (eqb-true c 10 both.0)) (no_token_end nested cs no_name_end (ne_eqb nested 0 (λ e. omega arith)))
            | inr s ↦ absurd (let e = s.1 in omega arith)
          ]
        ]
      ]
    ]

pub blank_no_token : (nested : ℕ) (text : List ℕ) → 0 < blank_len nested text → HasNoToken nested text
blank_no_token nested [] l = absurd (omega arith)
blank_no_token nested (c ∷ cs) l = blank_at nested c cs l

token_none : {nested : ℕ} {text : List ℕ} {k : TokenKind} {n : ℕ} → IsToken nested text k n → HasNoToken nested text → ⊥
token_none {n} t h = let e = h n t.within in let f = t.kind in cc

token_filled : {nested : ℕ} {text : List ℕ} {k : TokenKind} (n : ℕ) → IsToken nested text k n → 0 < n
token_filled zero t = let f = t.kind in cc
token_filled (suc n) t = omega arith

record SameToken (k j : TokenKind) (n m : ℕ) : Type 0 where
  long : n ≡ m
  kind : k ≡ j

same_token : {nested : ℕ} {text : List ℕ} {k j : TokenKind} {n m : ℕ} → IsToken nested text k n → IsToken nested text j m → SameToken k j n m
same_token {nested} {text} {k} {j} {n} {m} t u =
    let a = u.longest n k t.within t.kind in
    let b = t.longest m j u.within u.kind in
    let long : n ≡ m = omega arith in
    record { long = long; kind = same_some (sym t.kind ∙ ap (λ z. token_kind nested (take z text) (drop z text)) long ∙ u.kind) }

-- ---- two cuts

-- nothing fits, or the text is at its end
pub record IsFinal (nested : ℕ) (text : List ℕ) : Type 0 where
  pub no_blank : blank_len nested text ≡ 0
  pub no_token : HasNoToken nested text

pub record Same (ts : List Token) (p : Place) (text : List ℕ) (us : List Token) (q : Place) (end : List ℕ) : Type 0 where
  pub tokens : ts ≡ us
  pub place : p ≡ q
  pub rest : text ≡ end

from_here : {p q : Place} {text rest : List ℕ} {us : List Token} → Cuts p text us q rest → IsFinal p.nested text → Same [] p text us q rest
from_here here f = record { tokens = refl; place = refl; rest = refl }
from_here (blank h c) f = absurd (let e = f.no_blank in omega arith)
from_here (token t c) f = absurd (token_none t f.no_token)

from_blank : {p q : Place} {text rest : List ℕ} {us : List Token} → Cuts p text us q rest → IsFinal q.nested rest → 0 < blank_len p.nested text
    → Cuts (behind p (take (blank_len p.nested text) text)) (drop (blank_len p.nested text) text) us q rest
from_blank here f l = absurd (let e = f.no_blank in omega arith)
from_blank (blank h c) f l = c
from_blank (token {p} {text} t c) f l = absurd (token_none t (blank_no_token p.nested text l))

record After (p : Place) (text : List ℕ) (k : TokenKind) (n : ℕ) (us : List Token) (q : Place) (rest : List ℕ) : Type 0 where
  others : List Token
  whole : us ≡ token_at p k n ∷ others
  cuts : Cuts (behind_token p k (take n text)) (drop n text) others q rest

from_token : {p q : Place} {text rest : List ℕ} {us : List Token} → Cuts p text us q rest → IsFinal q.nested rest → (k : TokenKind) (n : ℕ) → IsToken p.nested text k n → After p text k n us q rest
from_token here f k n t = absurd (token_none t f.no_token)
from_token (blank {p} {text} h c) f k n t = absurd (token_none t (blank_no_token p.nested text h))
from_token (token {p} {q} {text} {rest} {tokens} {k = j} {n = m} u c) f k n t =
    let s = same_token u t in
    record {
      others = tokens;
      whole = ap (λ z. token_at p z m ∷ tokens) s.kind ∙ ap (λ z. token_at p k z ∷ tokens) s.long;
      cuts =
          subst (λ z. Cuts (behind_token p k (take z text)) (drop z text) tokens q rest) s.long
          (subst (λ z. Cuts (behind_token p z (take m text)) (drop m text) tokens q rest) s.kind c);
    }

pub one_cut : {p q : Place} {text rest : List ℕ} {ts : List Token} → Cuts p text ts q rest → IsFinal q.nested rest → {r : Place} {end : List ℕ} {us : List Token} → Cuts p text us r end → IsFinal r.nested end
    → Same ts q rest us r end
one_cut here f d g = from_here d f
one_cut (blank h c) f d g = one_cut c f (from_blank d g h) g
one_cut (token {p} {k} {n} t c) f d g =
    let a = from_token d g k n t in
    let s = one_cut c f a.cuts g in
    record { tokens = ap (λ z. token_at p k n ∷ z) s.tokens ∙ sym a.whole; place = s.place; rest = s.rest }

ended : (nested n : ℕ) → let none : List ℕ = [] in token_kind nested (take n none) (drop n none) ≡ None
ended nested zero = refl
ended nested (suc n) = refl

pub final_end : (nested : ℕ) → IsFinal nested []
final_end nested = record { no_blank = refl; no_token = λ n l. ended nested n }

final_stuck : (nested : ℕ) (text : List ℕ) → IsStuck nested text → IsFinal nested text
final_stuck nested text s = record { no_blank = s.no_blank; no_token = s.no_token }

-- ---- the laws

pub one_list : (text : List ℕ) (ts us : List Token) → AreTokens text ts → AreTokens text us → ts ≡ us
one_list text ts us a b = let s = one_cut a.1 (final_end a.0.nested) b.1 (final_end b.0.nested) in s.tokens

pub one_line : (text : List ℕ) (line other : ℕ) → Stops text line → Stops text other → line ≡ other
one_line text line other a b =
    let s = one_cut a.cuts (final_stuck a.place.nested a.rest a.stuck) b.cuts (final_stuck b.place.nested b.rest b.stuck) in
    sym a.there ∙ ap (λ z. z.line) s.place ∙ b.there

pub not_both : (text : List ℕ) (ts : List Token) (line : ℕ) → AreTokens text ts → Stops text line → ⊥
not_both text ts line a b =
    let s = one_cut a.1 (final_end a.0.nested) b.cuts (final_stuck b.place.nested b.rest b.stuck) in b.stuck.before_end (sym s.rest)

pub complete : (text : List ℕ) (r : Result (List Token) LexFault) → IsLexed text r → (ts : List Token) → AreTokens text ts → Gives r (Ok ts)
complete text (Ok us) h ts a = ap (λ z. Ok z) (one_list text us ts h a)
complete text (Err (At line)) h ts a = absurd (not_both text ts line a h)
complete text (Err NoMemory) h ts a = tt

pub refused : (text : List ℕ) (r : Result (List Token) LexFault) → IsLexed text r → (line : ℕ) → Stops text line → Gives r (Err (At line))
refused text (Ok us) h line a = absurd (not_both text us line h a)
refused text (Err (At other)) h line a = ap (λ z. Err (At z)) (one_line text other line h a)
refused text (Err NoMemory) h line a = tt

-- ---- so far

abbrev pub place : ℕ → ℕ → ℕ → Place
place at line nested = record { at = at; line = line; nested = nested }

-- the tokens so far are those of the text up to a place: whatever the rest is cut into completes them
pub record SoFar (text : List ℕ) (p : Place) (rest : List ℕ) (tokens : List Token) : Type 0 where
  pub more : (ts : List Token) (q : Place) (end : List ℕ) → Cuts p rest ts q end → Cuts start text (tokens ++ ts) q end

pub begins : (text : List ℕ) → SoFar text start text []
begins text = record { more = λ ts q end c. c }

module _ (text : List ℕ) (at line nested : ℕ) (tokens : List Token) (s : SoFar text (place at line nested) (drop at text) tokens) where
  long : (n : ℕ) → n ≤ length (drop at text) → length (take n (drop at text)) ≡ n
  long n l = length-take-le n (drop at text) l

  pub after_blank : (n : ℕ) → n ≤ length (drop at text) → n ≡ blank_len nested (drop at text) → 0 < n
      → SoFar text (place (at + n) (line + ends_in (take n (drop at text))) nested) (drop (at + n) text) tokens
  after_blank n l e f = record {
    more = λ ts q end c.
        s.more ts q end (blank (omega arith)
        (subst (λ z. Cuts (behind (place at line nested) (take z (drop at text))) (drop z (drop at text)) ts q end) e
        (subst (λ z. Cuts (behind (place at line nested) (take n (drop at text))) z ts q end) (sym (drop-drop n at text))
        (subst (λ z. Cuts (place (at + z) (line + ends_in (take n (drop at text))) nested) (drop (at + n) text) ts q end) (sym (long n l)) c))));
  }

  pub after_token : (k : TokenKind) (n : ℕ) → IsToken nested (drop at text) k n
      → SoFar text (place (at + n) (line + ends_in (take n (drop at text))) (open_after nested k (take n (drop at text)))) (drop (at + n) text) (tokens ++ token_at (place at line nested) k n ∷ [])
  after_token k n t = record {
    more = λ ts q end c.
        subst (λ z. Cuts start text z q end) (sym (append_assoc tokens (token_at (place at line nested) k n ∷ []) ts))
        (s.more (token_at (place at line nested) k n ∷ ts) q end (token t
        (subst (λ z. Cuts (behind_token (place at line nested) k (take n (drop at text))) z ts q end) (sym (drop-drop n at text))
        (subst (λ z. Cuts (place (at + z) (line + ends_in (take n (drop at text))) (open_after nested k (take n (drop at text)))) (drop (at + n) text) ts q end) (sym (long n t.within)) c))));
  }

  pub found_at_end : length text ≤ at → AreTokens text tokens
  found_at_end l =
      (place at line nested, subst (λ z. Cuts start text z (place at line nested) []) (append-nil tokens) (s.more [] (place at line nested) [] (subst (λ z. Cuts (place at line nested) z [] (place at line nested) []) (sym (drop_all at text l)) here)))

  pub stops_here : at < length text → blank_len nested (drop at text) ≡ 0 → HasNoToken nested (drop at text) → Stops text line
  stops_here l e h = record {
    tokens = tokens;
    place = place at line nested;
    rest = drop at text;
    cuts = subst (λ z. Cuts start text z (place at line nested) (drop at text)) (append-nil tokens) (s.more [] (place at line nested) (drop at text) here);
    stuck = record { before_end = λ z. let d = ap length z in let f = length-drop at text in omega arith; no_blank = e; no_token = h };
    there = refl;
  }

pub filled : (nested : ℕ) (text : List ℕ) (k : TokenKind) (n : ℕ) → IsToken nested text k n → 0 < n
filled nested text k n t = token_filled n t
