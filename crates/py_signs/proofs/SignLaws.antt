-- Signs of names and numbers.
use Rattle.std.proofs.Common.{◌≡◌, ◌<◌, ◌^◌, ℕ, Bool, true, false, not, List, [], ◌∷◌, refl, sym, ap, ◌∙◌, Option, Some, None, if◌then◌else◌, nat_lt}
use Rattle.std.specs.List.{All}
use Rattle.std.specs.Prelude.{is_some, option_and_then, pos}
use Rattle.unicode_normalization.specs.Forms.{nfkc, Nfkc}
use Rattle.unicode_normalization.proofs.FormsLemmas.{normalize-ascii}
use Rattle.py_scalars.specs.NumberForm.{number_of, within, number_within, is_digit}
use Rattle.py_lexer.specs.Form.{is_unsupported_word, is_name_start, is_quote, is_prefixed, is_name, is_number, is_unsupported_number, is_literal, is_operator, is_unsupported_sign, one_of, kind_of, word_kind, number_kind, literal_kind, other_kind}
use Rattle.py_lexer.specs.declared.token.TokenKind.TheVariants as k
use Rattle.py_grammar.specs.declared.sign.Sign.TheVariants.{Name, Other}
use Rattle.py_signs.specs.Signs.{is_keyword, name_sign}
use Rattle.py_signs.specs.Limits.{is_over}

-- ---- names

pub keyword_sign : (word : List ℕ) → All (λ c. c < 128) word → is_keyword word ≡ true → Other ≡ name_sign (nfkc word)
keyword_sign word ascii is = sym (ap name_sign (normalize-ascii Nfkc word ascii) ∙ ap (λ (z : Bool). if z then Other else Name word) is)

pub ascii_sign : (word : List ℕ) → All (λ c. c < 128) word → is_keyword word ≡ false → Name word ≡ name_sign (nfkc word)
ascii_sign word ascii is = sym (ap name_sign (normalize-ascii Nfkc word ascii) ∙ ap (λ (z : Bool). if z then Other else Name word) is)

-- ---- numbers

not_word : (a b c : Bool) → (if a then Some k.Unsupported else (if b then (if c then Some k.Unsupported else Some k.Word) else None)) ≡ Some k.Number → ⊥
not_word true b c e = cc
not_word false true true e = cc
not_word false true false e = cc
not_word false false c e = cc

not_literal : (a : Bool) → (if a then Some k.Text else None) ≡ Some k.Number → ⊥
not_literal true e = cc
not_literal false e = cc

not_other : (a b c d : Bool) → (if a then Some k.LineEnd else (if b then Some k.Unsupported else (if c then Some k.Op else (if d then Some k.Unsupported else None)))) ≡ Some k.Number → ⊥
not_other true b c d e = cc
not_other false true c d e = cc
not_other false false true d e = cc
not_other false false false true e = cc
not_other false false false false e = cc

is_numeral : (a b : Bool) → (if a then Some k.Unsupported else (if b then Some k.Number else None)) ≡ Some k.Number → b ≡ true
is_numeral true b e = cc
is_numeral false true e = refl
is_numeral false false e = cc

by_start : (a b c : Bool) (text : List ℕ) → (if a then word_kind text else (if b then number_kind text else (if c then literal_kind text else other_kind text))) ≡ Some k.Number
    → is_number text ≡ true
by_start true b c text e = absurd (not_word (is_prefixed text) (is_name text) (is_unsupported_word text) e)
by_start false true c text e = is_numeral (is_unsupported_number text) (is_number text) e
by_start false false true text e = absurd (not_literal (is_literal text) e)
by_start false false false text e = absurd (not_other (one_of (10 ∷ []) text) (is_unsupported_number text) (is_operator text) (is_unsupported_sign text) e)

numeral : (text : List ℕ) → kind_of text ≡ Some k.Number → is_number text ≡ true
numeral [] e = cc
numeral (c ∷ text) e = by_start (is_name_start c) (is_digit 10 c) (is_quote c) (c ∷ text) e

over : (n : ℕ) (b : Bool) → (if b then Some (pos n) else None) ≡ None → not b ≡ true
over n true e = cc
over n false e = refl

wide_value : (found : Option ℕ) → is_some found ≡ true → option_and_then within found ≡ None → is_over found ≡ true
wide_value None some e = cc
wide_value (Some n) some e = over n (nat_lt n (2 ^ 127)) e

-- a number token that no i128 holds
pub wide_number : (text : List ℕ) → kind_of text ≡ Some k.Number → number_within text ≡ None → is_over (number_of text) ≡ true
wide_number text is none = wide_value (number_of text) (numeral text is) none
