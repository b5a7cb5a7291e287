-- How the longest token at the front of a text is found.
use Rattle.std.specs.Prelude.{ℕ, zero, suc, ◌+◌, List, [], ◌∷◌, length, take, drop, Bool, true, false, ◌==◌, ◌&&◌, ◌||◌, nat_lt, Option, Some, None, if◌then◌else◌, option_map, codes}
use Rattle.std.specs.List.{prefix_len}
use Rattle.unicode_ident.specs.Ident.{is_xid_continue}
use Rattle.py_scalars.specs.NumberForm.{is_digit, begins_with_digit}
use Rattle.py_scalars.specs.Search.{begins_with}
use Rattle.py_lexer.specs.declared.token.TokenKind.{TokenKind}
use Rattle.py_lexer.specs.declared.token.TokenKind.TheVariants.{Word, Number, Text, LineEnd, Unsupported}
use Rattle.py_lexer.specs.Form.{is_one_of, is_prefix_letter, is_quote, is_unsupported_word, is_number, is_literal, sign_kind}

-- ---- digits

-- whether digits go on at the front: with a digit, or with an underscore before one
abbrev pub has_digit : ℕ → List ℕ → Bool
has_digit base [] = false
has_digit base (c ∷ text) = is_digit base c || (c == 95) && begins_with_digit base text

-- how many code points at the front are digits, each with at most one underscore before it
abbrev pub spaced_len : ℕ → List ℕ → ℕ
spaced_len base [] = 0
spaced_len base (c ∷ text) = if has_digit base (c ∷ text) then 1 + spaced_len base text else 0

-- the same where a digit comes first, else 0
abbrev pub digits_len : List ℕ → ℕ
digits_len text = if begins_with_digit 10 text then spaced_len 10 text else 0

-- whether one of these code points is at the front
abbrev pub begins_with_one : List ℕ → List ℕ → Bool
begins_with_one points [] = false
begins_with_one points (c ∷ text) = is_one_of points c

-- one where the text begins so, else none
abbrev pub one_len : List ℕ → List ℕ → ℕ
one_len points text = if begins_with_one points text then 1 else 0

-- so many more if there is one
abbrev pub if_more : ℕ → ℕ → ℕ
if_more n zero = 0
if_more n (suc m) = n + suc m

abbrev pub signed_len : List ℕ → ℕ
signed_len text = if_more (one_len (codes "+-") text) (digits_len (drop (one_len (codes "+-") text) text))

-- the exponent at the front
abbrev pub exponent_len : List ℕ → ℕ
exponent_len text = if begins_with_one (codes "eE") text then if_more 1 (signed_len (drop 1 text)) else 0

-- an exponent and a final `j`, or one of them
abbrev pub tail_len : List ℕ → ℕ
tail_len text = exponent_len text + one_len (codes "jJ") (drop (exponent_len text) text)

-- what follows a point: digits, an exponent and a final `j`, each if it is there
abbrev pub fraction_len : List ℕ → ℕ
fraction_len text = digits_len text + tail_len (drop (digits_len text) text)

-- a point and what follows it
abbrev pub behind_digits_len : List ℕ → ℕ
behind_digits_len text = if begins_with_one (codes ".") text then 1 + fraction_len (drop 1 text) else tail_len text

-- a number with a point, an exponent or a final `j` at the front, which begins with a digit or with its point
abbrev pub real_len : List ℕ → ℕ
real_len [] = 0
real_len (c ∷ text) =
    if c == 46 then (if begins_with_digit 10 text then 1 + fraction_len text else 0) else
    if_more (digits_len (c ∷ text)) (behind_digits_len (drop (digits_len (c ∷ text)) (c ∷ text)))

abbrev pub number_front : List ℕ → Option (TokenKind × ℕ)
number_front text =
    if is_number (take (prefix_len is_xid_continue text) text) && nat_lt (real_len text) (prefix_len is_xid_continue text)
    then Some (Number, prefix_len is_xid_continue text) else
    (if nat_lt 0 (real_len text) then Some (Unsupported, real_len text) else None)

-- ---- text literals

abbrev pub longer : ℕ → Option ℕ → Option ℕ
longer n found = option_map (λ m. n + m) found

-- how many code points there are up to the closing quotes and with them
abbrev pub closed_len : List ℕ → Bool → List ℕ → Option ℕ
closed_len quotes behind [] = None
closed_len quotes true (c ∷ text) = longer 1 (closed_len quotes false text)
closed_len quotes false (c ∷ text) =
    if begins_with quotes (c ∷ text) then Some (length quotes) else
    (if (c == 10) && (length quotes == 1) then None else longer 1 (closed_len quotes (c == 92) text))

-- the first of two that is there
abbrev pub or_else : {A : Type 0} → Option A → Option A → Option A
or_else None other = other
or_else (Some n) other = Some n

-- a literal that begins with a quote, its escapes not looked at: one in three quotes that do not close is an empty one
abbrev pub quoted_len : List ℕ → Option ℕ
quoted_len [] = None
quoted_len (q ∷ text) =
    if is_quote q then
    (if begins_with (q ∷ q ∷ []) text then or_else (longer 3 (closed_len (q ∷ q ∷ q ∷ []) false (drop 2 text))) (Some 2) else
    longer 1 (closed_len (q ∷ []) false text))
    else None

-- the same where the text before the closing quotes has to be a literal
abbrev pub if_literal : List ℕ → Option ℕ → Option ℕ
if_literal text None = None
if_literal text (Some n) = if is_literal (take n text) then Some n else None

abbrev pub literal_len : List ℕ → Option ℕ
literal_len [] = None
literal_len (q ∷ text) =
    if begins_with (q ∷ q ∷ []) text then or_else (if_literal (q ∷ text) (longer 3 (closed_len (q ∷ q ∷ q ∷ []) false (drop 2 text)))) (Some 2) else
    if_literal (q ∷ text) (longer 1 (closed_len (q ∷ []) false text))

abbrev pub literal_front : List ℕ → Option (TokenKind × ℕ)
literal_front text = option_map (λ n. (Text, n)) (literal_len text)

-- ---- names

abbrev pub word_of : List ℕ → TokenKind
word_of text = if is_unsupported_word text then Unsupported else Word

-- a literal behind letters of a prefix
abbrev pub prefixed_len : List ℕ → Option ℕ
prefixed_len text =
    if nat_lt 0 (prefix_len is_prefix_letter text) then
    longer (prefix_len is_prefix_letter text) (quoted_len (drop (prefix_len is_prefix_letter text) text))
    else None

abbrev pub word_or_prefixed : List ℕ → Option ℕ → TokenKind × ℕ
word_or_prefixed text (Some n) = (Unsupported, n)
word_or_prefixed text None = (word_of (take (prefix_len is_xid_continue text) text), prefix_len is_xid_continue text)

abbrev pub word_front : List ℕ → TokenKind × ℕ
word_front text = word_or_prefixed text (prefixed_len text)

-- ---- signs

abbrev pub sign_of_three : List ℕ → Option (TokenKind × ℕ)
sign_of_three (a ∷ b ∷ c ∷ text) = option_map (λ k. (k, 3)) (sign_kind (a ∷ b ∷ c ∷ []))
sign_of_three _ = None

abbrev pub sign_of_two : List ℕ → Option (TokenKind × ℕ)
sign_of_two (a ∷ b ∷ text) = option_map (λ k. (k, 2)) (sign_kind (a ∷ b ∷ []))
sign_of_two _ = None

abbrev pub sign_of_one : List ℕ → Option (TokenKind × ℕ)
sign_of_one (a ∷ text) = option_map (λ k. (k, 1)) (sign_kind (a ∷ []))
sign_of_one _ = None

abbrev pub sign_front : List ℕ → Option (TokenKind × ℕ)
sign_front text = or_else (sign_of_three text) (or_else (sign_of_two text) (sign_of_one text))

abbrev pub other_front : ℕ → List ℕ → Option (TokenKind × ℕ)
other_front nested [] = None
other_front nested (c ∷ text) =
    if c == 10 then (if nested == 0 then Some (LineEnd, 1) else None) else
    (if (c == 46) && begins_with_digit 10 text then Some (Unsupported, real_len (c ∷ text)) else sign_front (c ∷ text))
