-- Which texts are text literals, and what each stands for.
use Rattle.std.specs.Prelude.{ℕ, zero, suc, ◌+◌, ◌/◌, ◌%◌, List, [], ◌∷◌, ◌++◌, length, Bool, ◌==◌, ◌&&◌, ◌||◌, not, nat_lt, nat_le, Option, Some, None, if◌then◌else◌, option_map, take, drop}
use Rattle.std.specs.List.{flat_map, prefix_len, list_any, list_all}
use Rattle.std.specs.Char.{digit_char}
use Rattle.std.specs.Str.Parse.{digits_value, digits_value_after}
use Rattle.py_scalars.specs.Search.{begins_with}
use Rattle.py_scalars.specs.NumberForm.{is_digit}

-- what one letter behind a backslash stands for
abbrev pub simple_escape : ℕ → Option ℕ
simple_escape c =
    if (c == 92) || (c == 39) || (c == 34) then Some c else
    (if c == 97 then Some 7 else
    (if c == 98 then Some 8 else
    (if c == 102 then Some 12 else
    (if c == 110 then Some 10 else
    (if c == 114 then Some 13 else
    (if c == 116 then Some 9 else
    (if c == 118 then Some 11 else None)))))))

-- how many of the first n code points are digits of a base
abbrev pub digit_count : ℕ → ℕ → List ℕ → ℕ
digit_count base n text = prefix_len (is_digit base) (take n text)

-- no surrogate, and at most U+10FFFF
abbrev pub is_scalar : ℕ → Bool
is_scalar n = nat_lt n 0xD800 || nat_lt 0xDFFF n && nat_lt n 0x110000

-- the scalar value that hexadecimal digits write behind a number so far, if they are that
abbrev pub scalar_behind : ℕ → List ℕ → Option ℕ
scalar_behind n text =
    if list_all (is_digit 16) text && is_scalar (digits_value_after 16 n text) then Some (digits_value_after 16 n text) else None

abbrev pub code_escape : ℕ → Option ℕ → Option (ℕ × List ℕ)
code_escape n None = None
code_escape n (Some c) = Some (suc n, c ∷ [])

-- n hexadecimal digits behind a letter
abbrev pub hex_escape : ℕ → List ℕ → Option (ℕ × List ℕ)
hex_escape n text = if nat_le n (length text) then code_escape n (scalar_behind 0 (take n text)) else None

-- one to three octal digits
abbrev pub octal_escape : List ℕ → Option (ℕ × List ℕ)
octal_escape text = Some (digit_count 8 3 text, digits_value 8 (take (digit_count 8 3 text) text) ∷ [])

-- the meaning of a letter behind a backslash, or both where there is none
abbrev pub meant_or_kept : ℕ → Option ℕ → List ℕ
meant_or_kept c None = 92 ∷ c ∷ []
meant_or_kept c (Some d) = d ∷ []

-- what a letter stands for that begins no code: a line end for nothing, and any other that has no meaning for itself and
-- the backslash
abbrev pub letter_escape : ℕ → ℕ × List ℕ
letter_escape c = if c == 10 then (1, []) else (1, meant_or_kept c (simple_escape c))

-- by what follows a backslash: how many code points belong to it, and what they and the backslash stand for
abbrev pub escape_at : List ℕ → Option (ℕ × List ℕ)
escape_at [] = None
escape_at (c ∷ text) =
    if is_digit 8 c then octal_escape (c ∷ text) else
    (if c == 120 then hex_escape 2 text else
    (if c == 117 then hex_escape 4 text else
    (if c == 85 then hex_escape 8 text else
    (if c == 78 then None else Some (letter_escape c)))))

-- what stands for itself or begins with a backslash, before what follows
abbrev pub before_rest : List ℕ → Option (List ℕ) → Option (List ℕ)
before_rest what rest = option_map (λ more. what ++ more) rest

abbrev pub after_escape : Option (ℕ × List ℕ) → (ℕ → Option (List ℕ)) → Option (List ℕ)
after_escape None rest = None
after_escape (Some e) rest = before_rest e.1 (rest e.0)

-- the content up to the closing quotes, which end the text. A text in single quotes holds no line end. Of the first code
-- points, as many as the number says belong to an escape
abbrev pub content : List ℕ → ℕ → List ℕ → Option (List ℕ)
content quotes n [] = None
content quotes (suc n) (c ∷ text) = content quotes n text
content quotes zero (c ∷ text) =
    if begins_with quotes (c ∷ text) then (if length text + 1 == length quotes then Some [] else None) else
    (if (c == 10) && (length quotes == 1) then None else
    (if c == 92 then after_escape (escape_at text) (λ n. content quotes n text) else before_rest (c ∷ []) (content quotes 0 text)))

-- the text that a literal stands for: in one or three quotes of one kind
abbrev pub text_of : List ℕ → Option (List ℕ)
text_of [] = None
text_of (q ∷ text) =
    if (q == 39) || (q == 34) then
    (if begins_with (q ∷ q ∷ []) text then content (q ∷ q ∷ q ∷ []) 0 (drop 2 text) else content (q ∷ []) 0 text)
    else None

-- ---- the literal of a text

-- a code point that is neither the quote nor has an escape of its own
abbrev pub shown_other : ℕ → List ℕ
shown_other c =
    if nat_lt c 32 || (c == 127) then 92 ∷ 120 ∷ digit_char (c / 16) ∷ digit_char (c % 16) ∷ [] else c ∷ []

-- a code point between quotes of a kind
abbrev pub shown : ℕ → ℕ → List ℕ
shown q c =
    if (c == 92) || (c == q) then 92 ∷ c ∷ [] else
    (if c == 10 then 92 ∷ 110 ∷ [] else
    (if c == 13 then 92 ∷ 114 ∷ [] else
    (if c == 9 then 92 ∷ 116 ∷ [] else shown_other c)))

-- double quotes for a text that holds a single and no double quote, else single ones
abbrev pub quote_for : List ℕ → ℕ
quote_for text = if list_any (λ c. c == 39) text && not (list_any (λ c. c == 34) text) then 34 else 39

abbrev pub repr_of : List ℕ → List ℕ
repr_of text = quote_for text ∷ (flat_map (shown (quote_for text)) text ++ quote_for text ∷ [])
