-- Which texts are tokens, and of which kind.
use Rattle.std.specs.Prelude.{ℕ, ◌+◌, List, [], ◌∷◌, length, Bool, true, false, ◌==◌, ◌&&◌, ◌||◌, Option, Some, None, is_some, if◌then◌else◌, codes, bytes_eq, drop}
use Rattle.std.specs.List.{list_any, list_all}
use Rattle.unicode_ident.specs.Ident.{is_xid_start, is_xid_continue}
use Rattle.py_scalars.specs.NumberForm.{is_digit, is_spaced, number_of, is_filled}
use Rattle.py_scalars.specs.TextForm.{text_of}
use Rattle.py_scalars.specs.Search.{begins_with}
use Rattle.py_lexer.specs.declared.token.TokenKind.{TokenKind}
use Rattle.py_lexer.specs.declared.token.TokenKind.TheVariants.{Word, Number, Text, Op, LineEnd, Unsupported}

-- a text of the one set and then a text of the other
abbrev pub joins : (List ℕ → Bool) → (List ℕ → Bool) → List ℕ → Bool
joins p q [] = p [] && q []
joins p q (c ∷ text) = p [] && q (c ∷ text) || joins (λ front. p (c ∷ front)) q text

abbrev pub is_one_of : List ℕ → ℕ → Bool
is_one_of points c = list_any (λ d. c == d) points

-- one code point of a list
abbrev pub one_of : List ℕ → List ℕ → Bool
one_of points [] = false
one_of points (c ∷ []) = is_one_of points c
one_of points (c ∷ d ∷ text) = false

-- ---- names

abbrev pub is_name_start : ℕ → Bool
is_name_start c = is_xid_start c || (c == 95)

abbrev pub is_name : List ℕ → Bool
is_name [] = false
is_name (c ∷ text) = is_name_start c && list_all is_xid_continue text

-- the keywords that stand for what this language has not
abbrev pub is_unsupported_word : List ℕ → Bool
is_unsupported_word text = list_any (bytes_eq text) (codes "async" ∷ codes "await" ∷ codes "from" ∷ codes "import" ∷ codes "with" ∷ codes "yield" ∷ [])

-- ---- numbers

-- decimal digits with single underscores between them
abbrev pub is_digits : List ℕ → Bool
is_digits [] = false
is_digits (c ∷ text) = is_digit 10 c && is_spaced 10 text

-- `e`, at most one sign, and digits
abbrev pub is_exponent : List ℕ → Bool
is_exponent text = joins (one_of (codes "eE")) is_digits text || joins (one_of (codes "eE")) (joins (one_of (codes "+-")) is_digits) text

-- digits and a point, with or without digits behind it, or a point and digits
abbrev pub is_pointed : List ℕ → Bool
is_pointed text =
    joins is_digits (one_of (codes ".")) text || joins is_digits (joins (one_of (codes ".")) is_digits) text || joins (one_of (codes ".")) is_digits text

abbrev pub is_real : List ℕ → Bool
is_real text = is_pointed text || joins is_pointed is_exponent text || joins is_digits is_exponent text

-- with a point, an exponent or a final `j`
abbrev pub is_unsupported_number : List ℕ → Bool
is_unsupported_number text = is_real text || joins is_real (one_of (codes "jJ")) text || joins is_digits (one_of (codes "jJ")) text

abbrev pub is_number : List ℕ → Bool
is_number text = is_some (number_of text)

-- ---- text literals

abbrev pub is_quote : ℕ → Bool
is_quote c = (c == 39) || (c == 34)

abbrev pub is_literal : List ℕ → Bool
is_literal text = is_some (text_of text)

-- the content up to the closing quotes, which end the text. What stands behind a backslash, as the flag says, is content;
-- a text in single quotes holds no other line end
abbrev pub is_closed : List ℕ → Bool → List ℕ → Bool
is_closed quotes behind [] = false
is_closed quotes true (c ∷ text) = is_closed quotes false text
is_closed quotes false (c ∷ text) =
    if begins_with quotes (c ∷ text) then length text + 1 == length quotes else
    (if (c == 10) && (length quotes == 1) then false else is_closed quotes (c == 92) text)

-- a literal with no test of its escapes
abbrev pub is_quoted : List ℕ → Bool
is_quoted [] = false
is_quoted (q ∷ text) =
    is_quote q && (if begins_with (q ∷ q ∷ []) text then is_closed (q ∷ q ∷ q ∷ []) false (drop 2 text) else is_closed (q ∷ []) false text)

abbrev pub is_prefix_letter : ℕ → Bool
is_prefix_letter c = is_one_of (codes "bBfFrRuU") c

abbrev pub is_prefix : List ℕ → Bool
is_prefix text = is_filled text && list_all is_prefix_letter text

abbrev pub is_prefixed : List ℕ → Bool
is_prefixed text = joins is_prefix is_quoted text

-- ---- signs

abbrev pub is_operator : List ℕ → Bool
is_operator (a ∷ []) = is_one_of (codes "+-*%<>()[]{},:;.=") a
is_operator (a ∷ b ∷ []) = is_one_of (codes "+-*%<>=!") a && (b == 61) || is_one_of (codes "/*") a && (b == a)
is_operator (a ∷ b ∷ c ∷ []) = is_one_of (codes "/*") a && (b == a) && (c == 61)
is_operator _ = false

abbrev pub is_unsupported_sign : List ℕ → Bool
is_unsupported_sign (a ∷ []) = is_one_of (codes "/@&|^~") a
is_unsupported_sign (a ∷ b ∷ []) = is_one_of (codes "/@&|^:") a && (b == 61) || is_one_of (codes "<>") a && (b == a) || (a == 45) && (b == 62)
is_unsupported_sign (a ∷ b ∷ c ∷ []) = is_one_of (codes "<>") a && (b == a) && (c == 61) || (a == 46) && (b == 46) && (c == 46)
is_unsupported_sign _ = false

-- ---- tokens

-- a text that begins as a name: a name or a literal with a prefix
abbrev pub word_kind : List ℕ → Option TokenKind
word_kind text =
    if is_prefixed text then Some Unsupported else
    (if is_name text then (if is_unsupported_word text then Some Unsupported else Some Word) else None)

-- a text that begins with a digit
abbrev pub number_kind : List ℕ → Option TokenKind
number_kind text = if is_unsupported_number text then Some Unsupported else (if is_number text then Some Number else None)

-- a text that begins with a quote
abbrev pub literal_kind : List ℕ → Option TokenKind
literal_kind text = if is_literal text then Some Text else None

abbrev pub sign_kind : List ℕ → Option TokenKind
sign_kind text = if is_operator text then Some Op else (if is_unsupported_sign text then Some Unsupported else None)

-- a text that begins otherwise: a line end, a number that begins with its point, or a sign
abbrev pub other_kind : List ℕ → Option TokenKind
other_kind text =
    if one_of (10 ∷ []) text then Some LineEnd else
    (if is_unsupported_number text then Some Unsupported else sign_kind text)

-- the kind of a token, by its first code point; no other text is one
abbrev pub kind_of : List ℕ → Option TokenKind
kind_of [] = None
kind_of (c ∷ text) =
    if is_name_start c then word_kind (c ∷ text) else
    (if is_digit 10 c then number_kind (c ∷ text) else
    (if is_quote c then literal_kind (c ∷ text) else other_kind (c ∷ text)))

-- whether a text goes on as a name does
abbrev pub continues : List ℕ → Bool
continues [] = false
continues (c ∷ text) = is_xid_continue c

-- a line end inside brackets is no token, nor is a number directly before what may continue a name
abbrev pub allowed : ℕ → List ℕ → Option TokenKind → Option TokenKind
allowed nested rest None = None
allowed nested rest (Some Number) = if continues rest then None else Some Number
allowed nested rest (Some LineEnd) = if nested == 0 then Some LineEnd else None
allowed nested rest (Some Word) = Some Word
allowed nested rest (Some Text) = Some Text
allowed nested rest (Some Op) = Some Op
allowed nested rest (Some Unsupported) = Some Unsupported

-- the kind of a token where so many brackets are open, by its text and what follows it
abbrev pub token_kind : ℕ → List ℕ → List ℕ → Option TokenKind
token_kind nested text rest = allowed nested rest (kind_of text)
