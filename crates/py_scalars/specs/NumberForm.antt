-- Which texts are numbers, and which number each is.
use Rattle.std.specs.Prelude.{ℕ, ◌^◌, List, [], ◌∷◌, Bool, true, false, ◌==◌, ◌&&◌, ◌||◌, not, nat_lt, ℤ, pos, Option, Some, None, if◌then◌else◌, option_and_then, filter, drop}
use Rattle.std.specs.List.{list_all}
use Rattle.std.specs.Char.{digit_value}
use Rattle.std.specs.Str.Parse.{digits_value}

-- whether a code point is a digit of a base; letters of either case count from 10
abbrev pub is_digit : ℕ → ℕ → Bool
is_digit base c = nat_lt (digit_value c) base

abbrev pub begins_with_digit : ℕ → List ℕ → Bool
begins_with_digit base [] = false
begins_with_digit base (c ∷ text) = is_digit base c

-- digits, each with at most one underscore before it
abbrev pub is_spaced : ℕ → List ℕ → Bool
is_spaced base [] = true
is_spaced base (c ∷ text) = (is_digit base c || (c == 95) && begins_with_digit base text) && is_spaced base text

-- the number that the digits write, underscores left out
abbrev pub spaced_value : ℕ → List ℕ → ℕ
spaced_value base text = digits_value base (filter (λ c. not (c == 95)) text)

-- the base that a letter names behind a first 0, and 0 for any other letter
abbrev pub base_of : ℕ → ℕ
base_of c =
    if (c == 120) || (c == 88) then 16 else
    (if (c == 111) || (c == 79) then 8 else
    (if (c == 98) || (c == 66) then 2 else 0))

-- the base of a number that begins with 0 and a letter, by what stands behind the 0
abbrev pub base_behind : List ℕ → ℕ
base_behind [] = 0
base_behind (c ∷ text) = base_of c

abbrev pub is_filled : List ℕ → Bool
is_filled [] = false
is_filled (c ∷ text) = true

-- digits of a base, at least one, each with at most one underscore before it
abbrev pub based : ℕ → List ℕ → Option ℕ
based base text = if is_filled text && is_spaced base text then Some (spaced_value base text) else None

-- whether all digits are zeros
abbrev pub is_zeros : List ℕ → Bool
is_zeros text = list_all (λ c. (c == 48) || (c == 95)) text

-- decimal digits with single underscores between them, and no leading zero unless all are zeros
abbrev pub decimal_form : List ℕ → Option ℕ
decimal_form [] = None
decimal_form (c ∷ text) =
    if is_digit 10 c && is_spaced 10 text && (not (c == 48) || is_zeros text) then Some (spaced_value 10 (c ∷ text)) else None

-- the number that a text writes, if it writes one
abbrev pub number_of : List ℕ → Option ℕ
number_of [] = None
number_of (c ∷ text) = if (c == 48) && not (base_behind text == 0) then based (base_behind text) (drop 1 text) else decimal_form (c ∷ text)

-- the number, if it is at most 2 ^ 127 - 1
abbrev pub within : ℕ → Option ℤ
within n = if nat_lt n (2 ^ 127) then Some (pos n) else None

abbrev pub number_within : List ℕ → Option ℤ
number_within text = option_and_then within (number_of text)

-- the number of digits with underscores, if they are that and it is at most 2 ^ 127 - 1
abbrev pub digits_within : ℕ → List ℕ → Option ℤ
digits_within base text = if is_spaced base text then within (spaced_value base text) else None

abbrev pub based_within : ℕ → List ℕ → Option ℤ
based_within base text = option_and_then within (based base text)
