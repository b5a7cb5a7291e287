-- What a line may hold.
use Rattle.std.specs.Prelude.{ℕ, ◌^◌, List, [], ◌∷◌, Bool, true, false, ◌||◌, not, nat_lt, Option, Some, None}
use Rattle.std.specs.List.{list_any}
use Rattle.py_scalars.specs.NumberForm.{number_of}
use Rattle.py_lexer.specs.Cut.{open_after}
use Rattle.py_lexer.specs.declared.token.TokenKind.{TokenKind}
use Rattle.py_lexer.specs.declared.token.TokenKind.TheVariants.{Word, Number, Text, Op, LineEnd, Unsupported}
use Rattle.py_lexer.specs.declared.token.Token.{Token}
use Rattle.py_signs.specs.Signs.{text_of_token}

abbrev pub is_unsupported : TokenKind → Bool
is_unsupported Unsupported = true
is_unsupported Word = false
is_unsupported Number = false
is_unsupported Text = false
is_unsupported Op = false
is_unsupported LineEnd = false

abbrev pub has_unsupported : List Token → Bool
has_unsupported tokens = list_any (λ t. is_unsupported t.kind) tokens

-- whether more than 200 brackets are open at some place behind the first so many
abbrev pub is_crowded : List ℕ → ℕ → List Token → Bool
is_crowded text nested [] = false
is_crowded text nested (t ∷ tokens) =
    nat_lt 200 (open_after nested t.kind (text_of_token text t)) || is_crowded text (open_after nested t.kind (text_of_token text t)) tokens

-- a number over 2 ^ 127 - 1
abbrev pub is_over : Option ℕ → Bool
is_over (Some n) = not (nat_lt n (2 ^ 127))
is_over None = false

abbrev pub is_wide : TokenKind → List ℕ → Bool
is_wide Number text = is_over (number_of text)
is_wide Word text = false
is_wide Text text = false
is_wide Op text = false
is_wide LineEnd text = false
is_wide Unsupported text = false

abbrev pub has_wide : List ℕ → List Token → Bool
has_wide text tokens = list_any (λ t. is_wide t.kind (text_of_token text t)) tokens
