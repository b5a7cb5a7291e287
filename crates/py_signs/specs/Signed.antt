-- The answers of the readers of signs.
use Rattle.std.specs.Prelude.{◌≡◌, ℕ, List, true, false, Result, Ok, Err}
use Rattle.std.specs.Global.{Vec}
use Rattle.py_lexer.specs.declared.token.TokenKind.{TokenKind}
use Rattle.py_lexer.specs.declared.token.Token.{Token}
use Rattle.py_grammar.specs.declared.sign.Sign.{Sign}
use Rattle.py_signs.specs.Signs.{sign_of, signs_of}
use Rattle.py_signs.specs.Limits.{is_wide, has_wide}
use Rattle.py_signs.specs.declared.signs.SignFault.{SignFault}
use Rattle.py_signs.specs.declared.signs.SignFault.TheVariants.{Wide, NoMemory}

-- the sign of a token of this kind and text
abbrev pub IsSign : TokenKind → List ℕ → Result Sign SignFault → Type 0
IsSign k text (Ok sign) = (is_wide k text ≡ false) × (sign ≡ sign_of k text)
IsSign k text (Err Wide) = is_wide k text ≡ true
IsSign k text (Err NoMemory) = Unit {0}

abbrev pub AreSigns : List ℕ → List Token → Result (Vec Sign) SignFault → Type 0
AreSigns text tokens (Ok signs) = (has_wide text tokens ≡ false) × (signs.items ≡ signs_of text tokens)
AreSigns text tokens (Err Wide) = has_wide text tokens ≡ true
AreSigns text tokens (Err NoMemory) = Unit {0}
