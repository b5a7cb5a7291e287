-- A name of ASCII characters is equal to its NFKC form.
use Rattle.std.proofs.Common.{◌≡◌, ℕ, ◌<◌, All, List, Bool, true, false, ◌||◌, Option, Some, None, refl, sym, ◌∙◌}
use Rattle.std.specs.Option.{is_some}
use Rattle.unicode_normalization.specs.Forms.{nfkc}
use Rattle.py_grammar.specs.declared.mark.Mark.{Mark}
use Rattle.py_grammar.specs.declared.sign.Sign.{Sign}
use Rattle.py_lexer.specs.Form.{kind_of, is_unsupported_word}
use Rattle.py_lexer.specs.declared.token.TokenKind.TheVariants.{Word}
use Rattle.py_signs.specs.Signs.{is_keyword, keyword_of, name_sign, or_else}
use Rattle.py_signs.proofs.SignLaws.{ascii_sign}
use Rattle.py_print.specs.Spelled.{IsOwnName}

no_keyword : (k : Option Mark) (u : Bool) (s : Sign) → is_some k || u ≡ false → or_else k s ≡ s
no_keyword None u s e = refl
no_keyword (Some k) u s e = let no : true ≡ false = e in cc

pub ascii_own : (x : List ℕ) → kind_of x ≡ Some Word → All (λ c. c < 128) x → is_keyword x ≡ false → IsOwnName x
ascii_own x token ascii plain = record {
  token = token;
  own = no_keyword (keyword_of x) (is_unsupported_word x) (name_sign (nfkc x)) plain ∙ sym (ascii_sign x ascii plain);
}
