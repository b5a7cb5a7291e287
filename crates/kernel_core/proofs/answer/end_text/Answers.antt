use Rattle.std.proofs.Common.{ℕ, ◌<◌, List, [], ◌∷◌, ap, ◌∙◌, lit<}
use Rattle.std.specs.Prelude.{codes}
use Rattle.std.specs.Str.{IsAscii}
use Rattle.std.proofs.lemmas.Str.{chars-IsAscii}
use Rattle.std.proofs.lemmas.Str.Ascii.{IsAscii-cons, IsAscii-nil}
use Rattle.flow_wire.specs.declared.reply.EndText.TheVariants.{Raised}
use Rattle.kernel_core.proofs.answer.end_text.Goals as goal

-- each byte is below 128
abbrev AreAscii : List ℕ → Type 0
AreAscii [] = Unit {0}
AreAscii (b ∷ bs) = (b < 128) × AreAscii bs

IsAscii-from_each : (bs : List ℕ) → AreAscii bs → IsAscii bs
IsAscii-from_each [] h = IsAscii-nil
IsAscii-from_each (b ∷ bs) h = IsAscii-cons b bs h.0 (IsAscii-from_each bs h.1)

name_error : IsAscii (codes "NameError")
name_error = IsAscii-from_each (codes "NameError") (lit< tt, (lit< tt, (lit< tt, (lit< tt, (lit< tt, (lit< tt, (lit< tt, (lit< tt, (lit< tt, tt)))))))))

pub returns-in_ok-from_str-in-NameError : goal.returns-in_ok-from_str-in-NameError
returns-in_ok-from_str-in-NameError c = rw c.in-NameError.is (ap Raised (c.in_ok-from_str-in-NameError.ensures ∙ chars-IsAscii (codes "NameError") name_error))
