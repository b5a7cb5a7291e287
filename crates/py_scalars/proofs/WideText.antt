-- The text of each i128 is ASCII, so that its bytes are its code points.
use Rattle.std.proofs.Common.{◌≡◌, ◌<◌, ◌^◌, zero, suc, ℤ, pos, negsuc, arith}
use lib.Signed.{mag}
use Rattle.std.specs.Fmt.{signed_decimal}
use Rattle.std.specs.Str.{IsAscii, chars}
use Rattle.std.proofs.lemmas.Fmt.{IsAscii-decimal_wide}
use Rattle.std.proofs.lemmas.Str.{chars-IsAscii}

pub IsAscii-signed_wide : (z : ℤ) → mag z < 2 ^ 127 → IsAscii (signed_decimal z)
IsAscii-signed_wide (pos n) h i = IsAscii-decimal_wide n (omega arith) i
IsAscii-signed_wide (negsuc n) h zero = omega arith
IsAscii-signed_wide (negsuc n) h (suc i) = IsAscii-decimal_wide (suc n) (omega arith) i

pub chars-signed_wide : (z : ℤ) → mag z < 2 ^ 127 → chars (signed_decimal z) ≡ signed_decimal z
chars-signed_wide z h = chars-IsAscii (signed_decimal z) (IsAscii-signed_wide z h)
