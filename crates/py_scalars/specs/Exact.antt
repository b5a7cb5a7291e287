-- Whole numbers: exact results, and which of them an i128 holds.
use Rattle.std.specs.Prelude.{◌⊎◌, zero, suc, ◌-◌, ◌/◌, ◌%◌, ◌^◌, ℤ, pos, negsuc, neg_ℤ, ◌<ℤ◌, ◌≤ℤ◌, Bool, true, false, nat_lt, Result, Ok, Err, if◌then◌else◌}
use Rattle.py_scalars.specs.declared.numbers.NumFault.{NumFault}
use Rattle.py_scalars.specs.declared.numbers.NumFault.TheVariants.{ZeroDiv, Range}

-- whether an i128 holds a number: from -(2 ^ 127) to 2 ^ 127 - 1
abbrev pub fits : ℤ → Bool
fits (pos n) = nat_lt n (2 ^ 127)
fits (negsuc n) = nat_lt n (2 ^ 127)

-- an exact result as an answer
abbrev pub exact : ℤ → Result ℤ NumFault
exact z = if fits z then Ok z else Err Range

-- a quotient rounded towards minus infinity; 0 for a divisor of 0
abbrev pub floor_quotient : ℤ → ℤ → ℤ
floor_quotient (pos a) (pos b) = pos (a / b)
floor_quotient (pos zero) (negsuc b) = pos 0
floor_quotient (pos (suc a)) (negsuc b) = negsuc (a / suc b)
floor_quotient (negsuc a) (pos zero) = pos 0
floor_quotient (negsuc a) (pos (suc b)) = negsuc (a / suc b)
floor_quotient (negsuc a) (negsuc b) = pos (suc a / suc b)

-- what the quotient leaves: it is 0 or has the divisor's sign
abbrev pub floor_remainder : ℤ → ℤ → ℤ
floor_remainder (pos a) (pos b) = pos (a % b)
floor_remainder (pos zero) (negsuc b) = pos 0
floor_remainder (pos (suc a)) (negsuc b) = neg_ℤ (pos (b - a % suc b))
floor_remainder (negsuc a) (pos zero) = negsuc a
floor_remainder (negsuc a) (pos (suc b)) = pos (b - a % suc b)
floor_remainder (negsuc a) (negsuc b) = neg_ℤ (pos (suc a % suc b))

-- r has the sign of b, or is 0, and is nearer to 0 than b
abbrev pub IsWithin : ℤ → ℤ → Type 0
IsWithin b r = ((pos 0 ≤ℤ r) × (r <ℤ b)) ⊎ ((b <ℤ r) × (r ≤ℤ pos 0))

abbrev pub is_zero : ℤ → Bool
is_zero (pos zero) = true
is_zero (pos (suc n)) = false
is_zero (negsuc n) = false

-- the answer of a division whose exact result is z
abbrev pub divided : ℤ → ℤ → Result ℤ NumFault
divided b z = if is_zero b then Err ZeroDiv else exact z
