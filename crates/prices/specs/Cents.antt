-- A signed amount of ten-thousandths of a dollar, split into whole cents and a rest of 0 to 99.
use Rattle.std.specs.Prelude.{ℕ, ◌-◌, ◌/◌, ◌%◌, ℤ, pos, negsuc, ◌*ℤ◌}

-- the whole cents, rounded down below zero too
abbrev pub cents : ℤ → ℤ
cents (pos n) = pos (n / 100)
cents (negsuc n) = negsuc (n / 100)

-- what is left over the whole cents
abbrev pub rest : ℤ → ℕ
rest (pos n) = n % 100
rest (negsuc n) = 99 - n % 100

-- the whole cents, in ten-thousandths: what goes below
abbrev pub below : ℤ → ℤ
below z = cents z *ℤ pos 100
