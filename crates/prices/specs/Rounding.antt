-- The quotient n / d rounded to a whole number, in the ways that the rules name; d is above 0.
use Rattle.std.specs.Prelude.{ℕ, suc, ◌+◌, ◌-◌, ◌*◌, ◌/◌, ℤ, pos, negsuc, neg_ℤ}

-- the fraction dropped
abbrev pub down : ℕ → ℕ → ℕ
down n d = n / d

-- the least whole number not below
abbrev pub up : ℕ → ℕ → ℕ
up n d = (n + (d - 1)) / d

-- the nearest whole number, halves up
abbrev pub nearest : ℕ → ℕ → ℕ
nearest n d = (2 * n + d) / (2 * d)

-- the nearest whole number to a signed quotient, halves away from zero
abbrev pub nearestℤ : ℤ → ℕ → ℤ
nearestℤ (pos n) d = pos (nearest n d)
nearestℤ (negsuc n) d = neg_ℤ (pos (nearest (suc n) d))
