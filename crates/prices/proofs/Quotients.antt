-- What the roundings of a quotient come to, where the check does not see it.
use Rattle.std.proofs.Common.{◌≡◌, ℕ, zero, suc, ◌+◌, ◌*◌, ◌/◌, ◌<◌, ◌≤◌, ℤ, pos, negsuc, ◌-ℤ◌, ◌*ℤ◌, neg_ℤ, nat_abs, sym, refl, div-mul-le_self, arith}
use lib.IntN.{neg_ℤ-neg_ℤ}
use Rattle.std.specs.Int.{div_ceil}
use Rattle.std.proofs.lemmas.Grind.{common_steps}
use Rattle.std.proofs.lemmas.Nat.{le-div}
use Rattle.std.proofs.lemmas.Int.{ints}
use Rattle.prices.specs.Rounding.{up, nearest, nearestℤ}

-- the library's `div_ceil` is `up`
pub up_is : (n d : ℕ) → 0 < d → div_ceil n d ≡ up n d
up_is n d p = grind (arith, common_steps)

pub div_order : (m n d : ℕ) → 0 < d → m ≤ n → m / d ≤ n / d
div_order m n d p h = le-div (m / d) n d p (omega (arith, div-mul-le_self m d))

-- off by a half at most
pub nearest_low : (n d : ℕ) → 2 * (nearest n d * d) ≤ 2 * n + d
nearest_low n d = omega (arith, div-mul-le_self (2 * n + d) (2 * d))

pub nearest_high : (n d : ℕ) → 0 < d → 2 * n < 2 * (nearest n d * d) + d
nearest_high n d p = grind arith

neg_times : (q d : ℕ) → neg_ℤ (pos q) *ℤ pos d ≡ neg_ℤ (pos (q * d))
neg_times q d = grind arith

pub signed_near : (z : ℤ) (d : ℕ) → 0 < d → 2 * nat_abs (nearestℤ z d *ℤ pos d -ℤ z) ≤ d
signed_near (pos n) d p = omega (arith, ints, nearest_low n d, nearest_high n d p)
signed_near (negsuc n) d p = rw (neg_times (nearest (suc n) d) d) (omega (arith, ints, nearest_low (suc n) d, nearest_high (suc n) d p))

zero_near : (d : ℕ) → 0 < d → nearest 0 d ≡ 0
zero_near d p = grind arith

pub signed_turned : (z : ℤ) (d : ℕ) → 0 < d → nearestℤ (neg_ℤ z) d ≡ neg_ℤ (nearestℤ z d)
signed_turned (pos zero) d p = rw (zero_near d p) refl
signed_turned (pos (suc n)) d p = refl
signed_turned (negsuc n) d p = sym (neg_ℤ-neg_ℤ (pos (nearest (suc n) d)))

pub ruleset laws = (div_order, signed_near, signed_turned)
