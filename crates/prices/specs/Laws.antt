-- What the roundings mean, without their formulas. d is the divisor, n / d or z / d the exact quotient.
use Rattle.std.specs.Prelude.{◌≡◌, ℕ, ◌+◌, ◌*◌, ◌<◌, ◌≤◌, ℤ, pos, ◌-ℤ◌, ◌*ℤ◌, neg_ℤ, ◌≤ℤ◌, unsigned_abs}
use Rattle.prices.specs.Rounding.{down, up, nearest, nearestℤ}

pub record RoundingLaws : Type 0 where
  -- down: never above the quotient, and less than one below it
  pub down_below : (n d : ℕ) → 0 < d → down n d * d ≤ n
  pub down_near : (n d : ℕ) → 0 < d → n < down n d * d + d
  pub down_exact : (q d : ℕ) → 0 < d → down (q * d) d ≡ q
  pub down_order : (m n d : ℕ) → 0 < d → m ≤ n → down m d ≤ down n d
  -- up: the least whole number not below the quotient, less than one above it
  pub up_above : (n d : ℕ) → 0 < d → n ≤ up n d * d
  pub up_near : (n d : ℕ) → 0 < d → up n d * d < n + d
  pub up_least : (n d q : ℕ) → 0 < d → n ≤ q * d → up n d ≤ q
  pub up_exact : (q d : ℕ) → 0 < d → up (q * d) d ≡ q
  pub up_order : (m n d : ℕ) → 0 < d → m ≤ n → up m d ≤ up n d
  -- nearest: off by a half at most, and where it is just a half, away from zero
  pub nearest_near : (z : ℤ) (d : ℕ) → 0 < d → 2 * unsigned_abs (nearestℤ z d *ℤ pos d -ℤ z) ≤ d
  pub nearest_half : (z : ℤ) (d : ℕ) → 0 < d → 2 * unsigned_abs (nearestℤ z d *ℤ pos d -ℤ z) ≡ d → unsigned_abs z < unsigned_abs (nearestℤ z d) * d
  pub nearest_exact : (q : ℤ) (d : ℕ) → 0 < d → nearestℤ (q *ℤ pos d) d ≡ q
  pub nearest_order : (z y : ℤ) (d : ℕ) → 0 < d → z ≤ℤ y → nearestℤ z d ≤ℤ nearestℤ y d
  -- the same on both sides of zero, and of an unsigned quotient
  pub nearest_turned : (z : ℤ) (d : ℕ) → 0 < d → nearestℤ (neg_ℤ z) d ≡ neg_ℤ (nearestℤ z d)
  pub nearest_unsigned : (n d : ℕ) → nearestℤ (pos n) d ≡ pos (nearest n d)
  pub unsigned_exact : (q d : ℕ) → 0 < d → nearest (q * d) d ≡ q
  pub unsigned_order : (m n d : ℕ) → 0 < d → m ≤ n → nearest m d ≤ nearest n d
