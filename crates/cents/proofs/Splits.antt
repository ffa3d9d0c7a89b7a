-- Sums of a signed amount and a rest, and their split into whole cents and a new rest.
use Rattle.std.proofs.Common.{◌≡◌, ℕ, ◌%◌, ◌<◌, ◌≤◌, ℤ, pos, negsuc, ◌+ℤ◌, ◌*ℤ◌, nat_abs, mod-lt, div-add-mod', arith, w64, SFits}
use Rattle.std.proofs.lemmas.Int.{to_z-of_z, ints}
use Rattle.ledger.specs.Limits.{Within}
use Rattle.prices.specs.Cents.{cents, rest}
use Rattle.ledger.proofs.Money.{back, fits_within}

-- up to a cent more than a balance is within 64 bits
module _ (b : ℤ) (n : ℕ) (w : Within b) (h : n ≤ 100) where
  pub near_fits : SFits w64 (back b +ℤ back (pos n))
  near_fits =
      let s : SFits w64 (b +ℤ pos n) = omega (arith, ints) in
      let f = fits_within b w in
      let g : SFits w64 (pos n) = omega (arith, ints) in
      simp to_z-of_z s

  pub near_shown : back (back b +ℤ back (pos n)) ≡ b +ℤ pos n
  near_shown =
      let s : SFits w64 (b +ℤ pos n) = omega (arith, ints) in
      let f = fits_within b w in
      let g : SFits w64 (pos n) = omega (arith, ints) in
      simp to_z-of_z

-- the parts of a sum z
pub record Split (z : ℤ) : Type 0 where
  pub sum : (cents z *ℤ pos 100) +ℤ pos (rest z) ≡ z
  pub small : rest z < 100

pub splits : (z : ℤ) → Split z
splits (pos n) = let d = div-add-mod' n 100 in let m : n % 100 < 100 = mod-lt n (omega arith) in record { sum = omega (arith, ints); small = m }
splits (negsuc n) = let d = div-add-mod' n 100 in let m : n % 100 < 100 = mod-lt n (omega arith) in record { sum = omega (arith, ints); small = omega arith }

-- whole cents within 99 of the largest payment are no more than it
whole_size : (c : ℤ) → nat_abs (c *ℤ pos 100) ≤ 4000000000000000099 → nat_abs (c *ℤ pos 100) ≤ 4000000000000000000
whole_size (pos n) h = omega (arith, ints)
whole_size (negsuc n) h = omega (arith, ints)

few : (c : ℤ) → nat_abs (c *ℤ pos 100) ≤ 4000000000000000000 → nat_abs c ≤ 40000000000000001
few (pos n) h = omega (arith, ints)
few (negsuc n) h = omega (arith, ints)

module _ (x : ℤ) (o : ℕ) (size : nat_abs x ≤ 4000000000000000000) (h : o < 100) where
  pub cents_size : nat_abs (cents (x +ℤ pos o) *ℤ pos 100) ≤ 4000000000000000000
  cents_size =
      let s = splits (x +ℤ pos o) in
      let e = s.sum in
      let r = s.small in
      whole_size (cents (x +ℤ pos o)) (omega (arith, ints))

  pub cents_few : nat_abs (cents (x +ℤ pos o)) ≤ 40000000000000001
  cents_few = few (cents (x +ℤ pos o)) cents_size
