-- What bears interest at a converted price hardly depends on A.
use Rattle.std.proofs.Common.{◌≡◌, ℕ, ◌*◌, ◌≤◌, ℤ, pos, ◌+ℤ◌, ◌-ℤ◌, ◌*ℤ◌, nat_abs, refl, mul-le-mul, arith, lit<}
use Rattle.std.proofs.lemmas.Int.{ints, unsigned_abs-mul, to_z-of_z}
use lib.IntN.{*ℤ_comm}
use Rattle.prices.specs.Prices.{converted, bearing}
use Rattle.prices.specs.Rounding.{nearestℤ}
use Rattle.prices.proofs.Quotients.{signed_near}

near : (P A F : ℤ) → 2 * nat_abs (F *ℤ pos 100000000 -ℤ (P -ℤ A *ℤ pos 10000 +ℤ pos 1000000000000000)) ≤ 100000000 → nat_abs P ≤ 210000000000000000
    → nat_abs (bearing F A) ≤ 21000000005000
near P A F o h = omega (arith, ints)

-- of any price F that is the nearest to such a P, less A, on the base price
pub converted_bearing : (P A F : ℤ) → F ≡ nearestℤ (P -ℤ A *ℤ pos 10000 +ℤ pos 1000000000000000) 100000000 → nat_abs P ≤ 210000000000000000
    → nat_abs (bearing F A) ≤ 21000000005000
converted_bearing P A F e h = near P A F (rw e (signed_near (P -ℤ A *ℤ pos 10000 +ℤ pos 1000000000000000) 100000000 (lit< tt))) h

-- and so of a converted price
pub price_bearing : (DF k k0 : ℕ) (A : ℤ) → DF ≤ 100000000 → k ≤ 2100000000 → k0 ≤ 2100000000 → nat_abs (bearing (converted DF k k0 A) A) ≤ 21000000005000
price_bearing DF k k0 A d u v =
    let g : nat_abs (pos k -ℤ pos k0) ≤ 2100000000 = omega (arith, ints) in
    converted_bearing (pos DF *ℤ (pos k -ℤ pos k0)) A (converted DF k k0 A) refl (rw unsigned_abs-mul (mul-le-mul d g))

-- for the proofs of prices: a number passed on is that number
pub ruleset pricing = (price_bearing, to_z-of_z, *ℤ_comm)
