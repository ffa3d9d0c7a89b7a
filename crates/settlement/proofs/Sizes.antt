-- How large the parts of a payment are.
use Rattle.std.proofs.Common.{◌≡◌, ℕ, ◌*◌, ◌≤◌, true, ℤ, ◌-ℤ◌, ◌*ℤ◌, mul-le-mul, arith}
use Rattle.std.specs.Int.RustNames.{unsigned_abs}
use Rattle.std.proofs.lemmas.Bool.Decides.{nat_tests}
use Rattle.std.proofs.lemmas.Int.{unsigned_abs-mul, ints}
use Rattle.positions.specs.declared.records.Account.{Account}
use Rattle.positions.specs.Limits.{cost_within, units_within}

pub units_small : (x : Account) → units_within x ≡ true → (unsigned_abs x.units ≤ 125000) × (unsigned_abs x.units_at_close ≤ 125000)
units_small x h = (grind (arith, nat_tests), grind (arith, nat_tests))

pub cost_small : (x : Account) → cost_within x ≡ true → unsigned_abs x.cost ≤ 4000000000000000000
cost_small x h = grind (arith, nat_tests)

pub product_most : (a b : ℤ) (m n : ℕ) → unsigned_abs a ≤ m → unsigned_abs b ≤ n → unsigned_abs (a *ℤ b) ≤ m * n
product_most a b m n h k = rw unsigned_abs-mul (mul-le-mul h k)

pub gain_small : (x : Account) (from to : ℤ) → units_within x ≡ true → unsigned_abs from ≤ 3400000000 → unsigned_abs to ≤ 3400000000 → unsigned_abs (x.units_at_close *ℤ (to -ℤ from)) ≤ 1000000000000000
gain_small x from to h f t =
    let s = units_small x h in
    let p = product_most x.units_at_close (to -ℤ from) 125000 6800000000 s.1 (omega (arith, ints)) in
    omega arith

pub worth_small : (x : Account) (price : ℤ) → units_within x ≡ true → unsigned_abs price ≤ 3400000000 → unsigned_abs ((x.units -ℤ x.units_at_close) *ℤ price) ≤ 1000000000000000
worth_small x price h f =
    let s = units_small x h in
    let p = product_most (x.units -ℤ x.units_at_close) price 250000 3400000000 (omega (arith, ints)) f in
    omega arith
