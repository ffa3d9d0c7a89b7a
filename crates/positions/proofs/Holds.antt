-- The sizes of what a change leaves within its limits.
use Rattle.std.proofs.Common.{◌≡◌, ◌≤◌, true, ℤ, ◌+ℤ◌, nat_abs, arith, w64, SFits}
use Rattle.std.proofs.lemmas.Int.{ints}
use Rattle.std.proofs.lemmas.Bool.Decides.{nat_tests}
use Rattle.positions.specs.declared.records.Account.{Account}
use Rattle.positions.specs.Limits.{most_units, most_cost}
use Rattle.positions.specs.Trading.{units_hold, cost_holds}

pub units_fit : (q : ℤ) (x : Account) → units_hold q x ≡ true → SFits w64 (x.units +ℤ q)
unfolding units_hold
units_fit q x h = let size : nat_abs (x.units +ℤ q) ≤ most_units = grind (arith, nat_tests) in omega (arith, ints)

pub cost_fits : (v : ℤ) (x : Account) → cost_holds v x ≡ true → SFits w64 (x.cost +ℤ v)
unfolding cost_holds
cost_fits v x h = let size : nat_abs (x.cost +ℤ v) ≤ most_cost = grind (arith, nat_tests) in omega (arith, ints)
