-- Changes that pass every check.
use Rattle.std.specs.Prelude.{◌≡◌, ℕ, true, List, ℤ, neg_ℤ}
use Rattle.table.specs.declared.keyed.Keyed.{Keyed}
use Rattle.table.specs.View.{place_for}
use Rattle.positions.specs.declared.records.Account.{Account}
use Rattle.positions.specs.Positions.{account_of, changed}
use Rattle.positions.specs.Trading.{units_hold, cost_holds}

-- q units more at the cost `value`, to the account a of a table of `room` places
pub record Allowed (room a : ℕ) (q value : ℤ) (xs : List (Keyed Account)) : Type 0 where
  pub units : units_hold q (account_of a xs) ≡ true
  pub cost : cost_holds value (account_of a xs) ≡ true
  pub place : place_for room a xs ≡ true

-- as much to the buyer b, and then its opposite to the seller s
pub record BothAllowed (room b s : ℕ) (q value : ℤ) (xs : List (Keyed Account)) : Type 0 where
  pub buyer : Allowed room b q value xs
  pub seller : Allowed room s (neg_ℤ q) (neg_ℤ value) (changed b q value xs)
