-- What trades and busts give back, and the sums that they leave as they were.
use Rattle.std.specs.Prelude.{◌≡◌, ℕ, List, None}
use Rattle.table.specs.declared.keyed.Keyed.{Keyed}
use Rattle.table.specs.Records.{find_in, put_in, take_out, sum_of}
use Rattle.positions.specs.declared.records.Account.{Account}
use Rattle.positions.specs.declared.records.Trade.{Trade}
use Rattle.positions.specs.Positions.{account_of, traded, busted}

-- the units of all accounts come to the same in both tables, those at the last close too, and the costs
pub record SameTotals (xs ys : List (Keyed Account)) : Type 0 where
  pub units : sum_of (λ (x : Keyed Account). x.value.units) ys ≡ sum_of (λ (x : Keyed Account). x.value.units) xs
  pub at_close : sum_of (λ (x : Keyed Account). x.value.units_at_close) ys ≡ sum_of (λ (x : Keyed Account). x.value.units_at_close) xs
  pub cost : sum_of (λ (x : Keyed Account). x.value.cost) ys ≡ sum_of (λ (x : Keyed Account). x.value.cost) xs

pub record PositionsBalance : Type 0 where
  -- a bust right after its trade gives back every unit and every cost, even where an account sells to itself
  pub given_back : (t : Trade) (xs : List (Keyed Account)) (a : ℕ) → account_of a (busted t (traded t xs)) ≡ account_of a xs
  -- and the place of the trade
  pub place_back : (ticket : ℕ) (t : Trade) (ts : List (Keyed Trade)) → find_in ticket ts ≡ None → take_out ticket (put_in (record { key = ticket; value = t }) ts) ≡ ts
  -- what one side gets the other gives
  pub trade_totals : (t : Trade) (xs : List (Keyed Account)) → SameTotals xs (traded t xs)
  pub bust_totals : (t : Trade) (xs : List (Keyed Account)) → SameTotals xs (busted t xs)
