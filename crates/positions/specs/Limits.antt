-- The limits of a position, of a day's trades and of the tables.
use Rattle.std.specs.Prelude.{ℕ, Bool, ◌&&◌, ℤ, nat_le, unsigned_abs}
use Rattle.positions.specs.declared.records.Account.{Account}

-- units of an account, long or short
abbrev pub most_units : ℕ
most_units = 125000

-- cost of a day's trades, in ten-thousandths of a dollar, above or below zero
abbrev pub most_cost : ℕ
most_cost = 4000000000000000000

-- the places of the two tables that are used
abbrev pub account_places : ℕ
account_places = 64

abbrev pub trade_places : ℕ
trade_places = 512

-- the last ticket of a contract
abbrev pub last_ticket : ℕ
last_ticket = 10000

-- a size of n at most
abbrev pub inside : ℕ → ℤ → Bool
inside n z = nat_le (unsigned_abs z) n

abbrev pub units_within : Account → Bool
units_within x = inside most_units x.units && inside most_units x.units_at_close

abbrev pub cost_within : Account → Bool
cost_within x = inside most_cost x.cost
