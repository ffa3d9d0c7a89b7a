-- What trades, busts and closes do to the records of accounts.
use Rattle.std.specs.Prelude.{ℕ, List, ℤ, pos, ◌+ℤ◌, ◌*ℤ◌, neg_ℤ, Some, None, Option}
use Rattle.table.specs.declared.keyed.Keyed.{Keyed}
use Rattle.table.specs.Records.{find_in, put_in}
use Rattle.positions.specs.declared.records.Account.{Account}
use Rattle.positions.specs.declared.records.Trade.{Trade}

abbrev pub no_position : Account
no_position = record { units = pos 0; units_at_close = pos 0; cost = pos 0 }

abbrev pub position : Option (Keyed Account) → Account
position None = no_position
position (Some x) = x.value

-- an account's record, with nothing in it for one that is not in the table
abbrev pub account_of : ℕ → List (Keyed Account) → Account
account_of a xs = position (find_in a xs)

-- q units more, at the cost `value`
abbrev pub more : ℤ → ℤ → Account → Account
more q value x = record { units = x.units +ℤ q; units_at_close = x.units_at_close; cost = x.cost +ℤ value }

-- the same to the account a of a table
abbrev pub changed : ℕ → ℤ → ℤ → List (Keyed Account) → List (Keyed Account)
changed a q value xs = put_in (record { key = a; value = more q value (account_of a xs) }) xs

-- units times price, in ten-thousandths of a dollar
abbrev pub cost_of : Trade → ℤ
cost_of t = pos t.units *ℤ t.price

-- the buyer gets the units at their cost, then the seller gives as many up
abbrev pub traded : Trade → List (Keyed Account) → List (Keyed Account)
traded t xs = changed t.seller (neg_ℤ (pos t.units)) (neg_ℤ (cost_of t)) (changed t.buyer (pos t.units) (cost_of t) xs)

-- a bust takes both back
abbrev pub busted : Trade → List (Keyed Account) → List (Keyed Account)
busted t xs = changed t.seller (pos t.units) (cost_of t) (changed t.buyer (neg_ℤ (pos t.units)) (neg_ℤ (cost_of t)) xs)
