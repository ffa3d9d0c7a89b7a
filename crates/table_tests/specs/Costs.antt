-- The cost of an account.
use Rattle.std.specs.Prelude.{ℤ}
use Rattle.positions.specs.declared.records.Account.{Account}

-- the account at the cost z
abbrev pub costing : ℤ → Account → Account
costing z a = record { units = a.units; units_at_close = a.units_at_close; cost = z }
