-- Balances that come of a total for each known account.
use Rattle.std.specs.Prelude.{cond, ℤ, Some, None, Option}
use Rattle.ledger.specs.Limits.{farthest_balance, inside}

-- a total within the limits of balances
unfoldable pub if_within : ℤ → Option ℤ
if_within z = cond (inside farthest_balance z) (Some z) None
