-- What a record is owed, where it may be past its limits.
use Rattle.std.specs.Prelude.{cond, ◌&&◌, ◌||◌, ℤ, pos, Some, None, Option}
use Rattle.std.specs.Option.{unwrap_or}
use Rattle.faults.specs.declared.Refusal.TheVariants.{OutOfRange}
use Rattle.faults.specs.Checks.{Check, check}
use Rattle.ledger.specs.Limits.{is_zero, reaches}
use Rattle.ledger.specs.Meaning.{Meaning}
use Rattle.ledger.specs.declared.payment.Payment.{Payment}
use Rattle.table.specs.declared.keyed.Keyed.{Keyed}
use Rattle.prices.specs.declared.price.Price.{Price}
use Rattle.positions.specs.declared.records.Account.{Account}
use Rattle.positions.specs.Limits.{units_within, cost_within}
use Rattle.settlement.specs.Paying.{payment}

-- a record past its limits forms no payment
unfoldable pub formed : ℤ → ℤ → Account → Option ℤ
formed last F x = cond (units_within x && cost_within x) (Some (payment last F x)) None

-- the payment to its account, of zero where it forms none
unfoldable pub owed : ℤ → ℤ → Keyed Account → Payment
owed last F x = record { account = x.key; amount = unwrap_or (formed last F x.value) (pos 0) }

-- whether its cost is within its limit, and that payment leaves its account in range
unfoldable pub owed_check : Meaning → ℤ → ℤ → Keyed Account → Check
owed_check m last F x =
    check (cost_within x.value && (is_zero (owed last F x).amount || reaches m.lowest m.highest (m.balance x.key) (owed last F x).amount)) OutOfRange x.key

-- the price's value, if there is a price
abbrev pub priced : Option Price → Option ℤ
priced None = None
priced (Some F) = Some F.value
