-- The payments at a price F after the last price, what they are refused for, and the records that they leave.
use Rattle.std.specs.Prelude.{◌≡◌, false, not, ◌&&◌, ◌||◌, List, [], ◌∷◌, ◌++◌, map, ℤ, pos, ◌+ℤ◌, ◌-ℤ◌, ◌*ℤ◌, Some, None, Ok, Err, Option, Result}
use Rattle.faults.specs.declared.Fault.{Fault}
use Rattle.faults.specs.declared.Refusal.TheVariants.{UnknownAccount, AccountUnits, NotAdmitted, OutOfRange}
use Rattle.faults.specs.Checks.{Check, check, ◌else◌}
use Rattle.ledger.specs.declared.payment.Payment.{Payment}
use Rattle.ledger.specs.Limits.{is_zero, reaches}
use Rattle.ledger.specs.Meaning.{Meaning, Same}
use Rattle.ledger.specs.Payments.{Paid, capacity_check}
use Rattle.table.specs.declared.keyed.Keyed.{Keyed}
use Rattle.table.specs.Records.{revalued}
use Rattle.positions.specs.declared.records.Account.{Account}
use Rattle.positions.specs.Limits.{units_within, cost_within}
use Rattle.settlement.specs.declared.ending.Ending.{Ending}
use Rattle.settlement.specs.declared.ending.Ending.TheVariants.{Close, Settlement}

-- units at the last close times (F - last F), plus today's net units times F, minus cost
abbrev pub payment : ℤ → ℤ → Account → ℤ
payment last F x = x.units_at_close *ℤ (F -ℤ last) +ℤ (x.units -ℤ x.units_at_close) *ℤ F -ℤ x.cost

abbrev pub pay : ℤ → ℤ → Keyed Account → Payment
pay last F x = record { account = x.key; amount = payment last F x.value }

-- in table order; those of zero are not made
abbrev pub payments : ℤ → ℤ → List (Keyed Account) → List Payment
payments last F xs = map (pay last F) xs

-- ---- what they are refused for

-- a record past its limits forms no payment
unfoldable pub account_check : Meaning → ℤ → ℤ → Keyed Account → Check
account_check m last F x =
    check (not (units_within x.value && cost_within x.value) || (is_zero (payment last F x.value) || m.known x.key)) UnknownAccount x.key

unfoldable pub units_check : Keyed Account → Check
units_check x = check (units_within x.value) AccountUnits x.key

unfoldable pub balance_check : Meaning → ℤ → ℤ → Keyed Account → Check
balance_check m last F x =
    check (cost_within x.value && (is_zero (payment last F x.value) || reaches m.lowest m.highest (m.balance x.key) (payment last F x.value))) OutOfRange x.key

-- a value that is not admitted forms no price, and so no payments
abbrev pub pay_checks : Meaning → ℤ → Option ℤ → List (Keyed Account) → List Check
pay_checks m last (Some F) xs =
    map (account_check m last F) xs
    ++ (map units_check xs
    ++ (map (balance_check m last F) xs
    ++ (capacity_check m (payments last F xs) ∷ [])))
pay_checks m last None xs = map units_check xs ++ ((false else NotAdmitted) ∷ [])

-- ---- what they leave

-- a close empties the day's cost; the settlement has none
abbrev pub cost_after : Ending → Account → ℤ
cost_after Close x = pos 0
cost_after Settlement x = x.cost

abbrev pub left_by : Ending → Account → Account
left_by end x = record { units = x.units; units_at_close = x.units; cost = cost_after end x }

abbrev pub carried : Ending → Keyed Account → Keyed Account
carried end x = revalued (left_by end) x

abbrev pub paid_at : ℤ → Option ℤ → List (Keyed Account) → List Payment
paid_at last None xs = []
paid_at last (Some F) xs = payments last F xs

-- the table and the ledger before and after: accounts xs and xs', meanings m and m'
abbrev pub Settles : Option Fault → Ending → ℤ → Option ℤ → Result (Unit {0}) Fault → List (Keyed Account) → List (Keyed Account) → Meaning → Meaning → Type 0
Settles None end last F r xs xs' m m' = (r ≡ Ok tt) × (xs' ≡ map (carried end) xs) × Paid m (paid_at last F xs) m'
Settles (Some fault) end last F r xs xs' m m' = (r ≡ Err fault) × (xs' ≡ xs) × Same m m'
