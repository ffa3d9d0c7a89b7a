-- What always holds of a contract's figures, where it depends on the phase.
use Rattle.std.specs.Prelude.{ℕ, ◌-◌, Some, None, Option}
use Rattle.contract.specs.declared.figures.Phase.{Phase}
use Rattle.contract.specs.declared.figures.Phase.TheVariants.{Unlisted, Ready, Trading, Closed}

-- the least number of expected values, and the least strike: none before the listing
abbrev pub least_expected : Phase → ℕ
least_expected Unlisted = 0
least_expected Ready = 3
least_expected Trading = 3
least_expected Closed = 3

abbrev pub least_strike : Phase → ℕ
least_strike Unlisted = 0
least_strike Ready = 1
least_strike Trading = 1
least_strike Closed = 1

-- a discount factor is there from the opening on
abbrev pub least_discount : Phase → ℕ
least_discount Unlisted = 0
least_discount Ready = 0
least_discount Trading = 1
least_discount Closed = 1

-- the closes still owed by the day under way
abbrev pub pending : Phase → ℕ
pending Unlisted = 0
pending Ready = 0
pending Trading = 1
pending Closed = 0

-- the phase Closed comes only after a close
abbrev pub least_closes : Phase → ℕ
least_closes Unlisted = 0
least_closes Ready = 0
least_closes Trading = 0
least_closes Closed = 1

-- one accrual for each close, but in the phase Closed the last is still to come
abbrev pub accruals : Phase → ℕ → ℕ
accruals Unlisted closes = closes
accruals Ready closes = closes
accruals Trading closes = closes
accruals Closed closes = closes - 1

-- what bears interest: near to the discounted variance at a close, and within reach of price and accumulated return at any time
abbrev pub most_bearing : Phase → ℕ
most_bearing Unlisted = 50000000000000
most_bearing Ready = 50000000000000
most_bearing Trading = 50000000000000
most_bearing Closed = 21000000005000

-- how many values are kept beyond the returns between them
abbrev pub unpaired : Option ℕ → ℕ
unpaired None = 0
unpaired (Some v) = 1

-- the last value kept, or 1 where there is none
abbrev pub value_or_one : Option ℕ → ℕ
value_or_one None = 1
value_or_one (Some v) = v
