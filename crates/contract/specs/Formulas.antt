-- The formulas over a contract's figures. Ne is the number of expected values, k0 the strike, DF the discount factor, A the accumulated return.
use Rattle.std.specs.Prelude.{ℕ, ◌+◌, Bool, true, ℤ, Some, None, Option}
use Rattle.prices.specs.Returns.{admitted, return_of, square_of}
use Rattle.prices.specs.Variance.{variance_at}
use Rattle.prices.specs.Prices.{mark, converted, accrual}
use Rattle.contract.specs.declared.figures.IndexRecord.{IndexRecord}

-- U, of two values in a row
unfoldable pub square_between : ℕ → ℕ → ℕ
square_between a b = square_of (return_of a b)

-- the first value makes no return
abbrev pub keep_after : Option ℕ → ℕ → IndexRecord → IndexRecord
keep_after None v x = record { last = Some v; returns = x.returns; sum_of_squares = x.sum_of_squares }
keep_after (Some a) v x = record { last = Some v; returns = x.returns + 1; sum_of_squares = x.sum_of_squares + square_between a v }

-- a disrupted day adds no value; the next return starts from the last value kept
abbrev pub keep : Option ℕ → IndexRecord → IndexRecord
keep None x = x
keep (Some v) x = keep_after x.last v x

abbrev pub follows : Option ℕ → ℕ → Bool
follows None v = true
follows (Some a) v = admitted a v

-- whether a day's value may follow those kept
abbrev pub admits : Option ℕ → Option ℕ → Bool
admits last None = true
admits last (Some v) = follows last v

-- the converted price of a tick
unfoldable pub price_of : ℕ → ℕ → ℕ → IndexRecord → ℤ → ℕ → ℤ
price_of Ne k0 DF x A tick = converted DF (variance_at Ne x.returns x.sum_of_squares tick) k0 A

-- the settlement price F of a day, with that day's return counted
unfoldable pub close_price : ℕ → ℕ → ℕ → IndexRecord → ℤ → ℕ → ℕ → ℤ
close_price Ne k0 DF x A bid offer = price_of Ne k0 DF x A (mark bid offer)

-- what an accrual adds to A
unfoldable pub growth : ℤ → ℤ → ℕ → ℤ
growth F A rate = accrual F A rate
