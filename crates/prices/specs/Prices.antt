-- Prices and money, in ten-thousandths of a point or dollar, and the accumulated return A, in hundred-millionths.
use Rattle.std.specs.Prelude.{ℕ, ◌+◌, ℤ, pos, ◌+ℤ◌, ◌-ℤ◌, ◌*ℤ◌}
use Rattle.prices.specs.Rounding.{nearestℤ, up}

-- the price of a variance at the strike, before any return has accumulated: 1,000 points
abbrev pub base_price : ℤ
base_price = pos 10000000

-- the mark of a bid and an offer, in ticks
abbrev pub mark : ℕ → ℕ → ℕ
mark bid offer = up (bid + offer) 2

-- DF × (k - k0) / 10^8 - A / 10^4 + the base price, over 10^8
abbrev pub converted : ℕ → ℕ → ℕ → ℤ → ℤ
converted DF k k0 A =
    nearestℤ (pos DF *ℤ (pos k -ℤ pos k0) -ℤ A *ℤ pos 10000 +ℤ base_price *ℤ pos 100000000) 100000000

-- V - k0 - A / 10^4 + the base price, over 10^4
abbrev pub final : ℕ → ℕ → ℤ → ℤ
final V k0 A = nearestℤ ((pos V -ℤ pos k0) *ℤ pos 10000 -ℤ A +ℤ base_price *ℤ pos 10000) 10000

-- what bears interest at a settlement price F, in hundred-millionths
abbrev pub bearing : ℤ → ℤ → ℤ
bearing F A = (F -ℤ base_price) *ℤ pos 10000 +ℤ A

-- what an accrual adds to A, for one day at a rate in hundredths of a percent of a year of 360 days
abbrev pub accrual : ℤ → ℤ → ℕ → ℤ
accrual F A rate = nearestℤ (bearing F A *ℤ pos rate) 3600000
