-- Variances, in ten-thousandths of a point, and the units of a trade.
-- Ne is the number of expected values, n the number of returns so far, S the sum of their squares U.
use Rattle.std.specs.Prelude.{ℕ, ◌+◌, ◌-◌, ◌*◌}
use Rattle.prices.specs.Rounding.{nearest, up}

-- v, the volatility of a tick, in hundredths of a point
abbrev pub volatility : ℕ → ℕ
volatility tick = 5 * tick

-- k: v squared for each return to come, and the squares of those made
abbrev pub variance_at : ℕ → ℕ → ℕ → ℕ → ℕ
variance_at Ne n S tick =
    nearest (volatility tick * volatility tick * (Ne - 1 - n) * 10000 + 252 * S) (10000 * (Ne - 1))

-- V, the realised variance
abbrev pub realised : ℕ → ℕ → ℕ
realised Ne S = nearest (252 * S) (10000 * (Ne - 1))

-- the units of a trade of so many thousands of vega
abbrev pub units : ℕ → ℕ → ℕ → ℕ → ℕ
units Ne n vega tick = up (vega * 50000 * (Ne - 1)) (volatility tick * (Ne - 1 - n))
