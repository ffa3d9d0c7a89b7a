-- The limits of the figures that come in, each in its unit.
use Rattle.std.specs.Prelude.{ℕ, Bool, ◌&&◌, nat_le}

-- whether n lies from low to high
abbrev pub between : ℕ → ℕ → ℕ → Bool
between low high n = nat_le low n && nat_le n high

-- Ne, the number of index values that a contract expects
abbrev pub is_expected_values : ℕ → Bool
is_expected_values n = between 3 1024 n

-- the initial strike k0, a variance in ten-thousandths of a point
abbrev pub is_strike : ℕ → Bool
is_strike n = between 1 250000000 n

-- the discount factor DF, in hundred-millionths
abbrev pub is_discount_factor : ℕ → Bool
is_discount_factor n = between 1 100000000 n

-- vega, in thousands of dollars
abbrev pub is_vega : ℕ → Bool
is_vega n = between 1 20000 n

-- a tick, 0.05 volatility points
abbrev pub is_tick : ℕ → Bool
is_tick n = between 1 4000 n

-- an index value, in hundredths of a point
abbrev pub is_index_value : ℕ → Bool
is_index_value n = between 1 9999999 n

-- an account's number
abbrev pub is_account_number : ℕ → Bool
is_account_number n = between 1 16383 n

-- a rate, in hundredths of a percent
abbrev pub is_rate : ℕ → Bool
is_rate n = between 0 2000 n
