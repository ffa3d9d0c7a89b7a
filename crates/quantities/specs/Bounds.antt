-- The bounds in the code are the limits of the figures.
use Rattle.std.specs.Prelude.{◌≡◌, ℕ}
use Rattle.quantities.specs.declared.TheConstants.{LOWEST_EXPECTED_VALUES, HIGHEST_EXPECTED_VALUES, LOWEST_STRIKE, HIGHEST_STRIKE, LOWEST_DISCOUNT_FACTOR, HIGHEST_DISCOUNT_FACTOR, LOWEST_VEGA, HIGHEST_VEGA, LOWEST_TICK, HIGHEST_TICK, LOWEST_INDEX_VALUE, HIGHEST_INDEX_VALUE, LOWEST_ACCOUNT_NUMBER, HIGHEST_ACCOUNT_NUMBER, LOWEST_RATE, HIGHEST_RATE}
use Rattle.quantities.specs.Limits.{between, is_expected_values, is_strike, is_discount_factor, is_vega, is_tick, is_index_value, is_account_number, is_rate}

pub record BoundsAreLimits : Type 0 where
  pub expected_values : (n : ℕ) → between LOWEST_EXPECTED_VALUES HIGHEST_EXPECTED_VALUES n ≡ is_expected_values n
  pub strike : (n : ℕ) → between LOWEST_STRIKE HIGHEST_STRIKE n ≡ is_strike n
  pub discount_factor : (n : ℕ) → between LOWEST_DISCOUNT_FACTOR HIGHEST_DISCOUNT_FACTOR n ≡ is_discount_factor n
  pub vega : (n : ℕ) → between LOWEST_VEGA HIGHEST_VEGA n ≡ is_vega n
  pub tick : (n : ℕ) → between LOWEST_TICK HIGHEST_TICK n ≡ is_tick n
  pub index_value : (n : ℕ) → between LOWEST_INDEX_VALUE HIGHEST_INDEX_VALUE n ≡ is_index_value n
  pub account_number : (n : ℕ) → between LOWEST_ACCOUNT_NUMBER HIGHEST_ACCOUNT_NUMBER n ≡ is_account_number n
  pub rate : (n : ℕ) → between LOWEST_RATE HIGHEST_RATE n ≡ is_rate n
