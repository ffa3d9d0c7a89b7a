-- Figures worked out by hand, which the formulas must give.
use Rattle.std.specs.Prelude.{◌≡◌, ℕ, ◌<◌, true, false, pos, negsuc, ◌+ℤ◌}
use Rattle.prices.specs.Cents.{below, rest}
use Rattle.prices.specs.Prices.{accrual}
use Rattle.prices.specs.Returns.{admitted, return_of, square_of}
use Rattle.prices.specs.Variance.{variance_at, units}

pub record CheckedFigures : Type 0 where
  -- 10,000 then 10,100
  pub return_is : return_of 10000 10100 ≡ 99503306
  pub square_is : square_of (return_of 10000 10100) ≡ 99009079
  -- after 30,000 the highest admitted value is 40,000
  pub admitted_is : admitted 30000 40000 ≡ true
  pub not_admitted : admitted 30000 40001 ≡ false
  -- Ne 4, n 1, that square, tick 400
  pub variance_is : variance_at 4 1 (square_of (return_of 10000 10100)) 400 ≡ 3498343
  -- n 0, vega 100, tick 513, for every Ne
  pub units_are : (Ne : ℕ) → 1 < Ne → units Ne 0 100 513 ≡ 1950
  -- F 10,430,594, A 0, rate 180
  pub first_accrual : accrual (pos 10430594) (pos 0) 180 ≡ pos 215297
  -- F 9,247,869, A 215,297, rate 90: it takes 188,027
  pub second_accrual : accrual (pos 9247869) (pos 215297) 90 ≡ negsuc 188026
  -- a payment of -1 on a rest of 0: -100 goes below, and 99 is left
  pub paid_below : below (pos 0 +ℤ negsuc 0) ≡ negsuc 99
  pub rest_left : rest (pos 0 +ℤ negsuc 0) ≡ 99
