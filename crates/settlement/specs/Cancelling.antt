-- The payments of accounts that hold and owe nothing together come to nothing.
use Rattle.std.specs.Prelude.{◌≡◌, List, [], ◌∷◌, ℤ, pos, ◌+ℤ◌}
use Rattle.ledger.specs.declared.payment.Payment.{Payment}
use Rattle.table.specs.declared.keyed.Keyed.{Keyed}
use Rattle.table.specs.Records.{sum_of}
use Rattle.positions.specs.declared.records.Account.{Account}
use Rattle.settlement.specs.Paying.{payments}

abbrev pub total : List Payment → ℤ
total [] = pos 0
total (p ∷ ps) = p.amount +ℤ total ps

-- what some accounts have, the others lack
pub record Balanced (xs : List (Keyed Account)) : Type 0 where
  pub units : sum_of (λ x. x.value.units) xs ≡ pos 0
  pub units_at_close : sum_of (λ x. x.value.units_at_close) xs ≡ pos 0
  pub cost : sum_of (λ x. x.value.cost) xs ≡ pos 0

-- at any two prices
abbrev pub PaymentsCancel : Type 0
PaymentsCancel = (last F : ℤ) (xs : List (Keyed Account)) → Balanced xs → total (payments last F xs) ≡ pos 0
