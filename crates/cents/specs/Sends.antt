-- What a payment to the layer sends below and what it keeps.
use Rattle.std.specs.Prelude.{◌≡◌, ℕ, Bool, true, false, List, map, ℤ, pos, ◌+ℤ◌, ◌*ℤ◌, Some, Ok, Err, Result, ◌≢◌}
use Rattle.faults.specs.declared.Fault.{Fault}
use Rattle.prices.specs.Cents.{cents, rest}
use Rattle.ledger.specs.Limits.{is_zero}
use Rattle.ledger.specs.Meaning.{Meaning, Same}
use Rattle.ledger.specs.Payments.{Raised, fault_of}
use Rattle.balances.specs.declared.rows.Row.{Row}
use Rattle.cents.specs.declared.rest.Rest.{Rest}
use Rattle.cents.specs.Layer.{rest_of}

-- the ledger below takes whole cents, unless there are none
abbrev pub Below : Bool → Meaning → ℕ → ℤ → Meaning → Type 0
Below true m a c n = Same m n
Below false m a c n = Raised m a (c *ℤ pos 100) n

abbrev pub PaysCents : {U : Type 0} → Meaning → ℕ → ℤ → Result U Fault → Meaning → Type 0
PaysCents m a c (Ok u) n = Below (is_zero c) m a c n
PaysCents m a c (Err fault) n = fault_of m a (c *ℤ pos 100) ≡ Some fault

-- the amount and the old rest make a sum: its whole cents go below, its rest is kept, and the other rests stay
pub record Sent (m : Meaning) (rows : List (Row Rest)) (a : ℕ) (sum : ℤ) (n : Meaning) (after : List (Row Rest)) : Type 0 where
  pub below : Below (is_zero (cents sum)) m a (cents sum) n
  pub accounts : map (λ row. row.account) after ≡ map (λ row. row.account) rows
  pub kept : rest_of after a ≡ rest sum
  pub others : (b : ℕ) → (b ≢ a) → rest_of after b ≡ rest_of rows b

-- a payment that is refused sends and keeps nothing
abbrev pub Sends : {U : Type 0} → Meaning → List (Row Rest) → ℕ → ℤ → Result U Fault → Meaning → List (Row Rest) → Type 0
Sends m rows a x (Ok u) n after = Sent m rows a (x +ℤ pos (rest_of rows a)) n after
Sends m rows a x (Err fault) n after = Same m n × (after ≡ rows)
