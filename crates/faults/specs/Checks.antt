-- Checks in a row, of which the first that fails is the fault.
use Rattle.std.specs.Prelude.{ℕ, Bool, cond, List, [], ◌∷◌, Some, None, Ok, Err, Option, Result}
use Rattle.faults.specs.declared.Fault.{Fault}
use Rattle.faults.specs.declared.Refusal.{Refusal}
use Rattle.faults.specs.Refusals.{named, plain}

pub record Check : Type 0 where
  pub passes : Bool
  pub fault : Fault

-- a check that names the account where it fails
abbrev pub check : Bool → Refusal → ℕ → Check
check passes refusal account = record { passes = passes; fault = named refusal account }

infixr 4 ◌else◌
-- or else the refusal, which names no account
abbrev pub ◌else◌ : Bool → Refusal → Check
passes else refusal = record { passes = passes; fault = plain refusal }

abbrev pub first_fault : List Check → Option Fault
first_fault [] = None
first_fault (c ∷ cs) = cond c.passes (first_fault cs) (Some c.fault)

-- x, unless a fault refuses it
abbrev pub verdict : {X : Type 0} → X → Option Fault → Result X Fault
verdict x None = Ok x
verdict x (Some fault) = Err fault
