-- What an `Accounts` lists.
use Rattle.std.specs.Prelude.{◌≡◌, ℕ, List, take, Some, None, Ok, Err, Result}
use Rattle.faults.specs.declared.Fault.{Fault}
use Rattle.balances.specs.declared.accounts.Accounts.{Accounts}
use Rattle.balances.specs.Lists.{different, list_fault}

-- in their order
abbrev pub listed : Accounts → List ℕ
listed s = take s.count s.numbers

-- the different accounts of a list, or its refusal
abbrev pub Lists : List ℕ → Result Accounts Fault → Type 0
Lists xs (Ok s) = (list_fault xs ≡ None) × (listed s ≡ different xs)
Lists xs (Err fault) = list_fault xs ≡ Some fault
