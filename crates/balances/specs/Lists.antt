-- A list of accounts: which it has, and when it is refused.
use Rattle.std.specs.Prelude.{◌≡◌, ℕ, Bool, false, cond, List, [], ◌∷◌, ◌++◌, length, Some, None, Ok, Err, fold, Option, Result, ◌==◌, nat_le, slice_index}
use Rattle.std.specs.List.{list_all, list_any}
use Rattle.faults.specs.declared.Fault.{Fault}
use Rattle.faults.specs.declared.Refusal.TheVariants.{AccountNumber, NoAccountPlace}
use Rattle.faults.specs.Checks.{Check, check, ◌else◌, first_fault}
use Rattle.faults.specs.Refusals.{named}
use Rattle.ledger.specs.Limits.{admitted}
use Rattle.balances.specs.Places.{places}

abbrev pub has : List ℕ → ℕ → Bool
has xs a = list_any (λ x. x == a) xs

-- the different accounts of a list, each where it first came
abbrev pub add_new : List ℕ → ℕ → List ℕ
add_new seen a = cond (has seen a) seen (seen ++ a ∷ [])

abbrev pub different : List ℕ → List ℕ
different xs = fold add_new [] xs

-- 4, then 37, which names the 65th different account
abbrev pub list_checks : List ℕ → List Check
list_checks xs =
    (list_all admitted xs else AccountNumber)
    ∷ (check (nat_le (length (different xs)) places) NoAccountPlace (slice_index (different xs) places) ∷ [])

unfoldable pub list_fault : List ℕ → Option Fault
list_fault xs = first_fault (list_checks xs)

-- whom a ledger made of a list knows: those of the list, or none if it is refused
abbrev pub unless : Option Fault → Bool → Bool
unless None b = b
unless (Some fault) b = false

abbrev pub on_list : List ℕ → ℕ → Bool
on_list xs a = unless (list_fault xs) (has xs a)

-- an account is added to xs, or finds no place
abbrev pub Adds : {U : Type 0} → List ℕ → ℕ → Result U Fault → List ℕ → Type 0
Adds xs a (Ok u) ys = ys ≡ add_new xs a
Adds xs a (Err fault) ys = (fault ≡ named NoAccountPlace a) × (has xs a ≡ false) × (length xs ≡ places) × (ys ≡ xs)
