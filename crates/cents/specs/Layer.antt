-- The meaning of a cents layer over a ledger that means m, with the rests of its accounts in rows.
use Rattle.std.specs.Prelude.{◌≡◌, ℕ, Bool, cond, not, ◌&&◌, List, ℤ, pos, ◌+ℤ◌, None, Option, int_lt}
use Rattle.std.specs.Option.{option_and_then}
use Rattle.ledger.specs.Limits.{farthest_balance}
use Rattle.ledger.specs.declared.terms.Terms.{Terms}
use Rattle.ledger.specs.Meaning.{Meaning, meaning}
use Rattle.ledger.specs.Totals.{if_within}
use Rattle.balances.specs.declared.rows.Row.{Row}
use Rattle.balances.specs.Lists.{on_list}
use Rattle.balances.specs.Lookup.{kept, lookup}
use Rattle.cents.specs.declared.rest.Rest.{Rest}

-- an account's rest
abbrev pub rest_of : List (Row Rest) → ℕ → ℕ
rest_of rows a = lookup (λ rest. rest.value) 0 rows a

-- 100 above the lowest balance below is past the limit of balances
unfoldable pub past : ℤ → Bool
past lowest = int_lt (pos farthest_balance) (lowest +ℤ pos 100)

abbrev pub lowest_over : ℤ → ℤ
lowest_over lowest = cond (past lowest) (pos farthest_balance) (lowest +ℤ pos 100)

-- the balance of an account that is known below is the one there plus the rest
unfoldable pub over : Meaning → ℕ → Rest → Option ℤ
over m a rest = cond (not (past m.lowest) && m.known a) (if_within (m.balance a +ℤ pos rest.value)) None

abbrev pub layer_balances : Meaning → List (Row Rest) → ℕ → Option ℤ
layer_balances m rows a = option_and_then (over m a) (kept rows a)

abbrev pub layer_terms : Terms → Terms
layer_terms t = record { capacity = t.capacity; lowest = lowest_over t.lowest; highest = t.highest }

abbrev pub layer : Meaning → List (Row Rest) → Meaning
layer m rows =
    meaning {S = Unit {0}} (λ _. layer_balances m rows) (λ _. layer_terms (record { capacity = m.capacity; lowest = m.lowest; highest = m.highest })) tt

-- a new layer n over the ledger m: it knows the accounts of the list that are known below, with the balances below
pub record NewLayer (m : Meaning) (list : List ℕ) (n : Meaning) : Type 0 where
  pub known : (a : ℕ) → n.known a ≡ ((on_list list a && not (past m.lowest)) && m.known a)
  pub balance : (a : ℕ) → n.balance a ≡ cond (n.known a) (m.balance a) (pos 0)
  pub capacity : n.capacity ≡ m.capacity
  pub lowest : n.lowest ≡ lowest_over m.lowest
  pub highest : n.highest ≡ m.highest
