-- The meaning of a balance table, over its rows.
use Rattle.std.specs.Prelude.{◌≡◌, ℕ, cond, List, ℤ, pos, Some, None, Option}
use Rattle.std.specs.Option.{option_map}
use Rattle.balances.specs.declared.balance.Balance.{Balance}
use Rattle.balances.specs.declared.rows.Row.{Row}
use Rattle.balances.specs.Lists.{on_list}
use Rattle.balances.specs.Lookup.{kept}

abbrev pub table_balances : List (Row Balance) → ℕ → Option ℤ
table_balances rows a = option_map (λ balance. balance.value) (kept rows a)

-- a new table knows the accounts of the list, each with a balance of 0
abbrev pub NewTable : List ℕ → (ℕ → Option ℤ) → Type 0
NewTable list balances = (a : ℕ) → balances a ≡ cond (on_list list a) (Some (pos 0)) None
