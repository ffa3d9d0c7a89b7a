-- What the rows of a table keep of an account.
use Rattle.std.specs.Prelude.{ℕ, List, Option, ◌==◌, slice_set, slice_index_or}
use Rattle.std.specs.List.{find, position_or_len}
use Rattle.std.specs.Option.{option_map, unwrap_or}
use Rattle.balances.specs.declared.rows.Row.{Row}

-- of the first row that stands for it, if there is one
abbrev pub kept : {R : Type 0} → List (Row R) → ℕ → Option R
kept rows a = option_map (λ row. row.value) (find (λ row. row.account == a) rows)

-- what f reads in it, or z where no row stands for the account
abbrev pub lookup : {R V : Type 0} → (R → V) → V → List (Row R) → ℕ → V
lookup f z rows a = unwrap_or (option_map f (kept rows a)) z

-- the rows after a change of what row i keeps
abbrev pub with_value : {R : Type 0} → List (Row R) → ℕ → R → List (Row R)
with_value rows i value =
    slice_set rows i (record { account = (slice_index_or rows i (record { account = 0; value = value })).account; value = value })

-- the rows after a change of what they keep of an account that has one
abbrev pub with_kept : {R : Type 0} → List (Row R) → ℕ → R → List (Row R)
with_kept rows a value = with_value rows (position_or_len (λ row. row.account == a) rows) value
