-- The accounts of the balance table that a day file names, before the listing.
use Rattle.std.specs.Prelude.{ℕ, ◌||◌, List, [], ◌∷◌, length, ◌==◌, nat_lt}
use Rattle.contract.specs.declared.figures.Phase.{Phase}
use Rattle.contract.specs.declared.figures.Phase.TheVariants.{Unlisted}
use Rattle.contract.specs.Step.{rank}
use Rattle.balances.specs.Lists.{has}
use Rattle.balances.specs.Places.{places}
use Rattle.faults.specs.Checks.{Check, check, ◌else◌}
use Rattle.faults.specs.declared.Refusal.TheVariants as or
use Rattle.quantities.specs.Limits.{is_account_number}

-- an account is checked by its number, comes before the listing, and needs a place unless it is listed already
abbrev pub account_checks : Phase → List ℕ → ℕ → List Check
account_checks phase numbers account =
    (is_account_number account else or.AccountNumber)
    ∷ (((rank phase == rank Unlisted) else or.Phase)
    ∷ (check (has numbers account || nat_lt (length numbers) places) or.NoAccountPlace account ∷ []))
