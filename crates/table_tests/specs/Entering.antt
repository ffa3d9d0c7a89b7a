-- What entering a trade answers.
use Rattle.std.specs.Prelude.{ℕ, List, [], ◌∷◌, ◌++◌, Result}
use Rattle.faults.specs.declared.Fault.{Fault}
use Rattle.faults.specs.declared.Refusal.TheVariants.{NoAccountPlace, NoTradePlace}
use Rattle.faults.specs.Checks.{Check, check, ◌else◌, first_fault, verdict}
use Rattle.positions.specs.declared.records.Account.{Account}
use Rattle.positions.specs.declared.records.Trade.{Trade}
use Rattle.table.specs.declared.keyed.Keyed.{Keyed}
use Rattle.table.specs.Records.{put_in}
use Rattle.table.specs.View.{place_for}

-- whether the accounts b and then s have places in a table of m places with the records xs
abbrev pub accounts_checks : ℕ → Keyed Account → Keyed Account → List (Keyed Account) → List Check
accounts_checks m b s xs =
    check (place_for m b.key xs) NoAccountPlace b.key
    ∷ (check (place_for m s.key (put_in b xs)) NoAccountPlace s.key
    ∷ [])

abbrev pub accounts_answer : ℕ → Keyed Account → Keyed Account → List (Keyed Account) → Result (Unit {0}) Fault
accounts_answer m b s xs = verdict tt (first_fault (accounts_checks m b s xs))

-- the same of the trade t too, in a table of n places with the records ts
abbrev pub enter_answer : ℕ → ℕ → Keyed Account → Keyed Account → Keyed Trade → List (Keyed Account) → List (Keyed Trade) → Result (Unit {0}) Fault
enter_answer m n b s t xs ts = verdict tt (first_fault (accounts_checks m b s xs ++ ((place_for n t.key ts else NoTradePlace) ∷ [])))
