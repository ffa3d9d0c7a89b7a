-- A trade entered and a trade busted: what each is refused for, and what it does to the two tables.
use Rattle.std.specs.Prelude.{◌≡◌, ℕ, min, Bool, false, not, ◌&&◌, ◌||◌, List, [], ◌∷◌, ℤ, pos, ◌+ℤ◌, neg_ℤ, is_some, Some, None, Ok, Err, Option, Result, nat_le}
use Rattle.faults.specs.declared.Fault.{Fault}
use Rattle.faults.specs.declared.Refusal.TheVariants.{AccountUnits, NoAccountPlace, NoTradePlace, TradesUsedUp, NoSuchTrade, OutOfRange}
use Rattle.faults.specs.Checks.{Check, check, ◌else◌}
use Rattle.table.specs.declared.keyed.Keyed.{Keyed}
use Rattle.table.specs.Records.{find_in, put_in, take_out}
use Rattle.table.specs.View.{place_for}
use Rattle.positions.specs.declared.records.Account.{Account}
use Rattle.positions.specs.declared.records.Trade.{Trade}
use Rattle.positions.specs.Limits.{most_units, most_cost, account_places, trade_places, last_ticket, inside, units_within, cost_within}
use Rattle.positions.specs.Positions.{account_of, changed, cost_of, traded, busted}

-- ---- the checks of a change of q units at the cost `value`: on the record as it is, and as it would be

unfoldable pub units_hold : ℤ → Account → Bool
units_hold q x = units_within x && inside most_units (x.units +ℤ q)

unfoldable pub cost_holds : ℤ → Account → Bool
cost_holds value x = cost_within x && inside most_cost (x.cost +ℤ value)

-- a place for an account, or a trade: it is there, or a place in use is left
unfoldable pub has_account_place : ℕ → ℕ → List (Keyed Account) → Bool
has_account_place room a xs = place_for (min room account_places) a xs

unfoldable pub has_trade_place : ℕ → ℕ → List (Keyed Trade) → Bool
has_trade_place room ticket ts = place_for (min room trade_places) ticket ts

-- ---- a trade: the seller's record is read after the buyer's change

abbrev pub entry_checks : ℕ → ℕ → List (Keyed Account) → List (Keyed Trade) → ℕ → Trade → List Check
entry_checks room trade_room xs ts ticket t =
    check (units_hold (pos t.units) (account_of t.buyer xs)) AccountUnits t.buyer
    ∷ (check (units_hold (neg_ℤ (pos t.units)) (account_of t.seller (changed t.buyer (pos t.units) (cost_of t) xs))) AccountUnits t.seller
    ∷ (check (has_account_place room t.buyer xs) NoAccountPlace t.buyer
    ∷ (check (has_account_place room t.seller (changed t.buyer (pos t.units) (cost_of t) xs)) NoAccountPlace t.seller
    ∷ ((has_trade_place trade_room ticket ts else NoTradePlace)
    ∷ ((nat_le ticket last_ticket else TradesUsedUp)
    ∷ (check (cost_holds (cost_of t) (account_of t.buyer xs)) OutOfRange t.buyer
    ∷ (check (cost_holds (neg_ℤ (cost_of t)) (account_of t.seller (changed t.buyer (pos t.units) (cost_of t) xs))) OutOfRange t.seller
    ∷ [])))))))

-- the tables before and after: accounts xs and xs', trades ts and ts'
abbrev pub Enters : Option Fault → ℕ → Trade → Result (Unit {0}) Fault → List (Keyed Account) → List (Keyed Account) → List (Keyed Trade) → List (Keyed Trade) → Type 0
Enters None ticket t r xs xs' ts ts' = (r ≡ Ok tt) × (xs' ≡ traded t xs) × (ts' ≡ put_in (record { key = ticket; value = t }) ts)
Enters (Some fault) ticket t r xs xs' ts ts' = (r ≡ Err fault) × (xs' ≡ xs) × (ts' ≡ ts)

-- ---- a bust: of a ticket that is in the table, and of accounts that are

abbrev pub is_there : ℕ → List (Keyed Account) → Bool
is_there a xs = is_some (find_in a xs)

abbrev pub bust_checks_of : Trade → List (Keyed Account) → List Check
bust_checks_of t xs =
    check (not (is_there t.buyer xs) || units_hold (neg_ℤ (pos t.units)) (account_of t.buyer xs)) AccountUnits t.buyer
    ∷ (check (not (is_there t.seller xs) || units_hold (pos t.units) (account_of t.seller (changed t.buyer (neg_ℤ (pos t.units)) (neg_ℤ (cost_of t)) xs))) AccountUnits t.seller
    ∷ ((is_there t.buyer xs && is_there t.seller xs else NoSuchTrade)
    ∷ (check (cost_holds (neg_ℤ (cost_of t)) (account_of t.buyer xs)) OutOfRange t.buyer
    ∷ (check (cost_holds (cost_of t) (account_of t.seller (changed t.buyer (neg_ℤ (pos t.units)) (neg_ℤ (cost_of t)) xs))) OutOfRange t.seller
    ∷ []))))

abbrev pub bust_checks : Option (Keyed Trade) → List (Keyed Account) → List Check
bust_checks None xs = (false else NoSuchTrade) ∷ []
bust_checks (Some t) xs = bust_checks_of t.value xs

abbrev pub undone : Option (Keyed Trade) → List (Keyed Account) → List (Keyed Account)
undone None xs = xs
undone (Some t) xs = busted t.value xs

abbrev pub Busts : Option Fault → ℕ → Result (Unit {0}) Fault → List (Keyed Account) → List (Keyed Account) → List (Keyed Trade) → List (Keyed Trade) → Type 0
Busts None ticket r xs xs' ts ts' = (r ≡ Ok tt) × (xs' ≡ undone (find_in ticket ts) xs) × (ts' ≡ take_out ticket ts)
Busts (Some fault) ticket r xs xs' ts ts' = (r ≡ Err fault) × (xs' ≡ xs) × (ts' ≡ ts)
