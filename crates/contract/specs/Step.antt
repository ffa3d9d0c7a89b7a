-- One call on a contract: what it is refused for, and what it does that is not refused.
use Rattle.std.specs.Prelude.{◌≡◌, ℕ, ◌+◌, ◌-◌, Bool, true, false, not, ◌&&◌, List, [], ◌∷◌, ◌++◌, ℤ, pos, ◌+ℤ◌, is_some, Some, None, Ok, Err, Option, Result, ◌==◌, nat_le, nat_lt}
use Rattle.faults.specs.declared.Fault.{Fault}
use Rattle.faults.specs.declared.Refusal.TheVariants as or
use Rattle.quantities.specs.Limits.{is_account_number, is_discount_factor, is_expected_values, is_index_value, is_rate, is_strike, is_tick, is_vega}
use Rattle.contract.specs.declared.calls.Answer.{Answer}
use Rattle.contract.specs.declared.calls.Answer.TheVariants.{Done}
use Rattle.contract.specs.declared.calls.Call.{Call}
use Rattle.contract.specs.declared.calls.Call.TheVariants.{List as list, Open as start, Trade as trade, Bust as bust, Close as close, Accrue as accrue, Settle as settle}
use Rattle.contract.specs.declared.call_fault.ContractFault.{ContractFault}
use Rattle.contract.specs.declared.figures.Figures.{Figures}
use Rattle.contract.specs.declared.figures.IndexRecord.{IndexRecord}
use Rattle.contract.specs.declared.figures.Phase.{Phase}
use Rattle.contract.specs.declared.figures.Phase.TheVariants.{Unlisted, Ready, Trading, Closed}
use Rattle.contract.specs.Calls.{name_of}
use Rattle.faults.specs.Checks.{Check, ◌else◌, first_fault}
use Rattle.contract.specs.Formulas.{keep, admits, close_price, growth}

-- ---- refusals for the input: what is checked of a call's own figures, whatever the phase

abbrev pub in_limits : Option ℕ → Bool
in_limits None = true
in_limits (Some v) = is_index_value v

abbrev pub value_checks : Option ℕ → List Check
value_checks value = (in_limits value else or.IndexValue) ∷ []

abbrev pub input_checks : Call → List Check
input_checks (list Ne k0) = (is_expected_values Ne else or.ExpectedValues) ∷ ((is_strike k0 else or.Strike) ∷ [])
input_checks (start DF) = (is_discount_factor DF else or.DiscountFactor) ∷ []
input_checks (trade buyer seller vega tick) =
    (is_account_number buyer && is_account_number seller else or.AccountNumber)
    ∷ ((not (buyer == seller) else or.SameAccount)
    ∷ ((is_vega vega else or.Vega)
    ∷ ((is_tick tick else or.Tick) ∷ [])))
input_checks (bust ticket) = []
input_checks (close value bid offer) =
    (is_tick bid && is_tick offer else or.Tick)
    ∷ ((nat_le bid offer else or.BidAboveOffer)
    ∷ value_checks value)
input_checks (accrue rate) = (is_rate rate else or.Rate) ∷ []
input_checks (settle value) = value_checks value ++ ((is_some value else or.DisruptedSettlement) ∷ [])

-- ---- refusals for the state

abbrev pub rank : Phase → ℕ
rank Unlisted = 0
rank Ready = 1
rank Trading = 2
rank Closed = 3

abbrev pub in_phase : Phase → Figures → Bool
in_phase phase f = rank f.phase == rank phase

-- trades, busts and settlements are not served yet: no phase admits them
abbrev pub state_checks : Figures → Call → List Check
state_checks f (list Ne k0) = (in_phase Unlisted f else or.Phase) ∷ []
state_checks f (start DF) = (in_phase Ready f else or.Phase) ∷ ((nat_lt f.closes (f.expected - 1) else or.ClosesDone) ∷ [])
state_checks f (trade buyer seller vega tick) = (false else or.Phase) ∷ []
state_checks f (bust ticket) = (false else or.Phase) ∷ []
state_checks f (close value bid offer) = (in_phase Trading f else or.Phase) ∷ ((admits f.index.last value else or.NotAdmitted) ∷ [])
state_checks f (accrue rate) = (in_phase Closed f else or.Phase) ∷ []
state_checks f (settle value) = (false else or.Phase) ∷ []

-- in rising number, those of the input first
abbrev pub checks : Figures → Call → List Check
checks f c = input_checks c ++ state_checks f c

-- ---- what a call does that is not refused

abbrev pub answer : Figures → Call → Answer
answer f c = Done

-- a contract before its listing, and just listed
abbrev pub empty_index : IndexRecord
empty_index = record { last = None; returns = 0; sum_of_squares = 0 }

abbrev pub unlisted : Figures
unlisted = record { phase = Unlisted; expected = 0; strike = 0; discount = 0; closes = 0; index = empty_index; price = pos 10000000; accumulated = pos 0 }

abbrev pub listed : ℕ → ℕ → Figures
listed Ne k0 = record { phase = Ready; expected = Ne; strike = k0; discount = 0; closes = 0; index = empty_index; price = pos 10000000; accumulated = pos 0 }

abbrev pub opened : ℕ → Figures → Figures
opened DF f = record { phase = Trading; expected = f.expected; strike = f.strike; discount = DF; closes = f.closes; index = f.index; price = f.price; accumulated = f.accumulated }

-- the settlement price at the end of a day, with its value kept
abbrev pub close_at : Figures → Option ℕ → ℕ → ℕ → ℤ
close_at f value bid offer = close_price f.expected f.strike f.discount (keep value f.index) f.accumulated bid offer

abbrev pub closed : Option ℕ → ℤ → Figures → Figures
closed value F f = record { phase = Closed; expected = f.expected; strike = f.strike; discount = f.discount; closes = f.closes + 1; index = keep value f.index; price = F; accumulated = f.accumulated }

abbrev pub accrued : ℕ → Figures → Figures
accrued rate f = record { phase = Ready; expected = f.expected; strike = f.strike; discount = f.discount; closes = f.closes; index = f.index; price = f.price; accumulated = f.accumulated +ℤ growth f.price f.accumulated rate }

abbrev pub figures_after : Figures → Call → Figures
figures_after f (list Ne k0) = listed Ne k0
figures_after f (start DF) = opened DF f
figures_after f (trade buyer seller vega tick) = f
figures_after f (bust ticket) = f
figures_after f (close value bid offer) = closed value (close_at f value bid offer) f
figures_after f (accrue rate) = accrued rate f
figures_after f (settle value) = f

-- ---- the whole call, before and after: f, c, the result r, f'

abbrev pub Ends : Option Fault → Figures → Call → Result Answer Fault → Figures → Type 0
Ends None f c r f' = (r ≡ Ok (answer f c)) × (f' ≡ figures_after f c)
Ends (Some fault) f c r f' = (r ≡ Err fault) × (f' ≡ f)

-- a call whose own figures passed their checks
abbrev pub Serves : Figures → Call → Result Answer Fault → Figures → Type 0
Serves f c r f' = Ends (first_fault (state_checks f c)) f c r f'

-- a refusal names the call and leaves the contract as it was
abbrev pub StepBy : Option Fault → Figures → Call → Result Answer ContractFault → Figures → Type 0
StepBy None f c r f' = (r ≡ Ok (answer f c)) × (f' ≡ figures_after f c)
StepBy (Some fault) f c r f' = (r ≡ Err (record { call = name_of c; fault = fault })) × (f' ≡ f)

abbrev pub Step : Figures → Call → Result Answer ContractFault → Figures → Type 0
Step f c r f' = StepBy (first_fault (checks f c)) f c r f'
