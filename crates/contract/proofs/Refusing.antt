-- A call's checks: those of the input decide first, and a refusal that names the call.
use Rattle.std.proofs.Common.{◌≡◌, Some, None, Ok, Err, Option, Result, sym, refl, subst}
use Rattle.std.specs.Result.{MatchResult, IsErrAnd}
use Rattle.std.proofs.lemmas.Result.{err_from_is_err_and}
use Rattle.faults.specs.declared.Fault.{Fault}
use Rattle.faults.specs.Checks.{first_fault}
use Rattle.faults.proofs.Rows.{first_passed, first_failed}
use Rattle.contract.specs.declared.calls.Answer.{Answer}
use Rattle.contract.specs.declared.calls.Call.{Call}
use Rattle.contract.specs.declared.call_fault.ContractFault.{ContractFault}
use Rattle.contract.specs.declared.figures.Figures.{Figures}
use Rattle.contract.specs.Calls.{name_of}
use Rattle.contract.specs.Step.{Ends, StepBy, input_checks, state_checks, checks}

pub input_refused : (f : Figures) (c : Call) (fault : Fault) → first_fault (input_checks c) ≡ Some fault → Ends (first_fault (checks f c)) f c (Err fault) f
input_refused f c fault e =
    subst (λ (o : Option Fault). Ends o f c (Err fault) f) (sym (first_failed (input_checks c) (state_checks f c) fault e)) (refl, refl)

pub input_passed : (f f' : Figures) (c served : Call) (r : Result Answer Fault) → first_fault (input_checks c) ≡ None → served ≡ c → Ends (first_fault (state_checks f served)) f served r f' → Ends (first_fault (checks f c)) f c r f'
input_passed f f' c served r e same h =
    let h' = subst (λ (x : Call). Ends (first_fault (state_checks f x)) f x r f') same h in
    subst (λ (o : Option Fault). Ends o f c r f') (sym (first_passed (input_checks c) (state_checks f c) e)) h'

-- a refusal that is named: P is what the naming makes of a fault
pub named : (P : Fault → ContractFault → Type 0) (o : Option Fault) (f f' : Figures) (c : Call) (q : Result Answer Fault) (r : Result Answer ContractFault)
    → ((e : Fault) (x : ContractFault) → P e x → x ≡ record { call = name_of c; fault = e })
    → Ends o f c q f' → MatchResult q (λ a. r ≡ Ok a) (λ e. IsErrAnd r (P e)) → StepBy o f c r f'
named P None f f' c (Ok a) r k h m = (let e = h.0 in cc, h.1)
named P None f f' c (Err e) r k h m = absurd (let e = h.0 in cc)
named P (Some fault) f f' c (Ok a) r k h m = absurd (let e = h.0 in cc)
named P (Some fault) f f' c (Err e) r k h m =
    let p = err_from_is_err_and r m in
    let same = h.0 in
    let is : p.0 ≡ record { call = name_of c; fault = e } = k e p.0 p.2 in
    (cc, h.1)
