use Rattle.std.proofs.Common.{◌≡◌, Some, is_some, sym, ap, ◌∙◌}
use Rattle.std.proofs.lemmas.Result.{err_from_is_err_and}
use Rattle.faults.specs.declared.Refusal.TheVariants.{UnknownAccount}
use Rattle.faults.specs.Refusals.{named}
use Rattle.faults.proofs.Rows.{verdict_failed}
use Rattle.ledger.proofs.Money.{fits_within, reaches_amount}
use Rattle.ledger.proofs.Refused.{same_self, unknown_refused}
use Rattle.ledger.proofs.Taken.{fault_known, taken}
use Rattle.ledger_tests.specs.Purse.{balances_of, terms_of}
use Rattle.ledger_tests.proofs.Purses.{purse, purse_raised, told_within}
use Rattle.ledger_tests.proofs.purse.PurseCashLedger.pay.Goals as goal

pub returns-in_err-balance : goal.returns-in_err-balance
returns-in_err-balance c =
    let p = err_from_is_err_and c.from_residual.result c.from_residual.ensures.1 in
    let o = c.in_err-balance.ensures in
    let v = rw (o.ok_part, c.at.ensures) at o.value in
    let fault : named UnknownAccount c.args.account ≡ c.in_err-balance.field-0.0 = cc in
    rw (p.1, p.2, sym fault) (unknown_refused _ _ _ (ap is_some (sym c.balance.ensures ∙ o.ok_part)), same_self _)

pub returns-in_err-check : goal.returns-in_err-check
returns-in_err-check c =
    let s = c.args.self.now in
    let p = err_from_is_err_and c.from_residual-in_err-check.result c.from_residual-in_err-check.ensures.1 in
    let e : balances_of s c.args.account ≡ Some c.in_ok-balance.balance = sym c.balance.ensures ∙ c.in_ok-balance.ensures.ok_part in
    let w = told_within s _ _ e in
    let k = rw (c.terms.ensures, reaches_amount _ _ c.in_ok-balance.balance c.args.amount (fits_within _ w) c.ranges.amount) at c.in_err-check.ensures in
    rw (p.1, p.2) (fault_known (purse s) _ _ _ (rw e) (rw e) ∙ verdict_failed tt _ _ (sym k), same_self _)

pub overflow_add-self : goal.overflow_add-self
overflow_add-self c =
    let s = c.args.self.now in
    let e : balances_of s c.args.account ≡ Some c.in_ok-balance.balance = sym c.balance.ensures ∙ c.in_ok-balance.ensures.ok_part in
    (taken _ _ _ (terms_of s) c.args.account c.in_ok-balance.balance c.args.amount s.lowest.within s.highest.within (told_within s _ _ e) c.ranges.amount c.terms.ensures c.in_ok-check.ensures).fits

pub invariant_of-self : goal.invariant_of-self
invariant_of-self c =
    let s = c.args.self.now in
    let e : balances_of s c.args.account ≡ Some c.in_ok-balance.balance = sym c.balance.ensures ∙ c.in_ok-balance.ensures.ok_part in
    let t = taken _ _ _ (terms_of s) c.args.account c.in_ok-balance.balance c.args.amount s.lowest.within s.highest.within (told_within s _ _ e) c.ranges.amount c.terms.ensures c.in_ok-check.ensures in
    record { within = rw t.sum t.within }

pub returns : goal.returns
returns c =
    let s = c.args.self.now in
    let e : balances_of s c.args.account ≡ Some c.in_ok-balance.balance = sym c.balance.ensures ∙ c.in_ok-balance.ensures.ok_part in
    let t = taken _ _ _ (terms_of s) c.args.account c.in_ok-balance.balance c.args.amount s.lowest.within s.highest.within (told_within s _ _ e) c.ranges.amount c.terms.ensures c.in_ok-check.ensures in
    (fault_known (purse s) _ _ _ (rw e) (rw e) ∙ t.passes, purse_raised s _ _ e _ _ t.sum t.room)
