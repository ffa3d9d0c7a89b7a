use Rattle.std.proofs.Common.{◌≡◌, Some, None, sym, ◌∙◌, lit≤}
use Rattle.std.proofs.lemmas.Result.{err_from_is_err_and}
use Rattle.faults.proofs.Rows.{verdict_failed}
use Rattle.ledger.specs.Meaning.{widest}
use Rattle.ledger.proofs.Money.{fits_within, reaches_amount}
use Rattle.ledger.proofs.Refused.{same_self}
use Rattle.balances.specs.Lookup.{kept}
use Rattle.balances.proofs.Lookup.{kept_back}
use Rattle.balances.proofs.Tables.{table_fault, table_raised, table_unknown}
use Rattle.ledger.proofs.Taken.{taken}
use Rattle.balances.proofs.table.BalanceTableCashLedger.pay.Goals as goal

pub returns-in_err-balance : goal.returns-in_err-balance
returns-in_err-balance c =
    let p = err_from_is_err_and c.from_residual.result c.from_residual.ensures.1 in
    let e = c.in_err-balance.ensures in
    let none : kept c.args.self.now.rows.rows.items c.args.account ≡ None = rw e.ok_part at (sym c.find_mut.ensures.value) in
    let fault = rw (e.ok_part, c.at.ensures) at e.value in
    rw (p.1, p.2) (table_unknown _ _ _ none ∙ cc, same_self _)

pub returns-in_err-check : goal.returns-in_err-check
returns-in_err-check c =
    let rows = c.args.self.now.rows.rows.items in
    let balance = c.in_ok-balance.balance.now in
    let p = err_from_is_err_and c.from_residual-in_err-check.result c.from_residual-in_err-check.ensures.1 in
    let here : kept rows c.args.account ≡ Some balance = rw c.in_ok-balance.ensures.ok_part at (sym c.find_mut.ensures.value) in
    let e = rw (c.terms-terms.ensures, reaches_amount _ _ balance.value c.args.amount (fits_within _ balance.within) c.ranges.amount) at c.in_err-check.ensures in
    rw (p.1, p.2, kept_back rows c.args.account balance balance here) (table_fault _ _ _ _ here ∙ verdict_failed tt _ _ (sym e), same_self _)

pub overflow_add-balance : goal.overflow_add-balance
overflow_add-balance c =
    let balance = c.in_ok-balance.balance.now in
    (taken _ _ _ (widest 64) _ balance.value _ (lit≤ tt) (lit≤ tt) balance.within c.ranges.amount c.terms-terms.ensures c.in_ok-check.ensures).fits

pub invariant_of-balance : goal.invariant_of-balance
invariant_of-balance c =
    let balance = c.in_ok-balance.balance.now in
    let t = taken _ _ _ (widest 64) _ balance.value _ (lit≤ tt) (lit≤ tt) balance.within c.ranges.amount c.terms-terms.ensures c.in_ok-check.ensures in
    record { within = rw t.sum t.within }

pub returns : goal.returns
returns c =
    let rows = c.args.self.now.rows.rows.items in
    let balance = c.in_ok-balance.balance.now in
    let here : kept rows c.args.account ≡ Some balance = rw c.in_ok-balance.ensures.ok_part at (sym c.find_mut.ensures.value) in
    let t = taken _ _ _ (widest 64) c.args.account balance.value _ (lit≤ tt) (lit≤ tt) balance.within c.ranges.amount c.terms-terms.ensures c.in_ok-check.ensures in
    (table_fault _ _ _ _ here ∙ t.passes, table_raised _ _ _ _ here _ t.sum)
