use Rattle.std.proofs.Common.{◌≡◌, is_some, Some, lit≤, sym, ap, ◌∙◌, w64}
use Rattle.std.proofs.lemmas.Int.{to_z-of_z}
use Rattle.std.proofs.lemmas.Result.{err_from_is_err_and}
use Rattle.faults.specs.declared.Refusal.TheVariants.{UnknownAccount}
use Rattle.faults.specs.Refusals.{named}
use Rattle.faults.proofs.Rows.{verdict_failed}
use Rattle.ledger.specs.declared.payment.Payment.{Payment}
use Rattle.ledger.specs.Limits.{is_zero}
use Rattle.ledger.proofs.Money.{fits_within, reaches_amount}
use Rattle.ledger.proofs.Taken.{fault_known, taken}
use Rattle.journal.specs.Meaning.{journal, terms_of, total_of}
use Rattle.ledger.proofs.Refused.{same_self, unknown_refused}
use Rattle.journal.proofs.Journals.{notes, raised, told, unraised}
use Rattle.journal.proofs.journal.writing.JournalCashLedger.pay.Goals as goal

pub returns-in_err-balance-clause-pays : goal.returns-in_err-balance-clause-pays
returns-in_err-balance-clause-pays c =
    let p = err_from_is_err_and c.from_residual.result c.from_residual.ensures.1 in
    let o = c.in_err-balance.ensures in
    let v = rw (o.ok_part, c.at.ensures) at o.value in
    let fault : named UnknownAccount c.args.account ≡ c.in_err-balance.field-0.0 = cc in
    rw (p.1, p.2, sym fault) (unknown_refused _ _ _ (ap is_some (sym c.balance.ensures ∙ o.ok_part)), same_self _)

pub returns-in_err-check-clause-pays : goal.returns-in_err-check-clause-pays
returns-in_err-check-clause-pays c =
    let j = c.args.self.now in
    let p = err_from_is_err_and c.from_residual-in_err-check.result c.from_residual-in_err-check.ensures.1 in
    let e : total_of j c.args.account ≡ Some c.in_ok-balance.balance = sym c.balance.ensures ∙ c.in_ok-balance.ensures.ok_part in
    let w = (told j _ _ e).2 in
    let k = rw (c.terms.ensures, reaches_amount _ _ c.in_ok-balance.balance c.args.amount (fits_within _ w) c.ranges.amount) at c.in_err-check.ensures in
    rw (p.1, p.2) (fault_known (journal j) _ _ _ (rw e) (rw e) ∙ verdict_failed tt _ _ (sym k), same_self _)

pub returns-then-not-is_zero : goal.returns-then-not-is_zero
returns-then-not-is_zero c =
    let j = c.args.self.now in
    let p : Payment = record { account = c.args.account; amount = c.args.amount } in
    let e : total_of j c.args.account ≡ Some c.in_ok-balance.balance = sym c.balance.ensures ∙ c.in_ok-balance.ensures.ok_part in
    let t = taken _ _ _ (terms_of j) c.args.account c.in_ok-balance.balance c.args.amount (lit≤ tt) (lit≤ tt) (told j _ _ e).2 c.ranges.amount c.terms.ensures c.in_ok-check.ensures in
    let same = to_z-of_z w64 c.args.amount c.ranges.amount in
    let zero = c.if-not-is_zero.ensures ∙ ap is_zero same in
    let more = rw same at c.append.ensures in
    record {
      pays = (fault_known (journal j) _ _ _ (rw e) (rw e) ∙ t.passes, raised j c.append.new.self p _ e c.ranges.amount t more);
      notes = rw (sym zero) (notes j c.append.new.self p _ e c.ranges.amount t more);
      lent = more.lent;
    }

pub returns-else-not-is_zero-clause-pays : goal.returns-else-not-is_zero-clause-pays
returns-else-not-is_zero-clause-pays c =
    let j = c.args.self.now in
    let e : total_of j c.args.account ≡ Some c.in_ok-balance.balance = sym c.balance.ensures ∙ c.in_ok-balance.ensures.ok_part in
    let t = taken _ _ _ (terms_of j) c.args.account c.in_ok-balance.balance c.args.amount (lit≤ tt) (lit≤ tt) (told j _ _ e).2 c.ranges.amount c.terms.ensures c.in_ok-check.ensures in
    let zero = c.if-not-is_zero.ensures ∙ ap is_zero (to_z-of_z w64 c.args.amount c.ranges.amount) in
    (fault_known (journal j) _ _ _ (rw e) (rw e) ∙ t.passes, unraised _ _ _ (sym zero))
