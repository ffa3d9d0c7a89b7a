use Rattle.std.proofs.Common.{arith, get_or, sym, ◌∙◌, w64, SFits, rules}
use Rattle.std.proofs.lemmas.Int.{to_z-of_z}
use Rattle.ledger.specs.Meaning.{Meaning, meaning}
use Rattle.ledger.proofs.Paid.{next_zero, next_paid, never_refused, no_payment}
use Rattle.ledger.proofs.paying.make_all.Goals as goal
use Rattle.ledger.proofs.paying.make_all.Goals.{then-not-is_zero+in_ok-pay, else-not-is_zero}

pub returns-in_err-pay : goal.returns-in_err-pay
returns-in_err-pay g c =
    let unrefused = never_refused (meaning g.L.BalanceReader.balances g.L.CashLedger.terms c.args.ledger.now) _ c.requires _ no_payment c.loop-payment-test.true _ c.loop-payment.invariant in
    grind (arith, to_z-of_z)

pub loop-payment-preserved : goal.loop-payment-preserved
loop-payment-preserved g c =
    let m : Meaning = meaning g.L.BalanceReader.balances g.L.CashLedger.terms c.args.ledger.now in
    let f : SFits w64 (get_or c.args.payments.now c.loop-payment.payment-index no_payment).amount = search rules in
    elim c.if-not-is_zero.branch [
      | then-not-is_zero+in_ok-pay w ↦ rw w.ledger-is (next_paid m _ c.requires _ _ c.loop-payment-test.true _ c.loop-payment.invariant (sym c.is_zero.ensures ∙ w.if-not-is_zero.true) _ (rw (to_z-of_z w64 _ f) at w.in_ok-pay.ensures.1))
      | else-not-is_zero w ↦ rw w.ledger-is (next_zero m _ c.requires _ _ c.loop-payment-test.true _ c.loop-payment.invariant (sym c.is_zero.ensures ∙ w.if-not-is_zero.false))
    ]
