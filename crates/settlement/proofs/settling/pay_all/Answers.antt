use Rattle.std.proofs.Common.{◌≡◌, ◌≤◌, map, length, Some, sym, refl, ◌∙◌, subst, arith, w64, SFits, rules}
use Rattle.std.proofs.lemmas.List.{length-map, take_all}
use Rattle.std.proofs.lemmas.Int.{to_z-of_z}
use Rattle.faults.proofs.Rows.{clash}
use Rattle.ledger.specs.Meaning.{Meaning, meaning}
use Rattle.ledger.specs.Payments.{Paid, fault_of}
use Rattle.ledger.proofs.Paid.{paid_none}
use Rattle.settlement.specs.Owed.{owed}
use Rattle.settlement.proofs.Turns.{next_paid, next_zero, still_open}
use Rattle.settlement.proofs.settling.pay_all.Goals as goal
use Rattle.settlement.proofs.settling.pay_all.Goals.{then-not-is_zero+in_ok-pay, else-not-is_zero}

pub loop-record-init : goal.loop-record-init
loop-record-init g c = paid_none _

pub returns-in_err-pay : goal.returns-in_err-pay
returns-in_err-pay g c =
    let n : Meaning = meaning g.L.BalanceReader.balances g.L.CashLedger.terms c.loop-record.ledger in
    let p = c.payment_to-payment.result in
    let fits : SFits w64 p.amount = search rules in
    let unrefused = still_open _ (owed c.args.repricing.last.value c.args.repricing.price.value) c.args.records.now c.requires c.loop-record.record-index _ c.loop-record-test.true p c.payment_to-payment.ensures n c.loop-record.invariant (sym c.is_zero.ensures ∙ c.if-not-is_zero.true) in
    clash _ _ unrefused (subst (λ amount. fault_of n p.account amount ≡ Some c.in_err-pay.field-0.0) (to_z-of_z w64 p.amount fits) c.in_err-pay.ensures.0)

pub loop-record-preserved : goal.loop-record-preserved
loop-record-preserved g c =
    let f = owed c.args.repricing.last.value c.args.repricing.price.value in
    let xs = c.args.records.now in
    let i = c.loop-record.record-index in
    let p = c.payment_to-payment.result in
    let fits : SFits w64 p.amount = search rules in
    elim c.if-not-is_zero.branch [
      | then-not-is_zero+in_ok-pay w ↦ (let r = rw (to_z-of_z w64 p.amount fits) at w.in_ok-pay.ensures.1 in
          rw w.ledger-is (next_paid _ f xs c.requires i _ c.loop-record-test.true p c.payment_to-payment.ensures _ c.loop-record.invariant (sym c.is_zero.ensures ∙ w.if-not-is_zero.true) _ r))
      | else-not-is_zero w ↦ rw w.ledger-is (next_zero _ f xs c.requires i _ c.loop-record-test.true p c.payment_to-payment.ensures _ c.loop-record.invariant (sym c.is_zero.ensures ∙ w.if-not-is_zero.false))
    ]

pub returns : goal.returns
returns g c =
    let m : Meaning = meaning g.L.BalanceReader.balances g.L.CashLedger.terms c.args.ledger.now in
    let n : Meaning = meaning g.L.BalanceReader.balances g.L.CashLedger.terms c.loop-record.ledger in
    let f = owed c.args.repricing.last.value c.args.repricing.price.value in
    let xs = c.args.records.now in
    let long = length-map xs f in
    let end : length (map f xs) ≤ c.loop-record.record-index = omega (arith, c.loop-record-test.false) in
    record { answer = refl; paid = subst (λ ps. Paid m ps n) (take_all c.loop-record.record-index (map f xs) end) c.loop-record.invariant }
