use Rattle.std.proofs.Common.{◌∙◌, w64, to_z, rules}
use Rattle.std.proofs.lemmas.List.{take_more}
use Rattle.ledger.specs.Meaning.{Meaning, meaning}
use Rattle.ledger.proofs.Paid.{due_other, next_sum, no_payment}
use Rattle.ledger.proofs.paying.balance_after.Goals as goal
use Rattle.ledger.proofs.paying.balance_after.Goals.{then-payment-account, else-payment-account}

pub overflow_add-balance : goal.overflow_add-balance
overflow_add-balance g c =
    let m : Meaning = meaning g.L.BalanceReader.balances g.L.CashLedger.terms c.args.ledger.now in
    (next_sum m _ _ no_payment c.loop-payment-test.true (g.L.CashLedger.bounded.lowest c.args.ledger.now) (g.L.CashLedger.bounded.highest c.args.ledger.now) c.requires _ (search rules) (search rules) c.args.account c.loop-payment.invariant c.if-payment-account.true).0

pub loop-payment-preserved : goal.loop-payment-preserved
loop-payment-preserved g c =
    let m : Meaning = meaning g.L.BalanceReader.balances g.L.CashLedger.terms c.args.ledger.now in
    elim c.if-payment-account.branch [
      | then-payment-account t ↦ t.balance-is ∙ (next_sum m _ _ no_payment c.loop-payment-test.true (g.L.CashLedger.bounded.lowest c.args.ledger.now) (g.L.CashLedger.bounded.highest c.args.ledger.now) c.requires (to_z w64 c.loop-payment.balance-bits) (search rules) (search rules) c.args.account c.loop-payment.invariant t.if-payment-account.true).1
      | else-payment-account t ↦ t.balance-is ∙ c.loop-payment.invariant ∙ (let ne = t.if-payment-account.false in rw (take_more c.args.payments.now c.loop-payment.payment-index no_payment c.loop-payment-test.true, due_other))
    ]
