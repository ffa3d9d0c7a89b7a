use Rattle.std.proofs.Common.{take}
use Rattle.ledger.specs.Meaning.{meaning}
use Rattle.ledger.specs.Payments.{Paid}
use Rattle.ledger.proofs.paying.make_all.Given as goal

abbrev pub invariant-loop-payment : goal.invariant-loop-payment
invariant-loop-payment g l = Paid (meaning g.L.BalanceReader.balances g.L.CashLedger.terms l.initial.ledger) (take l.payment-index l.payments) (meaning g.L.BalanceReader.balances g.L.CashLedger.terms l.ledger)
