use Rattle.std.proofs.Common.{map, take}
use Rattle.ledger.specs.Meaning.{meaning}
use Rattle.ledger.specs.Payments.{Paid}
use Rattle.settlement.specs.Owed.{owed}
use Rattle.settlement.proofs.settling.pay_all.Given as goal

abbrev pub invariant-loop-record : goal.invariant-loop-record
invariant-loop-record g l =
    Paid (meaning g.L.BalanceReader.balances g.L.CashLedger.terms l.initial.ledger)
    (take l.record-index (map (owed l.repricing.last.value l.repricing.price.value) l.records))
    (meaning g.L.BalanceReader.balances g.L.CashLedger.terms l.ledger)
