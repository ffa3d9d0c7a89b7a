use Rattle.std.proofs.Common.{◌≡◌, map, take, None}
use Rattle.faults.specs.Checks.{first_fault}
use Rattle.ledger.specs.Meaning.{meaning}
use Rattle.ledger.specs.Payments.{known_check}
use Rattle.ledger.proofs.paying.check_known.Given as goal

abbrev pub invariant-loop-payment : goal.invariant-loop-payment
invariant-loop-payment g l = first_fault (map (known_check (meaning g.L.BalanceReader.balances g.L.CashLedger.terms l.ledger)) (take l.payment-index l.payments)) ≡ None
