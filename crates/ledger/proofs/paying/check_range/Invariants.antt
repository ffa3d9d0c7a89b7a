use Rattle.std.proofs.Common.{◌≡◌, [], take, None}
use Rattle.faults.specs.Checks.{first_fault}
use Rattle.ledger.specs.Meaning.{meaning}
use Rattle.ledger.specs.Payments.{range_checks}
use Rattle.ledger.proofs.paying.check_range.Given as goal

abbrev pub invariant-loop-place : goal.invariant-loop-place
invariant-loop-place g l = first_fault (range_checks (meaning g.L.BalanceReader.balances g.L.CashLedger.terms l.ledger) [] (take l.place l.payments)) ≡ None
