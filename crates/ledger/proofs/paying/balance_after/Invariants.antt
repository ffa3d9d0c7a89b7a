use Rattle.std.proofs.Common.{◌≡◌, take, ◌+ℤ◌}
use Rattle.ledger.specs.Meaning.{reading_of}
use Rattle.ledger.specs.Payments.{due}
use Rattle.ledger.proofs.paying.balance_after.Given as goal

abbrev pub invariant-loop-payment : goal.invariant-loop-payment
invariant-loop-payment g l = l.balance ≡ (reading_of (g.L.BalanceReader.balances l.ledger)).balance l.account +ℤ due (take l.payment-index l.payments) l.account
