use Rattle.std.proofs.Common.{◌≡◌, ◌*◌, map, take, pos, neg_ℤ, ◌≤ℤ◌}
use Rattle.ledger.specs.Payments.{due}
use Rattle.journal.specs.Lines.{payment_in}
use Rattle.journal.proofs.journal.reading.JournalBalanceReader.balance.Given as goal

abbrev pub invariant-loop-line : goal.invariant-loop-line
invariant-loop-line l =
    (l.total ≡ due (map payment_in (take l.line-index l.line-items)) l.account)
    × (neg_ℤ (pos (9223372036854775808 * l.line-index)) ≤ℤ l.total)
    × (l.total ≤ℤ pos (9223372036854775808 * l.line-index))
