use Rattle.positions.proofs.Balance.{moved_totals}
use Rattle.positions.proofs.trading.make_changes.Goals as goal

pub returns-clause-totals : goal.returns-clause-totals
returns-clause-totals c =
    rw (c.make_change-2.ensures.records, c.make_change.ensures.records, c.opposite.ensures.units, c.opposite.ensures.cost) (moved_totals _ _ _ _ _)
