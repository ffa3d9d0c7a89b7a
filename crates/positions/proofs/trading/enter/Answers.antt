use Rattle.std.proofs.Common.{Err, sym, ap, ◌∙◌}
use Rattle.std.proofs.lemmas.Result.{err_from_is_err_and}
use Rattle.faults.proofs.Rows.{verdict_failed}
use Rattle.table.specs.View.{records, room}
use Rattle.positions.proofs.Passed.{entry_allowed, entry_refused}
use Rattle.positions.proofs.trading.enter.Goals as goal

pub returns-in_err-check_entry-clause-outcome : goal.returns-in_err-check_entry-clause-outcome
returns-in_err-check_entry-clause-outcome c =
    let p = err_from_is_err_and c.from_residual.result c.from_residual.ensures.1 in
    entry_refused _ c.args.ticket c.args.trade _ _ _ _ (verdict_failed tt _ _ (sym c.in_err-check_entry.ensures)) (p.1 ∙ ap Err p.2)

pub make_changes-requires : goal.make_changes-requires
make_changes-requires c =
    entry_allowed (room c.args.accounts.now) (room c.args.trades.now) (records c.args.accounts.now) (records c.args.trades.now) c.args.ticket c.args.trade
    (sym c.in_ok-check_entry.ensures) _ _ c.bought.ensures.units c.bought.ensures.cost
