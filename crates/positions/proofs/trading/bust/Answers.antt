use Rattle.std.proofs.Common.{neg_ℤ, sym, ap, ◌∙◌}
use Rattle.table.specs.View.{records, room}
use Rattle.positions.proofs.Passed.{bust_allowed}
use Rattle.positions.proofs.trading.bust.Goals as goal

pub make_changes-requires : goal.make_changes-requires
make_changes-requires c =
    bust_allowed (room c.args.accounts.now) (records c.args.accounts.now) c.in_ok-trade.field-0.value (sym c.in_ok-check_bust.ensures)
    _ _ (c.opposite.ensures.units ∙ ap neg_ℤ c.bought.ensures.units) (c.opposite.ensures.cost ∙ ap neg_ℤ c.bought.ensures.cost)
