use Rattle.std.proofs.Common.{sym, ◌∙◌}
use Rattle.table.specs.View.{records}
use Rattle.table.proofs.Places.{find_stands, no_place, place_kept}
use Rattle.table.proofs.ordered.Table.find.Goals as goal

pub returns-in_err-place : goal.returns-in_err-place
returns-in_err-place g c =
    let none = no_place c.args.key (records c.args.self.now) _ c.seek.ensures _ c.ok.ensures.value c.in_err-place.was in
    c.from_residual.ensures ∙ sym none.0

pub returns : goal.returns
returns g c =
    let stands = place_kept c.args.key (records c.args.self.now) _ c.seek.ensures _ c.ok.ensures.value c.in_ok-place.place c.in_ok-place.was in
    c.at.ensures ∙ sym (find_stands c.args.key (records c.args.self.now) c.in_ok-place.place stands)
