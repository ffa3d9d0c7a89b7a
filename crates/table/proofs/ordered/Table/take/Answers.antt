use Rattle.std.proofs.Common.{sym, ◌∙◌}
use Rattle.table.specs.View.{records}
use Rattle.table.proofs.Places.{find_stands, no_place, place_kept}
use Rattle.table.proofs.Told.{after_take}
use Rattle.table.proofs.ordered.Table.take.Goals as goal

pub returns-in_err-place-clause-answer : goal.returns-in_err-place-clause-answer
returns-in_err-place-clause-answer g c =
    let none = no_place c.args.key (records c.args.self.now) _ c.seek.ensures _ c.ok.ensures.value c.in_err-place.was in
    c.from_residual.ensures ∙ sym none.0

pub returns-in_err-place-clause-records : goal.returns-in_err-place-clause-records
returns-in_err-place-clause-records g c =
    let none = no_place c.args.key (records c.args.self.now) _ c.seek.ensures _ c.ok.ensures.value c.in_err-place.was in
    sym none.1

pub returns-in_err-place-clause-law : goal.returns-in_err-place-clause-law
returns-in_err-place-clause-law g c =
    let none = no_place c.args.key (records c.args.self.now) _ c.seek.ensures _ c.ok.ensures.value c.in_err-place.was in
    after_take c.args.key (records c.args.self.now) _ c.args.self.now.order (sym none.1)

pub returns-clause-answer : goal.returns-clause-answer
returns-clause-answer g c =
    let stands = place_kept c.args.key (records c.args.self.now) _ c.seek.ensures _ c.ok.ensures.value c.in_ok-place.place c.in_ok-place.was in
    c.at-taken.ensures ∙ sym (find_stands c.args.key (records c.args.self.now) c.in_ok-place.place stands)

pub returns-clause-law : goal.returns-clause-law
returns-clause-law g c = after_take c.args.key (records c.args.self.now) _ c.args.self.now.order c.remove.ensures.records
