use Rattle.std.proofs.Common.{◌≡◌, ◌+ℤ◌, arith, w64, SFits, rules}
use mir.Syntax.{w128}
use Rattle.std.proofs.lemmas.Int.{to_z-of_z}
use Rattle.positions.proofs.Holds.{units_fit, cost_fits}
use Rattle.positions.proofs.side.Side.after.Goals as goal

pub returns : goal.returns
returns c =
    let units : SFits w64 c.args.self.account.units = search rules in
    let close : SFits w64 c.args.self.account.units_at_close = search rules in
    let change : SFits w64 c.args.self.change.units = search rules in
    let units_after = units_fit _ _ c.requires.units in
    let cost : SFits w64 c.args.self.account.cost = search rules in
    let change_cost : SFits w128 c.args.self.change.cost = search rules in
    let from : c.from.result ≡ c.args.self.account.cost = simp to_z-of_z at c.from.ensures in
    let cost' : SFits w128 c.args.self.account.cost = record { sfits = omega (arith, cost.sfits) } in
    let after = cost_fits _ _ c.requires.cost in
    let after' : SFits w128 (c.args.self.account.cost +ℤ c.args.self.change.cost) = record { sfits = omega (arith, after.sfits) } in
    simp (from, to_z-of_z)
