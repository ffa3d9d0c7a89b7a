use Rattle.std.proofs.Common.{◌+ℤ◌, arith, SFits, rules, w64}
use mir.Syntax.{w128}
use Rattle.std.proofs.lemmas.Int.{to_z-of_z, ints}
use Rattle.ledger.specs.Limits.{reaches}
use Rattle.ledger.proofs.terms.Terms.reaches.Goals as goal

pub returns : goal.returns
unfolding reaches
returns c =
    let l : SFits w64 c.args.self.lowest = search rules in
    let h : SFits w64 c.args.self.highest = search rules in
    let b = c.ranges.balance in
    let x = c.ranges.amount in
    let l' : SFits w128 c.args.self.lowest = omega (arith, ints) in
    let h' : SFits w128 c.args.self.highest = omega (arith, ints) in
    let b' : SFits w128 c.args.balance = omega (arith, ints) in
    let x' : SFits w128 c.args.amount = omega (arith, ints) in
    let s' : SFits w128 (c.args.balance +ℤ c.args.amount) = omega (arith, ints) in
    simp (c.from.ensures, c.from-2.ensures, c.from-3.ensures, c.from-4.ensures, to_z-of_z, c.unsigned_abs-small.ensures.value)
