use Rattle.std.proofs.Common.{◌+ℤ◌, ◌-ℤ◌, sym, ◌∙◌, arith, w64, SFits, rules}
use Rattle.std.proofs.lemmas.Bool.{and_parts}
use Rattle.std.proofs.lemmas.Int.{to_z-of_z, ints}
use Rattle.settlement.proofs.Owed.{formed_is}
use Rattle.settlement.proofs.Sizes.{cost_small}
use Rattle.settlement.proofs.payment.Repricing.payment_of.Goals as goal

pub overflow_add-earned : goal.overflow_add-earned
overflow_add-earned c = omega (arith, ints)

pub overflow_sub-result : goal.overflow_sub-result
overflow_sub-result c =
    let w = and_parts _ _ c.if-has_units_within-has_cost_within.true in
    let k = cost_small c.args.account (sym c.has_cost_within.ensures ∙ w.1) in
    omega (arith, ints)

pub returns-then-has_units_within-has_cost_within : goal.returns-then-has_units_within-has_cost_within
returns-then-has_units_within-has_cost_within c =
    let w = and_parts _ _ c.if-has_units_within-has_cost_within.true in
    let units = sym c.has_units_within.ensures ∙ w.0 in
    let cost = sym c.has_cost_within.ensures ∙ w.1 in
    let k = cost_small c.args.account cost in
    let g : SFits w64 c.gain.result = search rules in
    let t : SFits w64 c.worth.result = search rules in
    let e : SFits w64 (c.gain.result +ℤ c.worth.result) = omega (arith, ints) in
    let x : SFits w64 c.args.account.cost = search rules in
    let r : SFits w64 (c.gain.result +ℤ c.worth.result -ℤ c.args.account.cost) = omega (arith, ints) in
    simp to_z-of_z (rw (c.gain.ensures.value, c.worth.ensures.value) (sym (formed_is _ _ _ units cost)))
