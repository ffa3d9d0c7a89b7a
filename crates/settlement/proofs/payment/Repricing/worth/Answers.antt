use Rattle.std.proofs.Common.{◌-ℤ◌, ◌*ℤ◌, arith, w64, SFits, rules}
use Rattle.std.proofs.lemmas.Int.{to_z-of_z, ints}
use Rattle.settlement.proofs.Sizes.{units_small, worth_small}
use Rattle.settlement.proofs.payment.Repricing.worth.Goals as goal

pub overflow_mul-result : goal.overflow_mul-result
overflow_mul-result c =
    let x = c.args.account in
    let units : SFits w64 x.units = search rules in
    let at_close : SFits w64 x.units_at_close = search rules in
    let price : SFits w64 c.args.self.price.value = search rules in
    let s = worth_small x c.args.self.price.value c.requires c.args.self.price.ok in
    let small = units_small x c.requires in
    let traded : SFits w64 (x.units -ℤ x.units_at_close) = omega (arith, ints) in
    let product : SFits w64 ((x.units -ℤ x.units_at_close) *ℤ c.args.self.price.value) = omega (arith, ints) in
    simp to_z-of_z product

pub returns : goal.returns
returns c =
    let x = c.args.account in
    let units : SFits w64 x.units = search rules in
    let at_close : SFits w64 x.units_at_close = search rules in
    let price : SFits w64 c.args.self.price.value = search rules in
    let s = worth_small x c.args.self.price.value c.requires c.args.self.price.ok in
    let small = units_small x c.requires in
    let traded : SFits w64 (x.units -ℤ x.units_at_close) = omega (arith, ints) in
    let product : SFits w64 ((x.units -ℤ x.units_at_close) *ℤ c.args.self.price.value) = omega (arith, ints) in
    record { value = simp to_z-of_z; bound = simp to_z-of_z s }
