use Rattle.std.proofs.Common.{◌-ℤ◌, ◌*ℤ◌, arith, w64, SFits, rules}
use Rattle.std.proofs.lemmas.Int.{to_z-of_z, ints}
use Rattle.settlement.proofs.Sizes.{gain_small}
use Rattle.settlement.proofs.payment.Repricing.gain.Goals as goal

pub overflow_mul-result : goal.overflow_mul-result
overflow_mul-result c =
    let at_close : SFits w64 c.args.account.units_at_close = search rules in
    let last : SFits w64 c.args.self.last.value = search rules in
    let price : SFits w64 c.args.self.price.value = search rules in
    let s = gain_small c.args.account c.args.self.last.value c.args.self.price.value c.requires c.args.self.last.ok c.args.self.price.ok in
    let change : SFits w64 (c.args.self.price.value -ℤ c.args.self.last.value) = omega (arith, ints, c.args.self.last.ok, c.args.self.price.ok) in
    let product : SFits w64 (c.args.account.units_at_close *ℤ (c.args.self.price.value -ℤ c.args.self.last.value)) = omega (arith, ints) in
    simp to_z-of_z product

pub returns : goal.returns
returns c =
    let at_close : SFits w64 c.args.account.units_at_close = search rules in
    let last : SFits w64 c.args.self.last.value = search rules in
    let price : SFits w64 c.args.self.price.value = search rules in
    let s = gain_small c.args.account c.args.self.last.value c.args.self.price.value c.requires c.args.self.last.ok c.args.self.price.ok in
    let change : SFits w64 (c.args.self.price.value -ℤ c.args.self.last.value) = omega (arith, ints, c.args.self.last.ok, c.args.self.price.ok) in
    let product : SFits w64 (c.args.account.units_at_close *ℤ (c.args.self.price.value -ℤ c.args.self.last.value)) = omega (arith, ints) in
    record { value = simp to_z-of_z; bound = simp to_z-of_z s }
