use Rattle.std.proofs.Common.{◌≡◌, length, drop, ◌++◌, ap, ◌∙◌, arith}
use Rattle.table.specs.View.{memory, records}
use Rattle.table.proofs.Memory.{Lays, length-records, now_sound}
use Rattle.table.proofs.Order.{rising_keys}
use Rattle.table.proofs.ordered.Table.map_values.Goals as goal

pub invariant_of-self : goal.invariant_of-self
invariant_of-self g c =
    let t = c.args.self.now in
    let ys = c.map_each.new.records in
    let n = length-records t in
    let long : t.count ≡ length ys = omega (arith, c.map_each.auto.records) in
    let w : Lays (memory t) (ys ++ drop t.count (memory t)) ys t.count = record { so = ap (λ m. ys ++ drop m (memory t)) long; counted = omega arith; fits = t.within } in
    now_sound w (rising_keys ys (records t) c.map_each.ensures.keys ∙ t.order)
