use Rattle.std.proofs.Common.{◌≡◌, ℕ, ◌+◌, ◌-◌, List, ◌++◌, length, drop, sym, ap, ◌∙◌, arith}
use Rattle.std.specs.List.{copy_within}
use Rattle.std.proofs.lemmas.List.Edits.{length-remove}
use Rattle.table.specs.declared.keyed.Keyed.{Keyed}
use Rattle.table.specs.declared.ordered.Table.{Table}
use Rattle.table.specs.Places.{Stands}
use Rattle.table.specs.Records.{take_out}
use Rattle.table.specs.View.{memory, records}
use Rattle.table.proofs.Memory.{Lays, length-records, now_records, now_sound}
use Rattle.table.proofs.Order.{rising_fewer, rising-take}
use Rattle.table.proofs.Places.{take_stands}
use Rattle.table.proofs.Shifts.{moved_down}
use Rattle.table.proofs.ordered.Table.remove.Goals as goal

-- the list without the key lies over the memory
written : {V : Type 0} (t : Table V) (place key : ℕ) (copied : List (Keyed V)) → Stands key (records t) place → copied ≡ copy_within (memory t) (place + 1) t.count place → Lays (memory t) copied (take_out key (records t)) (t.count - 1)
written t place key copied stands so =
    let n = length-records t in
    let out = take_stands key (records t) place stands in
    let fewer = length-remove (records t) place stands.within in
    let long : length (take_out key (records t)) ≡ t.count - 1 = ap length out ∙ omega arith in
    record {
      so =
          so
          ∙ moved_down (memory t) t.count place (omega (arith, stands.within))
          ∙ ap (λ xs. xs ++ drop (t.count - 1) (memory t)) (sym out)
          ∙ ap (λ m. take_out key (records t) ++ drop m (memory t)) (sym long);
      counted = long;
      fits = omega (arith, t.within);
    }

pub invariant_of-self : goal.invariant_of-self
invariant_of-self g c =
    let t = c.args.self.now in
    record { within = omega (arith, t.within); order = rising_fewer (t.count - 1) t.count (memory t) (omega arith) t.order }

pub invariant_of-self-2 : goal.invariant_of-self-2
invariant_of-self-2 g c =
    let t = c.args.self.now in
    now_sound (written t c.args.place c.args.key _ c.requires c.copy_within.ensures.after) (rising-take c.args.key (records t) t.order)

pub returns-clause-records : goal.returns-clause-records
returns-clause-records g c = now_records (written c.args.self.now c.args.place c.args.key _ c.requires c.copy_within.ensures.after)
