use Rattle.std.proofs.Common.{ℕ, ◌<◌, get_or, set, sym, ap, ◌∙◌, arith}
use Rattle.std.proofs.lemmas.List.{get_or-take}
use Rattle.table.specs.declared.keyed.Keyed.{Keyed}
use Rattle.table.specs.declared.ordered.Table.{Table}
use Rattle.table.specs.Records.{set_in}
use Rattle.table.specs.View.{laid, memory, records}
use Rattle.table.proofs.Memory.{Lays, laid-set, length-records, now_memory, now_records, now_sound}
use Rattle.table.proofs.Order.{rising_keys}
use Rattle.table.proofs.Values.{keys-set, length-set_in, set_in_past, set_value}
use Rattle.table.proofs.ordered.Table.set_at.Goals as goal

-- a value written at a place below the count
written : {V : Type 0} (t : Table V) (i : ℕ) (v : V) (d : Keyed V) → i < t.count → Lays (memory t) (set (memory t) i (record { key = (get_or (memory t) i d).key; value = v })) (set_in i v (records t)) t.count
written {V} t i v d below =
    let n = length-records t in
    let valued : Keyed V → Keyed V = λ y. record { key = y.key; value = v } in
    record {
      so =
          laid-set t i (valued (get_or (memory t) i d)) below
          ∙ ap (λ xs. laid xs (memory t)) (ap (λ y. set (records t) i (valued y)) (sym (get_or-take t.count (memory t) i d below)) ∙ set_value v (records t) i d (omega arith));
      counted = length-set_in v i (records t) ∙ n;
      fits = t.within;
    }

pub invariant_of-self : goal.invariant_of-self
invariant_of-self g c =
    let t = c.args.self.now in
    let w = written t c.args.place c.args.value c.index-self-place.result c.if-place-self.true in
    now_sound w (rising_keys _ (records t) (keys-set c.args.value c.args.place (records t)) ∙ t.order)

pub returns-then-place-self-clause-records : goal.returns-then-place-self-clause-records
returns-then-place-self-clause-records g c = now_records (written c.args.self.now c.args.place c.args.value c.index-self-place.result c.if-place-self.true)

pub returns-then-place-self-clause-memory : goal.returns-then-place-self-clause-memory
returns-then-place-self-clause-memory g c = now_memory (written c.args.self.now c.args.place c.args.value c.index-self-place.result c.if-place-self.true)

pub returns-clause-records : goal.returns-clause-records
returns-clause-records g c =
    let t = c.args.self.now in
    let n = length-records t in
    sym (set_in_past c.args.value c.args.place (records t) (omega arith))
