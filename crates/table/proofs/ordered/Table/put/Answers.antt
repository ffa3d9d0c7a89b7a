use Rattle.std.proofs.Common.{ℕ, length, set, sym, refl, ap, ◌∙◌, arith}
use Rattle.std.proofs.lemmas.List.{length-set}
use Rattle.table.specs.declared.keyed.Keyed.{Keyed}
use Rattle.table.specs.declared.ordered.Table.{Table}
use Rattle.table.specs.Places.{Stands}
use Rattle.table.specs.Records.{put_in}
use Rattle.table.specs.View.{laid, memory, records, room}
use Rattle.table.proofs.Memory.{Lays, laid-set, length-records, now_memory, now_records, now_sound}
use Rattle.table.proofs.Order.{rising-put}
use Rattle.table.proofs.Places.{put_adds, put_full, put_replaces, put_stands}
use Rattle.table.proofs.Told.{after_put}
use Rattle.table.proofs.ordered.Table.put.Goals as goal

-- the record of its key is written over
written : {V : Type 0} (t : Table V) (place : ℕ) (r : Keyed V) → Stands r.key (records t) place → Lays (memory t) (set (memory t) place r) (put_in r (records t)) t.count
written t place r s =
    let n = length-records t in
    let replaced = put_stands r.key r (records t) place refl s in
    record {
      so = laid-set t place r (omega (arith, s.within)) ∙ ap (λ xs. laid xs (memory t)) (sym replaced);
      counted = ap length replaced ∙ length-set (records t) place r ∙ n;
      fits = t.within;
    }

pub invariant_of-self : goal.invariant_of-self
invariant_of-self g c =
    let t = c.args.self.now in
    now_sound (written t c.in-Ok.place c.args.incoming c.in-Ok.ensures) (rising-put c.args.incoming (records t) t.order)

pub returns-in-Ok-clause-answer : goal.returns-in-Ok-clause-answer
returns-in-Ok-clause-answer g c = let t = c.args.self.now in sym (put_replaces (room t) c.args.incoming (records t) c.in-Ok.place c.in-Ok.ensures)

pub returns-in-Ok-clause-records : goal.returns-in-Ok-clause-records
returns-in-Ok-clause-records g c = now_records (written c.args.self.now c.in-Ok.place c.args.incoming c.in-Ok.ensures)

pub returns-in-Ok-clause-memory : goal.returns-in-Ok-clause-memory
returns-in-Ok-clause-memory g c = now_memory (written c.args.self.now c.in-Ok.place c.args.incoming c.in-Ok.ensures)

pub returns-in-Ok-clause-law : goal.returns-in-Ok-clause-law
returns-in-Ok-clause-law g c = λ _. after_put c.args.incoming (records c.args.self.now) _ (now_records (written c.args.self.now c.in-Ok.place c.args.incoming c.in-Ok.ensures))

pub returns-then-self-clause-answer : goal.returns-then-self-clause-answer
returns-then-self-clause-answer g c =
    let t = c.args.self.now in
    let n = length-records t in
    sym (put_full (room t) c.args.incoming (records t) c.in-Err.place c.in-Err.ensures.lacks (omega arith))

pub returns-else-self-clause-answer : goal.returns-else-self-clause-answer
returns-else-self-clause-answer g c =
    let t = c.args.self.now in
    let n = length-records t in
    sym (put_adds (room t) c.args.incoming (records t) c.in-Err.place c.in-Err.ensures.lacks (omega (arith, t.within, c.if-self.false)))

pub returns-else-self-clause-law : goal.returns-else-self-clause-law
returns-else-self-clause-law g c = λ _. after_put c.args.incoming (records c.args.self.now) _ c.insert.ensures.records
