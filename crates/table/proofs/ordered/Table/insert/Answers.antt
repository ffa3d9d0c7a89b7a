use Rattle.std.proofs.Common.{◌≡◌, ℕ, ◌+◌, ◌<◌, ◌≤◌, List, ◌++◌, length, drop, set, sym, refl, ap, ◌∙◌, arith}
use Rattle.std.specs.List.{copy_within}
use Rattle.std.proofs.lemmas.List.Edits.{length-insert}
use Rattle.table.specs.declared.keyed.Keyed.{Keyed}
use Rattle.table.specs.declared.ordered.Table.{Table}
use Rattle.table.specs.Places.{Lacks}
use Rattle.table.specs.Records.{put_in}
use Rattle.table.specs.View.{memory, records, room}
use Rattle.table.proofs.Memory.{Lays, length-records, now_memory, now_records, now_sound}
use Rattle.table.proofs.Order.{rising_fewer, rising-put}
use Rattle.table.proofs.Places.{put_lacks}
use Rattle.table.proofs.Shifts.{moved_up}
use Rattle.table.proofs.ordered.Table.insert.Goals as goal

-- the new list lies over the memory
written : {V : Type 0} (t : Table V) (place : ℕ) (r : Keyed V) (copied : List (Keyed V)) → Lacks r.key (records t) place → t.count < room t → copied ≡ copy_within (memory t) place t.count (place + 1) → Lays (memory t) (set copied place r) (put_in r (records t)) (t.count + 1)
written t place r copied lacks free so =
    let n = length-records t in
    let put = put_lacks r.key r (records t) place refl lacks in
    let long : length (put_in r (records t)) ≡ t.count + 1 = ap length put ∙ length-insert (records t) place r lacks.within ∙ ap (λ m. m + 1) n in
    record {
      so =
          ap (λ e. set e place r) so
          ∙ moved_up (memory t) t.count place r free (omega (arith, lacks.within))
          ∙ ap (λ xs. xs ++ drop (t.count + 1) (memory t)) (sym put)
          ∙ ap (λ m. put_in r (records t) ++ drop m (memory t)) (sym long);
      counted = long;
      fits = omega arith;
    }

pub invariant_of-self : goal.invariant_of-self
invariant_of-self g c =
    let t = c.args.self.now in
    let n = length-records t in
    let upto : c.args.place ≤ t.count = omega (arith, c.requires.place.within) in
    record { within = omega (arith, t.within); order = rising_fewer c.args.place t.count (memory t) upto t.order }

pub invariant_of-self-3 : goal.invariant_of-self-3
invariant_of-self-3 g c =
    let t = c.args.self.now in
    let n = length-records t in
    now_sound (written t c.args.place c.args.added _ c.requires.place (omega (arith, c.requires.free)) c.copy_within.ensures.after) (rising-put c.args.added (records t) t.order)

pub returns-clause-records : goal.returns-clause-records
returns-clause-records g c =
    now_records (written c.args.self.now c.args.place c.args.added _ c.requires.place (let n = length-records c.args.self.now in omega (arith, c.requires.free)) c.copy_within.ensures.after)

pub returns-clause-memory : goal.returns-clause-memory
returns-clause-memory g c =
    now_memory (written c.args.self.now c.args.place c.args.added _ c.requires.place (let n = length-records c.args.self.now in omega (arith, c.requires.free)) c.copy_within.ensures.after)
