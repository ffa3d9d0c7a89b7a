-- Records laid over the memory from its first place on.
use Rattle.std.proofs.Common.{◌≡◌, ℕ, ◌<◌, ◌≤◌, true, List, ◌++◌, length, take, drop, set, sym, refl, ap, ◌∙◌, subst, arith}
use Rattle.std.proofs.lemmas.Grind.{common_steps}
use Rattle.std.proofs.lemmas.List.{length-append, length-drop, length-set, length-take-le, set-append_left, take-append-drop, take_at}
use Rattle.std.proofs.lemmas.Slice.{drop-append-drop}
use Rattle.table.specs.declared.keyed.Keyed.{Keyed}
use Rattle.table.specs.declared.ordered.Table.{Table}
use Rattle.table.specs.Rising.{rising}
use Rattle.table.specs.View.{laid, memory, records}

module _ {V : Type 0} (t : Table V) where
  pub length-records : length (records t) ≡ t.count
  length-records = length-take-le t.count (memory t) t.within

  -- the records that a table holds lie over its memory
  pub laid-records : laid (records t) (memory t) ≡ memory t
  laid-records = let n = length-records in grind (arith, common_steps, take-append-drop)

  -- a write below the count
  pub laid-set : (i : ℕ) (x : Keyed V) → i < t.count → set (memory t) i x ≡ laid (set (records t) i x) (memory t)
  laid-set i x below =
      let n = length-records in
      let cut = take-append-drop t.count (memory t) in
      let inside = set-append_left (records t) (drop t.count (memory t)) i x (omega arith) in
      let same = length-set (records t) i x in
      cc

-- a write that leaves `after` of the memory `before`: the records ys laid over it, m in number
pub record Lays {V : Type 0} (before after ys : List (Keyed V)) (m : ℕ) : Type 0 where
  pub so : after ≡ laid ys before
  pub counted : length ys ≡ m
  pub fits : m ≤ length before

module _ {V : Type 0} {before after ys : List (Keyed V)} {m : ℕ} (w : Lays before after ys m) where
  pub now_records : take m after ≡ ys
  now_records = ap (take m) w.so ∙ take_at ys (drop (length ys) before) m w.counted

  pub now_memory : after ≡ laid (take m after) before
  now_memory = w.so ∙ ap (λ xs. laid xs before) (sym now_records)

  pub now_room : length after ≡ length before
  now_room =
      let a = length-append ys (drop (length ys) before) in
      let b = length-drop (length ys) before in
      ap length w.so ∙ omega arith

  -- the table's count and order, where the records rise
  pub now_sound : rising ys ≡ true → record { within : m ≤ length after; order : rising (take m after) ≡ true }
  now_sound up = record { within = subst (λ n. m ≤ n) (sym now_room) w.fits; order = subst (λ xs. rising xs ≡ true) (sym now_records) up }

-- of records laid twice, the second count, where they are no fewer
pub laid-laid : {V : Type 0} (xs ys ps : List (Keyed V)) → length xs ≤ length ys → laid ys (laid xs ps) ≡ laid ys ps
laid-laid xs ys ps le = ap (λ rest. ys ++ rest) (drop-append-drop (length xs) ps xs (length ys) le refl)
