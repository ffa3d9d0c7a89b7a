-- What a table means: its records in their order, the memory that it is lent, and what a put answers.
use Rattle.std.specs.Prelude.{◌≡◌, ℕ, Bool, cond, ◌||◌, List, ◌++◌, length, take, drop, is_some, Ok, Err, Result, nat_lt}
use Rattle.table.specs.Records.{find_in}
use Rattle.table.specs.declared.keyed.Keyed.{Keyed}
use Rattle.table.specs.declared.ordered.Table.{Table}
use Rattle.table.specs.declared.ordered.Stored.{Stored}
use Rattle.table.specs.declared.ordered.Stored.TheVariants.{Replaced, Added}
use Rattle.table.specs.declared.ordered.Full.{Full}

-- all places that the table is lent, with what they hold
abbrev pub memory : {V : Type 0} → Table V → List (Keyed V)
memory t = t.places.now

abbrev pub records : {V : Type 0} → Table V → List (Keyed V)
records t = take t.count (memory t)

-- the number of places
abbrev pub room : {V : Type 0} → Table V → ℕ
room t = length (memory t)

-- a change leaves a table over the places that it was lent: as many as before, and to the same lender
pub record SamePlaces {V : Type 0} (before after : Table V) : Type 0 where
  pub room : room after ≡ room before
  pub lender : after.places.ghost_name ≡ before.places.ghost_name

-- the memory with the records xs in its first places, and beyond them as it was
abbrev pub laid : {V : Type 0} → List (Keyed V) → List (Keyed V) → List (Keyed V)
laid xs places = xs ++ drop (length xs) places

-- a change lays the records that it leaves over the memory, and writes nothing beyond them
abbrev pub LaysRecords : {V : Type 0} → Table V → Table V → Type 0
LaysRecords before after = memory after ≡ laid (records after) (memory before)

-- whether a table of n places with the records xs has a place for the key k: it stands there, or a place is left
abbrev pub place_for : {V : Type 0} → ℕ → ℕ → List (Keyed V) → Bool
place_for n k xs = is_some (find_in k xs) || nat_lt (length xs) n

-- what a put of r answers, at a table of n places with the records xs
abbrev pub put_answer : {V : Type 0} → ℕ → Keyed V → List (Keyed V) → Result Stored Full
put_answer n r xs = cond (is_some (find_in r.key xs)) (Ok Replaced) (cond (nat_lt (length xs) n) (Ok Added) (Err (record {})))
