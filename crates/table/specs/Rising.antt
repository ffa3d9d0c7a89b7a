-- Lists of records in strictly rising key.
use Rattle.std.specs.Prelude.{ℕ, Bool, true, ◌&&◌, List, [], ◌∷◌, nat_lt}
use Rattle.table.specs.declared.keyed.Keyed.{Keyed}

-- whether each record has a key above k
abbrev pub above : {V : Type 0} → ℕ → List (Keyed V) → Bool
above k [] = true
above k (x ∷ xs) = nat_lt k x.key && above k xs

-- whether each record's key is below those of all records after it
abbrev pub rising : {V : Type 0} → List (Keyed V) → Bool
rising [] = true
rising (x ∷ xs) = above x.key xs && rising xs
