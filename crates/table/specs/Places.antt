-- The place of a key in a list of records.
use Rattle.std.specs.Prelude.{◌≡◌, ℕ, ◌<◌, ◌≤◌, List, length}
use Rattle.std.specs.List.{AllWithin, HoldsAt}
use Rattle.std.specs.List.Sorted.{IsPartitionPoint}
use Rattle.table.specs.declared.keyed.Keyed.{Keyed}

-- the record of the key k stands at the place i, and lower keys before it
pub record Stands {V : Type 0} (k : ℕ) (xs : List (Keyed V)) (i : ℕ) : Type 0 where
  pub within : i < length xs
  pub before : AllWithin (λ x. x.key < k) xs 0 i
  pub here : HoldsAt (λ x. x.key ≡ k) xs i

-- no record has the key k: lower keys stand before the place i, and a higher one there if any
pub record Lacks {V : Type 0} (k : ℕ) (xs : List (Keyed V)) (i : ℕ) : Type 0 where
  pub within : i ≤ length xs
  pub before : AllWithin (λ x. x.key < k) xs 0 i
  pub here : i < length xs → HoldsAt (λ x. k < x.key) xs i

-- the same, and higher keys stand from the place on
pub record Parted {V : Type 0} (k : ℕ) (xs : List (Keyed V)) (i : ℕ) : Type 0 where
  pub lacks : Lacks k xs i
  pub parted : IsPartitionPoint (λ x. x.key < k) (λ x. k < x.key) xs i
