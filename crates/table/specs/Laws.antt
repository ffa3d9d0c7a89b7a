-- What a put and a take change, told by what is found, counted and summed before and after.
use Rattle.std.specs.Prelude.{◌≡◌, ℕ, ◌+◌, cond, List, length, ℤ, ◌+ℤ◌, ◌-ℤ◌, is_some, Some, None, ◌≢◌}
use Rattle.table.specs.Records.{find_in, take_out, sum_of, amount_of}
use Rattle.table.specs.declared.keyed.Keyed.{Keyed}

-- an accepted put of r: its key finds r, and every other key what it found before; taking a new key out again undoes it
pub record AfterPut {V : Type 0} (r : Keyed V) (before after : List (Keyed V)) : Type 0 where
  pub same : find_in r.key after ≡ Some r
  pub others : (k : ℕ) → (k ≢ r.key) → find_in k after ≡ find_in k before
  pub count : length after ≡ length before + cond (is_some (find_in r.key before)) 0 1
  pub undone : find_in r.key before ≡ None → take_out r.key after ≡ before
  pub sum : (f : Keyed V → ℤ) → sum_of f after ≡ sum_of f before -ℤ amount_of f (find_in r.key before) +ℤ f r

-- a take of the key k: it is found no more, and every other key finds what it found before
pub record AfterTake {V : Type 0} (k : ℕ) (before after : List (Keyed V)) : Type 0 where
  pub gone : find_in k after ≡ None
  pub others : (j : ℕ) → (j ≢ k) → find_in j after ≡ find_in j before
  pub count : length after + cond (is_some (find_in k before)) 1 0 ≡ length before
  pub sum : (f : Keyed V → ℤ) → sum_of f after ≡ sum_of f before -ℤ amount_of f (find_in k before)
