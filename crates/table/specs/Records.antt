-- What find, put, take and set do with the list of records, in rising key, that a table holds; and sums over it.
use Rattle.std.specs.Prelude.{◌≡◌, ℕ, zero, suc, cond, List, [], ◌∷◌, map, ℤ, pos, ◌+ℤ◌, Some, None, Option, ◌==◌, nat_lt}
use Rattle.table.specs.declared.keyed.Keyed.{Keyed}

abbrev pub key_of : {V : Type 0} → Keyed V → ℕ
key_of x = x.key

-- the record of the key k
abbrev pub find_in : {V : Type 0} → ℕ → List (Keyed V) → Option (Keyed V)
find_in k [] = None
find_in k (x ∷ xs) = cond (nat_lt x.key k) (find_in k xs) (cond (x.key == k) (Some x) None)

-- the list with r: in place of the record of its key, or else at the place of its key
abbrev pub put_in : {V : Type 0} → Keyed V → List (Keyed V) → List (Keyed V)
put_in r [] = r ∷ []
put_in r (x ∷ xs) = cond (nat_lt x.key r.key) (x ∷ put_in r xs) (r ∷ cond (x.key == r.key) xs (x ∷ xs))

-- the list without the record of the key k
abbrev pub take_out : {V : Type 0} → ℕ → List (Keyed V) → List (Keyed V)
take_out k [] = []
take_out k (x ∷ xs) = cond (nat_lt x.key k) (x ∷ take_out k xs) (cond (x.key == k) xs (x ∷ xs))

-- the list with the value v at the place i, if a record stands there; its key stays
abbrev pub set_in : {V : Type 0} → ℕ → V → List (Keyed V) → List (Keyed V)
set_in i v [] = []
set_in zero v (x ∷ xs) = record { key = x.key; value = v } ∷ xs
set_in (suc i) v (x ∷ xs) = x ∷ set_in i v xs

-- the record with f of its value; its key stays
abbrev pub revalued : {V : Type 0} → (V → V) → Keyed V → Keyed V
revalued f x = record { key = x.key; value = f x.value }

-- each result that a call may give, by what it is called at, is that of g
abbrev pub Computes : {V : Type 0} → (V → V → Type 0) → (V → V) → Type 0
Computes {V} gives g = (v w : V) → gives v w → w ≡ g v

abbrev pub each_value : {V : Type 0} → (V → V) → List (Keyed V) → List (Keyed V)
each_value f xs = map (revalued f) xs

-- the sum of an amount of each record
abbrev pub sum_of : {V : Type 0} → (Keyed V → ℤ) → List (Keyed V) → ℤ
sum_of f [] = pos 0
sum_of f (x ∷ xs) = f x +ℤ sum_of f xs

-- the amount of a record, 0 for none
abbrev pub amount_of : {V : Type 0} → (Keyed V → ℤ) → Option (Keyed V) → ℤ
amount_of f None = pos 0
amount_of f (Some x) = f x
