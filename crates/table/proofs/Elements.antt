-- What holds of each record holds after a put of such a record, after a take, and of what is found.
use Rattle.std.proofs.Common.{◌≡◌, ℕ, List, [], ◌∷◌, Some, arith}
use Rattle.std.specs.List.{AllByRecursion}
use Rattle.std.proofs.lemmas.Bool.Decides.{nat_tests}
use Rattle.table.specs.declared.keyed.Keyed.{Keyed}
use Rattle.table.specs.Records.{find_in, put_in, take_out}

module _ {V : Type 0} (P : Keyed V → Type 0) where
  pub all_put : (r : Keyed V) (xs : List (Keyed V)) → P r → AllByRecursion P xs → AllByRecursion P (put_in r xs)
  all_put r [] pr _ = (pr, tt)
  all_put r (x ∷ xs) pr (px, ps) = let ih = all_put r xs pr ps in grind (arith, nat_tests)

  pub all_take_out : (k : ℕ) (xs : List (Keyed V)) → AllByRecursion P xs → AllByRecursion P (take_out k xs)
  all_take_out k [] _ = tt
  all_take_out k (x ∷ xs) (px, ps) = let ih = all_take_out k xs ps in grind (arith, nat_tests)

  pub all_find : (k : ℕ) (x : Keyed V) (xs : List (Keyed V)) → AllByRecursion P xs → find_in k xs ≡ Some x → P x
  all_find k x [] _ e = grind arith
  all_find k x (y ∷ ys) (py, ps) e = let ih = all_find k x ys ps in grind (arith, nat_tests)
