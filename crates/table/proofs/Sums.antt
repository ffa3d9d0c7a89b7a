-- A sum over the records after a put and after a take.
use Rattle.std.proofs.Common.{◌≡◌, ℕ, true, false, cond, eqb, ltb, List, [], ◌∷◌, ℤ, ◌+ℤ◌, ◌-ℤ◌, Some, None, arith}
use Rattle.std.proofs.lemmas.Int.{ints}
use Rattle.std.proofs.lemmas.Bool.Decides.{nat_tests}
use Rattle.table.specs.declared.keyed.Keyed.{Keyed}
use Rattle.table.specs.Records.{find_in, put_in, take_out, sum_of, amount_of}

module _ {V : Type 0} (f : Keyed V → ℤ) where
  pub sum-put : (r : Keyed V) (xs : List (Keyed V)) → sum_of f (put_in r xs) ≡ sum_of f xs -ℤ amount_of f (find_in r.key xs) +ℤ f r
  sum-put r [] = omega (arith, ints)
  sum-put r (x ∷ xs) =
      let ih = sum-put r xs in
      elim (ltb x.key r.key) as (λ b.
      sum_of f (cond b (x ∷ put_in r xs) (r ∷ cond (eqb x.key r.key) xs (x ∷ xs)))
      ≡ (f x +ℤ sum_of f xs) -ℤ amount_of f (cond b (find_in r.key xs) (cond (eqb x.key r.key) (Some x) None)) +ℤ f r) [
        | true ↦ omega (arith, ints)
        | false ↦ grind (arith, ints, nat_tests)
      ]

  pub sum-take : (k : ℕ) (xs : List (Keyed V)) → sum_of f (take_out k xs) ≡ sum_of f xs -ℤ amount_of f (find_in k xs)
  sum-take k [] = omega (arith, ints)
  sum-take k (x ∷ xs) = let ih = sum-take k xs in grind (arith, ints, nat_tests)
