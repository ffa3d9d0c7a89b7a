-- The laws of `find_in`, `put_in` and `take_out` on any list, and what a put answers.
use Rattle.std.proofs.Common.{◌≡◌, ℕ, ◌+◌, min, true, cond, ◌||◌, eqb, List, [], ◌∷◌, length, is_some, is_ok, Some, None, Result, ap, ◌∙◌, arith}
use native.Mathlib.Nat.{min-le_left}
use Rattle.std.proofs.lemmas.Bool.{cond-true}
use Rattle.std.proofs.lemmas.Bool.Decides.{nat_tests}
use Rattle.table.specs.declared.keyed.Keyed.{Keyed}
use Rattle.table.specs.declared.ordered.Stored.{Stored}
use Rattle.table.specs.declared.ordered.Full.{Full}
use Rattle.table.specs.Records.{find_in, put_in, take_out}
use Rattle.table.specs.View.{place_for, put_answer}

module _ {V : Type 0} where
  pub find-put_same : (r : Keyed V) (xs : List (Keyed V)) → find_in r.key (put_in r xs) ≡ Some r
  find-put_same r [] = grind (arith, nat_tests)
  find-put_same r (x ∷ xs) = let ih = find-put_same r xs in grind (arith, nat_tests)

  pub find-put_other : (r : Keyed V) (k : ℕ) (xs : List (Keyed V)) → (k ≡ r.key → ⊥) → find_in k (put_in r xs) ≡ find_in k xs
  find-put_other r k [] ne = grind (arith, nat_tests)
  find-put_other r k (x ∷ xs) ne = let ih = find-put_other r k xs ne in grind (arith, nat_tests)

  -- which keys a put leaves
  pub holds_put : (r : Keyed V) (k : ℕ) (xs : List (Keyed V)) → is_some (find_in k (put_in r xs)) ≡ (eqb r.key k || is_some (find_in k xs))
  holds_put r k xs = let same = find-put_same r xs in let other = find-put_other r k xs in grind (arith, nat_tests)

  pub length-put : (r : Keyed V) (xs : List (Keyed V)) → length (put_in r xs) ≡ length xs + cond (is_some (find_in r.key xs)) 0 1
  length-put r [] = grind (arith, nat_tests)
  length-put r (x ∷ xs) = let ih = length-put r xs in grind (arith, nat_tests)

  pub length-take : (k : ℕ) (xs : List (Keyed V)) → length (take_out k xs) + cond (is_some (find_in k xs)) 1 0 ≡ length xs
  length-take k [] = grind (arith, nat_tests)
  length-take k (x ∷ xs) = let ih = length-take k xs in grind (arith, nat_tests)

  -- taking a new key out again undoes its put
  pub take-put_new : (r : Keyed V) (xs : List (Keyed V)) → find_in r.key xs ≡ None → take_out r.key (put_in r xs) ≡ xs
  take-put_new r [] h = grind (arith, nat_tests)
  take-put_new r (x ∷ xs) h = let ih = take-put_new r xs in grind (arith, nat_tests)

  -- of two puts of one key the second counts
  pub put-put_same : (r s : Keyed V) (xs : List (Keyed V)) → s.key ≡ r.key → put_in s (put_in r xs) ≡ put_in s xs
  put-put_same r s [] e = grind (arith, nat_tests)
  put-put_same r s (x ∷ xs) e = let ih = put-put_same r s xs e in grind (arith, nat_tests)

  -- a put of what is found changes nothing
  pub put_found : (r : Keyed V) (xs : List (Keyed V)) → find_in r.key xs ≡ Some r → put_in r xs ≡ xs
  put_found r [] h = grind (arith, nat_tests)
  put_found r (x ∷ xs) h = let ih = put_found r xs in grind (arith, nat_tests)

  -- what is found has the key that was asked for
  pub key_found : (k : ℕ) (x : Keyed V) (xs : List (Keyed V)) → find_in k xs ≡ Some x → x.key ≡ k
  key_found k x [] h = grind (arith, nat_tests)
  key_found k x (y ∷ xs) h = let ih = key_found k x xs in grind (arith, nat_tests)

  -- a put is accepted where there is a place
  pub put_accepted : (n : ℕ) (r : Keyed V) (xs : List (Keyed V)) → is_ok (put_answer n r xs) ≡ place_for n r.key xs
  put_accepted n r xs = grind (arith, nat_tests)

  -- what a put leaves where there is a place, from its promises of `answer` and `records`
  pub put_lands : (n : ℕ) (r : Keyed V) (xs ys : List (Keyed V)) (a : Result Stored Full) → a ≡ put_answer n r xs → ys ≡ cond (is_ok a) (put_in r xs) xs → place_for n r.key xs ≡ true → ys ≡ put_in r xs
  put_lands n r xs ys a e f h = f ∙ cond-true (is_ok a) (put_in r xs) xs (ap is_ok e ∙ put_accepted n r xs ∙ h)

  -- a place within a limit is a place
  pub place_within : (n limit k : ℕ) (xs : List (Keyed V)) → place_for (min n limit) k xs ≡ true → place_for n k xs ≡ true
  place_within n limit k xs h = let low = min-le_left n limit in grind (arith, nat_tests)
