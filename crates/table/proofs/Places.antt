-- What `find_in`, `put_in`, `take_out` and a put's answer are at the place of a key.
use Rattle.std.proofs.Common.{◌≡◌, ℕ, zero, suc, ◌<◌, ◌≤◌, true, List, [], ◌∷◌, length, set, is_some, Some, None, Result, Ok, Err, MatchOption, MatchResult, Option, sym, refl, ap, ◌∙◌, arith}
use Rattle.std.specs.List.{insert, remove, slice_get}
use Rattle.std.specs.Result.{result_ok}
use Rattle.std.proofs.lemmas.Bool.Decides.{nat_tests}
use Rattle.std.proofs.lemmas.Option.{MatchOption-at_none, MatchOption-at_some, slice_get-get_or}
use Rattle.table.specs.declared.keyed.Keyed.{Keyed}
use Rattle.table.specs.declared.ordered.Stored.TheVariants.{Replaced, Added}
use Rattle.table.specs.Places.{Stands, Lacks, Parted}
use Rattle.table.specs.Records.{find_in, put_in, take_out}
use Rattle.table.specs.View.{put_answer}

module _ {V : Type 0} (k : ℕ) where
  -- a place past the first record is one of the others
  stands_rest : (x : Keyed V) (xs : List (Keyed V)) (i : ℕ) → Stands k (x ∷ xs) (suc i) → Stands k xs i
  stands_rest x xs i s = record { within = omega (arith, s.within); before = λ j d lo hi. s.before (suc j) d (omega arith) (omega arith); here = s.here }

  lacks_rest : (x : Keyed V) (xs : List (Keyed V)) (i : ℕ) → Lacks k (x ∷ xs) (suc i) → Lacks k xs i
  lacks_rest x xs i l = record {
    within = omega (arith, l.within);
    before = λ j d lo hi. l.before (suc j) d (omega arith) (omega arith);
    here = λ h. l.here (omega arith);
  }

  pub find_stands : (xs : List (Keyed V)) (i : ℕ) → Stands k xs i → find_in k xs ≡ slice_get xs i
  find_stands [] i s = absurd (omega (arith, s.within))
  find_stands (x ∷ xs) zero s = let here = s.here x in grind (arith, nat_tests)
  find_stands (x ∷ xs) (suc i) s =
      let ih = find_stands xs i (stands_rest x xs i s) in
      let low = s.before 0 x (omega arith) (omega arith) in
      grind (arith, nat_tests)

  pub put_stands : (r : Keyed V) (xs : List (Keyed V)) (i : ℕ) → r.key ≡ k → Stands k xs i → put_in r xs ≡ set xs i r
  put_stands r [] i e s = absurd (omega (arith, s.within))
  put_stands r (x ∷ xs) zero e s = let here = s.here x in grind (arith, nat_tests)
  put_stands r (x ∷ xs) (suc i) e s =
      let ih = put_stands r xs i e (stands_rest x xs i s) in
      let low = s.before 0 x (omega arith) (omega arith) in
      grind (arith, nat_tests)

  pub take_stands : (xs : List (Keyed V)) (i : ℕ) → Stands k xs i → take_out k xs ≡ remove xs i
  take_stands [] i s = absurd (omega (arith, s.within))
  take_stands (x ∷ xs) zero s = let here = s.here x in grind (arith, nat_tests)
  take_stands (x ∷ xs) (suc i) s =
      let ih = take_stands xs i (stands_rest x xs i s) in
      let low = s.before 0 x (omega arith) (omega arith) in
      grind (arith, nat_tests)

  pub find_lacks : (xs : List (Keyed V)) (i : ℕ) → Lacks k xs i → find_in k xs ≡ None
  find_lacks [] i l = refl
  find_lacks (x ∷ xs) zero l = let high = l.here (omega arith) x in grind (arith, nat_tests)
  find_lacks (x ∷ xs) (suc i) l =
      let ih = find_lacks xs i (lacks_rest x xs i l) in
      let low = l.before 0 x (omega arith) (omega arith) in
      grind (arith, nat_tests)

  pub put_lacks : (r : Keyed V) (xs : List (Keyed V)) (i : ℕ) → r.key ≡ k → Lacks k xs i → put_in r xs ≡ insert xs i r
  put_lacks r [] zero e l = refl
  put_lacks r [] (suc i) e l = absurd (omega (arith, l.within))
  put_lacks r (x ∷ xs) zero e l = let high = l.here (omega arith) x in grind (arith, nat_tests)
  put_lacks r (x ∷ xs) (suc i) e l =
      let ih = put_lacks r xs i e (lacks_rest x xs i l) in
      let low = l.before 0 x (omega arith) (omega arith) in
      grind (arith, nat_tests)

  pub take_lacks : (xs : List (Keyed V)) (i : ℕ) → Lacks k xs i → take_out k xs ≡ xs
  take_lacks [] i l = refl
  take_lacks (x ∷ xs) zero l = let high = l.here (omega arith) x in grind (arith, nat_tests)
  take_lacks (x ∷ xs) (suc i) l =
      let ih = take_lacks xs i (lacks_rest x xs i l) in
      let low = l.before 0 x (omega arith) (omega arith) in
      grind (arith, nat_tests)

  pub holds_stands : (xs : List (Keyed V)) (i : ℕ) → Stands k xs i → is_some (find_in k xs) ≡ true
  holds_stands [] i s = absurd (omega (arith, s.within))
  holds_stands (x ∷ xs) i s = ap is_some (find_stands (x ∷ xs) i s ∙ slice_get-get_or (x ∷ xs) i x s.within)

  -- what a search says whose place alone is kept
  module _ (xs : List (Keyed V)) (r : Result ℕ ℕ) (found : MatchResult r (Stands k xs) (Parted k xs)) (o : Option ℕ) (so : o ≡ result_ok r) where
    sought : MatchOption (result_ok r) ((find_in k xs ≡ None) × (take_out k xs ≡ xs)) (Stands k xs)
    sought = elim r as (λ r. MatchResult r (Stands k xs) (Parted k xs) → MatchOption (result_ok r) ((find_in k xs ≡ None) × (take_out k xs ≡ xs)) (Stands k xs)) [
      | Ok i ↦ λ s. s
      | Err i ↦ λ p. (find_lacks xs i p.lacks, take_lacks xs i p.lacks)
    ] found

    pub place_kept : (i : ℕ) → o ≡ Some i → Stands k xs i
    place_kept i is = MatchOption-at_some _ _ i (sym so ∙ is) sought

    pub no_place : o ≡ None → (find_in k xs ≡ None) × (take_out k xs ≡ xs)
    no_place is = MatchOption-at_none _ _ (sym so ∙ is) sought

-- what a put answers where its key stands, and where it lacks
module _ {V : Type 0} (n : ℕ) (r : Keyed V) (xs : List (Keyed V)) (i : ℕ) where
  pub put_replaces : Stands r.key xs i → put_answer n r xs ≡ Ok Replaced
  put_replaces s = let here = holds_stands r.key xs i s in grind (arith, nat_tests)

  module _ (l : Lacks r.key xs i) where
    pub put_adds : length xs < n → put_answer n r xs ≡ Ok Added
    put_adds h = let none = find_lacks r.key xs i l in grind (arith, nat_tests)

    pub put_full : n ≤ length xs → put_answer n r xs ≡ Err (record {})
    put_full h = let none = find_lacks r.key xs i l in grind (arith, nat_tests)
