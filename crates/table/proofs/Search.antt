-- What a binary search by key finds in a rising list.
use Rattle.std.proofs.Common.{◌≡◌, ℕ, zero, suc, ◌<◌, ◌≤◌, true, ltb, List, [], ◌∷◌, length, get_or, Result, Ok, Err, MatchResult, sym, refl, ap, arith}
use Rattle.std.specs.List.Sorted.{IsSearchInRange, IsBinarySearchResult, IsNonDecreasingBy}
use Rattle.std.specs.Ordering.{nat_cmp, ordering_index}
use Rattle.std.proofs.lemmas.Bool.{and_parts}
use Rattle.std.proofs.lemmas.Bool.Decides.{nat_tests}
use Rattle.std.proofs.lemmas.Cmp.{ranked}
use Rattle.std.proofs.lemmas.List.Recursion.{and_at}
use Rattle.table.specs.declared.keyed.Keyed.{Keyed}
use Rattle.table.specs.Places.{Stands, Parted}
use Rattle.table.specs.Rising.{above, rising}

module _ {V : Type 0} where
  above_at : (k : ℕ) (xs : List (Keyed V)) (i : ℕ) (d : Keyed V) → above k xs ≡ true → i < length xs → k < (get_or xs i d).key
  above_at k xs i d h lt = let at = and_at (above k) (λ x. ltb k x.key) refl (λ _ _. refl) xs i d lt h in grind (arith, nat_tests)

  keys_rise : (xs : List (Keyed V)) (i j : ℕ) (d : Keyed V) → rising xs ≡ true → i < j → j < length xs → (get_or xs i d).key < (get_or xs j d).key
  keys_rise [] i j d up lt in' = absurd (omega arith)
  keys_rise (x ∷ xs) i zero d up lt in' = absurd (omega arith)
  keys_rise (x ∷ xs) zero (suc j) d up lt in' = above_at x.key xs j d (and_parts (above x.key xs) (rising xs) up).0 (omega arith)
  keys_rise (x ∷ xs) (suc i) (suc j) d up lt in' = keys_rise xs i j d (and_parts (above x.key xs) (rising xs) up).1 (omega arith) (omega arith)

  module _ (xs : List (Keyed V)) (up : rising xs ≡ true) (k : ℕ) where
    -- the comparisons with k rise along the list, as a binary search asks
    comparisons_rise : IsNonDecreasingBy (λ x. ordering_index (nat_cmp x.key k)) xs
    comparisons_rise i j d le in' =
        let keys : (get_or xs i d).key ≤ (get_or xs j d).key = grind (arith, keys_rise xs i j d up, λ (same : i ≡ j). ap (λ n. (get_or xs n d).key) same) in
        grind (arith, nat_tests)

    pub searched : (r : Result ℕ ℕ) → IsSearchInRange r (length xs) → IsBinarySearchResult (λ x. nat_cmp x.key k) xs r → MatchResult r (Stands k xs) (Parted k xs)
    searched (Ok i) in' equal = record {
      within = in';
      before = λ j d lo hi. let here = ranked _ k _ (sym (equal d)) in let low = keys_rise xs j i d up hi in' in omega arith;
      here = λ d. ranked _ k _ (sym (equal d));
    }
    searched (Err i) in' parted =
        let low = λ (j : ℕ) (d : Keyed V) (lo : 0 ≤ j) (hi : j < i). ranked _ k _ (sym ((parted comparisons_rise).0 j d lo hi)) in
        let high = λ (j : ℕ) (d : Keyed V) (lo : i ≤ j) (hi : j < length xs). ranked _ k _ (sym ((parted comparisons_rise).1 j d lo hi)) in
        record { lacks = record { within = in'; before = low; here = λ h d. high i d (omega arith) h }; parted = (low, high) }
