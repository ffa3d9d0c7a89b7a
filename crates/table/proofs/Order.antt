-- Keys that rise: put and take keep the order, and what it says of find.
use Rattle.std.proofs.Common.{◌≡◌, ℕ, zero, suc, ◌<◌, ◌≤◌, true, List, [], ◌∷◌, map, set, take, Some, None, refl, ap, subst, arith}
use Rattle.std.specs.List.{slice_get}
use Rattle.std.proofs.lemmas.List.{take-take}
use Rattle.std.proofs.lemmas.Bool.{and_parts}
use Rattle.std.proofs.lemmas.Bool.Decides.{nat_tests}
use Rattle.table.specs.declared.keyed.Keyed.{Keyed}
use Rattle.table.specs.Records.{find_in, key_of, put_in, take_out}
use Rattle.table.specs.Rising.{above, rising}

module _ {V : Type 0} where
  -- ---- the order is kept
  pub above_less : (j k : ℕ) (xs : List (Keyed V)) → j ≤ k → above k xs ≡ true → above j xs ≡ true
  above_less j k [] le h = refl
  above_less j k (x ∷ xs) le h = let ih = above_less j k xs le in grind (arith, nat_tests)

  above-put : (k : ℕ) (r : Keyed V) (xs : List (Keyed V)) → k < r.key → above k xs ≡ true → above k (put_in r xs) ≡ true
  above-put k r [] lt h = grind (arith, nat_tests)
  above-put k r (x ∷ xs) lt h = let ih = above-put k r xs lt in grind (arith, nat_tests)

  above-take : (k j : ℕ) (xs : List (Keyed V)) → above k xs ≡ true → above k (take_out j xs) ≡ true
  above-take k j [] h = refl
  above-take k j (x ∷ xs) h = let ih = above-take k j xs in grind (arith, nat_tests)

  above_prefix : (k n : ℕ) (xs : List (Keyed V)) → above k xs ≡ true → above k (take n xs) ≡ true
  above_prefix k zero xs h = refl
  above_prefix k (suc n) [] h = refl
  above_prefix k (suc n) (x ∷ xs) h = let ih = above_prefix k n xs in grind (arith, nat_tests)

  pub rising-put : (r : Keyed V) (xs : List (Keyed V)) → rising xs ≡ true → rising (put_in r xs) ≡ true
  rising-put r [] h = refl
  rising-put r (x ∷ xs) h =
      let ih = rising-put r xs in
      let up = above-put x.key r xs in
      let low = above_less r.key x.key xs in
      grind (arith, nat_tests)

  pub rising-take : (k : ℕ) (xs : List (Keyed V)) → rising xs ≡ true → rising (take_out k xs) ≡ true
  rising-take k [] h = refl
  rising-take k (x ∷ xs) h =
      let ih = rising-take k xs in
      let up = above-take x.key k xs in
      grind (arith, nat_tests)

  rising_prefix : (n : ℕ) (xs : List (Keyed V)) → rising xs ≡ true → rising (take n xs) ≡ true
  rising_prefix zero xs h = refl
  rising_prefix (suc n) [] h = refl
  rising_prefix (suc n) (x ∷ xs) h =
      let ih = rising_prefix n xs in
      let up = above_prefix x.key n xs in
      grind (arith, nat_tests)

  -- fewer places of a rising list
  pub rising_fewer : (m n : ℕ) (ps : List (Keyed V)) → m ≤ n → rising (take n ps) ≡ true → rising (take m ps) ≡ true
  rising_fewer m n ps le h = subst (λ xs. rising xs ≡ true) (take-take m n ps le) (rising_prefix m (take n ps) h)

  -- the order is told by the keys
  above_keys : (k : ℕ) (xs ys : List (Keyed V)) → map key_of xs ≡ map key_of ys → above k xs ≡ above k ys
  above_keys k [] [] e = refl
  above_keys k [] (y ∷ ys) e = grind (arith, nat_tests)
  above_keys k (x ∷ xs) [] e = grind (arith, nat_tests)
  above_keys k (x ∷ xs) (y ∷ ys) e = let ih = above_keys k xs ys cc in let head : x.key ≡ y.key = cc in grind (arith, nat_tests)

  pub rising_keys : (xs ys : List (Keyed V)) → map key_of xs ≡ map key_of ys → rising xs ≡ rising ys
  rising_keys [] [] e = refl
  rising_keys [] (y ∷ ys) e = grind (arith, nat_tests)
  rising_keys (x ∷ xs) [] e = grind (arith, nat_tests)
  rising_keys (x ∷ xs) (y ∷ ys) e =
      let rest : map key_of xs ≡ map key_of ys = cc in
      let ih = rising_keys xs ys rest in
      let up = above_keys x.key xs ys rest in
      let head : x.key ≡ y.key = cc in
      grind (arith, nat_tests)

  -- ---- what a rising list finds
  pub find_above : (k : ℕ) (xs : List (Keyed V)) → above k xs ≡ true → find_in k xs ≡ None
  find_above k [] h = refl
  find_above k (x ∷ xs) h = grind (arith, nat_tests)

  pub find-take_same : (k : ℕ) (xs : List (Keyed V)) → rising xs ≡ true → find_in k (take_out k xs) ≡ None
  find-take_same k [] h = refl
  find-take_same k (x ∷ xs) h =
      let ih = find-take_same k xs in
      let out = find_above k xs in
      grind (arith, nat_tests)

  pub find-take_other : (k j : ℕ) (xs : List (Keyed V)) → rising xs ≡ true → (j ≡ k → ⊥) → find_in j (take_out k xs) ≡ find_in j xs
  find-take_other k j [] h ne = refl
  find-take_other k j (x ∷ xs) h ne =
      let ih = find-take_other k j xs in
      let low = above_less j x.key xs in
      let out = find_above j xs in
      grind (arith, nat_tests)

  above_nth : (k i : ℕ) (x : Keyed V) (xs : List (Keyed V)) → above k xs ≡ true → slice_get xs i ≡ Some x → k < x.key
  above_nth k i x [] h e = grind (arith, nat_tests)
  above_nth k zero x (y ∷ xs) h e = grind (arith, nat_tests)
  above_nth k (suc i) x (y ∷ xs) h e = let ih = above_nth k i x xs in grind (arith, nat_tests)

  -- the record at a place is the record of its key
  pub find_nth : (i : ℕ) (x : Keyed V) (xs : List (Keyed V)) → rising xs ≡ true → slice_get xs i ≡ Some x → find_in x.key xs ≡ Some x
  find_nth i x [] h e = grind (arith, nat_tests)
  find_nth zero x (y ∷ xs) h e = grind (arith, nat_tests)
  find_nth (suc i) x (y ∷ xs) h e =
      let ih = find_nth i x xs in
      let up = above_nth y.key i x xs in
      grind (arith, nat_tests)

  -- a put of the key at a place writes to that place
  pub put_nth : (i : ℕ) (x r : Keyed V) (xs : List (Keyed V)) → rising xs ≡ true → slice_get xs i ≡ Some x → r.key ≡ x.key → put_in r xs ≡ set xs i r
  put_nth i x r [] h e same = grind (arith, nat_tests)
  put_nth zero x r (y ∷ xs) h e same = grind (arith, nat_tests)
  put_nth (suc i) x r (y ∷ xs) h e same =
      let ih = put_nth i x r xs in
      let up = above_nth y.key i x xs in
      grind (arith, nat_tests)

  -- each key stands once: places of equal keys are one place
  pub key_once : (i j : ℕ) (x y : Keyed V) (xs : List (Keyed V)) → rising xs ≡ true → slice_get xs i ≡ Some x → slice_get xs j ≡ Some y → x.key ≡ y.key → i ≡ j
  key_once i j x y [] h e f same = grind (arith, nat_tests)
  key_once zero zero x y (z ∷ xs) h e f same = refl
  key_once zero (suc j) x y (z ∷ xs) h e f same = let up = above_nth z.key j y xs in grind (arith, nat_tests)
  key_once (suc i) zero x y (z ∷ xs) h e f same = let up = above_nth z.key i x xs in grind (arith, nat_tests)
  key_once (suc i) (suc j) x y (z ∷ xs) h e f same =
      ap suc (key_once i j x y xs (and_parts (above z.key xs) (rising xs) h).1 e f same)

  -- a rising list is told by what it finds
  pub same_finds : (xs ys : List (Keyed V)) → rising xs ≡ true → rising ys ≡ true → ((k : ℕ) → find_in k xs ≡ find_in k ys) → xs ≡ ys
  same_finds [] [] _ _ _ = refl
  same_finds [] (y ∷ ys) _ _ h = let at = h y.key in grind (arith, nat_tests)
  same_finds (x ∷ xs) [] _ _ h = let at = h x.key in grind (arith, nat_tests)
  same_finds (x ∷ xs) (y ∷ ys) p q h =
      let at = h x.key in
      let too = h y.key in
      let same : x ≡ y = grind (arith, nat_tests) in
      let px = and_parts (above x.key xs) (rising xs) p in
      let qy = and_parts (above y.key ys) (rising ys) q in
      let rest : xs ≡ ys = same_finds xs ys px.1 qy.1 (λ k.
      let here = h k in
      let lx = above_less k x.key xs in
      let fx = find_above k xs in
      let ly = above_less k y.key ys in
      let fy = find_above k ys in
      let e = ap (λ (z : Keyed V). z.key) same in
      grind (arith, nat_tests)) in
      cc
