-- A value set at a place, and a loop that sets a value at each.
use Rattle.std.proofs.Common.{◌≡◌, ℕ, zero, suc, ◌+◌, ◌<◌, ◌≤◌, List, [], ◌∷◌, ◌++◌, length, map, get_or, take, drop, set, Some, sym, refl, ap, ◌∙◌, arith}
use Rattle.std.specs.List.{slice_get}
use Rattle.std.proofs.lemmas.Grind.{common_steps}
use Rattle.std.proofs.lemmas.List.Edits.{map_over_more}
use Rattle.std.proofs.lemmas.List.{drop_all, length-append, length-drop, length-map, length-take-le, take_all}
use Rattle.std.proofs.lemmas.Option.{slice_get-get_or}
use Rattle.table.specs.declared.keyed.Keyed.{Keyed}
use Rattle.table.specs.Records.{each_value, key_of, revalued, set_in}

module _ {V : Type 0} (v : V) where
  pub keys-set : (i : ℕ) (xs : List (Keyed V)) → map key_of (set_in i v xs) ≡ map key_of xs
  keys-set i [] = refl
  keys-set zero (x ∷ xs) = refl
  keys-set (suc i) (x ∷ xs) = ap (λ ks. x.key ∷ ks) (keys-set i xs)

  pub length-set_in : (i : ℕ) (xs : List (Keyed V)) → length (set_in i v xs) ≡ length xs
  length-set_in i xs = sym (length-map (set_in i v xs) key_of) ∙ ap length (keys-set i xs) ∙ length-map xs key_of

  -- a write of the record at the place with another value
  pub set_value : (xs : List (Keyed V)) (i : ℕ) (d : Keyed V) → i < length xs → set xs i (record { key = (get_or xs i d).key; value = v }) ≡ set_in i v xs
  set_value [] i d h = absurd (omega arith)
  set_value (x ∷ xs) zero d h = refl
  set_value (x ∷ xs) (suc i) d h = ap (λ ys. x ∷ ys) (set_value xs i d (omega arith))

  -- past the records nothing is set
  pub set_in_past : (i : ℕ) (xs : List (Keyed V)) → length xs ≤ i → set_in i v xs ≡ xs
  set_in_past i [] h = refl
  set_in_past zero (x ∷ xs) h = absurd (omega arith)
  set_in_past (suc i) (x ∷ xs) h = ap (λ ys. x ∷ ys) (set_in_past i xs (omega arith))

  -- a value set where the record a stands
  pub set_in_nth : (i : ℕ) (xs : List (Keyed V)) (a : Keyed V) → slice_get xs i ≡ Some a → set_in i v xs ≡ set xs i (record { key = a.key; value = v })
  set_in_nth i [] a e = refl
  set_in_nth zero (x ∷ xs) a e = let same : x ≡ a = cc in ap (λ (y : Keyed V). record { key = y.key; value = v } ∷ xs) same
  set_in_nth (suc i) (x ∷ xs) a e = ap (λ ys. x ∷ ys) (set_in_nth i xs a e)

-- a loop that sets f of each value, place by place: `cur` is the list with the places below i done
module _ {V : Type 0} (f : V → V) (xs cur : List (Keyed V)) (i : ℕ) (below : i < length xs) (so : cur ≡ each_value f (take i xs) ++ drop i xs) where
  long : length cur ≡ length xs
  long =
      let a = length-append (each_value f (take i xs)) (drop i xs) in
      let b = length-map (take i xs) (revalued f) in
      let c = length-take-le i xs (omega arith) in
      let d = length-drop i xs in
      ap length so ∙ omega arith

  pub each_value_there : (e : Keyed V) → slice_get cur i ≡ Some (get_or cur i e)
  each_value_there e = slice_get-get_or cur i e (omega (arith, long))

  pub each_value_more : (a : Keyed V) → slice_get cur i ≡ Some a → set_in i (f a.value) cur ≡ each_value f (take (i + 1) xs) ++ drop (i + 1) xs
  each_value_more a here =
      let at = each_value_there a in
      let read : a ≡ get_or cur i a = cc in
      set_in_nth (f a.value) i cur a here ∙ map_over_more (revalued f) xs cur i a below so read

-- once every place is done
pub each_value_all : {V : Type 0} (f : V → V) (xs : List (Keyed V)) (i : ℕ) → length xs ≤ i → each_value f (take i xs) ++ drop i xs ≡ each_value f xs
each_value_all f xs i past = grind (arith, common_steps, drop_all, take_all)
