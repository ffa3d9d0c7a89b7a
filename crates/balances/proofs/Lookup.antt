-- What rows keep of an account, and a change of it.
use Rattle.std.proofs.Common.{◌≡◌, ℕ, ◌<◌, Bool, true, false, cond, eqb, ltb, List, [], ◌∷◌, map, length, get_or, set, Some, None, Option, sym, refl, ap, ◌∙◌, inl, inr, arith}
use Rattle.std.specs.Option.{option_map}
use Rattle.std.specs.List.{find, position, position_or_len}
use Rattle.std.proofs.lemmas.List.Folds.{find_at, find_past, find-set}
use Rattle.std.proofs.lemmas.List.Sums.{passes_at_first}
use Rattle.std.proofs.lemmas.Option.{get_or_from_slice_get, slice_get_past, slice_get_within}
use Rattle.std.proofs.lemmas.List.{set-get_or}
use Rattle.std.proofs.Math.Seq.{map-set_same}
use Rattle.std.proofs.lemmas.Bool.{eqb-true, ne_eqb, cases_Bool}
use Rattle.std.proofs.lemmas.Bool.Decides.{nat_tests}
use Rattle.balances.specs.declared.rows.Row.{Row}
use Rattle.balances.specs.Lists.{has}
use Rattle.balances.specs.Lookup.{kept, with_kept}

-- ---- the first that passes

module _ {X : Type 0} (p : X → Bool) (xs : List X) where
  pub at_position : (i : ℕ) → position p xs ≡ Some i → i ≡ position_or_len p xs
  at_position i e = elim (cases_Bool (ltb (position_or_len p xs) (length xs))) [
    | inl t ↦ (let s : Some (position_or_len p xs) ≡ Some i = rw t at e in cc)
    | inr t ↦ (let s : None ≡ Some i = rw t at e in absurd cc)
  ]

  pub no_position : position p xs ≡ None → find p xs ≡ None
  no_position e = elim (cases_Bool (ltb (position_or_len p xs) (length xs))) [
    | inl t ↦ (let s : Some (position_or_len p xs) ≡ None = rw t at e in absurd cc)
    | inr t ↦ find_at p xs ∙ slice_get_past xs (position_or_len p xs) (grind (arith, nat_tests))
  ]

  found_within : (x : X) → find p xs ≡ Some x → position_or_len p xs < length xs
  found_within x e = slice_get_within xs (position_or_len p xs) x (sym (find_at p xs) ∙ e)

-- ---- rows

module _ {R : Type 0} (rows : List (Row R)) (a : ℕ) (u v : R) (here : kept rows a ≡ Some u) where
  abbrev stands : Row R → Bool
  stands row = eqb row.account a

  abbrev new : Row R
  new = record { account = (get_or rows (position_or_len stands rows) (record { account = 0; value = v })).account; value = v }

  inside : position_or_len stands rows < length rows
  inside = some (find stands rows) refl here
    where
      some : (o : Option (Row R)) → find stands rows ≡ o → option_map (λ row. row.value) o ≡ Some u → position_or_len stands rows < length rows
      some None q e = absurd cc
      some (Some row) q e = found_within stands rows row q

  -- what is kept, written back, changes nothing
  pub kept_back : with_kept rows a u ≡ rows
  kept_back = some (find stands rows) refl here
    where
      some : (o : Option (Row R)) → find stands rows ≡ o → option_map (λ row. row.value) o ≡ Some u → with_kept rows a u ≡ rows
      some None q e = absurd cc
      some (Some row) q e =
          let is : row.value ≡ u = cc in
          let there = get_or_from_slice_get rows (position_or_len stands rows) row (record { account = 0; value = u }) (sym (find_at stands rows) ∙ q) in
          ap (set rows (position_or_len stands rows)) (rw (there, ← is)) ∙ set-get_or rows (position_or_len stands rows) (record { account = 0; value = u })

  is_there : eqb new.account a ≡ true
  is_there = passes_at_first stands rows (record { account = 0; value = v }) inside

  pub kept-with : kept (with_kept rows a v) a ≡ Some v
  kept-with = rw (find-set stands rows (position_or_len stands rows) new refl inside is_there)

  pub kept_other : (b : ℕ) → (b ≡ a → ⊥) → kept (with_kept rows a v) b ≡ kept rows b
  kept_other b ne =
      let not_b : eqb new.account b ≡ false = ne_eqb new.account b (λ q. ne (sym q ∙ eqb-true new.account a is_there)) in
      rw (find_past (λ row. eqb row.account b) rows (position_or_len stands rows) new (record { account = 0; value = v }) not_b not_b)

  pub same_accounts : map (λ row. row.account) (with_kept rows a v) ≡ map (λ row. row.account) rows
  same_accounts = map-set_same (λ row. row.account) rows (position_or_len stands rows) new (record { account = 0; value = v }) refl

pub kept_each : {R : Type 0} (value : R) (xs : List ℕ) (a : ℕ) → kept (map (λ x. record { account = x; value = value }) xs) a ≡ cond (has xs a) (Some value) None
kept_each value [] a = refl
kept_each value (x ∷ xs) a = elim (cases_Bool (eqb x a)) [ inl t ↦ rw t refl | inr t ↦ rw t (kept_each value xs a) ]
