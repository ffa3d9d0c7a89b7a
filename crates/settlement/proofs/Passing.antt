-- Payments that have passed every check are not refused, over records in rising key.
use Rattle.std.proofs.Common.{◌≡◌, ℕ, ◌<◌, true, ◌||◌, List, [], ◌∷◌, ◌++◌, map, ℤ, pos, ◌+ℤ◌, Some, None, sym, refl, ap, ◌∙◌, subst, append_assoc, arith}
use lib.IntN.{+ℤ_idl, +ℤ_idr}
use Rattle.std.proofs.lemmas.Bool.{ne_eqb, and_parts, cond-true, cond-false}
use Rattle.std.proofs.lemmas.Bool.Decides.{nat_tests}
use Rattle.std.proofs.lemmas.List.{map-append}
use Rattle.std.proofs.lemmas.Result.{err_from_is_err_and}
use Rattle.faults.specs.declared.Fault.{Fault}
use Rattle.faults.specs.Checks.{first_fault}
use Rattle.faults.proofs.Rows.{Passes, all_pass, first-append, first_failed, first_passed, none_both, or_else, passed, verdict_passed, verdict_failed}
use Rattle.ledger.specs.Limits.{is_zero, reaches}
use Rattle.ledger.specs.Meaning.{Meaning}
use Rattle.ledger.specs.Payments.{due, capacity_check, known_check, range_checks, fault_of_all}
use Rattle.ledger.proofs.Paid.{all_pass as paid_pass}
use Rattle.table.specs.declared.keyed.Keyed.{Keyed}
use Rattle.table.specs.Rising.{above, rising}
use Rattle.positions.specs.declared.records.Account.{Account}
use Rattle.positions.specs.Limits.{units_within, cost_within}
use Rattle.settlement.specs.Paying.{payment, pay, payments, account_check, units_check, balance_check, pay_checks}
use Rattle.settlement.specs.Owed.{owed, owed_check}
use Rattle.settlement.proofs.Owed.{owed_within, owed_same}

-- ---- each account stands once

above_at : (k : ℕ) (ys : List (Keyed Account)) (x : Keyed Account) (zs : List (Keyed Account)) → above k (ys ++ (x ∷ zs)) ≡ true → k < x.key
above_at k [] x zs h = grind (arith, nat_tests)
above_at k (y ∷ ys) x zs h = let ih = above_at k ys x zs in grind (arith, nat_tests)

-- ---- what passed checks say of a record

units_passed : (x : Keyed Account) → (units_check x).passes ≡ true → units_within x.value ≡ true
unfolding units_check
units_passed x p = p

module _ (m : Meaning) (last F : ℤ) where
  -- so nothing is paid to it before its record
  unpaid_before : (ys : List (Keyed Account)) (x : Keyed Account) (zs : List (Keyed Account)) → rising (ys ++ (x ∷ zs)) ≡ true → due (payments last F ys) x.key ≡ pos 0
  unpaid_before [] x zs h = refl
  unpaid_before (y ∷ ys) x zs h =
      let w = and_parts (above y.key (ys ++ (x ∷ zs))) (rising (ys ++ (x ∷ zs))) h in
      let lt : y.key < x.key = above_at y.key ys x zs w.0 in
      ap (λ q. q +ℤ due (payments last F ys) x.key) (cond-false _ _ _ (ne_eqb y.key x.key (λ e. omega arith)))
      ∙ +ℤ_idl (due (payments last F ys) x.key)
      ∙ unpaid_before ys x zs w.1

  balance_passed : (x : Keyed Account) → (balance_check m last F x).passes ≡ true
      → (cost_within x.value ≡ true) × ((is_zero (payment last F x.value) || reaches m.lowest m.highest (m.balance x.key) (payment last F x.value)) ≡ true)
  unfolding balance_check
  balance_passed x p = and_parts (cost_within x.value) _ p

  known_passed : (x : Keyed Account) → units_within x.value ≡ true → cost_within x.value ≡ true → (account_check m last F x).passes ≡ true → (known_check m (pay last F x)).passes ≡ true
  unfolding account_check
  known_passed x u k p = rw (u, k) at p

  -- ---- what passed rows say of the payments

  each_owed : (xs : List (Keyed Account)) → Passes (map units_check xs) → Passes (map (balance_check m last F) xs) → map (owed last F) xs ≡ payments last F xs
  each_owed [] u r = refl
  each_owed (x ∷ xs) u r = rw (owed_within last F x (units_passed x u.0) (balance_passed x r.0).0, each_owed xs u.1 r.1)

  pub all_owed : (xs : List (Keyed Account)) → first_fault (map units_check xs) ≡ None → first_fault (map (balance_check m last F) xs) ≡ None → map (owed last F) xs ≡ payments last F xs
  all_owed xs u r = each_owed xs (all_pass _ u) (all_pass _ r)

  pub owed_row : (xs : List (Keyed Account)) → Passes (map units_check xs) → map (owed_check m last F) xs ≡ map (balance_check m last F) xs
  owed_row [] u = refl
  owed_row (x ∷ xs) u = rw (owed_same last F x m (units_passed x u.0), owed_row xs u.1)

  known_row : (xs : List (Keyed Account)) → Passes (map (account_check m last F) xs) → Passes (map units_check xs) → Passes (map (balance_check m last F) xs) → first_fault (map (known_check m) (payments last F xs)) ≡ None
  known_row [] k u r = refl
  known_row (x ∷ xs) k u r = rw (known_passed x (units_passed x u.0) (balance_passed x r.0).0 k.0) (known_row xs k.1 u.1 r.1)

  -- the records ys are paid before
  range_row : (ys xs : List (Keyed Account)) → rising (ys ++ xs) ≡ true → Passes (map (balance_check m last F) xs) → first_fault (range_checks m (payments last F ys) (payments last F xs)) ≡ None
  range_row ys [] up r = refl
  range_row ys (x ∷ xs) up r =
      let Q : ℤ → Type 0 = λ b. (is_zero (payment last F x.value) || reaches m.lowest m.highest b (payment last F x.value)) ≡ true in
      let balance : m.balance x.key ≡ m.balance x.key +ℤ due (payments last F ys) x.key =
      sym (ap (λ q. m.balance x.key +ℤ q) (unpaid_before ys x xs up) ∙ +ℤ_idr (m.balance x.key)) in
      let next = range_row (ys ++ (x ∷ [])) xs (ap rising (append_assoc ys (x ∷ []) xs) ∙ up) r.1 in
      cond-true _ _ _ (subst Q balance (balance_passed x r.0).1)
      ∙ ap (λ ps. first_fault (range_checks m ps (payments last F xs))) (sym (map-append (pay last F) ys (x ∷ [])))
      ∙ next

  module _ (xs : List (Keyed Account)) where
    -- the checks, kind by kind
    pub kinds : first_fault (pay_checks m last (Some F) xs) ≡ or_else (first_fault (map (account_check m last F) xs)) (or_else (first_fault (map units_check xs)) (or_else (first_fault (map (balance_check m last F) xs)) (first_fault (capacity_check m (payments last F xs) ∷ []))))
    kinds =
        first-append (map (account_check m last F) xs) _
        ∙ ap (or_else (first_fault (map (account_check m last F) xs))) (first-append (map units_check xs) _
        ∙ ap (or_else (first_fault (map units_check xs))) (first-append (map (balance_check m last F) xs) (capacity_check m (payments last F xs) ∷ [])))

    -- the first kind that fails, as the code checks the last two
    pub unknown_among : (fault : Fault) → first_fault (map (account_check m last F) xs) ≡ Some fault → first_fault (pay_checks m last (Some F) xs) ≡ Some fault
    unknown_among fault k = kinds ∙ rw k

    module _ (k : first_fault (map (account_check m last F) xs) ≡ None) where
      pub units_among : (fault : Fault) → first_fault (map units_check xs) ≡ Some fault → first_fault (pay_checks m last (Some F) xs) ≡ Some fault
      units_among fault u = kinds ∙ rw (k, u)

      module _ (u : first_fault (map units_check xs) ≡ None) where
        pub range_among : (fault : Fault) → first_fault (map (balance_check m last F) xs) ≡ Some fault → first_fault (pay_checks m last (Some F) xs) ≡ Some fault
        range_among fault r = kinds ∙ rw (k, u, r)

        pub owed_among : (fault : Fault) → first_fault (map (owed_check m last F) xs) ≡ Some fault → first_fault (pay_checks m last (Some F) xs) ≡ Some fault
        owed_among fault r = range_among fault (rw (owed_row xs (all_pass _ u)) at r)

        pub last_among : first_fault (map (owed_check m last F) xs) ≡ None → first_fault (pay_checks m last (Some F) xs) ≡ first_fault (capacity_check m (map (owed last F) xs) ∷ [])
        last_among r = let b = rw (owed_row xs (all_pass _ u)) at r in kinds ∙ rw (k, u, b, all_owed xs u b)

    -- what is left once all have passed
    module _ (ok : first_fault (pay_checks m last (Some F) xs) ≡ None) where
      known_none : first_fault (map (account_check m last F) xs) ≡ None
      known_none = (none_both _ _ (sym kinds ∙ ok)).0

      units_none : first_fault (map units_check xs) ≡ None
      units_none = (none_both _ _ (none_both _ _ (sym kinds ∙ ok)).1).0

      range_none : first_fault (map (balance_check m last F) xs) ≡ None
      range_none = (none_both _ _ (none_both _ _ (none_both _ _ (sym kinds ∙ ok)).1).1).0

      capacity_none : first_fault (capacity_check m (payments last F xs) ∷ []) ≡ None
      capacity_none = (none_both (first_fault (map (balance_check m last F) xs)) _ (none_both (first_fault (map units_check xs)) _ (none_both (first_fault (map (account_check m last F) xs)) _ (sym kinds ∙ ok)).1).1).1

      pub owed_all : map (owed last F) xs ≡ payments last F xs
      owed_all = all_owed xs units_none range_none

      pub never_refused : rising xs ≡ true → fault_of_all m (map (owed last F) xs) ≡ None
      never_refused up =
          let u = all_pass _ units_none in
          let r = all_pass _ range_none in
          rw owed_all (paid_pass m (payments last F xs) (known_row xs (all_pass _ known_none) u r) (range_row [] xs up r) (passed [] (capacity_check m (payments last F xs)) [] capacity_none))

-- what the last exits of these checks need, with a price and without
pub ruleset ending = (last_among, verdict_passed, err_from_is_err_and)

pub ruleset unpriced = (first_failed, first_passed, verdict_passed, verdict_failed, err_from_is_err_and)
