-- What a record is owed, and the tests of one record as the code makes them.
use Rattle.std.proofs.Common.{inl, inr, ◌≡◌, Bool, true, ◌&&◌, ◌||◌, ℤ, Some, refl}
use Rattle.std.proofs.lemmas.Bool.{cases_Bool}
use Rattle.ledger.specs.Limits.{is_zero}
use Rattle.ledger.specs.Meaning.{Meaning}
use Rattle.table.specs.declared.keyed.Keyed.{Keyed}
use Rattle.positions.specs.declared.records.Account.{Account}
use Rattle.positions.specs.Limits.{units_within, cost_within}
use Rattle.settlement.specs.Paying.{payment, pay, account_check, balance_check}
use Rattle.settlement.specs.Owed.{formed, owed, owed_check}

pub formed_is : (last F : ℤ) (x : Account) → units_within x ≡ true → cost_within x ≡ true → formed last F x ≡ Some (payment last F x)
unfolding formed
formed_is last F x u k = rw (u, k)

module _ (last F : ℤ) (x : Keyed Account) where
  pub owed_within : units_within x.value ≡ true → cost_within x.value ≡ true → owed last F x ≡ pay last F x
  unfolding owed formed
  owed_within u k = rw (u, k)

  module _ (m : Meaning) where
    pub known_shown : (z k : Bool) → z ≡ is_zero (owed last F x).amount → k ≡ m.known x.key → (z || k) ≡ (account_check m last F x).passes
    unfolding owed formed account_check
    known_shown z k ez ek = elim (cases_Bool (units_within x.value && cost_within x.value)) [
      | inl w ↦ rw (ez, ek, w)
      | inr w ↦ rw (ez, ek, w)
    ]

    -- past the cost's limit both tests fail; within it both are of the payment
    pub owed_same : units_within x.value ≡ true → owed_check m last F x ≡ balance_check m last F x
    unfolding owed_check balance_check
    owed_same u = elim (cases_Bool (cost_within x.value)) [
      | inl k ↦ rw (owed_within u k) refl
      | inr k ↦ rw k refl
    ]
