-- A payment to a balance table.
use Rattle.std.proofs.Common.{◌≡◌, ℕ, List, ℤ, ◌+ℤ◌, Some, None, refl, inl, inr}
use Rattle.std.proofs.lemmas.Bool.{cases_eq}
use Rattle.faults.specs.declared.Refusal.TheVariants.{UnknownAccount}
use Rattle.faults.specs.Checks.{first_fault}
use Rattle.faults.specs.Refusals.{named}
use Rattle.ledger.specs.Meaning.{Meaning, meaning, widest}
use Rattle.ledger.specs.Payments.{Raised, fault_of, term_checks}
use Rattle.ledger.proofs.Refused.{unknown_refused}
use Rattle.balances.specs.declared.balance.Balance.{Balance}
use Rattle.balances.specs.declared.rows.Row.{Row}
use Rattle.balances.specs.Lookup.{kept, with_kept}
use Rattle.balances.specs.Table.{table_balances}
use Rattle.balances.proofs.Lookup.{kept_other, kept-with}
use Rattle.ledger.proofs.Taken.{fault_known}

abbrev pub table : List (Row Balance) → Meaning
table rows = meaning {S = Unit {0}} (λ _. table_balances rows) (λ _. widest 64) tt

module _ (rows : List (Row Balance)) (a : ℕ) (x : ℤ) where
  pub table_unknown : kept rows a ≡ None → fault_of (table rows) a x ≡ Some (named UnknownAccount a)
  table_unknown e = unknown_refused (table rows) a x (rw e)

  module _ (balance : Balance) (e : kept rows a ≡ Some balance) where
    pub table_fault : fault_of (table rows) a x ≡ first_fault (term_checks (widest 64) a balance.value x)
    table_fault = fault_known (table rows) a balance.value x (rw e) (rw e)

    pub table_raised : (new : Balance) → new.value ≡ balance.value +ℤ x → Raised (table rows) a x (table (with_kept rows a new))
    table_raised new s =
        let here = kept-with rows a balance new e in
        let others = λ (c : ℕ) (ne : c ≡ a → ⊥). kept_other rows a balance new e c ne in
        record {
          known = λ c. elim (cases_eq c a) [
            | inl q ↦ rw (q, here, e)
            | inr ne ↦ rw (others c ne)
          ];
          here = rw (here, e, s);
          others = λ c ne. rw (others c ne);
          capacity = inl refl;
          lowest = refl;
          highest = refl;
        }
