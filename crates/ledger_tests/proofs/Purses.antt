-- A payment to a purse.
use Rattle.std.proofs.Common.{◌≡◌, ℕ, ◌-◌, ◌<◌, true, false, cond, eqb, ℤ, ◌+ℤ◌, Some, None, sym, refl, ◌∙◌, inl, inr, arith, eqb-true}
use Rattle.std.proofs.lemmas.Bool.{cases_Bool, ne_eqb}
use Rattle.ledger.proofs.Totals.{none_some}
use Rattle.ledger.specs.Limits.{Within}
use Rattle.ledger.specs.Meaning.{Meaning, meaning}
use Rattle.ledger.specs.Payments.{Raised}
use Rattle.ledger_tests.specs.declared.purse.Purse.{Purse}
use Rattle.ledger_tests.specs.Purse.{balances_of, terms_of}

abbrev pub purse : Purse → Meaning
purse p = meaning balances_of terms_of p

module _ (p : Purse) (a : ℕ) (b : ℤ) (e : balances_of p a ≡ Some b) where
  told : (eqb a p.account ≡ true) × (b ≡ p.balance.value)
  told = elim (cases_Bool (eqb a p.account)) [
    | inl t ↦ (t, (let s : Some p.balance.value ≡ Some b = rw t at e in cc))
    | inr t ↦ none_some b (rw t at e)
  ]

  pub told_within : Within b
  told_within = rw told.1 p.balance.within

  -- the balance is v after a payment
  abbrev pub after : ℤ → Meaning
  after v = meaning {S = Unit {0}} (λ _ c. cond (eqb c p.account) (Some v) None) (λ _. record { capacity = p.left - 1; lowest = p.lowest.value; highest = p.highest.value }) tt

  pub purse_raised : (x v : ℤ) → v ≡ b +ℤ x → 0 < p.left → Raised (purse p) a x (after v)
  purse_raised x v sum some = record {
    known = λ c. elim (cases_Bool (eqb c p.account)) [ inl t ↦ rw t refl | inr t ↦ rw t refl ];
    here = rw (told.0, sym told.1, sum) refl;
    others = λ c ne. (let other : eqb c p.account ≡ false = ne_eqb c p.account (λ q. ne (q ∙ sym (eqb-true a p.account told.0))) in rw other refl);
    capacity = inr (omega arith);
    lowest = refl;
    highest = refl;
  }
