-- A payment that a ledger's terms take.
use Rattle.std.proofs.Common.{◌≡◌, ℕ, ◌<◌, true, ℤ, ◌+ℤ◌, None, Ok, sym, w64, SFits, leb-true}
use Rattle.faults.specs.Checks.{first_fault, verdict}
use Rattle.faults.proofs.Rows.{all_pass, verdict_passed}
use Rattle.ledger.specs.declared.terms.Terms.{Terms}
use Rattle.ledger.specs.Limits.{Within}
use Rattle.ledger.specs.Meaning.{Meaning}
use Rattle.ledger.specs.Payments.{fault_of, term_checks}
use Rattle.ledger.proofs.Money.{Reached, back, fits_within, reached, reached_within, reaches_amount, sum_back}

abbrev pub terms_of : Meaning → Terms
terms_of m = record { capacity = m.capacity; lowest = m.lowest; highest = m.highest }

-- 42 and 43 decide a payment to an account with a balance
pub fault_known : (m : Meaning) (a : ℕ) (b x : ℤ) → m.known a ≡ true → m.balance a ≡ b → fault_of m a x ≡ first_fault (term_checks (terms_of m) a b x)
unfolding fault_of
fault_known m a b x k e = rw (k, e)

-- what a payment of x shows of the balance b
pub record Taken (t : Terms) (a : ℕ) (b x : ℤ) : Type 0 where
  pub passes : first_fault (term_checks t a b x) ≡ None
  pub reaches : Reached t.lowest t.highest b x
  pub room : 0 < t.capacity
  pub within : Within (b +ℤ x)
  pub fits : SFits w64 (back b +ℤ back x)
  pub sum : back (back b +ℤ back x) ≡ b +ℤ x

pub taken : {U : Type 0} (u v : U) (s t : Terms) (a : ℕ) (b x : ℤ) → Within t.lowest → Within t.highest → Within b → SFits w64 x → s ≡ t → Ok u ≡ verdict v (first_fault (term_checks s a (back b) (back x))) → Taken t a b x
taken u v s t a b x low high w f e ok =
    let told = rw (e, reaches_amount _ _ b x (fits_within b w) f) at ok in
    let none = verdict_passed v u (first_fault (term_checks t a b x)) (sym told) in
    let p = all_pass (term_checks t a b x) none in
    let new = reached_within _ _ b x low high p.0 in
    let back = sum_back b x (fits_within b w) f new in
    record { passes = none; reaches = reached _ _ b x p.0; room = leb-true 1 t.capacity p.1.0; within = new; fits = back.0; sum = back.1 }
