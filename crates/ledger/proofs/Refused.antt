-- When one payment is refused, and by what.
use Rattle.std.proofs.Common.{◌≡◌, ℕ, ◌<◌, true, false, ℤ, Some, None, refl, arith}
use Rattle.std.proofs.lemmas.Bool.Decides.{nat_tests}
use Rattle.faults.specs.declared.Refusal.TheVariants.{UnknownAccount, OutOfRange, NoCapacity}
use Rattle.faults.specs.Refusals.{named, plain}
use Rattle.ledger.specs.Limits.{reaches}
use Rattle.ledger.specs.Meaning.{Meaning, Same}
use Rattle.ledger.specs.Payments.{fault_of}

pub same_self : (m : Meaning) → Same m m
same_self m = record { known = λ _. refl; balance = λ _. refl; capacity = refl; lowest = refl; highest = refl }

module _ (m : Meaning) (a : ℕ) (x : ℤ) where
  pub unknown_refused : m.known a ≡ false → fault_of m a x ≡ Some (named UnknownAccount a)
  unfolding fault_of
  unknown_refused k = cc

  pub range_refused : m.known a ≡ true → reaches m.lowest m.highest (m.balance a) x ≡ false → fault_of m a x ≡ Some (named OutOfRange a)
  unfolding fault_of
  range_refused k e = simp (k, e)

  pub capacity_refused : m.known a ≡ true → reaches m.lowest m.highest (m.balance a) x ≡ true → m.capacity ≡ 0 → fault_of m a x ≡ Some (plain NoCapacity)
  unfolding fault_of
  capacity_refused k e z = simp (k, e, z)

  pub not_refused : m.known a ≡ true → reaches m.lowest m.highest (m.balance a) x ≡ true → 0 < m.capacity → fault_of m a x ≡ None
  unfolding fault_of
  not_refused k e z = grind (arith, nat_tests)
