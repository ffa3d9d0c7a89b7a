-- What is paid and carried over, or refused, is what the checks say.
use Rattle.std.proofs.Common.{◌≡◌, false, List, [], ◌∷◌, map, ℤ, Some, None, Ok, Option, Result, sym, refl, ap, ◌∙◌, subst}
use Rattle.faults.specs.declared.Fault.{Fault}
use Rattle.faults.specs.declared.Refusal.TheVariants.{NotAdmitted}
use Rattle.faults.specs.Checks.{◌else◌, first_fault, verdict}
use Rattle.ledger.specs.Meaning.{Meaning}
use Rattle.ledger.specs.Payments.{Paid}
use Rattle.faults.proofs.Rows.{first-append, or_else}
use Rattle.ledger.proofs.Refused.{same_self}
use Rattle.table.specs.declared.keyed.Keyed.{Keyed}
use Rattle.prices.specs.declared.price.Price.{Price}
use Rattle.positions.specs.declared.records.Account.{Account}
use Rattle.settlement.specs.declared.ending.Ending.{Ending}
use Rattle.settlement.specs.Owed.{owed, priced}
use Rattle.settlement.specs.Paying.{payments, units_check, pay_checks, carried, Settles}
use Rattle.settlement.proofs.Passing.{owed_all}

module _ (m m' : Meaning) (end : Ending) (last : ℤ) (xs held xs' : List (Keyed Account)) (is : held ≡ xs) where
  pub settled : (price : Option Price) (p : Price) → price ≡ Some p → first_fault (pay_checks m last (Some p.value) held) ≡ None → xs' ≡ map (carried end) xs → Paid m (map (owed last p.value) held) m' → Settles (first_fault (pay_checks m last (priced price) xs)) end last (priced price) (Ok tt) xs xs' m m'
  settled price p some ok over paid =
      let all : first_fault (pay_checks m last (Some p.value) xs) ≡ None = rw is at ok in
      let made : Paid m (payments last p.value xs) m' = rw (is, owed_all m last p.value xs all) at paid in
      rw (some, all) (refl, over, made)

-- a check that fails in any case, after others
always : (o : Option Fault) (fault : Fault) → (first : Fault) × (or_else o (Some fault) ≡ Some first)
always None fault = (fault, refl)
always (Some other) fault = (other, refl)

module _ (m : Meaning) (end : Ending) (last : ℤ) (xs held : List (Keyed Account)) (is : held ≡ xs) where
  pub unpriced : (price : Option Price) → price ≡ None → (r : Result (Unit {0}) Fault) → r ≡ verdict tt (first_fault (pay_checks m last None held)) → Settles (first_fault (pay_checks m last (priced price) xs)) end last (priced price) r xs xs m m
  unpriced price none r e =
      let fails = false else NotAdmitted in
      let a = always (first_fault (map units_check xs)) fails.fault in
      let refused : first_fault (pay_checks m last None xs) ≡ Some a.0 = first-append (map units_check xs) (fails ∷ []) ∙ a.1 in
      subst (λ p. Settles (first_fault (pay_checks m last (priced p) xs)) end last (priced p) r xs xs m m) (sym none)
      (subst (λ o. Settles o end last None r xs xs m m) (sym refused)
      (e ∙ ap (λ q. verdict tt (first_fault (pay_checks m last None q))) is ∙ ap (verdict tt) refused, refl, same_self m))
