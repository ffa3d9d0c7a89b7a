-- A payment is linear in units, units at the last close and cost, so the payments sum to that of the sums.
use Rattle.std.proofs.Common.{◌≡◌, List, [], ◌∷◌, ℤ, pos, ◌+ℤ◌, ◌-ℤ◌, ◌*ℤ◌, sym, ap, ◌∙◌, arith}
use lib.IntN.{zero-*ℤ}
use Rattle.table.specs.declared.keyed.Keyed.{Keyed}
use Rattle.table.specs.Records.{sum_of}
use Rattle.positions.specs.declared.records.Account.{Account}
use Rattle.settlement.specs.Paying.{payments}
use Rattle.settlement.specs.Cancelling.{total, PaymentsCancel}
use Rattle.settlement.proofs.Ring.{expand, linear}

more : (last F p u c P U C : ℤ) → (p *ℤ (F -ℤ last) +ℤ (u -ℤ p) *ℤ F -ℤ c) +ℤ (P *ℤ (F -ℤ last) +ℤ (U -ℤ P) *ℤ F -ℤ C) ≡ (p +ℤ P) *ℤ (F -ℤ last) +ℤ ((u +ℤ U) -ℤ (p +ℤ P)) *ℤ F -ℤ (c +ℤ C)
more last F p u c P U C = simp expand (omega (arith, linear))

none : (last F : ℤ) → pos 0 *ℤ (F -ℤ last) +ℤ (pos 0 -ℤ pos 0) *ℤ F -ℤ pos 0 ≡ pos 0
none last F = ap (λ z. z +ℤ pos 0 *ℤ F -ℤ pos 0) (zero-*ℤ (F -ℤ last)) ∙ ap (λ z. pos 0 +ℤ z -ℤ pos 0) (zero-*ℤ F)

module _ (last F : ℤ) where
  total_is : (xs : List (Keyed Account)) → total (payments last F xs) ≡ sum_of (λ x. x.value.units_at_close) xs *ℤ (F -ℤ last) +ℤ (sum_of (λ x. x.value.units) xs -ℤ sum_of (λ x. x.value.units_at_close) xs) *ℤ F -ℤ sum_of (λ x. x.value.cost) xs
  total_is [] = sym (none last F)
  total_is (x ∷ xs) = rw (total_is xs) (more last F x.value.units_at_close x.value.units x.value.cost (sum_of (λ y. y.value.units_at_close) xs) (sum_of (λ y. y.value.units) xs) (sum_of (λ y. y.value.cost) xs))

pub payments_cancel : PaymentsCancel
payments_cancel last F xs b =
    let u = b.units in
    let p = b.units_at_close in
    let k = b.cost in
    total_is last F xs ∙ rw (u, p, k) (none last F)
