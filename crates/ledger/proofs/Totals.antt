-- Totals within the limits.
use Rattle.std.proofs.Common.{◌≡◌, ℤ, Some, None, arith}
use Rattle.std.proofs.lemmas.Bool.Decides.{nat_tests}
use Rattle.ledger.specs.Limits.{Within}
use Rattle.ledger.specs.Totals.{if_within}

pub none_some : {X : Type 0} (z : ℤ) → None ≡ Some z → X
none_some z e = absurd cc

pub if_inside : (z : ℤ) → Within z → if_within z ≡ Some z
unfolding if_within
if_inside z h = grind (arith, nat_tests)

pub if_told : (z w : ℤ) → if_within z ≡ Some w → (w ≡ z) × Within w
unfolding if_within
if_told z w h = (grind (arith, nat_tests), grind (arith, nat_tests))
