-- Signed amounts and balances in 64 bits.
use Rattle.std.proofs.Common.{◌≡◌, ◌≤◌, true, ℤ, ◌+ℤ◌, nat_abs, ◌≤ℤ◌, arith, w64, SFits, to_z, of_z}
use Rattle.std.proofs.lemmas.Int.{to_z-of_z, ints}
use Rattle.std.proofs.lemmas.Bool.Decides.{nat_tests}
use Rattle.ledger.specs.Limits.{Within, reaches}

-- an amount that is passed or computed shows as its bits and back
abbrev pub back : ℤ → ℤ
back z = to_z w64 (of_z w64 z)

pub fits_within : (z : ℤ) → Within z → SFits w64 z
fits_within z h = omega (arith, ints)

pub back_within : (z : ℤ) → Within z → back z ≡ z
back_within z h = to_z-of_z w64 z (fits_within z h)

pub sum_back : (b x : ℤ) → SFits w64 b → SFits w64 x → Within (b +ℤ x) → SFits w64 (back b +ℤ back x) × (back (back b +ℤ back x) ≡ b +ℤ x)
sum_back b x f g h = let s = fits_within (b +ℤ x) h in (simp to_z-of_z s, simp to_z-of_z)

pub reaches_amount : (l h b x : ℤ) → SFits w64 b → SFits w64 x → reaches l h (back b) (back x) ≡ reaches l h b x
reaches_amount l h b x f g = simp to_z-of_z

-- what a payment in range shows
pub record Reached (l h b x : ℤ) : Type 0 where
  pub small : nat_abs x ≤ 4000000000000000000
  pub above : l ≤ℤ (b +ℤ x)
  pub below : (b +ℤ x) ≤ℤ h

pub reached : (l h b x : ℤ) → reaches l h b x ≡ true → Reached l h b x
unfolding reaches
reached l h b x e = record { small = grind (arith, nat_tests, ints); above = grind (arith, nat_tests, ints); below = grind (arith, nat_tests, ints) }

pub reach : (l h b x : ℤ) → Reached l h b x → reaches l h b x ≡ true
unfolding reaches
reach l h b x r = grind (arith, nat_tests, ints)

pub reached_within : (l h b x : ℤ) → Within l → Within h → reaches l h b x ≡ true → Within (b +ℤ x)
reached_within l h b x f g e = let r = reached l h b x e in let lo = r.above in let hi = r.below in omega (arith, ints)
