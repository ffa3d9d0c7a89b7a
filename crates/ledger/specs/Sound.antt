-- What such readings and ledgers show: unknown accounts have a balance of 0, and all figures are within the limits.
use Rattle.std.specs.Prelude.{◌≡◌, ℕ, Bool, true, false, cond, ℤ, pos, is_some, Some, None, Option, unsigned_abs, refl}
use Rattle.std.proofs.Common.{inl, inr, arith, lit≤, leb-true}
use Rattle.std.proofs.lemmas.Bool.{cases_Bool}
use Rattle.std.specs.Option.{unwrap_or}
use Rattle.ledger.specs.Limits.{Within, farthest_balance, inside}
use Rattle.ledger.specs.Meaning.{SoundReading, SoundTerms, reading_of, widest}
use Rattle.ledger.specs.Totals.{if_within}

none_unknown : (o : Option ℤ) → is_some o ≡ false → unwrap_or o (pos 0) ≡ pos 0
none_unknown None e = refl
none_unknown (Some z) e = let c : ◌≡◌ {A = ℕ} 0 1 = cc in absurd (omega arith)

pub value_within : (z : ℤ) → Within (unwrap_or (if_within z) (pos 0))
unfolding if_within
value_within z = elim (cases_Bool (inside farthest_balance z)) [
  | inl e ↦ rw e (leb-true (unsigned_abs z) farthest_balance e)
  | inr e ↦ rw e (lit≤ tt)
]

-- a total that is told under a condition
pub value_under : (b : Bool) (o : Option ℤ) → Within (unwrap_or o (pos 0)) → Within (unwrap_or (cond b o None) (pos 0))
value_under true o w = w
value_under false o w = lit≤ tt

pub sound_totals : {S : Type 0} (total : S → ℕ → Option ℤ) → ((s : S) (a : ℕ) → Within (unwrap_or (total s a) (pos 0))) → SoundReading (λ s. reading_of (total s))
sound_totals total within = record { unknown = λ s a h. none_unknown (total s a) h; within = within }

pub widest_bounded : {S : Type 0} (capacity : S → ℕ) → SoundTerms (λ s. widest (capacity s))
widest_bounded capacity = record { lowest = λ _. lit≤ tt; highest = λ _. lit≤ tt }
