-- What a cents layer shows as a ledger: unknown accounts have a balance of 0, and all figures are within the limits.
use Rattle.std.specs.Prelude.{◌≡◌, ℕ, false, not, ◌&&◌, T, List, ℤ, pos, ◌+ℤ◌, ◌≤ℤ◌, Some, None, Option, int_lt}
use Rattle.std.proofs.Common.{sym, subst, inl, inr, arith, lit≤}
use Rattle.std.specs.Int.Signed.{lt_z_no}
use Rattle.std.proofs.lemmas.Int.{ints}
use Rattle.std.proofs.lemmas.Bool.{cases_Bool}
use Rattle.std.specs.Option.{option_and_then, unwrap_or}
use Rattle.ledger.specs.Limits.{Within, farthest_balance}
use Rattle.ledger.specs.declared.terms.Terms.{Terms}
use Rattle.ledger.specs.Meaning.{Meaning, SoundReading, SoundTerms, reading_of}
use Rattle.ledger.specs.Sound.{sound_totals, value_under, value_within}
use Rattle.ledger.specs.Totals.{if_within}
use Rattle.balances.specs.declared.rows.Row.{Row}
use Rattle.balances.specs.Lookup.{kept}
use Rattle.cents.specs.declared.rest.Rest.{Rest}
use Rattle.cents.specs.Layer.{layer_balances, layer_terms, lowest_over, over, past}

balance_within : (m : Meaning) (a : ℕ) (o : Option Rest) → Within (unwrap_or (option_and_then (over m a) o) (pos 0))
unfolding over
balance_within m a None = lit≤ tt
balance_within m a (Some rest) = value_under (not (past m.lowest) && m.known a) (if_within (m.balance a +ℤ pos rest.value)) (value_within (m.balance a +ℤ pos rest.value))

pub layer_sound : {S : Type 0} (m : S → Meaning) (rows : S → List (Row Rest)) → SoundReading (λ s. reading_of (layer_balances (m s) (rows s)))
layer_sound m rows = sound_totals (λ s. layer_balances (m s) (rows s)) (λ s a. balance_within (m s) a (kept (rows s) a))

not_past : (l : ℤ) → Within l → int_lt (pos farthest_balance) (l +ℤ pos 100) ≡ false → Within (l +ℤ pos 100)
not_past l w e = let h : (l +ℤ pos 100) ≤ℤ pos farthest_balance = lt_z_no (subst (λ t. T (not t)) (sym e) tt) in omega (arith, ints)

pub lowest_within : (l : ℤ) → Within l → Within (lowest_over l)
unfolding past
lowest_within l w = elim (cases_Bool (past l)) [ inl p ↦ rw p (lit≤ tt) | inr p ↦ rw p (not_past l w p) ]

pub layer_bounded : {S T : Type 0} (terms : T → Terms) (below : S → T) → SoundTerms terms → SoundTerms (λ s. layer_terms (terms (below s)))
layer_bounded terms below sound = record { lowest = λ s. lowest_within (terms (below s)).lowest (sound.lowest (below s)); highest = λ s. sound.highest (below s) }
