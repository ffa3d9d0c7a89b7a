-- What a balance table shows as a reader: unknown accounts have a balance of 0, and balances are within the limits.
use Rattle.std.specs.Prelude.{◌≡◌, ℕ, false, List, [], ◌∷◌, map, pos, ◌==◌, refl}
use Rattle.std.proofs.Common.{inl, inr, lit≤}
use Rattle.std.proofs.lemmas.Bool.{or_parts, cases_Bool}
use Rattle.ledger.specs.Limits.{Within}
use Rattle.ledger.specs.Meaning.{SoundReading, reading_of}
use Rattle.ledger.specs.Sound.{sound_totals}
use Rattle.balances.specs.declared.balance.Balance.{Balance}
use Rattle.balances.specs.declared.rows.Row.{Row}
use Rattle.balances.specs.Lists.{has}
use Rattle.balances.specs.Lookup.{lookup}
use Rattle.balances.specs.Table.{table_balances}

pub lookup_none : {R V : Type 0} (f : R → V) (z : V) (rows : List (Row R)) (a : ℕ) → has (map (λ row. row.account) rows) a ≡ false → lookup f z rows a ≡ z
lookup_none f z [] a h = refl
lookup_none f z (row ∷ rows) a h =
    let p = or_parts (row.account == a) (has (map (λ r. r.account) rows) a) h in
    let e = p.0 in
    simp e (lookup_none f z rows a p.1)

-- what holds of z and of each row's value holds of what is found
pub lookup_all : {R V : Type 0} (f : R → V) (z : V) (P : V → Type 0) → P z → ((r : R) → P (f r)) → (rows : List (Row R)) (a : ℕ) → P (lookup f z rows a)
lookup_all f z P pz pf [] a = pz
lookup_all f z P pz pf (row ∷ rows) a = elim (cases_Bool (row.account == a)) [ inl e ↦ rw e (pf row.value) | inr e ↦ rw e (lookup_all f z P pz pf rows a) ]

pub table_sound : {S : Type 0} (rows : S → List (Row Balance)) → SoundReading (λ s. reading_of (table_balances (rows s)))
table_sound rows =
    sound_totals (λ s. table_balances (rows s)) (λ s a. lookup_all (λ balance. balance.value) (pos 0) Within (lit≤ tt) (λ balance. balance.within) (rows s) a)
