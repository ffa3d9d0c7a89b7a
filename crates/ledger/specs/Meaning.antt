-- What a cash ledger means: five parts, two of which a balance reader has already.
use Rattle.std.specs.Prelude.{◌≡◌, ℕ, Bool, false, ℤ, pos, negsuc, is_some, Option}
use Rattle.std.specs.Option.{unwrap_or}
use Rattle.ledger.specs.declared.terms.Terms.{Terms}
use Rattle.ledger.specs.Limits.{Within, farthest_balance}

-- which accounts are known, and the balance of each
pub record Reading : Type 0 where
  pub known : ℕ → Bool
  pub balance : ℕ → ℤ

-- the accounts with a balance are known
abbrev pub reading_of : (ℕ → Option ℤ) → Reading
reading_of balances = record { known = λ a. is_some (balances a); balance = λ a. unwrap_or (balances a) (pos 0) }

-- from -9 × 10^18 to 9 × 10^18
abbrev pub widest : ℕ → Terms
widest capacity = record { capacity = capacity; lowest = negsuc 8999999999999999999; highest = pos farthest_balance }

pub record Meaning : Type 0 where
  pub known : ℕ → Bool
  pub balance : ℕ → ℤ
  pub capacity : ℕ
  pub lowest : ℤ
  pub highest : ℤ

-- the meaning of a ledger s
abbrev pub meaning : {S : Type 0} → (S → ℕ → Option ℤ) → (S → Terms) → S → Meaning
meaning balances terms s = record {
  known = (reading_of (balances s)).known;
  balance = (reading_of (balances s)).balance;
  capacity = (terms s).capacity;
  lowest = (terms s).lowest;
  highest = (terms s).highest;
}

-- what each balance reader shows
pub record SoundReading {S : Type 0} (reading : S → Reading) : Type 0 where
  pub unknown : (s : S) (a : ℕ) → (reading s).known a ≡ false → (reading s).balance a ≡ pos 0
  pub within : (s : S) (a : ℕ) → Within ((reading s).balance a)

-- what each cash ledger shows besides
pub record SoundTerms {S : Type 0} (terms : S → Terms) : Type 0 where
  pub lowest : (s : S) → Within (terms s).lowest
  pub highest : (s : S) → Within (terms s).highest

-- nothing of the meaning changed
pub record Same (m n : Meaning) : Type 0 where
  pub known : (a : ℕ) → n.known a ≡ m.known a
  pub balance : (a : ℕ) → n.balance a ≡ m.balance a
  pub capacity : n.capacity ≡ m.capacity
  pub lowest : n.lowest ≡ m.lowest
  pub highest : n.highest ≡ m.highest
