-- What a purse means: one account, with its balance, and terms of its own.
use Rattle.std.specs.Prelude.{ℕ, cond, ℤ, Some, None, Option, ◌==◌}
use Rattle.ledger.specs.declared.terms.Terms.{Terms}
use Rattle.ledger.specs.Limits.{Within}
use Rattle.ledger.specs.Meaning.{SoundReading, reading_of}
use Rattle.ledger.specs.Sound.{sound_totals, value_under}
use Rattle.ledger_tests.specs.declared.purse.Purse.{Purse}

abbrev pub balance_of : ℕ → ℤ → ℕ → Option ℤ
balance_of account balance a = cond (a == account) (Some balance) None

abbrev pub balances_of : Purse → ℕ → Option ℤ
balances_of p = balance_of p.account p.balance.value

abbrev pub terms_of : Purse → Terms
terms_of p = record { capacity = p.left; lowest = p.lowest.value; highest = p.highest.value }

pub purse_sound : {S : Type 0} (account : S → ℕ) (balance : S → ℤ) → ((s : S) → Within (balance s)) → SoundReading (λ s. reading_of (balance_of (account s) (balance s)))
purse_sound account balance within = sound_totals (λ s. balance_of (account s) (balance s)) (λ s a. value_under (a == account s) (Some (balance s)) (within s))
