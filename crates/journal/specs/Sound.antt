-- What a journal shows as a reader: unknown accounts have a balance of 0, and balances are within the limits.
use Rattle.std.specs.Prelude.{ℕ, List, pos}
use Rattle.std.specs.Option.{unwrap_or}
use Rattle.ledger.specs.Limits.{Within}
use Rattle.ledger.specs.Meaning.{SoundReading, reading_of}
use Rattle.ledger.specs.Payments.{due}
use Rattle.ledger.specs.Sound.{sound_totals, value_under, value_within}
use Rattle.ledger.specs.Totals.{if_within}
use Rattle.journal.specs.declared.journal.Journal.{Journal}
use Rattle.journal.specs.Lines.{lines_in}
use Rattle.journal.specs.Meaning.{from_to, total_in, total_of}

-- of any words, and any number of lines in them
in_within : (ws : List ℕ) (n first last a : ℕ) → Within (unwrap_or (total_in ws n first last a) (pos 0))
in_within ws n first last a = value_under (from_to first last a) (if_within (due (lines_in ws n) a)) (value_within (due (lines_in ws n) a))

pub total_within : (j : Journal) (a : ℕ) → Within (unwrap_or (total_of j a) (pos 0))
total_within j a = in_within j.words.now j.lines j.first j.last a

pub journal_sound : {S : Type 0} (ws : S → List ℕ) (n first last : S → ℕ) → SoundReading (λ s. reading_of (total_in (ws s) (n s) (first s) (last s)))
journal_sound ws n first last = sound_totals (λ s. total_in (ws s) (n s) (first s) (last s)) (λ s a. in_within (ws s) (n s) (first s) (last s) a)
