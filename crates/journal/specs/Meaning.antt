-- What a journal means: the lines in its words, the balances that they come to, and the lines left.
use Rattle.std.specs.Prelude.{◌≡◌, ℕ, ◌+◌, ◌-◌, ◌*◌, ◌/◌, Bool, cond, ◌&&◌, List, [], ◌∷◌, ◌++◌, length, drop, ℤ, None, Ok, Err, Option, Result, nat_le}
use Rattle.faults.specs.declared.Fault.{Fault}
use Rattle.ledger.specs.declared.payment.Payment.{Payment}
use Rattle.ledger.specs.declared.terms.Terms.{Terms}
use Rattle.ledger.specs.Limits.{admitted, is_zero}
use Rattle.ledger.specs.Meaning.{Meaning, meaning, widest}
use Rattle.ledger.specs.Payments.{due}
use Rattle.ledger.specs.Totals.{if_within}
use Rattle.journal.specs.declared.journal.Journal.{Journal}
use Rattle.journal.specs.Lines.{lines_in, written}

abbrev pub lines_of : Journal → List Payment
lines_of j = lines_in j.words.now j.lines

-- whom a journal from first to last knows: nobody if one of the two is no account number
abbrev pub from_to : ℕ → ℕ → ℕ → Bool
from_to first last a = (admitted first && admitted last) && (nat_le first a && nat_le a last)

-- an account's balance is the sum of its lines, n of the words ws
abbrev pub total_in : List ℕ → ℕ → ℕ → ℕ → ℕ → Option ℤ
total_in ws n first last a = cond (from_to first last a) (if_within (due (lines_in ws n) a)) None

abbrev pub total_of : Journal → ℕ → Option ℤ
total_of j = total_in j.words.now j.lines j.first j.last

-- the lines left
abbrev pub capacity_of : Journal → ℕ
capacity_of j = length j.words.now / 4 - j.lines

abbrev pub terms_of : Journal → Terms
terms_of j = widest (capacity_of j)

abbrev pub journal : Journal → Meaning
journal j = meaning total_of terms_of j

-- the journal j became k by a line of p after its others, in the same words
pub record Appended (j : Journal) (p : Payment) (k : Journal) : Type 0 where
  pub words : k.words.now ≡ written j.words.now j.lines p
  pub lines : k.lines ≡ j.lines + 1
  pub first : k.first ≡ j.first
  pub last : k.last ≡ j.last
  pub lent : k.words.ghost_name ≡ j.words.ghost_name

-- the lines that a payment adds: one, unless it is refused or zero
abbrev pub noted : {U : Type 0} → ℕ → ℤ → Result U Fault → List Payment
noted a x (Ok u) = cond (is_zero x) [] (record { account = a; amount = x } ∷ [])
noted a x (Err fault) = []

abbrev pub written_all : List ℕ → ℕ → List Payment → List ℕ
written_all ws n [] = ws
written_all ws n (p ∷ ps) = written_all (written ws n p) (n + 1) ps

-- the journal j became k by the lines ps: they read back after those before, and the words past them are as they were
pub record Notes (j : Journal) (ps : List Payment) (k : Journal) : Type 0 where
  pub words : k.words.now ≡ written_all j.words.now j.lines ps
  pub count : k.lines ≡ j.lines + length ps
  pub lines : lines_of k ≡ lines_of j ++ ps
  pub past : drop (4 * k.lines) k.words.now ≡ drop (4 * k.lines) j.words.now
