-- What payments do to a cash ledger's meaning, and when they are refused.
use Rattle.std.specs.Prelude.{◌≡◌, ℕ, ◌+◌, ◌≤◌, cond, not, ◌||◌, ◌⊎◌, List, [], ◌∷◌, ◌++◌, map, count_by, ℤ, pos, ◌+ℤ◌, Some, None, Ok, Err, Option, Result, ◌==◌, ◌≢◌, nat_le}
use Rattle.faults.specs.declared.Fault.{Fault}
use Rattle.faults.specs.declared.Refusal.TheVariants.{UnknownAccount, OutOfRange, NoCapacity}
use Rattle.ledger.specs.declared.payment.Payment.{Payment}
use Rattle.ledger.specs.declared.terms.Terms.{Terms}
use Rattle.faults.specs.Checks.{Check, check, ◌else◌, first_fault}
use Rattle.ledger.specs.Limits.{is_zero, reaches}
use Rattle.ledger.specs.Meaning.{Meaning, Same}

-- ---- one payment

-- 42 and 43, of a payment x to the account a with the balance b
abbrev pub term_checks : Terms → ℕ → ℤ → ℤ → List Check
term_checks t a b x =
    check (reaches t.lowest t.highest b x) OutOfRange a
    ∷ ((nat_le 1 t.capacity else NoCapacity)
    ∷ [])

-- 34, 42 and 43, of which the first that applies refuses
abbrev pub payment_checks : Meaning → ℕ → ℤ → List Check
payment_checks m a x =
    check (m.known a) UnknownAccount a
    ∷ (check (reaches m.lowest m.highest (m.balance a) x) OutOfRange a
    ∷ ((nat_le 1 m.capacity else NoCapacity)
    ∷ []))

unfoldable pub fault_of : Meaning → ℕ → ℤ → Option Fault
fault_of m a x = first_fault (payment_checks m a x)

-- the balance of a rose by x, the capacity stayed or fell by one, and nothing else changed
pub record Raised (m : Meaning) (a : ℕ) (x : ℤ) (n : Meaning) : Type 0 where
  pub known : (b : ℕ) → n.known b ≡ m.known b
  pub here : n.balance a ≡ m.balance a +ℤ x
  pub others : (b : ℕ) → (b ≢ a) → n.balance b ≡ m.balance b
  pub capacity : (n.capacity ≡ m.capacity) ⊎ (n.capacity + 1 ≡ m.capacity)
  pub lowest : n.lowest ≡ m.lowest
  pub highest : n.highest ≡ m.highest

-- a payment is refused exactly by the first refusal that applies, and then nothing changes
abbrev pub Pays : {U : Type 0} → Meaning → ℕ → ℤ → Result U Fault → Meaning → Type 0
Pays m a x (Ok u) n = (fault_of m a x ≡ None) × Raised m a x n
Pays m a x (Err fault) n = (fault_of m a x ≡ Some fault) × Same m n

-- ---- payments in a row; those of zero are not made

-- what one pays an account, and what all of them do
abbrev pub due_of : Payment → ℕ → ℤ
due_of p a = cond (p.account == a) p.amount (pos 0)

abbrev pub due : List Payment → ℕ → ℤ
due [] a = pos 0
due (p ∷ ps) a = due_of p a +ℤ due ps a

-- how many are made
abbrev pub made : List Payment → ℕ
made ps = count_by (λ p. not (is_zero p.amount)) ps

-- the ledger m after the payments ps: each that is made may lower the capacity by one
pub record Paid (m : Meaning) (ps : List Payment) (n : Meaning) : Type 0 where
  pub known : (a : ℕ) → n.known a ≡ m.known a
  pub balance : (a : ℕ) → n.balance a ≡ m.balance a +ℤ due ps a
  pub no_more : n.capacity ≤ m.capacity
  pub few_less : m.capacity ≤ n.capacity + made ps
  pub lowest : n.lowest ≡ m.lowest
  pub highest : n.highest ≡ m.highest

-- 34
abbrev pub known_check : Meaning → Payment → Check
known_check m p = check (is_zero p.amount || m.known p.account) UnknownAccount p.account

-- 42, of a payment after those before it
abbrev pub range_check : Meaning → List Payment → Payment → Check
range_check m before p =
    check (is_zero p.amount || reaches m.lowest m.highest (m.balance p.account +ℤ due before p.account) p.amount) OutOfRange p.account

abbrev pub range_checks : Meaning → List Payment → List Payment → List Check
range_checks m before [] = []
range_checks m before (p ∷ ps) = range_check m before p ∷ range_checks m (before ++ (p ∷ [])) ps

-- 43
abbrev pub capacity_check : Meaning → List Payment → Check
capacity_check m ps = nat_le (made ps) m.capacity else NoCapacity

-- all 34, then all 42, then 43
unfoldable pub fault_of_all : Meaning → List Payment → Option Fault
fault_of_all m ps = first_fault (map (known_check m) ps ++ (range_checks m [] ps ++ (capacity_check m ps ∷ [])))

-- all payments are made, or the first refusal that applies refuses them all and nothing changes
abbrev pub PaysAll : {U : Type 0} → Meaning → List Payment → Result U Fault → Meaning → Type 0
PaysAll m ps (Ok u) n = (fault_of_all m ps ≡ None) × Paid m ps n
PaysAll m ps (Err fault) n = (fault_of_all m ps ≡ Some fault) × Same m n
