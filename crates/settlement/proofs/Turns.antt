-- One turn of the loop that makes the payments of records.
use Rattle.std.proofs.Common.{◌≡◌, ℕ, ◌+◌, ◌<◌, false, true, List, map, length, get_or, take, None, sym, ◌∙◌, arith}
use Rattle.std.proofs.lemmas.List.{get_or-map, length-map}
use Rattle.ledger.specs.declared.payment.Payment.{Payment}
use Rattle.ledger.specs.Limits.{is_zero}
use Rattle.ledger.specs.Meaning.{Meaning}
use Rattle.ledger.specs.Payments.{Paid, Raised, fault_of, fault_of_all}
use Rattle.ledger.proofs.Paid as paid
use Rattle.table.specs.declared.keyed.Keyed.{Keyed}
use Rattle.positions.specs.declared.records.Account.{Account}

module _ (m : Meaning) (f : Keyed Account → Payment) (xs : List (Keyed Account)) (ok : fault_of_all m (map f xs) ≡ None) (i : ℕ) (d : Keyed Account) (h : i < length xs) (p : Payment) (is : p ≡ f (get_or xs i d)) (n : Meaning) (before : Paid m (take i (map f xs)) n) where
  below : i < length (map f xs)
  below = let e = length-map xs f in omega arith

  here : get_or (map f xs) i p ≡ p
  here = get_or-map f xs i d p h ∙ sym is

  pub next_zero : is_zero p.amount ≡ true → Paid m (take (i + 1) (map f xs)) n
  next_zero z = paid.next_zero m (map f xs) ok i p below n before (rw here z)

  module _ (z : is_zero p.amount ≡ false) where
    pub next_paid : (o : Meaning) → Raised n p.account p.amount o → Paid m (take (i + 1) (map f xs)) o
    next_paid o r = paid.next_paid m (map f xs) ok i p below n before (rw here z) o (rw here r)

    pub still_open : fault_of n p.account p.amount ≡ None
    still_open = rw here at (paid.never_refused m (map f xs) ok i p below n before (rw here z))
