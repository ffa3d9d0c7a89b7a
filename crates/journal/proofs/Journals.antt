-- A journal's balances, and what a payment does to them.
use Rattle.std.proofs.Common.{◌≡◌, ℕ, ◌+◌, ◌/◌, ◌<◌, true, List, [], ◌∷◌, ◌++◌, map, length, get_or, take, ℤ, pos, ◌+ℤ◌, is_some, Some, unwrap_or, sym, refl, ap, ◌∙◌, inl, inr, arith, w64, SFits}
use Rattle.std.proofs.lemmas.List.{map_more}
use Rattle.std.proofs.lemmas.Int.{ints}
use Rattle.std.proofs.lemmas.Bool.{cases_Bool, cases_eq}
use Rattle.std.proofs.lemmas.Bool.Decides.{nat_tests}
use Rattle.ledger.specs.declared.payment.Payment.{Payment}
use Rattle.ledger.specs.Limits.{Within, is_zero}
use Rattle.ledger.specs.Meaning.{Meaning}
use Rattle.ledger.specs.Payments.{Raised, due, due_of}
use Rattle.ledger.proofs.Paid.{due_here, due_one, due_other, zero_is}
use Rattle.ledger.proofs.Taken.{Taken}
use Rattle.ledger.proofs.Totals.{if_inside, if_told, none_some}
use Rattle.journal.specs.declared.journal.Journal.{Journal}
use Rattle.journal.specs.Lines.{parts, payment_in}
use Rattle.journal.specs.Meaning.{Appended, Notes, from_to, journal, lines_of, terms_of, total_of}
use Rattle.journal.proofs.Lines.{length-written, lines_written, past_written}

-- ---- the sum of the lines

pub sum_more : (ws : List (List ℕ)) (i a : ℕ) → i < length ws → due (map payment_in (take (i + 1) ws)) a ≡ due (map payment_in (take i ws)) a +ℤ due_of (payment_in (get_or ws i [])) a
sum_more ws i a h = ap (λ q. due q a) (map_more payment_in ws i [] h) ∙ due_one _ (payment_in (get_or ws i [])) a

-- ---- a payment to an account

module _ (j : Journal) (a : ℕ) (b : ℤ) (e : total_of j a ≡ Some b) where
  pub told : (from_to j.first j.last a ≡ true) × (b ≡ due (lines_of j) a) × Within b
  told = elim (cases_Bool (from_to j.first j.last a)) [
    | inl t ↦ (let r = if_told (due (lines_of j) a) b (rw t at e) in (t, r.0, r.1))
    | inr t ↦ none_some b (rw t at e)
  ]

  pub small : a < parts
  small = let t = told.0 in grind (arith, nat_tests)

-- ---- a line more

module _ (j k : Journal) (p : Payment) (b : ℤ) (e : total_of j p.account ≡ Some b) (fits : SFits w64 p.amount) (t : Taken (terms_of j) p.account b p.amount) (more : Appended j p k) where
  room : j.lines < length j.words.now / 4
  room = omega (arith, t.room)

  pub lines_after : lines_of k ≡ lines_of j ++ (p ∷ [])
  lines_after = rw (more.words, more.lines) (lines_written j.words.now j.lines p room (small j p.account b e) fits)

  same_accounts : (a : ℕ) → from_to k.first k.last a ≡ from_to j.first j.last a
  same_accounts a = rw (more.first, more.last)

  total_here : total_of k p.account ≡ Some (b +ℤ p.amount)
  total_here =
      let s = same_accounts p.account ∙ (told j p.account b e).0 in
      let d = ap (λ q. due q p.account) lines_after ∙ due_here (lines_of j) p p.account refl ∙ ap (λ z. z +ℤ p.amount) (sym (told j p.account b e).1) in
      rw (s, d) (if_inside (b +ℤ p.amount) t.within)

  total_there : (a : ℕ) → (a ≡ p.account → ⊥) → total_of k a ≡ total_of j a
  total_there a ne = rw (same_accounts a, ap (λ q. due q a) lines_after ∙ due_other (lines_of j) p a (λ q. ne (sym q)))

  pub raised : Raised (journal j) p.account p.amount (journal k)
  raised = record {
    known = λ a. elim (cases_eq a p.account) [
      | inl q ↦ rw (q, total_here, e)
      | inr ne ↦ ap is_some (total_there a ne)
    ];
    here = rw (total_here, e);
    others = λ a ne. ap (λ o. unwrap_or o (pos 0)) (total_there a ne);
    capacity = inr (omega (arith, more.lines, ap length more.words ∙ length-written j.words.now j.lines p room));
    lowest = refl;
    highest = refl;
  }

  pub notes : Notes j (p ∷ []) k
  notes = record { words = more.words; count = more.lines; lines = lines_after; past = rw (more.words, more.lines) (past_written j.words.now j.lines p room) }

-- a payment of zero
pub unraised : (m : Meaning) (a : ℕ) (x : ℤ) → is_zero x ≡ true → Raised m a x m
unraised m a x z =
    let e = zero_is x z in
    record { known = λ _. refl; here = omega (arith, ints); others = λ _ _. refl; capacity = inl refl; lowest = refl; highest = refl }
