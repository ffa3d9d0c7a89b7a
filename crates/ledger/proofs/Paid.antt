-- One payment after another.
use Rattle.std.proofs.Common.{◌≡◌, ℕ, ◌+◌, ◌<◌, ◌≤◌, true, false, cond, not, eqb, List, [], ◌∷◌, ◌++◌, map, length, get_or, take, drop, ℤ, pos, ◌+ℤ◌, nat_abs, None, Some, Result, Err, inl, refl, ap, ◌∙◌, append_assoc, arith, w64, SFits, leb-true}
use Rattle.faults.specs.declared.Fault.{Fault}
use Rattle.std.proofs.lemmas.Result.{err_from_is_err_and}
use lib.IntN.{+ℤ_idr}
use Rattle.std.proofs.lemmas.List.{append-nil, map-append, take_more}
use Rattle.std.proofs.lemmas.List.Sums.{count_by_more_no, count_by_more_yes, sum_by-take-le}
use Rattle.std.proofs.lemmas.Int.{to_z-of_z, ints}
use Rattle.std.proofs.lemmas.Bool.Decides.{nat_tests}
use Rattle.ledger.specs.declared.payment.Payment.{Payment}
use Rattle.faults.specs.Checks.{first_fault}
use Rattle.ledger.specs.Limits.{Within, is_zero, reaches}
use Rattle.ledger.specs.Meaning.{Meaning}
use Rattle.ledger.specs.Payments.{Raised, Paid, PaysAll, due, made, known_check, range_check, range_checks, capacity_check, fault_of, fault_of_all}
use Rattle.faults.proofs.Rows.{map_more, map_fails, cut, or_else, first-append, passed, passes_then, fails_then}
use Rattle.ledger.proofs.Money.{reaches_amount, back, reached_within}
use Rattle.ledger.proofs.Refused.{same_self, not_refused}

-- what stands past the end of a row of payments
abbrev pub no_payment : Payment
no_payment = record { account = 0; amount = pos 0 }

pub zero_is : (x : ℤ) → is_zero x ≡ true → x ≡ pos 0
zero_is x e = let h = leb-true (nat_abs x) 0 e in omega (arith, ints)

-- ---- sums

pub due_one : (ps : List Payment) (p : Payment) (a : ℕ) → due (ps ++ (p ∷ [])) a ≡ due ps a +ℤ cond (eqb p.account a) p.amount (pos 0)
due_one [] p a = omega (arith, ints)
due_one (q ∷ qs) p a = let ih = due_one qs p a in omega (arith, ints)

module _ (ps : List Payment) (p : Payment) (a : ℕ) where
  pub due_here : p.account ≡ a → due (ps ++ (p ∷ [])) a ≡ due ps a +ℤ p.amount
  due_here e = due_one ps p a ∙ grind (arith, nat_tests)

  pub due_other : (p.account ≡ a → ⊥) → due (ps ++ (p ∷ [])) a ≡ due ps a
  due_other ne = due_one ps p a ∙ grind (arith, nat_tests, +ℤ_idr (due ps a))

-- ---- checks of a row

pub range-append : (m : Meaning) (before ps qs : List Payment) → range_checks m before (ps ++ qs) ≡ range_checks m before ps ++ range_checks m (before ++ ps) qs
range-append m before [] qs = simp append-nil
range-append m before (p ∷ ps) qs = simp (range-append m (before ++ (p ∷ [])) ps qs, append_assoc)

pub kinds : (m : Meaning) (ps : List Payment) → fault_of_all m ps ≡ or_else (first_fault (map (known_check m) ps)) (or_else (first_fault (range_checks m [] ps)) (first_fault (capacity_check m ps ∷ [])))
unfolding fault_of_all
kinds m ps = simp first-append

-- a row that is refused changes nothing
pub pays_failed : {U : Type 0} (m : Meaning) (ps : List Payment) (r : Result U Fault) (f : Fault) → r ≡ Err f → fault_of_all m ps ≡ Some f → PaysAll m ps r m
pays_failed m ps r f e s = rw e (s, same_self m)

-- what the exits of such a row need
pub ruleset exits = (kinds, err_from_is_err_and, pays_failed)

pub all_pass : (m : Meaning) (ps : List Payment) → first_fault (map (known_check m) ps) ≡ None → first_fault (range_checks m [] ps) ≡ None → (capacity_check m ps).passes ≡ true → fault_of_all m ps ≡ None
all_pass m ps k r t = grind (arith, kinds)

-- at the place i
module _ (m : Meaning) (ps : List Payment) (i : ℕ) (d : Payment) (h : i < length ps) where
  parted : range_checks m [] ps ≡ range_checks m [] (take i ps) ++ (range_check m (take i ps) (get_or ps i d) ∷ range_checks m (take i ps ++ (get_or ps i d ∷ [])) (drop (i + 1) ps))
  parted = ap (range_checks m []) (cut ps i d h) ∙ range-append m [] (take i ps) (get_or ps i d ∷ drop (i + 1) ps)

  pub known_at : first_fault (map (known_check m) ps) ≡ None → (known_check m (get_or ps i d)).passes ≡ true
  known_at e = passed (map (known_check m) (take i ps)) (known_check m (get_or ps i d)) (map (known_check m) (drop (i + 1) ps)) (rw (cut ps i d h, map-append) at e)

  pub range_at : first_fault (range_checks m [] ps) ≡ None → (range_check m (take i ps) (get_or ps i d)).passes ≡ true
  range_at e = passed (range_checks m [] (take i ps)) (range_check m (take i ps) (get_or ps i d)) _ (rw parted at e)

-- one turn of the loop that checks each account
module _ (m : Meaning) (ps : List Payment) (i : ℕ) (h : i < length ps) (before : first_fault (map (known_check m) (take i ps)) ≡ None) where
  pub known_more : (known_check m (get_or ps i no_payment)).passes ≡ true → first_fault (map (known_check m) (take (i + 1) ps)) ≡ None
  known_more p = map_more (known_check m) ps i no_payment h before p

  pub known_fails : (known_check m (get_or ps i no_payment)).passes ≡ false → (first_fault (map (known_check m) (take i ps)) ≡ None) × (first_fault (map (known_check m) ps) ≡ Some (known_check m (get_or ps i no_payment)).fault)
  known_fails p = (before, map_fails (known_check m) ps i no_payment h before p)

-- one turn of the loop that checks each range
module _ (m : Meaning) (ps : List Payment) (i : ℕ) (h : i < length ps) (before : first_fault (range_checks m [] (take i ps)) ≡ None) where
  pub range_more : (range_check m (take i ps) (get_or ps i no_payment)).passes ≡ true → first_fault (range_checks m [] (take (i + 1) ps)) ≡ None
  range_more p = rw (take_more ps i no_payment h, range-append) (passes_then (range_checks m [] (take i ps)) (range_check m (take i ps) (get_or ps i no_payment)) [] before p)

  pub range_fails : (range_check m (take i ps) (get_or ps i no_payment)).passes ≡ false → (first_fault (range_checks m [] (take i ps)) ≡ None) × (first_fault (range_checks m [] ps) ≡ Some (range_check m (take i ps) (get_or ps i no_payment)).fault)
  range_fails p = (before, rw (parted m ps i no_payment h) (fails_then (range_checks m [] (take i ps)) (range_check m (take i ps) (get_or ps i no_payment)) _ before p))

-- what both of these loops need
pub ruleset turns = (known_more, known_fails, range_more, range_fails, reaches_amount, err_from_is_err_and)

-- a balance z goes on by a payment in range
module _ (m : Meaning) (ps : List Payment) (i : ℕ) (d : Payment) (h : i < length ps) (low : Within m.lowest) (high : Within m.highest) (ok : first_fault (range_checks m [] ps) ≡ None) where
  pub next_sum : (z : ℤ) → SFits w64 z → SFits w64 (get_or ps i d).amount → (a : ℕ) → z ≡ m.balance a +ℤ due (take i ps) a → (get_or ps i d).account ≡ a → SFits w64 (z +ℤ back (get_or ps i d).amount) × (back (z +ℤ back (get_or ps i d).amount) ≡ m.balance a +ℤ due (take (i + 1) ps) a)
  next_sum z f g a e is =
      let t = range_at m ps i d h ok in
      let s : SFits w64 (z +ℤ (get_or ps i d).amount) = grind (arith, nat_tests, ints, zero_is, reached_within) in
      let u = due_here (take i ps) (get_or ps i d) a is in
      simp to_z-of_z (s, rw (take_more ps i d h) (omega (arith, ints)))

-- ---- the ledger

pub paid_none : (m : Meaning) → Paid m [] m
paid_none m = record { known = λ _. refl; balance = λ a. omega (arith, ints); no_more = omega arith; few_less = omega arith; lowest = refl; highest = refl }

-- a payment that was checked with those before it counted is not refused after them
pub still_open : (m : Meaning) (ps : List Payment) (n : Meaning) → Paid m ps n → (p : Payment) → m.known p.account ≡ true → reaches m.lowest m.highest (m.balance p.account +ℤ due ps p.account) p.amount ≡ true → made ps < m.capacity → fault_of n p.account p.amount ≡ None
still_open m ps n paid p k e h =
    let low = paid.lowest in
    let high = paid.highest in
    let here = paid.balance p.account in
    let few = paid.few_less in
    not_refused n p.account p.amount (paid.known p.account ∙ k) (rw (low, high, here) e) (omega arith)

-- one turn of the loop that pays
module _ (m : Meaning) (ps : List Payment) (ok : fault_of_all m ps ≡ None) (i : ℕ) (d : Payment) (h : i < length ps) (n : Meaning) (paid : Paid m (take i ps) n) where
  raised_paid : (o : Meaning) → Raised n (get_or ps i d).account (get_or ps i d).amount o → n.capacity + made (take i ps) ≤ o.capacity + made (take (i + 1) ps) → Paid m (take (i + 1) ps) o
  raised_paid o r few =
      record {
        known = λ b. r.known b ∙ paid.known b;
        balance = λ b. (let here = r.here in let others = r.others b in let g = paid.balance b in let s = due_one (take i ps) (get_or ps i d) b in rw (take_more ps i d h) (grind (arith, nat_tests, ints)));
        no_more = omega arith;
        few_less = omega arith;
        lowest = r.lowest ∙ paid.lowest;
        highest = r.highest ∙ paid.highest;
      }

  pub next_zero : is_zero (get_or ps i d).amount ≡ true → Paid m (take (i + 1) ps) n
  next_zero z =
      let x = zero_is (get_or ps i d).amount z in
      let count = count_by_more_no (λ (p : Payment). not (is_zero p.amount)) ps i d h (rw z) in
      raised_paid n (record { known = λ _. refl; here = omega (arith, ints); others = λ _ _. refl; capacity = inl refl; lowest = refl; highest = refl }) (omega arith)

  module _ (z : is_zero (get_or ps i d).amount ≡ false) where
    counted : made (take (i + 1) ps) ≡ made (take i ps) + 1
    counted = count_by_more_yes (λ (p : Payment). not (is_zero p.amount)) ps i d h (rw z)

    pub next_paid : (o : Meaning) → Raised n (get_or ps i d).account (get_or ps i d).amount o → Paid m (take (i + 1) ps) o
    next_paid o r = let count = counted in let room = r.capacity in raised_paid o r (omega arith)

    pub never_refused : fault_of n (get_or ps i d).account (get_or ps i d).amount ≡ None
    never_refused =
        let all = kinds m ps in
        let k = known_at m ps i d h in
        let r = range_at m ps i d h in
        let count = counted in
        let part = sum_by-take-le (λ (q : Payment). cond (not (is_zero q.amount)) 1 0) ps (i + 1) in
        still_open m (take i ps) n paid (get_or ps i d) (grind (arith, nat_tests)) (grind (arith, nat_tests)) (grind (arith, nat_tests))
