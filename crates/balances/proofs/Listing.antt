-- Lists of accounts.
use Rattle.std.proofs.Common.{◌≡◌, ℕ, ◌+◌, ◌<◌, ◌≤◌, true, false, ◌||◌, eqb, List, [], ◌∷◌, ◌++◌, length, get_or, take, drop, Some, None, Ok, Err, fold, Result, sym, ap, ◌∙◌, inl, inr, arith}
use Rattle.std.specs.Result.{result_unwrap_or}
use Rattle.std.specs.List.{list_all}
use Rattle.std.proofs.lemmas.List.{append-nil, append_assoc, length-append, length-take, length-take-le, take-append-drop, get_or_at}
use Rattle.std.proofs.lemmas.List.Folds.{list_any-append}
use Rattle.std.proofs.lemmas.List.Sums.{fold-append, fold_more}
use Rattle.std.proofs.Math.Bool.{or_assoc, or-false}
use Rattle.std.proofs.lemmas.Bool.{le-leb, lt-leb, cases_Bool, eqb-true}
use Rattle.faults.specs.declared.Fault.{Fault}
use Rattle.faults.specs.declared.Refusal.TheVariants.{AccountNumber, NoAccountPlace}
use Rattle.faults.specs.Refusals.{named, plain}
use Rattle.ledger.specs.Limits.{admitted}
use Rattle.balances.specs.declared.accounts.Accounts.{Accounts}
use Rattle.balances.specs.Accounts.{Lists, listed}
use Rattle.balances.specs.Lists.{add_new, different, has, list_fault, on_list}

-- ---- the different accounts

grows : (ys seen : List ℕ) → (more : List ℕ) × (fold add_new seen ys ≡ seen ++ more)
grows [] seen = ([], sym (append-nil seen))
grows (y ∷ ys) seen = elim (cases_Bool (has seen y)) [
  | inl e ↦ (let r = grows ys seen in (r.0, simp e r.1))
  | inr e ↦ (let r = grows ys (seen ++ y ∷ []) in (y ∷ r.0, simp e (r.1 ∙ append_assoc seen (y ∷ []) r.0)))
]

pub step : (xs : List ℕ) (i : ℕ) → i < length xs → different (take (i + 1) xs) ≡ add_new (different (take i xs)) (get_or xs i 0)
step xs i h = fold_more add_new [] xs i 0 h

-- the 65th different account, met at the place i
pub sixty_fifth : (xs s : List ℕ) (i a : ℕ) → i < length xs → get_or xs i 0 ≡ a → different (take i xs) ≡ s → has s a ≡ false → length s ≡ 64 → (64 < length (different xs)) × (get_or (different xs) 64 0 ≡ a)
sixty_fifth xs s i a h at d new n =
    let e : different (take (i + 1) xs) ≡ s ++ a ∷ [] = step xs i h ∙ rw (at, d, new) in
    let g = grows (drop (i + 1) xs) (s ++ a ∷ []) in
    let w : different xs ≡ s ++ (a ∷ g.0) = ap different (sym (take-append-drop (i + 1) xs)) ∙ fold-append add_new [] (take (i + 1) xs) (drop (i + 1) xs) ∙ ap (λ t. fold add_new t (drop (i + 1) xs)) e ∙ g.1 ∙ append_assoc s (a ∷ []) g.0 in
    (rw w (rw (length-append s (a ∷ g.0)) (omega arith)), ap (λ t. get_or t 64 0) w ∙ get_or_at s a g.0 0 64 n)

-- the different accounts are those of the list
has-add : (seen : List ℕ) (x a : ℕ) → has (add_new seen x) a ≡ (has seen a || eqb x a)
has-add seen x a = elim (cases_Bool (has seen x)) [
  | inl e ↦ rw e (elim (cases_Bool (eqb x a)) [
    | inl t ↦ (let k : has seen a ≡ true = ap (has seen) (sym (eqb-true x a t)) ∙ e in simp (k, t))
    | inr t ↦ simp t (sym (or-false (has seen a)))
  ])
  | inr e ↦ rw e (list_any-append (λ y. eqb y a) seen (x ∷ []) ∙ ap (λ b. has seen a || b) (or-false (eqb x a)))
]

has_folded : (xs seen : List ℕ) (a : ℕ) → has (fold add_new seen xs) a ≡ (has seen a || has xs a)
has_folded [] seen a = sym (or-false (has seen a))
has_folded (x ∷ xs) seen a =
    has_folded xs (add_new seen x) a ∙ ap (λ b. b || has xs a) (has-add seen x a) ∙ or_assoc (has seen a) (eqb x a) (has xs a)

-- ---- an `Accounts`

pub listed_le : (s : Accounts) → length (listed s) ≤ 64
listed_le s = let k = s.fits in simp length-take (omega arith)

pub listed_length : (s : Accounts) → length s.numbers ≡ 64 → length (listed s) ≡ s.count
listed_length s n = let k = s.fits in length-take-le s.count s.numbers (omega arith)

-- ---- refusals of a list

pub list_bad : (xs : List ℕ) → list_all admitted xs ≡ false → list_fault xs ≡ Some (plain AccountNumber)
unfolding list_fault
list_bad xs e = simp e

pub list_full : (xs : List ℕ) (a : ℕ) → list_all admitted xs ≡ true → 64 < length (different xs) → get_or (different xs) 64 0 ≡ a → list_fault xs ≡ Some (named NoAccountPlace a)
unfolding list_fault
list_full xs a e h at = let t = lt-leb (length (different xs)) 64 h in simp (e, t, at)

pub list_good : (xs : List ℕ) → list_all admitted xs ≡ true → length (different xs) ≤ 64 → list_fault xs ≡ None
unfolding list_fault
list_good xs e h = let t = le-leb (length (different xs)) 64 h in simp (e, t)

-- the accounts of a list, or none where it is refused
pub on_list_of : (xs : List ℕ) (r : Result Accounts Fault) (none : Accounts) → Lists xs r → listed none ≡ [] → (a : ℕ) → has (listed (result_unwrap_or r none)) a ≡ on_list xs a
on_list_of xs (Ok s) none p e a = rw (p.0, p.1) (has_folded xs [] a)
on_list_of xs (Err fault) none p e a = rw (p, e)
