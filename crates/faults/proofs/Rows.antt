-- Rows of checks: what a verdict says of them, and one row after another.
use Rattle.std.proofs.Common.{◌≡◌, ℕ, ◌+◌, ◌<◌, Bool, true, false, cond, List, [], ◌∷◌, ◌++◌, map, length, get_or, take, drop, Some, None, Ok, Err, Option, sym, refl, ap, ◌∙◌}
use Rattle.std.proofs.lemmas.List.{map-append, take-append-drop, drop_more, take_more}
use Rattle.faults.specs.declared.Fault.{Fault}
use Rattle.faults.specs.Checks.{Check, first_fault, verdict}

-- ---- verdicts

pub verdict_passed : {X : Type 0} (x y : X) (o : Option Fault) → verdict x o ≡ Ok y → o ≡ None
verdict_passed x y None e = refl
verdict_passed x y (Some fault) e = absurd cc

pub verdict_failed : {X : Type 0} (x : X) (o : Option Fault) (fault : Fault) → verdict x o ≡ Err fault → o ≡ Some fault
verdict_failed x None fault e = absurd cc
verdict_failed x (Some other) fault e = cc

-- refused and not refused at once
pub clash : {X : Type 0} (o : Option Fault) (fault : Fault) → o ≡ None → o ≡ Some fault → X
clash o fault p q = absurd cc

-- ---- one row after another

abbrev pub or_else : Option Fault → Option Fault → Option Fault
or_else None o = o
or_else (Some fault) o = Some fault

pub first-append : (cs ds : List Check) → first_fault (cs ++ ds) ≡ or_else (first_fault cs) (first_fault ds)
first-append [] ds = refl
first-append (c ∷ cs) ds =
    elim c.passes as (λ b. cond b (first_fault (cs ++ ds)) (Some c.fault) ≡ or_else (cond b (first_fault cs) (Some c.fault)) (first_fault ds)) [
      | true ↦ first-append cs ds
      | false ↦ refl
    ]

pub none_both : (o p : Option Fault) → or_else o p ≡ None → (o ≡ None) × (p ≡ None)
none_both None p e = (refl, e)
none_both (Some fault) p e = absurd cc

pub first_passed : (cs ds : List Check) → first_fault cs ≡ None → first_fault (cs ++ ds) ≡ first_fault ds
first_passed cs ds e = first-append cs ds ∙ rw e

pub first_failed : (cs ds : List Check) (fault : Fault) → first_fault cs ≡ Some fault → first_fault (cs ++ ds) ≡ Some fault
first_failed cs ds fault e = first-append cs ds ∙ rw e

-- ---- a check after some that pass

module _ (cs : List Check) (c : Check) (ds : List Check) where
  pub passes_then : first_fault cs ≡ None → c.passes ≡ true → first_fault (cs ++ (c ∷ ds)) ≡ first_fault ds
  passes_then h p = first-append cs (c ∷ ds) ∙ rw (h, p)

  pub fails_then : first_fault cs ≡ None → c.passes ≡ false → first_fault (cs ++ (c ∷ ds)) ≡ Some c.fault
  fails_then h p = first-append cs (c ∷ ds) ∙ rw (h, p)

  pub passed : first_fault (cs ++ (c ∷ ds)) ≡ None → c.passes ≡ true
  passed e = by c.passes refl
    where
      by : (b : Bool) → c.passes ≡ b → b ≡ true
      by true q = refl
      by false q =
          let t = (none_both (first_fault cs) (first_fault (c ∷ ds)) (sym (first-append cs (c ∷ ds)) ∙ e)).1 in
          let s : Some c.fault ≡ None = rw q at t in
          absurd cc

-- ---- one turn of a loop that checks each element

-- a list cut at the element of the place i
pub cut : {A : Type 0} (xs : List A) (i : ℕ) (d : A) → i < length xs → xs ≡ take i xs ++ (get_or xs i d ∷ drop (i + 1) xs)
cut xs i d h = sym (take-append-drop i xs) ∙ ap (λ q. take i xs ++ q) (drop_more xs i d h)

module _ {A : Type 0} (f : A → Check) (xs : List A) (i : ℕ) (d : A) (h : i < length xs) (before : first_fault (map f (take i xs)) ≡ None) where
  pub map_more : (f (get_or xs i d)).passes ≡ true → first_fault (map f (take (i + 1) xs)) ≡ None
  map_more p =
      ap (λ q. first_fault (map f q)) (take_more xs i d h)
      ∙ ap first_fault (map-append f (take i xs) (get_or xs i d ∷ []))
      ∙ passes_then (map f (take i xs)) (f (get_or xs i d)) [] before p

  pub map_fails : (f (get_or xs i d)).passes ≡ false → first_fault (map f xs) ≡ Some (f (get_or xs i d)).fault
  map_fails p =
      ap (λ q. first_fault (map f q)) (cut xs i d h)
      ∙ ap first_fault (map-append f (take i xs) (get_or xs i d ∷ drop (i + 1) xs))
      ∙ fails_then (map f (take i xs)) (f (get_or xs i d)) (map f (drop (i + 1) xs)) before p

-- ---- what a passed row says

abbrev pub Passes : List Check → Type 0
Passes [] = Unit {0}
Passes (c ∷ cs) = (c.passes ≡ true) × Passes cs

pub all_pass : (cs : List Check) → first_fault cs ≡ None → Passes cs
all_pass [] h = tt
all_pass (c ∷ cs) h = let p = passed [] c cs h in (p, all_pass cs (sym (passes_then [] c cs refl p) ∙ h))
