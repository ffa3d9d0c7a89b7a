-- A place for a key once another key has its place.
use Rattle.std.proofs.Common.{◌≡◌, ℕ, ◌+◌, ◌-◌, ◌≤◌, min, cond, ◌||◌, eqb, ltb, List, length, is_some, sym, ap, ◌∙◌, arith}
use mathlib.Core.Bool.{or_assoc}
use native.Mathlib.Nat.{min-le_left, min-eq_right}
use Rattle.std.proofs.lemmas.Bool.Decides.{nat_tests}
use Rattle.table.specs.declared.keyed.Keyed.{Keyed}
use Rattle.table.specs.Records.{find_in, put_in}
use Rattle.table.specs.View.{place_for}
use Rattle.table.proofs.Laws.{holds_put, length-put}

fewer : (m n t : ℕ) → ltb (m + t) n ≡ ltb m (n - t)
fewer m n t = grind (arith, nat_tests)

pub place_after : {V : Type 0} (room limit k : ℕ) (x : Keyed V) (xs : List (Keyed V))
    → place_for (min room limit) k (put_in x xs) ≡ (eqb x.key k || place_for (min room (min room limit - cond (is_some (find_in x.key xs)) 0 1)) k xs)
place_after room limit k x xs =
    let n = min room limit in
    let t = cond (is_some (find_in x.key xs)) 0 1 in
    let low = min-le_left room limit in
    let within : n - t ≤ room = omega arith in
    ap (λ b. b || ltb (length (put_in x xs)) n) (holds_put x k xs)
    ∙ ap (λ m. eqb x.key k || is_some (find_in k xs) || ltb m n) (length-put x xs)
    ∙ or_assoc (eqb x.key k) (is_some (find_in k xs)) (ltb (length xs + t) n)
    ∙ ap (λ b. eqb x.key k || (is_some (find_in k xs) || b)) (fewer (length xs) n t ∙ ap (ltb (length xs)) (sym (min-eq_right within)))
