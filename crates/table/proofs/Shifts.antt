-- The copies that move records up or down by one place.
use Rattle.std.proofs.Common.{◌≡◌, ℕ, ◌+◌, ◌-◌, ◌<◌, ◌≤◌, List, ◌++◌, length, take, drop, set, sym, ◌∙◌, add-one, arith}
use Rattle.std.specs.List.{copy_within, insert, remove}
use Rattle.std.proofs.Math.Seq.{take-set-lt}
use Rattle.std.proofs.lemmas.Grind.{common_steps}
use Rattle.std.proofs.lemmas.List.{append_assoc, length-take-le, set-append_left, take_more_set, take-take}
use Rattle.std.proofs.lemmas.Slice.{between_is}

module _ {R : Type 0} (e : List R) (n at : ℕ) where
  -- r put in at the place `at` of the first n
  pub moved_up : (r : R) → n < length e → at ≤ n → set (copy_within e at n (at + 1)) at r ≡ insert (take n e) at r ++ drop (n + 1) e
  moved_up r free upto =
      let low = take-take at n e upto in
      let high = between_is e at n in
      let long = length-take-le (at + 1) e (omega arith) in
      let here = sym (take-set-lt (at + 1) e at r (omega arith)) ∙ take_more_set e at r (omega arith) in
      grind (arith, common_steps, set-append_left, append_assoc)

  -- the record at the place `at` of the first n taken out
  pub moved_down : at < n → copy_within e (at + 1) n at ≡ remove (take n e) at ++ drop (n - 1) e
  moved_down within =
      let low = take-take at n e (omega arith) in
      let high = between_is e (at + 1) n in
      let next = add-one at in
      grind (arith, common_steps)
