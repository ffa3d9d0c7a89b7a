-- The cents layer over any ledger's meaning.
use Rattle.std.proofs.Common.{◌≡◌, ℕ, ◌≤◌, Bool, true, false, cond, not, ◌&&◌, List, ℤ, pos, ◌+ℤ◌, ◌*ℤ◌, nat_abs, is_some, Some, None, Ok, Option, unwrap_or, sym, refl, ap, ◌∙◌, inl, inr, arith, w64, SFits}
use lib.IntN.{+ℤ_idr}
use lib.Signed.{le_z, lt_z, ◌≤ℤ◌}
use Rattle.std.specs.Int.{int_min}
use Rattle.std.specs.Bool.{then_some}
use Rattle.std.specs.Option.{option_and_then}
use Rattle.std.proofs.lemmas.Int.{to_z-of_z, ints}
use Rattle.std.proofs.lemmas.Bool.{cases_Bool, cases_eq, and_right, and_parts}
use Rattle.std.proofs.lemmas.Bool.Decides.{nat_tests}
use Rattle.prices.specs.Cents.{cents, rest}
use Rattle.faults.specs.Checks.{first_fault, verdict}
use Rattle.ledger.specs.declared.terms.Terms.{Terms}
use Rattle.ledger.specs.Limits.{Within, farthest_balance, inside, is_zero}
use Rattle.ledger.specs.Meaning.{Meaning}
use Rattle.ledger.specs.Payments.{Raised, fault_of, term_checks}
use Rattle.ledger.specs.Totals.{if_within}
use Rattle.ledger.proofs.Money.{back, back_within, reach}
use Rattle.ledger.proofs.Paid.{zero_is}
use Rattle.ledger.proofs.Refused.{not_refused}
use Rattle.ledger.proofs.Totals.{if_inside, if_told}
use Rattle.balances.specs.declared.rows.Row.{Row}
use Rattle.balances.specs.Lists.{on_list}
use Rattle.balances.specs.Lookup.{kept, with_kept}
use Rattle.balances.proofs.Lookup.{kept_other, kept-with, same_accounts}
use Rattle.ledger.proofs.Taken.{Taken, fault_known, taken, terms_of}
use Rattle.cents.specs.declared.rest.Rest.{Rest}
use Rattle.cents.specs.Layer.{NewLayer, layer, layer_balances, layer_terms, lowest_over, over, past, rest_of}
use Rattle.cents.specs.Sound.{lowest_within}
use Rattle.cents.specs.Sends.{Below, Sent}
use Rattle.cents.proofs.Splits.{cents_few, cents_size, near_fits, near_shown, splits}

-- ---- the balance over a rest

module _ (m : Meaning) (a : ℕ) (r : Rest) where
  pub too_low : past m.lowest ≡ true → over m a r ≡ None
  unfolding over
  too_low h = simp h

  pub unknown_below : m.known a ≡ false → over m a r ≡ None
  unfolding over
  unknown_below h = let e = and_right (not (past m.lowest)) false refl in simp (h, e)

  -- what a known account shows
  pub record Known (z : ℤ) : Type 0 where
    pub not_past : past m.lowest ≡ false
    pub known : m.known a ≡ true
    pub sum : z ≡ m.balance a +ℤ pos r.value
    pub within : Within z

  pub told : (z : ℤ) → over m a r ≡ Some z → Known z
  unfolding over
  told z e = elim (cases_Bool (not (past m.lowest) && m.known a)) [
    | inl s ↦ (let t = if_told (m.balance a +ℤ pos r.value) z (simp s at e) in
        let p = and_parts (not (past m.lowest)) (m.known a) s in
        record { not_past = not_not (past m.lowest) p.0; known = p.1; sum = t.0; within = t.1 })
    | inr s ↦ (let n : None ≡ Some z = simp s at e in absurd cc)
  ]
    where
      not_not : (b : Bool) → not b ≡ true → b ≡ false
      not_not true h = sym h
      not_not false h = refl

  -- an account with the balance b below
  module _ (b : ℤ) (low : past m.lowest ≡ false) (known : m.known a ≡ true) (below : m.balance a ≡ b) where
    pub over_known : over m a r ≡ if_within (b +ℤ pos r.value)
    unfolding over
    over_known = rw (low, known, below)

    -- the test of the sum, as the code makes it
    pub over_told : Within b → over m a r ≡ then_some (le_z (b +ℤ pos r.value) (pos farthest_balance)) (b +ℤ pos r.value)
    unfolding if_within
    over_told w = over_known ∙ rw (inside_told b r.value w) (some_if (le_z (b +ℤ pos r.value) (pos farthest_balance)))
      where
        some_if : (t : Bool) → cond t (Some (b +ℤ pos r.value)) None ≡ then_some t (b +ℤ pos r.value)
        some_if true = refl
        some_if false = refl

        inside_told : (b : ℤ) (n : ℕ) → Within b → inside farthest_balance (b +ℤ pos n) ≡ le_z (b +ℤ pos n) (pos farthest_balance)
        inside_told b n w = grind (arith, ints, nat_tests)

-- ---- the layer's range

-- the test of a lowest balance, as the code makes it
pub past_told : (l k : ℤ) → Within l → l ≡ k → past k ≡ lt_z (pos farthest_balance) (back (back l +ℤ pos 100))
unfolding past
past_told l k w e = rw (← e) (ap (lt_z (pos farthest_balance)) (sym (near_shown l 100 w (omega arith))))

pub terms_told : (s t : Terms) (l : ℤ) → Within t.lowest → Within t.highest → s ≡ t → l ≡ int_min (back (back s.lowest +ℤ pos 100)) (pos farthest_balance) → ◌≡◌ {A = Terms} (record { capacity = s.capacity; lowest = back l; highest = back s.highest }) (layer_terms t)
unfolding past
terms_told s t l low high e m =
    let is : l ≡ lowest_over t.lowest = rw (e, near_shown t.lowest 100 low (omega arith)) at m in
    rw (e, is, back_within (lowest_over t.lowest) (lowest_within t.lowest low), back_within t.highest high)

-- ---- a payment that the layer's terms take

-- either way the ledger below is raised by the whole cents
pub below_raised : (t : Bool) (m : Meaning) (a : ℕ) (c : ℤ) (n : Meaning) → is_zero c ≡ t → Below t m a c n → Raised m a (c *ℤ pos 100) n
below_raised false m a c n e r = r
below_raised true m a c n e s =
    let z = zero_is c e in
    let w : c *ℤ pos 100 ≡ pos 0 = ap (λ y. y *ℤ pos 100) z in
    let here = s.balance a in
    record { known = s.known; here = omega (arith, ints); others = λ d _. s.balance d; capacity = inl s.capacity; lowest = s.lowest; highest = s.highest }

pub total_none : (m : Meaning) (rows : List (Row Rest)) (a : ℕ) → kept rows a ≡ None → layer_balances m rows a ≡ None
total_none m rows a none = rw none

module _ (m : Meaning) (rows : List (Row Rest)) (a : ℕ) (r : Rest) (stays : kept rows a ≡ Some r) where
  pub total_over : layer_balances m rows a ≡ over m a r
  total_over = rw stays

  pub layer_fault : (x b : ℤ) → over m a r ≡ Some b → fault_of (layer m rows) a x ≡ first_fault (term_checks (layer_terms (terms_of m)) a b x)
  layer_fault x b e = fault_known (layer m rows) a b x (rw (total_over, e)) (rw (total_over, e))

pub layer_taken : {U : Type 0} (u v : U) (m : Meaning) (a : ℕ) (r : Rest) (b x : ℤ) (s : Terms) → over m a r ≡ Some b → Within m.lowest → Within m.highest → SFits w64 x → s ≡ layer_terms (terms_of m) → Ok u ≡ verdict v (first_fault (term_checks s a (back b) (back x))) → Taken (layer_terms (terms_of m)) a b x
layer_taken u v m a r b x s e low high fits is ok =
    taken u v s (layer_terms (terms_of m)) a b x (lowest_within m.lowest low) high (told m a r b e).within fits is ok

module _ (m : Meaning) (a : ℕ) (r : Rest) (b x : ℤ) (e : over m a r ≡ Some b) (taken : Taken (layer_terms (terms_of m)) a b x) where
  known : Known m a r b
  known = told m a r b e

  small : nat_abs x ≤ 4000000000000000000
  small = taken.reaches.small

  pub sum_fits : SFits w64 (back x +ℤ back (pos r.value))
  sum_fits = let s = small in let o = r.small in near_fits x r.value (omega arith) (omega arith)

  pub sum_shown : back (back x +ℤ back (pos r.value)) ≡ x +ℤ pos r.value
  sum_shown = let s = small in let o = r.small in near_shown x r.value (omega arith) (omega arith)

  pub sent_shown : (c : ℤ) → SFits w64 c → c ≡ cents (back (back x +ℤ back (pos r.value))) → back c ≡ cents (x +ℤ pos r.value)
  sent_shown c s e = to_z-of_z w64 c s ∙ e ∙ ap cents sum_shown

  pub sent_few : nat_abs (cents (x +ℤ pos r.value)) ≤ 40000000000000001
  sent_few = cents_few x r.value small r.small

  -- what goes below is never refused
  pub sent_open : fault_of m a (cents (x +ℤ pos r.value) *ℤ pos 100) ≡ None
  sent_open =
      let s = splits (x +ℤ pos r.value) in
      let e = s.sum in
      let d = s.small in
      let o = r.small in
      let size = cents_size x r.value small o in
      let z = known.sum in
      let p = known.not_past in
      let l : lowest_over m.lowest ≡ m.lowest +ℤ pos 100 = simp p in
      let lo : (m.lowest +ℤ pos 100) ≤ℤ (b +ℤ x) = rw l at taken.reaches.above in
      let hi : (b +ℤ x) ≤ℤ m.highest = taken.reaches.below in
      not_refused m a (cents (x +ℤ pos r.value) *ℤ pos 100) known.known (reach m.lowest m.highest (m.balance a) (cents (x +ℤ pos r.value) *ℤ pos 100) (record { small = size; above = omega (arith, ints); below = omega (arith, ints) })) taken.room

  -- the meaning n of the ledger below after it, and the rest q that is kept
  module _ (rows : List (Row Rest)) (stays : kept rows a ≡ Some r) (n : Meaning) (q : Rest) (below : Below (is_zero (cents (x +ℤ pos r.value))) m a (cents (x +ℤ pos r.value)) n) (left : q.value ≡ rest (x +ℤ pos r.value)) where
    here : kept (with_kept rows a q) a ≡ Some q
    here = kept-with rows a r q stays

    others : (d : ℕ) → (d ≡ a → ⊥) → kept (with_kept rows a q) d ≡ kept rows d
    others d ne = kept_other rows a r q stays d ne

    pub layer_sent : Sent m rows a (x +ℤ pos (rest_of rows a)) n (with_kept rows a q)
    layer_sent = rw stays (record { below = below; accounts = same_accounts rows a r q stays; kept = rw (here, left); others = λ d ne. rw (others d ne) })

    raised : Raised m a (cents (x +ℤ pos r.value) *ℤ pos 100) n
    raised = below_raised (is_zero (cents (x +ℤ pos r.value))) m a (cents (x +ℤ pos r.value)) n refl below

    over_same : (d : ℕ) → (d ≡ a → ⊥) → (o : Option Rest) → option_and_then (over n d) o ≡ option_and_then (over m d) o
    unfolding over
    over_same d ne None = refl
    over_same d ne (Some p) = rw (raised.lowest, raised.known d, raised.others d ne)

    total_other : (d : ℕ) → (d ≡ a → ⊥) → layer_balances n (with_kept rows a q) d ≡ layer_balances m rows d
    total_other d ne = rw (others d ne) (over_same d ne (kept rows d))

    total_here : layer_balances n (with_kept rows a q) a ≡ Some (b +ℤ x)
    total_here =
        let s = (splits (x +ℤ pos r.value)).sum in
        let z = known.sum in
        let h = raised.here in
        let new : n.balance a +ℤ pos q.value ≡ b +ℤ x = rw left (omega (arith, ints)) in
        total_over n (with_kept rows a q) a q here
        ∙ over_known n a q (n.balance a) (rw raised.lowest known.not_past) (raised.known a ∙ known.known) refl
        ∙ ap if_within new ∙ if_inside (b +ℤ x) taken.within

    pub layer_raised : Raised (layer m rows) a x (layer n (with_kept rows a q))
    layer_raised =
        let was : layer_balances m rows a ≡ Some b = total_over m rows a r stays ∙ e in
        record {
          known = λ d. elim (cases_eq d a) [
            | inl t ↦ rw (t, total_here, was)
            | inr t ↦ ap is_some (total_other d t)
          ];
          here = rw (total_here, was);
          others = λ d t. ap (λ o. unwrap_or o (pos 0)) (total_other d t);
          capacity = raised.capacity;
          lowest = ap lowest_over raised.lowest;
          highest = raised.highest;
        }

-- ---- a new layer

module _ (m : Meaning) (list : List ℕ) (rows : List (Row Rest)) (r : Rest) (zero : r.value ≡ 0) (each : (a : ℕ) → kept rows a ≡ cond (on_list list a) (Some r) None) (within : (a : ℕ) → Within (m.balance a)) where
  new_over : (t : Bool) (a : ℕ) → option_and_then (over m a) (cond t (Some r) None) ≡ cond ((t && not (past m.lowest)) && m.known a) (Some (m.balance a)) None
  unfolding over
  new_over true a = rw (zero, +ℤ_idr (m.balance a), if_inside (m.balance a) (within a))
  new_over false a = refl

  new_total : (a : ℕ) → layer_balances m rows a ≡ cond ((on_list list a && not (past m.lowest)) && m.known a) (Some (m.balance a)) None
  new_total a = rw (each a) (new_over (on_list list a) a)

  some_cond : (t : Bool) (z : ℤ) → is_some (cond t (Some z) None) ≡ t
  some_cond true z = refl
  some_cond false z = refl

  value_cond : (t : Bool) (z : ℤ) → unwrap_or (cond t (Some z) None) (pos 0) ≡ cond (is_some (cond t (Some z) None)) z (pos 0)
  value_cond true z = refl
  value_cond false z = refl

  pub new_layer : NewLayer m list (layer m rows)
  new_layer = record {
    known = λ a. ap is_some (new_total a) ∙ some_cond _ (m.balance a);
    balance = λ a. rw (new_total a) (value_cond _ (m.balance a));
    capacity = refl;
    lowest = refl;
    highest = refl;
  }
