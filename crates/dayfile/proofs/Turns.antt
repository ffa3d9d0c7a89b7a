-- What a turn of the reader tells of the file, and what it adds to a run.
use Rattle.std.proofs.Common.{◌≡◌, ℕ, ◌+◌, ◌/◌, ◌<◌, ◌≤◌, Bool, true, false, cond, ltb, List, length, Some, None, Ok, Err, Option, Result, sym, refl, ap, ◌∙◌, subst, inl, inr, arith, ltb-false, ltb-true}
use Rattle.dayfile.specs.declared.file_fault.FileFault.{FileFault}
use Rattle.dayfile.specs.declared.reader.Item.{Item}
use Rattle.dayfile.specs.declared.reader.Placed.{Placed}
use Rattle.dayfile.specs.declared.words.Read.{Read}
use Rattle.dayfile.specs.Runs.{State, Unchanged, Runs, begin, onward, Acts, Serves, Stops}
use Rattle.dayfile.specs.Words.{word, kind, starts, of_single, of_double, item_at, placed, next_at, moved, place_after}

-- ---- an item takes a word or more, and none past the last

abbrev Ends : ℕ → ℕ → Result Read FileFault → Type 0
Ends words i (Ok r) = (1 ≤ r.words) × (i + r.words ≤ words)
Ends words i (Err f) = Unit {0}

either_way : (words i : ℕ) (b : Bool) (x y : Result Read FileFault) → (b ≡ true → Ends words i x) → Ends words i y → Ends words i (cond b x y)
either_way words i true x y p q = p refl
either_way words i false x y p q = q

single_ends : (words i : ℕ) (o : Option Item) → i < words → Ends words i (of_single i o)
single_ends words i None h = tt
single_ends words i (Some item) h = (omega arith, omega arith)

double_ends : (words i : ℕ) (o : Result Item ℕ) → i + 1 < words → Ends words i (of_double i o)
double_ends words i (Ok item) h = (omega arith, omega arith)
double_ends words i (Err offset) h = tt

item_ends : (bytes : List ℕ) (i : ℕ) → i < length bytes / 4 → Ends (length bytes / 4) i (item_at bytes i)
item_ends bytes i h =
    either_way (length bytes / 4) i (starts (kind (word bytes i))) _ _
    (λ e. either_way (length bytes / 4) i (ltb (i + 1) (length bytes / 4)) _ _ (λ t. double_ends (length bytes / 4) i _ (ltb-true _ _ t)) tt)
    (single_ends (length bytes / 4) i _ h)

-- ---- one turn of the reader

-- p was read at the place i, and the reader moved on to j
pub record Turned (bytes : List ℕ) (i : ℕ) (p : Placed) (j : ℕ) : Type 0 where
  pub r : Read
  pub read : item_at bytes i ≡ Ok r
  pub place : p.place ≡ i
  pub item : p.item ≡ r.item
  pub on : j ≡ i + r.words
  pub later : i < j
  pub within : j ≤ length bytes / 4

turn_by : (bytes : List ℕ) (i : ℕ) (b : Bool) (x : Result Read FileFault) (p : Placed)
    → item_at bytes i ≡ x → (b ≡ true → Ends (length bytes / 4) i x)
    → cond b (placed i x) (Ok None) ≡ Ok (Some p) → Turned bytes i p (cond b (moved i x) i)
turn_by bytes i true (Ok r) p e k h =
    let q : record { place = i; item = r.item } ≡ p = cc in
    let w = k refl in
    record { r = r; read = e; place = sym (ap (λ (x : Placed). x.place) q); item = sym (ap (λ (x : Placed). x.item) q); on = refl; later = omega (arith, w.0); within = w.1 }
turn_by bytes i true (Err f) p e k h = let z : ◌≡◌ {A = ℕ} 0 1 = cc in let no : ⊥ = omega arith in absurd no
turn_by bytes i false x p e k h = let z : ◌≡◌ {A = ℕ} 0 1 = cc in let no : ⊥ = omega arith in absurd no

turn : (bytes : List ℕ) (i : ℕ) (p : Placed) → next_at bytes i ≡ Ok (Some p) → Turned bytes i p (place_after bytes i)
turn bytes i p h = turn_by bytes i _ _ p refl (λ t. item_ends bytes i (ltb-true _ _ t)) h

unread_by : (i : ℕ) (b : Bool) (x : Result Read FileFault) (f : FileFault) → cond b (placed i x) (Ok None) ≡ Err f → x ≡ Err f
unread_by i true (Ok r) f h = let z : ◌≡◌ {A = ℕ} 0 1 = cc in let no : ⊥ = omega arith in absurd no
unread_by i true (Err e) f h = cc
unread_by i false x f h = let z : ◌≡◌ {A = ℕ} 0 1 = cc in let no : ⊥ = omega arith in absurd no

ended_by : (words i : ℕ) (b : Bool) (x : Result Read FileFault) → ltb i words ≡ b → cond b (placed i x) (Ok None) ≡ Ok None → words ≤ i
ended_by words i true (Ok r) e h = let z : ◌≡◌ {A = ℕ} 0 1 = cc in let no : ⊥ = omega arith in absurd no
ended_by words i true (Err f) e h = let z : ◌≡◌ {A = ℕ} 0 1 = cc in let no : ⊥ = omega arith in absurd no
ended_by words i false x e h = ltb-false _ _ e

-- the same, from what a call of the reader ensures: it holds its own bytes, which are the file's
module _ (bytes own : List ℕ) (i : ℕ) (r : Result (Option Placed) FileFault) (same : own ≡ bytes) (answer : r ≡ next_at own i) where
  pub turned : (j : ℕ) (o : Option Placed) (p : Placed) → r ≡ Ok o → o ≡ Some p → j ≡ place_after own i → Turned bytes i p j
  turned j o p k m n =
      let q : next_at bytes i ≡ Ok (Some p) = cc in
      let s : place_after bytes i ≡ j = cc in
      subst (λ (x : ℕ). Turned bytes i p x) s (turn bytes i p q)

  pub unread : (f : FileFault) → r ≡ Err f → item_at bytes i ≡ Err f
  unread f k = let q : next_at bytes i ≡ Err f = cc in unread_by i _ (item_at bytes i) f q

  pub ended : (o : Option Placed) → r ≡ Ok o → o ≡ None → length bytes / 4 ≤ i
  ended o k m = let q : next_at bytes i ≡ Ok None = cc in ended_by (length bytes / 4) i _ (item_at bytes i) refl q

-- ---- runs

pub unchanged : (s : State) → Unchanged s s
unchanged s = (refl, refl, refl)

pub at_start : (bytes : List ℕ) (s : State) (i : ℕ) → i ≡ 0 → Runs bytes s i s
at_start bytes s i e = subst (λ (n : ℕ). Runs bytes s n s) (sym e) (begin (unchanged s))

module _ (bytes : List ℕ) (start : State) (i : ℕ) (s : State) (run : Runs bytes start i s) where
  pub again : (p : Placed) (j : ℕ) (s' : State) → Turned bytes i p j → Serves s p (Ok tt) s' → Runs bytes start j s'
  again p j s' t o =
      subst (λ (n : ℕ). Runs bytes start n s') (sym t.on)
      (onward t.r run t.read (subst (λ (x : Item). Acts s x (Ok tt) s') t.item o))

  pub at_end : length bytes / 4 ≤ i → i ≤ length bytes / 4 → Runs bytes start (length bytes / 4) s
  at_end h k = let e : i ≡ length bytes / 4 = omega arith in subst (λ (n : ℕ). Runs bytes start n s) e run

  pub stops_unread : (f : FileFault) → item_at bytes i ≡ Err f → Stops bytes start f s
  stops_unread f h = record { place = i; s = s; reached = run; why = inl (h, unchanged s) }

  pub stops_refused : (p : Placed) (j : ℕ) (f : FileFault) (s' : State) → Turned bytes i p j → Serves s p (Err f) s' → Stops bytes start f s'
  stops_refused p j f s' t o =
      record {
        place = i;
        s = s;
        reached = run;
        why = inr (t.r, t.read, o.0 ∙ t.place, subst (λ (x : Item). Acts s x (Err f.cause) s') t.item o.1);
      }
