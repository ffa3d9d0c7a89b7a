-- Lines in words: what is written reads back, and nothing else changes.
use Rattle.std.proofs.Common.{◌≡◌, ℕ, zero, suc, ◌+◌, ◌*◌, ◌/◌, ◌%◌, ◌<◌, ◌≤◌, List, [], ◌∷◌, ◌++◌, map, length, take, drop, ℤ, sym, refl, ap, ap₂, ◌∙◌, add-one, arith, w64, SFits, to_z}
use Rattle.std.proofs.Math.Facts.{Fits-of_z}
use Rattle.std.proofs.Math.Seq.{take-append_seam}
use Rattle.std.proofs.lemmas.List.{map-append}
use Rattle.std.proofs.lemmas.List.Edits.{length-paste, drop-paste}
use Rattle.std.proofs.lemmas.Int.{to_z-of_z}
use Rattle.std.specs.Simd.{first_chunks}
use Rattle.ledger.specs.declared.payment.Payment.{Payment}
use Rattle.journal.specs.Lines.{bits_of, lines_in, part, parts, payment_in, word, words_of, written}

-- ---- lists in fours

pub take_chunks : {X : Type 0} (n k m : ℕ) (xs : List X) → k ≤ m → take k (first_chunks n m xs) ≡ first_chunks n k xs
take_chunks n zero m xs h = refl
take_chunks n (suc k) zero xs h = absurd (omega arith)
take_chunks n (suc k) (suc m) xs h = ap (λ q. take n xs ∷ q) (take_chunks n k m (drop n xs) (omega arith))

-- a line after the first k
one_more : (k : ℕ) (xs ys zs : List ℕ) → length ys ≡ 4 → 4 * k ≤ length xs → first_chunks 4 (suc k) (take (4 * k) xs ++ ys ++ zs) ≡ first_chunks 4 k xs ++ (ys ∷ [])
one_more zero xs ys zs e h = ap (λ n. take n (ys ++ zs) ∷ []) (sym e) ∙ ap (λ q. q ∷ []) (take-append_seam ys zs)
one_more (suc k) (p ∷ q ∷ r ∷ s ∷ xs) ys zs e h =
    let n : 4 * suc k ≡ suc (suc (suc (suc (4 * k)))) = omega arith in
    rw n (ap (λ l. (p ∷ q ∷ r ∷ s ∷ []) ∷ l) (one_more k xs ys zs e (omega arith)))
one_more (suc k) [] ys zs e h = absurd (omega arith)
one_more (suc k) (p ∷ []) ys zs e h = absurd (omega arith)
one_more (suc k) (p ∷ q ∷ []) ys zs e h = absurd (omega arith)
one_more (suc k) (p ∷ q ∷ r ∷ []) ys zs e h = absurd (omega arith)

-- ---- a payment in a line

-- 8, 28 and 28 bits make 64 again
joined : (u : ℕ) → u < 18446744073709551616 → (word 2 (u / parts / parts) % 256 * parts + part (word 3 (part (u / parts)))) * parts + part (word 4 (part u)) ≡ u
joined u h = omega arith

pub payment_back : (p : Payment) → p.account < parts → SFits w64 p.amount → payment_in (words_of p) ≡ p
payment_back p small fits =
    let line : ℕ → ℤ → Payment = λ a x. record { account = a; amount = x } in
    let a : part (word 1 p.account) ≡ p.account = omega arith in
    ap₂ line a (ap (to_z w64) (joined (bits_of p.amount) (Fits-of_z fits).fits) ∙ to_z-of_z w64 p.amount fits)

-- ---- a line more

module _ (ws : List ℕ) (n : ℕ) (p : Payment) (room : n < length ws / 4) where
  wide : 4 * n + 4 ≤ length ws
  wide = omega arith

  pub length-written : length (written ws n p) ≡ length ws
  length-written = length-paste ws (4 * n) (words_of p) 4 wide (omega arith)

  pub past_written : drop (4 * (n + 1)) (written ws n p) ≡ drop (4 * (n + 1)) ws
  past_written =
      let e : 4 * (n + 1) ≡ 4 * n + 4 = omega arith in
      rw e (drop-paste ws (4 * n) (words_of p) 4 (omega (arith, wide)) (omega arith))

  pub lines_written : p.account < parts → SFits w64 p.amount → lines_in (written ws n p) (n + 1) ≡ lines_in ws n ++ (p ∷ [])
  lines_written small fits =
      ap (lines_in (written ws n p)) (add-one n) ∙ ap (map payment_in) (one_more n ws (words_of p) (drop (4 * n + 4) ws) refl (omega (arith, wide)))
      ∙ map-append payment_in (first_chunks 4 n ws) (words_of p ∷ [])
      ∙ ap (λ q. lines_in ws n ++ (q ∷ [])) (payment_back p small fits)
