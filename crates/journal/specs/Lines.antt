-- The payments in a journal's words, four words to a line.
use Rattle.std.specs.Prelude.{ℕ, ◌+◌, ◌*◌, ◌/◌, ◌%◌, List, [], ◌∷◌, ◌++◌, map, take, drop, ℤ, slice_index}
use Rattle.std.specs.Int.{w64}
use Rattle.std.specs.Simd.{first_chunks}
use Rattle.std.proofs.Common.{to_z, of_z}
use Rattle.ledger.specs.declared.payment.Payment.{Payment}

-- a word has its kind in the top four bits, and in the 28 below them one of so many parts
abbrev pub parts : ℕ
parts = 268435456

abbrev pub word : ℕ → ℕ → ℕ
word kind below = kind * parts + below

abbrev pub part : ℕ → ℕ
part w = w % parts

-- the 64 bits of an amount in two's complement, and the amount of 64 bits
abbrev pub bits_of : ℤ → ℕ
bits_of amount = of_z w64 amount

abbrev pub amount_of : ℕ → ℤ
amount_of bits = to_z w64 bits

-- the line of a payment: the account, then the amount's top 8, next 28 and last 28 bits
abbrev pub words_of : Payment → List ℕ
words_of p =
    word 1 p.account
    ∷ word 2 (bits_of p.amount / parts / parts)
    ∷ word 3 (part (bits_of p.amount / parts))
    ∷ word 4 (part (bits_of p.amount))
    ∷ []

-- the payment in the four words of a line
abbrev pub payment_in : List ℕ → Payment
payment_in line = record {
  account = part (slice_index line 0);
  amount = amount_of ((slice_index line 1 % 256 * parts + part (slice_index line 2)) * parts + part (slice_index line 3));
}

-- the payments in the first n lines of the words ws
abbrev pub lines_in : List ℕ → ℕ → List Payment
lines_in ws n = map payment_in (first_chunks 4 n ws)

-- the words ws with a payment in the line n
abbrev pub written : List ℕ → ℕ → Payment → List ℕ
written ws n p = take (4 * n) ws ++ words_of p ++ drop (4 * n + 4) ws
