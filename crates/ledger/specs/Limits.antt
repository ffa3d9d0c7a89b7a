-- The limits of payments and balances, and which account numbers are admitted. Money is in ten-thousandths of a dollar.
use Rattle.std.specs.Prelude.{ℕ, ◌≤◌, Bool, ◌&&◌, ℤ, ◌+ℤ◌, int_le, nat_le, unsigned_abs}
use Rattle.quantities.specs.Limits.{is_account_number}

-- in either direction
abbrev pub largest_payment : ℕ
largest_payment = 4000000000000000000

-- above or below zero
abbrev pub farthest_balance : ℕ
farthest_balance = 9000000000000000000

-- an account number that 4 does not refuse
abbrev pub admitted : ℕ → Bool
admitted account = is_account_number account

-- a size of n at most
abbrev pub inside : ℕ → ℤ → Bool
inside n z = nat_le (unsigned_abs z) n

abbrev pub is_zero : ℤ → Bool
is_zero z = inside 0 z

abbrev pub Within : ℤ → Type 0
Within z = unsigned_abs z ≤ farthest_balance

-- the amount is small enough, and the new balance lies from lowest to highest
unfoldable pub reaches : ℤ → ℤ → ℤ → ℤ → Bool
reaches lowest highest balance amount =
    (inside largest_payment amount && int_le lowest (balance +ℤ amount)) && int_le (balance +ℤ amount) highest
