-- What a number writes that is filled up with zeros.
use Rattle.std.proofs.Common.{◌≡◌, ℕ, zero, suc, false, eqb, length, append-nil, arith, ne_eqb}
use Rattle.std.proofs.Math.Nat.{sub-zero, zero-sub}
use Rattle.std.specs.Fmt.{decimal, styled_decimal, format_spec, padded_integral, char_count}
use Rattle.dayfile.specs.Texts.{zero_padded}

pub filled_with_zeros : (k n : ℕ) → styled_decimal (format_spec 32 0 4 k 18446744073709551615) n ≡ zero_padded k n
unfolding padded_integral char_count
filled_with_zeros zero n = rw (zero-sub (length (decimal n)))
filled_with_zeros (suc k) n =
    let e : eqb (suc k) 0 ≡ false = ne_eqb (suc k) 0 (λ q. omega arith) in
    simp (e, sub-zero, append-nil)
