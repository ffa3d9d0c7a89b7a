-- The return from an index value a to the next value b, and its square.
use Rattle.std.specs.Prelude.{ℕ, ◌+◌, ◌-◌, ◌*◌, Bool, ◌&&◌, nat_le}
use Rattle.prices.specs.Rounding.{down}

-- whether b is admitted after a: neither is above 4/3 of the other
abbrev pub admitted : ℕ → ℕ → Bool
admitted a b = nat_le (3 * b) (4 * a) && nat_le (3 * a) (4 * b)

-- d, how far two values lie apart
abbrev pub distance : ℕ → ℕ → ℕ
distance a b = (a - b) + (b - a)

-- z = d / s, to ten places
abbrev pub ratio : ℕ → ℕ → ℕ
ratio d s = down (d * 10000000000) s

-- the product of two numbers of ten places, to ten places
abbrev pub product : ℕ → ℕ → ℕ
product x y = down (x * y) 10000000000

-- twice the sum of the first five odd powers of z, each over its exponent; w is the square of z, and c1 to c4 are the powers 3, 5, 7 and 9
abbrev pub series : ℕ → ℕ → ℕ
series z w =
    let c1 : ℕ = product z w in
    let c2 : ℕ = product c1 w in
    let c3 : ℕ = product c2 w in
    let c4 : ℕ = product c3 w in
    2 * (z + down c1 3 + down c2 5 + down c3 7 + down c4 9)

-- R of a distance d and a sum s
abbrev pub return_by : ℕ → ℕ → ℕ
return_by d s = series (ratio d s) (product (ratio d s) (ratio d s))

-- R, the size of the return from a to b, in units of 10^-10
abbrev pub return_of : ℕ → ℕ → ℕ
return_of a b = return_by (distance a b) (a + b)

-- U, the square of a return R, in units of 10^-12
abbrev pub square_of : ℕ → ℕ
square_of R = down (R * R) 100000000
