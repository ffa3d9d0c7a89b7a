-- The limits of a day file.
use Rattle.std.specs.Prelude.{ℕ}

-- in bytes
abbrev pub longest_file : ℕ
longest_file = 65536
