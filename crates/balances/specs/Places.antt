-- How many accounts a list holds, and rows a table.
use Rattle.std.specs.Prelude.{ℕ}

abbrev pub places : ℕ
places = 64
