use Rattle.std.proofs.Common.{◌≡◌, take, string_bytes}
use Rattle.std.specs.Prelude.{flat_map}
use Rattle.dayfile.specs.Texts.{line_text, on_a_line}
use Rattle.dayfile.proofs.runs.Day.sheet.Given as goal

abbrev pub invariant-loop-line : goal.invariant-loop-line
invariant-loop-line l = string_bytes l.sheet ≡ flat_map (λ line. on_a_line (line_text line)) (take l.line-index l.line-items)
