use Rattle.std.proofs.Common.{◌≡◌, ◌-◌, ◌/◌, ◌≤◌, length}
use Rattle.dayfile.proofs.runs.Day.run.Given as goal
use Rattle.dayfile.specs.Runs.{Runs, state_of}

-- the file is of a right length, and every item before the reader's place was accepted
abbrev pub invariant-loop-placed : goal.invariant-loop-placed
invariant-loop-placed l =
    (l.reader.bytes.now ≡ l.bytes)
    × (l.reader.place ≤ length l.bytes / 4)
    × Runs l.bytes (state_of l.initial.self) l.reader.place (state_of l.self)

abbrev pub decreases-loop-placed : goal.decreases-loop-placed
decreases-loop-placed l = length l.bytes / 4 - l.reader.place
