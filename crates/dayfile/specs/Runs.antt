-- A run over a day file, item by item.
use Rattle.std.specs.Prelude.{◌≡◌, ℕ, ◌+◌, ◌-◌, ◌/◌, true, false, ◌⊎◌, List, ◌++◌, length, is_some, Some, None, Ok, Err, Option, Result}
use Rattle.contract.specs.declared.calls.Answer.{Answer}
use Rattle.contract.specs.declared.calls.Call.{Call}
use Rattle.contract.specs.declared.calls.Call.TheVariants as call
use Rattle.contract.specs.declared.figures.Figures.{Figures}
use Rattle.contract.specs.Step.{Step}
use Rattle.balances.specs.Accounts.{listed}
use Rattle.balances.specs.Lists.{add_new}
use Rattle.dayfile.specs.Accounts.{account_checks}
use Rattle.dayfile.specs.declared.runs.Day.{Day}
use Rattle.dayfile.specs.declared.file_fault.Cause.{Cause}
use Rattle.dayfile.specs.declared.file_fault.Cause.TheVariants as cause
use Rattle.dayfile.specs.declared.file_fault.FileFault.{FileFault}
use Rattle.dayfile.specs.declared.lines.Line.{Line}
use Rattle.dayfile.specs.declared.lines.Line.TheVariants.{Close}
use Rattle.dayfile.specs.declared.reader.Item.{Item}
use Rattle.dayfile.specs.declared.reader.Item.TheVariants as item
use Rattle.dayfile.specs.declared.reader.Placed.{Placed}
use Rattle.dayfile.specs.declared.words.Read.{Read}
use Rattle.dayfile.specs.Words.{item_at, of_length, wrong_length}
use Rattle.faults.specs.Checks.{first_fault}
use Rattle.faults.specs.declared.Fault.{Fault}
use Rattle.std.specs.Option.{option_to_list}

-- what a run changes: the contract's figures, the accounts noted, and the lines of the sheet
pub record State : Type 0 where
  pub figures : Figures
  pub accounts : List ℕ
  pub lines : List Line

abbrev pub state : Figures → List ℕ → List Line → State
state f accounts lines = record { figures = f; accounts = accounts; lines = lines }

abbrev pub state_of : Day → State
state_of d = state d.contract.figures (listed d.accounts) d.lines.items

abbrev pub Unchanged : State → State → Type 0
Unchanged s s' = (s'.figures ≡ s.figures) × (s'.accounts ≡ s.accounts) × (s'.lines ≡ s.lines)

-- the line of an accepted call, with the figures after it: a close has the day from 0, F and A
abbrev pub line_of : Call → Figures → Option Line
line_of (call.List Ne k0) f = None
line_of (call.Open DF) f = None
line_of (call.Trade buyer seller vega tick) f = None
line_of (call.Bust ticket) f = None
line_of (call.Close value bid offer) f = Some (Close (f.closes - 1) f.price f.accumulated)
line_of (call.Accrue rate) f = None
line_of (call.Settle value) f = None

-- ---- one item, from the state s to s'

-- an account is noted, unless a check fails
abbrev pub Notes : Option Fault → State → ℕ → Result Unit Cause → State → Type 0
Notes None s account r s' = (r ≡ Ok tt) × (s'.figures ≡ s.figures) × (s'.accounts ≡ add_new s.accounts account) × (s'.lines ≡ s.lines)
Notes (Some fault) s account r s' = (r ≡ Err (cause.Account fault)) × Unchanged s s'

-- a call is the contract's step; an accepted one adds its line
abbrev pub Calls : State → Call → Result Unit Cause → State → Type 0
Calls s c (Ok x) s' = (a : Answer) × Step s.figures c (Ok a) s'.figures × (s'.accounts ≡ s.accounts) × (s'.lines ≡ s.lines ++ option_to_list (line_of c s'.figures))
Calls s c (Err (cause.File refusal)) s' = ⊥
Calls s c (Err (cause.Account fault)) s' = ⊥
Calls s c (Err (cause.Call fault)) s' = Step s.figures c (Err fault) s'.figures × (s'.accounts ≡ s.accounts) × (s'.lines ≡ s.lines)
-- the call was accepted and its line found no memory
Calls s c (Err cause.Memory) s' = (a : Answer) × Step s.figures c (Ok a) s'.figures × (s'.accounts ≡ s.accounts) × (s'.lines ≡ s.lines) × (is_some (line_of c s'.figures) ≡ true)

abbrev pub Acts : State → Item → Result Unit Cause → State → Type 0
Acts s (item.Account account) r s' = Notes (first_fault (account_checks s.figures.phase s.accounts account)) s account r s'
Acts s (item.Call c) r s' = Calls s c r s'

-- a fault has the place of its item
abbrev pub Serves : State → Placed → Result Unit FileFault → State → Type 0
Serves s p (Ok x) s' = Acts s p.item (Ok x) s'
Serves s p (Err f) s' = (f.place ≡ p.place) × Acts s p.item (Err f.cause) s'

-- ---- the whole file

-- from the first word to a place: every item before it was read and accepted
pub data Runs (bytes : List ℕ) (start : State) : ℕ → State → Type 0 where
  begin : {s : State} → Unchanged start s → Runs bytes start 0 s
  onward : {place : ℕ} {s s' : State} (r : Read)
      → Runs bytes start place s → item_at bytes place ≡ Ok r → Acts s r.item (Ok tt) s'
      → Runs bytes start (place + r.words) s'

-- the first item that is not read or not accepted ends the run
pub record Stops (bytes : List ℕ) (start : State) (f : FileFault) (s' : State) : Type 0 where
  pub place : ℕ
  pub s : State
  pub reached : Runs bytes start place s
  pub why : ((item_at bytes place ≡ Err f) × Unchanged s s')
      ⊎ ((r : Read) × (item_at bytes place ≡ Ok r) × (f.place ≡ place) × Acts s r.item (Err f.cause) s')

-- a file of a wrong length is not begun; any other is run to its end or to where it stops
abbrev pub Finished : List ℕ → State → Result Unit FileFault → State → Type 0
Finished bytes start (Ok x) s' = (of_length (length bytes) ≡ true) × Runs bytes start (length bytes / 4) s'
Finished bytes start (Err f) s' = ((of_length (length bytes) ≡ false) × (f ≡ wrong_length) × Unchanged start s') ⊎ ((of_length (length bytes) ≡ true) × Stops bytes start f s')
