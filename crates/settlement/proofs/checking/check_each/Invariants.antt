use Rattle.std.proofs.Common.{◌≡◌, Bool, map, take, None}
use Rattle.faults.specs.Checks.{Check, check, first_fault}
use Rattle.table.specs.declared.keyed.Keyed.{Keyed}
use Rattle.positions.specs.declared.records.Account.{Account}
use Rattle.settlement.proofs.checking.check_each.Given as goal

abbrev pub invariant-loop-record : goal.invariant-loop-record
invariant-loop-record g l = (f : Keyed Account → Check) → ((x : Keyed Account) (b : Bool) → goal.F-post g l.passes x b → f x ≡ check b l.refusal x.key) → first_fault (map f (take l.record-index l.records)) ≡ None
