use Rattle.std.proofs.Common.{◌≡◌, ◌++◌, map, take, drop}
use Rattle.table.specs.Records.{Computes, each_value, key_of}
use Rattle.table.proofs.ordered.writing.map_each.Given as goal

abbrev pub invariant-loop-record : goal.invariant-loop-record
invariant-loop-record g l =
    (map key_of l.records ≡ map key_of l.initial.records)
    × ((h : g.row.V.Denot → g.row.V.Denot) → Computes (goal.F-post g l.f) h
    → l.records ≡ each_value h (take l.record-index l.initial.records) ++ drop l.record-index l.initial.records)
