use Rattle.std.proofs.Common.{get_or, set, refl, ap, ◌∙◌, arith}
use Rattle.std.proofs.Math.Seq.{map-set_same}
use Rattle.std.proofs.lemmas.List.Edits.{map_over_more}
use Rattle.table.specs.Records.{key_of, revalued}
use Rattle.table.proofs.Values.{each_value_all}
use Rattle.table.proofs.ordered.writing.map_each.Goals as goal

pub loop-record-preserved : goal.loop-record-preserved
loop-record-preserved g c =
    let cur = c.loop-record.records in
    let i = c.loop-record.record-index in
    let d = c.record-item.result in
    let x = get_or cur i d in (
      map-set_same key_of cur i (record { key = x.key; value = c.f-record.result }) d refl ∙ c.loop-record.invariant.0,
      λ h computes. ap (λ v. set cur i (record { key = x.key; value = v })) (computes _ _ c.f-record.ensures)
          ∙ map_over_more (revalued h) c.args.records.now cur i x (omega arith) (c.loop-record.invariant.1 h computes) (ap (get_or cur i) c.record-item.is),
    )

pub returns-clause-values : goal.returns-clause-values
returns-clause-values g c = λ h computes. c.loop-record.invariant.1 h computes ∙ each_value_all h c.args.records.now c.loop-record.record-index (omega arith)
