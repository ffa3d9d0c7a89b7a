use Rattle.std.proofs.Common.{map, Some, sym, ap, ◌∙◌}
use Rattle.std.proofs.lemmas.List.{take_all}
use Rattle.std.proofs.lemmas.Result.{err_from_is_err_and}
use Rattle.faults.specs.Checks.{Check, first_fault, verdict}
use Rattle.faults.proofs.Rows.{map_more, map_fails}
use Rattle.settlement.proofs.checking.check_each.Goals as goal

pub returns-in_err-require : goal.returns-in_err-require
returns-in_err-require g c = λ f tests.
    let e = err_from_is_err_and c.from_residual.result c.from_residual.ensures.1 in
    let r = c.in_err-require.ensures in
    let is = tests _ _ c.passes.ensures in
    let failed = ap (λ (k : Check). k.passes) is ∙ r.0 in
    rw (e.1, e.2, r.1, c.at.ensures) (ap (verdict tt) (sym (map_fails f _ c.loop-record.record-index _ c.loop-record-test.true (c.loop-record.invariant f tests) failed ∙ ap (λ (k : Check). Some k.fault) is)))

pub loop-record-preserved : goal.loop-record-preserved
loop-record-preserved g c = λ f tests.
    map_more f _ c.loop-record.record-index _ c.loop-record-test.true (c.loop-record.invariant f tests) (ap (λ (k : Check). k.passes) (tests _ _ c.passes.ensures) ∙ c.in_ok-require.ensures)

pub returns : goal.returns
returns g c = λ f tests.
    ap (verdict tt) (sym (ap (λ q. first_fault (map f q)) (sym (take_all c.loop-record.record-index c.args.records.now c.loop-record-test.false)) ∙ c.loop-record.invariant f tests))
