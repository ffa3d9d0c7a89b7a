use Rattle.std.proofs.Common.{arith}
use Rattle.std.proofs.lemmas.Result.{err_from_is_err_and}
use Rattle.faults.proofs.Rows.{verdict_passed, verdict_failed}
use Rattle.settlement.proofs.Passing.{owed_among, units_among, unknown_among}
use Rattle.settlement.proofs.checking.check_payments.Goals as goal

pub returns-in_err-check_known : goal.returns-in_err-check_known
returns-in_err-check_known g c = grind (arith, unknown_among, verdict_failed, err_from_is_err_and)

pub returns-in_err-check_units : goal.returns-in_err-check_units
returns-in_err-check_units g c = grind (arith, units_among, verdict_passed, verdict_failed, err_from_is_err_and)

pub returns-in_err-check_range : goal.returns-in_err-check_range
returns-in_err-check_range g c = grind (arith, owed_among, verdict_passed, verdict_failed, err_from_is_err_and)
