use Rattle.std.proofs.lemmas.Result.{err_from_is_err_and}
use Rattle.contract.proofs.Refusing.{input_refused, input_passed}
use Rattle.contract.proofs.contract.Contract.apply.Goals as goal

pub returns-in_err-checked : goal.returns-in_err-checked
returns-in_err-checked c =
    let p = err_from_is_err_and c.from_residual.result c.from_residual.ensures.1 in
    rw (p.1, p.2) (input_refused _ c.args.call _ c.in_err-checked.ensures)

pub returns : goal.returns
returns c = input_passed _ _ c.args.call _ _ c.in_ok-checked.ensures.0 c.in_ok-checked.ensures.1 c.serve.ensures
