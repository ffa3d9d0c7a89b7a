use Rattle.std.proofs.Common.{rules}
use Rattle.contract.proofs.Refusing.{named}
use Rattle.contract.proofs.contract.Contract.step.Goals as goal

pub returns : goal.returns
returns c = named _ _ _ _ c.args.call _ _ (λ e x h. search rules) c.apply.ensures c.map_err.ensures.cases
