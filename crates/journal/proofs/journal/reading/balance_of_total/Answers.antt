use Rattle.std.proofs.Common.{arith}
use Rattle.std.proofs.lemmas.Int.{to_z-of_z, ints}
use Rattle.std.proofs.lemmas.Bool.Decides.{nat_tests}
use Rattle.std.proofs.lemmas.Grind.{common_steps}
use Rattle.ledger.specs.Totals.{if_within}
use Rattle.journal.proofs.journal.reading.balance_of_total.Goals as goal

pub returns-in_err-balance : goal.returns-in_err-balance
unfolding if_within
returns-in_err-balance c = grind (arith, ints, nat_tests, to_z-of_z, common_steps)

pub returns : goal.returns
unfolding if_within
returns c = grind (arith, ints, nat_tests, to_z-of_z, common_steps)
