use Rattle.std.proofs.Common.{arith}
use Rattle.std.proofs.lemmas.Bool.Decides.{nat_tests}
use Rattle.table.specs.View.{records}
use Rattle.table.proofs.Laws.{holds_put, length-put}
use Rattle.table_tests.proofs.check_accounts.Goals as goal

pub returns : goal.returns
returns c =
    let h = holds_put c.args.buyer c.args.seller.key (records c.args.accounts.now) in
    let l = length-put c.args.buyer (records c.args.accounts.now) in
    grind (arith, nat_tests)
