use Rattle.std.proofs.Common.{◌∙◌}
use Rattle.std.proofs.lemmas.List.{take_all}
use Rattle.balances.proofs.Lookup.{kept_each}
use Rattle.balances.proofs.Listing.{on_list_of}
use Rattle.balances.proofs.rows.Rows.new.Goals as goal

pub returns : goal.returns
returns g c = λ a. rw (c.loop-account.invariant, take_all _ _ c.loop-account-test.false) (kept_each c.args.value _ a ∙ rw (c.numbers-account-items.ensures, c.unwrap_or-accounts.ensures, on_list_of c.args.list.now c.of.result c.new.result c.of.ensures c.new.ensures a))
