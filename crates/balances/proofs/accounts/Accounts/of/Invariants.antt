use Rattle.std.proofs.Common.{◌≡◌, take}
use Rattle.balances.specs.Accounts.{listed}
use Rattle.balances.specs.Lists.{different}
use Rattle.balances.proofs.accounts.Accounts.of.Given as goal

abbrev pub invariant-loop-account : goal.invariant-loop-account
invariant-loop-account l = listed l.accounts ≡ different (take l.account-index l.list)
