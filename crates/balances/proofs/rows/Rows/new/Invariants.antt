use Rattle.std.proofs.Common.{◌≡◌, map, take}
use Rattle.balances.proofs.rows.Rows.new.Given as goal

abbrev pub invariant-loop-account : goal.invariant-loop-account
invariant-loop-account g l = l.rows.items ≡ map (λ a. record { account = a; value = l.value }) (take l.account-index l.account-items)
