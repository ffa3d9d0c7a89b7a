use Rattle.std.proofs.Common.{◌≡◌, pos, ◌+ℤ◌, is_some, unwrap_or, sym, ap, ◌∙◌, subst, arith}
use Rattle.ledger.specs.Limits.{Within}
use Rattle.ledger.proofs.Money.{back}
use Rattle.cents.proofs.Layers.{over_told, past_told, too_low, unknown_below}
use Rattle.cents.proofs.Splits.{near_shown}
use Rattle.cents.proofs.layer.balance_over.Goals as goal

pub returns-then-lowest_balance-gt-HIGHEST_BALANCE : goal.returns-then-lowest_balance-gt-HIGHEST_BALANCE
returns-then-lowest_balance-gt-HIGHEST_BALANCE g c =
    let low : Within c.lowest_balance.result = rw c.lowest_balance.ensures (g.L.CashLedger.bounded.lowest c.args.below.now) in
    sym (too_low _ _ _ (past_told c.lowest_balance.result _ low c.lowest_balance.ensures ∙ c.if-lowest_balance-gt-HIGHEST_BALANCE.true))

pub returns-in_err-balance : goal.returns-in_err-balance
returns-in_err-balance g c = c.from_residual.ensures ∙ sym (unknown_below _ _ _ (ap is_some (sym c.in_err-balance.ensures)))

pub returns : goal.returns
returns g c =
    let b = c.in_ok-balance.field-0 in
    let rest = c.args.rest in
    let below = c.in_ok-balance.ensures in
    let low : Within c.lowest_balance.result = rw c.lowest_balance.ensures (g.L.CashLedger.bounded.lowest c.args.below.now) in
    let w : Within b = subst (λ o. Within (unwrap_or o (pos 0))) (sym below) (g.L.BalanceReader.sound.within c.args.below.now c.args.account) in
    let past = past_told c.lowest_balance.result _ low c.lowest_balance.ensures ∙ c.if-lowest_balance-gt-HIGHEST_BALANCE.false in
    let small = rest.small in
    let sum : back (back b +ℤ back c.from.result) ≡ b +ℤ pos rest.value = rw c.from.ensures (near_shown b rest.value w (omega arith)) in
    let told = over_told _ _ rest b past (ap is_some (sym below)) (ap (λ o. unwrap_or o (pos 0)) (sym below)) w in
    rw sum at c.then_some.ensures ∙ sym told
