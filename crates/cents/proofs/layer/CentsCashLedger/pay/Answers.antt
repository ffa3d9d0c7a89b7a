use Rattle.std.proofs.Common.{is_some, sym, refl, ap, ◌∙◌, w64, SFits, rules}
use Rattle.std.specs.Option.{option_map}
use Rattle.std.proofs.lemmas.Result.{err_from_is_err_and}
use Rattle.faults.proofs.Rows.{clash, verdict_failed}
use Rattle.ledger.specs.Meaning.{meaning}
use Rattle.ledger.proofs.Money.{fits_within, reaches_amount}
use Rattle.ledger.proofs.Refused.{same_self, unknown_refused}
use Rattle.balances.proofs.Lookup.{kept_back}
use Rattle.cents.proofs.Layers.{layer_fault, layer_raised, layer_sent, layer_taken, sent_few, sent_open, sent_shown, sum_fits, sum_shown, told, total_none, total_over}
use Rattle.cents.proofs.layer.CentsCashLedger.pay.Goals as goal

pub returns-in_err-rest-clause-pays : goal.returns-in_err-rest-clause-pays
returns-in_err-rest-clause-pays g c =
    let s = c.args.self.now in
    let p = err_from_is_err_and c.from_residual.result c.from_residual.ensures.1 in
    let w = c.in_err-rest.ensures in
    let none = rw w.ok_part at (sym c.find_mut.ensures.value) in
    let fault = rw (w.ok_part, c.at-unknown.ensures) at w.value in
    rw (p.1, p.2) (unknown_refused _ _ _ (ap is_some (total_none (meaning g.L.BalanceReader.balances g.L.CashLedger.terms s.below) s.rests.rows.items c.args.account none)) ∙ cc, same_self _)

pub returns-in_err-balance : goal.returns-in_err-balance
returns-in_err-balance g c =
    let r = c.in_ok-rest.rest.now in
    let stays = sym c.find_mut.ensures.value ∙ ap (option_map (λ q. q.now)) c.in_ok-rest.ensures.ok_part in
    let p = err_from_is_err_and c.from_residual-in_err-balance.result c.from_residual-in_err-balance.ensures.1 in
    let w = c.in_err-balance.ensures in
    let none = sym c.balance_over.ensures ∙ w.ok_part in
    let fault = rw (w.ok_part, c.at-unknown.ensures) at w.value in
    rw (p.1, p.2, kept_back _ _ r r stays) (record { pays = (unknown_refused _ _ _ (ap is_some (total_over _ _ _ r stays ∙ none)) ∙ cc, same_self _); sends = (same_self _, refl) })

pub returns-in_err-check : goal.returns-in_err-check
returns-in_err-check g c =
    let r = c.in_ok-rest.rest.now in
    let b = c.in_ok-balance.balance in
    let stays = sym c.find_mut.ensures.value ∙ ap (option_map (λ q. q.now)) c.in_ok-rest.ensures.ok_part in
    let e = sym c.balance_over.ensures ∙ c.in_ok-balance.ensures.ok_part in
    let p = err_from_is_err_and c.from_residual-in_err-check.result c.from_residual-in_err-check.ensures.1 in
    let f = rw (c.terms-terms.ensures, reaches_amount _ _ b c.args.amount (fits_within _ (told _ _ r b e).within) c.ranges.amount) at c.in_err-check.ensures in
    rw (p.1, p.2, kept_back _ _ r r stays) (record { pays = (layer_fault _ _ _ r stays _ b e ∙ verdict_failed tt _ _ (sym f), same_self _); sends = (same_self _, refl) })

pub overflow_add-amount : goal.overflow_add-amount
overflow_add-amount g c =
    let r = c.in_ok-rest.rest.now in
    let b = c.in_ok-balance.balance in
    let e = sym c.balance_over.ensures ∙ c.in_ok-balance.ensures.ok_part in
    let t = layer_taken _ _ _ _ r b _ _ e (g.L.CashLedger.bounded.lowest _) (g.L.CashLedger.bounded.highest _) c.ranges.amount c.terms-terms.ensures c.in_ok-check.ensures in
    rw c.from.ensures (sum_fits _ _ r b _ e t)

pub pay_cents-requires : goal.pay_cents-requires
pay_cents-requires g c =
    let r = c.in_ok-rest.rest.now in
    let b = c.in_ok-balance.balance in
    let e = sym c.balance_over.ensures ∙ c.in_ok-balance.ensures.ok_part in
    let t = layer_taken _ _ _ _ r b _ _ e (g.L.CashLedger.bounded.lowest _) (g.L.CashLedger.bounded.highest _) c.ranges.amount c.terms-terms.ensures c.in_ok-check.ensures in
    let fits : SFits w64 c.split-cents.result.0 = search rules in
    let sent = sent_shown _ _ r b _ e t c.split-cents.result.0 fits (rw c.from.ensures at c.split-cents.ensures.cents) in
    rw sent (sent_few _ _ r b _ e t)

pub returns-in_err-pay_cents : goal.returns-in_err-pay_cents
returns-in_err-pay_cents g c =
    let r = c.in_ok-rest.rest.now in
    let b = c.in_ok-balance.balance in
    let e = sym c.balance_over.ensures ∙ c.in_ok-balance.ensures.ok_part in
    let t = layer_taken _ _ _ _ r b _ _ e (g.L.CashLedger.bounded.lowest _) (g.L.CashLedger.bounded.highest _) c.ranges.amount c.terms-terms.ensures c.in_ok-check.ensures in
    let fits : SFits w64 c.split-cents.result.0 = search rules in
    let sent = sent_shown _ _ r b _ e t c.split-cents.result.0 fits (rw c.from.ensures at c.split-cents.ensures.cents) in
    clash _ _ (sent_open _ _ r b _ e t) (rw sent at c.in_err-pay_cents.ensures)

pub returns : goal.returns
returns g c =
    let r = c.in_ok-rest.rest.now in
    let b = c.in_ok-balance.balance in
    let stays = sym c.find_mut.ensures.value ∙ ap (option_map (λ q. q.now)) c.in_ok-rest.ensures.ok_part in
    let e = sym c.balance_over.ensures ∙ c.in_ok-balance.ensures.ok_part in
    let t = layer_taken _ _ _ _ r b _ _ e (g.L.CashLedger.bounded.lowest _) (g.L.CashLedger.bounded.highest _) c.ranges.amount c.terms-terms.ensures c.in_ok-check.ensures in
    let fits : SFits w64 c.split-cents.result.0 = search rules in
    let sent = sent_shown _ _ r b _ e t c.split-cents.result.0 fits (rw c.from.ensures at c.split-cents.ensures.cents) in
    let below = rw sent at c.in_ok-pay_cents.ensures in
    let left = rw (c.from.ensures, sum_shown _ _ r b _ e t) at c.split-cents.ensures.rest in
    record {
      pays = (layer_fault _ _ _ r stays _ b e ∙ t.passes, layer_raised _ _ r b _ e t _ stays _ _ below left);
      sends = layer_sent _ _ r b _ e t _ stays _ _ below left;
    }
