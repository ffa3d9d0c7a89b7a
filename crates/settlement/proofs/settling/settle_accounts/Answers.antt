use Rattle.std.proofs.Common.{sym, ap, ◌∙◌, rules}
use Rattle.faults.proofs.Rows.{verdict_passed}
use Rattle.ledger.specs.Meaning.{Meaning, meaning}
use Rattle.table.specs.Rising.{rising}
use Rattle.settlement.specs.Paying.{left_by}
use Rattle.settlement.proofs.Passing.{never_refused}
use Rattle.settlement.proofs.Settled.{settled, unpriced}
use Rattle.settlement.proofs.settling.settle_accounts.Goals as goal

pub returns-in_default-clause-outcome : goal.returns-in_default-clause-outcome
returns-in_default-clause-outcome g c =
    let m : Meaning = meaning g.L.BalanceReader.balances g.L.CashLedger.terms c.args.ledger.now in
    unpriced m _ c.args.last.value _ _ c.records-records.ensures.records _ c.in_default.is _ (c.check_unpriced.ensures m c.args.last.value)

pub pay_all-requires : goal.pay_all-requires
pay_all-requires g c =
    never_refused _ _ _ c.records-records.result.now (verdict_passed tt tt _ (sym c.in_ok-check_payments.ensures))
    (ap rising c.records-records.ensures.records ∙ c.args.accounts.now.order)

pub returns-clause-outcome : goal.returns-clause-outcome
returns-clause-outcome g c =
    let carried = c.map_values.ensures.values (left_by c.args.ending) (λ v w is. search rules) in
    settled _ _ _ _ _ c.records-records.result.now _ c.records-records.ensures.records _ _ c.in-Some.is (verdict_passed tt tt _ (sym c.in_ok-check_payments.ensures)) carried c.pay_all.ensures.paid
