use Rattle.cents.proofs.Layers.{terms_told}
use Rattle.cents.proofs.layer.CentsCashLedger.terms.Goals as goal

pub returns : goal.returns
returns g c =
    let below = c.args.self.now.below in
    terms_told c.terms-below.result _ c.min.result (g.L.CashLedger.bounded.lowest below) (g.L.CashLedger.bounded.highest below) c.terms-below.ensures c.min.ensures.value
