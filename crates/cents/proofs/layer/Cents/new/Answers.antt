use Rattle.std.proofs.Common.{refl}
use Rattle.cents.proofs.Layers.{new_layer}
use Rattle.cents.proofs.layer.Cents.new.Goals as goal

pub returns-clause-layer : goal.returns-clause-layer
returns-clause-layer g c = new_layer _ _ _ _ refl c.new.ensures (g.L.BalanceReader.sound.within c.args.below)
