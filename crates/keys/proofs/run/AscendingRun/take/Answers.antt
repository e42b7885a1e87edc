use Rattle.keys.proofs.Orders.{takes}
use Rattle.keys.proofs.run.AscendingRun.take.Goals as goal

pub returns : goal.returns
returns g c = record { takes = takes g.K.OrderedKey.order g.K.Key.meaning _ _ c.admits.ensures.ties c.if-not-admits.ensures.above; ties = c.admits.ensures.ties }
