use Rattle.std.proofs.Common.{[], arith}
use Rattle.whole.proofs.directory_entry.Goals as goal

pub returns : goal.returns
returns g c =
    let t = c.in_ok-write_into.ensures in
    let fresh = c.new-sum.ensures.0 in
    (c.value.ensures.of_fed (g.T.FontWrite.bytes c.args.value.now) (t.feeds [] fresh), omega (arith, t.counts, fresh.0, c.count.ensures), omega (arith, t.room, fresh.0))
