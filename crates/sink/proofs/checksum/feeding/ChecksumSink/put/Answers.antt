use Rattle.std.proofs.Common.{◌+◌, ◌%◌, ◌^◌, sym, refl, ap, ◌∙◌}
use Rattle.sink.proofs.Sums.{checksum_push}
use Rattle.sink.proofs.checksum.feeding.ChecksumSink.put.Goals as goal

pub returns : goal.returns
returns c =
    let t = c.in_ok-put.ensures in
    let sum = c.args.self.now.sum in
    record {
      room = t.room;
      counts = t.counts;
      limits = refl;
      loans = refl;
      feeds = λ before h. (t.feeds before h.0, checksum_push before c.args.byte c.count-place.result sum (h.0 ∙ sym c.count-place.ensures) h.1 ∙ ap (λ w. (sum + w) % 2 ^ 32) (sym c.weighed.ensures));
    }
