use Rattle.std.proofs.Common.{◌≡◌, [], length, take, ap, ◌∙◌, arith, rules}
use Rattle.sink.specs.Kinds.{held}
use Rattle.sink.proofs.Feeding.{held_front}
use Rattle.whole.proofs.write_to_slice.Goals as goal

pub returns : goal.returns
returns g c =
    let t = c.in_ok-write_into.ensures in
    let bytes = g.T.FontWrite.bytes c.args.value.now in
    let last = c.write_into.new.sink in
    let fresh = c.new-buffer.ensures.fresh.0 in
    let n : c.count.result ≡ length bytes = omega (arith, c.count.ensures, t.counts, held.long c.new-buffer.result [] fresh) in
    let front : take c.count.result last.room.now ≡ bytes = ap (λ k. take k last.room.now) n ∙ held_front last bytes (t.feeds [] fresh) in
    let name = t.loans in
    (n, search rules)
