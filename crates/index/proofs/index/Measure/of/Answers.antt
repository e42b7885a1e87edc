use Rattle.std.proofs.Common.{◌≡◌, ◌<◌, length, arith, rules}
use Rattle.format.specs.Index.{concat, index}
use Rattle.sink.specs.Kinds.{longest}
use Rattle.index.proofs.Laying.{length_is, index_longer}
use Rattle.index.proofs.index.Measure.of.Goals as goal

pub returns-in_err-short : goal.returns-in_err-short
returns-in_err-short g c =
    let items = g.B.Items.items c.args.bank.now in
    let long : longest < length (index items) = omega (arith, c.in_err-short.ensures, c.count.ensures, (index_longer items).0) in
    search rules

pub returns-in_err-short-2 : goal.returns-in_err-short-2
returns-in_err-short-2 g c =
    let items = g.B.Items.items c.args.bank.now in
    let long : longest < length (index items) = omega (arith, c.in_err-short-2.ensures, c.data_len.ensures, (index_longer items).1) in
    search rules

pub returns-in_err-short-3 : goal.returns-in_err-short-3
returns-in_err-short-3 g c =
    let items = g.B.Items.items c.args.bank.now in
    let bytes : c.in_ok-short-2.field-0 ≡ length (concat items) = omega (arith, c.in_ok-short-2.ensures, c.data_len.ensures) in
    let whole = length_is items c.in_ok-short.field-0 c.in_ok-short-2.field-0 (omega (arith, c.in_ok-short.ensures, c.count.ensures)) bytes in
    let long : longest < length (index items) = omega (arith, c.in_err-short-3.ensures, c.index_len.ensures, whole) in
    search rules

pub returns : goal.returns
returns g c =
    let items = g.B.Items.items c.args.bank.now in
    let count : c.in_ok-short.field-0 ≡ length items = omega (arith, c.in_ok-short.ensures, c.count.ensures) in
    let bytes : c.in_ok-short-2.field-0 ≡ length (concat items) = omega (arith, c.in_ok-short-2.ensures, c.data_len.ensures) in
    let whole = length_is items c.in_ok-short.field-0 c.in_ok-short-2.field-0 count bytes in
    record { count = count; bytes = bytes; short = omega (arith, c.in_ok-short-3.ensures, c.index_len.ensures, whole) }
