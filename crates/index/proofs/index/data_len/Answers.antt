use Rattle.std.proofs.Common.{◌+◌, [], length, get_or, refl, ◌∙◌, arith, rules}
use Rattle.std.proofs.lemmas.Iterator.{YieldsList-from_range}
use Rattle.std.proofs.lemmas.Iterator.Consumers.{fold_from_yields_List}
use Rattle.encode.specs.Lengths.{measured}
use Rattle.index.proofs.Laying.{lens_from}
use Rattle.index.proofs.index.data_len.Goals as goal

pub returns : goal.returns
returns g c =
    let items = g.B.Items.items c.args.bank.now in
    fold_from_yields_List _ (λ sum i. measured (sum + measured (length (get_or items i [])))) 0 c.fold.result c.fold.ensures.ran
    (YieldsList-from_range 0 c.count.result c.count.result refl (omega arith)) (λ a x b q k. search rules) ∙
    lens_from items c.count.result 0 (omega (arith, c.count.ensures))
