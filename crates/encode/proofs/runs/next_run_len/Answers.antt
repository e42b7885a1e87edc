use Rattle.std.proofs.Common.{◌≡◌, ◌+◌, ◌-◌, length, refl, ◌∙◌, arith, rules, tests}
use Rattle.std.proofs.lemmas.Iterator.{YieldsList-from_range, YieldsList-from_take}
use Rattle.std.proofs.lemmas.Iterator.Consumers.{YieldsList-at, count_from_yields_List}
use Rattle.std.proofs.lemmas.Iterator.Search.{YieldsList-from_take_while}
use Rattle.std.proofs.lemmas.List.Folds.{length-prefix_len}
use Rattle.encode.proofs.Choosing.{goes, goes_counted, run_is}
use Rattle.encode.proofs.runs.next_run_len.Goals as goal

pub returns : goal.returns
returns g c =
    let vs = g.V.Deltas.deltas c.args.values.now in
    let a = c.args.from + 1 in
    let w = c.width_at-w.result in
    let counted = count_from_yields_List c.take_while.result c.count-others.result c.count-others.ensures.ran
    (YieldsList-from_take_while _ (goes w vs)
    (YieldsList-at c.take_while.ensures.source (YieldsList-from_take 63 (YieldsList-at c.take.ensures.source (YieldsList-from_range a c.len-len.result (c.len-len.result - a) refl refl)) c.take.ensures.count))
    c.take_while.ensures.closure c.take_while.ensures.done (λ x r q k. search (rules, tests))) in
    let few : length vs - a ≡ c.len-len.result - a = omega (arith, c.len-len.ensures) in
    run_is w vs c.args.from c.count-others.result (omega arith) c.width_at-w.ensures
    (counted ∙ length-prefix_len (goes w vs) _ ∙ goes_counted w vs 63 a (c.len-len.result - a) few)
