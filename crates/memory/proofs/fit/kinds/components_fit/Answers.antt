use Rattle.std.proofs.Common.{rules}
use Rattle.std.proofs.lemmas.Bool.Decides.{when_true}
use Rattle.std.proofs.lemmas.Iterator.{YieldsList-from_slice, cases_from_all}
use Rattle.std.proofs.lemmas.Iterator.Search.{true_from_All}
use Rattle.std.proofs.lemmas.List.Elements.{All-from_all_within, All-from_recursion, recursion_from_All}
use Rattle.memory.specs.Fit.{ComponentFits}
use Rattle.memory.specs.Lists.{Stored}
use Rattle.memory.proofs.fit.kinds.components_fit.Goals as goal

pub returns : goal.returns
returns c =
    let P : Stored → Type 0 = ComponentFits c.args.pairs.now c.args.sets in
    let N : Stored → Type 0 = λ x. P x → ⊥ in
    let xs = c.args.components.now in
    let cases = cases_from_all _ _ c.all.result P N c.all.ensures.ran (YieldsList-from_slice xs cc) (λ x q k. search rules) (λ x q k. search rules) in
    ((λ e. recursion_from_All P xs (All-from_all_within P xs (when_true _ _ e cases))), λ fit. true_from_All P N _ xs (λ x p n. n p) cases (All-from_recursion P xs fit))
