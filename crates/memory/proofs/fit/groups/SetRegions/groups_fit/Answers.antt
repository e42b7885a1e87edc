use Rattle.std.proofs.Common.{◌≡◌, Some, refl, arith, rules}
use Rattle.std.proofs.lemmas.Bool.{false≢true}
use borrow.Author.Tests.{tests}
use Rattle.memory.proofs.Groups.{few_sets_fit, walk_begins, walk_ends, walk_like, walk_many, walk_skips}
use Rattle.memory.proofs.fit.groups.SetRegions.groups_fit.Goals.{then-groups-gt-MOST-via-then-groups-gt-MOST, then-groups-gt-MOST-via-else-groups-gt-MOST+then-like-gt-MOST}
use Rattle.memory.proofs.fit.groups.SetRegions.groups_fit.Goals as goal

pub returns-then-self-le-MOST : goal.returns-then-self-le-MOST
returns-then-self-le-MOST c = ((λ _. few_sets_fit c.args.self.now.entries.now c.args.self.now.sets.now (omega arith)), λ _. refl)

pub loop-i-preserved-then-ne : goal.loop-i-preserved-then-ne
loop-i-preserved-then-ne c =
    walk_skips c.args.self.now.entries.now c.args.self.now.sets.now _ _ c.loop-i.invariant _ _ (omega arith) c.key_of-key.ensures c.find.result c.find.ensures.first (search (rules, tests))

pub returns-then-groups-gt-MOST : goal.returns-then-groups-gt-MOST
returns-then-groups-gt-MOST c =
    let here : c.find.result ≡ Some c.loop-i.i = search (rules, tests) in (
      (λ e. absurd (false≢true e)),
      λ fit. absurd (elim c.then-groups-gt-MOST.branch [
        | then-groups-gt-MOST-via-then-groups-gt-MOST w ↦ walk_many c.args.self.now.entries.now c.args.self.now.sets.now _ _ c.loop-i.invariant _ _ (omega arith) c.key_of-key.ensures c.find.result c.find.ensures.first here (omega arith) fit
        | then-groups-gt-MOST-via-else-groups-gt-MOST+then-like-gt-MOST w ↦ walk_like c.args.self.now.entries.now c.args.self.now.sets.now _ _ c.loop-i.invariant _ _ (omega arith) c.key_of-key.ensures (omega (arith, w.like.ensures)) fit
      ]),
    )

pub loop-i-preserved : goal.loop-i-preserved
loop-i-preserved c =
    walk_begins c.args.self.now.entries.now c.args.self.now.sets.now _ _ c.loop-i.invariant _ _ (omega arith) c.key_of-key.ensures c.find.result c.find.ensures.first (search (rules, tests)) (omega arith) (omega (arith, c.like.ensures))

pub returns : goal.returns
returns c = ((λ _. walk_ends c.args.self.now.entries.now c.args.self.now.sets.now c.loop-i.i c.loop-i.groups (omega arith) c.loop-i.invariant), λ _. refl)
