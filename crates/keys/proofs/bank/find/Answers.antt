use Rattle.std.proofs.Common.{Some, None, arith}
use Rattle.std.proofs.lemmas.Bool.Decides.{not_from_Decides}
use Rattle.keys.proofs.Places.{search_found, search_goes, search_ends, first_is_place}
use Rattle.keys.proofs.bank.find.Goals as goal

pub returns-then-is : goal.returns-then-is
returns-then-is g c =
    let first = search_found g.B.Key.Key.meaning (g.B.Bank.keys c.args.bank.now) (g.B.Key.Key.meaning (g.S.Sought.stands c.args.sought.now)) c.loop-i.i c.key_at.result (omega arith) c.key_at.ensures c.loop-i.invariant (c.is.ensures.0 c.if-is.true) in
    record { is = first_is_place g.B.Key.Key.sameness _ _ (Some c.loop-i.i) first; first = first }

pub loop-i-preserved : goal.loop-i-preserved
loop-i-preserved g c =
    search_goes g.B.Key.Key.meaning _ _ c.loop-i.i c.key_at.result (omega arith) c.key_at.ensures c.loop-i.invariant (not_from_Decides _ c.is.ensures c.if-is.false)

pub returns : goal.returns
returns g c =
    let none = search_ends g.B.Key.Key.meaning (g.B.Bank.keys c.args.bank.now) (g.B.Key.Key.meaning (g.S.Sought.stands c.args.sought.now)) c.loop-i.i (omega arith) c.loop-i.invariant in
    record { is = first_is_place g.B.Key.Key.sameness _ _ None none; first = none }
