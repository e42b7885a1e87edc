use Rattle.std.proofs.Common.{refl, rules, ◌≡◌, true, false, arith}
use Rattle.keys.specs.Order.{Ascends}
use Rattle.keys.proofs.Kept.{Offered, offered, from_all}
use Rattle.keys.proofs.Orders.{Walked, walk_starts, walk_goes, walk_stops, walk_ends}
use Rattle.keys.proofs.run.ascends.Goals as goal

-- what the closure holds is the run and then the bank
pub returns : goal.returns
returns g c =
    let order = g.B.Key.OrderedKey.order in
    let meaning = g.B.Key.Key.meaning in
    let keys = g.B.Bank.keys c.args.bank.now in
    from_all _ c.len.result (λ i p. Walked order meaning keys i p.0.now.last × (p.1 ≡ c.args.bank))
    (λ i p q l h k.
    let o : Offered order meaning keys i p.0.now.last true q.0.now.last = search (rules, offered) in
    (walk_goes order meaning keys i o.key (omega (arith, c.len.ensures)) o.is p.0.now.last q.0.now.last o.settled h.0 o.takes, search rules))
    (Ascends order meaning keys) (λ q h. walk_ends order meaning keys c.len.result q.0.now.last c.len.ensures h.0)
    (λ i p q l h k.
    let o : Offered order meaning keys i p.0.now.last false q.0.now.last = search (rules, offered) in
    walk_stops order meaning keys i o.key (omega (arith, c.len.ensures)) o.is p.0.now.last q.0.now.last o.settled h.0 o.takes)
    _ _ _ c.all.result c.all.ensures.ran (walk_starts order meaning keys c.new-run.result.last c.new-run.ensures.empty, refl) refl (omega arith)
