use Rattle.keymap_store.proofs.store.StoreOf.work.Goals as goal

pub returns-in-Turning-clause-leaves : goal.returns-in-Turning-clause-leaves
returns-in-Turning-clause-leaves g c = c.turn.ensures.leaves

pub returns-in-Turning-clause-order : goal.returns-in-Turning-clause-order
returns-in-Turning-clause-order g c = c.turn.ensures.order
