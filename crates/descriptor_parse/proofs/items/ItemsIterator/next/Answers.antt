use Rattle.std.proofs.Common.{◌≡◌, [], ◌∷◌, length, ◌+◌, ◌-◌, Ok, sym, ◌∙◌, arith}
use Rattle.std.proofs.lemmas.Bool.{eqb-true, eqb-false}
use Rattle.descriptor_parse.specs.Items.{items_at}
use Rattle.descriptor_parse.specs.ItemViews.{item_view}
use Rattle.descriptor_parse.proofs.ItemLemmas.{items_next, items_fewer, items_none}
use Rattle.descriptor_parse.proofs.items.ItemsIterator.next.Goals as goal

pub returns-then-is_empty-clause-steps : goal.returns-then-is_empty-clause-steps
returns-then-is_empty-clause-steps c =
    let none : length c.self.inside.rest.now ≡ 0 = eqb-true _ _ (sym c.is_empty.ensures ∙ c.if-is_empty.true) in
    let left : c.args.self.now ≡ [] = sym c.self.view_is ∙ items_none c.self.inside.offset c.self.inside.rest.now none in
    (left, left)

-- the item at the front comes, and the others are left
came : (c : goal.After-rest-in-Some-1) → c.args.self.now ≡ Ok (item_view c.in-Some.item)
    ∷ items_at (c.self.inside.offset + (length c.self.inside.rest.now - length c.in-Some.rest.now)) c.in-Some.rest.now
came c =
    let some : length c.self.inside.rest.now ≡ 0 → ⊥ = eqb-false _ _ (sym c.is_empty.ensures ∙ c.if-is_empty.false) in
    sym c.self.view_is ∙ items_next c.self.inside.offset c.self.inside.rest.now c.in-Some.rest.now (item_view c.in-Some.item)
    (omega arith) c.in-Some.ensures.size c.in-Some.ensures.rest c.in-Some.ensures.item

pub returns-in-Some-clause-steps : goal.returns-in-Some-clause-steps
returns-in-Some-clause-steps c = came c

pub returns-in-Some-clause-goes : goal.returns-in-Some-clause-goes
returns-in-Some-clause-goes c = let less = items_fewer _ _ _ (came c) in
    record { on = λ f. (tt, f, less); keeps = tt; rests = λ f. tt }
