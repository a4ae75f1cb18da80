use Rattle.std.proofs.Common.{◌≡◌, ◌∙◌, sym, ℕ, length, List, ◌++◌, ◌∷◌, [], subst}
use Rattle.std.proofs.lemmas.Bool.{eqb-true}
use Rattle.field_details.specs.representation.Named.{AreGiven}
use Rattle.field_details.proofs.PartLemmas.{given_empty, given_longer}
use Rattle.field_details.proofs.WalkLemmas.{on_ok}
use Rattle.field_details.proofs.names.Named.name_collection.Goals as goal

pub returns-then-is_empty : goal.returns-then-is_empty
returns-then-is_empty c =
    let none : length c.args.own.now ≡ 0 = eqb-true _ _ (sym c.is_empty.ensures ∙ c.if-is_empty.true) in
    record { collections = λ given at a. given_empty c.args.self.now.ranges.items c.args.own.now c.args.self.now.collections.items given none a; others = λ given a. a }

pub returns : goal.returns
returns c =
    let old = c.args.self.now in
    let part = c.in_ok-part.ensures.part in
    record {
      collections = on_ok c.put.result (λ taken given at a. subst (λ (x : List (ℕ × ℕ)). AreGiven c.add.new.ranges.items c.put.new.parts.items (given ++ x ∷ [])) part.1
          (taken c.add.new.ranges.items given at part.0 (rw c.in_ok-part.ensures.ranges (given_longer old.ranges.items c.args.own.now old.collections.items given a)))) c.put.ensures;
      others = on_ok c.put.result (λ taken given a. rw c.in_ok-part.ensures.ranges (given_longer old.ranges.items c.args.own.now old.fields.items given a)) c.put.ensures;
    }
