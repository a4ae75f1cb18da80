use Rattle.std.proofs.Common.{rules, arith, ℕ, ◌≡◌, ◌∙◌, sym, ap₂}
use Rattle.std.proofs.lemmas.Bool.{false≢true}
use Rattle.std.proofs.lemmas.Grind.{common_steps}
use Rattle.steady_flash.specs.declared.marks.Place.{Place}
use Rattle.steady_flash.proofs.starting.take_claim.Goals as goal

same_place : (a b : Place) → a.pages ≡ b.pages → a.at ≡ b.at → a ≡ b
same_place a b e f = ap₂ (λ (p : ℕ) (q : ℕ). record { pages = p; at = q }) e f

pub returns-in-None-clause-greatest : goal.returns-in-None-clause-greatest
returns-in-None-clause-greatest c = λ p m b s k. absurd (false≢true (c.in-None.ensures.found c.args.layout.now.pages c.args.at p m c.requires.least c.requires.most c.requires.in_pages s k).1)

pub returns-then-ne-clause-ours : goal.returns-then-ne-clause-ours
returns-then-ne-clause-ours c = λ ours.
    let here = ours c.in-Some.word.place.pages c.in-Some.word.place.at c.in-Some.word.page c.in-Some.word.number c.in-Some.ensures.claims in
    let e : c.in-Some.word.place ≡ c.place.result = same_place c.in-Some.word.place c.place.result (here.0 ∙ sym c.place.ensures.pages) (here.1 ∙ sym c.place.ensures.at) in
    absurd (first_of (search rules, grind (arith, common_steps)))
