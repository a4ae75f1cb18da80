use Rattle.std.proofs.Common.{◌∙◌, ◌≤◌, inl, inr, arith, sym}
use Rattle.std.proofs.lemmas.Bool.{cases_lt}
use Rattle.layers.proofs.Tables.{default_at-above}
use Rattle.layers.proofs.defaults.StandardDefaults.reset.Goals as goal

pub returns-clause-inside : goal.returns-clause-inside
returns-clause-inside c place s e =
    elim (cases_lt place c.end_of_layer_0-middle.result) [
      | inl before ↦ c.make_transparent.ensures.below place before ∙ c.reset_layer_0.ensures.inside place s before
      | inr after ↦ (let k : 96 ≤ place = omega (arith, c.end_of_layer_0-middle.ensures.above) in c.make_transparent.ensures.inside place after e ∙ sym (default_at-above place k))
    ]
