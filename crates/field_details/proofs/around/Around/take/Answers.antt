use Rattle.std.proofs.Common.{◌≡◌, ◌<◌, ◌≤◌, ◌-◌, suc, ◌∙◌, ap, length, take, reverse, arith, inl, inr}
use Rattle.std.proofs.lemmas.Option.{slice_get_cases}
use Rattle.field_details.specs.representation.Asked.{all_outwards}
use Rattle.field_details.proofs.OutwardLemmas.{turned_more, some_left}
use Rattle.field_details.proofs.around.Around.take.Goals as goal

pub returns : goal.returns
returns c =
    let s = c.self.inside in
    let xs = all_outwards s.groups.now s.inner in
    let some : 0 < s.left = some_left s.left c.if-self-eq0.false in
    let within : s.left ≤ length xs = c.self.invariant in
    let one : s.left ≡ suc (s.left - 1) = omega (arith, some) in
    elim (slice_get_cases xs (s.left - 1)).1 [
      | inl found ↦ rw (← c.self.view_is, c.outwards.ensures, found.2)
          (ap (λ n. reverse (take n xs)) one ∙ turned_more xs (s.left - 1) found.0 found.2)
      | inr past ↦ (let no = past.0 in absurd (omega (arith, some, within, no)))
    ]
