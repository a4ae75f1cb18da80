use Rattle.std.proofs.Common.{drop, arith}
use Rattle.std.proofs.lemmas.List.Elements.{All-drop}
use Rattle.report_read.specs.representation.Lanes.{IsLane}
use Rattle.report_read.proofs.Lists.{nothing_left, begins, fits_more, rest_of, next_value, end_value}
use Rattle.report_read.proofs.reading.Reading.take.Goals as goal

pub returns-in_default-clause-value : goal.returns-in_default-clause-value
returns-in_default-clause-value c =
    let s = c.self.inside in
    let none = nothing_left s.descriptor.now s.bytes.now s.lanes.now s.place c.self.invariant.1 (omega (arith, c.in_default.len_below)) in
    rw (← c.self.view_is) (none, none)

pub overflow_add-place : goal.overflow_add-place
overflow_add-place c =
    omega (arith, fits_more c.self.inside.descriptor.now c.self.inside.lanes.now c.self.inside.place c.self.invariant.0 c.self.invariant.1 c.in-len1-up.len_at_least)

pub overflow_add-self : goal.overflow_add-self
overflow_add-self c =
    omega (arith, fits_more c.self.inside.descriptor.now c.self.inside.lanes.now c.self.inside.place c.self.invariant.0 c.self.invariant.1 c.in-len1-up.len_at_least)

pub invariant_of-self-else-place-lane : goal.invariant_of-self-else-place-lane
invariant_of-self-else-place-lane c =
    let s = c.self.inside in
    let all = All-drop (IsLane s.descriptor.now) 1 s.lanes.now c.self.invariant.0 in
    rw (rest_of s.lanes.now) (all, begins s.descriptor.now (drop 1 s.lanes.now) all)

pub returns-then-place-lane-clause-value : goal.returns-then-place-lane-clause-value
returns-then-place-lane-clause-value c =
    let s = c.self.inside in
    rw (← c.self.view_is) (next_value s.descriptor.now s.bytes.now s.lanes.now s.place _ c.value-value.result c.in-len1-up.len_at_least c.self.invariant.1 c.value-value.ensures)

pub returns-else-place-lane-clause-value : goal.returns-else-place-lane-clause-value
returns-else-place-lane-clause-value c =
    let s = c.self.inside in
    rw (← c.self.view_is)
    (end_value s.descriptor.now s.bytes.now s.lanes.now s.place _ c.value-value.result c.in-len1-up.len_at_least c.self.invariant.1 c.if-place-lane.false c.value-value.ensures)
