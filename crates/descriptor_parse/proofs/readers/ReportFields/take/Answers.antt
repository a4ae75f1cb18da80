use Rattle.std.proofs.Common.{◌≡◌, ◌<◌, length, arith}
use Rattle.std.proofs.Math.Logic.{∥∥₁_elim, ∥∥₁_map}
use Rattle.std.proofs.Props.{props}
use Rattle.descriptor_parse.proofs.ReaderLemmas.{left_none, left_more, next_is_next, link_refines, any_field}
use Rattle.descriptor_parse.proofs.readers.ReportFields.take.Goals as goal

pub returns-in_default : goal.returns-in_default
returns-in_default c =
    let s = c.self.inside in
    let none = left_none s.kind s.id s.next s.fields.now s.links.now s.ranges.now c.self.invariant.1 c.in_default.ensures.lookup.3 in
    rw (← c.self.view_is) (none, none)

pub between-ranges-requires-clause-order : goal.between-ranges-requires-clause-order
between-ranges-requires-clause-order c =
    let s = c.self.inside in
    ∥∥₁_elim c.self.invariant.0 (Prim.hlevel props) (λ k.
    (link_refines s.links.now s.ranges.now s.counts.now s.next c.first_range-start.result c.in-Some.link.now c.in-Some.ensures.lookup.3.0 c.in-Some.ensures.lookup.1 c.first_range-start.ensures k).order)

pub between-ranges-requires-clause-within : goal.between-ranges-requires-clause-within
between-ranges-requires-clause-within c =
    let s = c.self.inside in
    ∥∥₁_elim c.self.invariant.0 (Prim.hlevel props) (λ k.
    (link_refines s.links.now s.ranges.now s.counts.now s.next c.first_range-start.result c.in-Some.link.now c.in-Some.ensures.lookup.3.0 c.in-Some.ensures.lookup.1 c.first_range-start.ensures k).within)

pub between-counts-requires-clause-order : goal.between-counts-requires-clause-order
between-counts-requires-clause-order c =
    let s = c.self.inside in
    ∥∥₁_elim c.self.invariant.0 (Prim.hlevel props) (λ k.
    (link_refines s.links.now s.ranges.now s.counts.now s.next c.first_range-start.result c.in-Some.link.now c.in-Some.ensures.lookup.3.0 c.in-Some.ensures.lookup.1 c.first_range-start.ensures k).order)

pub between-counts-requires-clause-within : goal.between-counts-requires-clause-within
between-counts-requires-clause-within c =
    let s = c.self.inside in
    ∥∥₁_elim c.self.invariant.0 (Prim.hlevel props) (λ k.
    (link_refines s.links.now s.ranges.now s.counts.now s.next c.first_range-start.result c.in-Some.link.now c.in-Some.ensures.lookup.3.0 c.in-Some.ensures.lookup.1 c.first_range-start.ensures k).within_counts)

pub bounds-self-inside-place : goal.bounds-self-inside-place
bounds-self-inside-place c =
    let within : c.self.inside.next < length c.self.inside.links.now = c.in-Some.ensures.lookup.3.0 in
    let many : length c.self.inside.links.now ≡ length c.self.inside.fields.now = c.self.invariant.1.as_many in
    omega arith

pub invariant_of-result : goal.invariant_of-result
invariant_of-result c =
    let s = c.self.inside in
    record {
      counted = ∥∥₁_map c.self.invariant.0 (λ k. rw (c.between-ranges.ensures, c.between-counts.ensures)
          (link_refines s.links.now s.ranges.now s.counts.now s.next c.first_range-start.result c.in-Some.link.now c.in-Some.ensures.lookup.3.0 c.in-Some.ensures.lookup.1 c.first_range-start.ensures k).counted);
    }

pub invariant_of-self : goal.invariant_of-self
invariant_of-self c =
    let s = c.self.inside in (
      c.self.invariant.0,
      c.self.invariant.1,
      next_is_next s.kind s.id s.next s.fields.now s.links.now any_field c.in-Some.link.now c.self.invariant.1 c.self.invariant.2 c.in-Some.ensures.lookup.3.0 c.in-Some.ensures.lookup.1,
    )

pub returns : goal.returns
returns c =
    let s = c.self.inside in
    rw (← c.self.view_is)
    (left_more s.kind s.id s.next c.first_range-start.result s.fields.now s.links.now s.ranges.now c.between-ranges.result.now any_field c.in-Some.link.now
    c.self.invariant.1 c.self.invariant.2 c.in-Some.ensures.lookup.3.0 c.in-Some.ensures.lookup.1 c.first_range-start.ensures c.between-ranges.ensures)
