use Rattle.std.proofs.Common.{◌≡◌, ◌-◌, ◌≤◌, length, get_or, arith, refl, ◌∙◌, ap}
use Rattle.std.proofs.Math.Seq.{map-set_same}
use Rattle.std.proofs.lemmas.List.{length-set}
use Rattle.descriptor_parse.specs.declared.reports.Link.{Link}
use Rattle.descriptor_parse.proofs.LinkLemmas.{all_first, no_nexts, nexts_more, first_more, same_place, id_at, linked_all}
use Rattle.descriptor_parse.proofs.reports.Reports.link.Goals as goal

pub loop-place-init : goal.loop-place-init
loop-place-init c =
    let fields = c.args.self.now.fields.items in
    let all : c.len-place.result ≡ length fields = omega (arith, c.len-place.ensures, c.args.self.now.fields.ok.0) in
    record {
      within = omega arith;
      fields = refl;
      first = all_first c.args.self.now.totals fields c.len-place.result (omega arith) c.requires.unlinked;
      nexts = no_nexts fields c.args.self.now.links.items c.len-place.result (omega arith);
      bits = refl;
      ids = refl;
      ends = refl;
      as_many = refl;
      ranges = refl;
      counts = refl;
      has_ids = refl;
    }

pub overflow_cast-place : goal.overflow_cast-place
overflow_cast-place c =
    let few : length c.args.self.now.fields.items ≤ 256 = c.requires.few in
    let within : c.loop-place.place ≤ length c.args.self.now.fields.items = c.loop-place.invariant.within in
    omega arith

pub lead-next-requires : goal.lead-next-requires
lead-next-requires c =
    let fields = c.args.self.now.fields.items in
    let within : c.loop-place.place ≤ length fields = c.loop-place.invariant.within in
    let some = c.loop-place-test.true in
    id_at fields c.index.result.now (c.loop-place.place - 1) _ _ (same_place fields c.loop-place.self.fields.items c.index.result.now _ c.loop-place.invariant.fields c.index.ensures)
    c.requires.ids (omega arith) c.loop-place.invariant.ids

pub index_mut-requires : goal.index_mut-requires
index_mut-requires c =
    let within : c.loop-place.place ≤ length c.args.self.now.fields.items = c.loop-place.invariant.within in
    let some = c.loop-place-test.true in
    let many : length c.args.self.now.links.items ≡ length c.args.self.now.fields.items = c.requires.as_many in
    let same : length c.loop-place.self.links.items ≡ length c.args.self.now.links.items = c.loop-place.invariant.as_many in
    omega arith

pub loop-place-preserved : goal.loop-place-preserved
loop-place-preserved c =
    let fields = c.args.self.now.fields.items in
    let s = c.loop-place in
    let within : s.place ≤ length fields = s.invariant.within in
    let some = c.loop-place-test.true in
    let many : length c.args.self.now.links.items ≡ length fields = c.requires.as_many in
    let same : length s.self.links.items ≡ length c.args.self.now.links.items = s.invariant.as_many in
    let field : c.index.result.now ≡ get_or fields (s.place - 1) c.index.result.now = same_place fields s.self.fields.items c.index.result.now _ s.invariant.fields c.index.ensures in
    record {
      within = omega arith;
      fields = s.invariant.fields;
      first = first_more s.self.totals c.lead-next.new.self fields (s.place - 1) s.place c.index.result.now (omega arith) (omega arith) field s.invariant.first c.lead-next.ensures.first;
      nexts = nexts_more fields s.self.links.items (s.place - 1) s.place _ c.index.result.now (omega arith) (omega arith) (omega arith) field s.invariant.nexts
          (c.lead-next.ensures.was ∙ s.invariant.first _ _);
      bits = c.lead-next.ensures.bits ∙ s.invariant.bits;
      ids = c.lead-next.ensures.same ∙ s.invariant.ids;
      ends = map-set_same (λ (l : Link). l.end) s.self.links.items (s.place - 1) _ c.index_mut.result.now (ap (λ (l : Link). l.end) c.index_mut.ensures.value) ∙ s.invariant.ends;
      as_many = length-set s.self.links.items (s.place - 1) _ ∙ s.invariant.as_many;
      ranges = s.invariant.ranges;
      counts = s.invariant.counts;
      has_ids = s.invariant.has_ids;
    }

pub returns-clause-nexts : goal.returns-clause-nexts
returns-clause-nexts c =
    let s = c.loop-place in
    linked_all c.args.self.now.fields.items s.self.fields.items s.self.links.items s.place s.invariant.fields (omega (arith, c.loop-place-test.false)) s.invariant.nexts c.requires.few
    (s.invariant.as_many ∙ c.requires.as_many)
