use Rattle.std.proofs.Common.{◌≡◌, ℕ, refl, sym, get_or}
use Rattle.descriptor_parse.specs.declared.usage.Usage.TheVariants.{Short}
use Rattle.descriptor_parse.specs.representation.LocalsRefine.{range_on}
use Rattle.descriptor_parse.specs.representation.CountsRefine.{wrapped_counts}
use Rattle.descriptor_parse.proofs.CountLemmas.{ranged_step, counted_step}
use Rattle.std.proofs.lemmas.List.{append-nil}
use Rattle.descriptor_parse.proofs.locals.Locals.append_to.Goals as goal

pub loop-range-init : goal.loop-range-init
unfolding wrapped_counts
loop-range-init c = record {
  ranges = sym (append-nil _);
  counts = sym (append-nil _);
  last = refl;
}

pub loop-range-preserved : goal.loop-range-preserved
loop-range-preserved c =
    let i = c.loop-range.invariant in
    let within = rw c.as_slice-range-items.ensures at c.loop-range-test.true in
    let range : ℕ × ℕ = (c.on-first.result, c.on-last.result) in
    let is : range ≡ range_on c.args.page (get_or c.args.self.now.usages.items c.loop-range.range-index (record { first = Short 0; last = Short 0 })) =
    rw (c.on-first.ensures, c.on-last.ensures, c.as_slice-range-items.ensures) refl in
    let (counts, last) = counted_step (range_on c.args.page) c.args.self.now.usages.items c.loop-range.range-index (record { first = Short 0; last = Short 0 }) c.args.counts.now.items c.loop-range.counts.items
    c.push-in-loop-range.new.self.items c.loop-range.count c.count_with-count.result within i.counts i.last
    (rw (c.on-first.ensures, c.on-last.ensures, c.as_slice-range-items.ensures) at c.count_with-count.ensures) c.in_ok-push-2.ensures.items in
    record {
      ranges = ranged_step (range_on c.args.page) c.args.self.now.usages.items c.loop-range.range-index _ c.args.ranges.now.items c.loop-range.ranges.items c.push.new.self.items
          range within i.ranges is c.in_ok-push.ensures.items;
      counts = counts;
      last = last;
    }
