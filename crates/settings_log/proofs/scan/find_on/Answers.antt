use Rattle.std.proofs.Common.{arith, slice_index_or, length, ◌<◌, ◌∙◌}
use Rattle.settings_log.proofs.Slots.{reading_more, reading_all}
use Rattle.settings_log.proofs.scan.find_on.Goals as goal

pub loop-slot-preserved : goal.loop-slot-preserved
loop-slot-preserved g c = (
  c.after-pending.ensures.waits,
  record {
    same_length = c.after-pending.ensures.goes_on.same_length ∙ c.loop-slot.invariant.1.same_length;
    each = λ k d l.
        let m : k < length c.loop-slot.entries = omega (arith, l, c.loop-slot.invariant.1.same_length) in
        reading_more (g.F.NorFlash.image c.args.flash.now) c.args.page c.loop-slot.slot c.loop-slot.pending c.after-pending.result c.kind_in.result
        (slice_index_or c.args.entries.now k d) (slice_index_or c.loop-slot.entries k d) (slice_index_or c.after-pending.new.entries k d)
        c.loop-slot-test.true (c.kind_in.ensures.kind c.loop-slot-test.true) (c.loop-slot.invariant.1.each k d l) (c.after-pending.ensures.goes_on.each k d m);
  },
)

pub returns : goal.returns
returns g c = record {
  same_length = c.loop-slot.invariant.1.same_length;
  each = λ k d l.
      reading_all (g.F.NorFlash.image c.args.flash.now) c.args.page c.loop-slot.slot c.loop-slot.pending
      (slice_index_or c.args.entries.now k d) (slice_index_or c.loop-slot.entries k d) c.loop-slot-test.false c.loop-slot.invariant.0 (c.loop-slot.invariant.1.each k d l);
}
