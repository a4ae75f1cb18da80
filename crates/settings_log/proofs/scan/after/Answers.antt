use Rattle.std.proofs.Common.{refl, slice_index_or}
use Rattle.settings_log.proofs.Slots.{goes_on_other}
use Rattle.settings_log.proofs.scan.after.Goals as goal

pub returns-in-Other-clause-goes_on : goal.returns-in-Other-clause-goes_on
returns-in-Other-clause-goes_on c = rw c.in-Other.is (record {
  same_length = refl;
  each = λ k d l. goes_on_other c.args.place.page c.args.place.slot c.args.pending (slice_index_or c.args.entries.now k d) c.requires.waits;
})
