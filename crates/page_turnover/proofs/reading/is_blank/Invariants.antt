use Rattle.std.proofs.Common.{◌≡◌, ℕ, ◌*◌, ◌<◌}
use Rattle.flash_model.specs.Image.{slot_at}
use Rattle.records.specs.Slots.{slot_of}
use Rattle.records.specs.declared.Slot.TheVariants.{Free}
use Rattle.page_turnover.proofs.reading.is_blank.Given as goal

abbrev pub invariant-loop-block : goal.invariant-loop-block
invariant-loop-block g l = (s : ℕ) → s < 8 * l.block → slot_of (slot_at (g.F.NorFlash.image l.flash) l.page s) ≡ Free
