use Rattle.std.proofs.Common.{◌≡◌}
use Rattle.records.specs.Slots.{encoded, slot_of}
use Rattle.records.specs.declared.Slot.TheVariants.{Good}
use Rattle.records.proofs.SlotLemmas.{good_within, sound_within, program_within, encoded_slot, encoded_sound, slot_of-encoded}
use Rattle.records.proofs.theorems.torn_program.Goals as goal

pub returns-clause-good : goal.returns-clause-good
returns-clause-good c word x y other l sx sy free p e =
    let same : y ≡ encoded word = good_within (encoded word) y other (encoded_slot word) sy (encoded_sound word l) (program_within word x y sx free p) e in
    let g : slot_of y ≡ Good word = rw same (slot_of-encoded word l) in
    cc

pub returns-clause-sound : goal.returns-clause-sound
returns-clause-sound c word x y l sx sy free p =
    sound_within (encoded word) y (encoded_sound word l) (program_within word x y sx free p)

pub returns-clause-whole : goal.returns-clause-whole
returns-clause-whole c word x y other l sx sy free p e =
    good_within (encoded word) y other (encoded_slot word) sy (encoded_sound word l) (program_within word x y sx free p) e
