use Rattle.std.proofs.Common.{◌∙◌, ap}
use Rattle.records.specs.Slots.{slot_of}
use Rattle.records.proofs.SlotLemmas.{free_is_blank, slot_of-blank, good_is_encoded, slot_of-encoded, not_spoiled_sound}
use Rattle.records.proofs.theorems.free_and_good.Goals as goal

pub returns-clause-free : goal.returns-clause-free
returns-clause-free c bytes s = (λ e. free_is_blank bytes s e, λ e. ap slot_of e ∙ slot_of-blank)

pub returns-clause-good : goal.returns-clause-good
returns-clause-good c bytes word s l = (λ e. good_is_encoded bytes word s e, λ e. ap slot_of e ∙ slot_of-encoded word l)

pub returns-clause-sound : goal.returns-clause-sound
returns-clause-sound c bytes s n = not_spoiled_sound bytes s n
