-- Trusted: what a keyboard on blank pages is asked while it stores its first command, newest call first.
use Rattle.shapes.specs.Shapes.{Bytes}
use Rattle.std.specs.Prelude.{◌≡◌, ◌≢◌, ℕ, suc, ◌*◌, Option, List, [], ◌∷◌, replicate}
use Rattle.flash_model.specs.declared.TheConstants.{PAGE_BYTES}
use Rattle.control_ep.specs.declared.answer.EpAnswer.{EpAnswer}
use Rattle.control_ep.specs.declared.answer.EpAnswer.TheVariants.{Ack, Nak, Packet}
use Rattle.keymap_store.specs.declared.store.Work.{Work}
use Rattle.keymap_store.specs.declared.store.Work.TheVariants.{Working, Settled, Failed}
use Rattle.keyboard.specs.Calls.{Call, Scanned, SetUp, Out, In, Polled, Worked}
use Rattle.world.specs.Histories.{set_feature, set_report}
use Rattle.world.specs.Pad.{first_down}

-- the answers of endpoint 0 and of the flash work, oldest first, and beside them what the polls were answered, and the images
pub record Answers : Type 0 where
  pub given : EpAnswer
  pub first_poll : Option Bytes
  pub early : EpAnswer
  pub header : Work
  pub second_poll : Option Bytes
  pub late : EpAnswer
  pub record_made : Work
  pub status : EpAnswer
  pub with_header : Bytes
  pub with_record : Bytes

-- a command comes. A scan, a poll and an IN packet come before its first step of the flash work, an IN packet, a poll and a scan
-- before its second one
abbrev pub asked : Answers → List Call
asked answers =
    In answers.status ∷ Worked answers.record_made answers.with_record ∷ Scanned first_down ∷ Polled answers.second_poll ∷ In answers.late
    ∷ Worked answers.header answers.with_header ∷ In answers.early ∷ Polled answers.first_poll ∷ Scanned first_down
    ∷ Out set_report answers.given ∷ SetUp set_feature ∷ []

-- the command is acknowledged, the host waits for both steps, and is told then
pub record IsStored (answers : Answers) : Type 0 where
  pub acknowledged : answers.given ≡ Ack
  pub waits : answers.early ≡ Nak
  pub works : answers.header ≡ Working
  pub still_waits : answers.late ≡ Nak
  pub settled : answers.record_made ≡ Settled
  pub told : answers.status ≡ Packet (record { items = [] })
