-- Trusted: how a command is served where nothing is in its way.
use Rattle.std.specs.Prelude.{◌≡◌, ◌∷◌, ℕ, None, List, [], length}
use Rattle.layers.specs.Codes.{DefaultCodes}
use Rattle.layers.specs.declared.command.Command.{Command}
use Rattle.flash_model.specs.Sim.{SimValue}
use Rattle.keymap_store.specs.declared.store.Work.TheVariants.{Working, Settled}
use Rattle.keyboard.specs.Calls.{Call}
use Rattle.keyboard.specs.Progress as keyboard
use Rattle.world.specs.declared.event.Event.TheVariants.{Setup, OutPacket, InPacket, Work}
use Rattle.world.specs.declared.event.Answer.TheVariants.{Ack, Packet, Worked}
use Rattle.world.specs.Kinds.{Step, Kind, starts, calls, looks, kind}
use Rattle.world.specs.History.{session, flash_after, image_after}

module _ (defaults : DefaultCodes) where
  -- nothing is in the way of a command: each slot 0 is sound, the flash is not worn, no command works, and nothing is armed
  pub record IsReady (start : SimValue) (history : List Step) : Type 0 where
    pub session : keyboard.IsReady defaults (session start history).first (session start history).past
    pub unarmed : (flash_after start history).armed ≡ None

-- in none of these steps, newest first, was the power lost
abbrev pub IsNoStart : Kind → Type 0
IsNoStart starts = ⊥
IsNoStart _ = Unit {0}

abbrev pub NoneStarts : List Step → Type 0
NoneStarts [] = Unit {0}
NoneStarts (step ∷ before) = IsNoStart (kind step) × NoneStarts before

-- the keyboard's calls among these steps: a look is none
abbrev pub with_call : Kind → List Call → List Call
with_call (calls call) before = call ∷ before
with_call _ before = before

abbrev pub calls_in : List Step → List Call
calls_in [] = []
calls_in (step ∷ before) = with_call (kind step) (calls_in before)

-- steps of the flash work, and nothing between them
abbrev pub AreWorks : List Step → Type 0
AreWorks [] = Unit {0}
AreWorks (step ∷ before) = (step.event ≡ Work) × AreWorks before

module _ (defaults : DefaultCodes) where
  -- a transfer that brings a command: SETUP, the packet with its five bytes after the Report ID, as many steps of the flash work as
  -- its operations need, and the status stage
  pub record BringsCommand (start : SimValue) (before : List Step) (setup packet : Step) (works : List Step) (status : Step) (a b c d e : ℕ) (command : Command) : Type 0 where
    pub begins : setup.event ≡ Setup keyboard.set_feature
    pub brings : packet.event ≡ OutPacket (record { items = 3 ∷ a ∷ b ∷ c ∷ d ∷ e ∷ [] })
    pub flash_work : AreWorks works
    pub as_many : length works ≡ keyboard.steps_for defaults (image_after start before) command
    pub asks : status.event ≡ InPacket

-- each of these steps is answered Working
abbrev pub AllWork : List Step → Type 0
AllWork [] = Unit {0}
AllWork (step ∷ before) = (step.answer ≡ Worked Working) × AllWork before

-- the last of these steps, if there are any, is answered Settled, and each before it Working
abbrev pub EndSettled : List Step → Type 0
EndSettled [] = Unit {0}
EndSettled (step ∷ before) = (step.answer ≡ Worked Settled) × AllWork before

-- the command is served: ACK, ACK, Working .., Settled, the empty packet
pub record IsServed (setup packet : Step) (works : List Step) (status : Step) : Type 0 where
  pub began : setup.answer ≡ Ack
  pub acknowledged : packet.answer ≡ Ack
  pub stored : EndSettled works
  pub confirmed : status.answer ≡ Packet (record { items = [] })
