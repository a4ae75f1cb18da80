-- Trusted: endpoint 0 of a controller with buffers, and what may happen on its bus between two calls (USB 2.0 section 8.5.3). A
-- packet may be with the host while its ACK was lost: it is then sent again, and the host drops the repetition (section 8.6.4).
use Rattle.std.specs.Prelude.{◌≡◌, ℕ, ◌==◌, ◌&&◌, ◌||◌, nat_lt, not, is_some, Bool, true, false, List, [], ◌∷◌, slice_index, Option, Some, None}
use Rattle.usb_device.specs.declared.controller.Input.{Input}
use Rattle.usb_device.specs.declared.controller.Input.TheVariants as Inputs
use Rattle.usb_device.specs.declared.controller.Output.{Output}
use Rattle.usb_device.specs.declared.controller.Output.TheVariants as Outputs
use Rattle.usb_device.specs.Requests.{word_at}

-- what the host met on endpoint 0
pub data Seen : Type 0 where
  -- it sent this SETUP packet
  SetupSent : List ℕ → Seen
  -- the controller took this OUT packet and acknowledged it
  OutTaken : List ℕ → Seen
  -- it got this packet, anew
  InGot : List ℕ → Seen
  -- it was answered by STALL
  WasStalled : Seen
  -- it reset the bus
  WasReset : Seen

-- what IN tokens are answered: NAK, a packet (and whether the host has it already), or STALL
pub data InMode : Type 0 where
  Naks : InMode
  Sends : List ℕ → Bool → InMode
  Stalls : InMode

-- what OUT packets are answered: NAK, or ACK of the next one, or STALL
pub data OutMode : Type 0 where
  NaksOut : OutMode
  Takes : OutMode
  StallsOut : OutMode

-- what was met and not looked at
pub record Met : Type 0 where
  pub reset : Bool
  pub setup : Option (List ℕ)
  pub out : Option (List ℕ)
  pub taken : Bool

pub record Bus : Type 0 where
  -- newest first
  pub seen : List Seen
  pub input : InMode
  pub output : OutMode
  pub met : Met

abbrev pub nothing_met : Met
nothing_met = record { reset = false; setup = None; out = None; taken = false }

-- a SETUP packet or a reset has come that was not looked at
abbrev pub is_pending : Met → Bool
is_pending met = met.reset || is_some met.setup

abbrev pub got : List ℕ → Bool → List Seen → List Seen
got packet true seen = seen
got packet false seen = InGot packet ∷ seen

abbrev pub with_setup : Bus → List ℕ → Bus
with_setup b bytes = record {
  seen = SetupSent bytes ∷ b.seen;
  input = Naks;
  output = NaksOut;
  met = record { reset = b.met.reset; setup = Some bytes; out = b.met.out; taken = b.met.taken };
}

abbrev pub with_taken : Bus → List ℕ → Bool → Bus
with_taken b packet has = record {
  seen = got packet has b.seen;
  input = Naks;
  output = b.output;
  met = record { reset = b.met.reset; setup = b.met.setup; out = b.met.out; taken = true };
}

abbrev pub with_ack_lost : Bus → List ℕ → Bool → Bus
with_ack_lost b packet has = record { seen = got packet has b.seen; input = Sends packet true; output = b.output; met = b.met }

abbrev pub with_out : Bus → List ℕ → Bus
with_out b packet = record {
  seen = OutTaken packet ∷ b.seen;
  input = b.input;
  output = NaksOut;
  met = record { reset = b.met.reset; setup = b.met.setup; out = Some packet; taken = b.met.taken };
}

abbrev pub with_stall : Bus → Bus
with_stall b = record { seen = WasStalled ∷ b.seen; input = b.input; output = b.output; met = b.met }

abbrev pub with_reset : Bus → Bus
with_reset b = record {
  seen = WasReset ∷ b.seen;
  input = Naks;
  output = NaksOut;
  met = record { reset = true; setup = None; out = None; taken = false };
}

-- one thing happens on the bus
pub data Happens (b next : Bus) : Type 0 where
  sets_up : (bytes : List ℕ) → next ≡ with_setup b bytes → Happens b next
  takes_in : (packet : List ℕ) (has : Bool) → b.input ≡ Sends packet has → next ≡ with_taken b packet has → Happens b next
  loses_ack : (packet : List ℕ) (has : Bool) → b.input ≡ Sends packet has → next ≡ with_ack_lost b packet has → Happens b next
  brings_out : (packet : List ℕ) → b.output ≡ Takes → next ≡ with_out b packet → Happens b next
  stalls : next ≡ with_stall b → Happens b next
  resets : next ≡ with_reset b → Happens b next

-- any number of them, through these
abbrev pub Goes : List Bus → Bus → Bus → Type 0
Goes [] b next = next ≡ b
Goes (mid ∷ rest) b next = Happens b mid × Goes rest mid next

-- looked at
abbrev pub looked : Bus → Bus
looked b = record { seen = b.seen; input = b.input; output = b.output; met = nothing_met }

abbrev pub mode_of : Input → InMode
mode_of Inputs.Nak = Naks
mode_of (Inputs.Packet packet) = Sends packet.items false
mode_of Inputs.Stall = Stalls

abbrev pub out_mode_of : Output → OutMode
out_mode_of Outputs.Nak = NaksOut
out_mode_of Outputs.Take = Takes
out_mode_of Outputs.Stall = StallsOut

-- a command has no effect where a SETUP packet or a reset has come that was not looked at
abbrev pub unless_pending : Bool → Bus → Bus → Bus
unless_pending true b next = b
unless_pending false b next = next

abbrev pub with_input : Bus → InMode → Bus
with_input b mode = unless_pending (is_pending b.met) b (record { seen = b.seen; input = mode; output = b.output; met = b.met })

abbrev pub with_output : Bus → OutMode → Bus
with_output b mode = unless_pending (is_pending b.met) b (record { seen = b.seen; input = b.input; output = mode; met = b.met })

-- bit 7 of bmRequestType is clear: data go to the device (section 9.3.1)
abbrev pub is_out : List ℕ → Bool
is_out setup = nat_lt (slice_index setup 0) 128

-- a control write: data go to the device, and wLength is not 0
abbrev pub is_write : List ℕ → Bool
is_write setup = is_out setup && not (word_at setup 6 == 0)

-- the SETUP packet of the host's transfer
abbrev pub setup_of : List Seen → Option (List ℕ)
setup_of [] = None
setup_of (SetupSent bytes ∷ before) = Some bytes
setup_of (WasReset ∷ before) = None
setup_of (_ ∷ before) = setup_of before

-- of two OUT packets of a transfer the first counts
abbrev pub first_out : Option (List ℕ) → List ℕ → Option (List ℕ)
first_out (Some first) packet = Some first
first_out None packet = Some packet

-- the first OUT packet of the host's transfer
abbrev pub write_of : List Seen → Option (List ℕ)
write_of [] = None
write_of (SetupSent bytes ∷ before) = None
write_of (WasReset ∷ before) = None
write_of (OutTaken packet ∷ before) = first_out (write_of before) packet
write_of (_ ∷ before) = write_of before

-- the host got the empty packet in its transfer
abbrev pub has_ended : List Seen → Bool
has_ended [] = false
has_ended (SetupSent bytes ∷ before) = false
has_ended (WasReset ∷ before) = false
has_ended (InGot [] ∷ before) = true
has_ended (_ ∷ before) = has_ended before
