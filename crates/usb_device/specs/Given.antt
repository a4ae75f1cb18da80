-- Trusted: the packets of a transfer on endpoint 0: those that the host got, and those that the device gave (USB 2.0 sections 5.5.3 and
-- 8.5.3).
use Rattle.std.specs.Prelude.{◌≡◌, ◌⊎◌, ℕ, ◌==◌, ◌||◌, ◌&&◌, not, Bool, true, false, List, [], ◌∷◌, ◌++◌, Some}
use Rattle.usb_device.specs.declared.answer.EpAnswer.TheVariants.{Nak, Packet}
use Rattle.usb_device.specs.Calls.{EpCall, SetUp, Out, In, BusReset}
use Rattle.usb_device.specs.Bus.{Seen, SetupSent, OutTaken, InGot, WasReset, InMode, Naks, Sends, Stalls, is_out, setup_of}
use Rattle.usb_device.specs.Confirmed.{asked_of}
use Rattle.usb_device.specs.Requests.{word_at}
use Rattle.usb_device.specs.WholeReads.{is_last}

-- a control read: data come from the device, and wLength is not 0
abbrev pub is_read : List ℕ → Bool
is_read setup = not (is_out setup) && not (word_at setup 6 == 0)

-- the packets that the host got in its transfer, newest first
abbrev pub got_of : List Seen → List (List ℕ)
got_of [] = []
got_of (SetupSent bytes ∷ before) = []
got_of (WasReset ∷ before) = []
got_of (InGot packet ∷ before) = packet ∷ got_of before
got_of (_ ∷ before) = got_of before

-- the OUT packets that the controller took in it
abbrev pub outs_of : List Seen → List (List ℕ)
outs_of [] = []
outs_of (SetupSent bytes ∷ before) = []
outs_of (WasReset ∷ before) = []
outs_of (OutTaken packet ∷ before) = packet ∷ outs_of before
outs_of (_ ∷ before) = outs_of before

-- the packets that the device gave in the session's transfer
abbrev pub given_of : List EpCall → List (List ℕ)
given_of [] = []
given_of (SetUp bytes ∷ before) = []
given_of (BusReset ∷ before) = []
given_of (In (Packet packet) ∷ before) = packet.items ∷ given_of before
given_of (_ ∷ before) = given_of before

-- the OUT packets of it that the device answered, and did not put off
abbrev pub heard_of : List EpCall → List (List ℕ)
heard_of [] = []
heard_of (SetUp bytes ∷ before) = []
heard_of (BusReset ∷ before) = []
heard_of (Out packet Nak ∷ before) = heard_of before
heard_of (Out packet answer ∷ before) = packet ∷ heard_of before
heard_of (_ ∷ before) = heard_of before

-- all is given: the newest packet ends the read; or there is one, of the status stage
abbrev pub all_given : List ℕ → List (List ℕ) → Bool
all_given setup [] = false
all_given setup (last ∷ before) = not (is_read setup) || is_last (word_at setup 6) last before

-- what IN tokens are answered, by the packets that the host got and those that the device gave: the host got all of them, or all but the
-- newest, which stands in the buffer, or which a stall took back
abbrev pub Hands : InMode → List (List ℕ) → List (List ℕ) → Type 0
Hands Naks got given = given ≡ got
Hands (Sends packet true) got given = (before : List (List ℕ)) × (got ≡ packet ∷ before) × (given ≡ got)
Hands (Sends packet false) got given = given ≡ packet ∷ got
Hands Stalls got given = (given ≡ got) ⊎ ((packet : List ℕ) × (given ≡ packet ∷ got))

-- at some moment of the session these were the packets that the device gave in the transfer of this SETUP packet
abbrev pub WereGiven : List ℕ → List (List ℕ) → List EpCall → Type 0
WereGiven setup packets [] = ⊥
WereGiven setup packets (call ∷ before) =
    ((asked_of (call ∷ before) ≡ Some setup) × (given_of (call ∷ before) ≡ packets)) ⊎ WereGiven setup packets before

-- whatever the host got in a transfer, the device had given in it: just these packets, in this order, and no other
abbrev pub AllGiven : List Seen → List EpCall → Type 0
AllGiven seen calls =
    (after before : List Seen) (setup packet : List ℕ) → seen ≡ after ++ (InGot packet ∷ before) → setup_of before ≡ Some setup
    → WereGiven setup (packet ∷ got_of before) calls
