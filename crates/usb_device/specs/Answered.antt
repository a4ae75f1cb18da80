-- Trusted: what a transfer on endpoint 0 brings: what the device layer serves, or what the device behind it gives (USB 2.0 section 9.4).
use Rattle.std.specs.Prelude.{◌≡◌, ℕ, true, List, [], ◌∷◌, ◌++◌, take, Option, Some, None}
use Rattle.usb_device.specs.declared.answer.EpAnswer.TheVariants.{Stall}
use Rattle.usb_device.specs.Calls.{EpCall, SetUp, Out, In, Polled, BusReset}
use Rattle.usb_device.specs.Requests.{Lent, Served, Reads, Sets, request_of, served, word_at}
use Rattle.usb_device.specs.Events.{Event, SetupCame, ResetCame}
use Rattle.usb_device.specs.Steps.{session}
use Rattle.usb_device.specs.States.{setup_in, endpoint_by, wakeup_by}
use Rattle.usb_device.specs.Through.{calls_of}
use Rattle.usb_device.specs.WholeReads.{joined, is_last}
use Rattle.usb_device.specs.Given.{given_of}

-- what the layer serves in the transfer under way (tables 9-3 and 9-4); none where it leaves the request to the device behind
abbrev pub served_in : Lent → List Event → Option Served
served_in lent [] = None
served_in lent (SetupCame bytes ∷ before) = served lent (endpoint_by lent before) (wakeup_by lent before) (request_of bytes)
served_in lent (ResetCame ∷ before) = None
served_in lent (_ ∷ before) = served_in lent before

-- the packets bring that: bytes from the first on, at most wLength, and all of them where the newest packet ends the read (section 5.5.3);
-- or the empty packet; or what the device behind gave
abbrev pub Brings : Option Served → List ℕ → List (List ℕ) → List (List ℕ) → Type 0
Brings (Some (Reads bytes)) setup packets theirs =
    (rest : List ℕ) × (take (word_at setup 6) bytes ≡ joined packets ++ rest)
    × ((last : List ℕ) (before : List (List ℕ)) → packets ≡ last ∷ before → is_last (word_at setup 6) last before ≡ true → rest ≡ [])
Brings (Some (Sets change)) setup packets theirs = joined packets ≡ []
Brings None setup packets theirs = packets ≡ theirs

-- each packet of the session's transfer was stalled
abbrev pub AllStalled : List EpCall → Type 0
AllStalled [] = Unit {0}
AllStalled (SetUp bytes ∷ before) = Unit {0}
AllStalled (BusReset ∷ before) = Unit {0}
AllStalled (In answer ∷ before) = (answer ≡ Stall) × AllStalled before
AllStalled (Out packet answer ∷ before) = (answer ≡ Stall) × AllStalled before
AllStalled (Polled answer ∷ before) = AllStalled before

-- at some moment of the history these were the packets of the transfer of this SETUP packet, and they bring that
pub record WasAnswered (lent : Lent) (past : List Event) (setup : List ℕ) (packets : List (List ℕ)) : Type 0 where
  pub since : List Event
  pub moment : List Event
  pub past_is : past ≡ since ++ moment
  pub asked : setup_in moment ≡ Some setup
  pub given : given_of (calls_of moment) ≡ packets
  pub brings : Brings (served_in lent moment) setup packets (given_of (session lent moment))
