-- Trusted: the reports without usages that follow a new protocol, by the calls of the bus, newest first. A keyboard whose protocol is set
-- (HID 1.11 section 7.2.6) takes it that its host holds no usage, and where the idle rate is 0 (7.2.4) it sends a report again only where
-- keys change it. But its host may hold usages: of a report that it got before, whose release was dropped.
use Rattle.std.specs.Prelude.{◌≡◌, ℕ, ◌==◌, ◌&&◌, ◌||◌, not, Bool, true, false, List, [], ◌∷◌, length, replicate, slice_index, Option, Some, None}
use Rattle.usb_device.specs.declared.forgetting.Owed.{Owed}
use Rattle.usb_device.specs.declared.forgetting.Owed.TheVariants.{Nothing, Boot, Keys, Consumer, Both}
use Rattle.usb_device.specs.Bus1.{sets_protocol}
use Rattle.usb_device.specs.Calls.{EpCall, In, Polled, BusReset}
use Rattle.usb_device.specs.Confirmed.{asked_of}
use Rattle.usb_device.specs.States.{is_empty_packet}

-- a report of consumer usages has 9 bytes, any other is of keys
abbrev pub is_consumer : Option (List ℕ) → Bool
is_consumer (Some report) = length report == 9
is_consumer None = false

abbrev pub is_keys : Option (List ℕ) → Bool
is_keys (Some report) = not (length report == 9)
is_keys None = false

-- the host may hold usages of such a report: one was given since the last reset
abbrev pub gave_keys : List EpCall → Bool
gave_keys [] = false
gave_keys (Polled answer ∷ before) = is_keys answer || gave_keys before
gave_keys (BusReset ∷ before) = false
gave_keys (_ ∷ before) = gave_keys before

abbrev pub gave_consumer : List EpCall → Bool
gave_consumer [] = false
gave_consumer (Polled answer ∷ before) = is_consumer answer || gave_consumer before
gave_consumer (BusReset ∷ before) = false
gave_consumer (_ ∷ before) = gave_consumer before

-- the boot protocol has the number 0
abbrev pub names_boot : Option (List ℕ) → Bool
names_boot (Some setup) = slice_index setup 2 == 0
names_boot None = false

-- what is owed behind SET_PROTOCOL: the report of each kind of the new protocol that was given before. A host may have taken any report
-- for one of the boot protocol, whose reports have no Report ID.
abbrev pub owed_by : Bool → Bool → Bool → Owed
owed_by true false false = Nothing
owed_by true keys consumer = Boot
owed_by false true true = Both
owed_by false true false = Keys
owed_by false false true = Consumer
owed_by false false false = Nothing

-- the first of these is given, and so much is owed then
abbrev pub first_of : Owed → Option (List ℕ)
first_of Nothing = None
first_of Boot = Some (replicate 8 0)
first_of Keys = Some (1 ∷ replicate 22 0)
first_of Both = Some (1 ∷ replicate 22 0)
first_of Consumer = Some (2 ∷ replicate 8 0)

abbrev pub rest_of : Owed → Owed
rest_of Both = Consumer
rest_of _ = Nothing

abbrev pub owed_if : Bool → Owed → Owed → Owed
owed_if true new old = new
owed_if false new old = old

-- what is owed: since the protocol was set, which is when the empty packet of SET_PROTOCOL is given, each poll gave the first
abbrev pub owed : List EpCall → Owed
owed [] = Nothing
owed (In answer ∷ before) =
    owed_if (is_empty_packet answer && sets_protocol (asked_of before)) (owed_by (names_boot (asked_of before)) (gave_keys before) (gave_consumer before)) (owed before)
owed (Polled answer ∷ before) = rest_of (owed before)
owed (BusReset ∷ before) = Nothing
owed (_ ∷ before) = owed before

-- a poll goes to the device behind where nothing is owed, and all other calls always do
abbrev pub Passes : EpCall → List EpCall → Type 0
Passes (Polled answer) before = first_of (owed before) ≡ None
Passes _ before = Unit {0}

-- the calls of the bus, and those of them that the device behind has
pub data Shows : List EpCall → List EpCall → Type 0 where
  none : Shows [] []
  same : (call : EpCall) (calls kept : List EpCall) → Passes call calls → Shows calls kept → Shows (call ∷ calls) (call ∷ kept)
  instead : (report : List ℕ) (calls kept : List EpCall) → first_of (owed calls) ≡ Some report → Shows calls kept → Shows (Polled (Some report) ∷ calls) kept
