-- Trusted: a maker's lock and pace of feature commands, by the calls of a device that stands before another, newest first.
use Rattle.std.specs.Prelude.{◌≡◌, ℕ, ◌+◌, ◌==◌, ◌&&◌, ◌||◌, nat_lt, Bool, true, false, List, [], ◌∷◌, ◌++◌, slice_index, Option, Some, None}
use Rattle.usb_device.specs.declared.answer.EpAnswer.{EpAnswer}
use Rattle.usb_device.specs.declared.answer.EpAnswer.TheVariants.{Ack, Nak, Stall}
use Rattle.usb_device.specs.Calls.{EpCall, SetUp, Out, In, Polled, BusReset}
use Rattle.usb_device.specs.Requests.{word_at}
use Rattle.usb_device.specs.Confirmed.{asked_of}

pub data GuardCall : Type 0 where
  -- a call of the device, and its answer
  Met : EpCall → GuardCall
  -- the maker sets the lock, or takes it away
  Locked : Bool → GuardCall
  -- a scan of the matrix
  Scanned : GuardCall

-- what of it came over the bus
abbrev pub calls_met : List GuardCall → List EpCall
calls_met [] = []
calls_met (Met call ∷ before) = call ∷ calls_met before
calls_met (Locked on ∷ before) = calls_met before
calls_met (Scanned ∷ before) = calls_met before

abbrev pub scans : List GuardCall → ℕ
scans [] = 0
scans (Met call ∷ before) = scans before
scans (Locked on ∷ before) = scans before
scans (Scanned ∷ before) = scans before + 1

-- a SETUP packet of SET_REPORT for the feature report, ID 3 (HID 1.11 section 7.2.2)
abbrev pub is_feature : Option (List ℕ) → Bool
is_feature None = false
is_feature (Some setup) = (slice_index setup 0 == 0x21) && (slice_index setup 1 == 0x09) && (word_at setup 2 == 0x0303)

-- the operation, behind the Report ID, is one that writes the keymap
abbrev pub writes : List ℕ → Bool
writes packet = nat_lt 0 (slice_index packet 1) && nat_lt (slice_index packet 1) 4

-- an OUT packet is a feature command
unfoldable pub is_command : List EpCall → List ℕ → Bool
is_command before packet = is_feature (asked_of before) && writes packet

abbrev pub one_if : Bool → ℕ → ℕ
one_if true count = count + 1
one_if false count = count

-- how many feature commands a device was shown, and how many it acknowledged
abbrev pub commands_shown : List EpCall → ℕ
commands_shown [] = 0
commands_shown (Out packet answer ∷ before) = one_if (is_command before packet) (commands_shown before)
commands_shown (_ ∷ before) = commands_shown before

abbrev pub commands_taken : List EpCall → ℕ
commands_taken [] = 0
commands_taken (Out packet Ack ∷ before) = one_if (is_command before packet) (commands_taken before)
commands_taken (_ ∷ before) = commands_taken before

-- the lock is set: at the start it is not
abbrev pub is_locked : List GuardCall → Bool
is_locked [] = false
is_locked (Locked on ∷ before) = on
is_locked (Met call ∷ before) = is_locked before
is_locked (Scanned ∷ before) = is_locked before

-- a feature command came in the transfer under way while the lock was set: the device behind does not see it, nor the rest of
-- the transfer
unfoldable pub is_refused : List GuardCall → Bool
is_refused [] = false
is_refused (Met (SetUp bytes) ∷ before) = false
is_refused (Met BusReset ∷ before) = false
is_refused (Met (Out packet answer) ∷ before) = is_refused before || (is_locked before && is_command (calls_met before) packet)
is_refused (_ ∷ before) = is_refused before

-- the longest pace, in scans: a host waits 5 seconds for a status stage (USB 2.0 section 9.2.6.1)
abbrev pub most_pace : ℕ
most_pace = 4000

abbrev pub zero_if : Bool → ℕ → ℕ
zero_if true count = 0
zero_if false count = count

-- the scans since the newest feature command that was acknowledged, or since the start
unfoldable pub scans_since : List GuardCall → ℕ
scans_since [] = 0
scans_since (Scanned ∷ before) = scans_since before + 1
scans_since (Met (Out packet Ack) ∷ before) = zero_if (is_command (calls_met before) packet) (scans_since before)
scans_since (_ ∷ before) = scans_since before

-- what becomes of an OUT packet: it is stalled, or put off, or goes on to the device behind
pub data Passage : Type 0 where
  Refuses : Passage
  Waits : Passage
  Passes : Passage

abbrev pub passage_by : Bool → Bool → Passage
passage_by true waits = Refuses
passage_by false true = Waits
passage_by false false = Passes

-- a command is refused under the lock, and put off where fewer scans than the pace came since the one before
unfoldable pub passage : ℕ → List GuardCall → List ℕ → Passage
passage pace past packet =
    passage_by (is_refused past || (is_locked past && is_command (calls_met past) packet))
    (is_command (calls_met past) packet && nat_lt (scans_since past) pace)

abbrev pub OutAnswer : Passage → EpAnswer → Type 0
OutAnswer Refuses answer = answer ≡ Stall
OutAnswer Waits answer = answer ≡ Nak
OutAnswer Passes answer = Unit {0}

abbrev pub StallIf : Bool → EpAnswer → Type 0
StallIf true answer = answer ≡ Stall
StallIf false answer = Unit {0}

-- the answer of a call; that of the device behind is its own
abbrev pub IsGuarded : ℕ → List GuardCall → GuardCall → Type 0
IsGuarded pace past (Met (Out packet answer)) = OutAnswer (passage pace past packet) answer
IsGuarded pace past (Met (In answer)) = StallIf (is_refused past) answer
IsGuarded pace past _ = Unit {0}

abbrev pub AllGuarded : ℕ → List GuardCall → Type 0
AllGuarded pace [] = Unit {0}
AllGuarded pace (call ∷ past) = IsGuarded pace past call × AllGuarded pace past

abbrev pub call_by : Passage → EpCall → List EpCall → List EpCall
call_by Passes call calls = call ∷ calls
call_by _ call calls = calls

abbrev pub call_unless : Bool → EpCall → List EpCall → List EpCall
call_unless true call calls = calls
call_unless false call calls = call ∷ calls

-- the session of the device behind
unfoldable pub passed : ℕ → List GuardCall → List EpCall
passed pace [] = []
passed pace (Met (Out packet answer) ∷ before) = call_by (passage pace before packet) (Out packet answer) (passed pace before)
passed pace (Met (In answer) ∷ before) = call_unless (is_refused before) (In answer) (passed pace before)
passed pace (Met (SetUp bytes) ∷ before) = SetUp bytes ∷ passed pace before
passed pace (Met (Polled answer) ∷ before) = Polled answer ∷ passed pace before
passed pace (Met BusReset ∷ before) = BusReset ∷ passed pace before
passed pace (Locked on ∷ before) = passed pace before
passed pace (Scanned ∷ before) = passed pace before

-- the lock is not taken away in these calls
abbrev pub StaysLocked : List GuardCall → Type 0
StaysLocked [] = Unit {0}
StaysLocked (Locked on ∷ before) = (on ≡ true) × StaysLocked before
StaysLocked (_ ∷ before) = StaysLocked before

-- these calls bring no packet of another transfer, and no other packet of this one
abbrev pub IsStatusStage : List GuardCall → Type 0
IsStatusStage [] = Unit {0}
IsStatusStage (Met (SetUp bytes) ∷ before) = ⊥
IsStatusStage (Met (Out packet answer) ∷ before) = ⊥
IsStatusStage (Met BusReset ∷ before) = ⊥
IsStatusStage (_ ∷ before) = IsStatusStage before

-- a call of a whole device, by what it is to the guard
pub data DeviceCall : Type 0 where
  -- `serve`
  Serves : DeviceCall
  -- `set_locked`
  SetsLock : Bool → DeviceCall
  -- `scan_rows`
  ScansRows : DeviceCall
  -- `scan`, `work`, `suspended`, `resumed`, `wakes`
  Else : DeviceCall

-- these calls all came over the bus
abbrev pub OnlyMet : List GuardCall → Type 0
OnlyMet [] = Unit {0}
OnlyMet (Met call ∷ before) = OnlyMet before
OnlyMet (Locked on ∷ before) = ⊥
OnlyMet (Scanned ∷ before) = ⊥

-- what a call of the whole device brings the guard
abbrev pub Brings : DeviceCall → List GuardCall → Type 0
Brings Serves since = OnlyMet since
Brings (SetsLock on) since = since ≡ Locked on ∷ []
Brings ScansRows since = since ≡ Scanned ∷ []
Brings Else since = since ≡ []

-- what several bring it, newest first
abbrev pub AllBring : List DeviceCall → List GuardCall → Type 0
AllBring [] since = since ≡ []
AllBring (call ∷ before) since = (new old : List GuardCall) × Brings call new × AllBring before old × (since ≡ new ++ old)

-- the lock is set, by the calls of the whole device: at the start it is not
abbrev pub locks : List DeviceCall → Bool
locks [] = false
locks (SetsLock on ∷ before) = on
locks (_ ∷ before) = locks before

-- none of these calls takes it away
abbrev pub KeepsLock : List DeviceCall → Type 0
KeepsLock [] = Unit {0}
KeepsLock (SetsLock on ∷ before) = (on ≡ true) × KeepsLock before
KeepsLock (_ ∷ before) = KeepsLock before

abbrev pub rows_scanned : List DeviceCall → ℕ
rows_scanned [] = 0
rows_scanned (ScansRows ∷ before) = rows_scanned before + 1
rows_scanned (_ ∷ before) = rows_scanned before
