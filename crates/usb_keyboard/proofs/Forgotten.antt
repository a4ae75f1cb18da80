-- What a host is told to forget is nothing to the transfers of endpoint 0.
use Rattle.std.proofs.Common.{◌≡◌, ℕ, ◌+◌, ◌*◌, ◌≤◌, ◌<◌, ◌&&◌, Bool, true, List, ◌∷◌, ◌++◌, length, refl, ap, ◌∙◌, arith}
use Rattle.layers.specs.declared.command.Command.{Command}
use Rattle.layers.specs.Codes.{DefaultCodes}
use Rattle.keyboard.specs.Calls.{Call}
use Rattle.keyboard.specs.Commands.{accepted}
use Rattle.keyboard.specs.representation.Value.{KeyboardValue}
use Rattle.usb_device.specs.Bus1.{no_polls}
use Rattle.usb_device.specs.Calls.{EpCall, SetUp, Out, In, Polled, BusReset}
use Rattle.usb_device.specs.Bus.{Seen}
use Rattle.usb_device.specs.Confirmed.{asked_of, ConfirmedBefore}
use Rattle.usb_device.specs.Guarding.{GuardCall, AllGuarded, StaysLocked, is_feature, writes, is_command, is_locked, one_if, commands_taken, passed, scans}
use Rattle.usb_device.specs.declared.answer.EpAnswer.TheVariants.{Ack, Nak, Packet, Stall}
use Rattle.usb_device.proofs.Layering.{confirmed_same}
use Rattle.usb_device.proofs.Pacing.{taken, between, since_start as guard_start}
use Rattle.usb_device.specs.Forgetting.{Shows, none, same, instead}
use Rattle.usb_keyboard.specs.Plain.{usb_calls}
use Rattle.usb_keyboard.specs.Stored.{Brings}
use Rattle.usb_keyboard.specs.representation.Relation.{RefinesUsb, IsStored}
use Rattle.usb_keyboard.proofs.Counting.{no_more, no_less, at_most_taken}
use Rattle.usb_keyboard.proofs.Seen.{equal, at_a_pace}
use Rattle.usb_keyboard.proofs.Since.{stored}

same_transfers : (calls kept : List EpCall) → Shows calls kept → no_polls kept ≡ no_polls calls
same_transfers _ _ none = refl
same_transfers _ _ (same (SetUp bytes) calls kept p s) = ap (λ x. SetUp bytes ∷ x) (same_transfers calls kept s)
same_transfers _ _ (same (Out packet answer) calls kept p s) = ap (λ x. Out packet answer ∷ x) (same_transfers calls kept s)
same_transfers _ _ (same (In answer) calls kept p s) = ap (λ x. In answer ∷ x) (same_transfers calls kept s)
same_transfers _ _ (same (Polled answer) calls kept p s) = same_transfers calls kept s
same_transfers _ _ (same BusReset calls kept p s) = ap (λ x. BusReset ∷ x) (same_transfers calls kept s)
same_transfers _ _ (instead report calls kept d s) = same_transfers calls kept s

module _ (defaults : DefaultCodes) where
  pub stored_where_forgotten : (calls kept : List EpCall) (keyboard : KeyboardValue) (image : List ℕ) (later : List Seen) (setup data_ : List ℕ) (command : Command)
      → ConfirmedBefore later setup data_ calls → Shows calls kept → RefinesUsb defaults kept keyboard image → Brings setup data_ command
      → IsStored defaults later keyboard image command
  stored_where_forgotten calls kept keyboard_ image later setup data_ command w shows s b =
      stored defaults kept keyboard_ image later setup data_ command s (confirmed_same later setup data_ calls kept (same_transfers calls kept shows) w) b

-- ---- nor to the commands that are acknowledged

asked_same : (calls kept : List EpCall) → Shows calls kept → asked_of calls ≡ asked_of kept
asked_same _ _ none = refl
asked_same _ _ (same (SetUp bytes) calls kept p s) = refl
asked_same _ _ (same (Out packet answer) calls kept p s) = asked_same calls kept s
asked_same _ _ (same (In answer) calls kept p s) = asked_same calls kept s
asked_same _ _ (same (Polled answer) calls kept p s) = asked_same calls kept s
asked_same _ _ (same BusReset calls kept p s) = refl
asked_same _ _ (instead report calls kept d s) = asked_same calls kept s

command_same : (calls kept : List EpCall) (packet : List ℕ) → asked_of calls ≡ asked_of kept → is_command calls packet ≡ is_command kept packet
unfolding is_command
command_same calls kept packet e = ap (λ x. is_feature x && writes packet) e

both_same : (a b : Bool) (m n : ℕ) → a ≡ b → m ≡ n → one_if a m ≡ one_if b n
both_same a b m n e f = ap (λ (x : Bool). one_if x m) e ∙ ap (λ (k : ℕ). one_if b k) f

taken_same : (calls kept : List EpCall) → Shows calls kept → commands_taken calls ≡ commands_taken kept
taken_same _ _ none = refl
taken_same _ _ (same (SetUp bytes) calls kept p s) = taken_same calls kept s
taken_same _ _ (same (Out packet Ack) calls kept p s) =
    both_same (is_command calls packet) (is_command kept packet) (commands_taken calls) (commands_taken kept) (command_same calls kept packet (asked_same calls kept s)) (taken_same calls kept s)
taken_same _ _ (same (Out packet Nak) calls kept p s) = taken_same calls kept s
taken_same _ _ (same (Out packet (Packet bytes)) calls kept p s) = taken_same calls kept s
taken_same _ _ (same (Out packet Stall) calls kept p s) = taken_same calls kept s
taken_same _ _ (same (In answer) calls kept p s) = taken_same calls kept s
taken_same _ _ (same (Polled answer) calls kept p s) = taken_same calls kept s
taken_same _ _ (same BusReset calls kept p s) = taken_same calls kept s
taken_same _ _ (instead report calls kept d s) = taken_same calls kept s

module _ (defaults : DefaultCodes) where
  pub since : (start : List ℕ) (later past : List Call) (calls more : List EpCall) → Shows calls (usb_calls past) → Shows more (usb_calls (later ++ past))
      → length (accepted defaults start (later ++ past)) + commands_taken calls ≤ commands_taken more + length (accepted defaults start past)
  since start later past calls more s t =
      let a = taken_same calls (usb_calls past) s in
      let b = taken_same more (usb_calls (later ++ past)) t in
      let h = no_more defaults start later past in
      omega (arith, a, b, h)

  pub locked : (pace : ℕ) (since_then before : List GuardCall) (start : List ℕ) (later past : List Call) → is_locked before ≡ true → StaysLocked since_then
      → Shows (passed pace before) (usb_calls past) → Shows (passed pace (since_then ++ before)) (usb_calls (later ++ past)) → length (accepted defaults start (later ++ past)) ≡ length (accepted defaults start past)
  locked pace since_then before start later past l s p q =
      let h = since start later past (passed pace before) (passed pace (since_then ++ before)) p q in
      let e = taken pace since_then before l s in
      equal _ _ (omega (arith, h, e)) (no_less defaults start later past)

  pub paced : (pace : ℕ) (since_then before : List GuardCall) (start : List ℕ) (later past : List Call) → AllGuarded pace (since_then ++ before) → scans since_then < pace
      → Shows (passed pace before) (usb_calls past) → Shows (passed pace (since_then ++ before)) (usb_calls (later ++ past)) → length (accepted defaults start (later ++ past)) ≤ length (accepted defaults start past) + 1
  paced pace since_then before start later past all s p q =
      let h = since start later past (passed pace before) (passed pace (since_then ++ before)) p q in
      let e = between pace since_then before all s in
      omega (arith, h, e)

  pub since_start : (pace : ℕ) (met : List GuardCall) (start : List ℕ) (past : List Call) → AllGuarded pace met → Shows (passed pace met) (usb_calls past)
      → length (accepted defaults start past) * pace ≤ scans met
  since_start pace met start past all s =
      let a = taken_same (passed pace met) (usb_calls past) s in
      let h = at_most_taken defaults start past in
      at_a_pace (length (accepted defaults start past)) (commands_taken (passed pace met)) pace (scans met) (omega (arith, a, h)) (guard_start pace met all)
