-- What a keyboard behind a lock and a pace accepts.
use Rattle.std.proofs.Common.{◌≡◌, ℕ, ◌+◌, ◌*◌, ◌≤◌, ◌<◌, List, ◌++◌, length, true, sym, ap, subst, ◌∙◌, arith}
use Rattle.layers.specs.Codes.{DefaultCodes}
use Rattle.keyboard.specs.Calls.{Call}
use Rattle.keyboard.specs.Commands.{accepted}
use Rattle.usb_device.specs.Calls.{EpCall}
use Rattle.usb_device.specs.Guarding.{GuardCall, AllGuarded, StaysLocked, is_locked, passed, scans, commands_taken}
use Rattle.usb_device.proofs.Pacing.{taken, between, since_start}
use Rattle.usb_keyboard.specs.Plain.{usb_calls}
use Rattle.usb_keyboard.proofs.Counting.{no_more, no_less, at_most_taken}

pub equal : (a b : ℕ) → a ≤ b → b ≤ a → a ≡ b
equal a b l k = omega (arith, l, k)

module _ (defaults : DefaultCodes) where
  pub locked : (pace : ℕ) (since before : List GuardCall) (start : List ℕ) (later past : List Call) → is_locked before ≡ true → StaysLocked since
      → usb_calls past ≡ passed pace before → usb_calls (later ++ past) ≡ passed pace (since ++ before) → length (accepted defaults start (later ++ past)) ≡ length (accepted defaults start past)
  locked pace since before start later past l s p q =
      let same : commands_taken (usb_calls (later ++ past)) ≡ commands_taken (usb_calls past) = ap commands_taken q ∙ taken pace since before l s ∙ ap commands_taken (sym p) in
      let h = no_more defaults start later past in
      equal _ _ (omega (arith, h, same)) (no_less defaults start later past)

  pub paced : (pace : ℕ) (since before : List GuardCall) (start : List ℕ) (later past : List Call) → AllGuarded pace (since ++ before) → scans since < pace
      → usb_calls past ≡ passed pace before → usb_calls (later ++ past) ≡ passed pace (since ++ before) → length (accepted defaults start (later ++ past)) ≤ length (accepted defaults start past) + 1
  paced pace since before start later past all s p q =
      let a = ap commands_taken q in
      let b = ap commands_taken p in
      let c = between pace since before all s in
      let h = no_more defaults start later past in
      omega (arith, a, b, c, h)

pub at_a_pace : (accepted_count taken_count pace total : ℕ) → accepted_count ≤ taken_count → taken_count * pace ≤ total → accepted_count * pace ≤ total
at_a_pace accepted_count taken_count pace total a t = grind (arith, a, t)

module _ (defaults : DefaultCodes) where
  pub from_start : (pace : ℕ) (met : List GuardCall) (start : List ℕ) (past : List Call) → AllGuarded pace met → usb_calls past ≡ passed pace met → length (accepted defaults start past) * pace ≤ scans met
  from_start pace met start past all p =
      let l : length (accepted defaults start past) ≤ commands_taken (passed pace met) = (let P : List EpCall → Type 0 = λ x. length (accepted defaults start past) ≤ commands_taken x in subst P p (at_most_taken defaults start past)) in
      at_a_pace (length (accepted defaults start past)) (commands_taken (passed pace met)) pace (scans met) l (since_start pace met all)
