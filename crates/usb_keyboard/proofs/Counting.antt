-- A keyboard accepts no more commands than it was brought.
use Rattle.std.proofs.Common.{◌≡◌, ℕ, ◌+◌, ◌≤◌, ◌==◌, ◌&&◌, not, nat_lt, if◌then◌else◌, Bool, true, false, List, [], ◌∷◌, ◌++◌, length, drop, slice_index, Option, Some, None, Result, Err, refl, sym, ap, subst, ◌∙◌, arith}
use Rattle.std.specs.Option.{option_map}
use Rattle.std.specs.Result.{result_ok}
use Rattle.std.proofs.lemmas.List.{length-append, append-nil}
use Rattle.layers.specs.declared.code.KeymapError.{KeymapError}
use Rattle.layers.specs.declared.command.Command.{Command}
use Rattle.layers.specs.Codes.{is_between, DefaultCodes}
use Rattle.control_ep.specs.declared.answer.EpAnswer.TheVariants as Answers
use Rattle.control_ep.specs.Transfers.{HostReport, LedsWithId, LedsAlone, FeatureData}
use Rattle.control_ep.specs.Requests.{request_of}
use Rattle.usb_device.specs.Confirmed.{asked_of}
use Rattle.usb_device.specs.Guarding.{is_feature, writes, is_command, one_if, commands_taken}
use Rattle.keyboard.specs.Calls.{Call, Scanned, SetUp, Out, In, Polled, Worked, BusReset, setup_of, image_after, keymap}
use Rattle.keyboard.specs.Commands.{Accepted, accepts, accepted, accepted_with, accepted_before, command_in_report}
use Rattle.keyboard.specs.Effects.{report_of_value, report_named}
use Rattle.keyboard.specs.Feature.{command_of_bytes}
use Rattle.usb_keyboard.specs.Plain.{usb_calls}
use Rattle.usb_keyboard.proofs.Confirming.{asked_setup}

-- ---- a packet that is accepted is a command

feature_value : (a b c : Bool) → (if a then Some LedsWithId else (if b then Some LedsAlone else (if c then Some FeatureData else None))) ≡ Some FeatureData → c ≡ true
feature_value true b c e = cc
feature_value false true c e = cc
feature_value false false true e = refl
feature_value false false false e = cc

feature_request : (b : Bool) (value : Option HostReport) → (if b then value else None) ≡ Some FeatureData → (b ≡ true) × (value ≡ Some FeatureData)
feature_request true value e = (refl, e)
feature_request false value e = cc

both : (a b c : Bool) → (a && b) ≡ true → c ≡ true → (a && b && c) ≡ true
both true true c e f = f
both true false c e f = cc
both false b c e f = cc

pub feature_named : (setup : Option (List ℕ)) → report_named setup ≡ Some FeatureData → is_feature setup ≡ true
unfolding report_named
feature_named None e = cc
feature_named (Some setup) e =
    let r = request_of setup in
    let f = feature_request ((r.kind == 0x21) && (r.code == 0x09)) (report_of_value r.value) e in
    both (r.kind == 0x21) (r.code == 0x09) (r.value == 0x0303) f.0 (feature_value (r.value == 0x0201) (r.value == 0x0200) (r.value == 0x0303) f.1)

operation_by : (b : Bool) (rest : Result Command KeymapError) (error : KeymapError) (command : Command) → result_ok (if not b then Err error else rest) ≡ Some command → b ≡ true
operation_by true rest error command e = refl
operation_by false rest error command e = cc

writes_by : (n : ℕ) → is_between 1 3 n ≡ true → (nat_lt 0 n && nat_lt n 4) ≡ true
writes_by n e = grind (arith, e)

second : (packet : List ℕ) → slice_index (drop 1 packet) 0 ≡ slice_index packet 1
second [] = refl
second (x ∷ rest) = refl

writes_read : (packet : List ℕ) (command : Command) → result_ok (command_of_bytes (drop 1 packet)) ≡ Some command → writes packet ≡ true
writes_read packet command e =
    let b = operation_by (is_between 1 3 (slice_index (drop 1 packet) 0)) _ _ command e in
    ap (λ (n : ℕ). nat_lt 0 n && nat_lt n 4) (sym (second packet)) ∙ writes_by (slice_index (drop 1 packet) 0) b

no_command : (packet : List ℕ) (command : Command) (report : Option HostReport)
    → command_in_report (option_map (λ (r : HostReport). record { report = r; bytes = packet }) report) ≡ Some command → (report ≡ Some FeatureData) × (result_ok (command_of_bytes (drop 1 packet)) ≡ Some command)
no_command packet command None e = cc
no_command packet command (Some LedsWithId) e = cc
no_command packet command (Some LedsAlone) e = cc
no_command packet command (Some FeatureData) e = (refl, e)

is_taken : (before : List Call) (packet : List ℕ) (command : Command) → accepts before (Out packet Answers.Ack) ≡ Some command → is_command (usb_calls before) packet ≡ true
unfolding accepts is_command
is_taken before packet command e =
    let p = no_command packet command (report_named (setup_of before)) e in
    let f : is_feature (asked_of (usb_calls before)) ≡ true = ap is_feature (sym (asked_setup before)) ∙ feature_named (setup_of before) p.0 in
    rw f (writes_read packet command p.1)

-- ---- counted

-- one more, or none, on both sides
data Counts (old new taken_old taken_new : ℕ) : Type 0 where
  none : new ≡ old → taken_old ≤ taken_new → Counts old new taken_old taken_new
  one : new ≡ old + 1 → taken_new ≡ taken_old + 1 → Counts old new taken_old taken_new

add : Option Command → ℕ → ℕ
add (Some command) count = count + 1
add None count = count

at_least : (b : Bool) (count : ℕ) → count ≤ one_if b count
at_least true count = omega arith
at_least false count = omega arith

counts_out : (before : List Call) (packet : List ℕ) (o : Option Command) (count : ℕ) → accepts before (Out packet Answers.Ack) ≡ o
    → Counts count (add o count) (commands_taken (usb_calls before)) (one_if (is_command (usb_calls before) packet) (commands_taken (usb_calls before)))
unfolding add
counts_out before packet None count e = none refl (at_least (is_command (usb_calls before) packet) (commands_taken (usb_calls before)))
counts_out before packet (Some command) count e = one refl (ap (λ (b : Bool). one_if b (commands_taken (usb_calls before))) (is_taken before packet command e))

counts : (before : List Call) (call : Call) (count : ℕ) → Counts count (add (accepts before call) count) (commands_taken (usb_calls before)) (commands_taken (usb_calls (call ∷ before)))
unfolding accepts add
counts before (Scanned scan) count = none refl (omega arith)
counts before (SetUp bytes) count = none refl (omega arith)
counts before (Out packet Answers.Ack) count = counts_out before packet (accepts before (Out packet Answers.Ack)) count refl
counts before (Out packet Answers.Nak) count = none refl (omega arith)
counts before (Out packet (Answers.Packet bytes)) count = none refl (omega arith)
counts before (Out packet (Answers.Stall why)) count = none refl (omega arith)
counts before (In answer) count = none refl (omega arith)
counts before (Polled answer) count = none refl (omega arith)
counts before (Worked work image) count = none refl (omega arith)
counts before BusReset count = none refl (omega arith)

module _ (defaults : DefaultCodes) where
  length_with : (entries : ℕ → ℕ → ℕ) (after : List Call) (o : Option Command) (xs : List Accepted) → length (xs ++ accepted_with defaults entries after o) ≡ add o (length xs)
  unfolding add
  length_with entries after (Some command) xs = length-append xs _
  length_with entries after None xs = length-append xs [] ∙ (let e : length xs + 0 ≡ length xs = omega arith in e)

  -- how many were accepted does not hang on what became of them
  same_length : (start : List ℕ) (a b past : List Call) → length (accepted_before defaults start a past) ≡ length (accepted_before defaults start b past)
  same_length start a b [] = refl
  same_length start a b (call ∷ past) =
      length_with (keymap defaults (image_after start past)) a (accepts past call) (accepted_before defaults start (a ++ call ∷ []) past)
      ∙ ap (add (accepts past call)) (same_length start (a ++ call ∷ []) (b ++ call ∷ []) past)
      ∙ sym (length_with (keymap defaults (image_after start past)) b (accepts past call) (accepted_before defaults start (b ++ call ∷ []) past))

  one_call : (start : List ℕ) (call : Call) (past : List Call) → length (accepted defaults start (call ∷ past)) ≡ add (accepts past call) (length (accepted defaults start past))
  unfolding accepted
  one_call start call past =
      length_with (keymap defaults (image_after start past)) [] (accepts past call) (accepted_before defaults start (call ∷ []) past)
      ∙ ap (add (accepts past call)) (same_length start (call ∷ []) [] past)

step : (first first_taken old new taken_old taken_new : ℕ) → old + first_taken ≤ taken_old + first → Counts old new taken_old taken_new → new + first_taken ≤ taken_new + first
step first first_taken old new taken_old taken_new h (none e l) = rw e (omega (arith, h, l))
step first first_taken old new taken_old taken_new h (one e f) = rw (e, f) (omega (arith, h))

module _ (defaults : DefaultCodes) where
  pub no_more : (start : List ℕ) (since before : List Call)
      → length (accepted defaults start (since ++ before)) + commands_taken (usb_calls before) ≤ commands_taken (usb_calls (since ++ before)) + length (accepted defaults start before)
  no_more start [] before = omega arith
  no_more start (call ∷ since) before =
      let past = since ++ before in
      let c = counts past call (length (accepted defaults start past)) in
      let P : ℕ → Type 0 = λ x. Counts (length (accepted defaults start past)) x (commands_taken (usb_calls past)) (commands_taken (usb_calls (call ∷ past))) in
      step (length (accepted defaults start before)) (commands_taken (usb_calls before)) (length (accepted defaults start past)) (length (accepted defaults start (call ∷ past))) (commands_taken (usb_calls past)) (commands_taken (usb_calls (call ∷ past)))
      (no_more start since before) (subst P (sym (one_call defaults start call past)) c)

-- and no fewer than before
no_less_by : (o : Option Command) (count : ℕ) → count ≤ add o count
unfolding add
no_less_by (Some command) count = omega arith
no_less_by None count = omega arith

module _ (defaults : DefaultCodes) where
  pub no_less : (start : List ℕ) (since before : List Call) → length (accepted defaults start before) ≤ length (accepted defaults start (since ++ before))
  no_less start [] before = omega arith
  no_less start (call ∷ since) before =
      let h = no_less start since before in
      let e = one_call defaults start call (since ++ before) in
      let l = no_less_by (accepts (since ++ before) call) (length (accepted defaults start (since ++ before))) in
      rw e (omega (arith, h, l))

  pub at_most_taken : (start : List ℕ) (past : List Call) → length (accepted defaults start past) ≤ commands_taken (usb_calls past)
  unfolding accepted
  at_most_taken start past =
      let h : length (accepted defaults start (past ++ [])) + 0 ≤ commands_taken (usb_calls (past ++ [])) + 0 = no_more defaults start past [] in
      let P : List Call → Type 0 = λ xs. length (accepted defaults start xs) ≤ commands_taken (usb_calls xs) in
      subst P (append-nil past) (omega (arith, h))
