-- A whole control write, call by call.
use Rattle.std.proofs.Common.{◌≡◌, ◌≢◌, ◌==◌, ℕ, ◌+◌, length, true, false, drop, List, [], ◌∷◌, ◌++◌, Some, Result, Ok, Err, refl, sym, ap, subst, ◌∙◌, append_assoc, arith}
use Rattle.std.proofs.lemmas.List.{nil_from_length}
use Rattle.std.specs.Result.{result_ok}
use Rattle.std.specs.Prelude.{MatchResult}
use Rattle.keyboard.specs.representation.Value.{KeyboardValue}
use Rattle.usb_keyboard.specs.representation.Relation.{RunsSince}
use Rattle.layers.specs.declared.command.Command.{Command}
use Rattle.layers.specs.Codes.{DefaultCodes}
use Rattle.control_ep.specs.declared.answer.EpAnswer.{EpAnswer as Answer}
use Rattle.control_ep.specs.declared.answer.EpAnswer.TheVariants as Answers
use Rattle.usb_device.specs.declared.whole_transfers.TransferError.{TransferError}
use Rattle.usb_device.specs.declared.whole_transfers.TransferError.TheVariants.{Refused, Busy}
use Rattle.usb_device.specs.declared.whole_transfers.Status.{Status}
use Rattle.usb_device.specs.declared.whole_transfers.Status.TheVariants.{Done, Waits, Refuses}
use Rattle.usb_device.specs.Whole.{data_status_of, status_by, status_of}
use Rattle.keymap_store.specs.declared.store.Work.{Work}
use Rattle.keymap_store.specs.declared.store.Work.TheVariants as Works
use Rattle.page_turnover.specs.Steps.{CountsAs}
use Rattle.keyboard.specs.Acknowledged.{confirmation, NoneAcceptedWrites, IsConfirmed}
use Rattle.keyboard.specs.Bounded.{IsInTime}
use Rattle.keyboard.specs.Calls.{Call, SetUp, Out, In, Worked}
use Rattle.keyboard.specs.Commands.{accepts}
use Rattle.keyboard.specs.Feature.{command_of_bytes}
use Rattle.keyboard.specs.Conforming.{IsConforming}
use Rattle.keyboard.specs.Single.{NoneFails}
use Rattle.usb_keyboard.specs.Plain.{plain}
use Rattle.usb_keyboard.specs.Whole.{put_off, data_calls, IsWritten, Fails, in_data, HasNoEffect, Stores}
use Rattle.usb_keyboard.specs.representation.Whole.{Gives, IsStatusStage, WasInTime, NotConfirmed}
use Rattle.usb_keyboard.proofs.Confirming.{accepted_by}
use Rattle.usb_keyboard.proofs.Faults.{Raises, one_more}
use Rattle.usb_keyboard.proofs.Ending.{same_transfer, ended, not_taken, none_taken}
use Rattle.usb_keyboard.proofs.Keeping.{has_confirmed}

-- ---- the data

gives_by : (byte : ℕ) (bytes : List ℕ) (answer : Answer) → Gives (data_status_of (plain answer)) (byte ∷ bytes) (Out (byte ∷ bytes) answer ∷ [])
gives_by byte bytes Answers.Ack = refl
gives_by byte bytes Answers.Nak = (tt, refl)
gives_by byte bytes (Answers.Packet packet) = (tt, Answers.Packet packet, refl, refl)
gives_by byte bytes (Answers.Stall why) = (tt, Answers.Stall why, refl, refl)

pub gives : (data_ : List ℕ) (answer : Answer) (status : Status) → (length data_ == 0) ≡ false → status ≡ data_status_of (plain answer) → Gives status data_ (Out data_ answer ∷ [])
gives [] answer status e s = cc
gives (byte ∷ bytes) answer status e s =
    let P : Status → Type 0 = λ x. Gives x (byte ∷ bytes) (Out (byte ∷ bytes) answer ∷ []) in
    subst P (sym s) (gives_by byte bytes answer)

pub gives_none : (data_ : List ℕ) → (length data_ == 0) ≡ true → Gives Done data_ []
gives_none data_ e = let n : length data_ ≡ 0 = grind (arith, e) in rw (nil_from_length data_ n) refl

-- ---- the status stage

never : (bytes : List ℕ) → status_by bytes ≡ Waits → ⊥
never [] f = cc
never (x ∷ rest) f = cc

nak_is : (answer : Answer) → status_of (plain answer) ≡ Waits → answer ≡ Answers.Nak
nak_is Answers.Nak e = refl
nak_is Answers.Ack e = cc
nak_is (Answers.Packet packet) e = absurd (never packet.items e)
nak_is (Answers.Stall why) e = cc

empty : (bytes : List ℕ) → status_by bytes ≡ Done → bytes ≡ []
empty [] f = refl
empty (x ∷ rest) f = cc

pub done_by : (steps : List (Work × List ℕ)) (answer : Answer) → status_of (plain answer) ≡ Done → IsStatusStage (In answer ∷ put_off steps)
done_by steps Answers.Ack e = cc
done_by steps Answers.Nak e = cc
done_by steps (Answers.Packet packet) e = (steps, ap (λ xs. In (Answers.Packet (record { items = xs })) ∷ put_off steps) (empty packet.items e))
done_by steps (Answers.Stall why) e = cc

module _ (defaults : DefaultCodes) where
  pub waited_more : (start : List ℕ) (past : List Call) (steps : List (Work × List ℕ)) (answer : Answer) (work : Work) (keyboard : KeyboardValue) (image : List ℕ) (count : ℕ) (healthy : Type 0) → status_of (plain answer) ≡ Waits
      → RunsSince defaults start (Worked work image ∷ In answer ∷ put_off steps ++ past) keyboard image → IsInTime defaults start (put_off steps ++ past) → length steps ≡ count
      → (healthy → NoneFails (put_off steps)) → (healthy → work ≢ Works.Failed) → (operations operations_after old new newer : ℕ) → Raises steps old new
      → CountsAs (work ≡ Works.Idle) (work ≡ Works.Failed) operations operations_after new newer
      → (more : List (Work × List ℕ)) × RunsSince defaults start (put_off more ++ past) keyboard image × (length more ≡ count + 1) × WasInTime defaults start past more × (healthy → NoneFails (put_off more)) × Raises more old newer
  waited_more start past steps answer work keyboard image count healthy e r t n f w operations operations_after old new newer b c =
      let P : Answer → Type 0 = λ a. RunsSince defaults start (Worked work image ∷ In a ∷ put_off steps ++ past) keyboard image in
      ((work, image) ∷ steps, subst P (nak_is answer e) r, omega (arith, n), t, (λ x. (w x, f x)), one_more steps work image operations operations_after old new newer b c)

-- ---- the whole

written_by : (setup data_ : List ℕ) (status taken : List Call) → IsStatusStage status → taken ≡ data_calls data_ → IsWritten setup data_ (status ++ (taken ++ SetUp setup ∷ []))
written_by setup data_ status taken s t = record {
  steps = s.0;
  since_is = ap (λ l. l ++ (taken ++ SetUp setup ∷ [])) s.1 ∙ ap (λ l. confirmation ∷ put_off s.0 ++ (l ++ SetUp setup ∷ [])) t;
}

module _ (defaults : DefaultCodes) where
  none_accepted_by : (steps : List (Work × List ℕ)) (past : List Call) (layer key : ℕ) → NoneAcceptedWrites defaults (put_off steps) past layer key
  unfolding accepts
  none_accepted_by [] past layer key = tt
  none_accepted_by (step ∷ before) past layer key = (tt, (tt, none_accepted_by before past layer key))

  confirmation_leaves : (steps : List (Work × List ℕ)) (past : List Call) (layer key : ℕ) → NoneAcceptedWrites defaults (confirmation ∷ put_off steps) past layer key
  unfolding accepts
  confirmation_leaves steps past layer key = (tt, none_accepted_by steps past layer key)

no_data : (command : Command) → result_ok (command_of_bytes (drop 1 [])) ≡ Some command → ⊥
no_data command e = cc

module _ (defaults : DefaultCodes) where
  pub stores : (start : List ℕ) (past since : List Call) (setup data_ : List ℕ) → IsConforming defaults start (since ++ past) → IsWritten setup data_ since → Stores defaults start (since ++ past) setup data_
  stores start past since setup [] conforming w = λ command layer key code b l k x. absurd (no_data command b.read)
  stores start past since setup (byte ∷ bytes) conforming w = λ command layer key code b l k x.
      let packet : Call = Out (byte ∷ bytes) Answers.Ack in
      let before : List Call = SetUp setup ∷ past in
      let is : since ++ past ≡ confirmation ∷ put_off w.steps ++ packet ∷ before =
      ap (λ l. l ++ past) w.since_is ∙ append_assoc (confirmation ∷ put_off w.steps) (packet ∷ SetUp setup ∷ []) past in
      let c : IsConfirmed (since ++ past) before command = record {
        packet = packet;
        between = put_off w.steps;
        after = [];
        past_is = is;
        accepted = accepted_by before setup (byte ∷ bytes) command refl b.named b.read;
        same_transfer = same_transfer w.steps;
      } in
      has_confirmed defaults start (since ++ past) before command layer key code l k conforming c x (confirmation_leaves defaults w.steps (packet ∷ before) layer key)

  by_result : {U A B : Type 0} (result : Result U TransferError) (P Q : TransferError → Type 0) → MatchResult result (λ _. A) P → (A → B) → ((e : TransferError) → P e → Q e) → MatchResult result (λ _. B) Q
  by_result (Ok u) P Q m f h = f m
  by_result (Err e) P Q m f h = h e m

  pub whole : {U : Type 0} (start : List ℕ) (past : List Call) (setup data_ : List ℕ) (taken status : List Call) (keyboard : KeyboardValue) (image : List ℕ) (result : Result U TransferError)
      → Gives Done data_ taken → RunsSince defaults start (status ++ (taken ++ SetUp setup ∷ past)) keyboard image
      → MatchResult result (λ _. IsStatusStage status) (λ e. NotConfirmed defaults start (taken ++ SetUp setup ∷ past) e status)
      → (since : List Call) × RunsSince defaults start (since ++ past) keyboard image
      × MatchResult result (λ _. IsWritten setup data_ since × Stores defaults start (since ++ past) setup data_) (λ e. Fails e setup data_ since × HasNoEffect defaults start past since)
  whole start past setup data_ taken status keyboard image result t r m =
      let since : List Call = status ++ (taken ++ SetUp setup ∷ []) in
      let same : since ++ past ≡ status ++ (taken ++ SetUp setup ∷ past) =
      append_assoc status (taken ++ SetUp setup ∷ []) past ∙ ap (λ l. status ++ l) (append_assoc taken (SetUp setup ∷ []) past) in
      let P : List Call → Type 0 = λ xs. RunsSince defaults start xs keyboard image in
      let runs : RunsSince defaults start (since ++ past) keyboard image = subst P (sym same) r in (
        since,
        runs,
        by_result result (λ e. NotConfirmed defaults start (taken ++ SetUp setup ∷ past) e status) (λ e. Fails e setup data_ since × HasNoEffect defaults start past since) m
            (λ s. (let w = written_by setup data_ status taken s t in (w, stores start past since setup data_ runs.refines.answered w)))
            (λ e n. ended defaults start past setup data_ e taken status t r.refines.answered n),
      )

  pub put_off_data : (start : List ℕ) (past : List Call) (setup data_ : List ℕ) (taken : List Call) (keyboard : KeyboardValue) (image : List ℕ) → Gives Waits data_ taken
      → RunsSince defaults start (taken ++ SetUp setup ∷ past) keyboard image → (since : List Call) × RunsSince defaults start (since ++ past) keyboard image × (Fails Busy setup data_ since × HasNoEffect defaults start past since)
  put_off_data start past setup data_ taken keyboard image t r =
      let P : List Call → Type 0 = λ xs. RunsSince defaults start (xs ++ SetUp setup ∷ past) keyboard image in
      (Out data_ Answers.Nak ∷ SetUp setup ∷ [], subst P t.1 r, (refl, none_taken defaults start past setup data_ Answers.Nak not_nak))
    where
      not_nak : Answers.Nak ≡ Answers.Ack → ⊥
      not_nak e = cc

  pub refused_data : (start : List ℕ) (past : List Call) (setup data_ : List ℕ) (taken : List Call) (keyboard : KeyboardValue) (image : List ℕ) → Gives Refuses data_ taken
      → RunsSince defaults start (taken ++ SetUp setup ∷ past) keyboard image → (since : List Call) × RunsSince defaults start (since ++ past) keyboard image × (Fails Refused setup data_ since × HasNoEffect defaults start past since)
  refused_data start past setup data_ taken keyboard image t r =
      let P : List Call → Type 0 = λ xs. RunsSince defaults start (xs ++ SetUp setup ∷ past) keyboard image in
      (Out data_ t.1 ∷ SetUp setup ∷ [], subst P t.3 r, (in_data t.1 t.2 refl, none_taken defaults start past setup data_ t.1 (not_taken t.1 t.2)))
