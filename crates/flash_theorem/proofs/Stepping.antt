-- One step more of a history that a keyboard with its host, on some flash, stands for.
use Rattle.std.proofs.Common.{◌≡◌, ◌≢◌, ◌∙◌, ℕ, ◌+◌, ◌%◌, ◌^◌, Bool, false, not, is_some, if◌then◌else◌, IsSome, Option, Some, None, List, [], ◌∷◌, refl, sym, ap, subst, arith}
use Rattle.arrayvec.specs.ArrayVec.{ArrayVec}
use Rattle.records.specs.Slots.{encoded}
use Rattle.flash_model.specs.ByMask.{IsMask}
use Rattle.flash_model.specs.Image.{IsImage}
use Rattle.flash_model.specs.Operated.{Outcome, IsOperated}
use Rattle.flash_model.specs.Sim.{SimValue}
use Rattle.flash_model.proofs.ByMask.{program_mask, erase_mask}
use Rattle.layers.specs.Codes.{DefaultCodes}
use Rattle.layers.specs.declared.command.Command.{Command}
use Rattle.page_turnover.specs.declared.operation.Operation.{Operation}
use Rattle.page_turnover.specs.declared.operation.Operation.TheVariants.{Program, Erase}
use Rattle.page_turnover.specs.Next.{Makes, MayMake, on_flash}
use Rattle.keymap_store.specs.declared.store.Work.{Work as WorkAnswer}
use Rattle.keymap_store.specs.declared.store.Work.TheVariants.{Idle, Working, Settled, Failed}
use Rattle.control_ep.specs.declared.answer.EpAnswer.{EpAnswer}
use Rattle.host.specs.declared.gatherer.Host.{Host}
use Rattle.host.specs.declared.reading.Reading.{Reading}
use Rattle.host.specs.Calls.{lost}
use Rattle.host.specs.Reads.{text_by, Reads}
use Rattle.host.specs.representation.Refines as host_refines
use Rattle.keyboard.specs.Calls.{Out, In, Polled, Worked as KeyboardWorked, image_after, keymap}
use Rattle.keyboard.specs.Commands.{working}
use Rattle.keyboard.specs.Effects.{protocol_after}
use Rattle.keyboard.specs.Feature.{yes, no}
use Rattle.keyboard.specs.Conforming as device
use Rattle.keyboard.specs.Operated.{LosesNothing, Works}
use Rattle.keyboard.specs.representation.Relation as keyboard_refines
use Rattle.keyboard.specs.representation.Value.{KeyboardValue}
use Rattle.keyboard.proofs.Working.{made}
use Rattle.world.specs.Heard.{heard, with_heard}
use Rattle.world.specs.declared.injector.Operation.{Operation as Asked}
use Rattle.world.specs.declared.event.Answer.{Answer}
use Rattle.world.specs.declared.event.Answer.TheVariants as answer
use Rattle.world.specs.declared.event.Event.{Event}
use Rattle.world.specs.declared.event.Event.TheVariants as event
use Rattle.world.specs.Erases.{made_in}
use Rattle.world.specs.Flash.{armed_by}
use Rattle.world.specs.History.{Session, session_with, session, heard_in, host_calls, flash_after}
use Rattle.world.specs.Kinds.{Step, Kind, starts, calls, kind_of, as_answer, work_reported}
use Rattle.world.specs.Conforming.{Answered, MayRefuse, is_no_memory, OperatedAs, WorksIn}
use Rattle.world.specs.Order.{found_by}
use Rattle.world.specs.representation.Relation as world
use Rattle.world.specs.representation.Value.{WorldValue}
use Rattle.world.proofs.Here.{here}
use Rattle.world.proofs.Standing.{more, asked_for, out_reported, in_reported, entry_shown}
use Rattle.flash_theorem.specs.declared.board.Happening.{Happening}
use Rattle.flash_theorem.specs.declared.board.Happening.TheVariants as happening
use Rattle.flash_theorem.specs.declared.board.Reported.{Reported}
use Rattle.flash_theorem.specs.Happenings.{IsAs}
use Rattle.flash_theorem.specs.representation.Relation.{Refines, GoesOn}

-- the world that a keyboard, its host and a flash stand for
abbrev as_world : (start : SimValue) (past : List Step) (asked : Option Asked) (keyboard : KeyboardValue) (host : Host) → WorldValue
as_world start past asked keyboard host = record { keyboard = keyboard; host = host; flash = flash_after start past; asked = asked }

-- ---- events that leave the flash as it is

whole : (old : List ℕ) (operation : Operation) (new : List ℕ) → Makes old operation new → Outcome old (on_flash operation) None new
whole old (Program page slot word) new m = m
whole old (Erase page) new m = m

torn : (old : List ℕ) (operation : Operation) (new : List ℕ) → IsImage old → IsImage new → LosesNothing old operation → MayMake old operation new → (mask : List ℕ) × (IsMask mask × Outcome old (on_flash operation) (Some mask) new)
torn old (Program page slot word) new i j l m = program_mask old new page slot (encoded word) i j l.0 l.1 m
torn old (Erase page) new i j l m = erase_mask old new page i j l.0 m

-- the flash after an operation
abbrev next_flash : SimValue → List ℕ → SimValue
next_flash old image = record { image = image; armed = None; operations = (old.operations + 1) % 2 ^ 64; faults = if is_some old.armed then (old.faults + 1) % 2 ^ 64 else old.faults }

module _ (defaults : DefaultCodes) where
  still : (start : SimValue) (past : List Step) (keyboard : KeyboardValue) (host : Host) (image : List ℕ) (s : Refines defaults start past keyboard host image) (h : Happening) (e : Event) (reported : Reported) (next_keyboard : KeyboardValue) (next_host : Host) → IsAs h reported.answer e
      → world.Refines defaults start (record { event = e; answer = reported.answer; flash = flash_after start past; refused = reported.refused } ∷ past) (record { keyboard = next_keyboard; host = next_host; flash = flash_after start past; asked = s.asked })
      → GoesOn defaults start past h reported next_keyboard next_host image
  still start past keyboard host image s h e reported next_keyboard next_host i w = record {
    step = record { event = e; answer = reported.answer; flash = flash_after start past; refused = reported.refused };
    event_is = i;
    answer_is = refl;
    refused_is = refl;
    refines = record { asked = s.asked; world = w; image_is = s.image_is; unarmed = s.unarmed };
  }

  -- an event that is none of the flash work
  pub plain : (start : SimValue) (past : List Step) (keyboard next_keyboard : KeyboardValue) (host next_host : Host) (image : List ℕ) (h : Happening) (e : Event) (a : Answer) (r : Bool) (k : Kind) → IsAs h a e
      → kind_of e a (flash_after start past).image ≡ k → found_by e (flash_after start past) ≡ None → Refines defaults start past keyboard host image
      → Answered defaults (session start past) (host_calls past) (flash_after start past) e a r (flash_after start past)
      → (let now = session_with k (flash_after start past).image (session start past) in keyboard_refines.Refines defaults now.first now.past next_keyboard)
      → host_refines.Refines (with_heard (heard_in k (not r)) (host_calls past)) next_host
      → GoesOn defaults start past h (record { answer = a; refused = r }) next_keyboard next_host image
  plain start past keyboard next_keyboard host next_host image h e a r k i is none s by d l =
      still start past keyboard host image s h e (record { answer = a; refused = r }) next_keyboard next_host i
      (more defaults start past (as_world start past s.asked keyboard host) e a r (as_world start past s.asked next_keyboard next_host) k is s.world by d l (rw none s.world.asked))

  pub out_goes_on : (start : SimValue) (past : List Step) (keyboard next : KeyboardValue) (host : Host) (image : List ℕ) (packet : ArrayVec ℕ) (bytes : List ℕ) (by_ep : EpAnswer) → bytes ≡ packet.items → Refines defaults start past keyboard host image
      → keyboard_refines.Refines defaults (session start past).first (Out bytes by_ep ∷ (session start past).past) next → device.IsAnswered defaults (session start past).first (session start past).past (Out bytes by_ep)
      → GoesOn defaults start past (happening.OutPacket packet) (record { answer = as_answer by_ep; refused = false }) next host image
  out_goes_on start past keyboard next host image packet bytes by_ep e s d a =
      still start past keyboard host image s (happening.OutPacket packet) (event.OutPacket packet) (record { answer = as_answer by_ep; refused = false }) next host refl
      (out_reported defaults start past (as_world start past s.asked keyboard host) packet bytes by_ep next e s.world d a)

  pub in_goes_on : (start : SimValue) (past : List Step) (keyboard next : KeyboardValue) (host next_host : Host) (image : List ℕ) (by_ep : EpAnswer) (refused : Bool) → Refines defaults start past keyboard host image
      → keyboard_refines.Refines defaults (session start past).first (In by_ep ∷ (session start past).past) next → device.IsAnswered defaults (session start past).first (session start past).past (In by_ep)
      → host_refines.Refines (with_heard (heard (In by_ep) (not refused)) (host_calls past)) next_host → MayRefuse (host_calls past) by_ep refused
      → GoesOn defaults start past happening.InPacket (record { answer = as_answer by_ep; refused = refused }) next next_host image
  in_goes_on start past keyboard next host next_host image by_ep refused s d a h m =
      still start past keyboard host image s happening.InPacket event.InPacket (record { answer = as_answer by_ep; refused = refused }) next next_host refl
      (in_reported defaults start past (as_world start past s.asked keyboard host) by_ep refused next next_host s.world d a h m)

  pub entry_goes_on : (start : SimValue) (past : List Step) (keyboard : KeyboardValue) (host : Host) (image : List ℕ) (layer key code : ℕ) → Refines defaults start past keyboard host image
      → code ≡ keymap defaults (image_after (session start past).first (session start past).past) layer key
      → GoesOn defaults start past (happening.Entry layer key) (record { answer = answer.EntryIs code; refused = false }) keyboard host image
  entry_goes_on start past keyboard host image layer key code s e =
      still start past keyboard host image s (happening.Entry layer key) (event.Entry layer key) (record { answer = answer.EntryIs code; refused = false }) keyboard host refl
      (entry_shown defaults start past (as_world start past s.asked keyboard host) layer key code s.world e)

  pub poll_goes_on : (start : SimValue) (past : List Step) (keyboard next : KeyboardValue) (host : Host) (image : List ℕ) (bytes : ArrayVec ℕ) (reading : Reading) → Refines defaults start past keyboard host image
      → keyboard_refines.Refines defaults (session start past).first (Polled (Some bytes.items) ∷ (session start past).past) next → device.IsAnswered defaults (session start past).first (session start past).past (Polled (Some bytes.items))
      → Reads (text_by (protocol_after (session start past).past) (host_calls past)) bytes.items reading
      → GoesOn defaults start past happening.Poll (record { answer = answer.Sent bytes reading; refused = is_no_memory reading }) next host image
  poll_goes_on start past keyboard next host image bytes reading s d a r =
      plain start past keyboard next host host image happening.Poll event.Poll (answer.Sent bytes reading) (is_no_memory reading) (calls (Polled (Some bytes.items))) refl refl refl s
      (Some bytes.items, a, refl, (reading, refl, r, refl)) d s.world.host

  pub nak_goes_on : (start : SimValue) (past : List Step) (keyboard next : KeyboardValue) (host : Host) (image : List ℕ) → Refines defaults start past keyboard host image
      → keyboard_refines.Refines defaults (session start past).first (Polled None ∷ (session start past).past) next → device.IsAnswered defaults (session start past).first (session start past).past (Polled None)
      → GoesOn defaults start past happening.Poll (record { answer = answer.Nak; refused = false }) next host image
  nak_goes_on start past keyboard next host image s d a =
      plain start past keyboard next host host image happening.Poll event.Poll answer.Nak false (calls (Polled None)) refl refl refl s (None, a, refl, (refl, refl)) d s.world.host

  pub cut_goes_on : (start : SimValue) (past : List Step) (keyboard next : KeyboardValue) (host next_host : Host) (image : List ℕ) (cut_starts : ArrayVec ℕ) → Refines defaults start past keyboard host image
      → keyboard_refines.Refines defaults image [] next → host_refines.Refines (lost ∷ host_calls past) next_host
      → GoesOn defaults start past (happening.Cut cut_starts) (record { answer = answer.Restarted; refused = false }) next next_host image
  cut_goes_on start past keyboard next host next_host image cut_starts s d h =
      plain start past keyboard next host next_host image (happening.Cut cut_starts) event.Cut answer.Restarted false starts refl refl refl s (refl, (refl, refl))
      (subst (λ (x : List ℕ). keyboard_refines.Refines defaults x [] next) (sym s.image_is) d) h

  -- ---- a step of the flash work, on a flash of which nothing is armed

  -- the simulated flash that it makes, and how it is armed
  record Made (now : Session) (old armed : SimValue) (work : WorkAnswer) (image : List ℕ) : Type 0 where
    new : SimValue
    image_is : new.image ≡ image
    unarmed : new.armed ≡ None
    works_in : WorksIn defaults now old armed work new

  operated : (now : Session) (command : Command) (before old : SimValue) (work : WorkAnswer) (new : SimValue) → working defaults now.first now.past ≡ Some command → (w : Works defaults now.first now.past command (image_after now.first now.past) work new.image)
      → IsOperated old (on_flash w.operation) new → (work ≡ Failed → IsSome old.armed) → OperatedAs defaults now before old work new
  operated now command before old Idle new on w o f = absurd w.outcome
  operated now command before old Working new on w o f = record { command = command; works_on = on; step = w; is_such = o }
  operated now command before old Settled new on w o f = record { command = command; works_on = on; step = w; is_such = o }
  operated now command before old Failed new on w o f = (record { command = command; works_on = on; step = w; is_such = o }, f refl)

  -- what an operation leaves that was made whole, on a flash of which nothing is armed, or that was torn by a mask
  makes : (now : Session) (command : Command) (before old : SimValue) (work : WorkAnswer) (image : List ℕ) → working defaults now.first now.past ≡ Some command → image_after now.first now.past ≡ old.image
      → device.IsAnswered defaults now.first now.past (KeyboardWorked work image) → (w : Works defaults now.first now.past command (image_after now.first now.past) work image) → Outcome (image_after now.first now.past) (on_flash w.operation) old.armed image
      → (work ≡ Failed → IsSome old.armed) → Made now before old work image
  makes now command before old work image on here a w o f = record {
    new = next_flash old image;
    image_is = refl;
    unarmed = refl;
    works_in = record {
      conforming = a;
      operated = operated now command before old work (next_flash old image) on w
          (record { outcome = subst (λ (x : List ℕ). Outcome x (on_flash w.operation) old.armed image) here o; armed = refl; operations = refl; faults = refl }) f;
    };
  }

  -- where no command works nothing is made
  rests : (now : Session) (old armed : SimValue) (work : WorkAnswer) (image : List ℕ) → work ≡ Idle → image ≡ old.image → old.armed ≡ None → device.IsAnswered defaults now.first now.past (KeyboardWorked work image) → Made now old armed work image
  rests now old armed Idle image e i n a = record {
    new = old;
    image_is = sym i;
    unarmed = n;
    works_in = record { conforming = subst (λ (x : List ℕ). device.IsAnswered defaults now.first now.past (KeyboardWorked Idle x)) i a; operated = refl };
  }
  rests now old armed Working image e i n a = cc
  rests now old armed Settled image e i n a = cc
  rests now old armed Failed image e i n a = cc

  idle_never_fails : (work : WorkAnswer) → work ≡ Idle → work ≢ Failed
  idle_never_fails work i f = cc

  -- a step of the flash work is a whole one, or fails, torn by a mask
  data Stepped (now : Session) (old : SimValue) (work : WorkAnswer) (image : List ℕ) : Type 0 where
    by_whole : (work ≢ Failed) → Made now old old work image → Stepped now old work image
    by_mask : (work ≡ Failed) → (mask : List ℕ) → IsMask mask → Made now old (armed_by mask old) work image → Stepped now old work image

  by_torn : (now : Session) (command : Command) (old : SimValue) (work : WorkAnswer) (image : List ℕ) → working defaults now.first now.past ≡ Some command → image_after now.first now.past ≡ old.image → IsImage old.image → IsImage image
      → device.IsAnswered defaults now.first now.past (KeyboardWorked work image) → Works defaults now.first now.past command (image_after now.first now.past) work image
      → (mask : List ℕ) × (IsMask mask × Made now old (armed_by mask old) work image)
  by_torn now command old work image on here i j a w =
      let first : IsImage (image_after now.first now.past) = subst (λ (x : List ℕ). IsImage x) (sym here) i in
      let t = torn (image_after now.first now.past) w.operation image first j w.loses_nothing (made (image_after now.first now.past) w.operation work image first w.attempts) in
      (t.0, (t.1.0, makes now command old (armed_by t.0 old) work image on here a w t.1.1 (λ e. refl)))

  by_answer : (now : Session) (command : Command) (old : SimValue) (work : WorkAnswer) (image : List ℕ) → working defaults now.first now.past ≡ Some command → image_after now.first now.past ≡ old.image → old.armed ≡ None → IsImage old.image → IsImage image
      → device.IsAnswered defaults now.first now.past (KeyboardWorked work image) → Works defaults now.first now.past command (image_after now.first now.past) work image → Stepped now old work image
  by_answer now command old Idle image on here n i j a w = absurd w.outcome
  by_answer now command old Working image on here n i j a w =
      by_whole (λ e. cc) (makes now command old old Working image on here a w (subst (λ (m : Option (List ℕ)). Outcome (image_after now.first now.past) (on_flash w.operation) m image) (sym n) (whole (image_after now.first now.past) w.operation image (w.attempts.done (λ e. cc)).0)) (λ e. cc))
  by_answer now command old Settled image on here n i j a w =
      by_whole (λ e. cc) (makes now command old old Settled image on here a w (subst (λ (m : Option (List ℕ)). Outcome (image_after now.first now.past) (on_flash w.operation) m image) (sym n) (whole (image_after now.first now.past) w.operation image (w.attempts.done (λ e. cc)).0)) (λ e. cc))
  by_answer now command old Failed image on here n i j a w = (let t = by_torn now command old Failed image on here i j a w in by_mask refl t.0 t.1.0 t.1.1)

  by_command : (now : Session) (w : Option Command) (old : SimValue) (work : WorkAnswer) (image : List ℕ) → working defaults now.first now.past ≡ w → image_after now.first now.past ≡ old.image → old.armed ≡ None → IsImage old.image → IsImage image
      → device.IsAnswered defaults now.first now.past (KeyboardWorked work image) → device.WorkedOn defaults now.first now.past w work image → Stepped now old work image
  by_command now None old work image on here n i j a (idle, same) = by_whole (idle_never_fails work idle) (rests now old old work image idle (same ∙ here) n a)
  by_command now (Some command) old work image on here n i j a w = by_answer now command old work image on here n i j a w

  cut_by : (now : Session) (w : Option Command) (old : SimValue) (work : WorkAnswer) (image : List ℕ) → working defaults now.first now.past ≡ w → image_after now.first now.past ≡ old.image → old.armed ≡ None → IsImage old.image → IsImage image
      → device.IsAnswered defaults now.first now.past (KeyboardWorked work image) → device.WorkedOn defaults now.first now.past w work image → (mask : List ℕ) × (IsMask mask × Made now old (armed_by mask old) work image)
  cut_by now None old work image on here n i j a (idle, same) = ([], (record { most = omega arith; bytes = λ k. omega arith }, rests now old (armed_by [] old) work image idle (same ∙ here) n a))
  cut_by now (Some command) old work image on here n i j a w = by_torn now command old work image on here i j a w

  -- ---- such a step of a history

  worked_step : (start : SimValue) (past : List Step) (keyboard next : KeyboardValue) (host : Host) (image new_image : List ℕ) (work : WorkAnswer) (s : Refines defaults start past keyboard host image) → keyboard_refines.Refines defaults (session start past).first (KeyboardWorked work new_image ∷ (session start past).past) next
      → Stepped (session start past) (flash_after start past) work new_image → GoesOn defaults start past happening.Work (record { answer = answer.Worked work; refused = false }) next host new_image
  worked_step start past keyboard next host image new_image work s d (by_whole never m) =
      let asked : Option Asked = asked_for (made_in defaults (session start past) (found_by event.Work (flash_after start past))) in
      let w : WorldValue = record { keyboard = next; host = host; flash = m.new; asked = asked } in
      let refines = subst (λ (x : List ℕ). keyboard_refines.Refines defaults (session start past).first (KeyboardWorked work x ∷ (session start past).past) next) (sym m.image_is) d in
      record {
        step = record { event = event.Work; answer = answer.Worked work; flash = m.new; refused = false };
        event_is = no (λ reported. never (ap work_reported reported)) refl;
        answer_is = refl;
        refused_is = refl;
        refines = record {
          asked = asked;
          world = more defaults start past (as_world start past s.asked keyboard host) event.Work (answer.Worked work) false w (calls (KeyboardWorked work m.new.image)) refl s.world (work, refl, m.works_in, refl) refines s.world.host refl;
          image_is = m.image_is;
          unarmed = m.unarmed;
        };
      }
  worked_step start past keyboard next host image new_image work s d (by_mask fails mask is m) =
      let torn_by : ArrayVec ℕ = record { items = mask } in
      let asked : Option Asked = asked_for (made_in defaults (session start past) (found_by (event.WorkFault torn_by) (flash_after start past))) in
      let w : WorldValue = record { keyboard = next; host = host; flash = m.new; asked = asked } in
      let refines = subst (λ (x : List ℕ). keyboard_refines.Refines defaults (session start past).first (KeyboardWorked work x ∷ (session start past).past) next) (sym m.image_is) d in
      record {
        step = record { event = event.WorkFault torn_by; answer = answer.Worked work; flash = m.new; refused = false };
        event_is = yes (ap answer.Worked fails) (torn_by, is, refl);
        answer_is = refl;
        refused_is = refl;
        refines = record {
          asked = asked;
          world = more defaults start past (as_world start past s.asked keyboard host) (event.WorkFault torn_by) (answer.Worked work) false w (calls (KeyboardWorked work m.new.image)) refl s.world (work, refl, m.works_in, refl) refines s.world.host refl;
          image_is = m.image_is;
          unarmed = m.unarmed;
        };
      }

  pub work_goes_on : (start : SimValue) (past : List Step) (keyboard next : KeyboardValue) (host : Host) (image new_image : List ℕ) (work : WorkAnswer) → Refines defaults start past keyboard host image → IsImage image → IsImage new_image
      → keyboard_refines.Refines defaults (session start past).first (KeyboardWorked work new_image ∷ (session start past).past) next → device.IsAnswered defaults (session start past).first (session start past).past (KeyboardWorked work new_image)
      → GoesOn defaults start past happening.Work (record { answer = answer.Worked work; refused = false }) next host new_image
  work_goes_on start past keyboard next host image new_image work s i j d a =
      let now : Session = session start past in
      worked_step start past keyboard next host image new_image work s d
      (by_command now (working defaults now.first now.past) (flash_after start past) work new_image refl (here defaults start past s.world.answered).image s.unarmed (subst (λ (x : List ℕ). IsImage x) (sym s.image_is) i) j a a)

  pub cut_in_work_goes_on : (start : SimValue) (past : List Step) (keyboard next : KeyboardValue) (host next_host : Host) (image new_image : List ℕ) (count : ℕ) (cut_starts : ArrayVec ℕ) (work : WorkAnswer) → Refines defaults start past keyboard host image → IsImage image → IsImage new_image
      → device.IsAnswered defaults (session start past).first (session start past).past (KeyboardWorked work new_image) → keyboard_refines.Refines defaults new_image [] next → host_refines.Refines (lost ∷ host_calls past) next_host
      → GoesOn defaults start past (happening.CutInWork count cut_starts) (record { answer = answer.Restarted; refused = false }) next next_host new_image
  cut_in_work_goes_on start past keyboard next host next_host image new_image count cut_starts work s i j a d h =
      let now : Session = session start past in
      let t = cut_by now (working defaults now.first now.past) (flash_after start past) work new_image refl (here defaults start past s.world.answered).image s.unarmed (subst (λ (x : List ℕ). IsImage x) (sym s.image_is) i) j a a in
      let torn_by : ArrayVec ℕ = record { items = t.0 } in
      let m : Made now (flash_after start past) (armed_by t.0 (flash_after start past)) work new_image = t.1.1 in
      let asked : Option Asked = asked_for (made_in defaults now (found_by (event.CutInWork torn_by) (flash_after start past))) in
      let w : WorldValue = record { keyboard = next; host = next_host; flash = m.new; asked = asked } in
      record {
        step = record { event = event.CutInWork torn_by; answer = answer.Restarted; flash = m.new; refused = false };
        event_is = (torn_by, t.1.0, refl);
        answer_is = refl;
        refused_is = refl;
        refines = record {
          asked = asked;
          world = more defaults start past (as_world start past s.asked keyboard host) (event.CutInWork torn_by) answer.Restarted false w starts refl s.world (work, refl, m.works_in, refl)
              (subst (λ (x : List ℕ). keyboard_refines.Refines defaults x [] next) (sym m.image_is) d) h refl;
          image_is = m.image_is;
          unarmed = m.unarmed;
        };
      }

  -- the first flash has the image, and nothing is armed
  pub refines_first : (first : SimValue) (keyboard : KeyboardValue) (host : Host) (image : List ℕ) → first.image ≡ image → first.armed ≡ None → keyboard_refines.Refines defaults image [] keyboard → host_refines.Refines [] host
      → Refines defaults first [] keyboard host image
  refines_first first keyboard host image e n d h = record {
    asked = None;
    world = record { keyboard = subst (λ (x : List ℕ). keyboard_refines.Refines defaults x [] keyboard) (sym e) d; host = h; flash = refl; asked = refl; answered = tt };
    image_is = e;
    unarmed = n;
  }
