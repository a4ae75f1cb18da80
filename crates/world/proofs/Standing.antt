-- One step more of a history that a world stands for.
use Rattle.std.proofs.Common.{◌≡◌, ◌≢◌, ℕ, Bool, false, not, IsSome, Option, Some, None, List, [], ◌∷◌, refl, sym, ◌∙◌, ap, subst}
use Rattle.arrayvec.specs.ArrayVec.{ArrayVec}
use Rattle.std.specs.Option.{option_map}
use Rattle.layers.specs.Codes.{DefaultCodes}
use Rattle.layers.specs.declared.command.Command.{Command}
use Rattle.flash_model.specs.Operated.{IsOperated}
use Rattle.flash_model.specs.Sim.{SimValue}
use Rattle.control_ep.specs.declared.answer.EpAnswer.{EpAnswer}
use Rattle.page_turnover.specs.Next.{on_flash}
use Rattle.page_turnover.specs.declared.operation.Operation.{Operation as FlashWork}
use Rattle.keymap_store.specs.declared.store.Work.{Work as WorkAnswer}
use Rattle.keymap_store.specs.declared.store.Work.TheVariants.{Idle, Working, Settled, Failed}
use Rattle.host.specs.declared.gatherer.Host.{Host}
use Rattle.host.specs.Calls.{lost}
use Rattle.host.specs.representation.Refines as host_refines
use Rattle.keyboard.specs.Calls.{Out, In, Worked as KeyboardWorked, image_after, keymap}
use Rattle.keyboard.specs.Commands.{working}
use Rattle.keyboard.specs.Conforming as keyboard
use Rattle.keyboard.specs.representation.Relation as keyboard_refines
use Rattle.keyboard.specs.representation.Value.{KeyboardValue}
use Rattle.world.specs.declared.injector.Operation.{Operation}
use Rattle.world.specs.declared.event.Event.{Event}
use Rattle.world.specs.declared.event.Event.TheVariants.{OutPacket, InPacket, Work, WorkFault, CutInWork, Entry}
use Rattle.world.specs.declared.event.Answer.{Answer}
use Rattle.world.specs.declared.event.Answer.TheVariants.{Worked, Restarted, EntryIs}
use Rattle.world.specs.Asked.{noted, asked_by, asked_after}
use Rattle.world.specs.Erases.{next_in, made_in}
use Rattle.world.specs.Flash.{armed_by}
use Rattle.world.specs.Kinds.{Step, Kind, starts, calls, looks, kind_of, as_answer}
use Rattle.world.specs.Heard.{heard, with_heard}
use Rattle.world.specs.History.{Session, session_with, session, heard_in, host_calls, flash_after}
use Rattle.world.specs.Conforming.{Answered, MayRefuse, MakesOn, OperatedAs, WorksIn}
use Rattle.world.specs.Order.{found_by}
use Rattle.world.specs.representation.Relation.{Refines}
use Rattle.world.specs.representation.Value.{WorldValue}
use Rattle.world.proofs.Here.{here, by_endpoint}

-- what is noted of an operation
abbrev pub asked_for : Option FlashWork → Option Operation
asked_for made = option_map (λ operation. noted (on_flash operation)) made

some_armed : (armed : Option (List ℕ)) → (armed ≡ None → ⊥) → IsSome armed
some_armed None n = absurd (n refl)
some_armed (Some mask) n = refl

module _ (defaults : DefaultCodes) where
  -- a step of any kind
  pub more : (start : SimValue) (past : List Step) (old : WorldValue) (event : Event) (answer : Answer) (refused : Bool) (new : WorldValue) (k : Kind) → kind_of event answer new.flash.image ≡ k
      → Refines defaults start past old → Answered defaults (session start past) (host_calls past) (flash_after start past) event answer refused new.flash
      → (let now = session_with k new.flash.image (session start past) in keyboard_refines.Refines defaults now.first now.past new.keyboard)
      → host_refines.Refines (with_heard (heard_in k (not refused)) (host_calls past)) new.host
      → new.asked ≡ asked_by (found_by event (flash_after start past)) (asked_for (made_in defaults (session start past) (found_by event (flash_after start past)))) (asked_after defaults start past)
      → Refines defaults start (record { event = event; answer = answer; flash = new.flash; refused = refused } ∷ past) new
  more start past old event answer refused new k e s a d h q =
      let device = subst (λ (x : Kind). let now = session_with x new.flash.image (session start past) in keyboard_refines.Refines defaults now.first now.past new.keyboard) (sym e) d in
      record {
        keyboard = device;
        host = subst (λ (x : Kind). host_refines.Refines (with_heard (heard_in x (not refused)) (host_calls past)) new.host) (sym e) h;
        flash = refl;
        asked = q;
        answered = (a, s.answered);
      }

  -- the flash that the session's calls leave is the world's
  pub same_flash : (start : SimValue) (past : List Step) (old : WorldValue) → Refines defaults start past old → image_after (session start past).first (session start past).past ≡ old.flash.image
  same_flash start past old s = (here defaults start past s.answered).image ∙ sym (ap (λ (f : SimValue). f.image) s.flash)

  pub out_reported : (start : SimValue) (past : List Step) (old : WorldValue) (packet : ArrayVec ℕ) (bytes : List ℕ) (by_ep : EpAnswer) (device : KeyboardValue) → bytes ≡ packet.items → Refines defaults start past old
      → keyboard_refines.Refines defaults (session start past).first (Out bytes by_ep ∷ (session start past).past) device
      → keyboard.IsAnswered defaults (session start past).first (session start past).past (Out bytes by_ep)
      → Refines defaults start (record { event = OutPacket packet; answer = as_answer by_ep; flash = old.flash; refused = false } ∷ past) (record old { keyboard = device })
  out_reported start past old packet bytes by_ep device e s d a =
      more start past old (OutPacket packet) (as_answer by_ep) false (record old { keyboard = device }) (calls (Out bytes by_ep))
      (ap (λ (x : EpAnswer). calls (Out packet.items x)) (by_endpoint (as_answer by_ep) by_ep refl) ∙ ap (λ (x : List ℕ). calls (Out x by_ep)) (sym e))
      s (by_ep, refl, subst (λ (x : List ℕ). keyboard.IsAnswered defaults (session start past).first (session start past).past (Out x by_ep)) e a, (s.flash, refl)) d s.host s.asked

  pub in_reported : (start : SimValue) (past : List Step) (old : WorldValue) (by_ep : EpAnswer) (refused : Bool) (device : KeyboardValue) (host : Host) → Refines defaults start past old
      → keyboard_refines.Refines defaults (session start past).first (In by_ep ∷ (session start past).past) device
      → keyboard.IsAnswered defaults (session start past).first (session start past).past (In by_ep)
      → host_refines.Refines (with_heard (heard (In by_ep) (not refused)) (host_calls past)) host → MayRefuse (host_calls past) by_ep refused
      → Refines defaults start (record { event = InPacket; answer = as_answer by_ep; flash = old.flash; refused = refused } ∷ past) (record old { keyboard = device; host = host })
  in_reported start past old by_ep refused device host s d a h m =
      more start past old InPacket (as_answer by_ep) refused (record old { keyboard = device; host = host }) (calls (In by_ep))
      (ap (λ (x : EpAnswer). calls (In x)) (by_endpoint (as_answer by_ep) by_ep refl))
      s (by_ep, refl, a, s.flash, m) d h s.asked

  -- what the keyboard says of the operation on the flash of the fault injector
  pub on_injector : (now : Session) (armed : SimValue) (work : WorkAnswer) (new : SimValue) (beside : FlashWork → Type 0) → keyboard.MakesSuch defaults now.first now.past work new.image (λ operation. IsOperated armed (on_flash operation) new × beside operation)
      → MakesOn defaults now armed work new
  on_injector now armed work new beside m = record { command = m.command; works_on = m.works_on; step = m.step; is_such = m.is_such.0 }

  operated_as : (now : Session) (old armed : SimValue) (work : WorkAnswer) (new : SimValue) → (work ≢ Idle → MakesOn defaults now armed work new) → (work ≡ Idle → new ≡ old) → (armed.armed ≡ None → work ≢ Failed)
      → OperatedAs defaults now old armed work new
  operated_as now old armed Idle new o u f = u refl
  operated_as now old armed Working new o u f = o (λ e. cc)
  operated_as now old armed Settled new o u f = o (λ e. cc)
  operated_as now old armed Failed new o u f = (o (λ e. cc), some_armed armed.armed (λ n. f n refl))

  -- a step of the flash work on a flash that was armed as it had to be
  pub works_in : (start : SimValue) (past : List Step) (old : WorldValue) (armed due : SimValue) (work : WorkAnswer) (new : SimValue) → Refines defaults start past old
      → keyboard.IsAnswered defaults (session start past).first (session start past).past (KeyboardWorked work new.image) → armed ≡ due
      → (work ≢ Idle → MakesOn defaults (session start past) armed work new) → (work ≡ Idle → new ≡ old.flash) → (armed.armed ≡ None → work ≢ Failed)
      → WorksIn defaults (session start past) (flash_after start past) due work new
  works_in start past old armed due work new s a e o u f = record {
    conforming = a;
    operated = subst (λ (x : SimValue). OperatedAs defaults (session start past) (flash_after start past) x work new) e
        (operated_as (session start past) (flash_after start past) armed work new o (λ i. u i ∙ s.flash) f);
  }

  pub worked : (start : SimValue) (past : List Step) (old : WorldValue) (work : WorkAnswer) (device : KeyboardValue) (new : SimValue) (asked : Option Operation) → Refines defaults start past old
      → keyboard_refines.Refines defaults (session start past).first (KeyboardWorked work new.image ∷ (session start past).past) device
      → WorksIn defaults (session start past) (flash_after start past) (flash_after start past) work new
      → asked ≡ asked_for (next_in defaults (session start past) (working defaults (session start past).first (session start past).past))
      → Refines defaults start (record { event = Work; answer = Worked work; flash = new; refused = false } ∷ past) (record old { keyboard = device; flash = new; asked = asked })
  worked start past old work device new asked s d w q =
      more start past old Work (Worked work) false (record old { keyboard = device; flash = new; asked = asked }) (calls (KeyboardWorked work new.image)) refl s (work, refl, w, refl) d s.host q

  pub faulted : (start : SimValue) (past : List Step) (old : WorldValue) (mask : ArrayVec ℕ) (work : WorkAnswer) (device : KeyboardValue) (new : SimValue) (asked : Option Operation) → Refines defaults start past old
      → keyboard_refines.Refines defaults (session start past).first (KeyboardWorked work new.image ∷ (session start past).past) device
      → WorksIn defaults (session start past) (flash_after start past) (armed_by mask.items (flash_after start past)) work new
      → asked ≡ asked_for (next_in defaults (session start past) (working defaults (session start past).first (session start past).past))
      → Refines defaults start (record { event = WorkFault mask; answer = Worked work; flash = new; refused = false } ∷ past) (record old { keyboard = device; flash = new; asked = asked })
  faulted start past old mask work device new asked s d w q =
      more start past old (WorkFault mask) (Worked work) false (record old { keyboard = device; flash = new; asked = asked }) (calls (KeyboardWorked work new.image)) refl s (work, refl, w, refl) d s.host q

  pub cut_inside : (start : SimValue) (past : List Step) (old : WorldValue) (mask : ArrayVec ℕ) (work : WorkAnswer) (device : KeyboardValue) (host : Host) (new : SimValue) (asked : Option Operation) → Refines defaults start past old
      → WorksIn defaults (session start past) (flash_after start past) (armed_by mask.items (flash_after start past)) work new
      → keyboard_refines.Refines defaults new.image [] device → host_refines.Refines (lost ∷ host_calls past) host
      → asked ≡ asked_for (next_in defaults (session start past) (working defaults (session start past).first (session start past).past))
      → Refines defaults start (record { event = CutInWork mask; answer = Restarted; flash = new; refused = false } ∷ past) (record { keyboard = device; host = host; flash = new; asked = asked })
  cut_inside start past old mask work device host new asked s w d h q =
      more start past old (CutInWork mask) Restarted false (record { keyboard = device; host = host; flash = new; asked = asked }) starts refl s (work, refl, w, refl) d h q

  made_next : (now : Session) (work : WorkAnswer) (new : List ℕ) (asked : Option Operation) (made : FlashWork → Type 0) (beside : Type 0) → keyboard.MakesSuch defaults now.first now.past work new (λ operation. made operation × (beside × (asked ≡ Some (noted (on_flash operation)))))
      → asked ≡ asked_for (next_in defaults now (working defaults now.first now.past))
  made_next now work new asked made beside m =
      m.is_such.1.1 ∙ sym (ap (λ (w : Option Command). asked_for (next_in defaults now w)) m.works_on ∙ ap (λ (o : Option FlashWork). asked_for o) m.step.advances.in_order)

  idle_none : (now : Session) (w : Option Command) (new : List ℕ) → keyboard.WorkedOn defaults now.first now.past w Idle new → w ≡ None
  idle_none now None new on = refl
  idle_none now (Some command) new on = absurd on.outcome

  -- what is noted of the flash work is what it asked for
  pub noted_next : (now : Session) (work : WorkAnswer) (new : List ℕ) (asked : Option Operation) (made : FlashWork → Type 0) (beside : Type 0) → keyboard.IsAnswered defaults now.first now.past (KeyboardWorked work new)
      → (work ≢ Idle → keyboard.MakesSuch defaults now.first now.past work new (λ operation. made operation × (beside × (asked ≡ Some (noted (on_flash operation)))))) → (work ≡ Idle → asked ≡ None)
      → asked ≡ asked_for (next_in defaults now (working defaults now.first now.past))
  noted_next now Idle new asked made beside on m idle = idle refl ∙ sym (ap (λ (w : Option Command). asked_for (next_in defaults now w)) (idle_none now (working defaults now.first now.past) new on))
  noted_next now Working new asked made beside on m idle = made_next now Working new asked made beside (m (λ e. cc))
  noted_next now Settled new asked made beside on m idle = made_next now Settled new asked made beside (m (λ e. cc))
  noted_next now Failed new asked made beside on m idle = made_next now Failed new asked made beside (m (λ e. cc))

  -- the flash armed by a copy of the mask
  pub arms : (start : SimValue) (past : List Step) (old : WorldValue) (copy mask : List ℕ) → copy ≡ mask → Refines defaults start past old → armed_by copy old.flash ≡ armed_by mask (flash_after start past)
  arms start past old copy mask e s = ap (λ (x : List ℕ). armed_by x old.flash) e ∙ ap (λ (x : SimValue). armed_by mask x) s.flash

  pub entry_shown : (start : SimValue) (past : List Step) (old : WorldValue) (layer key code : ℕ) → Refines defaults start past old
      → code ≡ keymap defaults (image_after (session start past).first (session start past).past) layer key
      → Refines defaults start (record { event = Entry layer key; answer = EntryIs code; flash = old.flash; refused = false } ∷ past) old
  entry_shown start past old layer key code s e =
      more start past old (Entry layer key) (EntryIs code) false old looks refl s
      (ap (λ (x : ℕ). EntryIs x) (e ∙ ap (λ (x : List ℕ). keymap defaults x layer key) ((here defaults start past s.answered).image)), (s.flash, refl)) s.keyboard s.host s.asked
