-- A history and the session that it ends in.
use Rattle.std.proofs.Common.{◌≡◌, ℕ, Bool, Option, Some, None, List, [], ◌∷◌, refl, sym, ◌∙◌, ap, subst}
use Rattle.flash_model.specs.Sim.{SimValue}
use Rattle.reports.specs.declared.Protocol.{Protocol}
use Rattle.control_ep.specs.declared.answer.EpAnswer.{EpAnswer}
use Rattle.control_ep.specs.declared.answer.EpAnswer.TheVariants as ep
use Rattle.layers.specs.Codes.{DefaultCodes}
use Rattle.keymap_store.specs.declared.store.Work.{Work as WorkAnswer}
use Rattle.host.specs.Calls.{HostCall}
use Rattle.keyboard.specs.Calls.{Call, Scanned, SetUp, Out, In, Polled, Worked as KeyboardWorked, BusReset as KeyboardReset, image_after, EachCall}
use Rattle.keyboard.specs.Effects.{protocol_after}
use Rattle.keyboard.specs.Conforming as keyboard
use Rattle.world.specs.declared.event.Event.{Event}
use Rattle.world.specs.declared.event.Event.TheVariants.{Scan, Setup, OutPacket, InPacket, Poll, Work, WorkFault, Cut, CutInWork, BusReset, Entry, SlotAt, Leds}
use Rattle.world.specs.declared.event.Answer.{Answer}
use Rattle.world.specs.declared.event.Answer.TheVariants.{Worked}
use Rattle.world.specs.Kinds.{Step, Kind, starts, calls, looks, kind_of, as_answer, ep_reported, bytes_reported, work_reported}
use Rattle.world.specs.History.{Session, session_with, session, host_calls, flash_after, EachStep}
use Rattle.world.specs.Conforming.{Answered, IsAnswered, IsSent}

-- an answer of endpoint 0 is told as it is
reported_back : (answer : EpAnswer) → ep_reported (as_answer answer) ≡ answer
reported_back ep.Ack = refl
reported_back ep.Nak = refl
reported_back (ep.Packet packet) = refl
reported_back (ep.Stall why) = refl

pub by_endpoint : (answer : Answer) (by_ep : EpAnswer) → answer ≡ as_answer by_ep → ep_reported answer ≡ by_ep
by_endpoint answer by_ep e = ap ep_reported e ∙ reported_back by_ep

pub by_report : (protocol : Protocol) (heard : List HostCall) (report : Option (List ℕ)) (answer : Answer) (refused : Bool) → IsSent protocol heard report answer refused → bytes_reported answer ≡ report
by_report protocol heard None answer refused s = ap bytes_reported s.0
by_report protocol heard (Some bytes) answer refused (reading, e, r, n) = ap bytes_reported e

pub by_work : (answer : Answer) (work : WorkAnswer) → answer ≡ Worked work → work_reported answer ≡ work
by_work answer work e = ap work_reported e

same_image : (image : List ℕ) (old new : SimValue) → new ≡ old → image ≡ old.image → image ≡ new.image
same_image image old new e i = i ∙ sym (ap (λ (f : SimValue). f.image) e)

module _ (defaults : DefaultCodes) where
  -- what a step is to the keyboard: a start, a call that is answered as it has to be, or nothing
  pub data Effect (first : List ℕ) (past : List Call) (old new : SimValue) : Kind → Type 0 where
    starts_anew : Effect first past old new starts
    is_called : (call : Call) → keyboard.IsAnswered defaults first past call → (image_after first past ≡ old.image → image_after first (call ∷ past) ≡ new.image)
        → Effect first past old new (calls call)
    is_look : new ≡ old → Effect first past old new looks

  out_effect : (now : Session) (old new : SimValue) (packet : List ℕ) (by_ep reported_ep : EpAnswer) → reported_ep ≡ by_ep → keyboard.IsAnswered defaults now.first now.past (Out packet by_ep) → new ≡ old
      → Effect now.first now.past old new (calls (Out packet reported_ep))
  out_effect now old new packet by_ep reported_ep e l f =
      subst (λ (x : EpAnswer). Effect now.first now.past old new (calls (Out packet x))) (sym e)
      (is_called (Out packet by_ep) l (same_image (image_after now.first now.past) old new f))

  in_effect : (now : Session) (old new : SimValue) (by_ep reported_ep : EpAnswer) → reported_ep ≡ by_ep → keyboard.IsAnswered defaults now.first now.past (In by_ep) → new ≡ old
      → Effect now.first now.past old new (calls (In reported_ep))
  in_effect now old new by_ep reported_ep e l f =
      subst (λ (x : EpAnswer). Effect now.first now.past old new (calls (In x))) (sym e)
      (is_called (In by_ep) l (same_image (image_after now.first now.past) old new f))

  poll_effect : (now : Session) (old new : SimValue) (report reported_report : Option (List ℕ)) → reported_report ≡ report → keyboard.IsAnswered defaults now.first now.past (Polled report) → new ≡ old
      → Effect now.first now.past old new (calls (Polled reported_report))
  poll_effect now old new report reported_report e l f =
      subst (λ (x : Option (List ℕ)). Effect now.first now.past old new (calls (Polled x))) (sym e)
      (is_called (Polled report) l (same_image (image_after now.first now.past) old new f))

  work_effect : (now : Session) (old new : SimValue) (work reported_work : WorkAnswer) → reported_work ≡ work → keyboard.IsAnswered defaults now.first now.past (KeyboardWorked work new.image)
      → Effect now.first now.past old new (calls (KeyboardWorked reported_work new.image))
  work_effect now old new work reported_work e l =
      subst (λ (x : WorkAnswer). Effect now.first now.past old new (calls (KeyboardWorked x new.image))) (sym e)
      (is_called (KeyboardWorked work new.image) l (λ i. refl))

  pub effect : (now : Session) (heard : List HostCall) (old : SimValue) (event : Event) (answer : Answer) (refused : Bool) (new : SimValue) → Answered defaults now heard old event answer refused new
      → Effect now.first now.past old new (kind_of event answer new.image)
  effect now heard old (Scan scan) answer refused new a = is_called (Scanned scan) tt (same_image (image_after now.first now.past) old new a.1.0)
  effect now heard old (Setup bytes) answer refused new a = is_called (SetUp bytes) tt (same_image (image_after now.first now.past) old new a.1.0)
  effect now heard old (OutPacket packet) answer refused new (by_ep, e, l, u) = out_effect now old new packet.items by_ep (ep_reported answer) (by_endpoint answer by_ep e) l u.0
  effect now heard old InPacket answer refused new (by_ep, e, l, f, m) = in_effect now old new by_ep (ep_reported answer) (by_endpoint answer by_ep e) l f
  effect now heard old Poll answer refused new (report, l, f, s) =
      poll_effect now old new report (bytes_reported answer) (by_report (protocol_after now.past) heard report answer refused s) l f
  effect now heard old Work answer refused new (work, e, w, r) = work_effect now old new work (work_reported answer) (by_work answer work e) w.conforming
  effect now heard old (WorkFault mask) answer refused new (work, e, w, r) = work_effect now old new work (work_reported answer) (by_work answer work e) w.conforming
  effect now heard old Cut answer refused new a = starts_anew
  effect now heard old (CutInWork mask) answer refused new a = starts_anew
  effect now heard old BusReset answer refused new a = is_called KeyboardReset tt (same_image (image_after now.first now.past) old new a.1.0)
  effect now heard old (Entry layer key) answer refused new a = is_look a.1.0
  effect now heard old (SlotAt page slot) answer refused new a = is_look a.1.0
  effect now heard old Leds answer refused new a = is_look a.1.0

  -- the calls of a session are answered as they have to be, and the flash that they leave is the history's
  pub record Here (now : Session) (flash : SimValue) : Type 0 where
    pub conforming : EachCall (keyboard.IsAnswered defaults) now.first now.past
    pub image : image_after now.first now.past ≡ flash.image

  here_with : (before : Session) (old new : SimValue) (k : Kind) → Effect before.first before.past old new k → Here before old → Here (session_with k new.image before) new
  here_with before old new starts e h = record { conforming = tt; image = refl }
  here_with before old new (calls call) (is_called same l i) h = record { conforming = (l, h.conforming); image = i h.image }
  here_with before old new looks (is_look f) h = record { conforming = h.conforming; image = same_image (image_after before.first before.past) old new f h.image }

  pub here : (start : SimValue) (past : List Step) → EachStep (IsAnswered defaults) start past → Here (session start past) (flash_after start past)
  here start [] h = record { conforming = tt; image = refl }
  here start (step ∷ before) h =
      here_with (session start before) (flash_after start before) step.flash (kind_of step.event step.answer step.flash.image)
      (effect (session start before) (host_calls before) (flash_after start before) step.event step.answer step.refused step.flash h.0)
      (here start before h.1)
