-- An accepted command is settled by the step that its operations name, whatever comes between.
use Rattle.std.proofs.Common.{◌≡◌, ℕ, Bool, true, false, nat_lt, if◌then◌else◌, Some, Ok, List, [], ◌∷◌, ◌++◌, refl, ap, sym, ◌∙◌, subst}
use Rattle.flash_model.specs.Sim.{SimValue}
use Rattle.layers.specs.Codes.{DefaultCodes}
use Rattle.layers.specs.declared.command.Command.{Command}
use Rattle.control_ep.specs.declared.answer.EpAnswer.{EpAnswer}
use Rattle.control_ep.specs.declared.answer.EpAnswer.TheVariants as ep
use Rattle.host.specs.Calls.{HostCall}
use Rattle.keyboard.specs.Calls.{Call, SetUp, Out, In, image_after as image_in, keymap, EachCall}
use Rattle.keyboard.specs.Commands.{accepts}
use Rattle.keyboard.specs.Conforming as keyboard
use Rattle.keyboard.specs.Fate.{works, settled, fate}
use Rattle.keyboard.specs.Feature.{command_of_bytes}
use Rattle.keyboard.specs.Progress as session_specs
use Rattle.keyboard.specs.Single.{NoneFails}
use Rattle.keyboard.proofs.Progressing.{acknowledged as acknowledged_in_session}
use Rattle.keyboard.proofs.Serving.{settled_by, status_by}
use Rattle.world.specs.Acknowledged.{accepts_by, accepts_here}
use Rattle.world.specs.Conforming.{Answered, IsAnswered}
use Rattle.world.specs.declared.event.Answer.{Answer}
use Rattle.world.specs.declared.event.Answer.TheVariants.{Ack, Nak, Packet}
use Rattle.world.specs.declared.event.Event.{Event}
use Rattle.world.specs.declared.event.Event.TheVariants.{Setup, OutPacket, InPacket}
use Rattle.world.specs.History.{Session, session_with, session, host_calls, flash_after, image_after, EachStep}
use Rattle.world.specs.Kinds.{Step, Kind, starts, calls, looks, kind, kind_of, as_answer, ep_reported}
use Rattle.world.specs.Progress.{IsReady, IsNoStart, NoneStarts, with_call, calls_in}
use Rattle.world.proofs.Here.{by_endpoint, here}

-- a step that accepts a command is a call
record Accepting (before : Session) (k : Kind) (command : Command) : Type 0 where
  call : Call
  kind_is : k ≡ calls call
  accepted : accepts before.past call ≡ Some command

accepting : (before : Session) (k : Kind) (command : Command) → accepts_by k before.past ≡ Some command → Accepting before k command
accepting before starts command e = cc
accepting before looks command e = cc
accepting before (calls call) command e = record { call = call; kind_is = refl; accepted = e }

-- the session goes on by these calls
record GoesOnBy (first : List ℕ) (past since : List Call) (now : Session) : Type 0 where
  first_is : now.first ≡ first
  past_is : now.past ≡ since ++ past

one_more : (first : List ℕ) (past since : List Call) (now : Session) (k : Kind) (image : List ℕ) → IsNoStart k → GoesOnBy first past since now → GoesOnBy first past (with_call k since) (session_with k image now)
one_more first past since now starts image n g = absurd n
one_more first past since now looks image n g = record { first_is = g.first_is; past_is = g.past_is }
one_more first past since now (calls call) image n g = record { first_is = g.first_is; past_is = ap (λ (xs : List Call). call ∷ xs) g.past_is }

goes_on : (start : SimValue) (since base : List Step) (first : List ℕ) (past : List Call) → NoneStarts since → GoesOnBy first past [] (session start base) → GoesOnBy first past (calls_in since) (session start (since ++ base))
goes_on start [] base first past n g = g
goes_on start (step ∷ since) base first past n g = one_more first past (calls_in since) (session start (since ++ base)) (kind step) step.flash.image n.0 (goes_on start since base first past n.1 g)

at_call : (before : Session) (k : Kind) (call : Call) (image : List ℕ) → k ≡ calls call → GoesOnBy before.first (call ∷ before.past) [] (session_with k image before)
at_call before k call image e =
    subst (λ (x : Kind). GoesOnBy before.first (call ∷ before.past) [] (session_with x image before)) (sym e) (record { first_is = refl; past_is = refl })

-- the answer of endpoint 0, as it is told
told : (waits : Bool) (by_ep : EpAnswer) (answer : Answer) → by_ep ≡ (if waits then ep.Nak else ep.Packet (record { items = [] })) → answer ≡ as_answer by_ep → answer ≡ (if waits then Nak else Packet (record { items = [] }))
told true by_ep answer e is = is ∙ ap as_answer e
told false by_ep answer e is = is ∙ ap as_answer e

module _ (defaults : DefaultCodes) where
  -- its calls are answered as they have to be
  in_session : (first : List ℕ) (past since : List Call) (now : Session) → GoesOnBy first past since now → EachCall (keyboard.IsAnswered defaults) now.first now.past → EachCall (keyboard.IsAnswered defaults) first (since ++ past)
  in_session first past since now g h =
      subst (λ (xs : List Call). EachCall (keyboard.IsAnswered defaults) first xs) g.past_is (subst (λ (i : List ℕ). EachCall (keyboard.IsAnswered defaults) i now.past) g.first_is h)

  answer_in_session : (first : List ℕ) (past since : List Call) (now : Session) (call : Call) → GoesOnBy first past since now → keyboard.IsAnswered defaults now.first now.past call → keyboard.IsAnswered defaults first (since ++ past) call
  answer_in_session first past since now call g h =
      subst (λ (xs : List Call). keyboard.IsAnswered defaults first xs call) g.past_is (subst (λ (i : List ℕ). keyboard.IsAnswered defaults i now.past call) g.first_is h)

  ready_in_session : (first : List ℕ) (past since : List Call) (now : Session) → GoesOnBy first past since now → session_specs.IsReady defaults now.first now.past → session_specs.IsReady defaults first (since ++ past)
  ready_in_session first past since now g r =
      subst (λ (xs : List Call). session_specs.IsReady defaults first xs) g.past_is (subst (λ (i : List ℕ). session_specs.IsReady defaults i now.past) g.first_is r)

  EachStep-later : (start : SimValue) (xs ys : List Step) → EachStep (IsAnswered defaults) start (xs ++ ys) → EachStep (IsAnswered defaults) start ys
  EachStep-later start [] ys h = h
  EachStep-later start (step ∷ xs) ys h = EachStep-later start xs ys h.1

  -- ---- the packet of data

  out_taken : (first : List ℕ) (past since : List Call) (now : Session) (heard : List HostCall) (old : SimValue) (answer : Answer) (refused : Bool) (new : SimValue) (a b c d e : ℕ) (command : Command)
      → GoesOnBy first (SetUp session_specs.set_feature ∷ past) since now → session_specs.StaysDue since → EachCall (keyboard.IsAnswered defaults) now.first now.past → session_specs.IsReady defaults now.first now.past
      → command_of_bytes (a ∷ b ∷ c ∷ d ∷ e ∷ []) ≡ Ok command → Answered defaults now heard old (OutPacket (record { items = 3 ∷ a ∷ b ∷ c ∷ d ∷ e ∷ [] })) answer refused new
      → (answer ≡ Ack) × (accepts now.past (Out (3 ∷ a ∷ b ∷ c ∷ d ∷ e ∷ []) (ep_reported answer)) ≡ Some command)
  out_taken first past since now heard old answer refused new a b c d e command g due h ready r (by_ep, is, l, u) =
      let before : List Call = SetUp session_specs.set_feature ∷ past in
      let took = acknowledged_in_session defaults first past since a b c d e by_ep command due (ready_in_session first before since now g ready) r
      (answer_in_session first before since now (Out (3 ∷ a ∷ b ∷ c ∷ d ∷ e ∷ []) by_ep) g l, in_session first before since now g h) in (
        is ∙ ap as_answer took.0,
        ap (λ (x : EpAnswer). accepts now.past (Out (3 ∷ a ∷ b ∷ c ∷ d ∷ e ∷ []) x)) (by_endpoint answer by_ep is)
            ∙ ap (λ (xs : List Call). accepts xs (Out (3 ∷ a ∷ b ∷ c ∷ d ∷ e ∷ []) by_ep)) g.past_is ∙ took.1,
      )

  pub acknowledged : (start : SimValue) (before between : List Step) (setup packet : Step) (a b c d e : ℕ) (command : Command) → setup.event ≡ Setup session_specs.set_feature → NoneStarts between → session_specs.StaysDue (calls_in between)
      → IsReady defaults start (between ++ setup ∷ before) → command_of_bytes (a ∷ b ∷ c ∷ d ∷ e ∷ []) ≡ Ok command → packet.event ≡ OutPacket (record { items = 3 ∷ a ∷ b ∷ c ∷ d ∷ e ∷ [] })
      → EachStep (IsAnswered defaults) start (packet ∷ between ++ setup ∷ before) → (packet.answer ≡ Ack) × (accepts_here start (between ++ setup ∷ before) packet ≡ Some command)
  acknowledged start before between setup packet a b c d e command s n due ready r p h =
      let was : Session = session start before in
      let base : List Step = setup ∷ before in
      let now : Session = session start (between ++ base) in
      let first : GoesOnBy was.first (SetUp session_specs.set_feature ∷ was.past) [] (session start base) =
      at_call was (kind setup) (SetUp session_specs.set_feature) setup.flash.image (ap (λ (x : Event). kind_of x setup.answer setup.flash.image) s) in
      let g : GoesOnBy was.first (SetUp session_specs.set_feature ∷ was.past) (calls_in between) now = goes_on start between base was.first (SetUp session_specs.set_feature ∷ was.past) n first in
      let took = out_taken was.first was.past (calls_in between) now (host_calls (between ++ base)) (flash_after start (between ++ base)) packet.answer packet.refused packet.flash a b c d e command g due
      (here defaults start (between ++ base) h.1).conforming ready.session r
      (subst (λ (x : Event). Answered defaults now (host_calls (between ++ base)) (flash_after start (between ++ base)) x packet.answer packet.refused packet.flash) p h.0) in
      (took.0, ap (λ (x : Event). accepts_by (kind_of x packet.answer packet.flash.image) now.past) p ∙ took.1)

  -- ---- the calls since

  -- the call that brought the command, and the calls since
  record Brought (start : SimValue) (before since : List Step) (packet : Step) (command : Command) : Type 0 where
    call : Call
    accepted : accepts (session start before).past call ≡ Some command
    on : GoesOnBy (session start before).first (call ∷ (session start before).past) (calls_in since) (session start (since ++ packet ∷ before))
    conforming : EachCall (keyboard.IsAnswered defaults) (session start before).first (calls_in since ++ call ∷ (session start before).past)
    image_is : image_in (session start before).first (session start before).past ≡ image_after start before

  brought : (start : SimValue) (before since : List Step) (packet : Step) (command : Command) → EachStep (IsAnswered defaults) start (since ++ packet ∷ before) → accepts_here start before packet ≡ Some command → NoneStarts since
      → Brought start before since packet command
  brought start before since packet command h e n =
      let was : Session = session start before in
      let a : Accepting was (kind packet) command = accepting was (kind packet) command e in
      let g = goes_on start since (packet ∷ before) was.first (a.call ∷ was.past) n (at_call was (kind packet) a.call packet.flash.image a.kind_is) in
      record {
        call = a.call;
        accepted = a.accepted;
        on = g;
        conforming = in_session was.first (a.call ∷ was.past) (calls_in since) (session start (since ++ packet ∷ before)) g (here defaults start (since ++ packet ∷ before) h).conforming;
        image_is = (here defaults start before (EachStep-later start since (packet ∷ before) h).1).image;
      }

  -- it works until the step that its operations name, and is settled from then on
  pub settles : (start : SimValue) (before since : List Step) (packet : Step) (command : Command) → EachStep (IsAnswered defaults) start (since ++ packet ∷ before) → accepts_here start before packet ≡ Some command → NoneStarts since
      → NoneFails (calls_in since)
      → fate defaults (keymap defaults (image_after start before)) command (calls_in since) ≡ (if nat_lt (session_specs.steps_in (calls_in since)) (session_specs.steps_for defaults (image_after start before) command) then works else settled)
  settles start before since packet command h e n f =
      let was : Session = session start before in
      let b : Brought start before since packet command = brought start before since packet command h e n in
      subst
      (λ (image : List ℕ). fate defaults (keymap defaults image) command (calls_in since) ≡ (if nat_lt (session_specs.steps_in (calls_in since)) (session_specs.steps_for defaults image command) then works else settled))
      b.image_is (settled_by defaults was.first was.past (calls_in since) b.call command b.conforming b.accepted f)

  status_now : (first : List ℕ) (past since : List Call) (now : Session) (heard : List HostCall) (old : SimValue) (answer : Answer) (refused : Bool) (new : SimValue) (call : Call) (command : Command) → GoesOnBy first (call ∷ past) since now
      → EachCall (keyboard.IsAnswered defaults) first (since ++ call ∷ past) → accepts past call ≡ Some command → NoneFails since → session_specs.StaysOpen since → Answered defaults now heard old InPacket answer refused new
      → answer ≡ (if nat_lt (session_specs.steps_in since) (session_specs.steps_for defaults (image_in first past) command) then Nak else Packet (record { items = [] }))
  status_now first past since now heard old answer refused new call command g h e f o (by_ep, is, l, u, m) =
      told (nat_lt (session_specs.steps_in since) (session_specs.steps_for defaults (image_in first past) command)) by_ep answer
      (status_by defaults first past since call by_ep command (answer_in_session first (call ∷ past) since now (In by_ep) g l, h) e f o) is

  -- an IN packet is answered NAK until then, and the first one after it by the empty packet
  pub status : (start : SimValue) (before since : List Step) (packet asks : Step) (command : Command) → EachStep (IsAnswered defaults) start (asks ∷ since ++ packet ∷ before) → accepts_here start before packet ≡ Some command → NoneStarts since
      → NoneFails (calls_in since) → session_specs.StaysOpen (calls_in since) → asks.event ≡ InPacket
      → asks.answer ≡ (if nat_lt (session_specs.steps_in (calls_in since)) (session_specs.steps_for defaults (image_after start before) command) then Nak else Packet (record { items = [] }))
  status start before since packet asks command h e n f o is =
      let was : Session = session start before in
      let rest : List Step = since ++ packet ∷ before in
      let b : Brought start before since packet command = brought start before since packet command h.1 e n in
      subst
      (λ (image : List ℕ). asks.answer ≡ (if nat_lt (session_specs.steps_in (calls_in since)) (session_specs.steps_for defaults image command) then Nak else Packet (record { items = [] })))
      b.image_is
      (status_now was.first was.past (calls_in since) (session start rest) (host_calls rest) (flash_after start rest) asks.answer asks.refused asks.flash b.call command b.on b.conforming b.accepted f o
      (subst (λ (x : Event). Answered defaults (session start rest) (host_calls rest) (flash_after start rest) x asks.answer asks.refused asks.flash) is h.0))
