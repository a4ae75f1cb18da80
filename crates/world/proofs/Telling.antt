-- What the host was told is stored stays stored, over all sessions.
use Rattle.std.proofs.Common.{◌≡◌, ℕ, ◌<◌, Bool, Some, List, [], ◌∷◌, ◌++◌, refl, sym, ◌∙◌, append_assoc, subst, ap}
use Rattle.flash_model.specs.Sim.{SimValue}
use Rattle.layers.specs.Codes.{layers, keys, DefaultCodes}
use Rattle.layers.specs.Entries.{written}
use Rattle.layers.specs.declared.command.Command.{Command}
use Rattle.control_ep.specs.declared.answer.EpAnswer.TheVariants.{Packet as EpPacket}
use Rattle.keymap_store.specs.declared.store.Work.{Work as WorkAnswer}
use Rattle.host.specs.Calls.{HostCall}
use Rattle.keyboard.specs.Acknowledged as keyboard
use Rattle.keyboard.specs.Calls.{Call, Scanned, SetUp, Out, In, Polled, Worked as KeyboardWorked, BusReset as KeyboardReset, image_after, keymap, EachCall}
use Rattle.keyboard.specs.Commands.{accepts}
use Rattle.keyboard.specs.Conforming.{IsAnswered as IsCallAnswered}
use Rattle.keyboard.proofs.Following.{NoneWrites, kept_in_session}
use Rattle.keyboard.proofs.Telling.{acknowledged as reported_in_session}
use Rattle.world.specs.declared.event.Event.{Event}
use Rattle.world.specs.declared.event.Event.TheVariants.{Scan, Setup, OutPacket, InPacket, Poll, Work, WorkFault, Cut, CutInWork, BusReset, Entry, SlotAt, Leds}
use Rattle.world.specs.declared.event.Answer.{Answer}
use Rattle.world.specs.declared.event.Answer.TheVariants.{Packet}
use Rattle.world.specs.Acknowledged.{accepts_by, accepts_here, GoesOn, SameTransfer, NoneAcceptedWrites, KeepsAcknowledged}
use Rattle.world.specs.Kinds.{Step, Kind, starts, calls, looks, kind, kind_of, ep_reported, bytes_reported, work_reported}
use Rattle.world.specs.History.{Session, session_with, session, host_calls, flash_after, EachStep}
use Rattle.world.specs.Conforming.{Answered, IsAnswered}
use Rattle.world.proofs.Here.{Here, here}

same_more : (call : Call) (between : List Call) → GoesOn (calls call) → keyboard.SameTransfer between → keyboard.SameTransfer (call ∷ between)
same_more (Scanned scan) between g s = s
same_more (SetUp bytes) between g s = absurd g
same_more (Out packet answer) between g s = s
same_more (In answer) between g s = s
same_more (Polled answer) between g s = s
same_more (KeyboardWorked work image) between g s = s
same_more KeyboardReset between g s = absurd g

-- the packet that brings the command
record Brings (now : Session) (past : List Call) (command : Command) : Type 0 where
  packet : Call
  past_is : now.past ≡ packet ∷ past
  accepted : accepts past packet ≡ Some command

brings : (before : Session) (k : Kind) (image : List ℕ) (command : Command) → accepts_by k before.past ≡ Some command → Brings (session_with k image before) before.past command
brings before starts image command e = cc
brings before looks image command e = cc
brings before (calls call) image command e = record { packet = call; past_is = refl; accepted = e }

kind_reported : (status : Step) → (status.event ≡ InPacket) × (status.answer ≡ Packet (record { items = [] })) → kind status ≡ calls (In (EpPacket (record { items = [] })))
kind_reported status (e, a) = ap (λ (x : Event). kind_of x status.answer status.flash.image) e ∙ ap (λ (x : Answer). kind_of InPacket x status.flash.image) a

module _ (defaults : DefaultCodes) where
  -- how the session that a history ends in knows of it: it was acknowledged in it; or the session's first keymap has the code,
  -- and none of its commands writes the entry
  data Knows (now : Session) (layer key code : ℕ) : Type 0 where
    in_session : keyboard.IsAcknowledgedInSession defaults now.past layer key code → Knows now layer key code
    from_start : keymap defaults now.first layer key ≡ code → NoneWrites defaults now.past layer key → Knows now layer key code

  stored : (now : Session) (layer key code : ℕ) → layer < layers → key < keys → EachCall (IsCallAnswered defaults) now.first now.past → Knows now layer key code
      → keymap defaults (image_after now.first now.past) layer key ≡ code
  stored now layer key code l k h (in_session a) = reported_in_session defaults now.first now.past h layer key code a
  stored now layer key code l k h (from_start e n) =
      (kept_in_session defaults now.first now.past layer key code l k h n e).entry_is

  -- a call more
  knows_call : (first : List ℕ) (past : List Call) (call : Call) (layer key code : ℕ) → keyboard.DoesNotWrite defaults layer key (accepts past call) → Knows (record { first = first; past = past }) layer key code
      → Knows (record { first = first; past = call ∷ past }) layer key code
  knows_call first past call layer key code n (from_start e m) = from_start e (n, m)
  knows_call first past call layer key code n (in_session a) =
      in_session (record {
        in_layers = a.in_layers;
        in_keys = a.in_keys;
        before = a.before;
        packet = a.packet;
        between = a.between;
        after = call ∷ a.after;
        past_is = ap (λ (xs : List Call). call ∷ xs) a.past_is;
        command = a.command;
        accepted = a.accepted;
        writes = a.writes;
        same_transfer = a.same_transfer;
        not_since = (subst (λ (xs : List Call). keyboard.DoesNotWrite defaults layer key (accepts xs call)) a.past_is n, a.not_since);
      })

  worked_leaves : (past : List Call) (work : WorkAnswer) (image : List ℕ) (layer key : ℕ) → keyboard.DoesNotWrite defaults layer key (accepts past (KeyboardWorked work image))
  unfolding accepts
  worked_leaves past work image layer key = tt

  in_leaves : (past : List Call) (layer key : ℕ) → keyboard.DoesNotWrite defaults layer key (accepts past (In (EpPacket (record { items = [] }))))
  unfolding accepts
  in_leaves past layer key = tt

  -- the keyboard starts on an image that has the code
  knows_start : (image : List ℕ) (layer key code : ℕ) → keymap defaults image layer key ≡ code → Knows (record { first = image; past = [] }) layer key code
  knows_start image layer key code e = from_start e tt

  -- the power was cut inside a step of the flash work
  after_step : (now : Session) (work : WorkAnswer) (image : List ℕ) (layer key code : ℕ) → layer < layers → key < keys → EachCall (IsCallAnswered defaults) now.first now.past
      → IsCallAnswered defaults now.first now.past (KeyboardWorked work image) → Knows now layer key code → keymap defaults image layer key ≡ code
  after_step now work image layer key code l k h a s =
      stored (record { first = now.first; past = KeyboardWorked work image ∷ now.past }) layer key code l k (a, h)
      (knows_call now.first now.past (KeyboardWorked work image) layer key code (worked_leaves now.past work image layer key) s)

  -- a step more
  knows_more : (now : Session) (heard : List HostCall) (old : SimValue) (event : Event) (answer : Answer) (refused : Bool) (new : SimValue) (layer key code : ℕ) → layer < layers → key < keys
      → Here defaults now old → Answered defaults now heard old event answer refused new → keyboard.DoesNotWrite defaults layer key (accepts_by (kind_of event answer new.image) now.past) → Knows now layer key code
      → Knows (session_with (kind_of event answer new.image) new.image now) layer key code
  knows_more now heard old (Scan scan) answer refused new layer key code l k h a n s = knows_call now.first now.past (Scanned scan) layer key code n s
  knows_more now heard old (Setup bytes) answer refused new layer key code l k h a n s = knows_call now.first now.past (SetUp bytes) layer key code n s
  knows_more now heard old (OutPacket packet) answer refused new layer key code l k h a n s = knows_call now.first now.past (Out packet.items (ep_reported answer)) layer key code n s
  knows_more now heard old InPacket answer refused new layer key code l k h a n s = knows_call now.first now.past (In (ep_reported answer)) layer key code n s
  knows_more now heard old Poll answer refused new layer key code l k h a n s = knows_call now.first now.past (Polled (bytes_reported answer)) layer key code n s
  knows_more now heard old Work answer refused new layer key code l k h a n s = knows_call now.first now.past (KeyboardWorked (work_reported answer) new.image) layer key code n s
  knows_more now heard old (WorkFault mask) answer refused new layer key code l k h a n s = knows_call now.first now.past (KeyboardWorked (work_reported answer) new.image) layer key code n s
  knows_more now heard old Cut answer refused new layer key code l k h a n s =
      knows_start new.image layer key code
      (ap (λ (image : List ℕ). keymap defaults image layer key) (ap (λ (f : SimValue). f.image) a.1.0 ∙ sym h.image) ∙ stored now layer key code l k h.conforming s)
  knows_more now heard old (CutInWork mask) answer refused new layer key code l k h (work, e, w, r) n s =
      knows_start new.image layer key code (after_step now work new.image layer key code l k h.conforming w.conforming s)
  knows_more now heard old BusReset answer refused new layer key code l k h a n s = knows_call now.first now.past KeyboardReset layer key code n s
  knows_more now heard old (Entry at_layer at_key) answer refused new layer key code l k h a n s = s
  knows_more now heard old (SlotAt page slot) answer refused new layer key code l k h a n s = s
  knows_more now heard old Leds answer refused new layer key code l k h a n s = s

  EachStep-later : (start : SimValue) (later past : List Step) → EachStep (IsAnswered defaults) start (later ++ past) → EachStep (IsAnswered defaults) start past
  EachStep-later start [] past h = h
  EachStep-later start (step ∷ later) past h = EachStep-later start later past h.1

  NoneAcceptedWrites-later : (start : SimValue) (later earlier past : List Step) (layer key : ℕ) → NoneAcceptedWrites defaults start (later ++ earlier) past layer key → NoneAcceptedWrites defaults start earlier past layer key
  NoneAcceptedWrites-later start [] earlier past layer key n = n
  NoneAcceptedWrites-later start (step ∷ later) earlier past layer key n = NoneAcceptedWrites-later start later earlier past layer key n.1

  NoneAcceptedWrites-sooner : (start : SimValue) (later earlier past : List Step) (layer key : ℕ) → NoneAcceptedWrites defaults start (later ++ earlier) past layer key
      → NoneAcceptedWrites defaults start later (earlier ++ past) layer key
  NoneAcceptedWrites-sooner start [] earlier past layer key n = tt
  NoneAcceptedWrites-sooner start (step ∷ later) earlier past layer key n =
      (subst (λ (xs : List Step). keyboard.DoesNotWrite defaults layer key (accepts_here start xs step)) (append_assoc later earlier past) n.0, NoneAcceptedWrites-sooner start later earlier past layer key n.1)

  -- any steps more
  knows_after : (start : SimValue) (later past : List Step) (layer key code : ℕ) → layer < layers → key < keys → EachStep (IsAnswered defaults) start (later ++ past) → NoneAcceptedWrites defaults start later past layer key
      → Knows (session start past) layer key code → Knows (session start (later ++ past)) layer key code
  knows_after start [] past layer key code l k h n s = s
  knows_after start (step ∷ later) past layer key code l k h n s =
      let before : List Step = later ++ past in
      knows_more (session start before) (host_calls before) (flash_after start before) step.event step.answer step.refused step.flash layer key code l k (here defaults start before h.1) h.0 n.0
      (knows_after start later past layer key code l k h.1 n.1 s)

  -- the calls of the transfer since the packet that brought the command
  record Since (now : Session) (past : List Call) (packet : Call) (layer key : ℕ) : Type 0 where
    between : List Call
    past_is : now.past ≡ between ++ packet ∷ past
    same : keyboard.SameTransfer between
    none : keyboard.NoneAcceptedWrites defaults between (packet ∷ past) layer key

  since_more : (now : Session) (k : Kind) (image : List ℕ) (past : List Call) (packet : Call) (layer key : ℕ) → GoesOn k → keyboard.DoesNotWrite defaults layer key (accepts_by k now.past) → Since now past packet layer key
      → Since (session_with k image now) past packet layer key
  since_more now starts image past packet layer key g n s = absurd g
  since_more now looks image past packet layer key g n s = record { between = s.between; past_is = s.past_is; same = s.same; none = s.none }
  since_more now (calls call) image past packet layer key g n s = record {
    between = call ∷ s.between;
    past_is = ap (λ (xs : List Call). call ∷ xs) s.past_is;
    same = same_more call s.between g s.same;
    none = (subst (λ (xs : List Call). keyboard.DoesNotWrite defaults layer key (accepts xs call)) s.past_is n, s.none);
  }

  since_between : (start : SimValue) (between rest : List Step) (past : List Call) (packet : Call) (layer key : ℕ) → SameTransfer between → NoneAcceptedWrites defaults start between rest layer key
      → Since (session start rest) past packet layer key → Since (session start (between ++ rest)) past packet layer key
  since_between start [] rest past packet layer key t n s = s
  since_between start (step ∷ between) rest past packet layer key t n s =
      since_more (session start (between ++ rest)) (kind step) step.flash.image past packet layer key t.0 n.0 (since_between start between rest past packet layer key t.1 n.1 s)

  -- the empty packet of its transfer
  reported_now : (now : Session) (past : List Call) (packet : Call) (command : Command) (image : List ℕ) (k : Kind) (layer key code : ℕ) → layer < layers → key < keys → written defaults command layer key ≡ Some code
      → accepts past packet ≡ Some command → k ≡ calls (In (EpPacket (record { items = [] }))) → Since now past packet layer key → Knows (session_with k image now) layer key code
  reported_now now past packet command image k layer key code l kk w a e s =
      subst (λ (x : Kind). Knows (session_with x image now) layer key code) (sym e)
      (in_session (record {
        in_layers = l;
        in_keys = kk;
        before = past;
        packet = packet;
        between = s.between;
        after = [];
        past_is = ap (λ (xs : List Call). In (EpPacket (record { items = [] })) ∷ xs) s.past_is;
        command = command;
        accepted = a;
        writes = w;
        same_transfer = s.same;
        not_since = (in_leaves (s.between ++ packet ∷ past) layer key, s.none);
      }))

  -- what was acknowledged is what the flash says
  pub acknowledged : (start : SimValue) (history : List Step) → EachStep (IsAnswered defaults) start history → KeepsAcknowledged defaults start history
  acknowledged start history h layer key code a =
      let rest : List Step = a.between ++ a.packet ∷ a.before in
      let is : history ≡ a.after ++ a.status ∷ rest = a.history_is ∙ append_assoc a.after (a.status ∷ a.between) (a.packet ∷ a.before) in
      let all : EachStep (IsAnswered defaults) start (a.after ++ a.status ∷ rest) = subst (λ (xs : List Step). EachStep (IsAnswered defaults) start xs) is h in
      let since : NoneAcceptedWrites defaults start (a.status ∷ a.between) (a.packet ∷ a.before) layer key = NoneAcceptedWrites-later start a.after (a.status ∷ a.between) (a.packet ∷ a.before) layer key a.not_since in
      let by : Brings (session start (a.packet ∷ a.before)) (session start a.before).past a.command =
      brings (session start a.before) (kind a.packet) a.packet.flash.image a.command a.accepted in
      let first : Since (session start (a.packet ∷ a.before)) (session start a.before).past by.packet layer key = record { between = []; past_is = by.past_is; same = tt; none = tt } in
      let there : Since (session start rest) (session start a.before).past by.packet layer key =
      since_between start a.between (a.packet ∷ a.before) (session start a.before).past by.packet layer key a.same_transfer since.1 first in
      let reported : Knows (session start (a.status ∷ rest)) layer key code =
      reported_now (session start rest) (session start a.before).past by.packet a.command a.status.flash.image (kind a.status) layer key code a.in_layers a.in_keys a.writes by.accepted (kind_reported a.status a.reported) there in
      let after : Knows (session start (a.after ++ a.status ∷ rest)) layer key code =
      knows_after start a.after (a.status ∷ rest) layer key code a.in_layers a.in_keys all (NoneAcceptedWrites-sooner start a.after (a.status ∷ a.between) (a.packet ∷ a.before) layer key a.not_since) reported in
      let now = here defaults start (a.after ++ a.status ∷ rest) all in
      subst (λ (xs : List Step). keymap defaults (flash_after start xs).image layer key ≡ code) (sym is)
      (ap (λ (image : List ℕ). keymap defaults image layer key) (sym now.image) ∙ stored (session start (a.after ++ a.status ∷ rest)) layer key code a.in_layers a.in_keys now.conforming after)
