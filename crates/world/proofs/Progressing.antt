-- A command that has nothing in its way is served.
use Rattle.std.proofs.Common.{◌≡◌, ◌≢◌, ℕ, Bool, IsSome, Option, None, Ok, List, [], ◌∷◌, ◌++◌, map, refl, ap, sym, ◌∙◌, subst}
use Rattle.std.proofs.lemmas.List.{length-map}
use Rattle.flash_model.specs.Sim.{SimValue}
use Rattle.layers.specs.declared.command.Command.{Command}
use Rattle.control_ep.specs.declared.answer.EpAnswer.{EpAnswer}
use Rattle.control_ep.specs.declared.answer.EpAnswer.TheVariants as ep
use Rattle.keymap_store.specs.declared.store.Work.{Work as WorkAnswer}
use Rattle.keymap_store.specs.declared.store.Work.TheVariants.{Idle, Working, Settled, Failed}
use Rattle.host.specs.Calls.{HostCall}
use Rattle.keyboard.specs.Calls.{Call, SetUp, Out, In, Worked as KeyboardWorked, EachCall}
use Rattle.keyboard.specs.Feature.{command_of_bytes}
use Rattle.keyboard.specs.Conforming as keyboard
use Rattle.keyboard.specs.Progress as session_specs
use Rattle.keyboard.proofs.Progressing.{served as served_in_session}
use Rattle.world.specs.declared.event.Event.{Event}
use Rattle.world.specs.declared.event.Event.TheVariants.{Setup, OutPacket, InPacket, Work}
use Rattle.world.specs.declared.event.Answer.{Answer}
use Rattle.world.specs.declared.event.Answer.TheVariants.{Ack, Packet, Worked}
use Rattle.world.specs.Kinds.{Step, kind_of, as_answer, ep_reported, work_reported}
use Rattle.world.specs.History.{Session, session_with, session, host_calls, flash_after, EachStep}
use Rattle.world.specs.Conforming.{Answered, IsAnswered, OperatedAs}
use Rattle.world.specs.Progress.{IsReady, AreWorks, BringsCommand, AllWork, EndSettled, IsServed}
use Rattle.world.proofs.Here.{by_endpoint, by_work, here}
use Rattle.std.proofs.Common.{append_assoc, ◌<◌, Some}
use Rattle.layers.specs.Codes.{layers, keys, DefaultCodes}
use Rattle.layers.specs.Entries.{written}
use Rattle.keyboard.specs.Acknowledged.{DoesNotWrite}
use Rattle.keyboard.specs.Calls.{keymap}
use Rattle.keyboard.specs.Commands.{accepts}
use Rattle.keyboard.proofs.Progressing.{accepts_data}
use Rattle.world.specs.declared.event.Event.TheVariants.{Entry}
use Rattle.world.specs.declared.event.Answer.TheVariants.{EntryIs}
use Rattle.world.specs.Acknowledged.{accepts_by, accepts_here, GoesOn, SameTransfer, NoneAcceptedWrites, IsAcknowledged}
use Rattle.world.proofs.Telling.{acknowledged}
use Rattle.std.proofs.Common.{replicate, ◌^◌, ◌-◌}
use Rattle.flash_model.specs.Image.{page_count, slot_at}
use Rattle.records.specs.declared.Slot.{Slot}
use Rattle.records.specs.declared.Slot.TheVariants.{Free, Good}
use Rattle.records.specs.Slots.{slot_of, IsSound}
use Rattle.records.proofs.SlotLemmas.{slot_of-blank, blank_slot, free_sound}
use Rattle.page_turnover.specs.Active.{active}
use Rattle.page_turnover.specs.Header.{header_word}
use Rattle.page_turnover.proofs.Headers.{active_none}
use Rattle.keyboard.specs.Commands.{working, accepted}

-- ---- what single steps are answered

-- the empty packet
abbrev empty : EpAnswer
empty = ep.Packet (record { items = [] })

-- it does not fail, leaves nothing armed, and is answered what it came to
record Quiet (answer : Answer) (new : SimValue) : Type 0 where
  whole : work_reported answer ≢ Failed
  unarmed : new.armed ≡ None
  reported : (work : WorkAnswer) → work_reported answer ≡ work → answer ≡ Worked work

nothing_armed : (o : Option (List ℕ)) → o ≡ None → IsSome o → ⊥
nothing_armed o n s = cc

abbrev call_of : Step → Call
call_of step = KeyboardWorked (work_reported step.answer) step.flash.image

record AllQuiet (start : SimValue) (works base : List Step) : Type 0 where
  whole : session_specs.AreWhole (map call_of works)
  unarmed : (flash_after start (works ++ base)).armed ≡ None

over_step : (now : Session) (event : Event) (answer : Answer) (image : List ℕ) (call : Call) (other : Event) → event ≡ other → session_with (kind_of other answer image) image now ≡ record { first = now.first; past = call ∷ now.past }
    → session_with (kind_of event answer image) image now ≡ record { first = now.first; past = call ∷ now.past }
over_step now event answer image call other e s = ap (λ (x : Event). session_with (kind_of x answer image) image now) e ∙ s

over_works : (start : SimValue) (works base : List Step) → AreWorks works
    → session start (works ++ base) ≡ record { first = (session start base).first; past = map call_of works ++ (session start base).past }
over_works start [] base w = refl
over_works start (step ∷ works) base w =
    over_step (session start (works ++ base)) step.event step.answer step.flash.image (call_of step) Work w.0 refl
    ∙ ap (λ (s : Session). let more : Session = record { first = s.first; past = call_of step ∷ s.past } in more) (over_works start works base w.1)

goes_on : (event : Event) (answer : Answer) (image : List ℕ) → event ≡ Work → GoesOn (kind_of event answer image)
goes_on event answer image e = rw e tt

same_transfer : (works : List Step) → AreWorks works → SameTransfer works
same_transfer [] w = tt
same_transfer (step ∷ works) w = (goes_on step.event step.answer step.flash.image w.0, same_transfer works w.1)

work_accepts : (past : List Call) (work : WorkAnswer) (image : List ℕ) → accepts past (KeyboardWorked work image) ≡ None
unfolding accepts
work_accepts past work image = refl

in_accepts : (past : List Call) → accepts past (In empty) ≡ None
unfolding accepts
in_accepts past = refl

accepted_data : (now : Session) (event : Event) (answer : Answer) (image : List ℕ) (a b c d e : ℕ) (command : Command) → event ≡ OutPacket (record { items = 3 ∷ a ∷ b ∷ c ∷ d ∷ e ∷ [] }) → ep_reported answer ≡ ep.Ack
    → command_of_bytes (a ∷ b ∷ c ∷ d ∷ e ∷ []) ≡ Ok command → (past : List Call) → now.past ≡ SetUp session_specs.set_feature ∷ past → accepts_by (kind_of event answer image) now.past ≡ Some command
accepted_data now event answer image a b c d e command is reported r past p =
    rw (is, reported, p) (accepts_data past a b c d e command r)

free_or_good : (kind : Slot) (word : ℕ) → kind ≡ Free → kind ≡ Good word → ⊥
free_or_good kind word f g = cc

none_or_some : (active : Option (ℕ × ℕ)) (place : ℕ × ℕ) → active ≡ None → active ≡ Some place → ⊥
none_or_some active place n s = cc

module _ (defaults : DefaultCodes) where
  answered_setup : (now : Session) (heard : List HostCall) (old : SimValue) (event : Event) (bytes : List ℕ) (answer : Answer) (refused : Bool) (new : SimValue) → event ≡ Setup bytes
      → Answered defaults now heard old event answer refused new → (answer ≡ Ack) × (new ≡ old)
  answered_setup now heard old event bytes answer refused new e a =
      let there : Answered defaults now heard old (Setup bytes) answer refused new = subst (λ (x : Event). Answered defaults now heard old x answer refused new) e a in
      (there.0, there.1.0)

  -- an answer to an OUT packet is the endpoint's, and leaves the flash
  reported_out : (now : Session) (heard : List HostCall) (old : SimValue) (items : List ℕ) (answer : Answer) (refused : Bool) (new : SimValue) → Answered defaults now heard old (OutPacket (record { items = items })) answer refused new
      → (ep_reported answer ≡ ep.Ack → answer ≡ Ack) × (new ≡ old)
  reported_out now heard old items answer refused new (by_ep, is, l, u) = (λ reported. is ∙ ap as_answer (sym (by_endpoint answer by_ep is) ∙ reported), u.0)

  answered_out : (now : Session) (heard : List HostCall) (old : SimValue) (event : Event) (items : List ℕ) (answer : Answer) (refused : Bool) (new : SimValue) → event ≡ OutPacket (record { items = items })
      → Answered defaults now heard old event answer refused new → (ep_reported answer ≡ ep.Ack → answer ≡ Ack) × (new ≡ old)
  answered_out now heard old event items answer refused new e a =
      reported_out now heard old items answer refused new (subst (λ (x : Event). Answered defaults now heard old x answer refused new) e a)

  reported_in : (now : Session) (heard : List HostCall) (old : SimValue) (answer : Answer) (refused : Bool) (new : SimValue) → Answered defaults now heard old InPacket answer refused new → ep_reported answer ≡ empty → answer ≡ Packet (record { items = [] })
  reported_in now heard old answer refused new (by_ep, is, l, f, m) reported = is ∙ ap as_answer (sym (by_endpoint answer by_ep is) ∙ reported)

  answered_in : (now : Session) (heard : List HostCall) (old : SimValue) (event : Event) (answer : Answer) (refused : Bool) (new : SimValue) → event ≡ InPacket → Answered defaults now heard old event answer refused new
      → ep_reported answer ≡ empty → answer ≡ Packet (record { items = [] })
  answered_in now heard old event answer refused new e a reported = reported_in now heard old answer refused new (subst (λ (x : Event). Answered defaults now heard old x answer refused new) e a) reported

  -- ---- a step of the flash work on a flash of which nothing is armed

  by_operated : (now : Session) (old : SimValue) (work : WorkAnswer) (new : SimValue) → old.armed ≡ None → OperatedAs defaults now old old work new → (work ≢ Failed) × (new.armed ≡ None)
  by_operated now old Idle new u o = (λ e. cc, ap (λ (f : SimValue). f.armed) o ∙ u)
  by_operated now old Working new u o = (λ e. cc, o.is_such.armed)
  by_operated now old Settled new u o = (λ e. cc, o.is_such.armed)
  by_operated now old Failed new u o = absurd (nothing_armed old.armed u o.1)

  worked_quiet : (now : Session) (heard : List HostCall) (old : SimValue) (answer : Answer) (refused : Bool) (new : SimValue) → old.armed ≡ None → Answered defaults now heard old Work answer refused new → Quiet answer new
  worked_quiet now heard old answer refused new u (work, is, w, r) =
      let reported = by_work answer work is in
      let o = by_operated now old work new u w.operated in
      record { whole = λ f. o.0 (sym reported ∙ f); unarmed = o.1; reported = λ other same. is ∙ ap Worked (sym reported ∙ same) }

  step_quiet : (now : Session) (heard : List HostCall) (old : SimValue) (event : Event) (answer : Answer) (refused : Bool) (new : SimValue) → event ≡ Work → old.armed ≡ None → Answered defaults now heard old event answer refused new → Quiet answer new
  step_quiet now heard old event answer refused new e u a = worked_quiet now heard old answer refused new u (subst (λ (x : Event). Answered defaults now heard old x answer refused new) e a)

  -- ---- all steps of the flash work

  quiet_at : (start : SimValue) (step : Step) (before : List Step) → step.event ≡ Work → (flash_after start before).armed ≡ None → IsAnswered defaults start before step → Quiet step.answer step.flash
  quiet_at start step before e u a = step_quiet (session start before) (host_calls before) (flash_after start before) step.event step.answer step.refused step.flash e u a

  all_quiet : (start : SimValue) (works base : List Step) → AreWorks works → (flash_after start base).armed ≡ None → EachStep (IsAnswered defaults) start (works ++ base) → AllQuiet start works base
  all_quiet start [] base w u h = record { whole = tt; unarmed = u }
  all_quiet start (step ∷ works) base w u h =
      let there = all_quiet start works base w.1 u h.1 in
      let here = quiet_at start step (works ++ base) w.0 there.unarmed h.0 in
      record { whole = (here.whole, there.whole); unarmed = here.unarmed }

  all_work : (start : SimValue) (works base : List Step) → AreWorks works → (flash_after start base).armed ≡ None → EachStep (IsAnswered defaults) start (works ++ base) → session_specs.AllWork (map call_of works) → AllWork works
  all_work start [] base w u h a = tt
  all_work start (step ∷ works) base w u h a =
      let here = quiet_at start step (works ++ base) w.0 (all_quiet start works base w.1 u h.1).unarmed h.0 in
      (here.reported Working a.0, all_work start works base w.1 u h.1 a.1)

  end_settled : (start : SimValue) (works base : List Step) → AreWorks works → (flash_after start base).armed ≡ None → EachStep (IsAnswered defaults) start (works ++ base) → session_specs.EndSettled (map call_of works) → EndSettled works
  end_settled start [] base w u h a = tt
  end_settled start (step ∷ works) base w u h a =
      let here = quiet_at start step (works ++ base) w.0 (all_quiet start works base w.1 u h.1).unarmed h.0 in
      (here.reported Settled a.0, all_work start works base w.1 u h.1 a.1)

  -- ---- the session

  later : (start : SimValue) (xs ys : List Step) → EachStep (IsAnswered defaults) start (xs ++ ys) → EachStep (IsAnswered defaults) start ys
  later start [] ys h = h
  later start (step ∷ xs) ys h = later start xs ys h.1

  pub served : (start : SimValue) (before works : List Step) (setup brought status : Step) (a b c d e : ℕ) (command : Command) → IsReady defaults start before → command_of_bytes (a ∷ b ∷ c ∷ d ∷ e ∷ []) ≡ Ok command
      → BringsCommand defaults start before setup brought works status a b c d e command → EachStep (IsAnswered defaults) start (status ∷ works ++ brought ∷ setup ∷ before) → IsServed setup brought works status
  served start before works setup brought status a b c d e command ready r t h =
      let base : List Step = brought ∷ setup ∷ before in
      let now : Session = session start before in
      let packet : List ℕ = 3 ∷ a ∷ b ∷ c ∷ d ∷ e ∷ [] in
      let conforming = later start works base h.1 in
      let at_setup = answered_setup now (host_calls before) (flash_after start before) setup.event session_specs.set_feature setup.answer setup.refused setup.flash t.begins conforming.1.0 in
      let at_data = answered_out (session start (setup ∷ before)) (host_calls (setup ∷ before)) setup.flash brought.event packet brought.answer brought.refused brought.flash t.brings conforming.0 in
      let unarmed : brought.flash.armed ≡ None = ap (λ (f : SimValue). f.armed) (at_data.1 ∙ at_setup.1) ∙ ready.unarmed in
      let base_is : session start base ≡ record { first = now.first; past = Out packet (ep_reported brought.answer) ∷ SetUp session_specs.set_feature ∷ now.past } =
      over_step (session start (setup ∷ before)) brought.event brought.answer brought.flash.image (Out packet (ep_reported brought.answer)) (OutPacket (record { items = packet })) t.brings refl
      ∙ ap (λ (s : Session). let more : Session = record { first = s.first; past = Out packet (ep_reported brought.answer) ∷ s.past } in more)
      (over_step now setup.event setup.answer setup.flash.image (SetUp session_specs.set_feature) (Setup session_specs.set_feature) t.begins refl) in
      let all_is : session start (status ∷ works ++ base)
      ≡ record { first = now.first; past = In (ep_reported status.answer) ∷ map call_of works ++ Out packet (ep_reported brought.answer) ∷ SetUp session_specs.set_feature ∷ now.past } =
      over_step (session start (works ++ base)) status.event status.answer status.flash.image (In (ep_reported status.answer)) InPacket t.asks refl
      ∙ ap (λ (s : Session). let more : Session = record { first = s.first; past = In (ep_reported status.answer) ∷ s.past } in more)
      (over_works start works base t.flash_work ∙ ap (λ (s : Session). let more : Session = record { first = s.first; past = map call_of works ++ s.past } in more) base_is) in
      let calls = subst (λ (s : Session). EachCall (keyboard.IsAnswered defaults) s.first s.past) all_is (here defaults start (status ∷ works ++ base) h).conforming in
      let as_many = length-map works call_of ∙ t.as_many ∙ ap (λ (i : List ℕ). session_specs.steps_for defaults i command) (sym (here defaults start before conforming.1.1).image) in
      let s = served_in_session defaults now.first now.past (map call_of works) a b c d e (ep_reported brought.answer) (ep_reported status.answer) command ready.session r
      (all_quiet start works base t.flash_work unarmed h.1).whole as_many calls in
      record {
        began = at_setup.0;
        acknowledged = at_data.0 s.acknowledged;
        stored = end_settled start works base t.flash_work unarmed h.1 s.stored;
        confirmed = answered_in (session start (works ++ base)) (host_calls (works ++ base)) (flash_after start (works ++ base)) status.event status.answer status.refused status.flash t.asks h.0 s.confirmed;
      }

  -- ---- what a look shows afterwards

  none_written : (layer key : ℕ) (o : Option Command) → o ≡ None → DoesNotWrite defaults layer key o
  none_written layer key o e = rw e tt

  work_writes_none : (now : Session) (event : Event) (answer : Answer) (image : List ℕ) (layer key : ℕ) → event ≡ Work → DoesNotWrite defaults layer key (accepts_by (kind_of event answer image) now.past)
  work_writes_none now event answer image layer key e =
      rw e (none_written layer key (accepts now.past (KeyboardWorked (work_reported answer) image)) (work_accepts now.past (work_reported answer) image))

  in_writes_none : (now : Session) (event : Event) (answer : Answer) (image : List ℕ) (layer key : ℕ) → event ≡ InPacket → ep_reported answer ≡ empty → DoesNotWrite defaults layer key (accepts_by (kind_of event answer image) now.past)
  in_writes_none now event answer image layer key e reported =
      rw e (none_written layer key (accepts now.past (In (ep_reported answer))) (ap (λ (x : EpAnswer). accepts now.past (In x)) reported ∙ in_accepts now.past))

  works_write_none : (start : SimValue) (works base : List Step) (layer key : ℕ) → AreWorks works → NoneAcceptedWrites defaults start works base layer key
  works_write_none start [] base layer key w = tt
  works_write_none start (step ∷ works) base layer key w =
      (work_writes_none (session start (works ++ base)) step.event step.answer step.flash.image layer key w.0, works_write_none start works base layer key w.1)

  none_in_both : (start : SimValue) (after between base : List Step) (layer key : ℕ) → NoneAcceptedWrites defaults start after (between ++ base) layer key → NoneAcceptedWrites defaults start between base layer key
      → NoneAcceptedWrites defaults start (after ++ between) base layer key
  none_in_both start [] between base layer key a b = b
  none_in_both start (step ∷ after) between base layer key a b =
      (subst (λ (xs : List Step). DoesNotWrite defaults layer key (accepts_here start xs step)) (sym (append_assoc after between base)) a.0, none_in_both start after between base layer key a.1 b)

  shown_entry : (now : Session) (heard : List HostCall) (old : SimValue) (event : Event) (answer : Answer) (refused : Bool) (new : SimValue) (layer key code : ℕ) → event ≡ Entry layer key → keymap defaults old.image layer key ≡ code
      → Answered defaults now heard old event answer refused new → answer ≡ EntryIs code
  shown_entry now heard old event answer refused new layer key code e k a =
      let there : Answered defaults now heard old (Entry layer key) answer refused new = subst (λ (x : Event). Answered defaults now heard old x answer refused new) e a in
      there.0 ∙ ap EntryIs k

  pub shown : (start : SimValue) (before works after : List Step) (setup brought status look : Step) (a b c d e layer key code : ℕ) (command : Command) → IsReady defaults start before → command_of_bytes (a ∷ b ∷ c ∷ d ∷ e ∷ []) ≡ Ok command
      → BringsCommand defaults start before setup brought works status a b c d e command → layer < layers → key < keys → written defaults command layer key ≡ Some code
      → NoneAcceptedWrites defaults start after (status ∷ works ++ brought ∷ setup ∷ before) layer key → look.event ≡ Entry layer key
      → EachStep (IsAnswered defaults) start (look ∷ after ++ status ∷ works ++ brought ∷ setup ∷ before) → look.answer ≡ EntryIs code
  shown start before works after setup brought status look a b c d e layer key code command ready r t l k w none looks h =
      let base : List Step = brought ∷ setup ∷ before in
      let all : List Step = status ∷ works ++ base in
      let whole : List Step = after ++ status ∷ works ++ base in
      let conforming = later start after all (subst (λ (xs : List Step). EachStep (IsAnswered defaults) start xs) (append_assoc after (status ∷ works) base) h.1) in
      let s = served start before works setup brought status a b c d e command ready r t conforming in
      let past_is : (session start (setup ∷ before)).past ≡ SetUp session_specs.set_feature ∷ (session start before).past =
      ap (λ (x : Session). x.past) (over_step (session start before) setup.event setup.answer setup.flash.image (SetUp session_specs.set_feature) (Setup session_specs.set_feature) t.begins refl) in
      let status_none = in_writes_none (session start (works ++ base)) status.event status.answer status.flash.image layer key t.asks (ap ep_reported s.confirmed) in
      let between_none : NoneAcceptedWrites defaults start (status ∷ works) base layer key = (status_none, works_write_none start works base layer key t.flash_work) in
      let reported : IsAcknowledged defaults start whole layer key code = record {
        in_layers = l;
        in_keys = k;
        before = setup ∷ before;
        packet = brought;
        between = works;
        status = status;
        after = after;
        history_is = refl;
        command = command;
        accepted = accepted_data (session start (setup ∷ before)) brought.event brought.answer brought.flash.image a b c d e command t.brings (ap ep_reported s.acknowledged) r (session start before).past past_is;
        writes = w;
        same_transfer = same_transfer works t.flash_work;
        reported = (t.asks, s.confirmed);
        not_since = none_in_both start after (status ∷ works) base layer key none between_none;
      } in
      shown_entry (session start whole) (host_calls whole) (flash_after start whole) look.event look.answer look.refused look.flash layer key code looks
      (acknowledged defaults start whole h.1 layer key code reported) h.0

  -- ---- a flash as it comes from the factory

  rests_at_first : (image : List ℕ) → working defaults image [] ≡ None
  unfolding working accepted
  rests_at_first image = refl

  pub erased_ready : (start : SimValue) → start.armed ≡ None → ((p : ℕ) → p < page_count start.image → slot_at start.image p 0 ≡ replicate 8 255) → IsReady defaults start []
  erased_ready start armed erased =
      let free : (p : ℕ) → p < page_count start.image → slot_of (slot_at start.image p 0) ≡ Free = λ p l. ap slot_of (erased p l) ∙ slot_of-blank in
      let none : active start.image ≡ None =
      active_none start.image (λ p s l h. free_or_good (slot_of (slot_at start.image p 0)) (header_word h.format s) (free p l) h.good) in
      record {
        session = record {
          sound = record { sound = λ p l. subst IsSound (sym (erased p l)) (free_sound (replicate 8 255) blank_slot slot_of-blank) };
          not_worn = λ w. none_or_some (active start.image) (w.page, 2 ^ 28 - 1) none w.last;
          rests = rests_at_first start.image;
        };
        unarmed = armed;
      }
