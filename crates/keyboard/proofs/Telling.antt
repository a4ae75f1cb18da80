-- What the host was told is stored stays stored.
use Rattle.std.proofs.Common.{◌≡◌, ℕ, ◌<◌, ◌||◌, Bool, true, false, if◌then◌else◌, is_some, Option, Some, None, Result, Ok, Err, List, [], ◌∷◌, ◌++◌, drop, refl, sym, ◌∙◌, append_assoc, subst, ap}
use Rattle.layers.specs.Codes.{layers, keys, DefaultCodes}
use Rattle.layers.specs.Entries.{written}
use Rattle.layers.specs.declared.code.KeymapError.{KeymapError}
use Rattle.layers.specs.declared.command.Command.{Command}
use Rattle.layers.proofs.LastWriter.{changed-one}
use Rattle.std.specs.List.{list_any}
use Rattle.control_ep.specs.declared.why.Why.{Why}
use Rattle.control_ep.specs.declared.answer.EpAnswer.{EpAnswer}
use Rattle.control_ep.specs.declared.answer.EpAnswer.TheVariants.{Ack, Nak, Packet, Stall}
use Rattle.control_ep.specs.declared.answer.OutStep.{OutStep}
use Rattle.control_ep.specs.declared.answer.OutStep.TheVariants.{Answered, Leds, Offer}
use Rattle.control_ep.specs.Transfers.{LedsWithId, LedsAlone, FeatureData, Takes, Stage, Rest, Sending, Taking, Waiting, Status, Stalled}
use Rattle.control_ep.specs.Calls.{EpCall, Checked, Out as EpOut}
use Rattle.control_ep.specs.Stage.{Begins, calls_since, last_setup, first_stall, is_ack, acknowledges, is_empty_in, command_state, CommandState, NoCommand, Works, Settled, Failed, state_after, progress_of, after_command, unless_stalled, stage}
use Rattle.control_ep.specs.Answers.{out_step, in_answer, received_report, report_step}
use Rattle.control_ep.proofs.Stages.{stage-is, taking_is, IsTaking}
use Rattle.control_ep.proofs.Clean.{received_is}
use Rattle.keymap_store.specs.declared.store.Work.TheVariants as Work
use Rattle.keyboard.specs.Calls.{Call, Scanned, SetUp, Out, In, Polled, Worked, BusReset, setup_of, image_after, keymap, EachCall}
use Rattle.keyboard.specs.Effects.{report_named}
use Rattle.keyboard.specs.Feature.{command_of_bytes}
use Rattle.keyboard.specs.Fate.{Fate, works, settled, failed, fate, fate_after, changes, changes_by, ended_by}
use Rattle.keyboard.specs.Commands.{accepts, working}
use Rattle.keyboard.specs.Endpoint.{verdict_reported, with_out, ep_calls, stage_after}
use Rattle.keyboard.specs.Conforming.{IsAnswered, OutAnswer}
use Rattle.keyboard.specs.Acknowledged.{SameTransfer, DoesNotWrite, NoneAcceptedWrites, IsAcknowledgedInSession, KeepsAcknowledged}
use Rattle.keyboard.proofs.Accepting.{fate-more, ended_by-failed, ended_by-idle, ended_by-working}
use Rattle.keyboard.proofs.Changing.{changes-false}
use Rattle.keyboard.proofs.Served.{Serves, serves}
use Rattle.keyboard.proofs.Effects.{Effect, stays, takes, settles, fails, effect, Accepts, accepted_by}
use Rattle.keyboard.proofs.Sessions.{Orderly, orderly, working_after, after_stays, after_takes, after_settles, after_fails, AfterTaken, now_works, changed_nothing}

not_accepted : (o : Option Command) (command : Command) → o ≡ None → o ≡ Some command → ⊥
not_accepted o command n s = cc

-- the endpoint's calls of a transfer whose feature report was taken, and what became of its command
pub record TakenBy (calls : List EpCall) (state : CommandState) : Type 0 where
  pub length : ℕ
  pub begins : last_setup calls ≡ Begins (Takes FeatureData) length
  pub taken : list_any acknowledges (calls_since calls) ≡ true
  pub command : command_state (calls_since calls) ≡ state

pub or_false : (a b : Bool) → (a || b) ≡ false → b ≡ false
or_false true b e = cc
or_false false b e = e

or_true : (a b : Bool) → b ≡ true → (a || b) ≡ true
or_true true b e = refl
or_true false b e = e

-- before a report is taken no command was begun
abbrev Untaken : List EpCall → Type 0
Untaken calls = list_any acknowledges (calls_since calls) ≡ false → command_state (calls_since calls) ≡ NoCommand

untaken_checked : (changing : Bool) (bytes packet : List ℕ) (answer : EpAnswer) (calls : List EpCall) → Untaken calls
    → Untaken (Checked (verdict_reported changing answer) answer ∷ EpOut packet (Offer bytes) ∷ calls)
untaken_checked changing bytes packet Ack calls u e = cc
untaken_checked changing bytes packet Nak calls u e = u e
untaken_checked changing bytes packet (Packet p) calls u e = u e
untaken_checked changing bytes packet (Stall why) calls u e = u e

ended_none : (state end : CommandState) → state ≡ NoCommand → state_after state end ≡ NoCommand
ended_none NoCommand end e = refl
ended_none Works end e = cc
ended_none Settled end e = cc
ended_none Failed end e = cc

-- a feature report that was acknowledged was offered
pub record Offered (now : Stage) (packet : List ℕ) : Type 0 where
  pub due : now ≡ Taking FeatureData
  pub step : out_step now packet ≡ Offer (drop 1 packet)

-- what the endpoint knows of a command, by what became of it
abbrev pub state_reported : Bool → Fate → CommandState
state_reported false f = NoCommand
state_reported true works = Works
state_reported true settled = Settled
state_reported true failed = Failed

checked_state : (changing : Bool) (packet bytes : List ℕ) (calls : List EpCall) → command_state (calls_since calls) ≡ NoCommand
    → command_state (calls_since (Checked (verdict_reported changing Ack) Ack ∷ EpOut packet (Offer bytes) ∷ calls)) ≡ state_reported changing works
checked_state true packet bytes calls n = refl
checked_state false packet bytes calls n = n

-- the stage of such a transfer
pub taken_stage : (calls : List EpCall) (state : CommandState) → TakenBy calls state
    → stage calls ≡ unless_stalled (first_stall (calls_since calls)) (after_command state (list_any is_empty_in (calls_since calls)))
taken_stage calls state t = stage-is calls ∙ rw (t.begins, t.taken, t.command) refl

-- a further packet is stalled
stalls_out : (stalled : Option Why) (state : CommandState) (confirmed : Bool) (packet : List ℕ)
    → (answer : EpAnswer) × (out_step (unless_stalled stalled (after_command state confirmed)) packet ≡ Answered answer)
stalls_out (Some why) state confirmed packet = (Stall why, refl)
stalls_out None Works confirmed packet = (_, refl)
stalls_out None Failed confirmed packet = (_, refl)
stalls_out None NoCommand true packet = (_, refl)
stalls_out None NoCommand false packet = (_, refl)
stalls_out None Settled true packet = (_, refl)
stalls_out None Settled false packet = (_, refl)

with_state : (calls : List EpCall) (state other : CommandState) → state ≡ other → TakenBy calls state → TakenBy calls other
with_state calls state other e t = subst (λ (x : CommandState). TakenBy calls x) e t

same_later : (call : Call) (between : List Call) → SameTransfer (call ∷ between) → SameTransfer between
same_later (Scanned scan) between s = s
same_later (SetUp bytes) between s = absurd s
same_later (Out packet answer) between s = s
same_later (In answer) between s = s
same_later (Polled answer) between s = s
same_later (Worked work image) between s = s
same_later BusReset between s = absurd s

-- the empty packet comes only once the command is settled
ended_state : (stalled : Option Why) (state : CommandState) (confirmed : Bool) → Packet (record { items = [] }) ≡ in_answer (unless_stalled stalled (after_command state confirmed))
    → (state ≡ Works → ⊥) × (state ≡ Failed → ⊥)
ended_state (Some why) state confirmed e = cc
ended_state None Works confirmed e = cc
ended_state None Failed confirmed e = cc
ended_state None NoCommand confirmed e = (λ w. cc, λ f. cc)
ended_state None Settled confirmed e = (λ w. cc, λ f. cc)

settled_fate : (changing : Bool) (f : Fate) → (state_reported changing f ≡ Works → ⊥) → (state_reported changing f ≡ Failed → ⊥) → (if changing then f else settled) ≡ settled
settled_fate false f w n = refl
settled_fate true works w n = absurd (w refl)
settled_fate true settled w n = refl
settled_fate true failed w n = absurd (n refl)

settled_not_works : (f : Fate) → f ≡ works → f ≡ settled → ⊥
settled_not_works f w s = cc

settled_not_failed : (f : Fate) → f ≡ failed → f ≡ settled → ⊥
settled_not_failed f w s = cc

-- a command comes with an OUT packet
pub record IsOut (call : Call) : Type 0 where
  pub packet : List ℕ
  pub answer : EpAnswer
  pub is : call ≡ Out packet answer

pub accepts_out : (before : List Call) (call : Call) (command : Command) → accepts before call ≡ Some command → IsOut call
unfolding accepts
accepts_out before (Scanned scan) command e = cc
accepts_out before (SetUp bytes) command e = cc
accepts_out before (Out packet answer) command e = record { packet = packet; answer = answer; is = refl }
accepts_out before (In answer) command e = cc
accepts_out before (Polled answer) command e = cc
accepts_out before (Worked work image) command e = cc
accepts_out before BusReset command e = cc

pub EachCall-later : (P : List ℕ → List Call → Call → Type 0) (start : List ℕ) (later past : List Call) → EachCall P start (later ++ past) → EachCall P start past
EachCall-later P start [] past h = h
EachCall-later P start (call ∷ later) past h = EachCall-later P start later past h.1

module _ (defaults : DefaultCodes) where
  -- the entry has the code, and the command that works, if one does, leaves it
  pub record Stored (start : List ℕ) (past : List Call) (layer key code : ℕ) : Type 0 where
    pub entry_is : keymap defaults (image_after start past) layer key ≡ code
    pub left_alone : DoesNotWrite defaults layer key (working defaults start past)

  -- the working command leaves the entry
  left_by : (start : List ℕ) (past : List Call) (layer key code : ℕ) (command : Command) → Stored start past layer key code → working defaults start past ≡ Some command → written defaults command layer key ≡ None
  left_by start past layer key code command s w = rw w at s.left_alone

  -- a call more keeps it, if the command that it accepts leaves the entry
  stored_more : (start : List ℕ) (before : List Call) (call : Call) (layer key code : ℕ) → layer < layers → key < keys → Orderly defaults start before → Effect defaults start before call
      → DoesNotWrite defaults layer key (accepts before call) → Stored start before layer key code → Stored start (call ∷ before) layer key code
  stored_more start before call layer key code l k o (stays n a e) leaves s =
      let w : working defaults start (call ∷ before) ≡ working defaults start before = working_after defaults start before call (working defaults start before) (after_stays defaults start before call o n a e) in
      record { entry_is = e layer key l k ∙ s.entry_is; left_alone = rw w s.left_alone }
  stored_more start before call layer key code l k o (takes command n a e free) leaves s = by_taken (after_takes defaults start before call command o n a e free)
    where
      entry : keymap defaults (image_after start (call ∷ before)) layer key ≡ code
      entry = ap (λ (image : List ℕ). keymap defaults image layer key) e ∙ s.entry_is

      by_taken : AfterTaken defaults start before call command → Stored start (call ∷ before) layer key code
      by_taken (now_works c x) = record { entry_is = entry; left_alone = (let w : working defaults start (call ∷ before) ≡ Some command = working_after defaults start before call (Some command) x in rw w (rw a at leaves)) }
      by_taken (changed_nothing c x) = record { entry_is = entry; left_alone = (let w : working defaults start (call ∷ before) ≡ None = working_after defaults start before call None x in rw w tt) }
  stored_more start before call layer key code l k o (settles command a n w e) leaves s =
      let left : written defaults command layer key ≡ None = left_by start before layer key code command s w in
      let now : working defaults start (call ∷ before) ≡ None = working_after defaults start before call None (after_settles defaults start before call command o a n w e) in
      record {
        entry_is = e layer key l k ∙ changed-one defaults (keymap defaults (image_after start before)) command layer key ∙ rw left s.entry_is;
        left_alone = rw now tt;
      }
  stored_more start before call layer key code l k o (fails command a n w e) leaves s =
      let now : working defaults start (call ∷ before) ≡ None = working_after defaults start before call None (after_fails defaults start before call command o a n w e) in
      record { entry_is = e layer key l k ∙ s.entry_is; left_alone = rw now tt }

  -- any calls more
  stored : (start : List ℕ) (later past : List Call) (layer key code : ℕ) → layer < layers → key < keys → EachCall (IsAnswered defaults) start (later ++ past) → NoneAcceptedWrites defaults later past layer key
      → Stored start past layer key code → Stored start (later ++ past) layer key code
  stored start [] past layer key code l k h n s = s
  stored start (call ∷ later) past layer key code l k h n s =
      stored_more start (later ++ past) call layer key code l k (orderly defaults start (later ++ past) h.1) (effect defaults start (later ++ past) call h.0) n.0
      (stored start later past layer key code l k h.1 n.1 s)

  -- the command waits for its record, or is stored, or failed
  data Reported (start : List ℕ) (past before between : List Call) (layer key code : ℕ) (asked : Command) : Type 0 where
    waits : fate defaults (keymap defaults (image_after start before)) asked between ≡ works → working defaults start past ≡ Some asked → Reported start past before between layer key code asked
    is_stored : Stored start past layer key code → Reported start past before between layer key code asked
    has_failed : fate defaults (keymap defaults (image_after start before)) asked between ≡ failed → Reported start past before between layer key code asked

  -- the packet that brings the command
  reported_at_packet : (start : List ℕ) (before : List Call) (call : Call) (layer key code : ℕ) (asked : Command) → layer < layers → key < keys → written defaults asked layer key ≡ Some code → Orderly defaults start before → Effect defaults start before call
      → accepts before call ≡ Some asked → Reported start (call ∷ before) before [] layer key code asked
  reported_at_packet start before call layer key code asked l k gives o (stays n a e) s = absurd (not_accepted (accepts before call) asked a s)
  reported_at_packet start before call layer key code asked l k gives o (settles command a n w e) s = absurd (not_accepted (accepts before call) asked n s)
  reported_at_packet start before call layer key code asked l k gives o (fails command a n w e) s = absurd (not_accepted (accepts before call) asked n s)
  reported_at_packet start before call layer key code asked l k gives o (takes command n a e free) s =
      by_taken (after_takes defaults start before call asked o n s e free)
    where
      by_taken : AfterTaken defaults start before call asked → Reported start (call ∷ before) before [] layer key code asked
      by_taken (now_works c h) = waits (rw c refl) (working_after defaults start before call (Some asked) h)
      by_taken (changed_nothing c h) =
          is_stored (record {
            entry_is = ap (λ (image : List ℕ). keymap defaults image layer key) e
                ∙ sym (changes-false defaults (keymap defaults (image_after start before)) asked c layer key l k)
                ∙ changed-one defaults (keymap defaults (image_after start before)) asked layer key ∙ rw gives refl;
            left_alone = (let w : working defaults start (call ∷ before) ≡ None = working_after defaults start before call None h in rw w tt);
          })

  -- a later call
  reported_more : (start : List ℕ) (past : List Call) (call : Call) (before between : List Call) (layer key code : ℕ) (asked : Command) → layer < layers → key < keys → written defaults asked layer key ≡ Some code → Orderly defaults start past → Effect defaults start past call
      → DoesNotWrite defaults layer key (accepts past call) → Reported start past before between layer key code asked → Reported start (call ∷ past) before (call ∷ between) layer key code asked
  reported_more start past call before between layer key code asked l k gives o effect leaves (is_stored s) = is_stored (stored_more start past call layer key code l k o effect leaves s)
  reported_more start past call before between layer key code asked l k gives o effect leaves (has_failed f) =
      has_failed (fate-more defaults (keymap defaults (image_after start before)) asked call between ∙ ap (ended_by defaults call) f ∙ ended_by-failed defaults call)
  reported_more start past call before between layer key code asked l k gives o (stays n a e) leaves (waits f w) =
      waits (fate-more defaults (keymap defaults (image_after start before)) asked call between ∙ n.keeps (fate defaults (keymap defaults (image_after start before)) asked between) ∙ f)
      (working_after defaults start past call (working defaults start past) (after_stays defaults start past call o n a e) ∙ w)
  reported_more start past call before between layer key code asked l k gives o (takes command n a e free) leaves (waits f w) = absurd (free (rw w refl))
  reported_more start past call before between layer key code asked l k gives o (fails command a n v e) leaves (waits f w) =
      has_failed (fate-more defaults (keymap defaults (image_after start before)) asked call between ∙ ap (ended_by defaults call) f ∙ a)
  reported_more start past call before between layer key code asked l k gives o (settles command a n v e) leaves (waits f w) =
      let same : command ≡ asked = cc in
      let now : working defaults start (call ∷ past) ≡ None = working_after defaults start past call None (after_settles defaults start past call command o a n v e) in
      is_stored (record {
        entry_is = e layer key l k ∙ changed-one defaults (keymap defaults (image_after start past)) command layer key ∙ rw (same, gives) refl;
        left_alone = rw now tt;
      })

  reported_between : (start : List ℕ) (between before : List Call) (call : Call) (layer key code : ℕ) (asked : Command) → layer < layers → key < keys → written defaults asked layer key ≡ Some code
      → EachCall (IsAnswered defaults) start (between ++ call ∷ before) → NoneAcceptedWrites defaults between (call ∷ before) layer key → accepts before call ≡ Some asked
      → Reported start (between ++ call ∷ before) before between layer key code asked
  reported_between start [] before call layer key code asked l k gives h n s = reported_at_packet start before call layer key code asked l k gives (orderly defaults start before h.1) (effect defaults start before call h.0) s
  reported_between start (next ∷ between) before call layer key code asked l k gives h n s =
      reported_more start (between ++ call ∷ before) next before between layer key code asked l k gives (orderly defaults start (between ++ call ∷ before) h.1) (effect defaults start (between ++ call ∷ before) next h.0)
      n.0 (reported_between start between before call layer key code asked l k gives h.1 n.1 s)

  untaken_out : (step : OutStep) (packet : List ℕ) (entries : ℕ → ℕ → ℕ) (answer : EpAnswer) (calls : List EpCall) → Untaken calls → Untaken (with_out defaults step packet entries answer calls)
  untaken_out (Answered a) packet entries answer calls u e = u (or_false (is_ack a) (list_any acknowledges (calls_since calls)) e)
  untaken_out (Leds leds) packet entries answer calls u e = cc
  untaken_out (Offer bytes) packet entries answer calls u e = untaken_checked (changes_by defaults entries (command_of_bytes bytes)) bytes packet answer calls u e

  untaken : (start : List ℕ) (past : List Call) → Untaken (ep_calls defaults start past)
  unfolding ep_calls
  untaken start [] e = refl
  untaken start (Scanned scan ∷ before) e = untaken start before e
  untaken start (SetUp bytes ∷ before) e = refl
  untaken start (Out packet answer ∷ before) e =
      untaken_out (out_step (stage (ep_calls defaults start before)) packet) packet (keymap defaults (image_after start before)) answer (ep_calls defaults start before) (untaken start before) e
  untaken start (In answer ∷ before) e = untaken start before e
  untaken start (Polled answer ∷ before) e = untaken start before e
  untaken start (Worked Work.Idle image ∷ before) e = untaken start before e
  untaken start (Worked Work.Working image ∷ before) e = untaken start before e
  untaken start (Worked Work.Settled image ∷ before) e = ended_none (command_state (calls_since (ep_calls defaults start before))) Settled (untaken start before e)
  untaken start (Worked Work.Failed image ∷ before) e = ended_none (command_state (calls_since (ep_calls defaults start before))) Failed (untaken start before e)
  untaken start (BusReset ∷ before) e = refl

  offered_received : (image : List ℕ) (busy : Bool) (packet : List ℕ) (r : Result OutStep Why) → received_report FeatureData packet ≡ r → OutAnswer defaults (report_step r) image busy Ack
      → report_step r ≡ Offer (drop 1 packet)
  offered_received image busy packet (Err why) e a = cc
  offered_received image busy packet (Ok got) e a = sym (received_is FeatureData packet got e)

  offered_by : (image : List ℕ) (busy : Bool) (setup : Option (List ℕ)) (packet : List ℕ) (now : Stage) → Serves setup now → report_named setup ≡ Some FeatureData
      → OutAnswer defaults (out_step now packet) image busy Ack → Offered now packet
  offered_by image busy setup packet Rest s n a = cc
  offered_by image busy setup packet (Sending bytes asked sent) s n a = (let none : report_named setup ≡ None = s.0 in cc)
  offered_by image busy setup packet (Taking LedsWithId) s n a = (let led : report_named setup ≡ Some LedsWithId = s.0 in cc)
  offered_by image busy setup packet (Taking LedsAlone) s n a = (let led : report_named setup ≡ Some LedsAlone = s.0 in cc)
  offered_by image busy setup packet (Taking FeatureData) s n a = record { due = refl; step = offered_received image busy packet (received_report FeatureData packet) refl a }
  offered_by image busy setup packet Waiting s n a = cc
  offered_by image busy setup packet (Status effect) s n a = cc
  offered_by image busy setup packet (Stalled why) s n a = cc

  taken_offered : (step : OutStep) (packet bytes : List ℕ) (entries : ℕ → ℕ → ℕ) (asked : Command) (calls : List EpCall) → step ≡ Offer bytes → command_of_bytes bytes ≡ Ok asked
      → IsTaking FeatureData (first_stall (calls_since calls)) (last_setup calls) (progress_of (calls_since calls)) → Untaken calls
      → TakenBy (with_out defaults step packet entries Ack calls) (state_reported (changes defaults entries asked) works)
  taken_offered step packet bytes entries asked calls s c t u =
      subst (λ (x : OutStep). TakenBy (with_out defaults x packet entries Ack calls) (state_reported (changes defaults entries asked) works)) (sym s)
      (record {
        length = t.length;
        begins = t.begins;
        taken = refl;
        command = checked_state (changes_by defaults entries (command_of_bytes bytes)) packet bytes calls (u t.not_taken) ∙ ap (λ (r : Result Command KeymapError). state_reported (changes_by defaults entries r) works) c;
      })

  -- the report was due, and its packet was offered
  pub record IsDue (start : List ℕ) (before : List Call) (packet : List ℕ) : Type 0 where
    pub offered : Offered (stage_after defaults start before) packet
    pub taking : IsTaking FeatureData (first_stall (calls_since (ep_calls defaults start before))) (last_setup (ep_calls defaults start before)) (progress_of (calls_since (ep_calls defaults start before)))

  -- the packet that brings the command
  pub due_at_packet : (start : List ℕ) (before : List Call) (packet : List ℕ) (answer : EpAnswer) (asked : Command) → Accepts before packet answer asked → IsAnswered defaults start before (Out packet answer) → IsDue start before packet
  due_at_packet start before packet answer asked by a =
      let calls : List EpCall = ep_calls defaults start before in
      let is : Offered (stage_after defaults start before) packet =
      offered_by (image_after start before) (is_some (working defaults start before)) (setup_of before) packet (stage_after defaults start before) (serves defaults start before) by.names
      (subst (λ (x : EpAnswer). OutAnswer defaults (out_step (stage_after defaults start before) packet) (image_after start before) (is_some (working defaults start before)) x) by.acknowledged a) in
      record { offered = is; taking = taking_is FeatureData (first_stall (calls_since calls)) (last_setup calls) (progress_of (calls_since calls)) (sym is.due ∙ stage-is calls) }

  taken_at_packet : (start : List ℕ) (before : List Call) (packet : List ℕ) (answer : EpAnswer) (asked : Command) → accepts before (Out packet answer) ≡ Some asked
      → IsAnswered defaults start before (Out packet answer)
      → TakenBy (ep_calls defaults start (Out packet answer ∷ before)) (state_reported (changes defaults (keymap defaults (image_after start before)) asked) works)
  unfolding ep_calls
  taken_at_packet start before packet answer asked s a =
      let by : Accepts before packet answer asked = accepted_by before packet answer asked s in
      let calls : List EpCall = ep_calls defaults start before in
      let entries : ℕ → ℕ → ℕ = keymap defaults (image_after start before) in
      let due : IsDue start before packet = due_at_packet start before packet answer asked by a in
      subst (λ (x : EpAnswer). TakenBy (with_out defaults (out_step (stage calls) packet) packet entries x calls) (state_reported (changes defaults entries asked) works)) (sym by.acknowledged)
      (taken_offered (out_step (stage calls) packet) packet (drop 1 packet) entries asked calls due.offered.step by.reads due.taking (untaken start before))

  taken_answered : (step : OutStep) (packet : List ℕ) (entries : ℕ → ℕ → ℕ) (answer answered : EpAnswer) (calls : List EpCall) (state : CommandState) → step ≡ Answered answered → TakenBy calls state
      → TakenBy (with_out defaults step packet entries answer calls) state
  taken_answered step packet entries answer answered calls state s t =
      subst (λ (x : OutStep). TakenBy (with_out defaults x packet entries answer calls) state) (sym s)
      (record { length = t.length; begins = t.begins; taken = or_true (is_ack answered) (list_any acknowledges (calls_since calls)) t.taken; command = t.command })

  taken_out : (packet : List ℕ) (entries : ℕ → ℕ → ℕ) (answer : EpAnswer) (calls : List EpCall) (state : CommandState) → TakenBy calls state
      → TakenBy (with_out defaults (out_step (stage calls) packet) packet entries answer calls) state
  taken_out packet entries answer calls state t =
      let stalls = stalls_out (first_stall (calls_since calls)) state (list_any is_empty_in (calls_since calls)) packet in
      taken_answered (out_step (stage calls) packet) packet entries answer stalls.0 calls state (ap (λ (now : Stage). out_step now packet) (taken_stage calls state t) ∙ stalls.1) t

  settled_state : (changing : Bool) (f : Fate) (image : List ℕ) → state_after (state_reported changing f) Settled ≡ state_reported changing (ended_by defaults (Worked Work.Settled image) f)
  settled_state false f image = refl
  settled_state true works image = refl
  settled_state true settled image = refl
  settled_state true failed image = refl

  failed_state : (changing : Bool) (f : Fate) (image : List ℕ) → state_after (state_reported changing f) Failed ≡ state_reported changing (ended_by defaults (Worked Work.Failed image) f)
  failed_state false f image = refl
  failed_state true works image = refl
  failed_state true settled image = refl
  failed_state true failed image = refl

  -- a call of the same transfer
  taken_more : (start : List ℕ) (past : List Call) (call : Call) (changing : Bool) (between : List Call) → SameTransfer (call ∷ between) → TakenBy (ep_calls defaults start past) (state_reported changing (fate_after defaults between))
      → TakenBy (ep_calls defaults start (call ∷ past)) (state_reported changing (fate_after defaults (call ∷ between)))
  unfolding ep_calls
  taken_more start past (Scanned scan) changing between same t = t
  taken_more start past (SetUp bytes) changing between same t = absurd same
  taken_more start past (Out packet answer) changing between same t = taken_out packet (keymap defaults (image_after start past)) answer (ep_calls defaults start past) (state_reported changing (fate_after defaults between)) t
  taken_more start past (In answer) changing between same t = record { length = t.length; begins = t.begins; taken = t.taken; command = t.command }
  taken_more start past (Polled answer) changing between same t = t
  taken_more start past (Worked Work.Idle image) changing between same t =
      with_state (ep_calls defaults start past) (state_reported changing (fate_after defaults between)) (state_reported changing (ended_by defaults (Worked Work.Idle image) (fate_after defaults between))) (ap (state_reported changing) (sym (ended_by-idle defaults image (fate_after defaults between)))) t
  taken_more start past (Worked Work.Working image) changing between same t =
      with_state (ep_calls defaults start past) (state_reported changing (fate_after defaults between)) (state_reported changing (ended_by defaults (Worked Work.Working image) (fate_after defaults between))) (ap (state_reported changing) (sym (ended_by-working defaults image (fate_after defaults between)))) t
  taken_more start past (Worked Work.Settled image) changing between same t =
      record { length = t.length; begins = t.begins; taken = t.taken; command = ap (λ (x : CommandState). state_after x Settled) t.command ∙ settled_state changing (fate_after defaults between) image }
  taken_more start past (Worked Work.Failed image) changing between same t =
      record { length = t.length; begins = t.begins; taken = t.taken; command = ap (λ (x : CommandState). state_after x Failed) t.command ∙ failed_state changing (fate_after defaults between) image }
  taken_more start past BusReset changing between same t = absurd same

  pub taken_between : (start : List ℕ) (between before : List Call) (packet : List ℕ) (answer : EpAnswer) (asked : Command) → SameTransfer between → accepts before (Out packet answer) ≡ Some asked
      → IsAnswered defaults start before (Out packet answer)
      → TakenBy (ep_calls defaults start (between ++ Out packet answer ∷ before)) (state_reported (changes defaults (keymap defaults (image_after start before)) asked) (fate_after defaults between))
  taken_between start [] before packet answer asked same s a = taken_at_packet start before packet answer asked s a
  taken_between start (call ∷ between) before packet answer asked same s a =
      taken_more start (between ++ Out packet answer ∷ before) call (changes defaults (keymap defaults (image_after start before)) asked) between same
      (taken_between start between before packet answer asked (same_later call between same) s a)

  reported_settled : (start : List ℕ) (between before : List Call) (packet : List ℕ) (answer : EpAnswer) (asked : Command) → SameTransfer between → accepts before (Out packet answer) ≡ Some asked
      → IsAnswered defaults start before (Out packet answer) → Packet (record { items = [] }) ≡ in_answer (stage_after defaults start (between ++ Out packet answer ∷ before))
      → fate defaults (keymap defaults (image_after start before)) asked between ≡ settled
  reported_settled start between before packet answer asked same s a e =
      let changing : Bool = changes defaults (keymap defaults (image_after start before)) asked in
      let calls : List EpCall = ep_calls defaults start (between ++ Out packet answer ∷ before) in
      let state : CommandState = state_reported changing (fate_after defaults between) in
      let t : TakenBy calls state = taken_between start between before packet answer asked same s a in
      let ended = ended_state (first_stall (calls_since calls)) state (list_any is_empty_in (calls_since calls)) (e ∙ ap in_answer (taken_stage calls state t)) in
      settled_fate changing (fate_after defaults between) ended.0 ended.1

  -- so it is stored
  reported_stored : (start : List ℕ) (between before past : List Call) (layer key code : ℕ) (asked : Command) → fate defaults (keymap defaults (image_after start before)) asked between ≡ settled
      → Reported start past before between layer key code asked → Stored start past layer key code
  reported_stored start between before past layer key code asked done (is_stored s) = s
  reported_stored start between before past layer key code asked done (waits f w) = absurd (settled_not_works (fate defaults (keymap defaults (image_after start before)) asked between) f done)
  reported_stored start between before past layer key code asked done (has_failed f) = absurd (settled_not_failed (fate defaults (keymap defaults (image_after start before)) asked between) f done)

  NoneAcceptedWrites-later : (later earlier past : List Call) (layer key : ℕ) → NoneAcceptedWrites defaults (later ++ earlier) past layer key → NoneAcceptedWrites defaults earlier past layer key
  NoneAcceptedWrites-later [] earlier past layer key n = n
  NoneAcceptedWrites-later (call ∷ later) earlier past layer key n = NoneAcceptedWrites-later later earlier past layer key n.1

  NoneAcceptedWrites-sooner : (later earlier past : List Call) (layer key : ℕ) → NoneAcceptedWrites defaults (later ++ earlier) past layer key → NoneAcceptedWrites defaults later (earlier ++ past) layer key
  NoneAcceptedWrites-sooner [] earlier past layer key n = tt
  NoneAcceptedWrites-sooner (call ∷ later) earlier past layer key n =
      (subst (λ (xs : List Call). DoesNotWrite defaults layer key (accepts xs call)) (append_assoc later earlier past) n.0, NoneAcceptedWrites-sooner later earlier past layer key n.1)

  -- the command was settled when the empty packet came
  pub settled_here : (start : List ℕ) (between before : List Call) (call : Call) (asked : Command) → SameTransfer between → accepts before call ≡ Some asked → EachCall (IsAnswered defaults) start (between ++ call ∷ before)
      → Packet (record { items = [] }) ≡ in_answer (stage_after defaults start (between ++ call ∷ before)) → fate defaults (keymap defaults (image_after start before)) asked between ≡ settled
  settled_here start between before call asked same s h e =
      let o : IsOut call = accepts_out before call asked s in
      let here : EachCall (IsAnswered defaults) start (call ∷ before) = EachCall-later (IsAnswered defaults) start between (call ∷ before) h in
      reported_settled start between before o.packet o.answer asked same (subst (λ (c : Call). accepts before c ≡ Some asked) o.is s)
      (subst (λ (c : Call). IsAnswered defaults start before c) o.is here.0)
      (subst (λ (c : Call). Packet (record { items = [] }) ≡ in_answer (stage_after defaults start (between ++ c ∷ before))) o.is e)

  pub stays_stored : (start : List ℕ) (past : List Call) → EachCall (IsAnswered defaults) start past → (layer key code : ℕ) → IsAcknowledgedInSession defaults past layer key code → Stored start past layer key code
  stays_stored start past h layer key code a =
      let reported : Call = In (Packet (record { items = [] })) in
      let rest : List Call = a.between ++ a.packet ∷ a.before in
      let is : past ≡ a.after ++ reported ∷ rest = a.past_is ∙ append_assoc a.after (reported ∷ a.between) (a.packet ∷ a.before) in
      let all : EachCall (IsAnswered defaults) start (a.after ++ reported ∷ rest) = subst (λ (xs : List Call). EachCall (IsAnswered defaults) start xs) is h in
      let here : EachCall (IsAnswered defaults) start (reported ∷ rest) = EachCall-later (IsAnswered defaults) start a.after (reported ∷ rest) all in
      let writes : NoneAcceptedWrites defaults (reported ∷ a.between) (a.packet ∷ a.before) layer key = NoneAcceptedWrites-later a.after (reported ∷ a.between) (a.packet ∷ a.before) layer key a.not_since in
      let there : Stored start rest layer key code =
      reported_stored start a.between a.before rest layer key code a.command
      (settled_here start a.between a.before a.packet a.command a.same_transfer a.accepted here.1 here.0)
      (reported_between start a.between a.before a.packet layer key code a.command a.in_layers a.in_keys a.writes here.1 writes.1 a.accepted) in
      let now : Stored start (reported ∷ rest) layer key code =
      stored_more start rest reported layer key code a.in_layers a.in_keys (orderly defaults start rest here.1) (effect defaults start rest reported here.0) writes.0 there in
      let after : Stored start (a.after ++ reported ∷ rest) layer key code =
      stored start a.after (reported ∷ rest) layer key code a.in_layers a.in_keys all (NoneAcceptedWrites-sooner a.after (reported ∷ a.between) (a.packet ∷ a.before) layer key a.not_since) now in
      subst (λ (xs : List Call). Stored start xs layer key code) (sym is) after

  -- what was acknowledged is what the flash says
  pub acknowledged : (start : List ℕ) (past : List Call) → EachCall (IsAnswered defaults) start past → KeepsAcknowledged defaults start past
  acknowledged start past h layer key code a = (stays_stored start past h layer key code a).entry_is
