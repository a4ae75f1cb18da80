-- The packets of the report descriptor end in time: fewer than 32 are full.
use Rattle.std.proofs.Common.{◌≡◌, ℕ, zero, suc, ◌+◌, ◌*◌, ◌-◌, ◌<◌, ◌≤◌, ◌==◌, ◌&&◌, nat_lt, add-one, Bool, true, false, if◌then◌else◌, Option, Some, None, List, [], ◌∷◌, ◌++◌, length, take, drop, refl, ap, sym, subst, ◌∙◌, arith}
use Rattle.std.proofs.lemmas.List.{length-take, length-drop}
use Rattle.flash_model.specs.Sim.{SimValue}
use Rattle.descriptor_build.specs.Served.{report_bytes}
use Rattle.control_ep.specs.declared.answer.DeviceView.{DeviceView}
use Rattle.control_ep.specs.declared.answer.EpAnswer.{EpAnswer}
use Rattle.control_ep.specs.declared.answer.EpAnswer.TheVariants as ep
use Rattle.control_ep.specs.Transfers.{Stage, Sending}
use Rattle.control_ep.specs.Requests.{request_of, transfer_of}
use Rattle.control_ep.specs.Calls.{EpCall, Setup as EpSetup, In as EpIn}
use Rattle.control_ep.specs.Stage.{stage}
use Rattle.control_ep.specs.Relation.{AllAnswered}
use Rattle.control_ep.specs.representation.Relation.{Refines as EndpointRefines}
use Rattle.control_ep.specs.Answers.{in_answer, in_effect, packet_or_stall}
use Rattle.control_ep.specs.declared.answer.Effect.{Effect}
use Rattle.control_ep.specs.declared.answer.Effect.TheVariants.{Nothing}
use Rattle.control_ep.specs.Packets.{packet_at}
use Rattle.control_ep.proofs.Moves.{in_sent}
use Rattle.layers.specs.Standard.{standard}
use Rattle.keyboard.specs.Calls.{Call, SetUp, In}
use Rattle.keyboard.specs.Effects.{effect_reported}
use Rattle.keyboard.specs.Endpoint.{ep_calls, view_after}
use Rattle.world.specs.declared.event.Event.{Event}
use Rattle.world.specs.declared.event.Event.TheVariants.{Setup, InPacket}
use Rattle.world.specs.declared.event.Answer.{Answer}
use Rattle.world.specs.declared.event.Answer.TheVariants.{Packet}
use Rattle.world.specs.Kinds.{Step, Kind, calls, kind_of, ep_reported}
use Rattle.world.specs.History.{Session, session, session_with}
use Rattle.world.specs.representation.Relation.{Refines}
use Rattle.world.specs.representation.Value.{WorldValue}
use Rattle.kbsim.specs.Fetches.{get_report_descriptor, AllFull}

-- a packet of eight bytes has all of them from the bytes that are sent
full_by : (sent : List ℕ) (k : ℕ) (more last : Bool) (packet : List ℕ)
    → (if more then Some (take 8 (drop k sent)) else (if last then Some [] else None)) ≡ Some packet → length packet ≡ 8 → k + 8 ≤ length sent
full_by sent k true last packet e l =
    let is : take 8 (drop k sent) ≡ packet = cc in
    omega (arith, l, ap length is, length-take 8 (drop k sent), length-drop k sent)
full_by sent k false true packet e l =
    let is : [] ≡ packet = cc in
    let none : length packet ≡ 0 = sym (ap length is) in
    absurd (omega (arith, l, none))
full_by sent k false false packet e l = cc

packet_full : (bytes : List ℕ) (asked j : ℕ) (packet : List ℕ) → packet_at bytes asked j ≡ Some packet → length packet ≡ 8 → 8 * j + 8 ≤ asked
unfolding packet_at
packet_full bytes asked j packet e l =
    let all : 8 * j + 8 ≤ length (take asked bytes)
    = full_by (take asked bytes) (8 * j) (nat_lt (8 * j) (length (take asked bytes))) ((8 * j == length (take asked bytes)) && nat_lt (length (take asked bytes)) asked) packet e l in
    omega (arith, all, length-take asked bytes)

abbrev bytes_of : EpAnswer → List ℕ
bytes_of (ep.Packet packet) = packet.items
bytes_of _ = []

given : (next : Option (List ℕ)) (packet : List ℕ) → ep.Packet (record { items = packet }) ≡ packet_or_stall next → next ≡ Some packet
given (Some bytes) packet e = ap (λ (xs : List ℕ). Some xs) (sym (ap bytes_of e))
given None packet e = cc

-- the report descriptor is asked for
begins : (past : List EpCall) (view : DeviceView) → stage (EpSetup get_report_descriptor view ∷ past) ≡ Sending report_bytes 255 0
unfolding stage transfer_of
begins past view = refl

-- the calls of the keyboard that IN packets are
abbrev calls_in : List Step → List Call
calls_in [] = []
calls_in (step ∷ before) = In (ep_reported step.answer) ∷ calls_in before

-- so many packets were sent
pub record IsSending (calls : List EpCall) (count : ℕ) : Type 0 where
  pub stage_is : stage calls ≡ Sending report_bytes 255 count
  pub few : 8 * count ≤ 255

-- a packet of eight bytes more
sends_more : (past : List EpCall) (count : ℕ) (answer : EpAnswer) (effect : Effect) (packet : List ℕ) → AllAnswered (EpIn answer effect ∷ past) → IsSending past count
    → answer ≡ ep.Packet (record { items = packet }) → length packet ≡ 8 → IsSending (EpIn answer effect ∷ past) (count + 1)
sends_more past count answer effect packet answered so_far is full =
    let reported : answer ≡ in_answer (Sending report_bytes 255 count) = answered.0.0 ∙ ap in_answer so_far.stage_is in
    let next : packet_at report_bytes 255 count ≡ Some packet = given (packet_at report_bytes 255 count) packet (sym is ∙ reported) in
    let fits : 8 * count + 8 ≤ 255 = packet_full report_bytes 255 count packet next full in
    let quiet : effect ≡ Nothing = answered.0.1 ∙ ap in_effect so_far.stage_is in
    let stood : EndpointRefines past (Sending report_bytes 255 count) = record { answered = answered.1; stage = sym so_far.stage_is } in
    let sent = in_sent past report_bytes 255 count (record { items = packet }) stood next in
    record {
      stage_is =
          ap (λ (a : EpAnswer). stage (EpIn a effect ∷ past)) is
          ∙ ap (λ (x : Effect). stage (EpIn (ep.Packet (record { items = packet })) x ∷ past)) quiet
          ∙ sym sent.stage;
      few = omega (arith, fits);
    }

sending : (first : List ℕ) (past : List Call) (full : List Step) → AllFull full
    → AllAnswered (ep_calls standard first (calls_in full ++ SetUp get_report_descriptor ∷ past)) → IsSending (ep_calls standard first (calls_in full ++ SetUp get_report_descriptor ∷ past)) (length full)
unfolding ep_calls
sending first past [] all answered = record {
  stage_is = begins (ep_calls standard first past) (view_after standard first past);
  few = omega arith;
}
sending first past (step ∷ before) ((packet, (is_in, gives), eight), all) answered =
    let rest : List Call = calls_in before ++ SetUp get_report_descriptor ∷ past in
    let more = sends_more (ep_calls standard first rest) (length before) (ep_reported step.answer) (effect_reported rest (ep_reported step.answer)) packet answered
    (sending first past before all answered.1) (ap ep_reported gives) eight in
    subst (λ (n : ℕ). IsSending (ep_calls standard first (In (ep_reported step.answer) ∷ rest)) n) (add-one (length before)) more

kind_in : (e : Event) (a : Answer) (image : List ℕ) → e ≡ InPacket → kind_of e a image ≡ calls (In (ep_reported a))
kind_in e a image is = rw is refl

kind_setup : (e : Event) (a : Answer) (image bytes : List ℕ) → e ≡ Setup bytes → kind_of e a image ≡ calls (SetUp bytes)
kind_setup e a image bytes is = rw is refl

-- they begin no session
session-gathers : (start : SimValue) (past : List Step) (setup : Step) (full : List Step) → setup.event ≡ Setup get_report_descriptor → AllFull full
    → session start (full ++ setup ∷ past) ≡ record { first = (session start past).first; past = calls_in full ++ SetUp get_report_descriptor ∷ (session start past).past }
session-gathers start past setup [] asks all =
    ap (λ (k : Kind). session_with k setup.flash.image (session start past)) (kind_setup setup.event setup.answer setup.flash.image get_report_descriptor asks)
session-gathers start past setup (step ∷ before) asks ((packet, (is_in, gives), eight), all) =
    ap (λ (k : Kind). session_with k step.flash.image (session start (before ++ setup ∷ past))) (kind_in step.event step.answer step.flash.image is_in)
    ∙ ap (λ (s : Session). session_with (calls (In (ep_reported step.answer))) step.flash.image s) (session-gathers start past setup before asks all)

pub few_full : (start : SimValue) (past : List Step) (setup : Step) (full : List Step) (world : WorldValue) → Refines standard start (full ++ setup ∷ past) world
    → setup.event ≡ Setup get_report_descriptor → AllFull full → length full < 32
few_full start past setup full world refines asks all =
    let p : Session = session start past in
    let answered : AllAnswered (ep_calls standard p.first (calls_in full ++ SetUp get_report_descriptor ∷ p.past))
    = subst (λ (s : Session). AllAnswered (ep_calls standard s.first s.past)) (session-gathers start past setup full asks all) refines.keyboard.now.ep.answered in
    let few : 8 * length full ≤ 255 = (sending p.first p.past full all answered).few in
    omega (arith, few)
