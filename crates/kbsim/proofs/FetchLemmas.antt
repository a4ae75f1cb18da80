-- Fetching the report descriptor, packet by packet.
use Rattle.std.proofs.Common.{◌≡◌, ◌≢◌, false, ℕ, ◌+◌, ◌*◌, ◌<◌, ◌⊎◌, inl, inr, List, [], ◌∷◌, ◌++◌, length, refl, ap, sym, subst, ◌∙◌, arith, append_assoc}
use Rattle.flash_model.specs.Sim.{SimValue}
use Rattle.world.specs.declared.event.Event.TheVariants as event
use Rattle.world.specs.declared.event.Answer.{Answer}
use Rattle.world.specs.declared.event.Answer.TheVariants.{Ack, Packet}
use Rattle.world.specs.Kinds.{Step}
use Rattle.world.specs.representation.Relation.{Refines}
use Rattle.world.specs.representation.Value.{WorldValue}
use Rattle.kbsim.specs.Fetches.{get_report_descriptor, Gives, AllFull, Gathers, IsGathered, IsFetched, IsUnclosed, IsCutShort, IsUnfetched}
use Rattle.kbsim.specs.Outputs.{GoesOn, Takes}
use Rattle.kbsim.proofs.PacketLemmas.{few_full}
use Rattle.layers.specs.Standard.{standard}

-- the SETUP packet, and so many full packets
abbrev pub GatheredSoFar : ℕ → WorldValue → WorldValue → Type 0
GatheredSoFar count old new = GoesOn (λ steps. (full : List Step) × Gathers full steps × (length full ≡ count)) old new

pub gathered_none : (old new : WorldValue) (reported : Answer) → Takes (event.Setup get_report_descriptor) reported old new → GatheredSoFar 0 old new
gathered_none old new reported takes start past refines =
    let setup : Step = record { event = event.Setup get_report_descriptor; answer = reported; flash = new.flash; refused = false } in
    (setup ∷ [], ([], record { setup = setup; steps_are = refl; setup_is = refl; all = tt }, refl), (refl, tt), takes start past refines)

full_more : (step : Step) (full steps : List Step) (packet : List ℕ) → Gives packet step → length packet ≡ 8 → Gathers full steps → Gathers (step ∷ full) (step ∷ steps)
full_more step full steps packet gives eight gathers = record {
  setup = gathers.setup;
  steps_are = ap (λ (xs : List Step). step ∷ xs) gathers.steps_are;
  setup_is = gathers.setup_is;
  all = ((packet, gives, eight), gathers.all);
}

pub gathered_more : (count : ℕ) (old world new : WorldValue) (answer : Answer) (packet : List ℕ) → GatheredSoFar count old world → Takes event.InPacket answer world new
    → answer ≡ Packet (record { items = packet }) → length packet ≡ 8 → GatheredSoFar (count + 1) old new
gathered_more count old world new answer packet so_far takes is eight start past refines =
    let (steps, (full, gathers, long), none, stood) = so_far start past refines in
    let step : Step = record { event = event.InPacket; answer = answer; flash = new.flash; refused = false } in
    (step ∷ steps, (step ∷ full, full_more step full steps packet (refl, is) eight gathers, omega (arith, long)), (refl, none), takes start (steps ++ past) stood)

-- a packet of fewer bytes
pub gathered_all : (count total : ℕ) (old world new : WorldValue) (answer : Answer) (packet : List ℕ) → GatheredSoFar count old world → Takes event.InPacket answer world new
    → answer ≡ Packet (record { items = packet }) → length packet < 8 → total ≡ 8 * count + length packet → GoesOn (IsGathered total) old new
gathered_all count total old world new answer packet so_far takes is short sum start past refines =
    let (steps, (full, gathers, long), none, stood) = so_far start past refines in
    let step : Step = record { event = event.InPacket; answer = answer; flash = new.flash; refused = false } in (
      step ∷ steps,
      record {
        last = step;
        full = full;
        before = steps;
        packet = packet;
        steps_are = refl;
        gathers = gathers;
        gives = (refl, is);
        short = short;
        count_is = omega (arith, long, sum);
      },
      (refl, none),
      takes start (steps ++ past) stood,
    )

-- no packet of data
pub cut_short : (count : ℕ) (old world new : WorldValue) (answer : Answer) → GatheredSoFar count old world → Takes event.InPacket answer world new
    → ((packet : List ℕ) → answer ≢ Packet (record { items = packet })) → GoesOn (IsCutShort answer) old new
cut_short count old world new answer so_far takes other start past refines =
    let (steps, (full, gathers, long), none, stood) = so_far start past refines in
    let step : Step = record { event = event.InPacket; answer = answer; flash = new.flash; refused = false } in (
      step ∷ steps,
      record { last = step; full = full; before = steps; steps_are = refl; gathers = gathers; last_is = refl; other = other; shows = refl },
      (refl, none),
      takes start (steps ++ past) stood,
    )

-- that many packets are never all full
pub never_full : (P : List Step → Type 0) (count : ℕ) (old new : WorldValue) → count ≡ 32 → GatheredSoFar count old new → GoesOn P old new
never_full P count old new whole so_far start past refines =
    let (steps, (full, gathers, long), none, stood) = so_far start past refines in
    let there : Refines standard start (full ++ gathers.setup ∷ past) new
    = subst (λ (xs : List Step). Refines standard start xs new) (ap (λ (xs : List Step). xs ++ past) gathers.steps_are ∙ append_assoc full (gathers.setup ∷ []) past) stood in
    let few : length full < 32 = few_full start past gathers.setup full new there gathers.setup_is gathers.all in
    absurd (omega (arith, few, long, whole))

-- the transfer is closed, or not
pub fetched : (count : ℕ) (old world new : WorldValue) (reported : Answer) (packet : List ℕ) → packet ≡ [] → GoesOn (IsGathered count) old world
    → Takes (event.OutPacket (record { items = packet })) reported world new → reported ≡ Ack → GoesOn (IsFetched count) old new
fetched count old world new reported packet empty gathers takes ack start past refines =
    let (steps, gathered, none, stood) = gathers start past refines in
    let step : Step = record { event = event.OutPacket (record { items = packet }); answer = reported; flash = new.flash; refused = false } in (
      step ∷ steps,
      record {
        close = step;
        before = steps;
        steps_are = refl;
        gathered = gathered;
        close_is = ap (λ (xs : List ℕ). event.OutPacket (record { items = xs })) empty;
        taken = ack;
      },
      (refl, none),
      takes start (steps ++ past) stood,
    )

pub unclosed : (count : ℕ) (old world new : WorldValue) (reported : Answer) (packet : List ℕ) → packet ≡ [] → GoesOn (IsGathered count) old world
    → Takes (event.OutPacket (record { items = packet })) reported world new → reported ≢ Ack → GoesOn (IsUnfetched reported) old new
unclosed count old world new reported packet empty gathers takes other start past refines =
    let (steps, gathered, none, stood) = gathers start past refines in
    let step : Step = record { event = event.OutPacket (record { items = packet }); answer = reported; flash = new.flash; refused = false } in (
      step ∷ steps,
      inr (record {
        close = step;
        before = steps;
        count = count;
        steps_are = refl;
        gathered = gathered;
        close_is = ap (λ (xs : List ℕ). event.OutPacket (record { items = xs })) empty;
        refused = other;
        shows = refl;
      }),
      (refl, none),
      takes start (steps ++ past) stood,
    )

pub unfetched : (answer : Answer) (old new : WorldValue) → GoesOn (IsCutShort answer) old new → GoesOn (IsUnfetched answer) old new
unfetched answer old new cuts start past refines =
    let (steps, short, none, stood) = cuts start past refines in
    (steps, inl short, none, stood)
