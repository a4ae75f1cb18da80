-- What a host heard last, and the session before it.
use Rattle.std.proofs.Common.{◌≡◌, ℕ, suc, ◌≤◌, List, ◌∷◌, length, ap, subst, arith}
use Rattle.control_ep.specs.declared.answer.EpAnswer.TheVariants.{Ack, Nak, Packet, Stall}
use Rattle.control_ep.specs.Answers.{in_answer}
use Rattle.host.specs.Calls.{HostCall, was_set_up, got_packet, lost}
use Rattle.layers.specs.Codes.{DefaultCodes}
use Rattle.keyboard.specs.Calls.{Call, Scanned, SetUp, Out, In, Polled, Worked, BusReset, EachCall}
use Rattle.keyboard.specs.Endpoint.{stage_after}
use Rattle.keyboard.specs.Conforming.{IsAnswered}
use Rattle.world.specs.Heard.{Hears, at_start, one_more}

module _ (defaults : DefaultCodes) where
  -- a packet is the answer that the stage gives
  abbrev pub IsGiven : List ℕ → List Call → HostCall → Type 0
  IsGiven start before (got_packet packet taken) = Packet (record { items = packet }) ≡ in_answer (stage_after defaults start before)
  IsGiven start before _ = Unit {0}

  -- the session before the latest call that a host heard
  pub record Before (start : List ℕ) (reported : List HostCall) (call : HostCall) (host : List HostCall) : Type 0 where
    pub past : List Call
    pub hears : Hears reported past host
    pub answered : EachCall (IsAnswered defaults) start past
    pub given : IsGiven start past call

  heard_then : (start : List ℕ) (reported : List HostCall) (past : List Call) (latest call : HostCall) (earlier host : List HostCall) → Hears reported past earlier → EachCall (IsAnswered defaults) start past
      → IsGiven start past latest → latest ∷ earlier ≡ call ∷ host → Before start reported call host
  heard_then start reported past latest call earlier host h a g e =
      let same_call : latest ≡ call = cc in
      let same_host : earlier ≡ host = cc in
      record {
        past = past;
        hears = subst (λ (x : List HostCall). Hears reported past x) same_host h;
        answered = a;
        given = subst (λ (x : HostCall). IsGiven start past x) same_call g;
      }

  pub unheard : (start : List ℕ) (reported : List HostCall) (past : List Call) (all : List HostCall) (call : HostCall) (host : List HostCall) → Hears reported past all → all ≡ call ∷ host
      → length reported ≤ length host → EachCall (IsAnswered defaults) start past → Before start reported call host
  unheard start reported past all call host at_start e l a = (let size : length all ≡ suc (length host) = ap length e in absurd (omega (arith, size, l)))
  unheard start reported past all call host (one_more (Scanned scan) memory before earlier h) e l a = unheard start reported before earlier call host h e l a.1
  unheard start reported past all call host (one_more (SetUp bytes) memory before earlier h) e l a = heard_then start reported before (was_set_up bytes) call earlier host h a.1 tt e
  unheard start reported past all call host (one_more (Out packet answer) memory before earlier h) e l a = unheard start reported before earlier call host h e l a.1
  unheard start reported past all call host (one_more (In Ack) memory before earlier h) e l a = unheard start reported before earlier call host h e l a.1
  unheard start reported past all call host (one_more (In Nak) memory before earlier h) e l a = unheard start reported before earlier call host h e l a.1
  unheard start reported past all call host (one_more (In (Packet packet)) memory before earlier h) e l a =
      heard_then start reported before (got_packet packet.items memory) call earlier host h a.1 a.0 e
  unheard start reported past all call host (one_more (In (Stall why)) memory before earlier h) e l a = unheard start reported before earlier call host h e l a.1
  unheard start reported past all call host (one_more (Polled answer) memory before earlier h) e l a = unheard start reported before earlier call host h e l a.1
  unheard start reported past all call host (one_more (Worked work image) memory before earlier h) e l a = unheard start reported before earlier call host h e l a.1
  unheard start reported past all call host (one_more BusReset memory before earlier h) e l a = heard_then start reported before lost call earlier host h a.1 tt e
