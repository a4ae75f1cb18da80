-- From poll to poll of a session the moments of the reports go on.
use Rattle.std.proofs.lemmas.Grind.{common_steps}
use Rattle.std.proofs.Common.{◌≡◌, ℕ, Bool, Option, Some, None, List, [], ◌∷◌, ◌++◌, refl, sym, ◌∙◌, ap, subst, append_assoc, arith}
use Rattle.flash_model.specs.Sim.{SimValue}
use Rattle.host.specs.Calls.{HostCall}
use Rattle.host.specs.declared.reading.Reading.{Reading}
use Rattle.layers.specs.Codes.{DefaultCodes}
use Rattle.keyboard.specs.Calls.{Call, Polled}
use Rattle.keyboard.specs.Effects.{protocol_after}
use Rattle.keyboard.specs.Conforming as keyboard
use Rattle.world.specs.Due.{due}
use Rattle.world.specs.Sent.{IsWantedAt}
use Rattle.world.proofs.Sending.{sent_is_wanted}
use Rattle.world.proofs.Following.{goes_on, not_again}
use Rattle.world.specs.declared.event.Event.{Event}
use Rattle.world.specs.declared.event.Answer.{Answer}
use Rattle.world.specs.declared.event.Answer.TheVariants.{Nak, Sent}
use Rattle.world.specs.Kinds.{Step, bytes_reported}
use Rattle.world.specs.History.{Session, session, host_calls, flash_after, EachStep}
use Rattle.world.specs.Conforming.{Answered, IsAnswered, IsSent}
use Rattle.world.specs.Moments.{report_of, SendsOnward, MovesOn}
use Rattle.world.proofs.Hearing.{clash, of_slot, of_endpoint, bytes_or_none}

module _ (defaults : DefaultCodes) where
  wanted_onward : (first : List ℕ) (past : List Call) (bytes : List ℕ) → IsWantedAt defaults first past bytes → SendsOnward defaults first past bytes
  wanted_onward first past bytes sent = record {
    sent = sent;
    onward = λ since before earlier was e.
        let poll : Call = Polled (Some earlier) in
        let split : past ≡ (since ++ poll ∷ []) ++ before = e ∙ sym (append_assoc since (poll ∷ []) before) in
        goes_on defaults first before (since ++ poll ∷ []) (report_of defaults was) (report_of defaults sent) was.is_due (subst (λ (p : List Call). due defaults first p ≡ Some (report_of defaults sent)) split sent.is_due);
    once = λ since before earlier was e same.
        let there : due defaults first (since ++ Polled (Some earlier) ∷ before) ≡ Some (report_of defaults sent) = subst (λ (p : List Call). due defaults first p ≡ Some (report_of defaults sent)) e sent.is_due in
        not_again defaults first before since (Some earlier) (report_of defaults was) was.is_due (there ∙ ap (λ r. Some r) same);
  }

  sent_onward : (now : Session) (host : List HostCall) (report : Option (List ℕ)) (answer : Answer) (refused : Bool) (bytes : List ℕ) (reading : Reading)
      → keyboard.IsAnswered defaults now.first now.past (Polled report) → IsSent (protocol_after now.past) host report answer refused → answer ≡ Sent (record { items = bytes }) reading
      → SendsOnward defaults now.first now.past bytes
  sent_onward now host None answer refused bytes reading p s e = clash answer Nak bytes reading s.0 refl e
  sent_onward now host (Some sent) answer refused bytes reading p (read, a, r, n) e =
      let same : sent ≡ bytes = ap (λ (x : Answer). bytes_or_none (bytes_reported x)) (sym a ∙ e) in
      subst (λ (x : List ℕ). SendsOnward defaults now.first now.past x) same (wanted_onward now.first now.past sent (sent_is_wanted defaults now.first now.past sent p))

  onward_by : (now : Session) (host : List HostCall) (old : SimValue) (event : Event) (answer : Answer) (refused : Bool) (new : SimValue) (bytes : List ℕ) (reading : Reading)
      → Answered defaults now host old event answer refused new → answer ≡ Sent (record { items = bytes }) reading → SendsOnward defaults now.first now.past bytes
  onward_by now host old event answer refused new bytes reading a e = grind (arith, common_steps, clash, of_endpoint, sent_onward, of_slot)

  pub moves_on : (start : SimValue) (past : List Step) → EachStep (IsAnswered defaults) start past → EachStep (MovesOn defaults) start past
  moves_on start [] h = tt
  moves_on start (step ∷ before) h = (
    λ bytes reading e. onward_by (session start before) (host_calls before) (flash_after start before) step.event step.answer step.refused step.flash bytes reading h.0 e,
    moves_on start before h.1,
  )
