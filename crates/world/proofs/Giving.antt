-- The answer to an IN packet of a read, and the packets that came so far, put together.
use Rattle.std.proofs.Common.{◌≡◌, ℕ, ◌*◌, ◌==◌, ◌&&◌, nat_lt, min, Bool, true, false, if◌then◌else◌, List, [], Option, Some, None, length, take, drop, refl, sym, ◌∙◌, ap, arith}
use Rattle.std.specs.Prelude.{unwrap_or}
use Rattle.std.proofs.lemmas.Bool.{eqb-true}
use Rattle.std.proofs.lemmas.Bool.Decides.{nat_tests}
use Rattle.std.proofs.lemmas.List.{length-take, take_all}
use Rattle.control_ep.specs.declared.why.Why.{Why}
use Rattle.control_ep.specs.declared.why.Why.TheVariants.{WrongStage}
use Rattle.control_ep.specs.declared.answer.EpAnswer.{EpAnswer}
use Rattle.control_ep.specs.declared.answer.EpAnswer.TheVariants.{Packet, Stall}
use Rattle.control_ep.specs.declared.answer.Effect.TheVariants.{Nothing}
use Rattle.control_ep.specs.Transfers.{Reads, Rest, Sending}
use Rattle.control_ep.specs.Packets.{packet_at, joined_packets}
use Rattle.control_ep.specs.Stage.{LastSetup, Begins, Progress, until_confirmed}
use Rattle.control_ep.specs.Answers.{in_answer, packet_or_stall}
use Rattle.control_ep.proofs.Stages.{stage_by}
use Rattle.control_ep.proofs.Joined.{joined-is}

-- a STALL, or the next packet of a read none of whose packets was stalled
pub data Given (text : List ℕ) (wanted n : ℕ) (stalled : Option Why) (answer : EpAnswer) : Type 0 where
  stalls : (why : Why) → answer ≡ Stall why → Given text wanted n stalled answer
  gives : (bytes : List ℕ) → stalled ≡ None → unwrap_or (packet_at text wanted n) [] ≡ bytes → answer ≡ Packet (record { items = bytes }) → Given text wanted n stalled answer

no_less : (n : ℕ) → nat_lt (8 * n) 0 ≡ false
no_less n = grind (arith, nat_tests)

none_by : (a b : Bool) (whole : List ℕ) → a ≡ false → unwrap_or (if a then Some whole else (if b && false then Some [] else None)) [] ≡ []
none_by true b whole e = cc
none_by false true whole e = refl
none_by false false whole e = refl

-- of a read of no byte there is no packet
none_asked : (text : List ℕ) (n : ℕ) → unwrap_or (packet_at text 0 n) [] ≡ []
unfolding packet_at
none_asked text n = none_by (nat_lt (8 * n) 0) (8 * n == 0) (take 8 (drop (8 * n) [])) (no_less n)

given_packet : (text : List ℕ) (wanted n : ℕ) (o : Option (List ℕ)) (answer : EpAnswer) → packet_at text wanted n ≡ o → answer ≡ packet_or_stall o → Given text wanted n None answer
given_packet text wanted n None answer p e = stalls WrongStage e
given_packet text wanted n (Some bytes) answer p e = gives bytes refl (rw p refl) e

given_by : (text : List ℕ) (wanted n : ℕ) (empty closed confirmed : Bool) (answer : EpAnswer) → (wanted == 0) ≡ empty
    → answer ≡ in_answer (if empty then until_confirmed confirmed Nothing else (if closed then Rest else Sending text wanted n)) → Given text wanted n None answer
given_by text wanted n true closed true answer w e = stalls WrongStage e
given_by text wanted n true closed false answer w e =
    let zero_is : wanted ≡ 0 = eqb-true wanted 0 w in
    gives [] refl (rw zero_is (none_asked text n)) e
given_by text wanted n false true confirmed answer w e = stalls WrongStage e
given_by text wanted n false false confirmed answer w e = given_packet text wanted n (packet_at text wanted n) answer refl e

pub given : (text : List ℕ) (wanted : ℕ) (stalled : Option Why) (start : LastSetup) (progress : Progress) (answer : EpAnswer)
    → start ≡ Begins (Reads text) wanted → answer ≡ in_answer (stage_by stalled start progress) → Given text wanted progress.sent stalled answer
given text wanted (Some why) start progress answer s e = stalls why e
given text wanted None start progress answer s e =
    given_by text wanted progress.sent (wanted == 0) progress.closed progress.confirmed answer refl (rw s at e)

-- so many packets that have as many bytes as the text are the text
pub all_came : (text : List ℕ) (wanted n : ℕ) → length (joined_packets text wanted n) ≡ length text → joined_packets text wanted n ≡ text
all_came text wanted n e =
    let are = joined-is text wanted n in
    let size : length (take (8 * n) (take wanted text)) ≡ length text = ap length (sym are) ∙ e in
    let first : length (take (8 * n) (take wanted text)) ≡ min (8 * n) (length (take wanted text)) = length-take (8 * n) (take wanted text) in
    let second : length (take wanted text) ≡ min wanted (length text) = length-take wanted text in
    are ∙ take_all (8 * n) (take wanted text) (omega (arith, size, first, second)) ∙ take_all wanted text (omega (arith, size, first, second))
