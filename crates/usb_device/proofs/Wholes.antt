-- The parts of a whole control write, put together.
use Rattle.std.proofs.lemmas.Grind.{common_steps}
use Rattle.std.proofs.Common.{◌≡◌, ◌==◌, ℕ, length, true, false, List, [], ◌∷◌, ◌++◌, Result, Ok, Err, refl, sym, ap, subst, ◌∙◌, append_assoc, arith}
use Rattle.std.proofs.lemmas.List.{nil_from_length}
use Rattle.std.specs.Prelude.{MatchResult}
use Rattle.usb_device.specs.declared.answer.EpAnswer.{EpAnswer}
use Rattle.usb_device.specs.declared.answer.EpAnswer.TheVariants.{Ack, Nak, Packet, Stall}
use Rattle.usb_device.specs.declared.whole_transfers.TransferError.{TransferError}
use Rattle.usb_device.specs.declared.whole_transfers.TransferError.TheVariants.{Refused, Busy, Unfinished}
use Rattle.usb_device.specs.declared.whole_transfers.Status.{Status}
use Rattle.usb_device.specs.declared.whole_transfers.Status.TheVariants.{Done, Waits, Refuses}
use Rattle.usb_device.specs.Calls.{EpCall, SetUp, Out, In, Polled, BusReset}
use Rattle.usb_device.specs.Confirmed.{confirmation}
use Rattle.usb_device.specs.Whole.{data_status_of, status_of, data_calls, put_off, IsWritten, in_data, in_status, FailedBy, WorksBehind}
use Rattle.usb_device.specs.representation.Whole.{Gives, IsConfirmed, NotConfirmed}

pub done_is : (answer : EpAnswer) → status_of answer ≡ Done → answer ≡ Packet (record { items = [] })
done_is answer h1 = grind (arith, common_steps)

pub waits_is : (answer : EpAnswer) → status_of answer ≡ Waits → answer ≡ Nak
waits_is answer h1 = grind (arith, common_steps)

-- ---- steps of work

pub works_in : {E : Type 0} (refines : List EpCall → E → Type 0) (works : E → E → Type 0) (past before : List EpCall) (answer : EpAnswer) (status : Status) → status_of answer ≡ status
    → (status ≡ Waits → ⊥) → WorksBehind refines works past before → WorksBehind refines works past (In answer ∷ before)
works_in refines works past before Ack status e n w = w
works_in refines works past before Nak status e n w = absurd (n (sym e))
works_in refines works past before (Packet packet) status e n w = w
works_in refines works past before Stall status e n w = w

works_put : {E : Type 0} (refines : List EpCall → E → Type 0) (works : E → E → Type 0) (status behind past : List EpCall) → WorksBehind refines works past behind
    → WorksBehind refines works (behind ++ past) status → WorksBehind refines works past (status ++ behind)
works_put refines works [] behind past b w = b
works_put refines works (SetUp bytes ∷ before) behind past b w = works_put refines works before behind past b w
works_put refines works (Out packet answer ∷ before) behind past b w = works_put refines works before behind past b w
works_put refines works (Polled answer ∷ before) behind past b w = works_put refines works before behind past b w
works_put refines works (BusReset ∷ before) behind past b w = works_put refines works before behind past b w
works_put refines works (In Ack ∷ before) behind past b w = works_put refines works before behind past b w
works_put refines works (In (Packet packet) ∷ before) behind past b w = works_put refines works before behind past b w
works_put refines works (In Stall ∷ before) behind past b w = works_put refines works before behind past b w
works_put refines works (In Nak ∷ before) behind past b w =
    let same : before ++ (behind ++ past) ≡ (before ++ behind) ++ past = sym (append_assoc before behind past) in
    ((w.0.0, w.0.1, subst (λ l. refines (In Nak ∷ l) w.0.0) same w.0.2, w.0.3), works_put refines works before behind past b w.1)

gives_works : {E : Type 0} (refines : List EpCall → E → Type 0) (works : E → E → Type 0) (past : List EpCall) (setup data_ : List ℕ) (status : Status) (taken : List EpCall) → Gives status data_ taken
    → WorksBehind refines works past (taken ++ SetUp setup ∷ [])
gives_works refines works past setup [] Done taken t = subst (λ l. WorksBehind refines works past (l ++ SetUp setup ∷ [])) (sym t) tt
gives_works refines works past setup (byte ∷ bytes) Done taken t = subst (λ l. WorksBehind refines works past (l ++ SetUp setup ∷ [])) (sym t) tt
gives_works refines works past setup data_ Waits taken t = subst (λ l. WorksBehind refines works past (l ++ SetUp setup ∷ [])) (sym t) tt
gives_works refines works past setup data_ Refuses taken t = subst (λ l. WorksBehind refines works past (l ++ SetUp setup ∷ [])) (sym t.2) tt

-- ---- the data

pub gives : (data_ : List ℕ) (answer : EpAnswer) (status : Status) → (length data_ == 0) ≡ false → status ≡ data_status_of answer → Gives status data_ (Out data_ answer ∷ [])
gives data_ answer status h1 h2 = grind (arith, common_steps)

pub gives_none : (data_ : List ℕ) → (length data_ == 0) ≡ true → Gives Done data_ []
gives_none data_ e = let n : length data_ ≡ 0 = grind (arith, e) in rw (nil_from_length data_ n) refl

-- ---- the whole

pub with_status : (setup data_ : List ℕ) (taken status rest : List EpCall) → taken ≡ data_calls data_ → status ≡ rest → status ++ (taken ++ SetUp setup ∷ []) ≡ rest ++ (data_calls data_ ++ SetUp setup ∷ [])
with_status setup data_ taken status rest t s = ap (λ l. l ++ (taken ++ SetUp setup ∷ [])) s ∙ ap (λ l. rest ++ (l ++ SetUp setup ∷ [])) t

failed : (e : TransferError) (steps : ℕ) (setup data_ : List ℕ) (taken status : List EpCall) → taken ≡ data_calls data_ → NotConfirmed e steps status → FailedBy e steps setup data_ (status ++ (taken ++ SetUp setup ∷ []))
failed Refused steps setup data_ taken status t n = in_status n.0 n.1 n.2 (with_status setup data_ taken status (In n.0 ∷ put_off n.1) t n.3)
failed Busy steps setup data_ taken status t n = absurd n
failed Unfinished steps setup data_ taken status t n = with_status setup data_ taken status (put_off steps) t n

by_result : {U : Type 0} (result : Result U TransferError) (steps : ℕ) (setup data_ : List ℕ) (taken status : List EpCall) → taken ≡ data_calls data_ → MatchResult result (λ _. IsConfirmed status) (λ e. NotConfirmed e steps status)
    → MatchResult result (λ _. IsWritten setup data_ (status ++ (taken ++ SetUp setup ∷ []))) (λ e. FailedBy e steps setup data_ (status ++ (taken ++ SetUp setup ∷ [])))
by_result (Ok u) steps setup data_ taken status t m = record { count = m.0; since_is = with_status setup data_ taken status (confirmation ∷ put_off m.0) t m.1 }
by_result (Err e) steps setup data_ taken status t m = failed e steps setup data_ taken status t m

-- what holds of a history holds of it put together otherwise
pub joined : (P : List EpCall → Type 0) (status taken past : List EpCall) (setup : List ℕ) → P (status ++ (taken ++ SetUp setup ∷ past)) → P ((status ++ (taken ++ SetUp setup ∷ [])) ++ past)
joined P status taken past setup p =
    let same : (status ++ (taken ++ SetUp setup ∷ [])) ++ past ≡ status ++ (taken ++ SetUp setup ∷ past) =
    append_assoc status (taken ++ SetUp setup ∷ []) past ∙ ap (λ l. status ++ l) (append_assoc taken (SetUp setup ∷ []) past) in
    subst P (sym same) p

pub whole : {U E : Type 0} (refines : List EpCall → E → Type 0) (works : E → E → Type 0) (device : E) (steps : ℕ) (setup data_ : List ℕ) (past taken status : List EpCall) (result : Result U TransferError)
    → Gives Done data_ taken → refines (status ++ (taken ++ SetUp setup ∷ past)) device → MatchResult result (λ _. IsConfirmed status) (λ e. NotConfirmed e steps status)
    → WorksBehind refines works (taken ++ SetUp setup ∷ past) status
    → (since : List EpCall) × refines (since ++ past) device × MatchResult result (λ _. IsWritten setup data_ since) (λ e. FailedBy e steps setup data_ since) × WorksBehind refines works past since
whole refines works device steps setup data_ past taken status result t p m w =
    let behind = taken ++ SetUp setup ∷ [] in (
      status ++ behind,
      joined (λ l. refines l device) status taken past setup p,
      by_result result steps setup data_ taken status t m,
      works_put refines works status behind past (gives_works refines works past setup data_ Done taken t)
          (subst (λ l. WorksBehind refines works l status) (sym (append_assoc taken (SetUp setup ∷ []) past)) w),
    )

pub put_off_data : {E : Type 0} (refines : List EpCall → E → Type 0) (works : E → E → Type 0) (device : E) (steps : ℕ) (setup data_ : List ℕ) (past taken : List EpCall) → Gives Waits data_ taken
    → refines (taken ++ SetUp setup ∷ past) device
    → (since : List EpCall) × refines (since ++ past) device × FailedBy Busy steps setup data_ since × WorksBehind refines works past since
put_off_data refines works device steps setup data_ past taken t p = (
  taken ++ SetUp setup ∷ [],
  joined (λ l. refines l device) [] taken past setup p,
  ap (λ l. l ++ SetUp setup ∷ []) t,
  gives_works refines works past setup data_ Waits taken t,
)

pub refused_data : {E : Type 0} (refines : List EpCall → E → Type 0) (works : E → E → Type 0) (device : E) (steps : ℕ) (setup data_ : List ℕ) (past taken : List EpCall) → Gives Refuses data_ taken
    → refines (taken ++ SetUp setup ∷ past) device
    → (since : List EpCall) × refines (since ++ past) device × FailedBy Refused steps setup data_ since × WorksBehind refines works past since
refused_data refines works device steps setup data_ past taken t p = (
  taken ++ SetUp setup ∷ [],
  joined (λ l. refines l device) [] taken past setup p,
  in_data t.0 t.1 (ap (λ l. l ++ SetUp setup ∷ []) t.2),
  gives_works refines works past setup data_ Refuses taken t,
)
