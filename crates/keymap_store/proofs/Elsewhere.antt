-- What an operation of a compaction, or of an append, leaves alone.
use Rattle.std.proofs.Common.{◌≡◌, ◌∙◌, ℕ, ◌-◌, ◌≤◌, ◌<◌, refl, sym, arith, Bool, true, false, List, Some, inl, inr}
use Rattle.std.proofs.lemmas.Bool.{cases_lt}
use Rattle.records.specs.declared.Slot.TheVariants.{Free}
use Rattle.records.specs.Slots.{slot_of}
use Rattle.flash_model.specs.Image.{slot_at}
use Rattle.flash_model.specs.Operations.{OneSlot, OnePage}
use Rattle.page_turnover.specs.declared.log.stepping.Step.{Step}
use Rattle.page_turnover.specs.declared.log.stepping.Step.TheVariants.{Idle, Moved, Committed, Failed}
use Rattle.page_turnover.specs.Value.{LogValue, Task, Rest, Append, Wait, Copy, Seal}
use Rattle.page_turnover.specs.representation.Log.{Describes}
use Rattle.page_turnover.specs.Active.{active, format}
use Rattle.page_turnover.specs.Words.{IsTail, IsActiveTail, HasRoom}
use Rattle.page_turnover.specs.Turn.{target_page}
use Rattle.page_turnover.specs.Next.{turn_operation, next_operation, Makes, MayMake}
use Rattle.page_turnover.specs.Steps.{Keeps, AttemptsNext}
use Rattle.page_turnover.proofs.Describing.{same_page}
use Rattle.page_turnover.proofs.Endings.{apart}
use Rattle.keymap_store.specs.Turnovers.{Spares, Fills}

slot_in_page : (old : List ℕ) (page slot : ℕ) (new : List ℕ) → OneSlot old page slot new → OnePage old page new
slot_in_page old page slot new o = record { same_length = o.same_length; others = λ p s l n. o.others p s l (λ e f. n e) }

made_in_target : (ready : Bool) (old : List ℕ) (slot word : ℕ) (new : List ℕ) → Makes old (turn_operation ready old slot word) new → OnePage old (target_page old) new
made_in_target true old slot word new m = slot_in_page old (target_page old) slot new m.rest
made_in_target false old slot word new m = m.rest

pub torn_in_target : (ready : Bool) (old : List ℕ) (slot word : ℕ) (new : List ℕ) → MayMake old (turn_operation ready old slot word) new → OnePage old (target_page old) new
torn_in_target true old slot word new m = slot_in_page old (target_page old) slot new m.rest
torn_in_target false old slot word new m = m.rest

attempted_in_target : (ready : Bool) (old : List ℕ) (slot word : ℕ) (step : Step) (new : List ℕ) → AttemptsNext (Some (turn_operation ready old slot word)) old (step ≡ Idle) (step ≡ Failed) new → OnePage old (target_page old) new
attempted_in_target ready old slot word Idle new a = absurd (a.not_idle refl)
attempted_in_target ready old slot word Moved new a = made_in_target ready old slot word new (a.done (λ f. cc)).0
attempted_in_target ready old slot word Committed new a = made_in_target ready old slot word new (a.done (λ f. cc)).0
attempted_in_target ready old slot word Failed new a = torn_in_target ready old slot word new (a.torn refl).0

-- a compaction touches its target alone
abbrev pub IsOfTurn : Task → Type 0
IsOfTurn (Copy target word) = Unit {0}
IsOfTurn (Seal target) = Unit {0}
IsOfTurn _ = ⊥

in_target : (task : Task) (old : List ℕ) (log : LogValue) (step : Step) (new : List ℕ) → log.task ≡ task → IsOfTurn task → AttemptsNext (next_operation old log) old (step ≡ Idle) (step ≡ Failed) new → OnePage old (target_page old) new
in_target Rest old log step new e t a = absurd t
in_target (Append word) old log step new e t a = absurd t
in_target (Wait target) old log step new e t a = absurd t
in_target (Copy target word) old log step new e t a = attempted_in_target _ old _ word step new (rw e at a)
in_target (Seal target) old log step new e t a = attempted_in_target _ old 0 _ step new (rw e at a)

pub turn_in_target : (old : List ℕ) (log : LogValue) (step : Step) (new : List ℕ) → IsOfTurn log.task → AttemptsNext (next_operation old log) old (step ≡ Idle) (step ≡ Failed) new → OnePage old (target_page old) new
turn_in_target old log step new t a = in_target log.task old log step new refl t a

-- so it spares the active page
active_spared : (old : List ℕ) (log : LogValue) (new : List ℕ) → Describes old log → OnePage old (target_page old) new → (page seq s : ℕ) → active old ≡ Some (page, seq) → s < 512 → slot_at new page s ≡ slot_at old page s
active_spared old log new d o page seq s e l = o.others page s l (λ t. apart old log d seq (rw t at e))

pub turn_spares : (old : List ℕ) (log : LogValue) (new : List ℕ) → Describes old log → Keeps old new → OnePage old (target_page old) new → Spares old new
turn_spares old log new d k o = record { active_is = k.active_is; format_is = k.format_is; same = active_spared old log new d o }

-- and makes no room
pub no_room_kept : (old new : List ℕ) → Spares old new → (HasRoom old → ⊥) → HasRoom new → ⊥
no_room_kept old new s n r =
    let e : active old ≡ Some (r.page, r.seq) = sym s.active_is ∙ r.is_active in
    let f : slot_of (slot_at old r.page 511) ≡ Free = rw (s.same r.page r.seq 511 e (omega arith)) at r.free in
    n (record { page = r.page; seq = r.seq; is_active = e; current = sym s.format_is ∙ r.current; free = f })

-- a page has one tail
pub one_tail : (image : List ℕ) (page a b : ℕ) → IsTail image page a → IsTail image page b → a ≤ b
one_tail image page a b s t =
    elim (cases_lt b a) [
      | inl l ↦ absurd (s.used (omega (arith, t.low)) (t.free (a - 1) (omega arith) (omega (arith, s.high))))
      | inr m ↦ m
    ]

-- a program of the tail slot
pub tail_filled : (old : List ℕ) (page tail : ℕ) (new : List ℕ) → IsActiveTail old page tail → active new ≡ active old → format new ≡ format old → OneSlot old page tail new → Fills old new
tail_filled old page tail new t a f o = record {
  active_is = a;
  format_is = f;
  same = λ p u s other l n.
      let samepage : p ≡ page = same_page old p other.seq page t.seq other.is_active t.is_active in
      let there : IsTail old page u = rw samepage at other.is_tail in
      let v : u ≡ tail = omega (arith, one_tail old page u tail there t.is_tail, one_tail old page tail u t.is_tail there) in
      o.others p s l (λ x y. n (y ∙ sym v));
}
