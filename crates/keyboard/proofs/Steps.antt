-- What the one operation of a step of the flash work comes to.
use Rattle.std.proofs.Common.{◌≡◌, ◌≢◌, ℕ, suc, ◌+◌, ◌<◌, ◌≤◌, arith, List, Some, length, slice_index, refl, sym, ◌∙◌, subst, inl, inr}
use Rattle.std.proofs.lemmas.Bool.{cases_lt}
use Rattle.flash_model.specs.Image.{IsImage}
use Rattle.flash_model.specs.Operations.{OneSlot, OnePage}
use Rattle.layers.specs.Codes.{DefaultCodes}
use Rattle.layers.specs.declared.command.Command.{Command}
use Rattle.page_turnover.specs.declared.operation.Operation.{Operation}
use Rattle.page_turnover.specs.declared.operation.Operation.TheVariants.{Program, Erase}
use Rattle.page_turnover.specs.Next.{Makes, MayMake, ReadsBack}
use Rattle.page_turnover.specs.Operates.{Operates, programs, erases, MayOperate, may_program, may_erase}
use Rattle.page_turnover.specs.Steps.{Attempts}
use Rattle.page_turnover.specs.Turn.{target_page}
use Rattle.page_turnover.specs.Usable.{IsUsable}
use Rattle.page_turnover.specs.Words.{IsBlank, HasRoom}
use Rattle.keymap_store.specs.declared.store.Work.{Work as WorkAnswer}
use Rattle.keymap_store.specs.declared.store.Work.TheVariants.{Idle, Working, Settled, Failed}
use Rattle.keymap_store.specs.Next.{all_copies}
use Rattle.keymap_store.specs.Works.{IsPlacedAt, IsTornAt}
use Rattle.keyboard.specs.Bounded.{steps_since}
use Rattle.keyboard.specs.Calls.{Call, image_after, keymap, EachCall}
use Rattle.keyboard.specs.Commands.{working}
use Rattle.keyboard.specs.Conforming.{IsAnswered}
use Rattle.keyboard.specs.Operated.{LosesNothing, IsRecord, HoldsFirst, IsOfTurn, erases as erases_target, copies, heads, Works}
use Rattle.keyboard.specs.Restart.{RestartsLegally}
use Rattle.keyboard.proofs.Working.{cut_legal}

-- the operation is one that loses nothing
operates_by : (old : List ℕ) (operation : Operation) (new : List ℕ) → IsUsable old → LosesNothing old operation → Makes old operation new → Operates old new
operates_by old (Program page slot word) new u (p, s, w, f) m = programs u page slot word p s w f m
operates_by old (Erase page) new u (p, a) m = erases u page p a m

may_operate_by : (old : List ℕ) (operation : Operation) (new : List ℕ) → IsUsable old → LosesNothing old operation → MayMake old operation new → MayOperate old new
may_operate_by old (Program page slot word) new u (p, s, w, f) m = may_program u page slot word p s w f m
may_operate_by old (Erase page) new u (p, a) m = may_erase u page p a m

-- of the record
placed_by : (command : Command) (old : List ℕ) (operation : Operation) (new : List ℕ) → IsRecord command old operation → Makes old operation new → IsPlacedAt old command new
placed_by command old operation new r m =
    let M : Operation → Type 0 = λ o. Makes old o new in
    record { page = r.page; tail = r.tail; place = r.place; programs = subst M r.operation_is m }

torn_by : (command : Command) (old : List ℕ) (operation : Operation) (new : List ℕ) → IsRecord command old operation → MayMake old operation new → (ReadsBack operation new → ⊥) → IsTornAt old command new
torn_by command old operation new r m n =
    let M : Operation → Type 0 = λ o. MayMake old o new in
    let R : Operation → Type 0 = λ o. ReadsBack o new → ⊥ in
    record { page = r.page; tail = r.tail; place = r.place; torn = subst M r.operation_is m; unread = subst R r.operation_is n }

not_failed : (work : WorkAnswer) → work ≡ Settled → work ≢ Failed
not_failed work e f = cc

-- of a compaction
slot_in_page : (old : List ℕ) (page slot : ℕ) (new : List ℕ) → OneSlot old page slot new → OnePage old page new
slot_in_page old page slot new o = record { same_length = o.same_length; others = λ p s l n. o.others p s l (λ e f. n e) }

same_slot : (p q slot other word more : ℕ) → Program p slot word ≡ Program q other more → slot ≡ other
same_slot p q slot other word more e = cc

same_word : (p q slot other word more : ℕ) → Program p slot word ≡ Program q other more → word ≡ more
same_word p q slot other word more e = cc

erased_page : (p q : ℕ) → Erase p ≡ Erase q → p ≡ q
erased_page p q e = cc

-- a record is programmed, and not into slot 0
no_erase : (command : Command) (old : List ℕ) (operation : Operation) (page : ℕ) → IsRecord command old operation → operation ≡ Erase page → ⊥
no_erase command old operation page r o = (let e = r.operation_is in cc)

no_header : (command : Command) (old : List ℕ) (operation : Operation) (word : ℕ) → IsRecord command old operation → operation ≡ Program (target_page old) 0 word → ⊥
no_header command old operation word r o =
    let at : 0 ≡ r.tail = same_slot (target_page old) r.page 0 r.tail word _ (sym o ∙ r.operation_is) in
    absurd (omega (arith, r.place.is_tail.low))

last_of_all : (made needed : ℕ) → suc made ≤ needed → needed ≤ suc made → suc made ≡ needed
last_of_all made needed w l = omega arith

module _ (defaults : DefaultCodes) where
  pub whole_step : (start : List ℕ) (past : List Call) (command : Command) (old : List ℕ) (work : WorkAnswer) (new : List ℕ) → Works defaults start past command old work new → work ≢ Failed → Operates old new
  whole_step start past command old work new w n = operates_by old w.operation new w.usable w.loses_nothing (w.attempts.done n).0

  pub torn_step : (start : List ℕ) (past : List Call) (command : Command) (old : List ℕ) (work : WorkAnswer) (new : List ℕ) → Works defaults start past command old work new → work ≡ Failed → MayOperate old new
  torn_step start past command old work new w e = may_operate_by old w.operation new w.usable w.loses_nothing (w.attempts.torn e).0

  pub placed_step : (start : List ℕ) (past : List Call) (command : Command) (old : List ℕ) (work : WorkAnswer) (new : List ℕ) → Works defaults start past command old work new → work ≡ Settled → IsPlacedAt old command new
  placed_step start past command old work new w e =
      placed_by command old w.operation new (w.advances.record_last (w.advances.last e)) (w.attempts.done (not_failed work e)).0

  pub record_torn : (start : List ℕ) (past : List Call) (command : Command) (old : List ℕ) (work : WorkAnswer) (new : List ℕ) (works : Works defaults start past command old work new) → work ≡ Failed → suc (steps_since past) ≡ works.advances.needed → IsTornAt old command new
  record_torn start past command old work new w e n =
      let left = w.attempts.torn e in
      torn_by command old w.operation new (w.advances.record_last n) left.0 left.1

  in_target_whole : (old : List ℕ) (operation : Operation) (new : List ℕ) → IsOfTurn defaults old operation → Makes old operation new → OnePage old (target_page old) new
  in_target_whole old operation new (erases_target e used) m = (let M : Operation → Type 0 = λ o. Makes old o new in (subst M e m).rest)
  in_target_whole old operation new (copies n l e h) m = (let M : Operation → Type 0 = λ o. Makes old o new in slot_in_page old (target_page old) _ new (subst M e m).rest)
  in_target_whole old operation new (heads e h) m = (let M : Operation → Type 0 = λ o. Makes old o new in slot_in_page old (target_page old) 0 new (subst M e m).rest)

  in_target_torn : (old : List ℕ) (operation : Operation) (new : List ℕ) → IsOfTurn defaults old operation → MayMake old operation new → OnePage old (target_page old) new
  in_target_torn old operation new (erases_target e used) m = (let M : Operation → Type 0 = λ o. MayMake old o new in (subst M e m).rest)
  in_target_torn old operation new (copies n l e h) m = (let M : Operation → Type 0 = λ o. MayMake old o new in slot_in_page old (target_page old) _ new (subst M e m).rest)
  in_target_torn old operation new (heads e h) m = (let M : Operation → Type 0 = λ o. MayMake old o new in slot_in_page old (target_page old) 0 new (subst M e m).rest)

  in_target_by : (old : List ℕ) (operation : Operation) (work : WorkAnswer) (new : List ℕ) → IsOfTurn defaults old operation → Attempts old operation (work ≡ Idle) (work ≡ Failed) new → OnePage old (target_page old) new
  in_target_by old operation Idle new t a = absurd (a.not_idle refl)
  in_target_by old operation Working new t a = in_target_whole old operation new t (a.done (λ e. cc)).0
  in_target_by old operation Settled new t a = in_target_whole old operation new t (a.done (λ e. cc)).0
  in_target_by old operation Failed new t a = in_target_torn old operation new t (a.torn refl).0

  pub in_target : (start : List ℕ) (past : List Call) (command : Command) (old : List ℕ) (work : WorkAnswer) (new : List ℕ) (works : Works defaults start past command old work new) → suc (steps_since past) < works.advances.needed → OnePage old (target_page old) new
  in_target start past command old work new w l = in_target_by old w.operation work new (w.advances.turn_before l) w.attempts

  by_turn_erased : (old : List ℕ) (operation : Operation) (page : ℕ) → IsOfTurn defaults old operation → operation ≡ Erase page → (page ≡ target_page old) × (IsBlank old page → ⊥)
  by_turn_erased old operation page (erases_target e used) o =
      let same : page ≡ target_page old = erased_page page (target_page old) (sym o ∙ e) in
      (same, rw same used)
  by_turn_erased old operation page (copies n l e h) o = cc
  by_turn_erased old operation page (heads e h) o = cc

  by_turn_copied : (old : List ℕ) (operation : Operation) (n word : ℕ) → IsOfTurn defaults old operation → operation ≡ Program (target_page old) (n + 1) word
      → (word ≡ slice_index (all_copies defaults (keymap defaults old)) n) × HoldsFirst defaults old n
  by_turn_copied old operation n word (erases_target e used) o = cc
  by_turn_copied old operation n word (copies k l e h) o =
      let at : n + 1 ≡ k + 1 = same_slot (target_page old) (target_page old) (n + 1) (k + 1) word _ (sym o ∙ e) in
      let same : k ≡ n = omega arith in
      let w : word ≡ slice_index (all_copies defaults (keymap defaults old)) k = same_word (target_page old) (target_page old) (n + 1) (k + 1) word _ (sym o ∙ e) in
      (rw same at w, subst (λ (x : ℕ). HoldsFirst defaults old x) same h)
  by_turn_copied old operation n word (heads e h) o =
      let at : n + 1 ≡ 0 = same_slot (target_page old) (target_page old) (n + 1) 0 word _ (sym o ∙ e) in
      absurd (omega arith)

  by_turn_headed : (old : List ℕ) (operation : Operation) (word : ℕ) → IsOfTurn defaults old operation → operation ≡ Program (target_page old) 0 word → HoldsFirst defaults old (length (all_copies defaults (keymap defaults old)))
  by_turn_headed old operation word (erases_target e used) o = cc
  by_turn_headed old operation word (copies k l e h) o =
      let at : 0 ≡ k + 1 = same_slot (target_page old) (target_page old) 0 (k + 1) word _ (sym o ∙ e) in
      absurd (omega arith)
  by_turn_headed old operation word (heads e h) o = h

  pub erased_step : (start : List ℕ) (past : List Call) (command : Command) (old : List ℕ) (work : WorkAnswer) (new : List ℕ) (page : ℕ) (works : Works defaults start past command old work new) → works.operation ≡ Erase page
      → (page ≡ target_page old) × (IsBlank old page → ⊥) × (HasRoom old → ⊥)
  erased_step start past command old work new page w o = elim (cases_lt (suc (steps_since past)) w.advances.needed) [
    | inl l ↦ (let t = by_turn_erased old w.operation page (w.advances.turn_before l) o in (t.0, t.1, w.advances.no_room l))
    | inr l ↦ absurd (no_erase command old w.operation page (w.advances.record_last (last_of_all (steps_since past) w.advances.needed w.advances.within l)) o)
  ]

  pub copied_step : (start : List ℕ) (past : List Call) (command : Command) (old : List ℕ) (work : WorkAnswer) (new : List ℕ) (n word : ℕ) (works : Works defaults start past command old work new) → suc (steps_since past) < works.advances.needed
      → works.operation ≡ Program (target_page old) (n + 1) word → (word ≡ slice_index (all_copies defaults (keymap defaults old)) n) × HoldsFirst defaults old n × (HasRoom old → ⊥)
  copied_step start past command old work new n word w l o = (let t = by_turn_copied old w.operation n word (w.advances.turn_before l) o in (t.0, t.1, w.advances.no_room l))

  pub headed_step : (start : List ℕ) (past : List Call) (command : Command) (old : List ℕ) (work : WorkAnswer) (new : List ℕ) (word : ℕ) (works : Works defaults start past command old work new) → works.operation ≡ Program (target_page old) 0 word
      → HoldsFirst defaults old (length (all_copies defaults (keymap defaults old))) × (HasRoom old → ⊥)
  headed_step start past command old work new word w o = elim (cases_lt (suc (steps_since past)) w.advances.needed) [
    | inl l ↦ (by_turn_headed old w.operation word (w.advances.turn_before l) o, w.advances.no_room l)
    | inr l ↦ absurd (no_header command old w.operation word (w.advances.record_last (last_of_all (steps_since past) w.advances.needed w.advances.within l)) o)
  ]

  -- and of a cut inside it
  pub cut_step : (start : List ℕ) (past : List Call) (command : Command) (work : WorkAnswer) (new image : List ℕ) (works : Works defaults start past command (image_after start past) work new) → EachCall (IsAnswered defaults) start past → working defaults start past ≡ Some command → IsImage image
      → MayMake (image_after start past) works.operation image → RestartsLegally defaults start past image
  cut_step start past command work new image works h w i m = cut_legal defaults start past command image h w (works.cut image i m).1
