-- A session is given by its start, its calls and the images; and the images by the answers, where no step fails.
use Rattle.std.proofs.Common.{◌≡◌, ◌≢◌, ◌∙◌, ℕ, ◌<◌, Bool, Option, None, Some, List, [], ◌∷◌, get_or, length, map, refl, sym, ap, subst, arith, inl, inr, Result, Ok, Err}
use Rattle.std.proofs.lemmas.Bool.{cases_eq}
use Rattle.flash_model.specs.Image.{slot_at}
use Rattle.flash_model.specs.Operations.{Programs, Erases}
use Rattle.flash_model.proofs.Places.{same_images, same_slot, slot_byte}
use Rattle.layers.specs.Codes.{DefaultCodes}
use Rattle.layers.specs.declared.command.Command.{Command}
use Rattle.layers.specs.declared.code.KeymapError.{KeymapError}
use Rattle.page_turnover.specs.declared.operation.Operation.{Operation}
use Rattle.page_turnover.specs.declared.operation.Operation.TheVariants.{Program, Erase}
use Rattle.page_turnover.specs.Next.{Makes, ReadsBack}
use Rattle.control_ep.specs.declared.answer.EpAnswer.{EpAnswer}
use Rattle.control_ep.specs.declared.answer.OutStep.{OutStep}
use Rattle.control_ep.specs.declared.answer.OutStep.TheVariants as outs
use Rattle.control_ep.specs.Answers.{out_step}
use Rattle.keymap_store.specs.declared.store.Work.{Work as WorkAnswer}
use Rattle.keymap_store.specs.declared.store.Work.TheVariants.{Idle, Working, Settled, Failed}
use Rattle.keyboard.specs.Calls.{Call, Scanned, SetUp, Out, In, Polled, Worked, BusReset, image_after}
use Rattle.keyboard.specs.Commands.{working}
use Rattle.keyboard.specs.Endpoint.{stage_after}
use Rattle.keyboard.specs.Feature.{Where, yes, no, ReadAnswer, FeatureAnswer, command_of_bytes}
use Rattle.keyboard.specs.Conforming.{OutAnswer, WorkedOn, IsAnswered, IsConforming}
use Rattle.keyboard.specs.Operated.{Works}
use Rattle.keyboard.specs.Single.{unanswered, without_image, NoneFails, MayBeTorn}

-- both equal to one
pub to_one : {A : Type 0} {a b x : A} → a ≡ x → b ≡ x → a ≡ b
to_one e f = e ∙ sym f

pub by_where : {p qa ra qb rb : Type 0} (S : Type 0) → (qa → qb → S) → (ra → rb → S) → Where p qa ra → Where p qb rb → S
by_where S f g (yes a q) (yes b r) = f q r
by_where S f g (yes a q) (no n r) = absurd (n a)
by_where S f g (no n q) (yes b r) = absurd (n b)
by_where S f g (no n q) (no m r) = g q r

-- ---- an OUT packet

same_eight : (new other : List ℕ) (p s : ℕ) → length other ≡ length new → ((k : ℕ) → k < 8 → get_or (slot_at other p s) k 0 ≡ get_or (slot_at new p s) k 0) → slot_at other p s ≡ slot_at new p s
same_eight new other p s e h = same_slot new other p s e (λ k b. sym (slot_byte other p s k b) ∙ h k b ∙ slot_byte new p s k b)

pub whole_program : (old new other : List ℕ) (p s : ℕ) (with : List ℕ) → Programs old p s with new → Programs old p s with other → other ≡ new
whole_program old new other p s with m n =
    let e : length other ≡ length new = to_one n.rest.same_length m.rest.same_length in
    same_images new other e (λ q t l.
    elim (cases_eq q p) [
      | inl page ↦ elim (cases_eq t s) [
        | inl slot ↦ rw (page, slot) (same_eight new other p s e (λ k b. to_one (n.bytes k b) (m.bytes k b)))
        | inr apart ↦ to_one (n.rest.others q t l (λ _ f. apart f)) (m.rest.others q t l (λ _ f. apart f))
      ]
      | inr apart ↦ to_one (n.rest.others q t l (λ f _. apart f)) (m.rest.others q t l (λ f _. apart f))
    ])

pub whole_erase : (old new other : List ℕ) (p : ℕ) → Erases old p new → Erases old p other → other ≡ new
whole_erase old new other p m n =
    let e : length other ≡ length new = to_one n.rest.same_length m.rest.same_length in
    same_images new other e (λ q t l.
    elim (cases_eq q p) [
      | inl page ↦ rw page (to_one (n.blank t l) (m.blank t l))
      | inr apart ↦ to_one (n.rest.others q t l apart) (m.rest.others q t l apart)
    ])

pub same_operation : (o : Option Operation) (a b : Operation) → o ≡ Some a → o ≡ Some b → a ≡ b
same_operation o a b e f = cc

first_same : {A : Type 0} (x y : A) (xs ys : List A) → x ∷ xs ≡ y ∷ ys → x ≡ y
first_same x y xs ys e = cc

rest_same : {A : Type 0} (x y : A) (xs ys : List A) → x ∷ xs ≡ y ∷ ys → xs ≡ ys
rest_same x y xs ys e = cc

makes_once : (old : List ℕ) (operation : Operation) (a b : List ℕ) → Makes old operation a → Makes old operation b → a ≡ b
makes_once old (Program page slot word) a b x y = whole_program old b a page slot _ y x
makes_once old (Erase page) a b x y = whole_erase old b a page y x

none_failed : (call : Call) (before : List Call) → NoneFails (call ∷ before) → NoneFails before
none_failed (Worked work image) before n = n.1
none_failed (Scanned scan) before n = n
none_failed (SetUp bytes) before n = n
none_failed (Out packet answer) before n = n
none_failed (In answer) before n = n
none_failed (Polled answer) before n = n
none_failed BusReset before n = n

module _ (defaults : DefaultCodes) where
  read_once : (image : List ℕ) (read : Result Command KeymapError) (a b : EpAnswer) → ReadAnswer defaults image read a → ReadAnswer defaults image read b → a ≡ b
  read_once image (Err error) a b x y = to_one x y
  read_once image (Ok command) a b x y = by_where (a ≡ b) to_one (by_where (a ≡ b) to_one (by_where (a ≡ b) to_one to_one)) x y

  feature_once : (image : List ℕ) (busy : Bool) (bytes : List ℕ) (a b : EpAnswer) → FeatureAnswer defaults image busy bytes a → FeatureAnswer defaults image busy bytes b → a ≡ b
  feature_once image busy bytes a b x y = by_where (a ≡ b) to_one (by_where (a ≡ b) to_one (read_once image (command_of_bytes bytes) a b)) x y

  pub out_once : (step : OutStep) (image : List ℕ) (busy : Bool) (a b : EpAnswer) → OutAnswer defaults step image busy a → OutAnswer defaults step image busy b → a ≡ b
  out_once (outs.Answered answered) image busy a b x y = to_one x y
  out_once (outs.Leds leds) image busy a b x y = to_one x y
  out_once (outs.Offer bytes) image busy a b x y = feature_once image busy bytes a b x y

  -- one answer fits what an operation left
  failed_and_done : (start : List ℕ) (past : List Call) (command : Command) (old new : List ℕ) (work : WorkAnswer) → Works defaults start past command old Failed new → Works defaults start past command old work new → work ≢ Failed → ⊥
  failed_and_done start past command old new work f d n =
      let same : f.operation ≡ d.operation = same_operation _ f.operation d.operation f.advances.in_order d.advances.in_order in
      (f.attempts.torn refl).1 (subst (λ (o : Operation). ReadsBack o new) (sym same) (d.attempts.done n).1)

  working_and_settled : (start : List ℕ) (past : List Call) (command : Command) (old new : List ℕ) → Works defaults start past command old Working new → Works defaults start past command old Settled new → ⊥
  working_and_settled start past command old new w s =
      let same = to_one w.advances.needed_is s.advances.needed_is in
      let few = (w.advances.before_last refl).0 in
      let last = s.advances.last refl in
      absurd (omega (arith, same, few, last))

  pub works_once : (start : List ℕ) (past : List Call) (command : Command) (old new : List ℕ) (a b : WorkAnswer) → Works defaults start past command old a new → Works defaults start past command old b new → a ≡ b
  works_once start past command old new Idle b x y = absurd x.outcome
  works_once start past command old new Working Idle x y = absurd y.outcome
  works_once start past command old new Settled Idle x y = absurd y.outcome
  works_once start past command old new Failed Idle x y = absurd y.outcome
  works_once start past command old new Working Working x y = refl
  works_once start past command old new Settled Settled x y = refl
  works_once start past command old new Failed Failed x y = refl
  works_once start past command old new Working Settled x y = absurd (working_and_settled start past command old new x y)
  works_once start past command old new Settled Working x y = absurd (working_and_settled start past command old new y x)
  works_once start past command old new Failed Working x y = absurd (failed_and_done start past command old new Working x y (λ e. cc))
  works_once start past command old new Failed Settled x y = absurd (failed_and_done start past command old new Settled x y (λ e. cc))
  works_once start past command old new Working Failed x y = absurd (failed_and_done start past command old new Working y x (λ e. cc))
  works_once start past command old new Settled Failed x y = absurd (failed_and_done start past command old new Settled y x (λ e. cc))

  -- ---- a session, by its calls and the images

  work_once : (start : List ℕ) (before : List Call) (w : Option Command) (a b : WorkAnswer) (new : List ℕ) → WorkedOn defaults start before w a new → WorkedOn defaults start before w b new → a ≡ b
  work_once start before None a b new x y = to_one x.0 y.0
  work_once start before (Some command) a b new x y = works_once start before command (image_after start before) new a b x y

  same_answer : (start : List ℕ) (before : List Call) (a b : Call) → IsAnswered defaults start before a → IsAnswered defaults start before b → unanswered a ≡ unanswered b → a ≡ b
  same_answer start before (Out packet a) (Out other b) x y e =
      let same : other ≡ packet = cc in
      let at_one : IsAnswered defaults start before (Out packet b) = subst (λ (p : List ℕ). IsAnswered defaults start before (Out p b)) same y in
      ap (λ (v : EpAnswer). Out packet v) (out_once (out_step (stage_after defaults start before) packet) _ _ a b x at_one) ∙ ap (λ (p : List ℕ). Out p b) (sym same)
  same_answer start before (In a) (In b) x y e = ap In (to_one x y)
  same_answer start before (Polled a) (Polled b) x y e = ap Polled (to_one x y)
  same_answer start before (Worked a image) (Worked b other) x y e =
      let same : other ≡ image = cc in
      let at_one : IsAnswered defaults start before (Worked b image) = subst (λ (i : List ℕ). IsAnswered defaults start before (Worked b i)) same y in
      ap (λ (w : WorkAnswer). Worked w image) (work_once start before (working defaults start before) a b image x at_one) ∙ ap (λ (i : List ℕ). Worked b i) (sym same)
  same_answer start before (Scanned a) (Scanned b) x y e = e
  same_answer start before (SetUp a) (SetUp b) x y e = e
  same_answer start before BusReset BusReset x y e = refl
  same_answer start before _ _ x y e = cc

  pub one_session : (start : List ℕ) (a b : List Call) → IsConforming defaults start a → IsConforming defaults start b → map unanswered a ≡ map unanswered b → a ≡ b
  one_session start [] [] x y e = refl
  one_session start [] (call ∷ before) x y e = cc
  one_session start (call ∷ before) [] x y e = cc
  one_session start (one ∷ before) (two ∷ earlier) x y e =
      let same : before ≡ earlier = one_session start before earlier x.1 y.1 (rest_same (unanswered one) (unanswered two) _ _ e) in
      let at_two : IsAnswered defaults start before two = subst (λ (past : List Call). IsAnswered defaults start past two) (sym same) y.0 in
      let call : one ≡ two = same_answer start before one two x.0 at_two (first_same (unanswered one) (unanswered two) _ _ e) in
      ap (λ (c : Call). c ∷ before) call ∙ ap (λ (past : List Call). two ∷ past) same

  -- ---- the images, by the answers

  whole_once : (start : List ℕ) (before : List Call) (w : Option Command) (work : WorkAnswer) (a b : List ℕ) → WorkedOn defaults start before w work a → WorkedOn defaults start before w work b → work ≢ Failed → a ≡ b
  whole_once start before None work a b x y n = to_one x.1 y.1
  whole_once start before (Some command) work a b x y n =
      let same : x.operation ≡ y.operation = same_operation _ x.operation y.operation x.advances.in_order y.advances.in_order in
      makes_once (image_after start before) y.operation a b (subst (λ (o : Operation). Makes (image_after start before) o a) same (x.attempts.done n).0) (y.attempts.done n).0

  pub one_image : (start : List ℕ) (before : List Call) (work : WorkAnswer) (a b : List ℕ) → IsAnswered defaults start before (Worked work a) → IsAnswered defaults start before (Worked work b) → work ≢ Failed → a ≡ b
  one_image start before work a b x y n = whole_once start before (working defaults start before) work a b x y n

  torn_by : (start : List ℕ) (before : List Call) (w : Option Command) (new : List ℕ) → working defaults start before ≡ w → WorkedOn defaults start before w Failed new → (torn : MayBeTorn defaults start before new) × (ReadsBack torn.operation new → ⊥)
  torn_by start before None new e x = absurd (idle_fails x.0)
    where
      idle_fails : Failed ≡ Idle → ⊥
      idle_fails e = cc
  torn_by start before (Some command) new e x =
      (record { command = command; is_working = e; operation = x.operation; is_next = x.advances.in_order; torn = (x.attempts.torn refl).0 }, (x.attempts.torn refl).1)

  pub torn_image : (start : List ℕ) (before : List Call) (new : List ℕ) → IsAnswered defaults start before (Worked Failed new) → (torn : MayBeTorn defaults start before new) × (ReadsBack torn.operation new → ⊥)
  torn_image start before new x = torn_by start before (working defaults start before) new refl x

  same_image : (start : List ℕ) (before : List Call) (a b : Call) → NoneFails (a ∷ before) → IsAnswered defaults start before a → IsAnswered defaults start before b → without_image a ≡ without_image b → a ≡ b
  same_image start before (Worked work image) (Worked other left) n x y e =
      let same : other ≡ work = cc in
      let at_one : IsAnswered defaults start before (Worked work left) = subst (λ (w : WorkAnswer). IsAnswered defaults start before (Worked w left)) same y in
      ap (λ (i : List ℕ). Worked work i) (one_image start before work image left x at_one n.0) ∙ ap (λ (w : WorkAnswer). Worked w left) (sym same)
  same_image start before (Worked work image) _ n x y e = cc
  same_image start before _ (Worked work image) n x y e = cc
  same_image start before _ _ n x y e = e

  pub same_images_left : (start : List ℕ) (a b : List Call) → IsConforming defaults start a → IsConforming defaults start b → NoneFails a → map without_image a ≡ map without_image b → a ≡ b
  same_images_left start [] [] x y n e = refl
  same_images_left start [] (call ∷ before) x y n e = cc
  same_images_left start (call ∷ before) [] x y n e = cc
  same_images_left start (one ∷ before) (two ∷ earlier) x y n e =
      let same : before ≡ earlier = same_images_left start before earlier x.1 y.1 (none_failed one before n) (rest_same (without_image one) (without_image two) _ _ e) in
      let at_two : IsAnswered defaults start before two = subst (λ (past : List Call). IsAnswered defaults start past two) (sym same) y.0 in
      let call : one ≡ two = same_image start before one two n x.0 at_two (first_same (without_image one) (without_image two) _ _ e) in
      ap (λ (c : Call). c ∷ before) call ∙ ap (λ (past : List Call). two ∷ past) same
