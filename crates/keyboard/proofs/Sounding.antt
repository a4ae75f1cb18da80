-- Slots 0 stay sound, and with one that is not nothing is operated.
use Rattle.std.proofs.Common.{◌≡◌, Option, None, Some, List, [], ◌∷◌, ℕ, refl, sym, ◌∙◌, subst}
use Rattle.layers.specs.Codes.{DefaultCodes}
use Rattle.layers.specs.declared.command.Command.{Command}
use Rattle.page_turnover.specs.Usable.{IsUsable}
use Rattle.keymap_store.specs.declared.store.Work.{Work as WorkAnswer}
use Rattle.keyboard.specs.Calls.{Call, Scanned, SetUp, Out, In, Polled, Worked, BusReset, image_after, EachCall}
use Rattle.keyboard.specs.Commands.{working}
use Rattle.keyboard.specs.Conforming.{IsAnswered, WorkedOn}
use Rattle.keyboard.specs.Sound.{NoneOperates, KeepsSound}

-- nothing was operated, or the flash was sound and is
data Touches (start : List ℕ) (before : List Call) (call : Call) : Type 0 where
  untouched : image_after start (call ∷ before) ≡ image_after start before → (NoneOperates before → NoneOperates (call ∷ before)) → Touches start before call
  stays_sound : IsUsable (image_after start before) → IsUsable (image_after start (call ∷ before)) → Touches start before call

one_more : (start : List ℕ) (before : List Call) (call : Call) → Touches start before call → KeepsSound start before → KeepsSound start (call ∷ before)
one_more start before call (untouched e n) k = record {
  sound = λ u. subst IsUsable (sym e) (k.sound u);
  untouched = λ not_usable. (e ∙ (k.untouched not_usable).0, n (k.untouched not_usable).1);
}
one_more start before call (stays_sound u v) k = record {
  sound = λ _. v;
  untouched = λ not_usable. absurd (not_usable (subst IsUsable (k.untouched not_usable).0 u));
}

module _ (defaults : DefaultCodes) where
  worked : (start : List ℕ) (before : List Call) (w : Option Command) (work : WorkAnswer) (image : List ℕ) → WorkedOn defaults start before w work image
      → Touches start before (Worked work image)
  worked start before None work image (idle, same) = untouched same (λ n. (idle, n))
  worked start before (Some command) work image h = stays_sound h.usable h.sound

  touches : (start : List ℕ) (before : List Call) (call : Call) → IsAnswered defaults start before call → Touches start before call
  touches start before (Scanned scan) a = untouched refl (λ n. n)
  touches start before (SetUp bytes) a = untouched refl (λ n. n)
  touches start before (Out packet answer) a = untouched refl (λ n. n)
  touches start before (In answer) a = untouched refl (λ n. n)
  touches start before (Polled answer) a = untouched refl (λ n. n)
  touches start before (Worked work image) a = worked start before (working defaults start before) work image a
  touches start before BusReset a = untouched refl (λ n. n)

  pub keeps_sound : (start : List ℕ) (past : List Call) → EachCall (IsAnswered defaults) start past → KeepsSound start past
  keeps_sound start [] h = record { sound = λ u. u; untouched = λ n. (refl, tt) }
  keeps_sound start (call ∷ before) h = one_more start before call (touches start before call h.0) (keeps_sound start before h.1)
