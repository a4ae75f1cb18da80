-- What the host was told is stored is kept by the starts, and the keymap is the first one changed by all that they kept.
use Rattle.std.proofs.Common.{◌≡◌, ◌≢◌, ℕ, List, [], ◌∷◌, ◌++◌, refl, sym, ◌∙◌, subst, ◌⊎◌, inl, inr}
use Rattle.flash_model.specs.Sim.{SimValue}
use Rattle.layers.specs.Codes.{DefaultCodes}
use Rattle.layers.specs.Entries.{changed}
use Rattle.layers.specs.declared.command.Command.{Command}
use Rattle.layers.proofs.LastWriter.{changed-nil, changed-append, changed-same}
use Rattle.keymap_store.specs.Keymap.{SameEntries}
use Rattle.keyboard.specs.Calls.{keymap}
use Rattle.keyboard.specs.Commands.{commands_of}
use Rattle.keyboard.specs.Restart.{RestartsLegally}
use Rattle.keyboard.proofs.Confirming.{confirmed, kept_settled}
use Rattle.world.specs.Kinds.{Step, Kind, starts, calls, looks, kind}
use Rattle.world.specs.History.{Session, session_with, session, EachStep}
use Rattle.world.specs.Conforming.{IsAnswered}
use Rattle.world.specs.Restart.{StartsLegally, ConfirmsSettled, StartsWithConfirmed, at_first, goes_on, starts_anew, StartsChanged}
use Rattle.world.proofs.Here.{here}
use Rattle.world.proofs.Restarting.{starts_legally}

not_start : (k : Kind) → (k ≡ starts) ⊎ (k ≢ starts)
not_start starts = inl refl
not_start (calls call) = inr (λ e. cc)
not_start looks = inr (λ e. cc)

same_first : (k : Kind) (image : List ℕ) (before : Session) → k ≢ starts → (session_with k image before).first ≡ before.first
same_first starts image before n = absurd (n refl)
same_first (calls call) image before n = refl
same_first looks image before n = refl

new_first : (k : Kind) (image : List ℕ) (before : Session) → k ≡ starts → (session_with k image before).first ≡ image
new_first starts image before e = refl
new_first (calls call) image before e = cc
new_first looks image before e = cc

module _ (defaults : DefaultCodes) where
  pub confirms_settled : (start : SimValue) (past : List Step) → EachStep (IsAnswered defaults) start past → ConfirmsSettled defaults start past
  confirms_settled start past h before command reported = confirmed defaults (session start past).first (session start past).past before command (here defaults start past h).conforming reported

  pub starts_with_confirmed : (start : SimValue) (past : List Step) → EachStep (IsAnswered defaults) start past → EachStep (StartsWithConfirmed defaults) start past
  starts_with_confirmed start [] h = tt
  starts_with_confirmed start (step ∷ before) h = (
    λ s earlier command reported.
        let settled = confirms_settled start before h.1 earlier command reported in
        (settled, λ restart. kept_settled defaults (session start before).first (session start before).past earlier command step.flash.image settled restart),
    starts_with_confirmed start before h.1,
  )

  -- ---- all that was kept

  changed_more : (first now new : ℕ → ℕ → ℕ) (kept more : List Command) → SameEntries now (changed defaults first kept) → SameEntries new (changed defaults now more) → SameEntries new (changed defaults first (kept ++ more))
  changed_more first now new kept more h k layer key l m =
      k layer key l m ∙ changed-same defaults now (changed defaults first kept) more layer key (h layer key l m) ∙ sym (changed-append defaults first kept more layer key)

  starts_more : (start : SimValue) (step : Step) (before : List Step) → (kind step ≡ starts) ⊎ (kind step ≢ starts) → StartsLegally defaults start before step → StartsChanged defaults start before → StartsChanged defaults start (step ∷ before)
  starts_more start step before (inl e) legal s =
      let restart : RestartsLegally defaults (session start before).first (session start before).past step.flash.image = legal e in
      let first = new_first (kind step) step.flash.image (session start before) e in
      record {
        kept = s.kept ++ commands_of restart.kept;
        all = starts_anew step before s.kept e restart s.all;
        changed_by = subst (λ (image : List ℕ). SameEntries (keymap defaults image) (changed defaults (keymap defaults start.image) (s.kept ++ commands_of restart.kept))) (sym first)
            (changed_more (keymap defaults start.image) (keymap defaults (session start before).first) (keymap defaults step.flash.image) s.kept (commands_of restart.kept) s.changed_by restart.changed_by);
      }
  starts_more start step before (inr n) legal s = record {
    kept = s.kept;
    all = goes_on step before s.kept n s.all;
    changed_by = subst (λ (image : List ℕ). SameEntries (keymap defaults image) (changed defaults (keymap defaults start.image) s.kept)) (sym (same_first (kind step) step.flash.image (session start before) n)) s.changed_by;
  }

  pub starts_changed : (start : SimValue) (past : List Step) → EachStep (IsAnswered defaults) start past → StartsChanged defaults start past
  starts_changed start [] h = record { kept = []; all = at_first; changed_by = λ layer key l k. sym (changed-nil defaults (keymap defaults start.image) layer key) }
  starts_changed start (step ∷ before) h = starts_more start step before (not_start (kind step)) ((starts_legally defaults start (step ∷ before) h).0) (starts_changed start before h.1)
