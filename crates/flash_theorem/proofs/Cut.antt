-- What a cut inside a step of the flash work leaves.
use Rattle.std.proofs.Common.{◌≡◌, ◌≢◌, ℕ, List, ◌∷◌, ap, refl}
use Rattle.layers.specs.Codes.{DefaultCodes}
use Rattle.keymap_store.specs.declared.store.Work.{Work}
use Rattle.keyboard.specs.Acknowledged.{DoesNotWrite, IsAcknowledgedInSession}
use Rattle.keymap_store.specs.declared.store.Work.TheVariants.{Idle, Working, Settled, Failed}
use Rattle.keyboard.specs.Commands.{accepts}
use Rattle.keyboard.specs.Restart.{RestartsLegally, CutsLegally}
use Rattle.keyboard.specs.Calls.{Call, Worked}

module _ (defaults : DefaultCodes) where
  worked_leaves : (past : List Call) (work : Work) (image : List ℕ) (layer key : ℕ) → DoesNotWrite defaults layer key (accepts past (Worked work image))
  unfolding accepts
  worked_leaves past work image layer key = tt

  -- a step of the flash work more tells the host nothing and takes no command
  pub acknowledged_before : (past : List Call) (work : Work) (image : List ℕ) (layer key code : ℕ) → IsAcknowledgedInSession defaults past layer key code → IsAcknowledgedInSession defaults (Worked work image ∷ past) layer key code
  acknowledged_before past work image layer key code a = record {
    in_layers = a.in_layers;
    in_keys = a.in_keys;
    before = a.before;
    packet = a.packet;
    between = a.between;
    after = Worked work image ∷ a.after;
    past_is = ap (λ calls. Worked work image ∷ calls) a.past_is;
    command = a.command;
    accepted = a.accepted;
    writes = a.writes;
    same_transfer = a.same_transfer;
    not_since = (worked_leaves _ work image layer key, a.not_since);
  }

  -- what is left makes a legal restart: where an operation was made it is what the step came to, else it is as it was
  pub legal_left : (start : List ℕ) (past : List Call) (work : Work) (old new : List ℕ) → (work ≢ Idle → CutsLegally defaults start past work new) → (work ≡ Idle → new ≡ old) → RestartsLegally defaults start past old → RestartsLegally defaults start past new
  legal_left start past Idle old new cut same legal = rw (same refl) legal
  legal_left start past Working old new cut same legal = (cut (λ e. cc)).left
  legal_left start past Settled old new cut same legal = (cut (λ e. cc)).left
  legal_left start past Failed old new cut same legal = (cut (λ e. cc)).left
