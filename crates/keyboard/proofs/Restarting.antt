-- Restarts are legal, between two calls and inside an operation.
use Rattle.std.proofs.Common.{◌≡◌, ℕ, Option, Some, List, [], ◌∷◌, ◌++◌, refl, ap, sym, ◌∙◌, subst}
use Rattle.std.proofs.lemmas.List.{append-nil}
use Rattle.layers.specs.Codes.{DefaultCodes}
use Rattle.layers.specs.Entries.{changed}
use Rattle.layers.specs.declared.command.Command.{Command}
use Rattle.keymap_store.specs.Keymap.{SameEntries}
use Rattle.keyboard.specs.Calls.{Call, image_after, keymap, EachCall}
use Rattle.keyboard.specs.Fate.{Fate, works, settled, failed}
use Rattle.keyboard.specs.Commands.{Accepted, accepted, working, settled_of, standing_of, commands_of, unless_failed, if_settled}
use Rattle.keyboard.specs.Restart.{AllButLastSettled, LegalRestart, RestartsLegally}
use Rattle.keyboard.specs.Conforming.{IsAnswered}
use Rattle.keyboard.proofs.Sessions.{AllEnded, Shape, at_rest, at_work, Orderly, orderly, settled_of-append, AtWork, while_working, changed_by_working}

-- each of these commands is settled
abbrev AllSettled : List Accepted → Type 0
AllSettled [] = Unit {0}
AllSettled (one ∷ later) = (one.fate ≡ settled) × AllSettled later

settled_here : (f : Fate) (one : Accepted) (later : List Accepted) → one.fate ≡ f → (f ≡ works → ⊥) → AllSettled later → AllSettled (unless_failed f one later)
settled_here works one later e n h = absurd (n refl)
settled_here settled one later e n h = (e, h)
settled_here failed one later e n h = h

-- of the commands that have ended, those that did not fail are settled
standing-ended : (all : List Accepted) → AllEnded all → AllSettled (standing_of all)
standing-ended [] h = tt
standing-ended (one ∷ later) h = settled_here one.fate one (standing_of later) refl h.0 (standing-ended later h.1)

unless_failed-append : (f : Fate) (one : Accepted) (xs ys : List Accepted) → unless_failed f one (xs ++ ys) ≡ unless_failed f one xs ++ ys
unless_failed-append works one xs ys = refl
unless_failed-append settled one xs ys = refl
unless_failed-append failed one xs ys = refl

pub standing_of-append : (xs ys : List Accepted) → standing_of (xs ++ ys) ≡ standing_of xs ++ standing_of ys
standing_of-append [] ys = refl
standing_of-append (one ∷ xs) ys =
    ap (λ (zs : List Accepted). unless_failed one.fate one zs) (standing_of-append xs ys) ∙ unless_failed-append one.fate one (standing_of xs) (standing_of ys)

commands_here : (f : Fate) (one : Accepted) (later : List Accepted) (rest : List Command) → (f ≡ works → ⊥) → commands_of later ≡ rest → commands_of (unless_failed f one later) ≡ if_settled f one.command rest
commands_here works one later rest n e = absurd (n refl)
commands_here settled one later rest n e = ap (λ (cs : List Command). one.command ∷ cs) e
commands_here failed one later rest n e = e

-- the commands that have ended and did not fail are the settled ones
commands_of-standing : (all : List Accepted) → AllEnded all → commands_of (standing_of all) ≡ settled_of all
commands_of-standing [] h = refl
commands_of-standing (one ∷ later) h = commands_here one.fate one (standing_of later) (settled_of later) h.0 (commands_of-standing later h.1)

all_but_last-settled : (all : List Accepted) (last : List Accepted) → AllSettled all → AllButLastSettled last → AllButLastSettled (all ++ last)
all_but_last-settled [] last h k = k
all_but_last-settled (one ∷ []) [] h k = tt
all_but_last-settled (one ∷ []) (next ∷ later) h k = (h.0, k)
all_but_last-settled (one ∷ next ∷ later) last h k = (h.0, all_but_last-settled (next ∷ later) last h.1 k)

commands_of-append : (xs ys : List Accepted) → commands_of (xs ++ ys) ≡ commands_of xs ++ commands_of ys
commands_of-append [] ys = refl
commands_of-append (one ∷ xs) ys = ap (λ (cs : List Command). one.command ∷ cs) (commands_of-append xs ys)

module _ (defaults : DefaultCodes) where
  legal : (first next : ℕ → ℕ → ℕ) (all : List Accepted) (w : Option Command) → Shape all w → SameEntries next (changed defaults first (settled_of all)) → LegalRestart defaults first all next
  legal first next all w (at_rest ended) k = record {
    kept = standing_of all;
    lost = [];
    prefix = append-nil (standing_of all);
    holds_settled = refl;
    at_most_last = subst (λ (xs : List Accepted). AllButLastSettled xs) (append-nil (standing_of all)) (all_but_last-settled (standing_of all) [] (standing-ended all ended) tt);
    changed_by = subst (λ (cs : List Command). SameEntries next (changed defaults first cs)) (sym (commands_of-standing all ended)) k;
  }
  legal first next all w (at_work front command e ended) k =
      let one : Accepted = record { command = command; fate = works } in
      let standing : standing_of all ≡ standing_of front ++ one ∷ [] = rw e (standing_of-append front (one ∷ [])) in
      let settled_are : settled_of all ≡ settled_of front = rw e (settled_of-append front (one ∷ []) ∙ append-nil (settled_of front)) in
      record {
        kept = standing_of front;
        lost = one ∷ [];
        prefix = sym standing;
        holds_settled = refl;
        at_most_last = subst (λ (xs : List Accepted). AllButLastSettled xs) (sym standing) (all_but_last-settled (standing_of front) (one ∷ []) (standing-ended front ended) tt);
        changed_by = subst (λ (cs : List Command). SameEntries next (changed defaults first cs)) (settled_are ∙ sym (commands_of-standing front ended)) k;
      }

  -- the power was cut inside the operation that made the record of the working command whole
  pub legal_with : (start : List ℕ) (past : List Call) (command : Command) (image : List ℕ) → AtWork defaults start past command
      → SameEntries (keymap defaults image) (changed defaults (keymap defaults (image_after start past)) (command ∷ [])) → RestartsLegally defaults start past image
  legal_with start past command image w e =
      let one : Accepted = record { command = command; fate = works } in
      let standing : standing_of (accepted defaults start past) ≡ standing_of w.front ++ one ∷ [] = ap standing_of w.were ∙ standing_of-append w.front (one ∷ []) in
      let commands : commands_of (standing_of w.front ++ one ∷ []) ≡ settled_of w.front ++ command ∷ [] =
      commands_of-append (standing_of w.front) (one ∷ []) ∙ ap (λ (cs : List Command). cs ++ command ∷ []) (commands_of-standing w.front w.ended) in
      record {
        kept = standing_of w.front ++ one ∷ [];
        lost = [];
        prefix = append-nil (standing_of w.front ++ one ∷ []) ∙ sym standing;
        holds_settled = refl;
        at_most_last = subst (λ (xs : List Accepted). AllButLastSettled xs) (sym standing) (all_but_last-settled (standing_of w.front) (one ∷ []) (standing-ended w.front w.ended) tt);
        changed_by = subst (λ (cs : List Command). SameEntries (keymap defaults image) (changed defaults (keymap defaults start) cs)) (sym commands) (changed_by_working defaults start past command image w e);
      }

  -- an image with the keymap of the flash
  pub legal_same : (start : List ℕ) (past : List Call) (image : List ℕ) → Orderly defaults start past → SameEntries (keymap defaults image) (keymap defaults (image_after start past))
      → RestartsLegally defaults start past image
  legal_same start past image o e =
      legal (keymap defaults start) (keymap defaults image) (accepted defaults start past) (working defaults start past) o.shape (λ layer key l k. e layer key l k ∙ o.kept layer key l k)

  pub restarts_legally : (start : List ℕ) (past : List Call) → EachCall (IsAnswered defaults) start past → RestartsLegally defaults start past (image_after start past)
  restarts_legally start past h = legal_same start past (image_after start past) (orderly defaults start past h) (λ layer key l k. refl)

  -- so with the working command, or without it
  pub restarts_with : (start : List ℕ) (past : List Call) (command : Command) (image : List ℕ) → EachCall (IsAnswered defaults) start past → working defaults start past ≡ Some command
      → SameEntries (keymap defaults image) (changed defaults (keymap defaults (image_after start past)) (command ∷ [])) → RestartsLegally defaults start past image
  restarts_with start past command image h w e = legal_with start past command image (while_working defaults start past command (orderly defaults start past h) w) e

  pub restarts_without : (start : List ℕ) (past : List Call) (image : List ℕ) → EachCall (IsAnswered defaults) start past
      → SameEntries (keymap defaults image) (keymap defaults (image_after start past)) → RestartsLegally defaults start past image
  restarts_without start past image h e = legal_same start past image (orderly defaults start past h) e
