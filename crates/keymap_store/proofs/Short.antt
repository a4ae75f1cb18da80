-- The words that a store has programmed: bit 31 of each is clear.
use Rattle.std.proofs.Common.{◌≡◌, ◌∙◌, ℕ, zero, suc, ◌<◌, ◌≤◌, ◌^◌, arith, true, List, [], ◌∷◌, ◌++◌, Some, inl, inr}
use Rattle.std.proofs.lemmas.Bool.{cases_eq}
use Rattle.std.proofs.lemmas.List.{same_from_push}
use Rattle.layers.specs.Codes.{is_code, default_at, DefaultCodes}
use Rattle.layers.specs.Commands.{IsCommand, command_of, word_of}
use Rattle.layers.specs.Copies.{places, entry_at, set_key_at, copies_below}
use Rattle.layers.specs.declared.command.Command.{Command}
use Rattle.layers.specs.declared.command.Command.TheVariants.{SetKey, ResetLayer, ResetAll}
use Rattle.layers.proofs.CommandWords.{is_code-lt, word_of_command}
use Rattle.layers.proofs.Copying.{copies_below-zero, copies_below-same, copies_below-other}
use Rattle.page_turnover.specs.Value.{Task, Rest, Append, Wait, Copy, Seal}
use Rattle.page_turnover.specs.Turn.{copies, HasShortWord}
use Rattle.keymap_store.specs.representation.Store.{OffersBelow}

pub word_short : (command : Command) → IsCommand command → word_of command < 2 ^ 31
word_short (SetKey layer key code) is = let small : code < 2 ^ 16 = is_code-lt code is.2 in omega (arith, is.0, is.1, small)
word_short (ResetLayer layer) is = omega (arith, is)
word_short ResetAll is = omega arith

pub record_short : (command : Command) → command_of (word_of command) ≡ Some command → word_of command < 2 ^ 31
record_short command e = word_short command (word_of_command (word_of command) command e).0

no_push : (ws : List ℕ) (word : ℕ) → ws ++ word ∷ [] ≡ [] → ⊥
no_push [] word e = cc
no_push (x ∷ ws) word e = cc

module _ (defaults : DefaultCodes) where
  -- the last of the copies
  copy_short : (entries : ℕ → ℕ → ℕ) (place : ℕ) (ws : List ℕ) (word : ℕ) → place ≤ places → ((other : ℕ) → other < place → is_code (entry_at entries other) ≡ true) → ws ++ word ∷ [] ≡ copies_below defaults entries place → word < 2 ^ 31
  copy_short entries zero ws word l codes e = absurd (no_push ws word (e ∙ copies_below-zero defaults entries))
  copy_short entries (suc place) ws word l codes e = elim (cases_eq (entry_at entries place) (default_at defaults place)) [
    | inl d ↦ copy_short entries place ws word (omega arith) (λ other b. codes other (omega arith)) (e ∙ copies_below-same defaults entries place d)
    | inr d ↦ (let last = (same_from_push ws (copies_below defaults entries place) word (word_of (set_key_at entries place)) (e ∙ copies_below-other defaults entries place d)).1 in
        rw last (word_short (set_key_at entries place) (omega arith, omega arith, codes place (omega arith))))
  ]

  -- what a compaction was offered
  pub offered_short : (entries : ℕ → ℕ → ℕ) (from : ℕ) (image : List ℕ) (task : Task) → from ≤ places → OffersBelow defaults entries from image task → HasShortWord task
  offered_short entries from image Rest l o = tt
  offered_short entries from image (Append word) l o = absurd o
  offered_short entries from image (Wait target) l o = tt
  offered_short entries from image (Copy target word) l o = copy_short entries from (copies image (Copy target word)) word l o.codes o.listed
  offered_short entries from image (Seal target) l o = tt
