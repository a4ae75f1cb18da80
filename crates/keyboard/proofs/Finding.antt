-- A legal restart finds all commands that did not fail, or all but the last.
use Rattle.std.proofs.Common.{◌≡◌, ◌≢◌, ℕ, List, [], ◌∷◌, ◌++◌, sym, ◌∙◌, subst}
use Rattle.std.proofs.lemmas.List.{append-nil}
use Rattle.layers.specs.Codes.{DefaultCodes}
use Rattle.layers.specs.Entries.{changed}
use Rattle.layers.specs.declared.command.Command.{Command}
use Rattle.keymap_store.specs.Keymap.{SameEntries}
use Rattle.keyboard.specs.Fate.{Fate, works, settled, failed}
use Rattle.keyboard.specs.Commands.{Accepted, commands_of, settled_of, standing_of, if_settled}
use Rattle.keyboard.specs.Finds.{FindsAllButLast, finds_all, lacks_last}
use Rattle.keyboard.specs.Restart.{LegalRestart, AllButLastSettled}

not_settled : (fate : Fate) (command : Command) (later : List Command) → if_settled fate command later ≡ [] → fate ≢ settled
not_settled settled command later e n = cc
not_settled works command later e n = cc
not_settled failed command later e n = cc

not_last : (before : List Accepted) (one next : Accepted) (later : List Accepted) → AllButLastSettled (before ++ one ∷ next ∷ later) → one.fate ≡ settled
not_last [] one next later a = a.0
not_last (first ∷ []) one next later a = a.1.0
not_last (first ∷ second ∷ before) one next later a = not_last (second ∷ before) one next later a.1

module _ (defaults : DefaultCodes) where
  finds : (entries next : ℕ → ℕ → ℕ) (kept lost standing : List Accepted) → kept ++ lost ≡ standing → settled_of lost ≡ [] → AllButLastSettled standing
      → SameEntries next (changed defaults entries (commands_of kept)) → FindsAllButLast defaults entries standing next
  finds entries next kept [] standing p e a c =
      finds_all (subst (λ (all : List Accepted). SameEntries next (changed defaults entries (commands_of all))) (sym (append-nil kept) ∙ p) c)
  finds entries next kept (one ∷ []) standing p e a c = lacks_last kept one (sym p) (not_settled one.fate one.command [] e) c
  finds entries next kept (one ∷ two ∷ lost) standing p e a c =
      absurd (not_settled one.fate one.command (settled_of (two ∷ lost)) e (not_last kept one two lost (subst (λ (all : List Accepted). AllButLastSettled all) (sym p) a)))

  pub finds_all_but_last : (entries next : ℕ → ℕ → ℕ) (session : List Accepted) → LegalRestart defaults entries session next → FindsAllButLast defaults entries (standing_of session) next
  finds_all_but_last entries next session r = finds entries next r.kept r.lost (standing_of session) r.prefix r.holds_settled r.at_most_last r.changed_by
