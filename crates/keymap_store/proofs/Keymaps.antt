-- The keymap of an image after it changes.
use Rattle.std.proofs.Common.{◌≡◌, ◌∙◌, ℕ, ◌<◌, refl, sym, true, append_assoc, List, [], ◌∷◌, ◌++◌, Some, None, unwrap_or}
use Rattle.layers.specs.declared.command.Command.{Command}
use Rattle.layers.specs.Codes.{keys, is_code, DefaultCodes}
use Rattle.layers.specs.Commands.{command_of}
use Rattle.layers.specs.Formats.{command_by_format}
use Rattle.layers.specs.Copies.{AreCopies, places}
use Rattle.layers.specs.Entries.{entry_in, changed}
use Rattle.layers.specs.Keymaps.{HasEntries, Refines}
use Rattle.layers.proofs.Copying.{entry-copies}
use Rattle.layers.proofs.EntryCodes.{entry_in-is_code}
use Rattle.layers.proofs.LastWriter.{entry-append_command, entry-append_other}
use Rattle.layers.proofs.Tables.{has_same}
use Rattle.page_turnover.specs.Active.{format}
use Rattle.page_turnover.specs.Words.{words}
use Rattle.page_turnover.specs.Steps.{Keeps, CommitsWord}
use Rattle.keymap_store.specs.Keymap.{entries_of, SameEntries}

-- reading the words of a page
pub together_more : (xs left rest all : List ℕ) (word : ℕ) → left ≡ word ∷ rest → xs ++ left ≡ all → (xs ++ word ∷ []) ++ rest ≡ all
together_more xs left rest all word e t = rw append_assoc (rw e at t)

module _ (defaults : DefaultCodes) where
  pub entries_of-is : (image : List ℕ) → entries_of defaults image ≡ entry_in defaults (unwrap_or (format image) 2) (words image)
  unfolding entries_of
  entries_of-is image = refl

  pub entries_of-format : (image : List ℕ) (number : ℕ) → format image ≡ Some number → entries_of defaults image ≡ entry_in defaults number (words image)
  entries_of-format image number e = entries_of-is image ∙ rw e refl

  pub entries_of-keeps : (old new : List ℕ) → Keeps old new → entries_of defaults new ≡ entries_of defaults old
  entries_of-keeps old new k = entries_of-is new ∙ rw (k.words_are, k.format_is) refl ∙ sym (entries_of-is old)

  -- each entry is a code
  pub entries_of-is_code : (image : List ℕ) (layer key : ℕ) → key < keys → is_code (entries_of defaults image layer key) ≡ true
  entries_of-is_code image layer key l = rw (entries_of-is image) (entry_in-is_code defaults (unwrap_or (format image) 2) (words image) layer key l)

  -- a record on a page of format 2
  pub entries_of-recorded : (old new : List ℕ) (word : ℕ) (command : Command) → format old ≡ Some 2 → CommitsWord old word new → command_of word ≡ Some command → SameEntries (entries_of defaults new) (changed defaults (entries_of defaults old) (command ∷ []))
  entries_of-recorded old new word command f c r layer key l k =
      rw (entries_of-format new 2 (c.format_is ∙ f), c.words_are, entries_of-format old 2 f) (entry-append_command defaults 2 (words old) word command layer key r)

  -- the entries that differ from the default, on a page of format 2
  pub entries_of-copies : (entries : ℕ → ℕ → ℕ) (new : List ℕ) → format new ≡ Some 2 → AreCopies defaults entries places (words new) → SameEntries (entries_of defaults new) entries
  entries_of-copies entries new f a layer key l k = rw (entries_of-format new 2 f) (entry-copies defaults entries (words new) layer key a l k)

  -- a keymap after a record
  pub keymap_recorded : (old new : List ℕ) (word : ℕ) (command : Command) (before after : List ℕ) → format old ≡ Some 2 → CommitsWord old word new → command_of word ≡ Some command → HasEntries (entries_of defaults old) before
      → ((number : ℕ) (ws : List ℕ) (w : ℕ) → Refines defaults number ws before → command_by_format number w ≡ Some command → Refines defaults number (ws ++ w ∷ []) after) → HasEntries (entries_of defaults new) after
  keymap_recorded old new word command before after f c r h applies =
      rw (entries_of-format new 2 (c.format_is ∙ f), c.words_are) (applies 2 (words old) word (rw (entries_of-format old 2 f) at h) r)

  pub keymap_kept : (old new : List ℕ) (keymap : List ℕ) → Keeps old new → HasEntries (entries_of defaults old) keymap → HasEntries (entries_of defaults new) keymap
  keymap_kept old new keymap k h = rw (entries_of-keeps old new k) h

  pub keymap_copied : (entries : ℕ → ℕ → ℕ) (new keymap : List ℕ) → format new ≡ Some 2 → AreCopies defaults entries places (words new) → HasEntries entries keymap → HasEntries (entries_of defaults new) keymap
  keymap_copied entries new keymap f a h = has_same entries (entries_of defaults new) keymap (λ layer key l k. sym (entries_of-copies entries new f a layer key l k)) h

  -- a word that is no command is passed over
  pub refines_other : (number : ℕ) (ws : List ℕ) (word : ℕ) (keymap : List ℕ) → command_by_format number word ≡ None → Refines defaults number ws keymap → Refines defaults number (ws ++ word ∷ []) keymap
  refines_other number ws word keymap e h = has_same (entry_in defaults number ws) (entry_in defaults number (ws ++ word ∷ [])) keymap (λ layer key l k. sym (entry-append_other defaults number ws word layer key e)) h
