-- The last writer over lists that are joined.
use Rattle.std.specs.Option.{option_or}
use Rattle.std.proofs.Common.{◌≡◌, ℕ, ◌<◌, Option, Some, None, suc, arith, unwrap_or, List, [], ◌∷◌, ◌++◌, refl, ap, sym, ◌∙◌}
use Rattle.layers.specs.Codes.{layers, keys, default_code, DefaultCodes}
use Rattle.layers.specs.Formats.{command_by_format}
use Rattle.layers.specs.Entries.{written, last_written, changed, commands_in, entry_in, written_by_word, NoneWrites, ChangesNothing}
use Rattle.layers.specs.declared.command.Command.{Command}

option_or-none : (a : Option ℕ) → option_or a None ≡ a
option_or-none None = refl
option_or-none (Some x) = refl

option_or-option_or : (a b c : Option ℕ) → option_or (option_or a b) c ≡ option_or a (option_or b c)
option_or-option_or None b c = refl
option_or-option_or (Some x) b c = refl

unwrap_or-option_or : (a b : Option ℕ) (d : ℕ) → unwrap_or (option_or a b) d ≡ unwrap_or a (unwrap_or b d)
unwrap_or-option_or None b d = refl
unwrap_or-option_or (Some x) b d = refl

pub commands_in-nil : (format : ℕ) → commands_in format [] ≡ []
unfolding commands_in
commands_in-nil format = refl

pub commands_in-command : (format : ℕ) (word : ℕ) (words : List ℕ) (command : Command) → command_by_format format word ≡ Some command → commands_in format (word ∷ words) ≡ command ∷ commands_in format words
unfolding commands_in
commands_in-command format word words command e = rw e refl

pub commands_in-other : (format : ℕ) (word : ℕ) (words : List ℕ) → command_by_format format word ≡ None → commands_in format (word ∷ words) ≡ commands_in format words
unfolding commands_in
commands_in-other format word words e = rw e refl

commands_in-cons : (format : ℕ) (word : ℕ) (xs ys : List ℕ) → commands_in format (xs ++ ys) ≡ commands_in format xs ++ commands_in format ys → commands_in format ((word ∷ xs) ++ ys) ≡ commands_in format (word ∷ xs) ++ commands_in format ys
commands_in-cons format word xs ys h = by_option (command_by_format format word) refl
  where
    by_option : (o : Option Command) → command_by_format format word ≡ o → commands_in format (word ∷ (xs ++ ys)) ≡ commands_in format (word ∷ xs) ++ commands_in format ys
    by_option None e = commands_in-other format word (xs ++ ys) e ∙ h ∙ ap (λ (cs : List Command). cs ++ commands_in format ys) (sym (commands_in-other format word xs e))
    by_option (Some c) e = commands_in-command format word (xs ++ ys) c e ∙ ap (λ (cs : List Command). c ∷ cs) h ∙ ap (λ (cs : List Command). cs ++ commands_in format ys) (sym (commands_in-command format word xs c e))

pub commands_in-append : (format : ℕ) (xs ys : List ℕ) → commands_in format (xs ++ ys) ≡ commands_in format xs ++ commands_in format ys
commands_in-append format [] ys = rw (commands_in-nil format) refl
commands_in-append format (x ∷ xs) ys = commands_in-cons format x xs ys (commands_in-append format xs ys)

module _ (defaults : DefaultCodes) where
  pub last_written-append : (xs ys : List Command) (layer key : ℕ) → last_written defaults (xs ++ ys) layer key ≡ option_or (last_written defaults ys layer key) (last_written defaults xs layer key)
  unfolding last_written
  last_written-append [] ys layer key = sym (option_or-none (last_written defaults ys layer key))
  last_written-append (x ∷ xs) ys layer key =
      ap (λ (o : Option ℕ). option_or o (written defaults x layer key)) (last_written-append xs ys layer key)
      ∙ option_or-option_or (last_written defaults ys layer key) (last_written defaults xs layer key) (written defaults x layer key)

  -- no command changes nothing
  pub changed-nil : (entries : ℕ → ℕ → ℕ) (layer key : ℕ) → changed defaults entries [] layer key ≡ entries layer key
  unfolding changed last_written
  changed-nil entries layer key = refl

  -- one command writes what it writes
  pub changed-one : (entries : ℕ → ℕ → ℕ) (command : Command) (layer key : ℕ) → changed defaults entries (command ∷ []) layer key ≡ unwrap_or (written defaults command layer key) (entries layer key)
  unfolding changed last_written
  changed-one entries command layer key = refl

  -- commands after commands
  pub changed-append : (entries : ℕ → ℕ → ℕ) (xs ys : List Command) (layer key : ℕ) → changed defaults entries (xs ++ ys) layer key ≡ changed defaults (changed defaults entries xs) ys layer key
  unfolding changed
  changed-append entries xs ys layer key =
      ap (λ (o : Option ℕ). unwrap_or o (entries layer key)) (last_written-append xs ys layer key)
      ∙ unwrap_or-option_or (last_written defaults ys layer key) (last_written defaults xs layer key) (entries layer key)

  -- an entry after commands rests on that entry before them alone
  pub changed-same : (m n : ℕ → ℕ → ℕ) (commands : List Command) (layer key : ℕ) → m layer key ≡ n layer key → changed defaults m commands layer key ≡ changed defaults n commands layer key
  unfolding changed
  changed-same m n commands layer key e = ap (λ (d : ℕ). unwrap_or (last_written defaults commands layer key) d) e

  -- entries by no word are the defaults
  pub entry-nil : (format : ℕ) (layer key : ℕ) → entry_in defaults format [] layer key ≡ default_code defaults layer key
  unfolding entry_in
  entry-nil format layer key = rw (commands_in-nil format) (changed-nil (default_code defaults) layer key)

  -- words after words change the entries by their commands
  pub entry-append : (format : ℕ) (xs ys : List ℕ) (layer key : ℕ) → entry_in defaults format (xs ++ ys) layer key ≡ changed defaults (entry_in defaults format xs) (commands_in format ys) layer key
  unfolding entry_in
  entry-append format xs ys layer key =
      rw (commands_in-append format xs ys) (changed-append (default_code defaults) (commands_in format xs) (commands_in format ys) layer key)

  -- one word more
  pub entry-append_command : (format : ℕ) (words : List ℕ) (word : ℕ) (command : Command) (layer key : ℕ) → command_by_format format word ≡ Some command → entry_in defaults format (words ++ word ∷ []) layer key ≡ changed defaults (entry_in defaults format words) (command ∷ []) layer key
  entry-append_command format words word command layer key e =
      entry-append format words (word ∷ []) layer key
      ∙ ap (λ (cs : List Command). changed defaults (entry_in defaults format words) cs layer key) (commands_in-command format word [] command e ∙ ap (λ (cs : List Command). command ∷ cs) (commands_in-nil format))

  pub entry-append_other : (format : ℕ) (words : List ℕ) (word : ℕ) (layer key : ℕ) → command_by_format format word ≡ None → entry_in defaults format (words ++ word ∷ []) layer key ≡ entry_in defaults format words layer key
  entry-append_other format words word layer key e =
      entry-append format words (word ∷ []) layer key
      ∙ ap (λ (cs : List Command). changed defaults (entry_in defaults format words) cs layer key) (commands_in-other format word [] e ∙ commands_in-nil format)
      ∙ changed-nil (entry_in defaults format words) layer key

  -- a command that changes nothing leaves an entry
  pub changed-nothing : (entries : ℕ → ℕ → ℕ) (command : Command) (layer key : ℕ) → ChangesNothing defaults entries command → layer < layers → key < keys → changed defaults entries (command ∷ []) layer key ≡ entries layer key
  changed-nothing entries command layer key n l k = n.each layer key l k

  -- what is written by words, the first of them apart
  pub last_written-word : (format : ℕ) (word : ℕ) (later : List ℕ) (layer key : ℕ) → last_written defaults (commands_in format (word ∷ later)) layer key ≡ option_or (last_written defaults (commands_in format later) layer key) (written_by_word defaults format word layer key)
  unfolding last_written
  last_written-word format word later layer key = by_option (command_by_format format word) refl
    where
      by_option : (o : Option Command) → command_by_format format word ≡ o → last_written defaults (commands_in format (word ∷ later)) layer key ≡ option_or (last_written defaults (commands_in format later) layer key) (written_by_word defaults format word layer key)
      by_option None e = rw (commands_in-other format word later e, e) (sym (option_or-none (last_written defaults (commands_in format later) layer key)))
      by_option (Some c) e = rw (commands_in-command format word later c e, e) refl

  pub last_written-none : (format : ℕ) (words : List ℕ) (layer key : ℕ) → NoneWrites defaults format words layer key → last_written defaults (commands_in format words) layer key ≡ None
  unfolding last_written
  last_written-none format [] layer key n = rw (commands_in-nil format) refl
  last_written-none format (word ∷ later) layer key n =
      let first : written_by_word defaults format word layer key ≡ None = n 0 0 (omega arith) in
      let rest : NoneWrites defaults format later layer key = λ k d l. n (suc k) d (omega arith) in
      rw (last_written-word format word later layer key, last_written-none format later layer key rest, first) refl

  -- no writer: the default
  pub entry-none : (format : ℕ) (words : List ℕ) (layer key : ℕ) → NoneWrites defaults format words layer key → entry_in defaults format words layer key ≡ default_code defaults layer key
  unfolding entry_in changed
  entry-none format words layer key n = rw (last_written-none format words layer key n) refl

  -- the last writer decides
  pub entry-last : (format : ℕ) (before : List ℕ) (word : ℕ) (after : List ℕ) (layer key code : ℕ) → written_by_word defaults format word layer key ≡ Some code → NoneWrites defaults format after layer key → entry_in defaults format (before ++ word ∷ after) layer key ≡ code
  unfolding entry_in changed
  entry-last format before word after layer key code w n =
      rw (commands_in-append format before (word ∷ after), last_written-append (commands_in format before) (commands_in format (word ∷ after)) layer key, last_written-word format word after layer key, last_written-none format after layer key n, w) refl
