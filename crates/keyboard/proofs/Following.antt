-- What the host was told is stored stays stored over all sessions, and each restart is legal.
use Rattle.std.proofs.Common.{◌≡◌, ℕ, ◌<◌, ◌⊎◌, inl, inr, Option, Some, None, List, [], ◌∷◌, ◌++◌, ap, sym, ◌∙◌, subst}
use Rattle.std.specs.Option.{option_or}
use Rattle.std.proofs.lemmas.List.{append-nil}
use Rattle.layers.specs.Codes.{layers, keys, DefaultCodes}
use Rattle.layers.specs.Entries.{written, changed}
use Rattle.layers.specs.declared.command.Command.{Command}
use Rattle.layers.proofs.LastWriter.{changed-nil, changed-one, changed-append}
use Rattle.keymap_store.specs.Keymap.{SameEntries}
use Rattle.keyboard.specs.Acknowledged.{DoesNotWrite, NoneAcceptedWrites}
use Rattle.keyboard.specs.Calls.{Call, image_after, keymap, EachCall}
use Rattle.keyboard.specs.Commands.{Accepted, accepts, accepted, accepted_before, accepted_with, if_settled, settled_of, if_works, working, working_of}
use Rattle.keyboard.specs.Conforming.{IsAnswered}
use Rattle.keyboard.specs.Fate.{Fate, works, settled, failed}
use Rattle.keyboard.specs.Restart.{RestartsLegally}
use Rattle.keyboard.specs.Sessions.{Session, MayLeave, between, inside, Follow, IsAcknowledged}
use Rattle.keyboard.proofs.Restarting.{restarts_legally}
use Rattle.keyboard.proofs.Sessions.{orderly}
use Rattle.keyboard.proofs.Telling.{Stored, stays_stored}
use Rattle.keyboard.proofs.Working.{cut_legal}

module _ (defaults : DefaultCodes) where
  -- none of a session's commands writes the entry
  abbrev pub NoneWrites : List Call → ℕ → ℕ → Type 0
  NoneWrites [] layer key = Unit {0}
  NoneWrites (call ∷ before) layer key = DoesNotWrite defaults layer key (accepts before call) × NoneWrites before layer key

  abbrev AllLeave : List Accepted → ℕ → ℕ → Type 0
  AllLeave [] layer key = Unit {0}
  AllLeave (one ∷ later) layer key = (written defaults one.command layer key ≡ None) × AllLeave later layer key

  AllLeave-append : (xs ys : List Accepted) (layer key : ℕ) → AllLeave xs layer key → AllLeave ys layer key → AllLeave (xs ++ ys) layer key
  AllLeave-append [] ys layer key h k = k
  AllLeave-append (one ∷ xs) ys layer key h k = (h.0, AllLeave-append xs ys layer key h.1 k)

  with_left : (entries : ℕ → ℕ → ℕ) (after : List Call) (o : Option Command) (layer key : ℕ) → DoesNotWrite defaults layer key o → AllLeave (accepted_with defaults entries after o) layer key
  with_left entries after None layer key l = tt
  with_left entries after (Some command) layer key l = (l, tt)

  before_left : (first : List ℕ) (after past : List Call) (layer key : ℕ) → NoneWrites past layer key → AllLeave (accepted_before defaults first after past) layer key
  before_left first after [] layer key n = tt
  before_left first after (call ∷ before) layer key n =
      AllLeave-append (accepted_before defaults first (after ++ call ∷ []) before) (accepted_with defaults (keymap defaults (image_after first before)) after (accepts before call)) layer key
      (before_left first (after ++ call ∷ []) before layer key n.1) (with_left (keymap defaults (image_after first before)) after (accepts before call) layer key n.0)

  all_left : (first : List ℕ) (past : List Call) (layer key : ℕ) → NoneWrites past layer key → AllLeave (accepted defaults first past) layer key
  unfolding accepted
  all_left first past layer key n = before_left first [] past layer key n

  -- the settled ones among them, on top of any keymap that has the code
  settled_left : (f : Fate) (entries : ℕ → ℕ → ℕ) (command : Command) (later : List Command) (layer key code : ℕ) → written defaults command layer key ≡ None → entries layer key ≡ code
      → ((m : ℕ → ℕ → ℕ) → m layer key ≡ code → changed defaults m later layer key ≡ code) → changed defaults entries (if_settled f command later) layer key ≡ code
  settled_left works entries command later layer key code w e k = k entries e
  settled_left failed entries command later layer key code w e k = k entries e
  settled_left settled entries command later layer key code w e k =
      changed-append defaults entries (command ∷ []) later layer key ∙ k (changed defaults entries (command ∷ [])) (changed-one defaults entries command layer key ∙ rw w e)

  left_code : (all : List Accepted) (entries : ℕ → ℕ → ℕ) (layer key code : ℕ) → AllLeave all layer key → entries layer key ≡ code → changed defaults entries (settled_of all) layer key ≡ code
  left_code [] entries layer key code h e = changed-nil defaults entries layer key ∙ e
  left_code (one ∷ later) entries layer key code h e =
      settled_left one.fate entries one.command (settled_of later) layer key code h.0 e (λ m i. left_code later m layer key code h.1 i)

  -- nor does the one that works
  one_left : (f : Fate) (w : Option Command) (command : Command) (layer key : ℕ) → written defaults command layer key ≡ None → DoesNotWrite defaults layer key w → DoesNotWrite defaults layer key (option_or w (if_works f command))
  one_left f (Some other) command layer key n k = k
  one_left works None command layer key n k = n
  one_left settled None command layer key n k = tt
  one_left failed None command layer key n k = tt

  work_left : (all : List Accepted) (layer key : ℕ) → AllLeave all layer key → DoesNotWrite defaults layer key (working_of all)
  work_left [] layer key h = tt
  work_left (one ∷ later) layer key h = one_left one.fate (working_of later) one.command layer key h.0 (work_left later layer key h.1)

  -- a session none of whose commands writes the entry keeps its code
  pub kept_in_session : (first : List ℕ) (past : List Call) (layer key code : ℕ) → layer < layers → key < keys → EachCall (IsAnswered defaults) first past → NoneWrites past layer key → keymap defaults first layer key ≡ code
      → Stored defaults first past layer key code
  unfolding working
  kept_in_session first past layer key code l k h n e =
      let left : AllLeave (accepted defaults first past) layer key = all_left first past layer key n in
      record {
        entry_is = (orderly defaults first past h).kept layer key l k ∙ left_code (accepted defaults first past) (keymap defaults first) layer key code left e;
        left_alone = work_left (accepted defaults first past) layer key left;
      }

  pub none_writes : (past : List Call) (layer key : ℕ) → NoneAcceptedWrites defaults past [] layer key → NoneWrites past layer key
  none_writes [] layer key n = tt
  none_writes (call ∷ before) layer key n = (subst (λ (xs : List Call). DoesNotWrite defaults layer key (accepts xs call)) (append-nil before) n.0, none_writes before layer key n.1)

  -- so does a power loss
  cut_keeps : (start : List ℕ) (past : List Call) (image : List ℕ) (command : Command) (layer key code : ℕ) → layer < layers → key < keys → working defaults start past ≡ Some command → Stored defaults start past layer key code
      → SameEntries (keymap defaults image) (keymap defaults (image_after start past)) ⊎ SameEntries (keymap defaults image) (changed defaults (keymap defaults (image_after start past)) (command ∷ []))
      → keymap defaults image layer key ≡ code
  cut_keeps start past image command layer key code l k w s (inl e) = e layer key l k ∙ s.entry_is
  cut_keeps start past image command layer key code l k w s (inr e) =
      let none : written defaults command layer key ≡ None = (let P : Option Command → Type 0 = λ o. DoesNotWrite defaults layer key o in subst P w s.left_alone) in
      e layer key l k ∙ changed-one defaults (keymap defaults (image_after start past)) command layer key ∙ rw none s.entry_is

  pub loss_keeps : (start : List ℕ) (past : List Call) (image : List ℕ) (layer key code : ℕ) → layer < layers → key < keys → MayLeave defaults start past image → Stored defaults start past layer key code → keymap defaults image layer key ≡ code
  loss_keeps start past image layer key code l k (between e) s = ap (λ (i : List ℕ). keymap defaults i layer key) e ∙ s.entry_is
  loss_keeps start past image layer key code l k (inside work new i m) s = cut_keeps start past image m.command layer key code l k m.works_on s (m.step.cut image i m.is_such).1

  -- what was acknowledged, in whichever session, is what the flash says
  stored_over : (now : Session) (earlier : List Session) (layer key code : ℕ) → layer < layers → key < keys → Follow defaults (now ∷ earlier) → IsAcknowledged defaults (now ∷ earlier) layer key code
      → Stored defaults now.first now.past layer key code
  stored_over now earlier layer key code l k h (inl a) = stays_stored defaults now.first now.past h.0 layer key code a
  stored_over now [] layer key code l k h (inr (n, a)) = absurd a
  stored_over now (before ∷ earlier) layer key code l k h (inr (n, a)) =
      kept_in_session now.first now.past layer key code l k h.0 (none_writes now.past layer key n)
      (loss_keeps before.first before.past now.first layer key code l k h.1 (stored_over before earlier layer key code l k h.2 a))

  pub acknowledged_over : (now : Session) (earlier : List Session) (layer key code : ℕ) → layer < layers → key < keys → Follow defaults (now ∷ earlier) → IsAcknowledged defaults (now ∷ earlier) layer key code
      → keymap defaults (image_after now.first now.past) layer key ≡ code
  acknowledged_over now earlier layer key code l k h a = (stored_over now earlier layer key code l k h a).entry_is

  -- each restart is legal
  pub restarts_after : (start : List ℕ) (past : List Call) (image : List ℕ) → EachCall (IsAnswered defaults) start past → MayLeave defaults start past image → RestartsLegally defaults start past image
  restarts_after start past image h (between e) = subst (λ (i : List ℕ). RestartsLegally defaults start past i) (sym e) (restarts_legally defaults start past h)
  restarts_after start past image h (inside work new i m) = cut_legal defaults start past m.command image h m.works_on (m.step.cut image i m.is_such).1
