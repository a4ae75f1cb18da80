-- Each entry holds one of the codes that may stand there.
use Rattle.std.proofs.Common.{◌≡◌, ℕ, ◌<◌, ◌⊎◌, inl, inr, Option, Some, None, List, [], ◌∷◌, ◌++◌, refl, sym, ◌∙◌, ap, subst}
use Rattle.flash_model.specs.Sim.{SimValue}
use Rattle.layers.specs.Codes.{layers, keys, DefaultCodes}
use Rattle.layers.specs.Entries.{written, changed}
use Rattle.layers.specs.declared.command.Command.{Command}
use Rattle.layers.proofs.LastWriter.{changed-nil, changed-one, changed-append}
use Rattle.keyboard.specs.Calls.{keymap}
use Rattle.keyboard.specs.Commands.{Accepted, accepted, if_settled, settled_of, unless_failed, standing_of, commands_of}
use Rattle.keyboard.specs.Fate.{Fate, works, settled, failed}
use Rattle.keyboard.specs.Restart.{AllButLastSettled, LegalRestart, RestartsLegally}
use Rattle.keyboard.proofs.Sessions.{orderly}
use Rattle.world.specs.Acknowledged.{once_settled, codes_after, once_caught, codes_caught, start_codes, codes_at_start, codes_now, IsOneOf}
use Rattle.world.specs.History.{Session, session_with, session, flash_after, image_after, EachStep}
use Rattle.world.specs.Kinds.{Step, Kind, starts, calls, looks, kind}
use Rattle.world.specs.Conforming.{IsAnswered}
use Rattle.world.proofs.Here.{here}
use Rattle.world.proofs.Restarting.{starts_legally}

-- a cut takes no code away
more_caught : (f : Fate) (o : Option ℕ) (code : ℕ) (codes : List ℕ) → IsOneOf code codes → IsOneOf code (once_caught f o codes)
more_caught works (Some c) code codes h = inr h
more_caught works None code codes h = h
more_caught settled o code codes h = h
more_caught failed o code codes h = h

-- without a settled one among them the codes stay
unsettled_step : (f : Fate) (command : Command) (later : List Command) (o : Option ℕ) (codes : List ℕ) (rest : List ℕ → List ℕ) → if_settled f command later ≡ [] → (later ≡ [] → (cs : List ℕ) → rest cs ≡ cs)
    → rest (once_settled f o codes) ≡ codes
unsettled_step works command later o codes rest n k = k n codes
unsettled_step failed command later o codes rest n k = k n codes
unsettled_step settled command later o codes rest n k = cc

settled_or_last : (one : Accepted) (later : List Accepted) → AllButLastSettled (one ∷ later) → (one.fate ≡ settled) ⊎ (later ≡ [])
settled_or_last one [] h = inr refl
settled_or_last one (next ∷ later) h = inl h.0

settled_rest : (one : Accepted) (later : List Accepted) → AllButLastSettled (one ∷ later) → AllButLastSettled later
settled_rest one [] h = tt
settled_rest one (next ∷ later) h = h.1

none_kept : (kept lost : List Accepted) → kept ++ lost ≡ [] → (kept ≡ []) × (lost ≡ [])
none_kept [] lost e = (refl, e)
none_kept (one ∷ kept) lost e = cc

-- none of these failed
abbrev NoneFailed : List Accepted → Type 0
NoneFailed [] = Unit {0}
NoneFailed (one ∷ later) = (one.fate ≡ failed → ⊥) × NoneFailed later

unfailed_step : (one : Accepted) (f : Fate) → one.fate ≡ f → (xs : List Accepted) → NoneFailed xs → NoneFailed (unless_failed f one xs)
unfailed_step one works e xs h = (λ x. cc, h)
unfailed_step one settled e xs h = (λ x. cc, h)
unfailed_step one failed e xs h = h

none_failed : (all : List Accepted) → NoneFailed (standing_of all)
none_failed [] = tt
none_failed (one ∷ later) = unfailed_step one one.fate refl (standing_of later) (none_failed later)

-- a command that did not fail is settled, or works and is the last
kept_by : (A L : Type 0) (f : Fate) → (f ≡ failed → ⊥) → (f ≡ settled) ⊎ L → (f ≡ settled → A) → (f ≡ works → L → A) → A
kept_by A L f n (inl s) x y = x s
kept_by A L settled n (inr l) x y = x refl
kept_by A L works n (inr l) x y = y refl l
kept_by A L failed n (inr l) x y = absurd (n refl)

module _ (defaults : DefaultCodes) where
  -- what a command leaves in the entry
  one_code : (entries : ℕ → ℕ → ℕ) (command : Command) (layer key : ℕ) (codes : List ℕ) (o : Option ℕ) → written defaults command layer key ≡ o → IsOneOf (entries layer key) codes
      → IsOneOf (changed defaults entries (command ∷ []) layer key) (once_settled settled o codes)
  one_code entries command layer key codes (Some code) e h = inl (changed-one defaults entries command layer key ∙ rw e refl)
  one_code entries command layer key codes None e h =
      subst (λ (x : ℕ). IsOneOf x codes) (sym (changed-one defaults entries command layer key ∙ rw e refl)) h

  -- a command and those after it
  cons_code : (entries : ℕ → ℕ → ℕ) (command : Command) (later : List Command) (layer key : ℕ) → changed defaults entries (command ∷ later) layer key ≡ changed defaults (changed defaults entries (command ∷ [])) later layer key
  cons_code entries command later layer key = changed-append defaults entries (command ∷ []) later layer key

  -- a command and those after it, by what became of it
  fate_codes : (f : Fate) (entries : ℕ → ℕ → ℕ) (command : Command) (later : List Command) (layer key : ℕ) (codes : List ℕ) (rest : List ℕ → List ℕ) → IsOneOf (entries layer key) codes
      → ((m : ℕ → ℕ → ℕ) (cs : List ℕ) → IsOneOf (m layer key) cs → IsOneOf (changed defaults m later layer key) (rest cs))
      → IsOneOf (changed defaults entries (if_settled f command later) layer key) (rest (once_settled f (written defaults command layer key) codes))
  fate_codes works entries command later layer key codes rest h k = k entries codes h
  fate_codes failed entries command later layer key codes rest h k = k entries codes h
  fate_codes settled entries command later layer key codes rest h k =
      subst (λ (x : ℕ). IsOneOf x (rest (once_settled settled (written defaults command layer key) codes))) (sym (cons_code entries command later layer key))
      (k (changed defaults entries (command ∷ [])) (once_settled settled (written defaults command layer key) codes) (one_code entries command layer key codes (written defaults command layer key) refl h))

  -- the settled ones among commands
  settled_codes : (all : List Accepted) (entries : ℕ → ℕ → ℕ) (layer key : ℕ) (codes : List ℕ) → IsOneOf (entries layer key) codes
      → IsOneOf (changed defaults entries (settled_of all) layer key) (codes_after defaults layer key codes all)
  settled_codes [] entries layer key codes h = subst (λ (x : ℕ). IsOneOf x codes) (sym (changed-nil defaults entries layer key)) h
  settled_codes (one ∷ later) entries layer key codes h =
      fate_codes one.fate entries one.command (settled_of later) layer key codes (λ cs. codes_after defaults layer key cs later) h (λ m cs i. settled_codes later m layer key cs i)

  -- those that failed leave the codes as they are
  standing_step : (one : Accepted) (f : Fate) → one.fate ≡ f → (xs later : List Accepted) (layer key : ℕ) (codes : List ℕ) → ((cs : List ℕ) → codes_after defaults layer key cs xs ≡ codes_after defaults layer key cs later)
      → codes_after defaults layer key codes (unless_failed f one xs) ≡ codes_after defaults layer key (once_settled f (written defaults one.command layer key) codes) later
  standing_step one works e xs later layer key codes k = rw e (k codes)
  standing_step one settled e xs later layer key codes k = rw e (k (once_settled settled (written defaults one.command layer key) codes))
  standing_step one failed e xs later layer key codes k = k codes

  codes_standing : (all : List Accepted) (layer key : ℕ) (codes : List ℕ) → codes_after defaults layer key codes (standing_of all) ≡ codes_after defaults layer key codes all
  codes_standing [] layer key codes = refl
  codes_standing (one ∷ later) layer key codes = standing_step one one.fate refl (standing_of later) later layer key codes (λ cs. codes_standing later layer key cs)

  caught_step : (one : Accepted) (f : Fate) → one.fate ≡ f → (xs later : List Accepted) (layer key : ℕ) (codes : List ℕ) → ((cs : List ℕ) → codes_caught defaults layer key cs xs ≡ codes_caught defaults layer key cs later)
      → codes_caught defaults layer key codes (unless_failed f one xs) ≡ codes_caught defaults layer key (once_caught f (written defaults one.command layer key) codes) later
  caught_step one works e xs later layer key codes k = rw e (k (once_caught works (written defaults one.command layer key) codes))
  caught_step one settled e xs later layer key codes k = rw e (k codes)
  caught_step one failed e xs later layer key codes k = k codes

  caught_standing : (all : List Accepted) (layer key : ℕ) (codes : List ℕ) → codes_caught defaults layer key codes (standing_of all) ≡ codes_caught defaults layer key codes all
  caught_standing [] layer key codes = refl
  caught_standing (one ∷ later) layer key codes = caught_step one one.fate refl (standing_of later) later layer key codes (λ cs. caught_standing later layer key cs)

  all_caught : (all : List Accepted) (layer key code : ℕ) (codes : List ℕ) → IsOneOf code codes → IsOneOf code (codes_caught defaults layer key codes all)
  all_caught [] layer key code codes h = h
  all_caught (one ∷ later) layer key code codes h = all_caught later layer key code (once_caught one.fate (written defaults one.command layer key) codes) (more_caught one.fate (written defaults one.command layer key) code codes h)

  none_settled : (all : List Accepted) (layer key : ℕ) (codes : List ℕ) → settled_of all ≡ [] → codes_after defaults layer key codes all ≡ codes
  none_settled [] layer key codes n = refl
  none_settled (one ∷ later) layer key codes n =
      unsettled_step one.fate one.command (settled_of later) (written defaults one.command layer key) codes (λ cs. codes_after defaults layer key cs later) n (λ m cs. none_settled later layer key cs m)

  -- a command that a cut caught, kept
  caught_code : (entries : ℕ → ℕ → ℕ) (command : Command) (layer key : ℕ) (codes : List ℕ) (o : Option ℕ) → written defaults command layer key ≡ o → IsOneOf (entries layer key) codes
      → IsOneOf (changed defaults entries (command ∷ []) layer key) (once_caught works o codes)
  caught_code entries command layer key codes (Some code) e h = inl (changed-one defaults entries command layer key ∙ rw e refl)
  caught_code entries command layer key codes None e h =
      subst (λ (x : ℕ). IsOneOf x codes) (sym (changed-one defaults entries command layer key ∙ rw e refl)) h

  -- a kept prefix of commands that did not fail
  kept_codes : (kept lost : List Accepted) (entries : ℕ → ℕ → ℕ) (layer key : ℕ) (codes : List ℕ) → NoneFailed (kept ++ lost) → AllButLastSettled (kept ++ lost) → settled_of lost ≡ [] → IsOneOf (entries layer key) codes
      → IsOneOf (changed defaults entries (commands_of kept) layer key) (codes_caught defaults layer key (codes_after defaults layer key codes (kept ++ lost)) (kept ++ lost))
  kept_codes [] lost entries layer key codes s a n h =
      subst (λ (x : ℕ). IsOneOf x (codes_caught defaults layer key (codes_after defaults layer key codes lost) lost)) (sym (changed-nil defaults entries layer key))
      (all_caught lost layer key (entries layer key) (codes_after defaults layer key codes lost) (subst (λ (xs : List ℕ). IsOneOf (entries layer key) xs) (sym (none_settled lost layer key codes n)) h))
  kept_codes (one ∷ kept) lost entries layer key codes s a n h =
      kept_by (IsOneOf (changed defaults entries (commands_of (one ∷ kept)) layer key) (codes_caught defaults layer key (codes_after defaults layer key codes (one ∷ (kept ++ lost))) (one ∷ (kept ++ lost)))) (kept ++ lost ≡ [])
      one.fate s.0 (settled_or_last one (kept ++ lost) a)
      (λ e. rw e (subst (λ (x : ℕ). IsOneOf x (codes_caught defaults layer key (codes_after defaults layer key (once_settled settled (written defaults one.command layer key) codes) (kept ++ lost)) (kept ++ lost)))
      (sym (cons_code entries one.command (commands_of kept) layer key))
      (kept_codes kept lost (changed defaults entries (one.command ∷ [])) layer key (once_settled settled (written defaults one.command layer key) codes) s.1 (settled_rest one (kept ++ lost) a) n
      (one_code entries one.command layer key codes (written defaults one.command layer key) refl h))))
      (λ e none. let parts = none_kept kept lost none in
      rw (e, none, parts.0) (caught_code entries one.command layer key codes (written defaults one.command layer key) refl h))

  -- so a legal restart finds one of the codes that may stand there after a cut
  restart_code : (all : List Accepted) (entries next : ℕ → ℕ → ℕ) (layer key : ℕ) (codes : List ℕ) → layer < layers → key < keys → LegalRestart defaults entries all next → IsOneOf (entries layer key) codes
      → IsOneOf (next layer key) (codes_caught defaults layer key (codes_after defaults layer key codes all) all)
  restart_code all entries next layer key codes l k r h =
      let C : List Accepted → Type 0 = λ (xs : List Accepted). IsOneOf (changed defaults entries (commands_of r.kept) layer key) (codes_caught defaults layer key (codes_after defaults layer key codes xs) xs) in
      let kept = kept_codes r.kept r.lost entries layer key codes (subst NoneFailed (sym r.prefix) (none_failed all)) (subst AllButLastSettled (sym r.prefix) r.at_most_last) r.holds_settled h in
      let standing : C (standing_of all) = subst C r.prefix kept in
      let same : codes_caught defaults layer key (codes_after defaults layer key codes (standing_of all)) (standing_of all) ≡ codes_caught defaults layer key (codes_after defaults layer key codes all) all
      = ap (λ (xs : List ℕ). codes_caught defaults layer key xs (standing_of all)) (codes_standing all layer key codes) ∙ caught_standing all layer key (codes_after defaults layer key codes all) in
      subst (λ (x : ℕ). IsOneOf x (codes_caught defaults layer key (codes_after defaults layer key codes all) all)) (sym (r.changed_by layer key l k))
      (subst (λ (xs : List ℕ). IsOneOf (changed defaults entries (commands_of r.kept) layer key) xs) same standing)

  -- the entry at the latest start
  at_kind : (k : Kind) (now : Session) (image : List ℕ) (layer key : ℕ) (codes : List ℕ) → layer < layers → key < keys → (k ≡ starts → RestartsLegally defaults now.first now.past image)
      → IsOneOf (keymap defaults now.first layer key) codes → IsOneOf (keymap defaults (session_with k image now).first layer key) (start_codes defaults k now layer key codes)
  at_kind starts now image layer key codes l k legal h = restart_code (accepted defaults now.first now.past) (keymap defaults now.first) (keymap defaults image) layer key codes l k (legal refl) h
  at_kind (calls call) now image layer key codes l k legal h = h
  at_kind looks now image layer key codes l k legal h = h

  at_start : (start : SimValue) (history : List Step) (layer key : ℕ) → layer < layers → key < keys → EachStep (IsAnswered defaults) start history
      → IsOneOf (keymap defaults (session start history).first layer key) (codes_at_start defaults start history layer key)
  at_start start [] layer key l k h = inl refl
  at_start start (step ∷ before) layer key l k h =
      at_kind (kind step) (session start before) step.flash.image layer key (codes_at_start defaults start before layer key) l k ((starts_legally defaults start (step ∷ before) h).0) (at_start start before layer key l k h.1)

  pub holds_allowed : (start : SimValue) (history : List Step) → EachStep (IsAnswered defaults) start history → (layer key : ℕ) → layer < layers → key < keys
      → IsOneOf (keymap defaults (image_after start history) layer key) (codes_now defaults start history layer key)
  holds_allowed start history h layer key l k =
      let now : Session = session start history in
      let there = here defaults start history h in
      let shown : keymap defaults (flash_after start history).image layer key ≡ changed defaults (keymap defaults now.first) (settled_of (accepted defaults now.first now.past)) layer key
      = ap (λ (image : List ℕ). keymap defaults image layer key) (sym there.image) ∙ (orderly defaults now.first now.past there.conforming).kept layer key l k in
      subst (λ (x : ℕ). IsOneOf x (codes_now defaults start history layer key)) (sym shown)
      (settled_codes (accepted defaults now.first now.past) (keymap defaults now.first) layer key (codes_at_start defaults start history layer key) (at_start start history layer key l k h))
