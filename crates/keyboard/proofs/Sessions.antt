-- What holds of a session while each call is answered as it has to be.
use Rattle.std.proofs.Common.{◌≡◌, ℕ, Bool, true, false, if◌then◌else◌, is_some, Option, Some, None, List, [], ◌∷◌, ◌++◌, map, refl, ap, sym, ◌∙◌, subst}
use Rattle.std.proofs.lemmas.List.{map-append, append-nil}
use Rattle.layers.specs.Codes.{DefaultCodes}
use Rattle.layers.specs.Entries.{changed}
use Rattle.layers.specs.Keymaps.{HasEntries}
use Rattle.layers.specs.declared.command.Command.{Command}
use Rattle.layers.proofs.LastWriter.{changed-nil, changed-append, changed-same}
use Rattle.keymap_store.specs.Keymap.{SameEntries}
use Rattle.keyboard.specs.Calls.{Call, image_after, keymap, EachCall}
use Rattle.keyboard.specs.Fate.{Fate, works, settled, failed, fate, changes, ended_by}
use Rattle.keyboard.specs.Commands.{Accepted, accepted, accepts, working, working_of, if_works, if_settled, settled_of}
use Rattle.keyboard.specs.Conforming.{IsAnswered}
use Rattle.keyboard.proofs.Accepting.{end_with, EndsNone, map-end_none, accepted-more, accepted-same, ended_by-settled, ended_by-failed}
use Rattle.keyboard.proofs.Changing.{changes-false}
use Rattle.keyboard.proofs.Effects.{Effect, stays, takes, settles, fails, effect}

-- each of these commands has ended
abbrev pub AllEnded : List Accepted → Type 0
AllEnded [] = Unit {0}
AllEnded (one ∷ later) = (one.fate ≡ works → ⊥) × AllEnded later

-- they have all ended, or all but the last, which works
pub data Shape (all : List Accepted) : Option Command → Type 0 where
  at_rest : AllEnded all → Shape all None
  at_work : (front : List Accepted) (command : Command) → all ≡ front ++ (record { command = command; fate = works }) ∷ [] → AllEnded front → Shape all (Some command)

working_of-at_work : (front : List Accepted) (command : Command) → working_of (front ++ (record { command = command; fate = works }) ∷ []) ≡ Some command
working_of-at_work [] command = refl
working_of-at_work (one ∷ front) command = rw (working_of-at_work front command) refl

if_works-ended : (f : Fate) (command : Command) → (f ≡ works → ⊥) → if_works f command ≡ None
if_works-ended works command n = absurd (n refl)
if_works-ended settled command n = refl
if_works-ended failed command n = refl

working_of-ended : (all : List Accepted) → AllEnded all → working_of all ≡ None
working_of-ended [] h = refl
working_of-ended (one ∷ later) h = rw (working_of-ended later h.1) (if_works-ended one.fate one.command h.0)

-- the shape says which command works
pub working_of-shape : (all : List Accepted) (w : Option Command) → Shape all w → working_of all ≡ w
working_of-shape all w (at_rest h) = working_of-ended all h
working_of-shape all w (at_work front command e h) = rw e (working_of-at_work front command)

if_settled-append : (f : Fate) (command : Command) (xs ys : List Command) → if_settled f command (xs ++ ys) ≡ if_settled f command xs ++ ys
if_settled-append works command xs ys = refl
if_settled-append settled command xs ys = refl
if_settled-append failed command xs ys = refl

pub settled_of-append : (xs ys : List Accepted) → settled_of (xs ++ ys) ≡ settled_of xs ++ settled_of ys
settled_of-append [] ys = refl
settled_of-append (one ∷ xs) ys =
    ap (λ (cs : List Command). if_settled one.fate one.command cs) (settled_of-append xs ys)
    ∙ if_settled-append one.fate one.command (settled_of xs) (settled_of ys)

AllEnded-append : (xs ys : List Accepted) → AllEnded xs → AllEnded ys → AllEnded (xs ++ ys)
AllEnded-append [] ys h k = k
AllEnded-append (one ∷ xs) ys h k = (h.0, AllEnded-append xs ys h.1 k)

at_rest_ended : (all : List Accepted) (w : Option Command) → Shape all w → (is_some w ≡ true → ⊥) → AllEnded all
at_rest_ended all w (at_rest h) n = h
at_rest_ended all w (at_work front command e h) n = absurd (n refl)

settled_not_works : settled ≡ works → ⊥
settled_not_works e = cc

failed_not_works : failed ≡ works → ⊥
failed_not_works e = cc

module _ (defaults : DefaultCodes) where
  ended_by-ended : (call : Call) (f : Fate) → (f ≡ works → ⊥) → ended_by defaults call f ≡ f
  ended_by-ended call works n = absurd (n refl)
  ended_by-ended call settled n = ended_by-settled defaults call
  ended_by-ended call failed n = ended_by-failed defaults call

  map-ended : (call : Call) (xs : List Accepted) → AllEnded xs → map (end_with defaults call) xs ≡ xs
  map-ended call [] h = refl
  map-ended call (one ∷ xs) h =
      ap (λ (f : Fate). let x : Accepted = record { command = one.command; fate = f } in x ∷ map (end_with defaults call) xs) (ended_by-ended call one.fate h.0)
      ∙ ap (λ (ys : List Accepted). one ∷ ys) (map-ended call xs h.1)

  -- the flash holds the keymap of the start changed by the settled commands
  abbrev Kept : List ℕ → List ℕ → List Accepted → Type 0
  Kept image start all = SameEntries (keymap defaults image) (changed defaults (keymap defaults start) (settled_of all))

  -- the commands have ended but for the one that works, and the flash holds the keymap of the start changed by the
  -- settled ones
  pub record Orderly (start : List ℕ) (past : List Call) : Type 0 where
    pub shape : Shape (accepted defaults start past) (working defaults start past)
    pub kept : SameEntries (keymap defaults (image_after start past)) (changed defaults (keymap defaults start) (settled_of (accepted defaults start past)))

  -- what the commands are after a call, and which one works
  pub record After (start : List ℕ) (before : List Call) (call : Call) (w : Option Command) : Type 0 where
    all : List Accepted
    is : accepted defaults start (call ∷ before) ≡ all
    shape : Shape all w
    kept : Kept (image_after start (call ∷ before)) start all

  pub orderly_after : (start : List ℕ) (before : List Call) (call : Call) (w : Option Command) → After start before call w → Orderly start (call ∷ before)
  unfolding working
  orderly_after start before call w h =
      let shape : Shape h.all (working_of h.all) = subst (λ (o : Option Command). Shape h.all o) (sym (working_of-shape h.all w h.shape)) h.shape in
      record {
        shape = subst (λ (xs : List Accepted). Shape xs (working_of xs)) (sym h.is) shape;
        kept = subst (λ (xs : List Accepted). Kept (image_after start (call ∷ before)) start xs) (sym h.is) h.kept;
      }

  pub working_after : (start : List ℕ) (before : List Call) (call : Call) (w : Option Command) → After start before call w → working defaults start (call ∷ before) ≡ w
  unfolding working
  working_after start before call w h = ap working_of h.is ∙ working_of-shape h.all w h.shape

  pub after_stays : (start : List ℕ) (before : List Call) (call : Call) → Orderly start before → EndsNone defaults call → accepts before call ≡ None
      → SameEntries (keymap defaults (image_after start (call ∷ before))) (keymap defaults (image_after start before)) → After start before call (working defaults start before)
  after_stays start before call o k n e =
      record { all = accepted defaults start before; is = accepted-same defaults start call before k n; shape = o.shape; kept = λ layer key l h. e layer key l h ∙ o.kept layer key l h }

  -- it changes something and works, or changes nothing
  pub data AfterTaken (start : List ℕ) (before : List Call) (call : Call) (command : Command) : Type 0 where
    now_works : changes defaults (keymap defaults (image_after start before)) command ≡ true → After start before call (Some command) → AfterTaken start before call command
    changed_nothing : changes defaults (keymap defaults (image_after start before)) command ≡ false → After start before call None → AfterTaken start before call command

  orderly_taken : (start : List ℕ) (before : List Call) (call : Call) (command : Command) → AfterTaken start before call command → Orderly start (call ∷ before)
  orderly_taken start before call command (now_works c h) = orderly_after start before call (Some command) h
  orderly_taken start before call command (changed_nothing c h) = orderly_after start before call None h

  fate_now : (entries : ℕ → ℕ → ℕ) (command : Command) (b : Bool) → changes defaults entries command ≡ b → fate defaults entries command [] ≡ (if b then works else settled)
  fate_now entries command b e = rw e refl

  -- a command that is accepted works, or is settled at once
  pub after_takes : (start : List ℕ) (before : List Call) (call : Call) (command : Command) → Orderly start before
      → EndsNone defaults call → accepts before call ≡ Some command → image_after start (call ∷ before) ≡ image_after start before
      → (is_some (working defaults start before) ≡ true → ⊥) → AfterTaken start before call command
  after_takes start before call command o k a e n = by_change (changes defaults (keymap defaults (image_after start before)) command) refl
    where
      ended : AllEnded (accepted defaults start before)
      ended = at_rest_ended (accepted defaults start before) (working defaults start before) o.shape n

      more : (f : Fate) → fate defaults (keymap defaults (image_after start before)) command [] ≡ f → accepted defaults start (call ∷ before) ≡ accepted defaults start before ++ (record { command = command; fate = f }) ∷ []
      more f is =
          accepted-more defaults start call before
          ∙ rw (a, map-end_none defaults call k (accepted defaults start before), is) refl

      by_change : (b : Bool) → changes defaults (keymap defaults (image_after start before)) command ≡ b → AfterTaken start before call command
      by_change true c =
          now_works c (record {
            all = accepted defaults start before ++ (record { command = command; fate = works }) ∷ [];
            is = more works (fate_now (keymap defaults (image_after start before)) command true c);
            shape = at_work (accepted defaults start before) command refl ended;
            kept =
                λ layer key l h. rw (e, settled_of-append (accepted defaults start before) ((record { command = command; fate = works }) ∷ []), append-nil (settled_of (accepted defaults start before))) (o.kept layer key l h);
          })
      by_change false c =
          changed_nothing c (record {
            all = accepted defaults start before ++ (record { command = command; fate = settled }) ∷ [];
            is = more settled (fate_now (keymap defaults (image_after start before)) command false c);
            shape = at_rest (AllEnded-append (accepted defaults start before) ((record { command = command; fate = settled }) ∷ []) ended (settled_not_works, tt));
            kept =
                λ layer key l h.
                let appended : settled_of (accepted defaults start before ++ (record { command = command; fate = settled }) ∷ []) ≡ settled_of (accepted defaults start before) ++ command ∷ [] = settled_of-append (accepted defaults start before) ((record { command = command; fate = settled }) ∷ []) in
                rw (e, appended)
                (sym (changes-false defaults (keymap defaults (image_after start before)) command c layer key l h)
                ∙ changed-same defaults (keymap defaults (image_after start before)) (changed defaults (keymap defaults start) (settled_of (accepted defaults start before))) (command ∷ []) layer key (o.kept layer key l h)
                ∙ sym (changed-append defaults (keymap defaults start) (settled_of (accepted defaults start before)) (command ∷ []) layer key));
          })

  -- the commands while one works: those before it have ended
  pub record AtWork (start : List ℕ) (past : List Call) (command : Command) : Type 0 where
    pub front : List Accepted
    pub were : accepted defaults start past ≡ front ++ (record { command = command; fate = works }) ∷ []
    pub ended : AllEnded front
    pub kept : SameEntries (keymap defaults (image_after start past)) (changed defaults (keymap defaults start) (settled_of front))

  at_work_by : (start : List ℕ) (past : List Call) (command : Command) (all : List Accepted) (was : Option Command) → accepted defaults start past ≡ all → was ≡ Some command → Shape all was
      → Kept (image_after start past) start all → AtWork start past command
  at_work_by start past command all was is some (at_rest h) kept = cc
  at_work_by start past command all was is some (at_work front c shape ended) kept =
      let one : Accepted = record { command = command; fate = works } in
      let same : c ≡ command = cc in
      let there : all ≡ front ++ one ∷ [] = shape ∙ ap (λ (x : Command). front ++ (record { command = x; fate = works }) ∷ []) same in
      let settled_then : settled_of all ≡ settled_of front = rw there (settled_of-append front (one ∷ []) ∙ append-nil (settled_of front)) in
      record { front = front; were = is ∙ there; ended = ended; kept = subst (λ (cs : List Command). SameEntries (keymap defaults (image_after start past)) (changed defaults (keymap defaults start) cs)) settled_then kept }

  pub while_working : (start : List ℕ) (past : List Call) (command : Command) → Orderly start past → working defaults start past ≡ Some command → AtWork start past command
  while_working start past command o w = at_work_by start past command (accepted defaults start past) (working defaults start past) refl w o.shape o.kept

  -- the keymap changed by the working command
  pub changed_by_working : (start : List ℕ) (before : List Call) (command : Command) (image : List ℕ) (w : AtWork start before command)
      → SameEntries (keymap defaults image) (changed defaults (keymap defaults (image_after start before)) (command ∷ []))
      → SameEntries (keymap defaults image) (changed defaults (keymap defaults start) (settled_of w.front ++ command ∷ []))
  changed_by_working start before command image w e layer key l k =
      e layer key l k
      ∙ changed-same defaults (keymap defaults (image_after start before)) (changed defaults (keymap defaults start) (settled_of w.front)) (command ∷ []) layer key (w.kept layer key l k)
      ∙ sym (changed-append defaults (keymap defaults start) (settled_of w.front) (command ∷ []) layer key)

  -- the commands once the working one has ended
  ended_list : (start : List ℕ) (before : List Call) (call : Call) (command : Command) (f : Fate) (w : AtWork start before command)
      → accepts before call ≡ None → ended_by defaults call works ≡ f → accepted defaults start (call ∷ before) ≡ w.front ++ (record { command = command; fate = f }) ∷ []
  ended_list start before call command f w n e =
      let one : Accepted = record { command = command; fate = works } in
      accepted-more defaults start call before
      ∙ rw (n, w.were) (append-nil (map (end_with defaults call) (w.front ++ one ∷ []))
      ∙ map-append (end_with defaults call) w.front (one ∷ [])
      ∙ ap (λ (xs : List Accepted). xs ++ (record { command = command; fate = ended_by defaults call works }) ∷ []) (map-ended call w.front w.ended)
      ∙ ap (λ (x : Fate). w.front ++ (record { command = command; fate = x }) ∷ []) e)

  -- the step of the flash work that settles the working command
  pub after_settles : (start : List ℕ) (before : List Call) (call : Call) (command : Command) → Orderly start before
      → ended_by defaults call works ≡ settled → accepts before call ≡ None → working defaults start before ≡ Some command
      → SameEntries (keymap defaults (image_after start (call ∷ before))) (changed defaults (keymap defaults (image_after start before)) (command ∷ [])) → After start before call None
  after_settles start before call command o a n w e =
      let was : AtWork start before command = while_working start before command o w in
      let done : Accepted = record { command = command; fate = settled } in
      let settled_now : settled_of (was.front ++ done ∷ []) ≡ settled_of was.front ++ command ∷ [] = settled_of-append was.front (done ∷ []) in
      record {
        all = was.front ++ done ∷ [];
        is = ended_list start before call command settled was n a;
        shape = at_rest (AllEnded-append was.front (done ∷ []) was.ended (settled_not_works, tt));
        kept = subst (λ (cs : List Command). SameEntries (keymap defaults (image_after start (call ∷ before))) (changed defaults (keymap defaults start) cs)) (sym settled_now) (changed_by_working start before command (image_after start (call ∷ before)) was e);
      }

  -- the step of the flash work that fails it
  pub after_fails : (start : List ℕ) (before : List Call) (call : Call) (command : Command) → Orderly start before
      → ended_by defaults call works ≡ failed → accepts before call ≡ None → working defaults start before ≡ Some command
      → SameEntries (keymap defaults (image_after start (call ∷ before))) (keymap defaults (image_after start before)) → After start before call None
  after_fails start before call command o a n w e =
      let was : AtWork start before command = while_working start before command o w in
      let gone : Accepted = record { command = command; fate = failed } in
      let settled_now : settled_of (was.front ++ gone ∷ []) ≡ settled_of was.front = settled_of-append was.front (gone ∷ []) ∙ append-nil (settled_of was.front) in
      record {
        all = was.front ++ gone ∷ [];
        is = ended_list start before call command failed was n a;
        shape = at_rest (AllEnded-append was.front (gone ∷ []) was.ended (failed_not_works, tt));
        kept =
            subst (λ (cs : List Command). SameEntries (keymap defaults (image_after start (call ∷ before))) (changed defaults (keymap defaults start) cs)) (sym settled_now)
            (λ layer key l k. e layer key l k ∙ was.kept layer key l k);
      }

  -- a session that begins
  pub orderly_start : (start : List ℕ) → Orderly start []
  unfolding accepted working
  orderly_start start = record { shape = at_rest tt; kept = λ layer key l k. sym (changed-nil defaults (keymap defaults start) layer key) }

  -- a call more
  orderly_more : (start : List ℕ) (before : List Call) (call : Call) → Orderly start before → Effect defaults start before call → Orderly start (call ∷ before)
  orderly_more start before call o (stays k n e) = orderly_after start before call (working defaults start before) (after_stays start before call o k n e)
  orderly_more start before call o (takes command k a e n) = orderly_taken start before call command (after_takes start before call command o k a e n)
  orderly_more start before call o (settles command a n w e) = orderly_after start before call None (after_settles start before call command o a n w e)
  orderly_more start before call o (fails command a n w e) = orderly_after start before call None (after_fails start before call command o a n w e)

  -- a session in which each call is answered is orderly
  pub orderly : (start : List ℕ) (past : List Call) → EachCall (IsAnswered defaults) start past → Orderly start past
  orderly start [] h = orderly_start start
  orderly start (call ∷ before) h = orderly_more start before call (orderly start before h.1) (effect defaults start before call h.0)

  -- a keymap of the flash is that of the start, changed by the settled commands
  pub has_settled : (start : List ℕ) (past : List Call) (codes : List ℕ) → EachCall (IsAnswered defaults) start past → HasEntries (keymap defaults (image_after start past)) codes
      → HasEntries (changed defaults (keymap defaults start) (settled_of (accepted defaults start past))) codes
  has_settled start past codes a h = record { whole = h.whole; each = λ layer key l k. h.each layer key l k ∙ (orderly start past a).kept layer key l k }
