use Rattle.std.proofs.Common.{◌≡◌, ◌≢◌, ◌∙◌, ℕ, zero, suc, ◌+◌, ◌-◌, ◌≤◌, refl, sym, arith, List, [], ◌∷◌, ◌++◌, length, length-append, subst, inl, inr}
use Rattle.std.proofs.lemmas.Bool.{cases_eq, cases_Bool, eq-eqb, ne_eqb}
use Rattle.layers.specs.declared.command.Command.{Command}
use Rattle.layers.specs.Codes.{default_at, DefaultCodes}
use Rattle.layers.specs.Copies.{places, entry_at, copies_below, AreCopies}
use Rattle.layers.proofs.Copying.{copies_below-zero, copies_below-same, copies_below-other}
use Rattle.page_turnover.specs.declared.log.stepping.Step.{Step}
use Rattle.page_turnover.specs.declared.log.stepping.Step.TheVariants.{Moved, Committed}
use Rattle.page_turnover.specs.Value.{LogValue, Target, Unread, Holds, Task, Rest, Append, Wait, Copy, Seal}
use Rattle.page_turnover.specs.Words.{HasRoom, IsBlank}
use Rattle.page_turnover.specs.Turn.{copies, copied, target_page}
use Rattle.page_turnover.specs.representation.Turn.{UnderWay}
use Rattle.page_turnover.specs.Steps.{IsReady, StepsFor, Steps, Keeps, EndsAs}
use Rattle.page_turnover.proofs.Endings.{waiting_count}
use Rattle.page_turnover.proofs.Blanks.{is_blank-blank, is_blank-used}
use Rattle.page_turnover.specs.Blank.{is_blank}
use Rattle.keymap_store.specs.declared.store.Job.{Job}
use Rattle.keymap_store.specs.declared.store.Job.TheVariants.{Resting, Appending, Turning}
use Rattle.keymap_store.specs.Keymap.{entries_of}
use Rattle.keymap_store.specs.Value.{StoreValue}
use Rattle.keymap_store.proofs.Keymaps.{entries_of-keeps}
use Rattle.keymap_store.specs.representation.Store.{Mirrors, OffersBelow}
use Rattle.keymap_store.specs.Left.{differing_below, differing, erases_left, turn_left, target_of, left_for, left, Needs}

-- whether a target has to be erased
erases_left-ready : (image : List ℕ) (target : Target) → IsReady image target → erases_left image target ≡ 0
unfolding erases_left
erases_left-ready image Unread r = rw (is_blank-blank image (target_page image) r) refl
erases_left-ready image (Holds n) r = refl

erases_left-used : (image : List ℕ) → (IsBlank image (target_page image) → ⊥) → erases_left image Unread ≡ 1
unfolding erases_left
erases_left-used image u = rw (is_blank-used image (target_page image) u) refl

erases_left-most : (image : List ℕ) (target : Target) → erases_left image target ≤ 1
unfolding erases_left
erases_left-most image Unread = elim (cases_Bool (is_blank image (target_page image))) [
  | inl e ↦ rw e (omega arith)
  | inr e ↦ rw e (omega arith)
]
erases_left-most image (Holds n) = omega arith

module _ (defaults : DefaultCodes) where
  differing_below-zero : (entries : ℕ → ℕ → ℕ) → differing_below defaults entries zero ≡ 0
  unfolding differing_below
  differing_below-zero entries = refl

  differing_below-same : (entries : ℕ → ℕ → ℕ) (place : ℕ) → entry_at entries place ≡ default_at defaults place → differing_below defaults entries (suc place) ≡ differing_below defaults entries place
  unfolding differing_below
  differing_below-same entries place e = rw (eq-eqb (entry_at entries place) (default_at defaults place) e) refl

  differing_below-other : (entries : ℕ → ℕ → ℕ) (place : ℕ) → entry_at entries place ≢ default_at defaults place → differing_below defaults entries (suc place) ≡ differing_below defaults entries place + 1
  unfolding differing_below
  differing_below-other entries place e = rw (ne_eqb (entry_at entries place) (default_at defaults place) e) refl

  -- a copy for each entry that differs
  pub copies_below-count : (entries : ℕ → ℕ → ℕ) (place : ℕ) → length (copies_below defaults entries place) ≡ differing_below defaults entries place
  copies_below-count entries zero = rw (copies_below-zero defaults entries, differing_below-zero entries) refl
  copies_below-count entries (suc place) =
      let h : length (copies_below defaults entries place) ≡ differing_below defaults entries place = copies_below-count entries place in
      elim (cases_eq (entry_at entries place) (default_at defaults place)) [
        | inl e ↦ rw (copies_below-same defaults entries place e, differing_below-same entries place e) h
        | inr d ↦ rw (copies_below-other defaults entries place d, differing_below-other entries place d) (simp (length-append) (omega arith))
      ]

  copies_count : (entries : ℕ → ℕ → ℕ) (place : ℕ) (words : List ℕ) → AreCopies defaults entries place words → length words ≡ differing_below defaults entries place
  copies_count entries place words a = rw a.listed (copies_below-count entries place)

  -- at most as many as places, and no fewer below a later place
  differing_below-most : (entries : ℕ → ℕ → ℕ) (place : ℕ) → differing_below defaults entries place ≤ place
  differing_below-most entries zero = rw (differing_below-zero entries) (omega arith)
  differing_below-most entries (suc place) =
      let h : differing_below defaults entries place ≤ place = differing_below-most entries place in
      elim (cases_eq (entry_at entries place) (default_at defaults place)) [
        | inl e ↦ rw (differing_below-same entries place e) (omega arith)
        | inr d ↦ rw (differing_below-other entries place d) (omega arith)
      ]

  differing_below-more : (entries : ℕ → ℕ → ℕ) (from n : ℕ) → differing_below defaults entries from ≤ differing_below defaults entries (from + n)
  differing_below-more entries from zero = let e : from + 0 ≡ from = omega arith in rw e (omega arith)
  differing_below-more entries from (suc n) =
      let e : from + suc n ≡ suc (from + n) = omega arith in
      let h : differing_below defaults entries from ≤ differing_below defaults entries (from + n) = differing_below-more entries from n in
      elim (cases_eq (entry_at entries (from + n)) (default_at defaults (from + n))) [
        | inl s ↦ rw (e, differing_below-same entries (from + n) s) h
        | inr d ↦ rw (e, differing_below-other entries (from + n) d) (omega arith)
      ]

  differing_below-later : (entries : ℕ → ℕ → ℕ) (from to : ℕ) → from ≤ to → differing_below defaults entries from ≤ differing_below defaults entries to
  differing_below-later entries from to l =
      let e : from + (to - from) ≡ to = omega arith in
      rw e at (differing_below-more entries from (to - from))

  -- the entries that differ, by the words
  pub differing-is : (image : List ℕ) → differing defaults image ≡ differing_below defaults (entries_of defaults image) places
  unfolding differing
  differing-is image = refl

  differing-most : (image : List ℕ) → differing defaults image ≤ places
  differing-most image = rw (differing-is image) (differing_below-most (entries_of defaults image) places)

  differing-same : (old new : List ℕ) → Keeps old new → differing defaults new ≡ differing defaults old
  differing-same old new k = differing-is new ∙ rw (entries_of-keeps defaults old new k) refl ∙ sym (differing-is old)

  -- without room a new command needs a compaction before its record
  pub needs_turn : (image : List ℕ) → (HasRoom image → ⊥) → Needs defaults image (turn_left defaults image Unread)
  needs_turn image f = record {
    room = λ r. absurd (f r);
    blank = λ n b. rw (erases_left-ready image Unread b) (omega arith);
    used = λ n u. rw (erases_left-used image u) (omega arith);
  }

  pub begun_needs : (image : List ℕ) (store : StoreValue) (log : LogValue) (command : Command) → Mirrors defaults image store → log ≡ record store.log { task = Wait Unread } → (HasRoom image → ⊥) → Needs defaults image (left_for defaults image log (Turning command 0))
  begun_needs image store log command m e f =
      let t : log.task ≡ Wait Unread = rw e refl in
      let N : Task → Type 0 = λ task. Needs defaults image (turn_left defaults image (target_of task)) in
      subst N (sym t) (needs_turn image f)

  -- never more than an erase, 384 copies, a header and a record
  pub few_left : (image : List ℕ) (log : LogValue) (job : Job) → left_for defaults image log job ≤ 387
  few_left image log Resting = omega arith
  few_left image log (Appending command) = omega arith
  few_left image log (Turning command from) =
      let e : erases_left image (target_of log.task) ≤ 1 = erases_left-most image (target_of log.task) in
      let d : differing defaults image ≤ places = differing-most image in
      omega arith

  -- each step of a compaction leaves one operation less
  after_move : (from : ℕ) (old : List ℕ) (before : LogValue) (task : Task) (new : List ℕ) (after : LogValue) → from ≤ places → UnderWay old task → OffersBelow defaults (entries_of defaults old) from old task → StepsFor task old before Moved new after → Keeps old new
      → turn_left defaults new (target_of after.task) + 1 ≡ turn_left defaults old (target_of task)
  after_move from old before Rest new after l u o s w = absurd o
  after_move from old before (Append word) new after l u o s w = absurd o
  after_move from old before (Wait target) new after l u o s w = let f = s.answer in cc
  after_move from old before (Copy target word) new after l u o s w =
      let P : Task → Type 0 = λ t. turn_left defaults new (target_of t) + 1 ≡ turn_left defaults old target in
      let n : differing defaults new ≡ differing defaults old = differing-same old new w in
      elim s [
        | inl a ↦ (let t : after.task ≡ Copy (Holds 0) word = rw a.next refl in
            let e : erases_left old target ≡ 1 = rw a.unread (erases_left-used old a.used) in
            let c : copied target ≡ 0 = rw a.unread refl in
            let z : erases_left new (Holds 0) ≡ 0 = erases_left-ready new (Holds 0) tt in
            subst P (sym t) (omega arith))
        | inr a ↦ (let t : after.task ≡ Wait (Holds (copied target + 1)) = rw a.next refl in
            let e : erases_left old target ≡ 0 = erases_left-ready old target a.ready in
            let z : erases_left new (Holds (copied target + 1)) ≡ 0 = erases_left-ready new (Holds (copied target + 1)) tt in
            let m : differing defaults old ≡ differing_below defaults (entries_of defaults old) places = differing-is old in
            let k : length (copies old (Copy target word) ++ word ∷ []) ≡ differing_below defaults (entries_of defaults old) from = copies_count (entries_of defaults old) from (copies old (Copy target word) ++ word ∷ []) o in
            let j : length (copies old (Copy target word) ++ word ∷ []) ≡ length (copies old (Copy target word)) + 1 = length-append (copies old (Copy target word)) (word ∷ []) in
            let i : length (copies old (Wait target)) ≡ copied target = waiting_count old target u.turning.target_is in
            let q : differing_below defaults (entries_of defaults old) from ≤ differing_below defaults (entries_of defaults old) places = differing_below-later (entries_of defaults old) from places l in
            subst P (sym t) (omega arith))
      ]
  after_move from old before (Seal target) new after l u o s w =
      let P : Task → Type 0 = λ t. turn_left defaults new (target_of t) + 1 ≡ turn_left defaults old target in
      let n : differing defaults new ≡ differing defaults old = differing-same old new w in
      elim s [
        | inl a ↦ (let t : after.task ≡ Seal (Holds 0) = rw a.next refl in
            let e : erases_left old target ≡ 1 = rw a.unread (erases_left-used old a.used) in
            let c : copied target ≡ 0 = rw a.unread refl in
            let z : erases_left new (Holds 0) ≡ 0 = erases_left-ready new (Holds 0) tt in
            subst P (sym t) (omega arith))
        | inr a ↦ (let f = a.answer in cc)
      ]

  pub moved_left : (from : ℕ) (old : List ℕ) (before : LogValue) (step : Step) (new : List ℕ) (after : LogValue) → from ≤ places → UnderWay old before.task → OffersBelow defaults (entries_of defaults old) from old before.task → step ≡ Moved
      → EndsAs old before step new after → Keeps old new → turn_left defaults new (target_of after.task) + 1 ≡ turn_left defaults old (target_of before.task)
  moved_left from old before step new after l u o e ends w =
      let S : Step → Type 0 = λ s. Steps old before s new after in
      after_move from old before before.task new after l u o (subst S e (ends.done (λ f. cc))) w

  -- the header is the last operation of a compaction
  after_commit : (from : ℕ) (old : List ℕ) (before : LogValue) (task : Task) (new : List ℕ) (after : LogValue) → UnderWay old task → OffersBelow defaults (entries_of defaults old) from old task → StepsFor task old before Committed new after → turn_left defaults old (target_of task) ≡ 2
  after_commit from old before Rest new after u o s = absurd o
  after_commit from old before (Append word) new after u o s = absurd o
  after_commit from old before (Wait target) new after u o s = let f = s.answer in cc
  after_commit from old before (Copy target word) new after u o s = elim s [
    | inl a ↦ (let f = a.answer in cc)
    | inr a ↦ (let f = a.answer in cc)
  ]
  after_commit from old before (Seal target) new after u o s = elim s [
    | inl a ↦ (let f = a.answer in cc)
    | inr a ↦ (let e : erases_left old target ≡ 0 = erases_left-ready old target a.ready in
        let m : differing defaults old ≡ differing_below defaults (entries_of defaults old) places = differing-is old in
        let k : length (copies old (Seal target)) ≡ differing_below defaults (entries_of defaults old) places = copies_count (entries_of defaults old) places (copies old (Seal target)) o in
        let i : length (copies old (Wait target)) ≡ copied target = waiting_count old target u.target_is in
        omega arith)
  ]

  pub committed_left : (from : ℕ) (old : List ℕ) (before : LogValue) (step : Step) (new : List ℕ) (after : LogValue) → UnderWay old before.task → OffersBelow defaults (entries_of defaults old) from old before.task → step ≡ Committed
      → EndsAs old before step new after → turn_left defaults old (target_of before.task) ≡ 2
  committed_left from old before step new after u o e ends =
      let S : Step → Type 0 = λ s. Steps old before s new after in
      after_commit from old before before.task new after u o (subst S e (ends.done (λ f. cc)))

  -- what a store that compacts has left
  pub turning_left : (image : List ℕ) (store : StoreValue) (command : Command) (from : ℕ) → Mirrors defaults image store → store.job ≡ Turning command from → left defaults image store ≡ turn_left defaults image (target_of store.log.task)
  turning_left image store command from m e = rw e refl
