-- A compaction to the words of all values.
use Rattle.std.proofs.lemmas.Grind.{common_steps}
use Rattle.std.proofs.Common.{◌≡◌, ◌∙◌, ℕ, ◌+◌, ◌^◌, ◌<◌, ◌≤◌, refl, sym, ap, subst, arith, List, [], ◌∷◌, ◌++◌, length, get_or, Option, inl, inr}
use Rattle.std.proofs.lemmas.Bool.{cases_lt}
use Rattle.std.proofs.lemmas.List.{append-nil, length-append}
use Rattle.page_turnover.specs.declared.log.stepping.Step.{Step}
use Rattle.page_turnover.specs.declared.log.stepping.Step.TheVariants.{Moved, Committed}
use Rattle.page_turnover.specs.Value.{LogValue, Target, Unread, Task, Rest, Append, Wait, Copy, Seal}
use Rattle.page_turnover.specs.representation.Log.{Describes}
use Rattle.page_turnover.specs.representation.Turn.{UnderWay}
use Rattle.page_turnover.specs.Turn.{copies, offered, copied, target_page, IsWaiting, IsPending, CanOffer, HasShortWord, with_copy, with_seal}
use Rattle.page_turnover.specs.Words.{IsBlank}
use Rattle.page_turnover.specs.Steps.{IsReady, StepsFor, Steps, Keeps, Moves, Commits, EndsAs}
use Rattle.page_turnover.proofs.Endings.{waiting_count}
use Rattle.page_turnover.proofs.Blanks.{is_blank-blank, is_blank-used}
use Rattle.settings.specs.declared.change.Change.{Change}
use Rattle.settings.specs.declared.store.Work.TheVariants.{Working, Stored, Failed}
use Rattle.settings.specs.Works.{CountsDown}
use Rattle.settings.specs.declared.store.Job.{Job}
use Rattle.settings.specs.declared.store.Job.TheVariants.{Turning}
use Rattle.settings.specs.Words.{words_of, AreValues}
use Rattle.settings.specs.Settings.{settings_of, changed, Same}
use Rattle.settings.specs.Copies.{all_copies, NoneBetween, IsNext}
use Rattle.settings.specs.Begins.{alive}
use Rattle.settings.specs.Left.{erases_left, target_of, turn_left, left}
use Rattle.settings.specs.Store.{SettingsValue}
use Rattle.settings.specs.representation.Store.{Relation, IsTurning, IsTurn, IsSeal, IsOffered, given_words}
use Rattle.settings.proofs.Storing.{changed_kept, stored_turn}
use Rattle.settings.proofs.Values.{are_values}
use Rattle.settings.proofs.Given.{Owns, kept_is, next_inside, given_more, given_last, given_all, given_few, given_fewer}

pub turning : (image : List ℕ) (changes : List Change) (settings : SettingsValue) (from at : ℕ) → Relation image changes settings → settings.job ≡ Turning from at → IsTurning image changes settings.log from at
turning image changes settings from at s e = rw e at s.job_is

-- how a task is after a step that commits nothing
record IsAfter (old new : List ℕ) (before after : Task) : Type 0 where
  of_turn : IsTurn after
  short : HasShortWord before → HasShortWord after
  all : IsSeal after → (copies new after ≡ copies old before) × IsSeal before

after_move : (task : Task) (old : List ℕ) (before : LogValue) (new : List ℕ) (after : LogValue) → IsTurn task → StepsFor task old before Moved new after → Moves old task new after.task → IsAfter old new task after.task
after_move task old before new after h1 h2 h3 = grind (arith, common_steps)

moved_step : (old : List ℕ) (log : LogValue) (step : Step) (new : List ℕ) (after : LogValue) → IsTurn log.task → step ≡ Moved → EndsAs old log step new after → Moves old log.task new after.task → IsAfter old new log.task after.task
moved_step old log step new after h1 h2 h3 h4 = grind (arith, common_steps, after_move)

-- a compaction that goes on
pub still_turning : (old : List ℕ) (changes : List Change) (log : LogValue) (from at : ℕ) (step : Step) (new : List ℕ) (after : LogValue) → IsTurning old changes log from at → step ≡ Moved → EndsAs old log step new after → Moves old log.task new after.task → IsTurning new changes after from at
still_turning old changes log from at step new after j e ends m =
    let n = moved_step old log step new after j.of_turn e ends m in
    let v : changed new changes ≡ changed old changes = changed_kept old new changes m.keeps in
    record {
      are_changes = j.are_changes;
      of_turn = n.of_turn;
      within = j.within;
      own = rw v j.own;
      given = m.copies_are ∙ rw v j.given;
      all = λ f. (n.all f).0 ∙ rw v (j.all (n.all f).1);
      short = n.short j.short;
      fits = rw v j.fits;
    }

-- a compaction that is committed
values_for : (task : Task) (old : List ℕ) (changes : List Change) (new : List ℕ) → IsTurn task → AreValues (changed old changes) → (IsSeal task → copies old task ≡ all_copies (changed old changes)) → Commits old task new → Same (settings_of new) (changed old changes)
values_for Rest old changes new t v a c = absurd t
values_for (Append word) old changes new t v a c = absurd t
values_for (Wait target) old changes new t v a c = absurd c
values_for (Copy target word) old changes new t v a c = absurd c
values_for (Seal target) old changes new t v a c = stored_turn old new changes target v (a tt) c

pub turned_values : (old : List ℕ) (changes : List Change) (log : LogValue) (from at : ℕ) (new : List ℕ) → IsTurning old changes log from at → Commits old log.task new → Same (settings_of new) (changed old changes)
turned_values old changes log from at new j c = values_for log.task old changes new j.of_turn (are_values old changes j.are_changes) j.all c

-- what a compaction has left, after each of its operations
pub erases_left-ready : (image : List ℕ) (target : Target) → IsReady image target → erases_left image target ≡ 0
unfolding erases_left
erases_left-ready image target h1 = grind (arith, common_steps, is_blank-blank)

pub erases_left-used : (image : List ℕ) → (IsBlank image (target_page image) → ⊥) → erases_left image Unread ≡ 1
unfolding erases_left
erases_left-used image u = rw (is_blank-used image (target_page image) u) refl

pub erases_left-most : (image : List ℕ) (target : Target) → erases_left image target ≤ 1
unfolding erases_left
erases_left-most image target = grind (arith, common_steps)

left_moved : (task : Task) (old : List ℕ) (changes : List Change) (before : LogValue) (new : List ℕ) (after : LogValue) → alive new changes ≡ alive old changes → IsTurn task → UnderWay old task → length (copies old task ++ offered task) ≤ alive old changes → StepsFor task old before Moved new after
    → turn_left new changes (target_of after.task) + 1 ≡ turn_left old changes (target_of task)
left_moved task old changes before new after h1 h2 h3 h4 h5 = grind (arith, common_steps, erases_left-used, erases_left-ready, length-append, waiting_count, turning)

pub turn_moved_left : (old : List ℕ) (changes : List Change) (log : LogValue) (from at : ℕ) (step : Step) (new : List ℕ) (after : LogValue) → IsTurning old changes log from at → Describes old log → step ≡ Moved → EndsAs old log step new after → Keeps old new
    → turn_left new changes (target_of after.task) + 1 ≡ turn_left old changes (target_of log.task)
turn_moved_left old changes log from at step new after j d e ends k =
    let S : Step → Type 0 = λ x. Steps old log x new after in
    let v : alive new changes ≡ alive old changes = rw (changed_kept old new changes k) refl in
    let few : length (copies old log.task ++ offered log.task) ≤ alive old changes = rw j.given (given_few (changed old changes) from at j.within j.own) in
    left_moved log.task old changes log new after v j.of_turn d.task_is few (subst S e (ends.done (λ f. cc)))

left_committed : (task : Task) (old : List ℕ) (changes : List Change) (before : LogValue) (new : List ℕ) (after : LogValue) → IsTurn task → UnderWay old task → (IsSeal task → copies old task ≡ all_copies (changed old changes)) → StepsFor task old before Committed new after → turn_left old changes (target_of task) ≡ 1
left_committed task old changes before new after h1 h2 h3 h4 = grind (arith, common_steps, erases_left-ready, waiting_count)

pub turn_last_left : (old : List ℕ) (changes : List Change) (log : LogValue) (from at : ℕ) (step : Step) (new : List ℕ) (after : LogValue) → IsTurning old changes log from at → Describes old log → step ≡ Committed → EndsAs old log step new after
    → turn_left old changes (target_of log.task) ≡ 1
turn_last_left old changes log from at step new after j d e ends =
    let S : Step → Type 0 = λ x. Steps old log x new after in
    left_committed log.task old changes log new after j.of_turn d.task_is j.all (subst S e (ends.done (λ f. cc)))

-- what a waiting compaction is offered
copy_target : (task : Task) (word : ℕ) → target_of (with_copy task word) ≡ target_of task
copy_target task word = grind (arith, common_steps)

seal_target : (task : Task) → target_of (with_seal task) ≡ target_of task
seal_target task = grind (arith, common_steps)

-- a waiting compaction that was offered a copy
record IsCopying (image : List ℕ) (task : Task) (word : ℕ) : Type 0 where
  of_turn : IsTurn (with_copy task word)
  pending : IsPending (with_copy task word)
  given : copies image (with_copy task word) ++ offered (with_copy task word) ≡ (copies image task ++ offered task) ++ word ∷ []
  unsealed : IsSeal (with_copy task word) → ⊥
  short : word < 2 ^ 31 → HasShortWord (with_copy task word)

copying : (image : List ℕ) (task : Task) (word : ℕ) → IsWaiting task → IsCopying image task word
copying image task word h1 = grind (arith, common_steps)

record IsSealing (image : List ℕ) (task : Task) : Type 0 where
  of_turn : IsTurn (with_seal task)
  pending : IsPending (with_seal task)
  copies_are : copies image (with_seal task) ≡ copies image task ++ offered task
  none : offered (with_seal task) ≡ []
  short : HasShortWord (with_seal task)

sealing : (image : List ℕ) (task : Task) → IsWaiting task → IsSealing image task
sealing image task h1 = grind (arith, common_steps)

can_offer : (image : List ℕ) (task : Task) → IsWaiting task → UnderWay image task → length (copies image task ++ offered task) < 511 → CanOffer task
can_offer image Rest w u l = absurd w
can_offer image (Append word) w u l = absurd w
can_offer image (Wait target) w u l =
    let i : length (copies image (Wait target)) ≡ copied target = waiting_count image target u.target_is in
    let e : length (copies image (Wait target) ++ []) ≡ length (copies image (Wait target)) = rw (append-nil (copies image (Wait target))) refl in
    omega arith
can_offer image (Copy target word) w u l = absurd w
can_offer image (Seal target) w u l = absurd w

pending_else : (task : Task) → IsTurn task → (IsWaiting task → ⊥) → IsPending task
pending_else task h1 h2 = grind (arith, common_steps)

-- the compaction of settings that were offered nothing, since something is pending
pub offered_before : (image : List ℕ) (changes : List Change) (settings : SettingsValue) (from at : ℕ) → Relation image changes settings → settings.job ≡ Turning from at → (IsWaiting settings.log.task → ⊥) → IsOffered image changes settings settings
offered_before image changes settings from at s e n = record {
  refines = s;
  from = from;
  at = at;
  job = e;
  pending = pending_else settings.log.task (turning image changes settings from at s e).of_turn n;
  target = refl;
}

-- a word that is next
pub word_inside : (image : List ℕ) (changes : List Change) (log : LogValue) (from at : ℕ) (change : Change) → IsTurning image changes log from at → IsNext (changed image changes) from change → 0 < length (words_of change) → at < length (words_of change)
word_inside image changes log from at change j n l = next_inside (changed image changes) from at change n j.own l

-- the compaction of settings that were offered a word: some of its id's are missing, or none
pub record IsMore (values : ℕ → Option (List ℕ)) (words : List ℕ) (job : Job) : Type 0 where
  pub from : ℕ
  pub at : ℕ
  pub is : job ≡ Turning from at
  pub within : from ≤ 2 ^ 16
  pub own : Owns values from at
  pub given : words ≡ given_words values from at

pub more_given : (values : ℕ → Option (List ℕ)) (from at : ℕ) (change : Change) (job : Job) → IsNext values from change → Owns values from at → at < length (words_of change)
    → (at + 1 < length (words_of change) → job ≡ Turning change.id (at + 1)) → (length (words_of change) ≤ at + 1 → job ≡ Turning (change.id + 1) 0) → IsMore values (given_words values from at ++ get_or (words_of change) at 0 ∷ []) job
more_given values from at change job n o l more last =
    elim (cases_lt (at + 1) (length (words_of change))) [
      | inl m ↦ (let s = n.small in record {
        from = change.id;
        at = at + 1;
        is = more m;
        within = omega arith;
        own = λ z. (n.small, rw (kept_is values from change n) m);
        given = given_more values from at change n o l;
      })
      | inr m ↦ (let s = n.small in record {
        from = change.id + 1;
        at = 0;
        is = last m;
        within = omega arith;
        own = λ z. absurd (omega arith);
        given = given_last values from at change n o l m;
      })
    ]

pub can_take : (image : List ℕ) (changes : List Change) (log : LogValue) (from at : ℕ) (change : Change) → IsTurning image changes log from at → Describes image log → IsWaiting log.task → IsNext (changed image changes) from change → at < length (words_of change) → CanOffer log.task
can_take image changes log from at change j d w n l =
    let f = given_fewer (changed image changes) from at change n j.own l in
    let fits = j.fits in
    can_offer image log.task w d.task_is (rw j.given (omega (arith, f, fits)))

-- a compaction that was offered a word
pub offered_word : (image : List ℕ) (changes : List Change) (before after : SettingsValue) (from at word : ℕ) (change : Change) → IsTurning image changes before.log from at → IsWaiting before.log.task → Describes image after.log → after.log ≡ record before.log { task = with_copy before.log.task word }
    → IsNext (changed image changes) from change → at < length (words_of change) → word ≡ get_or (words_of change) at 0 → word < 2 ^ 31
    → (at + 1 < length (words_of change) → after.job ≡ Turning change.id (at + 1)) → (length (words_of change) ≤ at + 1 → after.job ≡ Turning (change.id + 1) 0) → IsOffered image changes before after
offered_word image changes before after from at word change j w d e n l g small more last =
    let values : ℕ → Option (List ℕ) = changed image changes in
    let t : after.log.task ≡ with_copy before.log.task word = ap (λ (log : LogValue). log.task) e in
    let c : IsCopying image before.log.task word = copying image before.log.task word w in
    let m : IsMore values (given_words values from at ++ get_or (words_of change) at 0 ∷ []) after.job = more_given values from at change after.job n j.own l more last in
    let T : Task → Type 0 = λ x. IsTurn x × IsPending x × HasShortWord x × (copies image x ++ offered x ≡ (copies image before.log.task ++ offered before.log.task) ++ word ∷ []) × (IsSeal x → ⊥) × (target_of x ≡ target_of before.log.task) in
    let s = subst T (sym t) (c.of_turn, c.pending, c.short small, c.given, c.unsealed, copy_target before.log.task word) in
    let turning : IsTurning image changes after.log m.from m.at = record {
      are_changes = j.are_changes;
      of_turn = s.0;
      within = m.within;
      own = m.own;
      given = s.3 ∙ rw (j.given, g) m.given;
      all = λ f. absurd (s.4 f);
      short = s.2;
      fits = j.fits;
    } in
    record {
      refines = record { log_is = d; job_is = rw m.is turning };
      from = m.from;
      at = m.at;
      job = m.is;
      pending = s.1;
      target = s.5;
    }

-- a compaction that was offered its header
pub offered_seal : (image : List ℕ) (changes : List Change) (before after : SettingsValue) (from at : ℕ) → IsTurning image changes before.log from at → IsWaiting before.log.task → Describes image after.log → after.log ≡ record before.log { task = with_seal before.log.task }
    → after.job ≡ Turning from at → NoneBetween (changed image changes) from (2 ^ 16) → IsOffered image changes before after
offered_seal image changes before after from at j w d e k n =
    let values : ℕ → Option (List ℕ) = changed image changes in
    let t : after.log.task ≡ with_seal before.log.task = ap (λ (log : LogValue). log.task) e in
    let c : IsSealing image before.log.task = sealing image before.log.task w in
    let T : Task → Type 0 = λ x. IsTurn x × IsPending x × HasShortWord x × (copies image x ≡ copies image before.log.task ++ offered before.log.task) × (offered x ≡ []) × (target_of x ≡ target_of before.log.task) in
    let s = subst T (sym t) (c.of_turn, c.pending, c.short, c.copies_are, c.none, seal_target before.log.task) in
    let turning : IsTurning image changes after.log from at = record {
      are_changes = j.are_changes;
      of_turn = s.0;
      within = j.within;
      own = j.own;
      given = rw (s.4, append-nil (copies image after.log.task)) (s.3 ∙ j.given);
      all = λ f. s.3 ∙ j.given ∙ given_all values from at j.within j.own n;
      short = s.2;
      fits = j.fits;
    } in
    record {
      refines = record { log_is = d; job_is = rw k turning };
      from = from;
      at = at;
      job = k;
      pending = s.1;
      target = s.5;
    }

-- what changes under way have left
left_turn : (image : List ℕ) (changes : List Change) (settings : SettingsValue) (from at : ℕ) → settings.job ≡ Turning from at → left image changes settings ≡ turn_left image changes (target_of settings.log.task)
left_turn image changes settings from at e = rw e refl

pub few_turn : (image : List ℕ) (changes : List Change) (target : Target) → alive image changes ≤ 511 → turn_left image changes target ≤ 513
few_turn image changes target l = let e = erases_left-most image target in omega arith

counts_moved : (before after : ℕ) → after + 1 ≡ before → before ≤ 513 → CountsDown Working before after
counts_moved before after e l = record { none = (λ f. cc, λ f. absurd (omega arith)); fewer = λ f. e; last = λ f. cc; ends = λ f. absurd (f refl); few = l }

counts_last : (before : ℕ) → before ≡ 1 → CountsDown Stored before 0
counts_last before e = record { none = (λ f. cc, λ f. absurd (omega arith)); fewer = λ f. cc; last = λ f. e; ends = λ f. refl; few = omega arith }

counts_failed : (before : ℕ) → 0 < before → before ≤ 513 → CountsDown Failed before 0
counts_failed before m l = record { none = (λ f. cc, λ f. absurd (omega arith)); fewer = λ f. cc; last = λ f. cc; ends = λ f. refl; few = l }

pub moved_down : (old : List ℕ) (changes : List Change) (before middle : SettingsValue) (from at : ℕ) (step : Step) (new : List ℕ) (after : SettingsValue) → before.job ≡ Turning from at → (o : IsOffered old changes before middle) → step ≡ Moved → EndsAs old middle.log step new after.log → Keeps old new
    → after.job ≡ middle.job → CountsDown Working (left old changes before) (left new changes after)
moved_down old changes before middle from at step new after b o e ends k same =
    let j = turning old changes middle o.from o.at o.refines o.job in
    let d = o.refines.log_is in
    let x = left_turn old changes before from at b in
    let y = left_turn new changes after o.from o.at (same ∙ o.job) in
    let z : turn_left old changes (target_of middle.log.task) ≡ turn_left old changes (target_of before.log.task) = ap (λ (t : Target). turn_left old changes t) o.target in
    let m = turn_moved_left old changes middle.log o.from o.at step new after.log j d e ends k in
    counts_moved (left old changes before) (left new changes after) (rw (x, y) (m ∙ z)) (rw x (few_turn old changes (target_of before.log.task) j.fits))

pub last_down : (old : List ℕ) (changes : List Change) (before middle : SettingsValue) (from at : ℕ) (step : Step) (new : List ℕ) (after : LogValue) → before.job ≡ Turning from at → (o : IsOffered old changes before middle) → step ≡ Committed → EndsAs old middle.log step new after
    → CountsDown Stored (left old changes before) 0
last_down old changes before middle from at step new after b o e ends =
    let j = turning old changes middle o.from o.at o.refines o.job in
    let z : turn_left old changes (target_of middle.log.task) ≡ turn_left old changes (target_of before.log.task) = ap (λ (t : Target). turn_left old changes t) o.target in
    counts_last (left old changes before) (left_turn old changes before from at b ∙ sym z ∙ turn_last_left old changes middle.log o.from o.at step new after j o.refines.log_is e ends)

pub failed_down : (old : List ℕ) (changes : List Change) (before middle : SettingsValue) (from at : ℕ) → before.job ≡ Turning from at → (o : IsOffered old changes before middle) → CountsDown Failed (left old changes before) 0
failed_down old changes before middle from at b o =
    let j = turning old changes middle o.from o.at o.refines o.job in
    let x = left_turn old changes before from at b in
    counts_failed (left old changes before) (rw x (omega arith)) (rw x (few_turn old changes (target_of before.log.task) j.fits))

pub still_refines : (old : List ℕ) (changes : List Change) (before middle : SettingsValue) (step : Step) (new : List ℕ) (after : SettingsValue) → (o : IsOffered old changes before middle) → step ≡ Moved → EndsAs old middle.log step new after.log → Moves old middle.log.task new after.log.task → after.job ≡ middle.job → Relation new changes after
still_refines old changes before middle step new after o e ends m same =
    let j = turning old changes middle o.from o.at o.refines o.job in
    record { log_is = ends.describes; job_is = rw (same, o.job) (still_turning old changes middle.log o.from o.at step new after.log j e ends m) }
