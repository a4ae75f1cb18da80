-- A change whose words are appended.
use Rattle.std.proofs.lemmas.Grind.{common_steps}
use Rattle.std.proofs.Common.{◌≡◌, ◌∙◌, ℕ, ◌+◌, ◌<◌, ◌≤◌, refl, sym, subst, arith, List, [], ◌∷◌, ◌++◌, length, take, get_or, Some}
use Rattle.page_turnover.specs.declared.log.stepping.Step.{Step}
use Rattle.page_turnover.specs.declared.log.stepping.Step.TheVariants.{Committed}
use Rattle.page_turnover.specs.Value.{LogValue, Task, Rest, Append}
use Rattle.page_turnover.specs.Words.{words}
use Rattle.page_turnover.specs.Steps.{Commits, EndsAs, Appends, StepsFor}
use Rattle.settings.specs.declared.change.Change.{Change}
use Rattle.page_turnover.specs.representation.Log.{Describes}
use Rattle.settings.specs.declared.store.Work.{Work}
use Rattle.settings.specs.declared.store.Work.TheVariants.{Working, Stored}
use Rattle.settings.specs.Works.{Gives}
use Rattle.settings.specs.declared.store.Job.TheVariants.{Resting, Appending}
use Rattle.settings.specs.Words.{words_of, IsChange}
use Rattle.settings.specs.Settings.{settings_of, changed, Same}
use Rattle.settings.specs.Store.{SettingsValue}
use Rattle.settings.specs.representation.Store.{Relation, IsAppending}
use Rattle.settings.proofs.Storing.{words_more, same_more, stored_last}

pub appending : (image : List ℕ) (changes : List Change) (settings : SettingsValue) (at : ℕ) → Relation image changes settings → settings.job ≡ Appending at → IsAppending image changes settings.log at
appending image changes settings at s e = rw e at s.job_is

-- the change that is appended is the one that was lent
pub the_change : (changes : List Change) (lent change : Change) → lent ≡ get_or changes 0 lent → changes ≡ change ∷ [] → lent ≡ change
the_change changes lent change e o = rw o at e

pub one_is_change : (image : List ℕ) (changes : List Change) (log : LogValue) (at : ℕ) (a : IsAppending image changes log at) → IsChange a.change
one_is_change image changes log at a = grind (arith, common_steps)

-- one word of it was committed
pub one_word : (old : List ℕ) (changes : List Change) (log next : LogValue) (at word : ℕ) (new : List ℕ) → (a : IsAppending old changes log at) → next.task ≡ Append word → word ≡ get_or (words_of a.change) at 0 → Commits old next.task new → words new ≡ a.first ++ take (at + 1) (words_of a.change)
one_word old changes log next at word new a h1 h2 h3 = grind (arith, common_steps, words_more)

-- there is room for the others
gone_on : (old : List ℕ) (changes : List Change) (log next : LogValue) (at word : ℕ) (step : Step) (new : List ℕ) (after : LogValue) → (a : IsAppending old changes log at) → next ≡ record log { task = Append word } → Appends old next word step new after
    → words new ≡ a.first ++ take (at + 1) (words_of a.change) → at + 1 < length (words_of a.change) → IsAppending new changes after (at + 1)
gone_on old changes log next at word step new after a n made ws more =
    let same : Some made.place ≡ Some a.place = sym made.is_active ∙ rw n a.is_active in
    let place : made.place ≡ a.place = cc in
    let u : after.unsound ≡ next.unsound = rw made.next refl in
    let v : next.unsound ≡ log.unsound = rw n refl in
    let rests : after.task ≡ Rest = rw made.next refl in
    let active : after.active ≡ Some (record made.place { tail = made.place.tail + 1 }) = rw made.next refl in
    let current : made.place.format ≡ 2 = rw place a.current in
    let tail : made.place.tail ≡ a.place.tail = rw place refl in
    record {
      are_changes = a.are_changes;
      change = a.change;
      one = a.one;
      first = a.first;
      words_are = ws;
      more = more;
      rests = rests;
      usable = u ∙ v ∙ a.usable;
      place = record made.place { tail = made.place.tail + 1 };
      is_active = active;
      current = current;
      room = let r = a.room in omega (arith, tail, r);
    }

pub goes_on : (old : List ℕ) (changes : List Change) (log next : LogValue) (at word : ℕ) (step : Step) (new : List ℕ) (after : LogValue) → (a : IsAppending old changes log at) → next ≡ record log { task = Append word } → word ≡ get_or (words_of a.change) at 0 → step ≡ Committed
    → EndsAs old next step new after → Commits old next.task new → at + 1 < length (words_of a.change) → IsAppending new changes after (at + 1)
goes_on old changes log next at word step new after a n w s ends c more =
    let t : next.task ≡ Append word = rw n refl in
    let S : Task → Type 0 = λ x. StepsFor x old next step new after in
    gone_on old changes log next at word step new after a n (subst S t (ends.done (λ f. cc))) (one_word old changes log next at word new a t w c) more

pub keeps_values : (old : List ℕ) (changes : List Change) (log next : LogValue) (at word : ℕ) (new : List ℕ) → (a : IsAppending old changes log at) → next.task ≡ Append word → word ≡ get_or (words_of a.change) at 0 → Commits old next.task new → at + 1 < length (words_of a.change) → Same (settings_of new) (settings_of old)
keeps_values old changes log next at word new a t w c more =
    same_more old new a.first a.change at (one_is_change old changes log at a) a.words_are (one_word old changes log next at word new a t w c) more

pub changes_values : (old : List ℕ) (changes : List Change) (log next : LogValue) (at word : ℕ) (new : List ℕ) → (a : IsAppending old changes log at) → next.task ≡ Append word → word ≡ get_or (words_of a.change) at 0 → Commits old next.task new → length (words_of a.change) ≤ at + 1 → Same (settings_of new) (changed old changes)
changes_values old changes log next at word new a t w c last =
    let l = a.more in
    stored_last old new a.first changes a.change at a.one (one_is_change old changes log at a) a.words_are (one_word old changes log next at word new a t w c) (omega arith)

pub refines_more : (image : List ℕ) (changes : List Change) (settings : SettingsValue) (log : LogValue) (at : ℕ) → settings.log ≡ log → settings.job ≡ Appending at → Describes image log → IsAppending image changes log at → Relation image changes settings
refines_more image changes settings log at l j d a = record { log_is = rw l d; job_is = rw (j, l) a }

pub refines_rest : (image : List ℕ) (changes : List Change) (settings : SettingsValue) (log : LogValue) → settings.log ≡ log → settings.job ≡ Resting → Describes image log → log.task ≡ Rest → Relation image changes settings
refines_rest image changes settings log l j d r = record { log_is = rw l d; job_is = rw (j, l) r }

-- what the answers mean
pub gives_more : (old : List ℕ) (changes : List Change) (work : Work) (new : List ℕ) → work ≡ Working → Same (settings_of new) (settings_of old) → Gives old changes work new
gives_more old changes work new w s = rw w s

pub gives_last : (old : List ℕ) (changes : List Change) (work : Work) (new : List ℕ) → work ≡ Stored → Same (settings_of new) (changed old changes) → Gives old changes work new
gives_last old changes work new w s = rw w s
