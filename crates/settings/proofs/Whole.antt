-- A call that comes back when all is stored.
use Rattle.std.proofs.lemmas.Grind.{common_steps}
use Rattle.std.proofs.Common.{◌≡◌, ◌∙◌, ℕ, ◌+◌, ◌%◌, ◌^◌, ◌≤◌, refl, sym, arith, List, [], ◌∷◌, length, Bool, true, false, inl, inr, Ok, Err, Option, Some}
use Rattle.flash_model.specs.FlashOperation.{FlashOperation}
use Rattle.settings.specs.declared.change.Change.{Change}
use Rattle.settings.specs.declared.store.SettingsError.{SettingsError}
use Rattle.settings.specs.declared.store.SettingsError.TheVariants.{Fault}
use Rattle.settings.specs.declared.store.Job.{Job}
use Rattle.settings.specs.Words.{IsValue, IsValueIfSome}
use Rattle.settings.specs.Settings.{changes_in, settings_of, changed, Same}
use Rattle.settings.specs.Begins.{IsRefused, IsAccepted}
use Rattle.settings.specs.Left.{left, Needs}
use Rattle.settings.specs.Moments.{IsOperation, IsFault, AtEachMoment, begins, goes_on}
use Rattle.settings.specs.Store.{SettingsValue, IsBusy}
use Rattle.settings.specs.Works.{IsBeforeOrAfter, IsBetween, GoesTo, WritesMore, WritesLast, HasMade, Stores}
use Rattle.settings.specs.representation.Store.{Relation, AreChanges}
use Rattle.settings.specs.representation.Whole.{Makes, SoFar}
use Rattle.std.proofs.lemmas.Bool.{cases_eq}
use Rattle.std.proofs.lemmas.List.{append-nil}
use Rattle.page_turnover.specs.Words.{words}
use Rattle.settings.proofs.Naming.{changed-is, after-own, after-skip, after-end}
use Rattle.settings.proofs.Storing.{changed_same}
use Rattle.settings.proofs.Turning.{few_turn}
use Rattle.settings.proofs.Values.{are_values}
use Rattle.settings.proofs.Written.{written_none, written_step}

-- never more than an erase, 511 words and a header
few_for : (job : Job) (image : List ℕ) (changes : List Change) (settings : SettingsValue) → settings.job ≡ job → Relation image changes settings → left image changes settings ≤ 513
few_for job image changes settings h1 h2 = grind (arith, common_steps, few_turn)

pub few_left : (image : List ℕ) (changes : List Change) (settings : SettingsValue) → Relation image changes settings → left image changes settings ≤ 513
few_left image changes settings s = few_for settings.job image changes settings refl s

-- values that are the same as others, which are those before the changes
both : (old middle : List ℕ) (changes : List Change) (new : List ℕ) → Same (settings_of middle) (settings_of old) → IsBeforeOrAfter middle changes new → IsBeforeOrAfter old changes new
both old middle changes new h1 h2 = grind (arith, common_steps, changed_same)

between_none : (image : List ℕ) (changes : List Change) → IsBetween image changes image
between_none image changes = record { values = inl (λ id l. refl); usable = λ u. u; known = λ h. h }

between_both : (old middle : List ℕ) (changes : List Change) (new : List ℕ) → Same (settings_of middle) (settings_of old) → IsBetween old changes middle → IsBetween middle changes new → IsBetween old changes new
between_both old middle changes new k a b = record { values = both old middle changes new k b.values; usable = λ u. b.usable (a.usable u); known = λ h. b.known (a.known h) }

pub so_far_none : {F : Type 0} (image : F → List ℕ) (operations : F → ℕ) (operates : F → FlashOperation → F → Type 0) (is_faultless : F → ℕ → Type 0) (changes : List Change) (old : F) (settings : SettingsValue)
    → Relation (image old) changes settings → IsBusy settings.job → GoesTo (image old) changes settings.job → Needs (image old) changes (left (image old) changes settings) → SoFar image operations operates is_faultless changes (left (image old) changes settings) old settings old
so_far_none image operations operates is_faultless changes old settings s b g n = record {
  refines = s;
  kept = λ x id l. refl;
  stored = λ x. absurd (x b);
  moments = begins (between_none (image old) changes);
  ends = between_none (image old) changes;
  written = written_none (image old) changes settings.job g;
  needed = left (image old) changes settings;
  needs = n;
  most = few_left (image old) changes settings s;
  count = 0;
  counted = let z : operations old + 0 ≡ operations old = omega arith in rw z refl;
  all = omega arith;
  faultless = λ n f. let z : n + 0 ≡ n = omega arith in rw z at f;
}

-- one step more
one_more : (a b x : ℕ) → b ≡ (a + 1) % 2 ^ 64 → a % 2 ^ 64 ≡ x % 2 ^ 64 → b % 2 ^ 64 ≡ (x + 1) % 2 ^ 64
one_more a b x e f = omega arith

moments_more : {F : Type 0} (image : F → List ℕ) (operates : F → FlashOperation → F → Type 0) (changes : List Change) (old middle new : F) → Same (settings_of (image middle)) (settings_of (image old)) → AtEachMoment image operates (IsBetween (image old) changes) old middle
    → IsBetween (image old) changes (image middle) → IsOperation image operates (IsBetween (image middle) changes) middle new → IsBetween (image middle) changes (image new) → AtEachMoment image operates (IsBetween (image old) changes) old new
moments_more image operates changes old middle new k m e o b =
    goes_on middle new m (record { operation = o.operation; made = o.made; cut = λ cut i may. between_both (image old) (image middle) changes cut k e (o.cut cut i may) }) (between_both (image old) (image middle) changes (image new) k e b)

pub so_far_more : {F : Type 0} (image : F → List ℕ) (operations : F → ℕ) (operates : F → FlashOperation → F → Type 0) (is_faultless : F → ℕ → Type 0) (changes : List Change) (failed : Bool) (first last : ℕ) (old : F) (before : SettingsValue) (middle : F) (after : SettingsValue) (new : F)
    → SoFar image operations operates is_faultless changes first old before middle → IsBusy before.job → Makes image operations operates is_faultless changes failed first last middle new → Relation (image new) changes after → failed ≡ false
    → (IsBusy after.job → Same (settings_of (image new)) (settings_of (image middle))) → ((IsBusy after.job → ⊥) → Same (settings_of (image new)) (changed (image middle) changes))
    → (IsBusy after.job → WritesMore before.job (image middle) changes (image new) after.job) → ((IsBusy after.job → ⊥) → WritesLast before.job (image middle) changes (image new))
    → SoFar image operations operates is_faultless changes last old after new
so_far_more image operations operates is_faultless changes failed first last old before middle after new s b m t f kept stored more ending =
    let k = s.kept b in
    let one = m.one f in
    let all = s.all in
    record {
      refines = t;
      kept = λ x id l. kept x id l ∙ k id l;
      stored = λ x id l. stored x id l ∙ changed_same (image old) (image middle) changes k id l;
      moments = moments_more image operates changes old middle new k s.moments s.ends m.operation m.ends;
      ends = between_both (image old) (image middle) changes (image new) k s.ends m.ends;
      written = written_step (image old) (image middle) (image new) changes before.job after.job s.written more ending;
      needed = s.needed;
      needs = s.needs;
      most = s.most;
      count = s.count + 1;
      counted = let z : operations old + (s.count + 1) ≡ operations old + s.count + 1 = omega arith in rw z (one_more (operations middle) (operations new) (operations old + s.count) m.counted s.counted);
      all = omega arith;
      faultless = λ n h. (m.faultless n (s.faultless (n + 1) (let z : n + (s.count + 1) ≡ n + 1 + s.count = omega arith in rw z at h))).0;
    }

-- all is stored
pub stores_all : {F T : Type 0} (image : F → List ℕ) (operations faults : F → ℕ) (operates : F → FlashOperation → F → Type 0) (is_faultless : F → ℕ → Type 0) (changes : List Change) (rest : ℕ) (value : T) (old : F) (settings : SettingsValue) (new : F)
    → SoFar image operations operates is_faultless changes rest old settings new → (IsBusy settings.job → ⊥) → Stores {F = F} {T = T} image operations faults operates is_faultless changes (Ok value) old new
stores_all image operations faults operates is_faultless changes rest value old settings new s b =
    let all = s.all in
    let most = s.most in
    record {
      stored = λ x. s.stored b;
      kept = λ x. absurd (x refl);
      any_moment = s.moments;
      ends = s.ends;
      few = record { count = s.count; is = omega arith; counted = s.counted };
      refused = λ why e. cc;
      fault = λ e. cc;
      progress = λ n h. (s.faultless n h, λ a. refl);
    }

nothing_left : (job : Job) (image : List ℕ) (changes : List Change) (settings : SettingsValue) → settings.job ≡ job → (IsBusy job → ⊥) → left image changes settings ≡ 0
nothing_left job image changes settings h1 h2 = grind (arith, common_steps)

-- by as many operations as were needed
pub count_all : {F : Type 0} (image : F → List ℕ) (operations : F → ℕ) (operates : F → FlashOperation → F → Type 0) (is_faultless : F → ℕ → Type 0) (changes : List Change) (old : F) (settings : SettingsValue) (new : F)
    → SoFar image operations operates is_faultless changes (left (image new) changes settings) old settings new → (IsBusy settings.job → ⊥) → HasMade (Needs (image old) changes) (operations old) (operations new)
count_all image operations operates is_faultless changes old settings new h1 h2 = grind (arith, common_steps, nothing_left)

-- a step failed
pub stores_none : {F T : Type 0} (image : F → List ℕ) (operations faults : F → ℕ) (operates : F → FlashOperation → F → Type 0) (is_faultless : F → ℕ → Type 0) (changes : List Change) (failed : Bool) (first last : ℕ) (old : F) (before : SettingsValue) (middle : F) (new : F)
    → SoFar image operations operates is_faultless changes first old before middle → IsBusy before.job → Makes image operations operates is_faultless changes failed first last middle new → failed ≡ true
    → Same (settings_of (image new)) (settings_of (image middle)) → IsFault image faults operates middle new → Stores {F = F} {T = T} image operations faults operates is_faultless changes (Err Fault) old new
stores_none image operations faults operates is_faultless changes failed first last old before middle new s b m f same why =
    let k = s.kept b in
    let fewer = m.fewer in
    let all = s.all in
    let most = s.most in
    record {
      stored = λ x. (let f : ⊥ = cc in absurd f);
      kept = λ x id l. same id l ∙ k id l;
      any_moment = moments_more image operates changes old middle new k s.moments s.ends m.operation m.ends;
      ends = between_both (image old) (image middle) changes (image new) k s.ends m.ends;
      few = record { count = s.count + 1; is = omega arith; counted = let z : operations old + (s.count + 1) ≡ operations old + s.count + 1 = omega arith in rw z (one_more (operations middle) (operations new) (operations old + s.count) m.counted s.counted) };
      refused = λ why e n. absurd (n cc);
      fault = λ e. record { flash = middle; before = s.moments; fault = why };
      progress = λ n h. let g = (m.faultless n (s.faultless (n + 1) (let z : n + (s.count + 1) ≡ n + 1 + s.count = omega arith in rw z at h))).1 in cc;
    }

-- nothing was begun
not_both : (why : SettingsError) (image : List ℕ) (changes : List Change) → IsRefused image changes why → IsAccepted image changes → ⊥
not_both why image changes h1 h2 = grind (arith, common_steps)

pub stores_nothing : {F T : Type 0} (image : F → List ℕ) (operations faults : F → ℕ) (operates : F → FlashOperation → F → Type 0) (is_faultless : F → ℕ → Type 0) (changes : List Change) (why : SettingsError) (old : F)
    → IsRefused (image old) changes why → Stores {F = F} {T = T} image operations faults operates is_faultless changes (Err why) old old
stores_nothing image operations faults operates is_faultless changes why old r = record {
  stored = λ x. (let f : ⊥ = cc in absurd f);
  kept = λ x id l. refl;
  any_moment = begins (between_none (image old) changes);
  ends = between_none (image old) changes;
  few = record { count = 0; is = omega arith; counted = let z : operations old + 0 ≡ operations old = omega arith in rw z refl };
  refused = λ other e n. (let s : why ≡ other = cc in rw (← s) r, refl);
  fault = λ e. absurd (let s : why ≡ Fault = cc in rw s at r);
  progress = λ n h. (let z : n + 0 ≡ n = omega arith in rw z at h, λ a. absurd (not_both why (image old) changes r a));
}

-- a change that gives an id the value that it has
changes_none : (image : List ℕ) (change : Change) → settings_of image change.id ≡ change.value → Same (settings_of image) (changed image (change ∷ []))
changes_none image change e id l =
    elim (cases_eq change.id id) [
      | inl s ↦ (let v : settings_of image id ≡ change.value = rw s at e in
          v ∙ sym (after-end change.value id) ∙ after-own (settings_of image id) change [] id s ∙ changed-is image (change ∷ []) id)
      | inr n ↦ sym (after-end (settings_of image id) id) ∙ after-skip (settings_of image id) change [] id n ∙ changed-is image (change ∷ []) id
    ]

pub stores_same : {F T : Type 0} (image : F → List ℕ) (operations faults : F → ℕ) (operates : F → FlashOperation → F → Type 0) (is_faultless : F → ℕ → Type 0) (change : Change) (value : T) (old : F)
    → settings_of (image old) change.id ≡ change.value → Stores {F = F} {T = T} image operations faults operates is_faultless (change ∷ []) (Ok value) old old
stores_same image operations faults operates is_faultless change value old e = record {
  stored = λ x. changes_none (image old) change e;
  kept = λ x. absurd (x refl);
  any_moment = begins (between_none (image old) (change ∷ []));
  ends = between_none (image old) (change ∷ []);
  few = record { count = 0; is = omega arith; counted = let z : operations old + 0 ≡ operations old = omega arith in rw z refl };
  refused = λ other f n. cc;
  fault = λ f. cc;
  progress = λ n h. (let z : n + 0 ≡ n = omega arith in rw z at h, λ a. refl);
}

-- no changes
pub changed_nothing : (image : List ℕ) → changed image [] ≡ settings_of image
unfolding changed settings_of
changed_nothing image = rw (append-nil (changes_in (words image))) refl

-- no id has a value of more than 64 bytes
no_changes : AreChanges []
no_changes k d l = absurd (omega arith)

is_short : (value : Option (List ℕ)) (bytes : List ℕ) → IsValueIfSome value → value ≡ Some bytes → length bytes ≤ 64
is_short value bytes v e = let w : IsValue bytes = rw e at v in w.short

pub never_long : (image : List ℕ) (id : ℕ) (bytes : List ℕ) → settings_of image id ≡ Some bytes → length bytes ≤ 64
never_long image id bytes e = is_short (changed image [] id) bytes (are_values image [] no_changes id) (rw (changed_nothing image) e)
