-- Whether changes may begin, and what they need.
use Rattle.std.proofs.lemmas.Grind.{common_steps}
use Rattle.std.proofs.Common.{◌≡◌, ◌∙◌, ◌↔◌, ℕ, ◌+◌, ◌-◌, ◌<◌, ◌≤◌, refl, sym, ap, subst, arith, IsTrue, List, [], ◌∷◌, ◌++◌, Option, Some, None, IsSomeAnd, nat_le}
use Rattle.std.proofs.lemmas.Bool.{cases_lt}
use Rattle.std.proofs.lemmas.List.{append-nil}
use Rattle.page_turnover.specs.declared.log.ActivePage.{ActivePage}
use Rattle.page_turnover.specs.Active.{active}
use Rattle.page_turnover.specs.Words.{words, IsTail}
use Rattle.page_turnover.specs.Log.{HasTailRoom}
use Rattle.page_turnover.specs.Value.{LogValue, Rest, Wait, Unread, Task}
use Rattle.page_turnover.specs.Turn.{target_page, copies, offered, HasShortWord}
use Rattle.page_turnover.specs.representation.Log.{Describes}
use Rattle.page_turnover.proofs.Describing.{same_page, held_active, held_none, unsound_none, le_of, le_test}
use Rattle.page_turnover.proofs.WordLists.{words_none}
use Rattle.page_turnover.specs.Usable.{IsUsable}
use Rattle.settings.specs.declared.change.Change.{Change}
use Rattle.settings.specs.declared.store.Job.TheVariants.{Appending, Turning}
use Rattle.settings.specs.Settings.{changed}
use Rattle.settings.specs.Copies.{copies_below}
use Rattle.settings.specs.Begins.{HasRoomFor, IsAppended, alive}
use Rattle.settings.specs.Left.{turn_left, target_of, Needs}
use Rattle.settings.specs.representation.Store.{IsAppending, IsTurn, IsSeal, AreChanges, given_words, Relation}
use Rattle.settings.proofs.Packing.{some_words}
use Rattle.settings.proofs.Turning.{erases_left-ready, erases_left-used}

-- a page has one tail
tail_le : (image : List ℕ) (page a b : ℕ) → IsTail image page a → IsTail image page b → a ≤ b
tail_le image page a b h1 h2 = grind (arith, common_steps, cases_lt)

pub same_tail : (image : List ℕ) (page a b : ℕ) → IsTail image page a → IsTail image page b → a ≡ b
same_tail image page a b x y = let p = tail_le image page a b x y in let q = tail_le image page b a y x in omega arith

-- the room for some words, by what a log holds
pub room_for : (image : List ℕ) (log : LogValue) (tail words : ℕ) → Describes image log → HasTailRoom log → IsSomeAnd (active image) (λ place. IsTail image place.0 tail) → tail + words ≤ 512 → HasRoomFor image words
room_for image log tail words h1 h2 h3 h4 = grind (arith, common_steps, held_active)

pub room_held : (image : List ℕ) (log : LogValue) (words : ℕ) → Describes image log → 0 < words → HasRoomFor image words → HasTailRoom log
room_held image log words h1 h2 h3 = grind (arith, common_steps, held_none, held_active, same_page, same_tail)

pub room_test : (image : List ℕ) (log : LogValue) (tail words : ℕ) → Describes image log → HasTailRoom log → IsSomeAnd (active image) (λ place. IsTail image place.0 tail) → 1 ≤ words → words ≤ 64 → IsTrue (nat_le tail (512 - words)) ↔ HasRoomFor image words
room_test image log tail words h1 h2 h3 h4 h5 = grind (arith, common_steps, le_of, room_for, le_test, same_tail)

-- the words of one change are next
pub begins_append : (image : List ℕ) (changes : List Change) (log : LogValue) → Describes image log → log.task ≡ Rest → IsUsable image → AreChanges changes → IsAppended image changes → IsAppending image changes log 0
begins_append image [] log d t u c a = absurd a
begins_append image (change ∷ other ∷ rest) log d t u c a = absurd a
begins_append image (change ∷ []) log d t u c a = by_active log.active refl
  where
    by_active : (held : Option ActivePage) → log.active ≡ held → IsAppending image (change ∷ []) log 0
    by_active None e = let f = held_none image log d e in let g = a.is_active in cc
    by_active (Some place) e =
        let held = held_active image log place d e in
        let p : place.page ≡ a.page = same_page image place.page place.seq a.page a.seq held.is_active a.is_active in
        let s : place.tail ≡ a.tail = same_tail image a.page place.tail a.tail (rw p at held.is_tail) a.is_tail in
        let f : Some place.format ≡ Some 2 = sym held.format_is ∙ a.current in
        let l = a.room in
        record {
          are_changes = c;
          change = change;
          one = refl;
          first = words image;
          words_are = sym (append-nil (words image));
          more = some_words change;
          rests = t;
          usable = unsound_none image log d u;
          place = place;
          is_active = e;
          current = cc;
          room = omega (arith, s, l);
        }

pub refines_appending : (image : List ℕ) (changes : List Change) (log : LogValue) → Describes image log → log.task ≡ Rest → IsUsable image → AreChanges changes → IsAppended image changes → Relation image changes (record { log = log; job = Appending 0 })
refines_appending image changes log d t u c a = record { log_is = d; job_is = begins_append image changes log d t u c a }

none_below : (values : ℕ → Option (List ℕ)) → copies_below values 0 ≡ []
unfolding copies_below
none_below values = refl

-- a compaction that was given nothing
pub refines_turning : (image : List ℕ) (changes : List Change) (before after : LogValue) → Describes image after → after ≡ record before { task = Wait Unread } → AreChanges changes → alive image changes ≤ 511 → Relation image changes (record { log = after; job = Turning 0 0 })
refines_turning image changes before after d e c l =
    let t : after.task ≡ Wait Unread = ap (λ (log : LogValue). log.task) e in
    let T : Task → Type 0 = λ x. IsTurn x × (copies image x ++ offered x ≡ given_words (changed image changes) 0 0) × (IsSeal x → ⊥) × HasShortWord x in
    let s = subst T (sym t) (tt, rw (words_none image (target_page image), none_below (changed image changes)) refl, (λ f. f), tt) in
    record {
      log_is = d;
      job_is = record {
        are_changes = c;
        of_turn = s.0;
        within = omega arith;
        own = λ z. absurd (omega arith);
        given = s.1;
        all = λ f. absurd (s.2 f);
        short = s.3;
        fits = l;
      };
    }

pub needs_turn : (image : List ℕ) (changes : List Change) (before after : LogValue) → after ≡ record before { task = Wait Unread } → (IsAppended image changes → ⊥) → Needs image changes (turn_left image changes (target_of after.task))
needs_turn image changes before after e n =
    let t : after.task ≡ Wait Unread = ap (λ (log : LogValue). log.task) e in
    let N : Task → Type 0 = λ x. Needs image changes (turn_left image changes (target_of x)) in
    subst N (sym t) (record {
      appended = λ a. absurd (n a);
      blank = λ m b. rw (erases_left-ready image Unread b) (omega arith);
      used = λ m u. rw (erases_left-used image u) (omega arith);
    })
