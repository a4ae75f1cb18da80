use Rattle.page_turnover.proofs.Turns.{count_of_copies}
use Rattle.page_turnover.proofs.WordLists.{words_none}
use Rattle.std.proofs.Common.{length}
use Rattle.std.proofs.Common.{◌≡◌, ◌∙◌, ℕ, ◌+◌, ◌-◌, ◌≤◌, ◌<◌, ◌^◌, refl, sym, arith, List, [], ◌∷◌, ◌++◌, Option, Some, None, MatchOption, inl, inr, subst}
use Rattle.std.specs.Prelude.{⊤}
use Rattle.std.proofs.lemmas.Bool.{cases_lt}
use Rattle.records.specs.declared.Slot.{Slot}
use Rattle.records.specs.declared.Slot.TheVariants.{Good}
use Rattle.records.specs.Slots.{slot_of, encoded}
use Rattle.flash_model.specs.Image.{slot_at, page_count, IsImage}
use Rattle.flash_model.specs.Operations.{OneSlot, Programs, Erases}
use Rattle.page_turnover.specs.declared.log.ActivePage.{ActivePage}
use Rattle.page_turnover.specs.Value.{Target}
use Rattle.page_turnover.specs.Value.{Unread, Holds}
use Rattle.page_turnover.specs.Value.{Task}
use Rattle.page_turnover.specs.Value.{Rest, Append, Wait, Copy, Seal}
use Rattle.page_turnover.specs.declared.log.stepping.Step.TheVariants.{Moved, Committed}
use Rattle.page_turnover.specs.Header.{header_word}
use Rattle.page_turnover.specs.Active.{active}
use Rattle.page_turnover.specs.Words.{words_up_to, IsBlank}
use Rattle.page_turnover.specs.Usable.{IsUsable, IsFirstUnsound}
use Rattle.page_turnover.specs.Value.{LogValue}
use Rattle.page_turnover.specs.Turn.{target_page, next_seq, copied, copies, IsPending}
use Rattle.page_turnover.specs.representation.Turn.{HoldsCopies, Turning, Copying, UnderWay, TargetIs, IsGood}
use Rattle.page_turnover.specs.Steps.{Appends, ErasesTarget, Copies, Seals, Steps, StepsFor, IsReady, EndsAs}
use Rattle.page_turnover.specs.representation.Log.{Describes, IsHeld}
use Rattle.page_turnover.proofs.WordLists.{words_same, up_to_more}
use Rattle.page_turnover.proofs.Describing.{held_active, tail_of_room}
use Rattle.page_turnover.proofs.Operating.{Appended, appended, Headed, headed, usable_same, programmed_good}
use Rattle.page_turnover.proofs.Headers.{is_active}
use Rattle.page_turnover.proofs.Turns.{next_seq-some, next_seq-none, target_inside, target_apart, numbers_below, ready_holds, tail_of_copies}
use Rattle.page_turnover.proofs.Kept.{KeepsActive, target_kept, can_kept, still_usable, describes_kept, erased_free, erased_keeps, programmed_keeps}

pub under_way : (old : List ℕ) (before : LogValue) (task : Task) → Describes old before → before.task ≡ task → UnderWay old task
under_way old before task d e = rw e at d.task_is

pub apart : (old : List ℕ) (before : LogValue) → Describes old before → (s : ℕ) → active old ≡ Some (target_page old, s) → ⊥
apart old before d s e = target_apart old (target_page old) s d.whole e refl

unsound_kept : (old new : List ℕ) (held : Option ℕ) → MatchOption held (IsUsable old) (λ p. IsFirstUnsound old p) → IsUsable old → (IsUsable old → IsUsable new) → MatchOption held (IsUsable new) (λ p. IsFirstUnsound new p)
unsound_kept old new held h u k = still_usable old new held h u (k u)

-- the tail slot of the active page is a slot where a word is to be appended
pub append_room : (old : List ℕ) (before : LogValue) (word : ℕ) (a : ActivePage) → Describes old before → before.task ≡ Append word → before.active ≡ Some a → a.tail ≤ 511
append_room old before word a d e h = (tail_of_room old before a d h (under_way old before (Append word) d e).room).1

pub append_fact : (old : List ℕ) (before : LogValue) (word : ℕ) (a : ActivePage) (new : List ℕ) → Describes old before → before.task ≡ Append word → before.active ≡ Some a → IsImage new → Programs old a.page a.tail (encoded word) new → Appended old a.page a.tail word new
append_fact old before word a new d e h i g =
    let at = held_active old before a d h in
    appended old a.page a.seq a.tail word new (under_way old before (Append word) d e).fits d.whole i at.is_active at.is_tail (append_room old before word a d e h) g

pub append_ends : (old : List ℕ) (before : LogValue) (word : ℕ) (a : ActivePage) (new : List ℕ) → Describes old before → before.task ≡ Append word → before.active ≡ Some a → IsImage new → Programs old a.page a.tail (encoded word) new
    → EndsAs old before Committed new (record { active = Some (record a { tail = a.tail + 1 }); unsound = before.unsound; task = Rest })
append_ends old before word a new d e h i g =
    let f : Appended old a.page a.tail word new = append_fact old before word a new d e h i g in
    let at = held_active old before a d h in
    let u : IsUsable old = (under_way old before (Append word) d e).usable in
    let m : Appends old before word Committed new (record { active = Some (record a { tail = a.tail + 1 }); unsound = before.unsound; task = Rest }) =
    record { answer = refl; place = a; is_active = h; programmed = g; next = refl } in
    record {
      describes = record {
        whole = i;
        active_is = record { is_active = f.active_is ∙ at.is_active; format_is = f.format_is ∙ at.format_is; is_tail = f.tail_is };
        unsound_is = unsound_kept old new before.unsound d.unsound_is u (usable_same old new f.headers);
        task_is = tt;
      };
      done = λ n. let P : Task → Type 0 = λ t. StepsFor t old before Committed new (record { active = Some (record a { tail = a.tail + 1 }); unsound = before.unsound; task = Rest }) in subst P (sym e) m;
      pending = λ x. cc;
      rests = λ x. cc;
      kept = λ x. cc;
    }

-- a target that was erased
pub erased_keep : (old : List ℕ) (before : LogValue) (new : List ℕ) → Describes old before → IsImage new → Erases old (target_page old) new → KeepsActive old new
erased_keep old before new d i g = erased_keeps old (target_page old) new i (apart old before d) (target_inside old d.whole) g

pub erased_holds : (old : List ℕ) (before : LogValue) (new : List ℕ) → Describes old before → IsImage new → Erases old (target_page old) new → HoldsCopies new (target_page new) 0
erased_holds old before new d i g =
    let t : target_page new ≡ target_page old = target_kept old new (erased_keep old before new d i g) in
    rw t (record {
      few = omega arith;
      header = erased_free old (target_page old) new 0 (omega arith) g;
      full = λ s a b. absurd (omega arith);
      rest = λ s a b. erased_free old (target_page old) new s b g;
    })

erase_ends : (old : List ℕ) (before : LogValue) (pending : Target → Task) (new : List ℕ) → Describes old before → IsUsable old → IsImage new → Erases old (target_page old) new → UnderWay new (pending (Holds 0))
    → (ErasesTarget old before Unread pending Moved new (record before { task = pending (Holds 0) }) → Steps old before Moved new (record before { task = pending (Holds 0) }))
    → (IsBlank old (target_page old) → ⊥) → EndsAs old before Moved new (record before { task = pending (Holds 0) })
erase_ends old before pending new d u i g w made used = record {
  describes = describes_kept old before new (pending (Holds 0)) d i (erased_keep old before new d i g) u w;
  done = λ n. made (record { answer = refl; unread = refl; used = used; erased = g; next = refl });
  pending = λ x. cc;
  rests = λ x. cc;
  kept = λ x. cc;
}

pub erase_for_copy : (old : List ℕ) (before : LogValue) (target : Target) (word : ℕ) (new : List ℕ) → Describes old before → before.task ≡ Copy target word → target ≡ Unread → (IsBlank old (target_page old) → ⊥) → IsImage new → Erases old (target_page old) new
    → EndsAs old before Moved new (record before { task = Copy (Holds 0) word })
erase_for_copy old before target word new d e unread used i g =
    let f : before.task ≡ Copy Unread word = rw unread at e in
    let c : Copying old Unread word = under_way old before (Copy Unread word) d f in
    let P : Task → Type 0 = λ t. StepsFor t old before Moved new (record before { task = Copy (Holds 0) word }) in
    erase_ends old before (λ t. Copy t word) new d c.turning.can.usable i g
    (record { turning = record { can = can_kept old new (erased_keep old before new d i g) c.turning.can; target_is = erased_holds old before new d i g }; few = omega arith; fits = c.fits })
    (λ m. subst P (sym f) (inl m)) used

pub erase_for_seal : (old : List ℕ) (before : LogValue) (target : Target) (new : List ℕ) → Describes old before → before.task ≡ Seal target → target ≡ Unread → (IsBlank old (target_page old) → ⊥) → IsImage new → Erases old (target_page old) new
    → EndsAs old before Moved new (record before { task = Seal (Holds 0) })
erase_for_seal old before target new d e unread used i g =
    let f : before.task ≡ Seal Unread = rw unread at e in
    let c : Turning old Unread = under_way old before (Seal Unread) d f in
    let P : Task → Type 0 = λ t. StepsFor t old before Moved new (record before { task = Seal (Holds 0) }) in
    erase_ends old before Seal new d c.can.usable i g
    (record { can = can_kept old new (erased_keep old before new d i g) c.can; target_is = erased_holds old before new d i g })
    (λ m. subst P (sym f) (inl m)) used

-- the copies in a target after one more
pub copied_holds : (old new : List ℕ) (page n word : ℕ) → n < 511 → word < 2 ^ 32 → IsImage old → IsImage new → page < page_count old → HoldsCopies old page n → Programs old page (n + 1) (encoded word) new → HoldsCopies new page (n + 1)
copied_holds old new page n word few fits i j inside h g =
    let good : slot_of (slot_at new page (n + 1)) ≡ Good word = programmed_good old new page (n + 1) word fits i j inside (omega arith) (h.rest (n + 1) (omega arith) (omega arith)) g in
    let G : Slot → Type 0 = λ s. IsGood s in
    record {
      few = omega arith;
      header = rw (g.rest.others page 0 (omega arith) (λ e f. omega arith)) h.header;
      full = λ s a b. elim (cases_lt s (n + 1)) [
        | inl l ↦ rw (g.rest.others page s (omega arith) (λ e f. omega arith)) (h.full s a (omega arith))
        | inr l ↦ (let e : n + 1 ≡ s = omega arith in let P : ℕ → Type 0 = λ k. IsGood (slot_of (slot_at new page k)) in subst P e (subst G (sym good) tt))
      ];
      rest = λ s a b. rw (g.rest.others page s b (λ e f. omega arith)) (h.rest s (omega arith) b);
    }

pub copied_words : (old new : List ℕ) (page n word : ℕ) → n < 511 → word < 2 ^ 32 → IsImage old → IsImage new → page < page_count old → HoldsCopies old page n → Programs old page (n + 1) (encoded word) new → words_up_to new page (n + 1) ≡ words_up_to old page n ++ word ∷ []
copied_words old new page n word few fits i j inside h g =
    let good : slot_of (slot_at new page (n + 1)) ≡ Good word = programmed_good old new page (n + 1) word fits i j inside (omega arith) (h.rest (n + 1) (omega arith) (omega arith)) g in
    let back : n + 1 - 1 ≡ n = omega arith in
    let more = rw back at (up_to_more new page (n + 1) (omega arith)) in
    let same : words_up_to new page n ≡ words_up_to old page n = words_same old new page n (λ s a b. g.rest.others page s (omega arith) (λ e f. omega arith)) in
    more ∙ rw (good, same) refl

-- a copy
pub copy_keep : (old : List ℕ) (before : LogValue) (n : ℕ) (new : List ℕ) → Describes old before → OneSlot old (target_page old) (n + 1) new → KeepsActive old new
copy_keep old before n new d one = programmed_keeps old (target_page old) (n + 1) new (omega arith) (apart old before d) one

pub copy_ends : (old : List ℕ) (before : LogValue) (target : Target) (word : ℕ) (new : List ℕ) → Describes old before → before.task ≡ Copy target word → IsReady old target → IsImage new → Programs old (target_page old) (copied target + 1) (encoded word) new
    → EndsAs old before Moved new (record before { task = Wait (Holds (copied target + 1)) })
copy_ends old before target word new d e ready i g =
    let c : Copying old target word = under_way old before (Copy target word) d e in
    let k : KeepsActive old new = copy_keep old before (copied target) new d g.rest in
    let h : HoldsCopies old (target_page old) (copied target) = ready_holds old target c.turning.target_is ready in
    let t : target_page new ≡ target_page old = target_kept old new k in
    let m : Copies old before target word Moved new (record before { task = Wait (Holds (copied target + 1)) }) = record { answer = refl; ready = ready; programmed = g; next = refl } in
    let P : Task → Type 0 = λ x. StepsFor x old before Moved new (record before { task = Wait (Holds (copied target + 1)) }) in
    record {
      describes = describes_kept old before new (Wait (Holds (copied target + 1))) d i k c.turning.can.usable (record {
        can = can_kept old new k c.turning.can;
        target_is = rw t (copied_holds old new (target_page old) (copied target) word c.few c.fits d.whole i (target_inside old d.whole) h g);
      });
      done = λ n. subst P (sym e) (inr m);
      pending = λ x. cc;
      rests = λ x. cc;
      kept = λ x. cc;
    }

-- a commit header
pub seal_fact : (old : List ℕ) (before : LogValue) (target : Target) (new : List ℕ) → Describes old before → before.task ≡ Seal target → IsReady old target → IsImage new → Programs old (target_page old) 0 (encoded (header_word 2 (next_seq old))) new → Headed old (target_page old) (next_seq old) new
seal_fact old before target new d e ready i g =
    let c : Turning old target = under_way old before (Seal target) d e in
    let h : HoldsCopies old (target_page old) (copied target) = ready_holds old target c.target_is ready in
    headed old (target_page old) (next_seq old) new c.can.numbered d.whole i (target_inside old d.whole) h.header (numbers_below old) g

pub seal_ends : (old : List ℕ) (before : LogValue) (target : Target) (new : List ℕ) → Describes old before → before.task ≡ Seal target → IsReady old target → IsImage new → Programs old (target_page old) 0 (encoded (header_word 2 (next_seq old))) new
    → EndsAs old before Committed new (record { active = Some (record { page = target_page old; seq = next_seq old; format = 2; tail = copied target + 1 }); unsound = before.unsound; task = Rest })
seal_ends old before target new d e ready i g =
    let c : Turning old target = under_way old before (Seal target) d e in
    let h : HoldsCopies old (target_page old) (copied target) = ready_holds old target c.target_is ready in
    let f : Headed old (target_page old) (next_seq old) new = seal_fact old before target new d e ready i g in
    let after : LogValue = record { active = Some (record { page = target_page old; seq = next_seq old; format = 2; tail = copied target + 1 }); unsound = before.unsound; task = Rest } in
    let m : Seals old before target Committed new after = record { answer = refl; ready = ready; programmed = g; next = refl } in
    let P : Task → Type 0 = λ x. StepsFor x old before Committed new after in
    record {
      describes = record {
        whole = i;
        active_is = record { is_active = f.active_is; format_is = f.format_is; is_tail = f.tail_is (copied target + 1) (tail_of_copies old (target_page old) (copied target) h) };
        unsound_is = unsound_kept old new before.unsound d.unsound_is c.can.usable f.usable;
        task_is = tt;
      };
      done = λ n. subst P (sym e) (inr m);
      pending = λ x. cc;
      rests = λ x. cc;
      kept = λ x. cc;
    }

-- the number that the code has
seq_by : (image : List ℕ) (held : Option ActivePage) (seq : ℕ) → MatchOption held (active image ≡ None) (λ a. IsHeld image a) → MatchOption held (seq ≡ 1) (λ a. seq ≡ a.seq + 1) → seq ≡ next_seq image
seq_by image None seq h e = e ∙ sym (next_seq-none image h)
seq_by image (Some a) seq h e = e ∙ sym (next_seq-some image a.page a.seq h.is_active)

pub seq_is : (image : List ℕ) (log : LogValue) (seq : ℕ) → Describes image log → MatchOption log.active (seq ≡ 1) (λ a. seq ≡ a.seq + 1) → seq ≡ next_seq image
seq_is image log seq d e = seq_by image log.active seq d.active_is e

small_by : (image : List ℕ) (held : Option ActivePage) → MatchOption held (active image ≡ None) (λ a. IsHeld image a) → MatchOption held ⊤ (λ a. a.seq < 2 ^ 28)
small_by image None h = tt
small_by image (Some a) h = (is_active image a.page a.seq h.is_active).header.bits

pub seq_small : (image : List ℕ) (log : LogValue) → Describes image log → MatchOption log.active ⊤ (λ a. a.seq < 2 ^ 28)
seq_small image log d = small_by image log.active d.active_is

-- what is pending is pending on an image whose slots 0 are sound
pub usable_of : (image : List ℕ) (task : Task) → IsPending task → UnderWay image task → IsUsable image
usable_of image Rest p u = absurd p
usable_of image (Append word) p u = u.usable
usable_of image (Wait target) p u = absurd p
usable_of image (Copy target word) p u = u.turning.can.usable
usable_of image (Seal target) p u = u.can.usable

-- the copies of a waiting compaction are as many as it counted
pub waiting_count : (image : List ℕ) (target : Target) → TargetIs image target → length (copies image (Wait target)) ≡ copied target
waiting_count image Unread t = rw (words_none image (target_page image)) refl
waiting_count image (Holds n) t = count_of_copies image (target_page image) n t
