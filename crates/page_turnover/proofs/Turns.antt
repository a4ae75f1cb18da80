use Rattle.std.proofs.Common.{◌≡◌, ◌∙◌, ℕ, ◌+◌, ◌-◌, ◌%◌, ◌≤◌, ◌<◌, ◌^◌, suc, zero, refl, sym, arith, List, ◌++◌, length, Option, Some, None, MatchOption, inl, inr}
use Rattle.std.specs.Prelude.{⊤}
use Rattle.std.proofs.lemmas.Bool.{cases_lt}
use Rattle.records.specs.declared.Slot.{Slot}
use Rattle.records.specs.declared.Slot.TheVariants.{Free, Good, Spoiled}
use Rattle.records.specs.Slots.{slot_of}
use Rattle.flash_model.specs.Image.{slot_at, page_count, IsImage}
use Rattle.page_turnover.specs.declared.log.ActivePage.{ActivePage}
use Rattle.page_turnover.specs.Value.{Target}
use Rattle.page_turnover.specs.Value.{Unread, Holds}
use Rattle.page_turnover.specs.Value.{Wait}
use Rattle.page_turnover.specs.Header.{HasHeader}
use Rattle.page_turnover.specs.Active.{active}
use Rattle.page_turnover.specs.Words.{IsTail, words_up_to, word_of}
use Rattle.page_turnover.specs.Usable.{IsUsable, IsFirstUnsound}
use Rattle.page_turnover.specs.Value.{LogValue}
use Rattle.page_turnover.specs.Turn.{target_page, next_seq, copied}
use Rattle.page_turnover.specs.representation.Turn.{HoldsCopies, TargetIs, IsGood}
use Rattle.page_turnover.specs.Steps.{IsReady}
use Rattle.page_turnover.specs.representation.Log.{Describes, IsHeld}
use Rattle.page_turnover.specs.Refusal.{MayTurn}
use Rattle.page_turnover.proofs.Headers.{is_active, is_none}
use Rattle.std.proofs.lemmas.Nat.{mod_below}
use Rattle.std.proofs.Math.Nat.{mod-eq_of_lt, mod_self}
use Rattle.std.proofs.Common.{length-append}
use Rattle.page_turnover.proofs.WordLists.{up_to_more, words_none, words_free}

pub next_seq-some : (image : List ℕ) (page seq : ℕ) → active image ≡ Some (page, seq) → next_seq image ≡ seq + 1
unfolding next_seq
next_seq-some image page seq e = rw e refl

pub next_seq-none : (image : List ℕ) → active image ≡ None → next_seq image ≡ 1
unfolding next_seq
next_seq-none image e = rw e refl

pub target_page-some : (image : List ℕ) (page seq : ℕ) → active image ≡ Some (page, seq) → target_page image ≡ (page + 1) % page_count image
unfolding target_page
target_page-some image page seq e = rw e refl

pub target_page-none : (image : List ℕ) → active image ≡ None → target_page image ≡ 0
unfolding target_page
target_page-none image e = rw e refl

-- the next number fits where the active page has not the last one
numbered : (image : List ℕ) (held : Option ActivePage) → MatchOption held (active image ≡ None) (λ a. IsHeld image a) → MatchOption held ⊤ (λ a. a.seq ≡ 2 ^ 28 - 1 → ⊥) → next_seq image < 2 ^ 28
numbered image None h n = let e = next_seq-none image h in omega arith
numbered image (Some a) h n =
    let e = next_seq-some image a.page a.seq h.is_active in
    let b : a.seq < 2 ^ 28 = (is_active image a.page a.seq h.is_active).header.bits in
    elim (cases_lt a.seq (2 ^ 28 - 1)) [
      | inl l ↦ omega arith
      | inr l ↦ absurd (n (omega arith))
    ]

usable_held : (image : List ℕ) (held : Option ℕ) → MatchOption held (IsUsable image) (λ page. IsFirstUnsound image page) → held ≡ None → IsUsable image
usable_held image None h e = h
usable_held image (Some page) h e = cc

pub begun : (image : List ℕ) (log : LogValue) → Describes image log → MayTurn log → Describes image (record log { task = Wait Unread })
begun image log d m = record {
  whole = d.whole;
  active_is = d.active_is;
  unsound_is = d.unsound_is;
  task_is = record { can = record { usable = usable_held image log.unsound d.unsound_is m.usable; numbered = numbered image log.active d.active_is m.numbered }; target_is = tt };
}

-- the target is a page, and not the active one
place_inside : (image : List ℕ) (place : Option (ℕ × ℕ)) → IsImage image → active image ≡ place → target_page image < page_count image
place_inside image None i e = let t = target_page-none image e in omega (arith, i.least)
place_inside image (Some place) i e = let t = target_page-some image place.0 place.1 e in let m = mod_below (place.0 + 1) (page_count image) (omega (arith, i.least)) in rw t m

pub target_inside : (image : List ℕ) → IsImage image → target_page image < page_count image
target_inside image i = place_inside image (active image) i refl

next_differs : (n k : ℕ) → 2 ≤ k → n < k → (n + 1) % k ≡ n → ⊥
next_differs n k two l e = elim (cases_lt (n + 1) k) [
  | inl a ↦ (let f : (n + 1) % k ≡ n + 1 = mod-eq_of_lt a in omega arith)
  | inr a ↦ (let g : n + 1 ≡ k = omega arith in let f : (n + 1) % k ≡ 0 = rw g (mod_self k) in omega arith)
]

pub target_apart : (image : List ℕ) (page seq : ℕ) → IsImage image → active image ≡ Some (page, seq) → target_page image ≡ page → ⊥
target_apart image page seq i e t = next_differs page (page_count image) i.least (is_active image page seq e).in_pages (sym (target_page-some image page seq e) ∙ t)

-- each header has a number below the next one
numbers_held : (image : List ℕ) (place : Option (ℕ × ℕ)) → active image ≡ place → (p s : ℕ) → p < page_count image → HasHeader image p s → s < next_seq image
numbers_held image None e p s l h = absurd (is_none image e p s l h)
numbers_held image (Some place) e p s l h =
    let n = next_seq-some image place.0 place.1 e in
    let g = (is_active image place.0 place.1 e).greatest p s l h in
    omega arith

pub numbers_below : (image : List ℕ) (p s : ℕ) → p < page_count image → HasHeader image p s → s < next_seq image
numbers_below image = numbers_held image (active image) refl

-- a target that is ready holds its copies
pub ready_holds : (image : List ℕ) (target : Target) → TargetIs image target → IsReady image target → HoldsCopies image (target_page image) (copied target)
ready_holds image Unread t r = record {
  few = omega arith;
  header = r 0 (omega arith) (omega arith);
  full = λ s a b. absurd (omega arith);
  rest = λ s a b. r s (omega arith) b;
}
ready_holds image (Holds n) t r = t

good_is_used : (s : Slot) → IsGood s → s ≡ Free → ⊥
good_is_used Free g e = g
good_is_used (Good w) g e = cc
good_is_used Spoiled g e = g

good_word_length : (s : Slot) → IsGood s → length (word_of s) ≡ 1
good_word_length Free g = absurd g
good_word_length (Good w) g = refl
good_word_length Spoiled g = absurd g

pub tail_of_copies : (image : List ℕ) (page n : ℕ) → HoldsCopies image page n → IsTail image page (n + 1)
tail_of_copies image page n h = record {
  low = omega arith;
  high = omega (arith, h.few);
  free = h.rest;
  used = λ l e. let same : n + 1 - 1 ≡ n = omega arith in good_is_used (slot_of (slot_at image page n)) (h.full n (omega arith) (omega arith)) (rw same at e);
}

pub words_of_copies : (image : List ℕ) (page n : ℕ) → HoldsCopies image page n → words_up_to image page 511 ≡ words_up_to image page n
words_of_copies image page n h = words_free image page n 511 h.few (λ s a b. h.rest s (omega arith) (omega arith))

count_up_to : (image : List ℕ) (page n : ℕ) → ((s : ℕ) → 1 ≤ s → s ≤ n → IsGood (slot_of (slot_at image page s))) → length (words_up_to image page n) ≡ n
count_up_to image page zero h = rw (words_none image page) refl
count_up_to image page (suc n) h =
    let e : suc n - 1 ≡ n = omega arith in
    let before : length (words_up_to image page n) ≡ n = count_up_to image page n (λ s a b. h s a (omega arith)) in
    let one : length (word_of (slot_of (slot_at image page (suc n)))) ≡ 1 = good_word_length (slot_of (slot_at image page (suc n))) (h (suc n) (omega arith) (omega arith)) in
    let more : words_up_to image page (suc n) ≡ words_up_to image page n ++ word_of (slot_of (slot_at image page (suc n))) = rw e at (up_to_more image page (suc n) (omega arith)) in
    rw more (omega (arith, length-append (words_up_to image page n) (word_of (slot_of (slot_at image page (suc n))))))

pub count_of_copies : (image : List ℕ) (page n : ℕ) → HoldsCopies image page n → length (words_up_to image page n) ≡ n
count_of_copies image page n h = count_up_to image page n h.full
