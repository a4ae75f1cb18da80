use Rattle.std.proofs.Common.{◌≡◌, ◌∙◌, ℕ, ◌+◌, ◌-◌, ◌≤◌, ◌<◌, ◌^◌, suc, zero, refl, sym, arith, List, [], ◌∷◌, ◌++◌, Some, inl, inr, subst}
use Rattle.std.proofs.lemmas.Bool.{cases_lt}
use Rattle.records.specs.declared.Slot.TheVariants.{Free, Good}
use Rattle.records.specs.Slots.{IsSlot, IsSound, slot_of, encoded}
use Rattle.records.proofs.SlotLemmas.{programmed_free, slot_of-encoded, encoded_sound}
use Rattle.flash_model.specs.Image.{slot_at, page_count, IsImage}
use Rattle.flash_model.specs.Operations.{OneSlot, Programs}
use Rattle.flash_model.proofs.Places.{slot_length, slot_bytes, page_count-one_slot}
use Rattle.page_turnover.specs.Header.{HasHeader, IsFormat, header_word}
use Rattle.page_turnover.specs.Active.{IsActive, newest, active, format}
use Rattle.page_turnover.specs.Words.{words_up_to, words, FreeFrom, IsTail}
use Rattle.page_turnover.specs.Usable.{IsSoundBelow, IsUsable}
use Rattle.page_turnover.proofs.Headers.{is_active, active_of, header_word-small, format_is, format-same}
use Rattle.page_turnover.proofs.WordLists.{words_appended, words_same}
use Rattle.page_turnover.proofs.Describing.{words_active}

-- two images of as many pages, with the same slots 0
pub record SameHeaders (old new : List ℕ) : Type 0 where
  pub pages : page_count new ≡ page_count old
  pub slots : (p : ℕ) → p < page_count old → slot_at new p 0 ≡ slot_at old p 0

newest-same : (old new : List ℕ) (n : ℕ) → ((p : ℕ) → p < n → slot_at new p 0 ≡ slot_at old p 0) → newest new n ≡ newest old n
unfolding newest
newest-same old new zero h = refl
newest-same old new (suc n) h = rw (newest-same old new n (λ p l. h p (omega arith)), h n (omega arith)) refl

pub active-same : (old new : List ℕ) → SameHeaders old new → active new ≡ active old
unfolding active
active-same old new h = rw h.pages (newest-same old new (page_count old) h.slots)

sound_below : (old new : List ℕ) (n : ℕ) → n ≤ page_count old → SameHeaders old new → IsSoundBelow old n → IsSoundBelow new n
sound_below old new n m h u = record { sound = λ p l. rw (h.slots p (omega arith)) (u.sound p l) }

pub usable_same : (old new : List ℕ) → SameHeaders old new → IsUsable old → IsUsable new
usable_same old new h u = rw h.pages (sound_below old new (page_count old) (omega arith) h u)

-- a program of a slot but a slot 0
pub other_than_header : (old : List ℕ) (page slot : ℕ) (new : List ℕ) → 1 ≤ slot → OneSlot old page slot new → SameHeaders old new
other_than_header old page slot new l one = record { pages = page_count-one_slot old page slot new one; slots = λ p m. one.others p 0 (omega arith) (λ e f. omega arith) }

pub slot_is : (image : List ℕ) (page slot : ℕ) → IsImage image → page < page_count image → slot < 512 → IsSlot (slot_at image page slot)
slot_is image page slot i p s = record { eight = slot_length image page slot i p s; each = slot_bytes image page slot i }

-- a program of a Free slot leaves the word
pub programmed_is : (old new : List ℕ) (page slot word : ℕ) → IsImage old → IsImage new → page < page_count old → slot < 512 → slot_of (slot_at old page slot) ≡ Free → Programs old page slot (encoded word) new → slot_at new page slot ≡ encoded word
programmed_is old new page slot word i j p s free g =
    let pages : page_count new ≡ page_count old = page_count-one_slot old page slot new g.rest in
    programmed_free word (slot_at old page slot) (slot_at new page slot) (slot_is old page slot i p s) free (slot_length new page slot j (omega arith) s) g.bytes

pub programmed_good : (old new : List ℕ) (page slot word : ℕ) → word < 2 ^ 32 → IsImage old → IsImage new → page < page_count old → slot < 512 → slot_of (slot_at old page slot) ≡ Free → Programs old page slot (encoded word) new → slot_of (slot_at new page slot) ≡ Good word
programmed_good old new page slot word w i j p s free g = rw (programmed_is old new page slot word i j p s free g) (slot_of-encoded word w)

-- one slot more that is not Free
pub tail_more : (old new : List ℕ) (page tail word : ℕ) → 1 ≤ tail → tail ≤ 511 → FreeFrom old page tail → OneSlot old page tail new → slot_of (slot_at new page tail) ≡ Good word → IsTail new page (tail + 1)
tail_more old new page tail word low high free one good = record {
  low = omega arith;
  high = omega arith;
  free = λ s a b. rw (one.others page s b (λ e f. omega arith)) (free s (omega arith) b);
  used = λ l e. let same : tail + 1 - 1 ≡ tail = omega arith in let f : slot_of (slot_at new page tail) ≡ Free = rw same at e in cc;
}

-- a word programmed into the tail slot of the active page is appended
pub record Appended (old : List ℕ) (page tail word : ℕ) (new : List ℕ) : Type 0 where
  pub headers : SameHeaders old new
  pub active_is : active new ≡ active old
  pub format_is : format new ≡ format old
  pub words_are : words new ≡ words old ++ word ∷ []
  pub tail_is : IsTail new page (tail + 1)

pub appended : (old : List ℕ) (page seq tail word : ℕ) (new : List ℕ) → word < 2 ^ 32 → IsImage old → IsImage new → active old ≡ Some (page, seq) → IsTail old page tail → tail ≤ 511 → Programs old page tail (encoded word) new → Appended old page tail word new
appended old page seq tail word new w i j a t l g =
    let inside : page < page_count old = (is_active old page seq a).in_pages in
    let free : slot_of (slot_at old page tail) ≡ Free = t.free tail (omega arith) (omega arith) in
    let good : slot_of (slot_at new page tail) ≡ Good word = programmed_good old new page tail word w i j inside (omega arith) free g in
    let headers : SameHeaders old new = other_than_header old page tail new t.low g.rest in
    let same : active new ≡ active old = active-same old new headers in
    let more = words_appended old new page tail t.low l t.free g.rest in
    record {
      headers = headers;
      active_is = same;
      format_is = format-same old new same (λ p s e. headers.slots p (is_active old p s e).in_pages);
      words_are = words_active new page seq (same ∙ a) ∙ more ∙ rw (good, words_active old page seq a) refl;
      tail_is = tail_more old new page tail word t.low l t.free g.rest good;
    }

-- a header programmed into a Free slot 0, with a number above all others
pub record Headed (old : List ℕ) (page seq : ℕ) (new : List ℕ) : Type 0 where
  pub active_is : active new ≡ Some (page, seq)
  pub format_is : format new ≡ Some 2
  pub words_are : words new ≡ words_up_to old page 511
  pub usable : IsUsable old → IsUsable new
  pub tail_is : (tail : ℕ) → IsTail old page tail → IsTail new page tail

pub tail_same : (old new : List ℕ) (page tail : ℕ) → ((s : ℕ) → 1 ≤ s → s < 512 → slot_at new page s ≡ slot_at old page s) → IsTail old page tail → IsTail new page tail
tail_same old new page tail h t = record {
  low = t.low;
  high = t.high;
  free = λ s a b. rw (h s (omega (arith, t.low)) b) (t.free s a b);
  used = λ l e. t.used l (rw (h (tail - 1) (omega arith) (omega (arith, t.high))) at e);
}

header_kept : (old : List ℕ) (page : ℕ) (new : List ℕ) (p s : ℕ) → OneSlot old page 0 new → (p ≡ page → ⊥) → HasHeader new p s → HasHeader old p s
header_kept old page new p s one apart h = record { format = h.format; known = h.known; bits = h.bits; good = rw (one.others p 0 (omega arith) (λ e f. apart e)) at h.good }

pub good_same : (v w : ℕ) → Good v ≡ Good w → v ≡ w
good_same v w e = cc

word_same : (format s t : ℕ) → IsFormat format → s < 2 ^ 28 → header_word format s ≡ header_word 2 t → t < 2 ^ 28 → s ≡ t
unfolding header_word
word_same format s t (inl e) b f c = absurd (omega arith)
word_same format s t (inr e) b f c = omega arith

pub headed : (old : List ℕ) (page seq : ℕ) (new : List ℕ) → seq < 2 ^ 28 → IsImage old → IsImage new → page < page_count old → slot_of (slot_at old page 0) ≡ Free → ((p s : ℕ) → p < page_count old → HasHeader old p s → s < seq) → Programs old page 0 (encoded (header_word 2 seq)) new → Headed old page seq new
headed old page seq new b i j inside free below g =
    let is : slot_at new page 0 ≡ encoded (header_word 2 seq) = programmed_is old new page 0 (header_word 2 seq) i j inside (omega arith) free g in
    let good : slot_of (slot_at new page 0) ≡ Good (header_word 2 seq) = rw is (slot_of-encoded (header_word 2 seq) (header_word-small seq b)) in
    let pages : page_count new ≡ page_count old = page_count-one_slot old page 0 new g.rest in
    let here : (s : ℕ) → HasHeader new page s → s ≡ seq = λ s h. word_same h.format s seq h.known h.bits (good_same (header_word h.format s) (header_word 2 seq) (sym h.good ∙ good)) b in
    let least : (p s : ℕ) → p < page_count old → HasHeader new p s → (p ≡ page → ⊥) → s < seq = λ p s l h apart. below p s l (header_kept old page new p s g.rest apart h) in
    let is_active : IsActive new page seq = record {
      in_pages = omega arith;
      header = record { format = 2; known = inr refl; bits = b; good = good };
      greatest = λ p s l h. elim (cases_lt p page) [
        | inl a ↦ (let m : s < seq = least p s (omega arith) h (λ e. omega arith) in omega arith)
        | inr a ↦ elim (cases_lt page p) [
          | inl c ↦ (let m : s < seq = least p s (omega arith) h (λ e. omega arith) in omega arith)
          | inr c ↦ (let e : p ≡ page = omega arith in let P : ℕ → Type 0 = λ q. HasHeader new q s in let f : s ≡ seq = here s (subst P e h) in omega arith)
        ]
      ];
      lowest = λ p l h. let m : seq < seq = least p seq (omega arith) h (λ e. omega arith) in omega arith;
    } in
    let others : (s : ℕ) → 1 ≤ s → s < 512 → slot_at new page s ≡ slot_at old page s = λ s x y. g.rest.others page s y (λ e f. omega arith) in
    record {
      active_is = active_of new page seq is_active;
      format_is = format_is new 2 (record { page = page; seq = seq; is_active = is_active; known = inr refl; good = good });
      words_are = words_active new page seq (active_of new page seq is_active) ∙ words_same old new page 511 (λ s x y. others s x (omega arith));
      usable = λ u. record {
        sound = λ p l. elim (cases_lt p page) [
          | inl a ↦ rw (g.rest.others p 0 (omega arith) (λ e f. omega arith)) (u.sound p (omega arith))
          | inr a ↦ elim (cases_lt page p) [
            | inl c ↦ rw (g.rest.others p 0 (omega arith) (λ e f. omega arith)) (u.sound p (omega arith))
            | inr c ↦ (let e : page ≡ p = omega arith in let P : ℕ → Type 0 = λ q. IsSound (slot_at new q 0) in subst P e (rw is (encoded_sound (header_word 2 seq) (header_word-small seq b))))
          ]
        ];
      };
      tail_is = λ tail t. tail_same old new page tail others t;
    }
