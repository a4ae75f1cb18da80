use Rattle.std.proofs.Common.{◌≡◌, ◌∙◌, ℕ, ◌≤◌, ◌<◌, refl, sym, arith, List, Option, Some, None, MatchOption, inl, inr, subst}
use Rattle.std.proofs.lemmas.Bool.{cases_eq}
use Rattle.records.specs.declared.Slot.TheVariants.{Free}
use Rattle.records.specs.Slots.{slot_of, IsSound}
use Rattle.records.proofs.SlotLemmas.{slot_of-blank, free_sound}
use Rattle.flash_model.specs.Image.{slot_at, page_count, IsImage}
use Rattle.flash_model.specs.Operations.{OneSlot, OnePage, Erases, MayErase}
use Rattle.flash_model.proofs.Places.{page_count-one_page}
use Rattle.page_turnover.specs.declared.log.ActivePage.{ActivePage}
use Rattle.page_turnover.specs.Value.{Task}
use Rattle.page_turnover.specs.Header.{HasHeader, header_word}
use Rattle.page_turnover.specs.Active.{active, format, IsActive}
use Rattle.page_turnover.specs.Words.{words}
use Rattle.page_turnover.specs.Usable.{IsUsable, IsFirstUnsound}
use Rattle.page_turnover.specs.Value.{LogValue}
use Rattle.page_turnover.specs.Turn.{target_page, next_seq, CanTurn}
use Rattle.page_turnover.specs.representation.Turn.{UnderWay}
use Rattle.page_turnover.specs.representation.Log.{Describes, IsHeld}
use Rattle.page_turnover.proofs.Headers.{is_active, active_of, is_none, active_none, format-same}
use Rattle.page_turnover.proofs.WordLists.{words_same}
use Rattle.page_turnover.proofs.Describing.{words_active, words_none_active}
use Rattle.page_turnover.proofs.Torn.{TornHeader, torn_header}
use Rattle.page_turnover.proofs.Operating.{SameHeaders, active-same, usable_same, other_than_header, tail_same, slot_is}

-- the active page is the same, and so are its slots
pub record KeepsActive (old new : List ℕ) : Type 0 where
  pub pages : page_count new ≡ page_count old
  pub active_is : active new ≡ active old
  pub slots : (p s k : ℕ) → active old ≡ Some (p, s) → k < 512 → slot_at new p k ≡ slot_at old p k
  pub usable : IsUsable old → IsUsable new

words_by : (old new : List ℕ) (place : Option (ℕ × ℕ)) → active old ≡ place → KeepsActive old new → words new ≡ words old
words_by old new None e k = words_none_active new (k.active_is ∙ e) ∙ sym (words_none_active old e)
words_by old new (Some place) e k =
    words_active new place.0 place.1 (k.active_is ∙ e) ∙ words_same old new place.0 511 (λ s a b. k.slots place.0 place.1 s e (omega arith)) ∙ sym (words_active old place.0 place.1 e)

pub words_kept : (old new : List ℕ) → KeepsActive old new → words new ≡ words old
words_kept old new k = words_by old new (active old) refl k

pub target_kept : (old new : List ℕ) → KeepsActive old new → target_page new ≡ target_page old
unfolding target_page
target_kept old new k = rw (k.active_is, k.pages) refl

pub next_kept : (old new : List ℕ) → KeepsActive old new → next_seq new ≡ next_seq old
unfolding next_seq
next_kept old new k = rw k.active_is refl

pub can_kept : (old new : List ℕ) → KeepsActive old new → CanTurn old → CanTurn new
can_kept old new k c = record { usable = k.usable c.usable; numbered = rw (next_kept old new k) c.numbered }

pub format_kept : (old new : List ℕ) → KeepsActive old new → format new ≡ format old
format_kept old new k = format-same old new k.active_is (λ p s e. k.slots p s 0 e (omega arith))

pub held_kept : (old new : List ℕ) (held : Option ActivePage) → KeepsActive old new → MatchOption held (active old ≡ None) (λ a. IsHeld old a) → MatchOption held (active new ≡ None) (λ a. IsHeld new a)
held_kept old new None k h = k.active_is ∙ h
held_kept old new (Some a) k h = record {
  is_active = k.active_is ∙ h.is_active;
  format_is = format_kept old new k ∙ h.format_is;
  is_tail = tail_same old new a.page a.tail (λ s l m. k.slots a.page a.seq s h.is_active m) h.is_tail;
}

-- where all slots 0 are sound, and stay so
pub still_usable : (old new : List ℕ) (held : Option ℕ) → MatchOption held (IsUsable old) (λ p. IsFirstUnsound old p) → IsUsable old → IsUsable new → MatchOption held (IsUsable new) (λ p. IsFirstUnsound new p)
still_usable old new None h u v = v
still_usable old new (Some p) h u v = absurd (h.unsound (u.sound p h.in_pages))

pub describes_kept : (old : List ℕ) (log : LogValue) (new : List ℕ) (next : Task) → Describes old log → IsImage new → KeepsActive old new → IsUsable old → UnderWay new next → Describes new (record log { task = next })
describes_kept old log new next d i k u t = record {
  whole = i;
  active_is = held_kept old new log.active k d.active_is;
  unsound_is = still_usable old new log.unsound d.unsound_is u (k.usable u);
  task_is = t;
}

-- an erase of a page sets each of its slots Free
pub erased_free : (old : List ℕ) (page : ℕ) (new : List ℕ) (s : ℕ) → s < 512 → Erases old page new → slot_of (slot_at new page s) ≡ Free
erased_free old page new s l e = rw (e.blank s l) slot_of-blank

-- where a page gets no header, no page does
header_before : (old : List ℕ) (page : ℕ) (new : List ℕ) (p s : ℕ) → OnePage old page new → ((s : ℕ) → HasHeader new page s → HasHeader old page s) → HasHeader new p s → HasHeader old p s
header_before old page new p s one made h = elim (cases_eq p page) [
  | inl e ↦ (let P : ℕ → Type 0 = λ q. HasHeader new q s → HasHeader old q s in subst P (sym e) (made s) h)
  | inr d ↦ record { format = h.format; known = h.known; bits = h.bits; good = rw (one.others p 0 (omega arith) d) at h.good }
]

page_by : (old : List ℕ) (page : ℕ) (new : List ℕ) (place : Option (ℕ × ℕ)) → active old ≡ place → ((s : ℕ) → active old ≡ Some (page, s) → ⊥) → OnePage old page new → ((s : ℕ) → HasHeader new page s → HasHeader old page s) → active new ≡ place
page_by old page new None e apart one made =
    let pages : page_count new ≡ page_count old = page_count-one_page old page new one in
    active_none new (λ p s l h. is_none old e p s (omega arith) (header_before old page new p s one made h))
page_by old page new (Some place) e apart one made =
    let pages : page_count new ≡ page_count old = page_count-one_page old page new one in
    let a : IsActive old place.0 place.1 = is_active old place.0 place.1 e in
    let other : place.0 ≡ page → ⊥ = λ same. apart place.1 (rw same at e) in
    let before : (p s : ℕ) → HasHeader new p s → HasHeader old p s = λ p s h. header_before old page new p s one made h in
    active_of new place.0 place.1 (record {
      in_pages = omega (arith, a.in_pages);
      header = record { format = a.header.format; known = a.header.known; bits = a.header.bits; good = rw (one.others place.0 0 (omega arith) other) a.header.good };
      greatest = λ p s l h. a.greatest p s (omega arith) (before p s h);
      lowest = λ p l h. a.lowest p l (before p place.1 h);
    })

-- a change of one page, whose slot 0 is sound after it
pub page_usable : (old : List ℕ) (page : ℕ) (new : List ℕ) → OnePage old page new → IsSound (slot_at new page 0) → IsUsable old → IsUsable new
page_usable old page new one sound u =
    let count : page_count new ≡ page_count old = page_count-one_page old page new one in
    record {
      sound = λ p l. elim (cases_eq p page) [
        | inl e ↦ (let P : ℕ → Type 0 = λ q. IsSound (slot_at new q 0) in subst P (sym e) sound)
        | inr d ↦ rw (one.others p 0 (omega arith) d) (u.sound p (omega arith))
      ];
    }

-- a change of one page that is not the active one and gets no header
pub page_keeps : (old : List ℕ) (page : ℕ) (new : List ℕ) → ((s : ℕ) → active old ≡ Some (page, s) → ⊥) → OnePage old page new → ((s : ℕ) → HasHeader new page s → HasHeader old page s) → (IsUsable old → IsSound (slot_at new page 0)) → KeepsActive old new
page_keeps old page new apart one made sound = record {
  pages = page_count-one_page old page new one;
  active_is = page_by old page new (active old) refl apart one made;
  slots = λ p s k e b. one.others p k b (λ same. apart s (rw same at e));
  usable = λ u. page_usable old page new one (sound u) u;
}

-- a whole erase
pub erased_keeps : (old : List ℕ) (page : ℕ) (new : List ℕ) → IsImage new → ((s : ℕ) → active old ≡ Some (page, s) → ⊥) → page < page_count old → Erases old page new → KeepsActive old new
erased_keeps old page new i apart inside g =
    let count : page_count new ≡ page_count old = page_count-one_page old page new g.rest in
    let free : slot_of (slot_at new page 0) ≡ Free = erased_free old page new 0 (omega arith) g in
    page_keeps old page new apart g.rest (λ s h. let e = h.good in cc) (λ u. free_sound (slot_at new page 0) (slot_is new page 0 i (omega arith) (omega arith)) free)

-- a torn erase makes no header that its page did not have
pub torn_no_header : (old : List ℕ) (page : ℕ) (new : List ℕ) → IsImage old → IsImage new → page < page_count old → IsUsable old → MayErase old page new → (s : ℕ) → HasHeader new page s → HasHeader old page s
torn_no_header old page new i j inside u g s h =
    let t : TornHeader old page new = torn_header old new page i j inside (u.sound page inside) g in
    record { format = h.format; known = h.known; bits = h.bits; good = t.same (header_word h.format s) h.good }

pub torn_no_headers : (old : List ℕ) (page : ℕ) (new : List ℕ) → IsImage old → IsImage new → page < page_count old → IsUsable old → MayErase old page new → (p s : ℕ) → HasHeader new p s → HasHeader old p s
torn_no_headers old page new i j inside u g p s h = header_before old page new p s g.rest (torn_no_header old page new i j inside u g) h

pub torn_erase_sound : (old : List ℕ) (page : ℕ) (new : List ℕ) → IsImage old → IsImage new → page < page_count old → IsUsable old → MayErase old page new → IsUsable new
torn_erase_sound old page new i j inside u g = page_usable old page new g.rest (torn_header old new page i j inside (u.sound page inside) g).sound u

pub torn_erase_keeps : (old : List ℕ) (page : ℕ) (new : List ℕ) → IsImage old → IsImage new → ((s : ℕ) → active old ≡ Some (page, s) → ⊥) → page < page_count old → IsUsable old → MayErase old page new → KeepsActive old new
torn_erase_keeps old page new i j apart inside u g =
    page_keeps old page new apart g.rest (torn_no_header old page new i j inside u g) (λ v. (torn_header old new page i j inside (v.sound page inside) g).sound)

-- a program changes its page alone
pub in_one_page : (old : List ℕ) (page slot : ℕ) (new : List ℕ) → OneSlot old page slot new → OnePage old page new
in_one_page old page slot new one = record { same_length = one.same_length; others = λ p s l d. one.others p s l (λ e f. d e) }

-- a program of a slot of another page
pub programmed_keeps : (old : List ℕ) (page slot : ℕ) (new : List ℕ) → 1 ≤ slot → ((s : ℕ) → active old ≡ Some (page, s) → ⊥) → OneSlot old page slot new → KeepsActive old new
programmed_keeps old page slot new l apart one =
    let h : SameHeaders old new = other_than_header old page slot new l one in
    record {
      pages = h.pages;
      active_is = active-same old new h;
      slots = λ p s k e b. one.others p k b (λ same f. apart s (rw same at e));
      usable = usable_same old new h;
    }
