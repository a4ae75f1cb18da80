use Rattle.std.proofs.Common.{◌≡◌, ◌∙◌, ℕ, ◌-◌, ◌≤◌, ◌<◌, sym, ap, refl, arith, true, List, [], Some, None, inl, inr, nat_le}
use Rattle.std.proofs.lemmas.Bool.Decides.{nat_tests}
use Rattle.std.proofs.lemmas.Bool.{cases_lt}
use Rattle.records.specs.declared.Slot.TheVariants.{Free}
use Rattle.records.specs.Slots.{slot_of}
use Rattle.flash_model.specs.Image.{slot_at, page_count}
use Rattle.page_turnover.specs.declared.log.ActivePage.{ActivePage}
use Rattle.page_turnover.specs.Active.{active}
use Rattle.page_turnover.specs.Words.{HasRoom, words, words_up_to}
use Rattle.page_turnover.specs.Value.{LogValue}
use Rattle.page_turnover.specs.Log.{HasTailRoom}
use Rattle.page_turnover.specs.representation.Log.{Describes, IsHeld}
use Rattle.page_turnover.specs.Usable.{IsUsable, IsFirstUnsound}
use Rattle.std.specs.Prelude.{IsSomeAnd, Option, MatchOption}
use Rattle.page_turnover.proofs.Headers.{is_active}

some_same : (x y : ℕ × ℕ) → Some x ≡ Some y → x ≡ y
some_same x y e = cc

-- there is one active page
pub same_page : (image : List ℕ) (p s q t : ℕ) → active image ≡ Some (p, s) → active image ≡ Some (q, t) → p ≡ q
same_page image p s q t e f = ap (λ (a : ℕ × ℕ). a.0) (some_same (p, s) (q, t) (sym e ∙ f))

pub le_of : (a b : ℕ) → nat_le a b ≡ true → a ≤ b
le_of a b e = grind (arith, nat_tests)

pub le_test : (a b : ℕ) → a ≤ b → nat_le a b ≡ true
le_test a b l = grind (arith, nat_tests)

-- the active page that a log holds
pub held_active : (image : List ℕ) (log : LogValue) (a : ActivePage) → Describes image log → log.active ≡ Some a → IsHeld image a
held_active image log a d e = rw e at d.active_is

pub held_none : (image : List ℕ) (log : LogValue) → Describes image log → log.active ≡ None → active image ≡ None
held_none image log d e = rw e at d.active_is

pub held_inside : (image : List ℕ) (log : LogValue) (a : ActivePage) → Describes image log → log.active ≡ Some a → a.page < page_count image
held_inside image log a d e = (is_active image a.page a.seq (held_active image log a d e).is_active).in_pages

some_number : (x y : ℕ) → Some x ≡ Some y → x ≡ y
some_number x y e = cc

-- format 2 and a tail of at most 511 is room
pub room_of_tail : (image : List ℕ) (log : LogValue) (a : ActivePage) → Describes image log → log.active ≡ Some a → (a.format ≡ 2) × (a.tail ≤ 511) → HasRoom image
room_of_tail image log a d e l =
    let h = held_active image log a d e in
    record { page = a.page; seq = a.seq; is_active = h.is_active; current = h.format_is ∙ ap Some l.0; free = h.is_tail.free 511 l.1 (omega arith) }

pub tail_of_room : (image : List ℕ) (log : LogValue) (a : ActivePage) → Describes image log → log.active ≡ Some a → HasRoom image → (a.format ≡ 2) × (a.tail ≤ 511)
tail_of_room image log a d e r =
    let h = held_active image log a d e in
    let same : a.page ≡ r.page = same_page image a.page a.seq r.page r.seq h.is_active r.is_active in
    let free : slot_of (slot_at image a.page 511) ≡ Free = rw same r.free in (
      some_number a.format 2 (sym h.format_is ∙ r.current),
      elim (cases_lt 511 a.tail) [
        | inl b ↦ (let t : a.tail - 1 ≡ 511 = omega (arith, h.is_tail.high) in absurd (h.is_tail.used (omega arith) (rw t free)))
        | inr b ↦ b
      ],
    )

pub room_of_none : (image : List ℕ) (log : LogValue) → Describes image log → log.active ≡ None → HasRoom image → ⊥
room_of_none image log d e r = let f = held_none image log d e in let k = r.is_active in cc

-- the words of the active page, and none without one
pub words_active : (image : List ℕ) (page seq : ℕ) → active image ≡ Some (page, seq) → words image ≡ words_up_to image page 511
unfolding words
words_active image page seq e = rw e refl

pub words_none_active : (image : List ℕ) → active image ≡ None → words image ≡ []
unfolding words
words_none_active image e = rw e refl

-- what a log holds where the image is usable, and where it has room
unsound_by : (image : List ℕ) (held : Option ℕ) → MatchOption held (IsUsable image) (λ p. IsFirstUnsound image p) → IsUsable image → held ≡ None
unsound_by image None h u = refl
unsound_by image (Some p) h u = absurd (h.unsound (u.sound p h.in_pages))

pub unsound_none : (image : List ℕ) (log : LogValue) → Describes image log → IsUsable image → log.unsound ≡ None
unsound_none image log d u = unsound_by image log.unsound d.unsound_is u

room_by : (image : List ℕ) (log : LogValue) (held : Option ActivePage) → Describes image log → log.active ≡ held → HasRoom image → IsSomeAnd held (λ a. (a.format ≡ 2) × (a.tail ≤ 511))
room_by image log None d e r = absurd (room_of_none image log d e r)
room_by image log (Some a) d e r = tail_of_room image log a d e r

pub tail_room : (image : List ℕ) (log : LogValue) → Describes image log → HasRoom image → HasTailRoom log
tail_room image log d r = room_by image log log.active d refl r
