-- Heads in force stand in their slots, with their words behind them.
use Rattle.std.proofs.Common.{◌≡◌, ◌∙◌, ℕ, ◌+◌, ◌-◌, ◌<◌, ◌%◌, zero, suc, Bool, true, false, eqb, leb, if◌then◌else◌, refl, sym, ap, arith, List, [], ◌∷◌, Option, Some, None, All, subst}
use Rattle.std.proofs.lemmas.Option.{none-some, same_Some}
use Rattle.std.proofs.lemmas.List.Elements.{All-nil, All-cons, All-head, All-tail, All-append, All-same}
use Rattle.settings_log.specs.declared.words.Head.{Head}
use Rattle.settings_log.specs.declared.words.Word.{Word}
use Rattle.settings_log.specs.declared.words.Word.TheVariants.{Data, Begins, Other}
use Rattle.flash_model.specs.Image.{page_count}
use Rattle.settings_log.specs.Pages.{number_at}
use Rattle.settings_log.specs.Words.{data_words}
use Rattle.settings_log.specs.Values.{HeadAt, kind_at, kinds_from, with_head, heads_left, if_all, change_at, in_force, heads_on, heads_before, is_number, last_of, or_else}
use Rattle.settings_log.specs.representation.Here.{IsHere, DataFrom}

-- one head more, if the others are there
more_some : (at : HeadAt) (o : Option (List HeadAt)) (more : List HeadAt) → with_head at o ≡ Some more → (rest : List HeadAt) × (o ≡ Some rest) × (at ∷ rest ≡ more)
more_some at None more e = absurd (none-some more e)
more_some at (Some rest) more e = (rest, refl, same_Some (at ∷ rest) more e)

not_first : (b : Bool) (o : Option (List HeadAt)) (more : List HeadAt) → (if b then None else o) ≡ Some more → o ≡ Some more
not_first true o more e = absurd (none-some more e)
not_first false o more e = e

abbrev Behind : List ℕ → ℕ → ℕ → List Word → Type 0
Behind image page slot rest = (left : ℕ) (last : Bool) (more : List HeadAt) → heads_left page slot left last rest ≡ Some more → DataFrom image page slot left × All (IsHere image page) more

data_more : (image : List ℕ) (page slot left : ℕ) → slot < 512 → kind_at image page slot ≡ Data → DataFrom image page (slot + 1) left → DataFrom image page slot (suc left)
data_more image page slot left l e d zero h = (omega (arith, l), ap (λ (s : ℕ). kind_at image page s) (omega arith) ∙ e)
data_more image page slot left l e d (suc k) h =
    let p = d k (omega (arith, h)) in
    (omega (arith, p.0), ap (λ (s : ℕ). kind_at image page s) (omega arith) ∙ p.1)

-- one slot of a change
module _ (image : List ℕ) (page slot : ℕ) (l : slot < 512) (rest : List Word) (behind : Behind image page (slot + 1) rest) where
  here : (head : Head) → kind_at image page slot ≡ Begins head → (o : Option (List HeadAt)) → o ≡ heads_left page (slot + 1) (data_words head.len) head.last rest
      → (more : List HeadAt) → with_head (record { page = page; slot = slot; head = head }) o ≡ Some more → All (IsHere image page) more
  here head e o q more h =
      let at : HeadAt = record { page = page; slot = slot; head = head } in
      let s = more_some at o more h in
      let b = behind (data_words head.len) head.last s.0 (sym q ∙ s.1) in
      let is : IsHere image page at = record { page_is = refl; in_page = l; held = e; words = b.0 } in
      All-same (IsHere image page) more (at ∷ s.0) (sym s.2) (All-cons (IsHere image page) at s.0 is b.1)

  no_data : DataFrom image page slot zero
  no_data k h = absurd (omega (arith, h))

  next_slot : (w : Word) → kind_at image page slot ≡ w → Behind image page slot (w ∷ rest)
  unfolding heads_left
  next_slot w e zero true more h = (no_data, All-same (IsHere image page) more [] (sym (same_Some [] more h)) (All-nil (IsHere image page)))
  next_slot (Begins head) e zero false more h =
      (no_data, here head e (heads_left page (slot + 1) (data_words head.len) head.last rest) refl more (not_first head.first _ more h))
  next_slot Data e zero false more h = absurd (none-some more h)
  next_slot Other e zero false more h = absurd (none-some more h)
  next_slot Data e (suc left) last more h =
      let b = behind left last more h in
      (data_more image page slot left l e b.0, b.1)
  next_slot (Begins head) e (suc left) last more h = absurd (none-some more h)
  next_slot Other e (suc left) last more h = absurd (none-some more h)

  -- the changes from a slot on
  of_change : (b : Bool) (o : Option (List HeadAt)) → ((more : List HeadAt) → o ≡ Some more → All (IsHere image page) more) → All (IsHere image page) (if b then if_all o else [])
  of_change false o h = All-nil (IsHere image page)
  of_change true None h = All-nil (IsHere image page)
  of_change true (Some more) h = h more refl

  slot_in_force : (w : Word) → kind_at image page slot ≡ w → All (IsHere image page) (in_force page (slot + 1) rest) → All (IsHere image page) (in_force page slot (w ∷ rest))
  unfolding in_force
  slot_in_force Data e later = later
  slot_in_force Other e later = later
  slot_in_force (Begins head) e later =
      let at : HeadAt = record { page = page; slot = slot; head = head } in
      let left = heads_left page (slot + 1) (data_words head.len) head.last rest in
      All-append (IsHere image page) (change_at page slot head rest) (in_force page (slot + 1) rest)
      (of_change head.first (with_head at left) (here head e left refl)) later

no_slots : (image : List ℕ) (page slot : ℕ) → Behind image page slot []
unfolding heads_left
no_slots image page slot zero true more h = ((λ k l. absurd (omega (arith, l))), All-same (IsHere image page) more [] (sym (same_Some [] more h)) (All-nil (IsHere image page)))
no_slots image page slot zero false more h = absurd (none-some more h)
no_slots image page slot (suc left) last more h = absurd (none-some more h)

behind_slots : (count : ℕ) (image : List ℕ) (page slot : ℕ) → slot + count ≡ 512 → Behind image page slot (kinds_from image page slot count)
unfolding kinds_from
behind_slots zero image page slot e = no_slots image page slot
behind_slots (suc count) image page slot e =
    next_slot image page slot (omega (arith, e)) (kinds_from image page (slot + 1) count) (behind_slots count image page (slot + 1) (omega (arith, e))) (kind_at image page slot) refl

none_here : (image : List ℕ) (page slot : ℕ) → All (IsHere image page) (in_force page slot [])
unfolding in_force
none_here image page slot = All-nil (IsHere image page)

all_here : (count : ℕ) (image : List ℕ) (page slot : ℕ) → slot + count ≡ 512 → All (IsHere image page) (in_force page slot (kinds_from image page slot count))
unfolding kinds_from
all_here zero image page slot e = none_here image page slot
all_here (suc count) image page slot e =
    slot_in_force image page slot (omega (arith, e)) (kinds_from image page (slot + 1) count) (behind_slots count image page (slot + 1) (omega (arith, e))) (kind_at image page slot) refl (all_here count image page (slot + 1) (omega (arith, e)))

pub on_page : (image : List ℕ) (page : ℕ) → All (IsHere image page) (heads_on image page)
unfolding heads_on
on_page image page = all_here 511 image page 1 refl

-- the last head of an id is one of them, and of this id
pub last_is : (P : HeadAt → Type 0) (id : ℕ) (heads : List HeadAt) (at : HeadAt) → last_of id heads ≡ Some at → All P heads → P at
unfolding last_of
last_is P id [] at e all = absurd (none-some at e)
last_is P id (x ∷ xs) at e all = by (last_of id xs) refl (λ q. last_is P id xs at q (All-tail P x xs all)) e
  where
    own : (b : Bool) → (if b then Some x else None) ≡ Some at → P at
    own false q = absurd (none-some at q)
    own true q = subst P (same_Some x at q) (All-head P x xs all)

    by : (o : Option HeadAt) → last_of id xs ≡ o → (last_of id xs ≡ Some at → P at) → or_else o (if eqb id x.head.id then Some x else None) ≡ Some at → P at
    by None q ih r = own (eqb id x.head.id) r
    by (Some y) q ih r = ih (q ∙ r)

-- those of the page so many before the newest
pub before_here : (image : List ℕ) (newest back : ℕ) → All (IsHere image ((newest - back) % page_count image)) (heads_before image newest back)
unfolding heads_before
before_here image newest back =
    cases (leb back newest) (if is_number (number_at image ((newest - back) % page_count image)) (newest - back) then heads_on image ((newest - back) % page_count image) else [])
    (cases (is_number (number_at image ((newest - back) % page_count image)) (newest - back)) (heads_on image ((newest - back) % page_count image)) (on_page image ((newest - back) % page_count image)))
  where
    cases : (b : Bool) (heads : List HeadAt) → All (IsHere image ((newest - back) % page_count image)) heads → All (IsHere image ((newest - back) % page_count image)) (if b then heads else [])
    cases true heads h = h
    cases false heads h = All-nil (IsHere image ((newest - back) % page_count image))
