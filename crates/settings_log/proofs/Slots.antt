-- What will be found of an id, one slot further on.
use Rattle.std.proofs.Common.{add-one, arith, ◌<◌, ◌≤◌, ◌-◌, ◌==◌, eqb, if◌then◌else◌, ◌≡◌, ◌∙◌, ℕ, ◌+◌, zero, suc, Bool, true, false, refl, sym, ap, List, [], ◌∷◌, ◌++◌, Option, Some, None}
use Rattle.std.specs.Prelude.{IsSomeAnd}
use Rattle.settings_log.specs.declared.words.Head.{Head}
use Rattle.settings_log.specs.declared.words.Word.{Word}
use Rattle.settings_log.specs.declared.words.Word.TheVariants.{Data, Begins, Other}
use Rattle.settings_log.specs.declared.scan.Place.{Place}
use Rattle.settings_log.specs.declared.scan.Entry.{Entry}
use Rattle.settings_log.specs.declared.scan.Open.{Open}
use Rattle.settings_log.specs.Words.{data_words}
use Rattle.settings_log.specs.Values.{kind_at, kinds_from, heads_on, HeadAt, with_head, heads_left, if_all, change_at, in_force, last_of, or_else}
use Rattle.settings_log.specs.representation.Scan.{place_of, found_with, closed, outcome, Waits, noted, come, IsSettled, GoesOn, IsReading, IsFoundOn}

abbrev opened : ℕ → Bool → Option Open
opened left last = Some (record { left = left; last = last })

-- a word of a value
data_at : (page slot left : ℕ) (last : Bool) (e : Entry) (rest : List Word)
    → outcome page e (opened left last) (slot + 1) rest ≡ outcome page e (opened (suc left) last) slot (Data ∷ rest)
unfolding outcome heads_left in_force
data_at page slot left last e rest = refl

data_stop : (page slot : ℕ) (e : Entry) (rest : List Word) → outcome page e None (slot + 1) rest ≡ outcome page e (opened zero false) slot (Data ∷ rest)
unfolding outcome heads_left in_force
data_stop page slot e rest = refl

pub data_none : (page slot : ℕ) (e : Entry) (rest : List Word) → outcome page e None (slot + 1) rest ≡ outcome page e None slot (Data ∷ rest)
unfolding outcome in_force
data_none page slot e rest = refl

pub data_after : (page slot : ℕ) (e : Entry) (rest : List Word) (o : Open) → Waits (Some o) → (left : ℕ) → o.left ≡ left + 1
    → outcome page e (opened left o.last) (slot + 1) rest ≡ outcome page e (Some o) slot (Data ∷ rest)
data_after page slot e rest o w left h =
    let h2 : o.left ≡ suc left = h ∙ add-one left in
    rw h2 (data_at page slot left o.last e rest)

pub data_ends : (page slot : ℕ) (e : Entry) (rest : List Word) (o : Open) → Waits (Some o) → o.left ≡ 0
    → outcome page e None (slot + 1) rest ≡ outcome page e (Some o) slot (Data ∷ rest)
data_ends page slot e rest o w h = rw (h, w h) (data_stop page slot e rest)

-- another word
other_open : (page slot left : ℕ) (last : Bool) (e : Entry) (rest : List Word) → Waits (opened left last)
    → outcome page e None (slot + 1) rest ≡ outcome page e (opened left last) slot (Other ∷ rest)
unfolding outcome heads_left in_force
other_open page slot zero true e rest w = absurd (let t : true ≡ false = w refl in cc)
other_open page slot zero false e rest w = refl
other_open page slot (suc left) last e rest w = refl

pub other_after : (page slot : ℕ) (e : Entry) (rest : List Word) (pending : Option Open) → Waits pending
    → outcome page e None (slot + 1) rest ≡ outcome page e pending slot (Other ∷ rest)
unfolding outcome in_force
other_after page slot e rest None w = refl
other_after page slot e rest (Some o) w = other_open page slot o.left o.last e rest w

-- the last head of an id in two lists
pub last_of-append : (id : ℕ) (a b : List HeadAt) → last_of id (a ++ b) ≡ or_else (last_of id b) (last_of id a)
unfolding last_of
last_of-append id [] b = or_none (last_of id b)
  where
    or_none : (o : Option HeadAt) → o ≡ or_else o None
    or_none None = refl
    or_none (Some x) = refl
last_of-append id (x ∷ a) b = ap (λ (o : Option HeadAt). or_else o (if id == x.head.id then Some x else None)) (last_of-append id a b) ∙ or_assoc (last_of id b) (last_of id a) (if id == x.head.id then Some x else None)
  where
    or_assoc : (p q r : Option HeadAt) → or_else (or_else p q) r ≡ or_else p (or_else q r)
    or_assoc None q r = refl
    or_assoc (Some x) q r = refl

pub place_of-or : (p : Option HeadAt) (q : Option HeadAt) → place_of (or_else p q) ≡ or_else (place_of p) (place_of q)
place_of-or None q = refl
place_of-or (Some x) q = refl

or_or : (p q r : Option Place) → or_else (or_else p q) r ≡ or_else p (or_else q r)
or_or None q r = refl
or_or (Some x) q r = refl

-- what a pending change finds where a head comes that is no head of it
first_open : (page slot left : ℕ) (last : Bool) (e : Entry) (head : Head) (rest : List Word) → Waits (opened left last) → head.first ≡ true
    → heads_left page slot left last (Begins head ∷ rest) ≡ None
unfolding heads_left
first_open page slot zero true e head rest w f = absurd (let t : true ≡ false = w refl in cc)
first_open page slot zero false e head rest w f = rw f refl
first_open page slot (suc left) last e head rest w f = refl

first_closed : (page slot : ℕ) (e : Entry) (head : Head) (rest : List Word) (pending : Option Open) → Waits pending → head.first ≡ true
    → closed page e pending slot (Begins head ∷ rest) ≡ e.found
first_closed page slot e head rest None w f = refl
first_closed page slot e head rest (Some o) w f = rw (first_open page slot o.left o.last e head rest w f) refl

-- the heads of a change that begins, at an id
first_found : (page slot : ℕ) (e : Entry) (head : Head) (left : Option (List HeadAt)) → head.first ≡ true
    → found_with (noted head (record { page = page; slot = slot }) e) left
    ≡ or_else (place_of (last_of e.id (if_all (with_head (record { page = page; slot = slot; head = head }) left)))) e.found
unfolding last_of
first_found page slot e head None f = refl
first_found page slot e head (Some more) f =
    ap (λ (b : Bool). or_else (place_of (last_of e.id more)) (or_else (if eqb e.id head.id then Some (record { page = page; slot = slot }) else (if b then None else e.coming)) e.found)) f
    ∙ (by_id (last_of e.id more) (eqb e.id head.id))
  where
    by_id : (m : Option HeadAt) (b : Bool)
        → or_else (place_of m) (or_else (if b then Some (record { page = page; slot = slot }) else None) e.found)
        ≡ or_else (place_of (or_else m (if b then Some (record { page = page; slot = slot; head = head }) else None))) e.found
    by_id None true = refl
    by_id None false = refl
    by_id (Some x) b = refl

change_first : (page slot : ℕ) (head : Head) (rest : List Word) → head.first ≡ true
    → change_at page slot head rest ≡ if_all (with_head (record { page = page; slot = slot; head = head }) (heads_left page (slot + 1) (data_words head.len) head.last rest))
change_first page slot head rest f = rw f refl

-- the first head of a change
pub begins_first : (page slot : ℕ) (e : Entry) (head : Head) (rest : List Word) (pending : Option Open) → Waits pending → head.first ≡ true
    → outcome page (noted head (record { page = page; slot = slot }) e) (opened (data_words head.len) head.last) (slot + 1) rest ≡ outcome page e pending slot (Begins head ∷ rest)
unfolding outcome in_force
begins_first page slot e head rest pending w f =
    let later = last_of e.id (in_force page (slot + 1) rest) in
    let more = heads_left page (slot + 1) (data_words head.len) head.last rest in
    let at : HeadAt = record { page = page; slot = slot; head = head } in
    ap (λ (p : Option Place). or_else (place_of later) p) (first_found page slot e head more f)
    ∙ sym (or_or (place_of later) (place_of (last_of e.id (if_all (with_head at more)))) e.found)
    ∙ ap (λ (p : Option Place). or_else p e.found) (sym (place_of-or later (last_of e.id (if_all (with_head at more)))))
    ∙ ap (λ (hs : Option HeadAt). or_else (place_of hs) e.found) (sym (ap (λ (hs : List HeadAt). last_of e.id (hs ++ in_force page (slot + 1) rest)) (change_first page slot head rest f) ∙ last_of-append e.id (if_all (with_head at more)) (in_force page (slot + 1) rest)))
    ∙ ap (λ (p : Option Place). or_else (place_of (last_of e.id (change_at page slot head rest ++ in_force page (slot + 1) rest))) p) (sym (first_closed page slot e head rest pending w f))

-- the next head of a change
next_found : (page slot : ℕ) (e : Entry) (head : Head) (left : Option (List HeadAt)) → head.first ≡ false
    → found_with (noted head (record { page = page; slot = slot }) e) left
    ≡ found_with e (with_head (record { page = page; slot = slot; head = head }) left)
unfolding last_of
next_found page slot e head None f = refl
next_found page slot e head (Some more) f =
    ap (λ (b : Bool). or_else (place_of (last_of e.id more)) (or_else (if eqb e.id head.id then Some (record { page = page; slot = slot }) else (if b then None else e.coming)) e.found)) f
    ∙ (by_id (last_of e.id more) (eqb e.id head.id))
  where
    by_id : (m : Option HeadAt) (b : Bool)
        → or_else (place_of m) (or_else (if b then Some (record { page = page; slot = slot }) else e.coming) e.found)
        ≡ or_else (place_of (or_else m (if b then Some (record { page = page; slot = slot; head = head }) else None))) (or_else e.coming e.found)
    by_id None true = refl
    by_id None false = refl
    by_id (Some x) b = refl

pub begins_next : (page slot : ℕ) (e : Entry) (head : Head) (rest : List Word) → head.first ≡ false
    → outcome page (noted head (record { page = page; slot = slot }) e) (opened (data_words head.len) head.last) (slot + 1) rest ≡ outcome page e (opened zero false) slot (Begins head ∷ rest)
unfolding outcome in_force heads_left
begins_next page slot e head rest f =
    let more = heads_left page (slot + 1) (data_words head.len) head.last rest in
    let later = in_force page (slot + 1) rest in
    let at : HeadAt = record { page = page; slot = slot; head = head } in
    ap (λ (p : Option Place). or_else (place_of (last_of e.id later)) p) (next_found page slot e head more f)
    ∙ sym (ap (λ (b : Bool). or_else (place_of (last_of e.id ((if b then if_all (with_head at more) else []) ++ later))) (found_with e (if b then None else with_head at more))) f)

-- a head that goes on with no change
ignored_open : (page slot left : ℕ) (last : Bool) (head : Head) (rest : List Word)
    → heads_left page slot (suc left) last (Begins head ∷ rest) ≡ None
unfolding heads_left
ignored_open page slot left last head rest = refl

pub begins_ignored : (page slot : ℕ) (e : Entry) (head : Head) (rest : List Word) (pending : Option Open) → head.first ≡ false → (IsSomeAnd pending (λ o. o.left ≡ 0) → ⊥)
    → outcome page e None (slot + 1) rest ≡ outcome page e pending slot (Begins head ∷ rest)
unfolding outcome in_force
begins_ignored page slot e head rest None f w = rw f refl
begins_ignored page slot e head rest (Some o) f w =
    closed_by o.left o.last w
    ∙ sym (ap (λ (b : Bool). or_else (place_of (last_of e.id ((if b then if_all (with_head (record { page = page; slot = slot; head = head }) (heads_left page (slot + 1) (data_words head.len) head.last rest)) else []) ++ in_force page (slot + 1) rest))) (found_with e (heads_left page slot o.left o.last (Begins head ∷ rest)))) f)
  where
    closed_by : (left : ℕ) (last : Bool) → (left ≡ 0 → ⊥) → or_else (place_of (last_of e.id (in_force page (slot + 1) rest))) e.found ≡ or_else (place_of (last_of e.id (in_force page (slot + 1) rest))) (found_with e (heads_left page slot left last (Begins head ∷ rest)))
    closed_by zero last n = absurd (n refl)
    closed_by (suc left) last n = rw (ignored_open page slot left last head rest) refl

-- a change that has come
comes : (page slot : ℕ) (e : Entry) (words : List Word) → outcome page (come e) None slot words ≡ outcome page e (opened zero true) slot words
unfolding outcome heads_left last_of
comes page slot e words = refl

pub comes_all : (o : Open) (old new : Entry) → o.left ≡ 0 → o.last ≡ true → new ≡ come old → IsSettled (Some o) None old new
comes_all o old new z t e = record {
  id = ap (λ (x : Entry). x.id) e;
  same = λ page slot words. ap (λ (x : Entry). outcome page x None slot words) e ∙ (rw (z, t) (comes page slot old words));
}

pub goes_on_other : (page slot : ℕ) (pending : Option Open) (e : Entry) → Waits pending → GoesOn page slot Other pending None e e
goes_on_other page slot pending e w = record { id = refl; same = λ rest. other_after page slot e rest pending w }

pub goes_on_ignored : (page slot : ℕ) (head : Head) (pending : Option Open) (e : Entry) → head.first ≡ false → (IsSomeAnd pending (λ o. o.left ≡ 0) → ⊥) → GoesOn page slot (Begins head) pending None e e
goes_on_ignored page slot head pending e f w = record { id = refl; same = λ rest. begins_ignored page slot e head rest pending f w }

pub goes_on_first : (place : Place) (head : Head) (pending : Option Open) (left : ℕ) (result : Option Open) (old mid new : Entry) → Waits pending → head.first ≡ true → mid ≡ noted head place old → left ≡ data_words head.len
    → IsSettled (opened left head.last) result mid new → GoesOn place.page place.slot (Begins head) pending result old new
goes_on_first place head pending left result old mid new w f e n s = record {
  id = s.id ∙ ap (λ (x : Entry). x.id) e;
  same = λ rest. s.same place.page (place.slot + 1) rest ∙ ap (λ (x : Entry). outcome place.page x (opened left head.last) (place.slot + 1) rest) e ∙ ap (λ (l : ℕ). outcome place.page (noted head place old) (opened l head.last) (place.slot + 1) rest) n ∙ begins_first place.page place.slot old head rest pending w f;
}

pub waits_at : (pending : Option Open) → Waits pending → IsSomeAnd pending (λ o. o.left ≡ 0) → pending ≡ opened zero false
waits_at None w z = absurd z
waits_at (Some o) w z = rw (z, w z) refl

pub goes_on_next : (place : Place) (head : Head) (pending : Option Open) (left : ℕ) (result : Option Open) (old mid new : Entry) → Waits pending → head.first ≡ false → IsSomeAnd pending (λ o. o.left ≡ 0) → mid ≡ noted head place old → left ≡ data_words head.len
    → IsSettled (opened left head.last) result mid new → GoesOn place.page place.slot (Begins head) pending result old new
goes_on_next place head pending left result old mid new w f z e n s = record {
  id = s.id ∙ ap (λ (x : Entry). x.id) e;
  same = λ rest. s.same place.page (place.slot + 1) rest ∙ ap (λ (x : Entry). outcome place.page x (opened left head.last) (place.slot + 1) rest) e ∙ ap (λ (l : ℕ). outcome place.page (noted head place old) (opened l head.last) (place.slot + 1) rest) n ∙ begins_next place.page place.slot old head rest f
      ∙ ap (λ (p : Option Open). outcome place.page old p place.slot (Begins head ∷ rest)) (sym (waits_at pending w z));
}

-- the slots of a page, one after another
kinds_step : (image : List ℕ) (page slot left : ℕ) → left ≡ suc (512 - (slot + 1)) → kinds_from image page slot left ≡ kind_at image page slot ∷ kinds_from image page (slot + 1) (512 - (slot + 1))
unfolding kinds_from
kinds_step image page slot left h = rw h refl

pub reading_more : (image : List ℕ) (page slot : ℕ) (p q : Option Open) (word : Word) (old mid new : Entry) → slot < 512 → word ≡ kind_at image page slot → IsReading image page slot p old mid → GoesOn page slot word p q mid new → IsReading image page (slot + 1) q old new
reading_more image page slot p q word old mid new l e r g = record {
  id = g.id ∙ r.id;
  same = g.same (kinds_from image page (slot + 1) (512 - (slot + 1)))
      ∙ ap (λ (w : Word). outcome page mid p slot (w ∷ kinds_from image page (slot + 1) (512 - (slot + 1)))) e
      ∙ ap (λ (ws : List Word). outcome page mid p slot ws) (sym (kinds_step image page slot (512 - slot) (omega (arith, l))))
      ∙ r.same;
}

ended_open : (page slot left : ℕ) (last : Bool) (e : Entry) → Waits (opened left last) → found_with e (heads_left page slot left last []) ≡ e.found
unfolding heads_left
ended_open page slot zero true e w = absurd (let t : true ≡ false = w refl in cc)
ended_open page slot zero false e w = refl
ended_open page slot (suc left) last e w = refl

ended : (page slot : ℕ) (p : Option Open) (e : Entry) → Waits p → outcome page e p slot [] ≡ e.found
unfolding outcome in_force last_of
ended page slot None e w = refl
ended page slot (Some o) e w = ended_open page slot o.left o.last e w

kinds_none : (image : List ℕ) (page slot left : ℕ) → left ≡ 0 → kinds_from image page slot left ≡ []
unfolding kinds_from
kinds_none image page slot left h = rw h refl

begun : (image : List ℕ) (page : ℕ) (e : Entry) → outcome page e None 1 (kinds_from image page 1 511) ≡ or_else (place_of (last_of e.id (heads_on image page))) e.found
unfolding outcome heads_on
begun image page e = refl

pub reading_all : (image : List ℕ) (page slot : ℕ) (p : Option Open) (old new : Entry) → 512 ≤ slot → Waits p → IsReading image page slot p old new → IsFoundOn (heads_on image page) old new
reading_all image page slot p old new l w r = record {
  id = r.id;
  found = sym (ended page slot p new w) ∙ ap (λ (ws : List Word). outcome page new p slot ws) (sym (kinds_none image page slot (512 - slot) (omega (arith, l)))) ∙ r.same ∙ begun image page old;
}
