-- The value of an id, by the place of its last head.
use Rattle.std.proofs.Common.{◌≡◌, ◌≢◌, ◌∙◌, ℕ, ◌+◌, ◌-◌, ◌*◌, ◌<◌, ◌≤◌, ◌%◌, zero, suc, ltb, get_or, ◌++◌, Bool, true, false, if◌then◌else◌, refl, sym, ap, arith, List, [], Option, Some, None, subst, IfSome, length, take, drop, Ok, Err}
use Rattle.std.proofs.lemmas.Option.{none-some, same_Some}
use Rattle.std.proofs.lemmas.Bool.{ltb-true, ltb-false}
use Rattle.std.proofs.lemmas.List.{length-append, length-drop, length-take-le, get_or-take, get_or-drop, get_or_append_left, get_or-append_right, get_or_default, same_lists}
use Rattle.flash_model.specs.Image.{page_count}
use Rattle.settings_log.specs.declared.store.SettingsError.TheVariants.{TooLong}
use Rattle.settings_log.specs.declared.words.Head.{Head}
use Rattle.settings_log.specs.declared.words.Word.TheVariants.{Data, Begins, Other}
use Rattle.settings_log.specs.declared.scan.Place.{Place}
use Rattle.records.specs.Slots.{slot_of}
use Rattle.flash_model.specs.Image.{slot_at}
use Rattle.settings_log.specs.Pages.{word_of}
use Rattle.settings_log.specs.Words.{kind_of, word_bytes, data_words}
use Rattle.settings_log.specs.Values.{HeadAt, kind_at, heads_before, history, last_of, last_since, last_head, newest_of, value_at, value_with, value_of, bytes_behind, bytes_in, IsRead}
use Rattle.settings_log.specs.representation.Scan.{place_of}
use Rattle.settings_log.specs.representation.Here.{IsHere, DataFrom, Stands, Copied, SameTo}
use Rattle.settings_log.proofs.History.{last_decided, at_place}
use Rattle.settings_log.proofs.Heads.{before_here, last_is}

pub last_from : (image : List ℕ) (id newest : ℕ) (o : Option HeadAt) → Some newest ≡ newest_of image (page_count image) → last_of id (history image newest (page_count image - 1)) ≡ o → last_head image id ≡ o
unfolding last_head
last_from image id newest o n e = ap (λ (x : Option ℕ). last_since image id x) (sym n) ∙ e

pub last_none : (image : List ℕ) (id : ℕ) → None ≡ newest_of image (page_count image) → last_head image id ≡ None
unfolding last_head
last_none image id n = ap (λ (x : Option ℕ). last_since image id x) (sym n)

-- the head that was found
pub record Found (image : List ℕ) (id : ℕ) (place : Place) : Type 0 where
  pub at : HeadAt
  pub page : ℕ
  pub in_pages : page < page_count image
  pub last : last_head image id ≡ Some at
  pub place_is : place ≡ record { page = at.page; slot = at.slot }
  pub here : IsHere image page at

pub found : (image : List ℕ) (id newest back : ℕ) (place : Place) → Some newest ≡ newest_of image (page_count image) → 2 ≤ page_count image → back < page_count image - 1 → last_of id (history image newest back) ≡ None
    → Some place ≡ place_of (last_of id (heads_before image newest back)) → Found image id place
found image id newest back place n two l none e =
    let s = at_place (last_of id (heads_before image newest back)) place e in
    record {
      at = s.0;
      page = (newest - back) % page_count image;
      in_pages = omega (arith, two);
      last = last_from image id newest (Some s.0) n (last_decided image id newest back (page_count image - 1) s.0 l none s.1);
      place_is = s.2;
      here = last_is (IsHere image ((newest - back) % page_count image)) id (heads_before image newest back) s.0 s.1 (before_here image newest back);
    }

value_with_head : (image : List ℕ) (id : ℕ) (at : HeadAt) → last_head image id ≡ Some at → value_of image id ≡ value_at image at
unfolding value_of
value_with_head image id at e = ap (λ (x : Option HeadAt). value_with image x) e

pub value_none : (image : List ℕ) (id : ℕ) → last_head image id ≡ None → value_of image id ≡ None
unfolding value_of
value_none image id e = ap (λ (x : Option HeadAt). value_with image x) e

abbrev ReadAt : List ℕ → Place → Option (Place × Head) → Type 0
ReadAt image place result = (head : Head) → place.slot < 512 → place.page < page_count image → kind_at image place.page place.slot ≡ Begins head → result ≡ (if head.removal then None else Some (place, head))

given_by : (image : List ℕ) (id page : ℕ) (at : HeadAt) (result : Option (Place × Head)) → last_head image id ≡ Some at → IsHere image page at → page < page_count image → ReadAt image (record { page = at.page; slot = at.slot }) result
    → (result ≡ None → value_of image id ≡ None) × IfSome result (λ found. Stands image id found.0 found.1)
given_by image id page at result e h l r =
    let q = r at.head h.in_page (omega (arith, h.page_is, l)) (ap (λ (p : ℕ). kind_at image p at.slot) h.page_is ∙ h.held) in
    by at.head.removal refl q
  where
    place : Place
    place = record { page = at.page; slot = at.slot }

    by : (b : Bool) → at.head.removal ≡ b → result ≡ (if b then None else Some (place, at.head)) → (result ≡ None → value_of image id ≡ None) × IfSome result (λ found. Stands image id found.0 found.1)
    by true b q = (
      (λ n. value_with_head image id at e ∙ rw b refl),
      rw q tt,
    )
    by false b q = (
      (λ n. absurd (none-some (place, at.head) (sym n ∙ q))),
      rw q (record {
        in_pages = omega (arith, h.page_is, l);
        in_page = h.in_page;
        words = λ k m. let d = h.words k m in (d.0, ap (λ (p : ℕ). kind_at image p (at.slot + 1 + k)) h.page_is ∙ d.1);
        value = value_with_head image id at e ∙ rw b refl;
      }),
    )

pub stands : (image : List ℕ) (id : ℕ) (place : Place) (result : Option (Place × Head)) → Found image id place → ReadAt image place result
    → (result ≡ None → value_of image id ≡ None) × IfSome result (λ found. Stands image id found.0 found.1)
stands image id place result f r =
    let P : Place → Type 0 = λ p. ReadAt image p result in
    given_by image id f.page f.at result f.last f.here f.in_pages (subst P f.place_is r)

-- the words of a value
data_word : (o : Option ℕ) → kind_of o ≡ Data → (word : ℕ) × (o ≡ Some word)
unfolding kind_of
data_word None e = absurd (let t : Other ≡ Data = e in cc)
data_word (Some word) e = (word, refl)

pub word_held : (image : List ℕ) (page slot count k : ℕ) → DataFrom image page slot count → k < count → word_of (slot_of (slot_at image page (slot + k))) ≡ None → ⊥
word_held image page slot count k d l e =
    let w = data_word (word_of (slot_of (slot_at image page (slot + k)))) (d k l).1 in
    none-some w.0 (sym e ∙ w.1)

-- the bytes of so many words
behind_more : (image : List ℕ) (page slot count n : ℕ) → n ≡ suc count → bytes_behind image page slot n ≡ bytes_behind image page slot count ++ bytes_in (word_of (slot_of (slot_at image page (slot + 1 + count))))
unfolding bytes_behind
behind_more image page slot count n e = rw e refl

behind_none : (image : List ℕ) (page slot : ℕ) → bytes_behind image page slot zero ≡ []
unfolding bytes_behind
behind_none image page slot = refl

less : (image : List ℕ) (page slot count : ℕ) → DataFrom image page slot (suc count) → DataFrom image page slot count
less image page slot count d k l = d k (omega (arith, l))

pub behind_length : (count : ℕ) (image : List ℕ) (page slot : ℕ) → DataFrom image page (slot + 1) count → length (bytes_behind image page slot count) ≡ 3 * count
behind_length zero image page slot d = ap length (behind_none image page slot)
behind_length (suc count) image page slot d =
    let w = data_word (word_of (slot_of (slot_at image page (slot + 1 + count)))) (d count (omega arith)).1 in
    let e : length (bytes_behind image page slot (suc count)) ≡ length (bytes_behind image page slot count) + length (bytes_in (Some w.0)) =
    ap length (behind_more image page slot count (suc count) refl ∙ ap (λ (o : Option ℕ). bytes_behind image page slot count ++ bytes_in o) w.1)
    ∙ length-append (bytes_behind image page slot count) (bytes_in (Some w.0)) in
    let i = behind_length count image page slot (less image page (slot + 1) count d) in
    omega (arith, e, i)

pub behind_at : (count : ℕ) (image : List ℕ) (page slot k j word : ℕ) → DataFrom image page (slot + 1) count → k < count → j < 3 → word_of (slot_of (slot_at image page (slot + 1 + k))) ≡ Some word
    → get_or (bytes_behind image page slot count) (3 * k + j) 0 ≡ get_or (word_bytes word) j 0
behind_at zero image page slot k j word d l m e = absurd (omega (arith, l))
behind_at (suc count) image page slot k j word d l m e = by (ltb k count) refl (λ below. behind_at count image page slot k j word (less image page (slot + 1) count d) below m e)
  where
    before : List ℕ
    before = bytes_behind image page slot count

    long : length before ≡ 3 * count
    long = behind_length count image page slot (less image page (slot + 1) count d)

    last : List ℕ
    last = bytes_in (word_of (slot_of (slot_at image page (slot + 1 + count))))

    all : get_or (bytes_behind image page slot (suc count)) (3 * k + j) 0 ≡ get_or (before ++ last) (3 * k + j) 0
    all = ap (λ (bs : List ℕ). get_or bs (3 * k + j) 0) (behind_more image page slot count (suc count) refl)

    by : (b : Bool) → ltb k count ≡ b → (k < count → get_or before (3 * k + j) 0 ≡ get_or (word_bytes word) j 0) → get_or (bytes_behind image page slot (suc count)) (3 * k + j) 0 ≡ get_or (word_bytes word) j 0
    by true q ih =
        let below : k < count = ltb-true k count q in
        all ∙ get_or_append_left before last 0 (3 * k + j) (omega (arith, below, m, long))
        ∙ ih below
    by false q ih =
        let same : k ≡ count = omega (arith, ltb-false k count q, l) in
        let w : last ≡ word_bytes word = ap (λ (i : ℕ). bytes_in (word_of (slot_of (slot_at image page (slot + 1 + i))))) (sym same) ∙ ap bytes_in e in
        all ∙ get_or-append_right before last (3 * count) (3 * k + j) 0 long (omega (arith, same))
        ∙ ap (λ (bs : List ℕ). get_or bs (3 * k + j - 3 * count) 0) w ∙ ap (λ (i : ℕ). get_or (word_bytes word) i 0) (omega (arith, same))

-- the bytes of a value
pub value_length : (image : List ℕ) (id : ℕ) (place : Place) (head : Head) → Stands image id place head → length (take head.len (bytes_behind image place.page place.slot (data_words head.len))) ≡ head.len
value_length image id place head s =
    let l = behind_length (data_words head.len) image place.page place.slot s.words in
    length-take-le head.len _ (omega (arith, l))

pub copied_none : (value old : List ℕ) (n : ℕ) → n ≡ 0 → Copied value old old n
copied_none value old n e = record { same_length = refl; copied = λ k l m. absurd (omega (arith, l, e)); rest = λ k m. refl }

pub copied_more : (image : List ℕ) (id : ℕ) (place : Place) (head : Head) (old mid new : List ℕ) (at word : ℕ) → Stands image id place head → at < data_words head.len
    → word_of (slot_of (slot_at image place.page (place.slot + 1 + at))) ≡ Some word
    → Copied (take head.len (bytes_behind image place.page place.slot (data_words head.len))) old mid (3 * at)
    → length new ≡ length mid
    → ((k : ℕ) → k < 3 → 3 * at + k < head.len → get_or new (3 * at + k) 0 ≡ get_or (word_bytes word) k 0)
    → ((j : ℕ) → (3 * at ≤ j → j < head.len → 3 * at + 3 ≤ j) → get_or new j 0 ≡ get_or mid j 0)
    → Copied (take head.len (bytes_behind image place.page place.slot (data_words head.len))) old new (3 * (at + 1))
copied_more image id place head old mid new at word s l e c n here others = record {
  same_length = n ∙ c.same_length;
  copied = copied;
  rest = λ k h. others k (λ a b. let m = h (omega (arith, long, b)) in omega (arith, m)) ∙ c.rest k (λ a. let m = h a in omega (arith, m));
}
  where
    behind : List ℕ
    behind = bytes_behind image place.page place.slot (data_words head.len)

    long : length (take head.len behind) ≡ head.len
    long = value_length image id place head s

    copied : (k : ℕ) → k < 3 * (at + 1) → k < length (take head.len behind) → get_or new k 0 ≡ get_or (take head.len behind) k 0
    copied k a b = by (ltb k (3 * at)) refl
      where
        in_value : k < head.len
        in_value = omega (arith, long, b)

        by : (t : Bool) → ltb k (3 * at) ≡ t → get_or new k 0 ≡ get_or (take head.len behind) k 0
        by true q =
            let below : k < 3 * at = ltb-true k (3 * at) q in
            others k (λ x y. absurd (omega (arith, x, below))) ∙ c.copied k below b
        by false q =
            let from : 3 * at ≤ k = ltb-false k (3 * at) q in
            let i : k ≡ 3 * at + (k - 3 * at) = omega (arith, from) in
            ap (λ (x : ℕ). get_or new x 0) i ∙ here (k - 3 * at) (omega (arith, from, a)) (omega (arith, from, in_value))
            ∙ sym (get_or-take head.len behind k 0 in_value ∙ ap (λ (x : ℕ). get_or behind x 0) i
            ∙ behind_at (data_words head.len) image place.page place.slot at (k - 3 * at) word s.words l (omega (arith, from, a)) e)

-- a value that was copied
pub copied_all : (value old new : List ℕ) (n : ℕ) → length value ≤ n → length value ≤ length old → Copied value old new n → new ≡ value ++ drop (length value) old
copied_all value old new n a b c =
    same_lists new (value ++ drop (length value) old) (c.same_length ∙ simp (length-append, length-drop) (omega (arith, b)))
    (λ k d h. get_or_default new k d 0 h ∙ at k (omega (arith, h, c.same_length)) ∙ get_or_default (value ++ drop (length value) old) k 0 d (simp (length-append, length-drop) (omega (arith, b, h, c.same_length))))
  where
    at : (k : ℕ) → k < length old → get_or new k 0 ≡ get_or (value ++ drop (length value) old) k 0
    at k h = by (ltb k (length value)) refl
      where
        by : (t : Bool) → ltb k (length value) ≡ t → get_or new k 0 ≡ get_or (value ++ drop (length value) old) k 0
        by true q =
            let below = ltb-true k (length value) q in
            c.copied k (omega (arith, a, below)) below ∙ sym (get_or_append_left value (drop (length value) old) 0 k below)
        by false q =
            let from = ltb-false k (length value) q in
            c.rest k (λ x. absurd (omega (arith, x, from)))
            ∙ sym (get_or-append_right value (drop (length value) old) (length value) k 0 refl from ∙ get_or-drop (length value) old (k - length value) 0 ∙ ap (λ (x : ℕ). get_or old x 0) (omega (arith, from)))

-- what a read gives
pub read_too_long : (value : Option (List ℕ)) (bytes old : List ℕ) → value ≡ Some bytes → length old < length bytes → IsRead value (Err TooLong) old old
read_too_long value bytes old e l = record {
  none = λ n. absurd (none-some bytes (sym n ∙ e));
  some = λ b f h. let q = same_Some b bytes (sym f ∙ e) in absurd (omega (arith, l, h, ap length q));
  too_long = λ b f h. (refl, refl);
}

pub read_all : (value : Option (List ℕ)) (bytes old new : List ℕ) (len : ℕ) → value ≡ Some bytes → length bytes ≡ len → len ≤ length old → new ≡ bytes ++ drop (length bytes) old → IsRead value (Ok (Some len)) old new
read_all value bytes old new len e q l n = record {
  none = λ m. absurd (none-some bytes (sym m ∙ e));
  some = λ b f h. let same = same_Some bytes b (sym e ∙ f) in
      (ap (λ (k : ℕ). Ok (Some k)) (sym q ∙ ap length same), n ∙ ap (λ (x : List ℕ). x ++ drop (length x) old) same);
  too_long = λ b f h. let same = same_Some b bytes (sym f ∙ e) in absurd (omega (arith, l, h, q, ap length same));
}

-- bytes beside those of a value
module _ (image : List ℕ) (page slot len : ℕ) (bytes : List ℕ) (long : length bytes ≡ len) (d : DataFrom image page (slot + 1) (data_words len)) where
  behind_is : length (bytes_behind image page slot (data_words len)) ≡ 3 * data_words len
  behind_is = behind_length (data_words len) image page slot d

  pub three_of : (at word : ℕ) → at < data_words len → word_of (slot_of (slot_at image page (slot + 1 + at))) ≡ Some word → take len (bytes_behind image page slot (data_words len)) ≡ bytes
      → (k : ℕ) → k < 3 → 3 * at + k < length bytes → get_or bytes (3 * at + k) 0 ≡ get_or (word_bytes word) k 0
  three_of at word l e same k a b =
      ap (λ (x : List ℕ). get_or x (3 * at + k) 0) (sym same) ∙ get_or-take len (bytes_behind image page slot (data_words len)) (3 * at + k) 0 (omega (arith, long, b))
      ∙ behind_at (data_words len) image page slot at k word d l a e

  pub same_more : (at word : ℕ) → at < data_words len → word_of (slot_of (slot_at image page (slot + 1 + at))) ≡ Some word
      → ((k : ℕ) → k < 3 → 3 * at + k < length bytes → get_or bytes (3 * at + k) 0 ≡ get_or (word_bytes word) k 0)
      → SameTo (bytes_behind image page slot (data_words len)) bytes (3 * at) → SameTo (bytes_behind image page slot (data_words len)) bytes (3 * (at + 1))
  same_more at word l e three s k a b = by (ltb k (3 * at)) refl
    where
      by : (t : Bool) → ltb k (3 * at) ≡ t → get_or (bytes_behind image page slot (data_words len)) k 0 ≡ get_or bytes k 0
      by true q = s k (ltb-true k (3 * at) q) b
      by false q =
          let from : 3 * at ≤ k = ltb-false k (3 * at) q in
          let i : k ≡ 3 * at + (k - 3 * at) = omega (arith, from) in
          ap (λ (x : ℕ). get_or (bytes_behind image page slot (data_words len)) x 0) i
          ∙ behind_at (data_words len) image page slot at (k - 3 * at) word d l (omega (arith, from, a)) e
          ∙ sym (ap (λ (x : ℕ). get_or bytes x 0) i ∙ three (k - 3 * at) (omega (arith, from, a)) (omega (arith, from, b)))

  pub same_all : (n : ℕ) → data_words len ≤ n → SameTo (bytes_behind image page slot (data_words len)) bytes (3 * n) → take len (bytes_behind image page slot (data_words len)) ≡ bytes
  same_all n l s =
      let v : length (take len (bytes_behind image page slot (data_words len))) ≡ len = length-take-le len (bytes_behind image page slot (data_words len)) (omega (arith, behind_is)) in
      same_lists (take len (bytes_behind image page slot (data_words len))) bytes (v ∙ sym long)
      (λ k e h. get_or_default (take len (bytes_behind image page slot (data_words len))) k e 0 h
      ∙ get_or-take len (bytes_behind image page slot (data_words len)) k 0 (omega (arith, v, h)) ∙ s k (omega (arith, v, h, l)) (omega (arith, v, h, long)) ∙ get_or_default bytes k 0 e (omega (arith, v, h, long)))

pub value_same : (image : List ℕ) (id : ℕ) (place : Place) (head : Head) (bytes : List ℕ) → Stands image id place head → length bytes ≢ head.len → value_of image id ≡ Some bytes → ⊥
value_same image id place head bytes s n e =
    let long = value_length image id place head s in
    n (ap length (same_Some bytes _ (sym e ∙ s.value)) ∙ long)
