-- The heads of several pages.
use Rattle.std.proofs.Common.{◌≡◌, ◌∙◌, ℕ, ◌+◌, ◌-◌, ◌<◌, ◌≤◌, ◌%◌, zero, suc, Bool, true, false, eqb, leb, if◌then◌else◌, refl, sym, ap, arith, add-one, List, [], ◌++◌, Option, Some, None}
use Rattle.std.proofs.lemmas.Bool.{leb-true, le-leb, eq-eqb}
use Rattle.std.proofs.lemmas.Option.{same_Some}
use Rattle.flash_model.specs.Image.{page_count}
use Rattle.settings_log.specs.declared.scan.Place.{Place}
use Rattle.settings_log.specs.declared.scan.Entry.{Entry}
use Rattle.settings_log.specs.Pages.{number_at}
use Rattle.settings_log.specs.Values.{HeadAt, heads_on, is_number, heads_before, history, last_of, or_else, greater, newest_of}
use Rattle.settings_log.specs.representation.Scan.{place_of, IsFoundOn}
use Rattle.settings_log.proofs.Slots.{last_of-append}

-- the page so many before the newest
early : (b : Bool) (heads : List HeadAt) → b ≡ false → (if b then heads else []) ≡ []
early b heads e = rw e refl

pub before_early : (image : List ℕ) (newest back : ℕ) → newest < back → heads_before image newest back ≡ []
unfolding heads_before
before_early image newest back h = early (leb back newest) _ (lt-leb back newest h)
  where
    lt-leb : (a b : ℕ) → b < a → leb a b ≡ false
    lt-leb a b h = grind (arith, leb-true)

is_held : (o : Option ℕ) (number : ℕ) → o ≡ Some number → is_number o number ≡ true
is_held o number e = rw e (eq-eqb number number refl)

not_held : (o : Option ℕ) (number : ℕ) → (o ≡ Some number → ⊥) → is_number o number ≡ false
not_held None number n = refl
not_held (Some held) number n = by (eqb held number) refl
  where
    by : (b : Bool) → eqb held number ≡ b → eqb held number ≡ false
    by true e = absurd (n (ap Some (grind arith)))
    by false e = e

pub before_counts : (image : List ℕ) (newest back page : ℕ) → back ≤ newest → page ≡ (newest - back) % page_count image → number_at image page ≡ Some (newest - back) → heads_before image newest back ≡ heads_on image page
unfolding heads_before
before_counts image newest back page h p e =
    ap (λ (b : Bool). if b then (if is_number (number_at image ((newest - back) % page_count image)) (newest - back) then heads_on image ((newest - back) % page_count image) else []) else []) (le-leb back newest h)
    ∙ ap (λ (q : ℕ). if is_number (number_at image q) (newest - back) then heads_on image q else []) (sym p)
    ∙ ap (λ (b : Bool). if b then heads_on image page else []) (is_held (number_at image page) (newest - back) e)

pub before_not : (image : List ℕ) (newest back page : ℕ) → back ≤ newest → page ≡ (newest - back) % page_count image → (number_at image page ≡ Some (newest - back) → ⊥) → heads_before image newest back ≡ []
unfolding heads_before
before_not image newest back page h p e =
    ap (λ (b : Bool). if b then (if is_number (number_at image ((newest - back) % page_count image)) (newest - back) then heads_on image ((newest - back) % page_count image) else []) else []) (le-leb back newest h)
    ∙ ap (λ (q : ℕ). if is_number (number_at image q) (newest - back) then heads_on image q else []) (sym p)
    ∙ ap (λ (b : Bool). if b then heads_on image page else []) (not_held (number_at image page) (newest - back) e)

-- an id of which nothing was known
pub none_found : (id : ℕ) (heads : List HeadAt) → heads ≡ [] → None ≡ place_of (last_of id heads)
unfolding last_of
none_found id heads e = rw e refl

or_nothing : (p : Option Place) → or_else p None ≡ p
or_nothing None = refl
or_nothing (Some x) = refl

pub found_alone : (id : ℕ) (on before : List HeadAt) (old new : Entry) → old ≡ record { id = id; found = None; coming = None } → IsFoundOn on old new → before ≡ on → new.found ≡ place_of (last_of id before)
found_alone id on before old new o f e =
    let i : old.id ≡ id = ap (λ (x : Entry). x.id) o in
    let n : old.found ≡ None = ap (λ (x : Entry). x.found) o in
    f.found ∙ ap (λ (x : Option Place). or_else (place_of (last_of old.id on)) x) n ∙ or_nothing (place_of (last_of old.id on))
    ∙ ap (λ (x : ℕ). place_of (last_of x on)) i ∙ ap (λ (x : List HeadAt). place_of (last_of id x)) (sym e)

-- the newest page with a change of an id decides
history_next : (image : List ℕ) (newest back n : ℕ) → n ≡ suc back → history image newest n ≡ heads_before image newest back ++ history image newest back
unfolding history
history_next image newest back n e = rw e refl

pub none_more : (image : List ℕ) (id newest back : ℕ) → last_of id (history image newest back) ≡ None → last_of id (heads_before image newest back) ≡ None → last_of id (history image newest (back + 1)) ≡ None
none_more image id newest back a b =
    ap (λ (x : List HeadAt). last_of id x) (history_next image newest back (back + 1) (add-one back)) ∙ last_of-append id (heads_before image newest back) (history image newest back)
    ∙ ap (λ (x : Option HeadAt). or_else x (last_of id (heads_before image newest back))) a ∙ b

some_more : (image : List ℕ) (id newest back : ℕ) (at : HeadAt) → last_of id (history image newest back) ≡ None → last_of id (heads_before image newest back) ≡ Some at → last_of id (history image newest (suc back)) ≡ Some at
some_more image id newest back at a b =
    ap (λ (x : List HeadAt). last_of id x) (history_next image newest back (suc back) refl) ∙ last_of-append id (heads_before image newest back) (history image newest back)
    ∙ ap (λ (x : Option HeadAt). or_else x (last_of id (heads_before image newest back))) a ∙ b

decided : (n : ℕ) (image : List ℕ) (id newest back : ℕ) (at : HeadAt) → last_of id (history image newest back) ≡ Some at → back ≤ n → last_of id (history image newest n) ≡ Some at
decided n image id newest back at e h = by n h (eqb back n) refl
  where
    step : (m : ℕ) → last_of id (history image newest m) ≡ Some at → last_of id (history image newest (suc m)) ≡ Some at
    step m d = ap (λ (x : List HeadAt). last_of id x) (history_next image newest m (suc m) refl) ∙ last_of-append id (heads_before image newest m) (history image newest m)
        ∙ ap (λ (x : Option HeadAt). or_else x (last_of id (heads_before image newest m))) d

    go : (m k : ℕ) → k ≡ back + m → last_of id (history image newest k) ≡ Some at
    go zero k q = let r : k ≡ back = omega (arith, q) in ap (λ (x : ℕ). last_of id (history image newest x)) r ∙ e
    go (suc m) zero q = let r : zero ≡ back = omega (arith, q) in ap (λ (x : ℕ). last_of id (history image newest x)) r ∙ e
    go (suc m) (suc k) q = step k (go m k (omega (arith, q)))

    by : (m : ℕ) → back ≤ m → (b : Bool) → eqb back m ≡ b → last_of id (history image newest m) ≡ Some at
    by m l b q = go (m - back) m (omega (arith, l))

pub last_decided : (image : List ℕ) (id newest back pages : ℕ) (at : HeadAt) → back < pages → last_of id (history image newest back) ≡ None → last_of id (heads_before image newest back) ≡ Some at → last_of id (history image newest pages) ≡ Some at
last_decided image id newest back pages at l a b = decided pages image id newest (suc back) at (some_more image id newest back at a b) (omega (arith, l))

-- the place of a head tells the head
pub at_place : (o : Option HeadAt) (place : Place) → Some place ≡ place_of o → (at : HeadAt) × (o ≡ Some at) × (place ≡ record { page = at.page; slot = at.slot })
at_place None place e = absurd (let n : None ≡ Some place = sym e in cc)
at_place (Some at) place e = (at, refl, same_Some place _ e)

pub no_place : (o : Option HeadAt) → None ≡ place_of o → o ≡ None
no_place None e = refl
no_place (Some at) e = absurd (cc)

-- the greatest number
pub newest_more : (image : List ℕ) (page : ℕ) (best result : Option ℕ) → best ≡ newest_of image page → result ≡ greater best (number_at image page) → result ≡ newest_of image (page + 1)
unfolding newest_of
newest_more image page best result b r = r ∙ ap (λ (x : Option ℕ). greater x (number_at image page)) b ∙ sym (more (page + 1) (add-one page))
  where
    more : (n : ℕ) → n ≡ suc page → newest_of image n ≡ greater (newest_of image page) (number_at image page)
    more n e = rw e refl

pub newest_none : (image : List ℕ) → None ≡ newest_of image 0
unfolding newest_of
newest_none image = refl

pub history_none : (image : List ℕ) (id newest : ℕ) → last_of id (history image newest 0) ≡ None
unfolding history last_of
history_none image id newest = refl
