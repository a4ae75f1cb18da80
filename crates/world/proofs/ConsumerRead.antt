use Rattle.std.proofs.Common.{◌≡◌, ℕ, zero, suc, ◌+◌, ◌-◌, ◌*◌, ◌/◌, ◌%◌, ◌^◌, ◌<◌, ◌≤◌, ◌⊎◌, true, List, [], ◌∷◌, ◌++◌, length, length-append, get_or, arith, refl, sym, ◌∙◌, ap, inl, inr, replicate}
use Rattle.std.specs.Prelude.{Contains, Bool, map, take, filter, zip, ◌&&◌, ◌==◌}
use Rattle.descriptor_parse.specs.declared.field.Kind.TheVariants.{Input}
use Rattle.descriptor_parse.specs.Tags.{same_kind}
use Rattle.reports.proofs.Rising.{members-rising, members-sound}
use Rattle.reports.specs.Wanted.{words_of, padded, consumer_listed, consumer_bytes}
use Rattle.world.specs.Usages.{consumer_usages}
use Rattle.std.specs.List.Sorted.{IsStrictlyIncreasing}
use Rattle.std.proofs.lemmas.Grind.{get_or_default_zero}
use Rattle.std.proofs.lemmas.List.{get_or-replicate, length-replicate, get_or-map, length-map, get_or-take, length-take}
use Rattle.std.proofs.lemmas.List.Elements.{Contains-append_left, Contains-append_cases, Contains-get_or}
use Rattle.descriptor_parse.specs.Descriptor.{DescriptorValue, Describes, usage_list}
use Rattle.descriptor_parse.specs.Faults.{all_items}
use Rattle.descriptor_parse.specs.Fields.{fields, field_usages, has_report_id}
use Rattle.descriptor_build.specs.Served.{report_bytes}
use Rattle.world.specs.DescriptorFields.{served_fields, served_usages}
use Rattle.host_extract.specs.declared.reading.Found.{Found}
use Rattle.host_extract.specs.Found.{readings_of, found, found_in}
use Rattle.host_extract.specs.Pressed.{IsRead, ArePressed}
use Rattle.host_extract.specs.Numbers.{number_at}
use Rattle.world.proofs.Served.{served-items, served-fields, served-usages}
use Rattle.host_extract.proofs.Readings.{read-left, read-cases, none-read}
use Rattle.world.proofs.Arrays.{number-word, array_field, HasValues, Values, array-sound, array-complete}
use Rattle.world.proofs.Bitmap.{served-ids}

-- the report of ID 2 that lists these usages
abbrev array_bytes : List ℕ → List ℕ
array_bytes usages = 2 ∷ words_of (padded usages)

-- usages of page 0Ch that one report can list, rising
record FitArray (usages : List ℕ) : Type 0 where
  few : length usages ≤ 4
  rising : IsStrictlyIncreasing usages
  some : (u : ℕ) → Contains usages u → (0 < u) × (u ≤ 0x3FF)

abbrev usages_of : List ℕ → List ℕ
usages_of usages = map (λ u. 0xC0000 + u) usages

abbrev array_readings : List ℕ → List Found
array_readings bytes = readings_of (array_field 2 0 16 4 0x3FF) (usage_list ((0xC0000, 0xC0000 + 0x3FF) ∷ [])) bytes 4

served-found-two : (bytes : List ℕ) → found_in (filter (λ p. same_kind p.0.kind Input && p.0.id == 2) (zip served_fields served_usages)) bytes ≡ array_readings bytes ++ []
unfolding found_in served_fields served_usages
served-found-two bytes = refl

found-two : (d : DescriptorValue) (bytes : List ℕ) → Describes (all_items report_bytes) d → found d (2 ∷ bytes) ≡ array_readings bytes ++ []
unfolding found
found-two d bytes h =
    let ids : d.uses_ids ≡ true = h.uses_ids ∙ ap (λ items. has_report_id items) served-items ∙ served-ids in
    let fs : d.fields ≡ served_fields = h.fields ∙ ap fields served-items ∙ served-fields in
    let rs : d.ranges ≡ served_usages = h.ranges ∙ ap field_usages served-items ∙ served-usages in
    rw (ids, fs, rs) (served-found-two bytes)

values : HasValues 0xC0000 0x3FF
values = record { page = refl; small = omega arith }

word-low : (xs : List ℕ) (p : ℕ) → get_or (words_of xs) (2 * p) 0 ≡ get_or xs p 0 % 256
unfolding words_of
word-low [] p = refl
word-low (x ∷ xs) zero = refl
word-low (x ∷ xs) (suc p) = let e : 2 * suc p ≡ suc (suc (2 * p)) = omega arith in rw e (word-low xs p)

word-high : (xs : List ℕ) (p : ℕ) → get_or (words_of xs) (2 * p + 1) 0 ≡ get_or xs p 0 / 256
unfolding words_of
word-high [] p = refl
word-high (x ∷ xs) zero = refl
word-high (x ∷ xs) (suc p) = let e : 2 * suc p + 1 ≡ suc (suc (2 * p + 1)) = omega arith in rw e (word-high xs p)

word : (xs : List ℕ) (p : ℕ) → get_or xs p 0 < 2 ^ 16 → number_at (words_of xs) (0 + 16 * p) 16 ≡ get_or xs p 0
word xs p l =
    let e : 0 + 16 * p ≡ 8 * (2 * p) = omega arith in
    let low = word-low xs p in
    let high = word-high xs p in
    rw e (number-word (words_of xs) (2 * p) (omega arith) (omega arith) ∙ omega arith)

words-length : (xs : List ℕ) → length (words_of xs) ≡ 2 * length xs
unfolding words_of
words-length [] = refl
words-length (x ∷ xs) = let e = words-length xs in omega arith

abbrev places : List ℕ → List ℕ
places usages = usages ++ replicate {A = ℕ} (4 - length usages) 0

length-places : (usages : List ℕ) → length usages ≤ 4 → length (places usages) ≡ 4
length-places usages l = omega (arith, length-append usages (replicate {A = ℕ} (4 - length usages) 0), length-replicate {A = ℕ} (4 - length usages) 0)

in-places : (usages : List ℕ) (v : ℕ) → Contains (places usages) v → Contains usages v ⊎ (v ≡ 0)
in-places usages v c = elim (Contains-append_cases usages (replicate {A = ℕ} (4 - length usages) 0) v c) [
  | inl old ↦ inl old
  | inr (k, l, e) ↦ inr (sym e ∙ get_or-replicate {A = ℕ} (4 - length usages) k 0 v (omega (arith, length-replicate {A = ℕ} (4 - length usages) 0)))
]

place-in : (usages : List ℕ) (p : ℕ) → length usages ≤ 4 → p < 4 → Contains usages (get_or (places usages) p 0) ⊎ (get_or (places usages) p 0 ≡ 0)
place-in usages p few l = in-places usages (get_or (places usages) p 0) (Contains-get_or (places usages) p 0 (omega (arith, length-places usages few)))

small : (usages : List ℕ) (v : ℕ) → FitArray usages → Contains usages v ⊎ (v ≡ 0) → v ≤ 0x3FF
small usages v f (inl c) = (f.some v c).1
small usages v f (inr z) = omega arith

place-values : (usages : List ℕ) → FitArray usages → Values (words_of (places usages)) 0 16 4 0x3FF (λ p. get_or (places usages) p 0)
place-values usages f p l =
    let s = small usages (get_or (places usages) p 0) f (place-in usages p f.few l) in
    (word (places usages) p (omega arith), s)

mapped : (usages : List ℕ) (v u : ℕ) → Contains usages v → 0xC0000 + v ≡ u → Contains (usages_of usages) u
mapped usages v u (k, l, e) s =
    (k, omega (arith, length-map usages (λ x. 0xC0000 + x)), get_or-map (λ x. 0xC0000 + x) usages k v u l ∙ ap (λ x. 0xC0000 + x) e ∙ s)

unmapped : (usages : List ℕ) (u : ℕ) → Contains (usages_of usages) u → (v : ℕ) × Contains usages v × (0xC0000 + v ≡ u)
unmapped usages u (k, l, e) =
    let m : k < length usages = omega (arith, length-map usages (λ x. 0xC0000 + x)) in
    (get_or usages k 0, Contains-get_or usages k 0 m, sym (get_or-map (λ x. 0xC0000 + x) usages k 0 u m) ∙ e)

sound : (usages : List ℕ) (u : ℕ) → FitArray usages → IsRead (array_readings (words_of (places usages)) ++ []) u → Contains (usages_of usages) u
sound usages u f r = elim (read-cases (array_readings (words_of (places usages))) [] u r) [
  | inr none ↦ absurd (none-read u none)
  | inl some ↦ (let (p, l, nz, e) = array-sound (words_of (places usages)) 2 0 16 4 0x3FF 0xC0000 (λ p. get_or (places usages) p 0) (place-values usages f) values 4 u (omega arith) some in
      elim (place-in usages p f.few l) [
        | inl c ↦ mapped usages (get_or (places usages) p 0) u c e
        | inr z ↦ absurd (nz z)
      ])
]

complete : (usages : List ℕ) (u : ℕ) → FitArray usages → Contains (usages_of usages) u → IsRead (array_readings (words_of (places usages)) ++ []) u
complete usages u f c =
    let (v, in_usages, s) = unmapped usages u c in
    let some = (f.some v in_usages).0 in
    let (k, l, e) = Contains-append_left usages (replicate {A = ℕ} (4 - length usages) 0) v in_usages in
    let here : get_or (places usages) k 0 ≡ v = sym (get_or_default_zero (places usages) k v l) ∙ e in
    let l4 : k < 4 = omega (arith, length-places usages f.few) in
    read-left (array_readings (words_of (places usages))) [] u
    (array-complete (words_of (places usages)) 2 0 16 4 0x3FF 0xC0000 (λ p. get_or (places usages) p 0) (place-values usages f) values 4 u (omega arith)
    (k, l4, (λ z. let w = sym here ∙ z in omega arith), ap (λ x. 0xC0000 + x) here ∙ s))

map-rising : (usages : List ℕ) → IsStrictlyIncreasing usages → IsStrictlyIncreasing (usages_of usages)
map-rising usages r k l =
    let n = length-map usages (λ x. 0xC0000 + x) in
    let a = get_or-map (λ x. 0xC0000 + x) usages k 0 0 (omega arith) in
    let b = get_or-map (λ x. 0xC0000 + x) usages (k + 1) 0 0 (omega arith) in
    let s = r k (omega arith) in
    omega arith

array-read : (usages : List ℕ) (d : DescriptorValue) → FitArray usages → Describes (all_items report_bytes) d → ArePressed (found d (array_bytes usages)) (usages_of usages)
array-read usages d f h = record {
  rising = map-rising usages f.rising;
  members = λ u. (λ c. rw (found-two d (words_of (places usages)) h) (complete usages u f c), λ r. sound usages u f (rw (found-two d (words_of (places usages)) h) at r));
}

-- ---- the four least of a set

in-front : (n : ℕ) (xs : List ℕ) (u : ℕ) → Contains (take n xs) u → Contains xs u
in-front n xs u (k, l, e) =
    let len = length-take n xs in
    let m : k < n = omega arith in
    (k, omega arith, sym (get_or-take n xs k u m) ∙ e)

front-rising : (n : ℕ) (xs : List ℕ) → IsStrictlyIncreasing xs → IsStrictlyIncreasing (take n xs)
front-rising n xs r k l =
    let len = length-take n xs in
    let a : k < n = omega arith in
    let b : k + 1 < n = omega arith in
    rw (get_or-take n xs k 0 a, get_or-take n xs (k + 1) 0 b) (r k (omega arith))

four-least : (consumer : ℕ → Bool) → FitArray (take 4 (consumer_listed consumer))
four-least consumer = record {
  few = omega (arith, length-take 4 (consumer_listed consumer));
  rising = front-rising 4 (consumer_listed consumer) (members-rising consumer 1 1023);
  some = λ u c. let (low, high, on) = members-sound consumer 1 1023 u (in-front 4 (consumer_listed consumer) u c) in (omega arith, omega arith);
}

pub consumer-rising : (consumer : ℕ → Bool) → IsStrictlyIncreasing (consumer_usages consumer)
consumer-rising consumer = map-rising (take 4 (consumer_listed consumer)) (four-least consumer).rising

pub consumer-read : (consumer : ℕ → Bool) (d : DescriptorValue) → Describes (all_items report_bytes) d → ArePressed (found d (consumer_bytes consumer)) (consumer_usages consumer)
unfolding consumer_bytes
consumer-read consumer d h = array-read (take 4 (consumer_listed consumer)) d (four-least consumer) h

pub consumer-size : (consumer : ℕ → Bool) → length (consumer_bytes consumer) ≡ 9
unfolding consumer_bytes
consumer-size consumer =
    let four = length-places (take 4 (consumer_listed consumer)) (four-least consumer).few in
    let two = words-length (places (take 4 (consumer_listed consumer))) in
    omega arith
