use Rattle.std.proofs.Common.{◌≡◌, ◌≢◌, ℕ, suc, ◌+◌, ◌-◌, ◌*◌, ◌/◌, ◌%◌, ◌<◌, ◌≤◌, ◌⊎◌, Bool, true, false, List, [], ◌∷◌, ◌++◌, length, get_or, arith, refl, sym, ◌∙◌, ap, inl, inr, if◌then◌else◌, replicate}
use Rattle.std.specs.Prelude.{Contains, nat_le}
use Rattle.std.specs.List.Sorted.{IsStrictlyIncreasing}
use Rattle.std.proofs.lemmas.Bool.{cases_lt}
use Rattle.std.proofs.lemmas.Grind.{get_or_default_zero}
use Rattle.std.proofs.lemmas.List.{get_or-replicate, length-replicate}
use Rattle.std.proofs.lemmas.List.Elements.{Contains-append_left, Contains-append_right, Contains-append_cases, Contains-get_or}
use Rattle.descriptor_parse.specs.Descriptor.{DescriptorValue, Describes, usage_list}
use Rattle.descriptor_parse.specs.Faults.{all_items}
use Rattle.descriptor_parse.specs.Fields.{fields, field_usages, has_report_id}
use Rattle.reports.specs.Wanted.{listed, places_of, modifiers_of, boot_bytes}
use Rattle.reports.specs.Layouts.{bit_of}
use Rattle.reports.proofs.Bits.{bit_at-byte_of}
use Rattle.reports.proofs.Members.{le_test, gt_test, length-places_of}
use Rattle.reports.proofs.Rising.{members-rising, members-sound, members-complete}
use Rattle.host_extract.specs.Boot.{boot_descriptor_bytes}
use Rattle.world.specs.DescriptorFields.{boot_fields, boot_usages}
use Rattle.host_extract.specs.declared.reading.Found.{Found}
use Rattle.host_extract.specs.Numbers.{report_bit}
use Rattle.host_extract.specs.Found.{readings_of, found, found_in}
use Rattle.host_extract.specs.Pressed.{IsRead, ArePressed}
use Rattle.world.specs.Usages.{key_usages, modifier_usages, boot_key_usages}
use Rattle.host.proofs.BootLemmas.{boot-items, boot-ids}
use Rattle.world.proofs.Boot.{boot-fields, boot-usages}
use Rattle.world.proofs.Fields.{bit_field, HasBits, bits-sound, bits-complete}
use Rattle.host_extract.proofs.Readings.{read-left, read-right, read-cases, none-read}
use Rattle.world.proofs.Arrays.{number-byte, array_field, HasValues, Values, array-sound, array-complete}
use Rattle.world.proofs.Bitmap.{bit-set, set-bit, rising-append}

abbrev modifier_readings : List ℕ → List Found
modifier_readings bytes = readings_of (bit_field 0 0 8) (usage_list ((0x700E0, 0x700E7) ∷ [])) bytes 8

abbrev key_readings : List ℕ → List Found
key_readings bytes = readings_of (array_field 0 16 8 6 0xA4) (usage_list ((0x70000, 0x70000 + 0xA4) ∷ [])) bytes 6

found-boot : (d : DescriptorValue) (bytes : List ℕ) → Describes (all_items boot_descriptor_bytes) d → found d bytes ≡ modifier_readings bytes ++ (key_readings bytes ++ [])
unfolding found found_in boot_fields boot_usages
found-boot d bytes h =
    let ids : d.uses_ids ≡ false = h.uses_ids ∙ ap (λ items. has_report_id items) boot-items ∙ boot-ids in
    let fs : d.fields ≡ boot_fields = h.fields ∙ ap fields boot-items ∙ boot-fields in
    let rs : d.ranges ≡ boot_usages = h.ranges ∙ ap field_usages boot-items ∙ boot-usages in
    rw (ids, fs, rs) refl

modifiers : HasBits 8 0x700E0 0x700E7
modifiers = record { size = omega arith; some = omega arith; named = λ i l. omega arith }

values : HasValues 0x70000 0xA4
values = record { page = refl; small = omega arith }

abbrev bytes_of_boot : ℕ → List ℕ → List ℕ
bytes_of_boot m places = m ∷ 0 ∷ places

abbrev test : (ℕ → Bool) → ℕ → Bool
test keys usage = keys (usage - 0x70000)

-- ---- modifiers

bit-modifier : (keys : ℕ → Bool) (places : List ℕ) (i : ℕ) → i < 8 → report_bit (bytes_of_boot (modifiers_of keys) places) (0 + i) ≡ bit_of (keys (224 + i))
bit-modifier keys places i l =
    let a : (0 + i) / 8 ≡ 0 = omega arith in
    let b : (0 + i) % 8 ≡ i = omega arith in
    rw (a, b) (bit_at-byte_of (λ i. keys (224 + i)) i l)

modifier-sound : (keys : ℕ → Bool) (places : List ℕ) (u : ℕ) → IsRead (modifier_readings (bytes_of_boot (modifiers_of keys) places)) u → Contains (modifier_usages keys) u
modifier-sound keys places u r =
    let (i, l, e, v) = bits-sound (bytes_of_boot (modifiers_of keys) places) 0 0 8 0x700E0 0x700E7 modifiers 8 u (omega arith) r in
    let k : u - 0x70000 ≡ 224 + i = omega arith in
    let on : keys (224 + i) ≡ true = bit-set (keys (224 + i)) (rw (bit-modifier keys places i l) at v) in
    members-complete (test keys) 0x700E0 8 u (omega arith, omega arith, ap keys k ∙ on)

modifier-complete : (keys : ℕ → Bool) (places : List ℕ) (u : ℕ) → Contains (modifier_usages keys) u → IsRead (modifier_readings (bytes_of_boot (modifiers_of keys) places)) u
modifier-complete keys places u c =
    let (low, high, on) = members-sound (test keys) 0x700E0 8 u c in
    let i = u - 0x700E0 in
    let k : u - 0x70000 ≡ 224 + i = omega arith in
    let l : i < 8 = omega arith in
    let same : 0x700E0 + i ≡ u = omega arith in
    let v : report_bit (bytes_of_boot (modifiers_of keys) places) (0 + i) ≢ 0 = rw (bit-modifier keys places i l) (set-bit (keys (224 + i)) (ap keys (sym k) ∙ on)) in
    rw same at (bits-complete (bytes_of_boot (modifiers_of keys) places) 0 0 8 0x700E0 0x700E7 modifiers 8 i (omega arith) l v)

-- ---- places

abbrev Listed : (ℕ → Bool) → ℕ → Type 0
Listed keys v = ((length (listed keys) ≤ 6) × (Contains (listed keys) v ⊎ (v ≡ 0))) ⊎ ((6 < length (listed keys)) × (v ≡ 1))

replicated : (n x v : ℕ) → Contains (replicate {A = ℕ} n x) v → v ≡ x
replicated n x v (k, l, e) = sym e ∙ get_or-replicate {A = ℕ} n k x v (omega (arith, length-replicate {A = ℕ} n x))

places-few : (usages : List ℕ) → length usages ≤ 6 → places_of usages ≡ usages ++ replicate {A = ℕ} (6 - length usages) 0
places-few usages l = rw (le_test (length usages) 6 l) refl

places-many : (usages : List ℕ) → 6 < length usages → places_of usages ≡ replicate {A = ℕ} 6 1
places-many usages l = rw (gt_test (length usages) 6 l) refl

place-cases : (keys : ℕ → Bool) (v : ℕ) → Contains (places_of (listed keys)) v → Listed keys v
place-cases keys v c = elim (cases_lt 6 (length (listed keys))) [
  | inl many ↦ inr (many, replicated 6 1 v (rw (places-many (listed keys) many) at c))
  | inr few ↦ inl (
    few,
    elim (Contains-append_cases (listed keys) (replicate {A = ℕ} (6 - length (listed keys)) 0) v (rw (places-few (listed keys) few) at c)) [
      | inl old ↦ inl old
      | inr zeros ↦ inr (replicated (6 - length (listed keys)) 0 v zeros)
    ],
  )
]

abbrev place : (ℕ → Bool) → ℕ → ℕ
place keys p = get_or (places_of (listed keys)) p 0

place-in : (keys : ℕ → Bool) (p : ℕ) → p < 6 → Contains (places_of (listed keys)) (place keys p)
place-in keys p l = Contains-get_or (places_of (listed keys)) p 0 (omega (arith, length-places_of (listed keys)))

listed-small : (keys : ℕ → Bool) (v : ℕ) → Listed keys v → v ≤ 164
listed-small keys v (inl (few, inl c)) = let m = members-sound keys 4 161 v c in let high = m.1 in omega arith
listed-small keys v (inl (few, inr z)) = omega arith
listed-small keys v (inr (many, e)) = omega arith

place-values : (keys : ℕ → Bool) (m : ℕ) → Values (bytes_of_boot m (places_of (listed keys))) 16 8 6 164 (place keys)
place-values keys m p l =
    let small : place keys p ≤ 164 = listed-small keys (place keys p) (place-cases keys (place keys p) (place-in keys p l)) in
    let e : 2 + p ≡ suc (suc p) = omega arith in
    let at : get_or (bytes_of_boot m (places_of (listed keys))) (2 + p) 0 ≡ place keys p = rw e refl in
    let b : 16 + 8 * p ≡ 8 * (2 + p) = omega arith in
    (rw b (number-byte (bytes_of_boot m (places_of (listed keys))) (2 + p) (omega arith) ∙ at), small)

abbrev wanted_places : (ℕ → Bool) → List ℕ
wanted_places keys = if nat_le (length (listed keys)) 6 then key_usages keys else 0x70001 ∷ []

key-wanted : (keys : ℕ → Bool) (v u : ℕ) → Listed keys v → v ≢ 0 → 0x70000 + v ≡ u → Contains (wanted_places keys) u
key-wanted keys v u (inl (few, inl c)) nz e =
    let (low, high, on) = members-sound keys 4 161 v c in
    let k : u - 0x70000 ≡ v = omega arith in
    rw (le_test (length (listed keys)) 6 few) (members-complete (test keys) 0x70004 161 u (omega arith, omega arith, ap keys k ∙ on))
key-wanted keys v u (inl (few, inr z)) nz e = absurd (nz z)
key-wanted keys v u (inr (many, one)) nz e = rw (gt_test (length (listed keys)) 6 many) (0, omega arith, omega arith)

key-sound : (keys : ℕ → Bool) (m u : ℕ) → IsRead (key_readings (bytes_of_boot m (places_of (listed keys)))) u → Contains (wanted_places keys) u
key-sound keys m u r =
    let (p, l, nz, e) = array-sound (bytes_of_boot m (places_of (listed keys))) 0 16 8 6 0xA4 0x70000 (place keys) (place-values keys m) values 6 u (omega arith) r in
    key-wanted keys (place keys p) u (place-cases keys (place keys p) (place-in keys p l)) nz e

-- where a value stands
at-place : (keys : ℕ → Bool) (m v u : ℕ) → Contains (places_of (listed keys)) v → v ≢ 0 → 0x70000 + v ≡ u → IsRead (key_readings (bytes_of_boot m (places_of (listed keys)))) u
at-place keys m v u (k, l, e) nz s =
    let here : place keys k ≡ v = sym (get_or_default_zero (places_of (listed keys)) k v l) ∙ e in
    let l6 : k < 6 = omega (arith, length-places_of (listed keys)) in
    array-complete (bytes_of_boot m (places_of (listed keys))) 0 16 8 6 0xA4 0x70000 (place keys) (place-values keys m) values 6 u (omega arith)
    (k, l6, λ z. nz (sym here ∙ z), ap (λ x. 0x70000 + x) here ∙ s)

key-few : (keys : ℕ → Bool) (m u : ℕ) → length (listed keys) ≤ 6 → Contains (key_usages keys) u → IsRead (key_readings (bytes_of_boot m (places_of (listed keys)))) u
key-few keys m u few c =
    let (low, high, on) = members-sound (test keys) 0x70004 161 u c in
    let v = u - 0x70000 in
    let in_listed : Contains (listed keys) v = members-complete keys 4 161 v (omega arith, omega arith, on) in
    let in_places : Contains (places_of (listed keys)) v = rw (places-few (listed keys) few) (Contains-append_left (listed keys) (replicate {A = ℕ} (6 - length (listed keys)) 0) v in_listed) in
    at-place keys m v u in_places (λ z. omega arith) (omega arith)

key-many : (keys : ℕ → Bool) (m u : ℕ) → 6 < length (listed keys) → 0x70001 ≡ u → IsRead (key_readings (bytes_of_boot m (places_of (listed keys)))) u
key-many keys m u many e =
    let in_places : Contains (places_of (listed keys)) 1 = rw (places-many (listed keys) many) (0, omega arith, refl) in
    at-place keys m 1 u in_places (λ z. omega arith) (omega arith)

one-item : (x u : ℕ) → Contains (x ∷ []) u → x ≡ u
one-item x u (k, l, e) = let z : k ≡ 0 = omega arith in rw z at e

key-complete : (keys : ℕ → Bool) (m u : ℕ) → Contains (wanted_places keys) u → IsRead (key_readings (bytes_of_boot m (places_of (listed keys)))) u
key-complete keys m u c = elim (cases_lt 6 (length (listed keys))) [
  | inl many ↦ key-many keys m u many (one-item 0x70001 u (rw (gt_test (length (listed keys)) 6 many) at c))
  | inr few ↦ key-few keys m u few (rw (le_test (length (listed keys)) 6 few) at c)
]

-- ---- all

places-below : (keys : ℕ → Bool) (x : ℕ) → Contains (wanted_places keys) x → x < 0x700E0
places-below keys x c = elim (cases_lt 6 (length (listed keys))) [
  | inl many ↦ (let e = one-item 0x70001 x (rw (gt_test (length (listed keys)) 6 many) at c) in omega arith)
  | inr few ↦ (let (low, high, on) = members-sound (test keys) 0x70004 161 x (rw (le_test (length (listed keys)) 6 few) at c) in omega arith)
]

places-rising : (keys : ℕ → Bool) → IsStrictlyIncreasing (wanted_places keys)
places-rising keys = elim (cases_lt 6 (length (listed keys))) [
  | inl many ↦ rw (gt_test (length (listed keys)) 6 many) (λ k l. omega arith)
  | inr few ↦ rw (le_test (length (listed keys)) 6 few) (members-rising (test keys) 0x70004 161)
]

sound : (keys : ℕ → Bool) (bytes : List ℕ) (u : ℕ) → bytes ≡ bytes_of_boot (modifiers_of keys) (places_of (listed keys))
    → IsRead (modifier_readings bytes ++ (key_readings bytes ++ [])) u → Contains (boot_key_usages keys ++ modifier_usages keys) u
sound keys bytes u e r = elim (read-cases (modifier_readings bytes) (key_readings bytes ++ []) u r) [
  | inl m ↦ Contains-append_right (wanted_places keys) (modifier_usages keys) u (modifier-sound keys (places_of (listed keys)) u (rw e at m))
  | inr more ↦ elim (read-cases (key_readings bytes) [] u more) [
    | inl k ↦ Contains-append_left (wanted_places keys) (modifier_usages keys) u (key-sound keys (modifiers_of keys) u (rw e at k))
    | inr none ↦ absurd (none-read u none)
  ]
]

complete : (keys : ℕ → Bool) (bytes : List ℕ) (u : ℕ) → bytes ≡ bytes_of_boot (modifiers_of keys) (places_of (listed keys))
    → Contains (boot_key_usages keys ++ modifier_usages keys) u → IsRead (modifier_readings bytes ++ (key_readings bytes ++ [])) u
complete keys bytes u e c = elim (Contains-append_cases (wanted_places keys) (modifier_usages keys) u c) [
  | inl k ↦ read-right (modifier_readings bytes) (key_readings bytes ++ []) u (read-left (key_readings bytes) [] u (rw e (key-complete keys (modifiers_of keys) u k)))
  | inr m ↦ read-left (modifier_readings bytes) (key_readings bytes ++ []) u (rw e (modifier-complete keys (places_of (listed keys)) u m))
]

parts : (keys : ℕ → Bool) → boot_bytes keys ≡ bytes_of_boot (modifiers_of keys) (places_of (listed keys))
unfolding boot_bytes
parts keys = refl

pub boot-rising : (keys : ℕ → Bool) → IsStrictlyIncreasing (boot_key_usages keys ++ modifier_usages keys)
boot-rising keys = rising-append (wanted_places keys) (modifier_usages keys) 0x700E0 (places-rising keys) (members-rising (test keys) 0x700E0 8)
    (places-below keys) (λ y c. (members-sound (test keys) 0x700E0 8 y c).0)

pub boot-read : (keys : ℕ → Bool) (d : DescriptorValue) → Describes (all_items boot_descriptor_bytes) d → ArePressed (found d (boot_bytes keys)) (boot_key_usages keys ++ modifier_usages keys)
boot-read keys d h = record {
  rising = boot-rising keys;
  members = λ u. (
    λ c. rw (found-boot d (boot_bytes keys) h) (complete keys (boot_bytes keys) u (parts keys) c),
    λ r. sound keys (boot_bytes keys) u (parts keys) (rw (found-boot d (boot_bytes keys) h) at r),
  );
}
