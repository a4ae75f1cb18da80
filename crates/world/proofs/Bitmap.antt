use Rattle.std.proofs.Common.{◌≡◌, ◌≢◌, ℕ, suc, ◌+◌, ◌-◌, ◌/◌, ◌<◌, ◌≤◌, Bool, true, false, List, [], ◌∷◌, ◌++◌, length, length-append, arith, refl, sym, ◌∙◌, ap, inl, inr}
use Rattle.std.specs.Prelude.{Contains, filter, zip, ◌&&◌, ◌==◌}
use Rattle.descriptor_parse.specs.declared.field.Kind.TheVariants.{Input}
use Rattle.descriptor_parse.specs.Tags.{same_kind}
use Rattle.std.specs.List.Sorted.{IsStrictlyIncreasing}
use Rattle.std.proofs.lemmas.Bool.{cases_lt}
use Rattle.std.proofs.lemmas.List.Elements.{Contains-append_left, Contains-append_right, Contains-append_cases, Contains-get_or}
use Rattle.std.proofs.Math.ListN.{get_or-append}
use Rattle.std.proofs.Math.Seq.{get_or-append_right}
use Rattle.descriptor_parse.specs.Descriptor.{DescriptorValue, Describes, usage_list}
use Rattle.descriptor_parse.specs.Faults.{all_items}
use Rattle.descriptor_parse.specs.Fields.{fields, field_usages, has_report_id}
use Rattle.descriptor_parse.specs.Tags.{tag_of}
use Rattle.reports.specs.Wanted.{members, bytes_of, bitmap_bytes, bitmap_bit}
use Rattle.reports.specs.Layouts.{bit_of, bit_after_id, IsBitmapReport}
use Rattle.reports.proofs.LayoutTheorems.{bitmap-layout}
use Rattle.reports.proofs.Rising.{members-rising, members-sound, members-complete}
use Rattle.descriptor_build.specs.Served.{report_bytes}
use Rattle.world.specs.DescriptorFields.{served_fields, served_usages}
use Rattle.host_extract.proofs.Readings.{none-read}
use Rattle.host_extract.specs.declared.reading.Found.{Found}
use Rattle.host_extract.specs.Numbers.{report_bit}
use Rattle.host_extract.specs.Found.{readings_of, found, found_in}
use Rattle.host_extract.specs.Pressed.{IsRead, ArePressed}
use Rattle.world.specs.Usages.{key_usages, modifier_usages}
use Rattle.world.proofs.Served.{served_items, served-items, served-fields, served-usages}
use Rattle.world.proofs.Fields.{bit_field, HasBits, bits-sound, bits-complete}
use Rattle.host_extract.proofs.Readings.{read-left, read-right, read-cases}

pub served-ids : has_report_id served_items ≡ true
unfolding served_items tag_of
served-ids = refl

-- what is read under the ID 1
abbrev both_fields : List ℕ → List Found
both_fields bytes = readings_of (bit_field 1 0 8) (usage_list ((0x700E0, 0x700E7) ∷ [])) bytes 8
    ++ (readings_of (bit_field 1 8 161) (usage_list ((0x70004, 0x700A4) ∷ [])) bytes 161 ++ [])

served-found : (bytes : List ℕ) → found_in (filter (λ p. same_kind p.0.kind Input && p.0.id == 1) (zip served_fields served_usages)) bytes ≡ both_fields bytes
unfolding found_in served_fields served_usages
served-found bytes = refl

found-one : (d : DescriptorValue) (bytes : List ℕ) → Describes (all_items report_bytes) d → found d (1 ∷ bytes) ≡ both_fields bytes
unfolding found
found-one d bytes h =
    let ids : d.uses_ids ≡ true = h.uses_ids ∙ ap (λ items. has_report_id items) served-items ∙ served-ids in
    let fs : d.fields ≡ served_fields = h.fields ∙ ap fields served-items ∙ served-fields in
    let rs : d.ranges ≡ served_usages = h.ranges ∙ ap field_usages served-items ∙ served-usages in
    rw (ids, fs, rs) (served-found bytes)

modifiers : HasBits 8 0x700E0 0x700E7
modifiers = record { size = omega arith; some = omega arith; named = λ i l. omega arith }

usages : HasBits 161 0x70004 0x700A4
usages = record { size = omega arith; some = omega arith; named = λ i l. omega arith }

-- the bits after the ID
pub bit-set : (b : Bool) → bit_of b ≢ 0 → b ≡ true
bit-set true n = refl
bit-set false n = absurd (n refl)

pub set-bit : (b : Bool) → b ≡ true → bit_of b ≢ 0
set-bit b e = rw e (λ z. omega arith)

bit-behind : (id : ℕ) (bytes : List ℕ) (b : ℕ) → bit_after_id (id ∷ bytes) b ≡ report_bit bytes b
bit-behind id bytes b = let e : 1 + b / 8 ≡ suc (b / 8) = omega arith in rw e refl

abbrev after : (ℕ → Bool) → List ℕ
after keys = bytes_of (bitmap_bit keys) 22

layout : (keys : ℕ → Bool) → IsBitmapReport keys (1 ∷ after keys)
unfolding bitmap_bytes
layout keys = bitmap-layout keys

bit-modifier : (keys : ℕ → Bool) (i : ℕ) → i < 8 → report_bit (after keys) (0 + i) ≡ bit_of (keys (224 + i))
bit-modifier keys i l = let z : 0 + i ≡ i = omega arith in rw z (sym (bit-behind 1 (after keys) i) ∙ (layout keys).modifiers i l)

bit-usage : (keys : ℕ → Bool) (i : ℕ) → i < 161 → report_bit (after keys) (8 + i) ≡ bit_of (keys (4 + i))
bit-usage keys i l =
    let z : 4 + i - 4 ≡ i = omega arith in
    let m = (layout keys).usages (4 + i) (omega arith) (omega arith) in
    sym (bit-behind 1 (after keys) (8 + i)) ∙ rw z at m

abbrev test : (ℕ → Bool) → ℕ → Bool
test keys usage = keys (usage - 0x70000)

sound-modifier : (keys : ℕ → Bool) (u : ℕ) → IsRead (readings_of (bit_field 1 0 8) (usage_list ((0x700E0, 0x700E7) ∷ [])) (after keys) 8) u → Contains (members (test keys) 0x700E0 8) u
sound-modifier keys u r =
    let (i, l, e, v) = bits-sound (after keys) 1 0 8 0x700E0 0x700E7 modifiers 8 u (omega arith) r in
    let k : u - 0x70000 ≡ 224 + i = omega arith in
    let on : keys (224 + i) ≡ true = bit-set (keys (224 + i)) (rw (bit-modifier keys i l) at v) in
    members-complete (test keys) 0x700E0 8 u (omega arith, omega arith, ap keys k ∙ on)

sound-usage : (keys : ℕ → Bool) (u : ℕ) → IsRead (readings_of (bit_field 1 8 161) (usage_list ((0x70004, 0x700A4) ∷ [])) (after keys) 161) u → Contains (members (test keys) 0x70004 161) u
sound-usage keys u r =
    let (i, l, e, v) = bits-sound (after keys) 1 8 161 0x70004 0x700A4 usages 161 u (omega arith) r in
    let k : u - 0x70000 ≡ 4 + i = omega arith in
    let on : keys (4 + i) ≡ true = bit-set (keys (4 + i)) (rw (bit-usage keys i l) at v) in
    members-complete (test keys) 0x70004 161 u (omega arith, omega arith, ap keys k ∙ on)

complete-modifier : (keys : ℕ → Bool) (u : ℕ) → Contains (members (test keys) 0x700E0 8) u → IsRead (readings_of (bit_field 1 0 8) (usage_list ((0x700E0, 0x700E7) ∷ [])) (after keys) 8) u
complete-modifier keys u c =
    let (low, high, on) = members-sound (test keys) 0x700E0 8 u c in
    let i = u - 0x700E0 in
    let k : u - 0x70000 ≡ 224 + i = omega arith in
    let l : i < 8 = omega arith in
    let same : 0x700E0 + i ≡ u = omega arith in
    let v : report_bit (after keys) (0 + i) ≢ 0 = rw (bit-modifier keys i l) (set-bit (keys (224 + i)) (ap keys (sym k) ∙ on)) in
    rw same at (bits-complete (after keys) 1 0 8 0x700E0 0x700E7 modifiers 8 i (omega arith) l v)

complete-usage : (keys : ℕ → Bool) (u : ℕ) → Contains (members (test keys) 0x70004 161) u → IsRead (readings_of (bit_field 1 8 161) (usage_list ((0x70004, 0x700A4) ∷ [])) (after keys) 161) u
complete-usage keys u c =
    let (low, high, on) = members-sound (test keys) 0x70004 161 u c in
    let i = u - 0x70004 in
    let k : u - 0x70000 ≡ 4 + i = omega arith in
    let l : i < 161 = omega arith in
    let same : 0x70004 + i ≡ u = omega arith in
    let v : report_bit (after keys) (8 + i) ≢ 0 = rw (bit-usage keys i l) (set-bit (keys (4 + i)) (ap keys (sym k) ∙ on)) in
    rw same at (bits-complete (after keys) 1 8 161 0x70004 0x700A4 usages 161 i (omega arith) l v)

both-sound : (keys : ℕ → Bool) (u : ℕ) → IsRead (both_fields (after keys)) u → Contains (key_usages keys ++ modifier_usages keys) u
both-sound keys u r = elim (read-cases _ _ u r) [
  | inl m ↦ Contains-append_right (members (test keys) 0x70004 161) (members (test keys) 0x700E0 8) u (sound-modifier keys u m)
  | inr more ↦ elim (read-cases _ _ u more) [
    | inl k ↦ Contains-append_left (members (test keys) 0x70004 161) (members (test keys) 0x700E0 8) u (sound-usage keys u k)
    | inr none ↦ absurd (none-read u none)
  ]
]

both-complete : (keys : ℕ → Bool) (u : ℕ) → Contains (key_usages keys ++ modifier_usages keys) u → IsRead (both_fields (after keys)) u
both-complete keys u c = elim (Contains-append_cases (members (test keys) 0x70004 161) (members (test keys) 0x700E0 8) u c) [
  | inl k ↦ read-right _ _ u (read-left _ _ u (complete-usage keys u k))
  | inr m ↦ read-left _ _ u (complete-modifier keys u m)
]

-- rising lists in a row
pub rising-append : (xs ys : List ℕ) (b : ℕ) → IsStrictlyIncreasing xs → IsStrictlyIncreasing ys
    → ((x : ℕ) → Contains xs x → x < b) → ((y : ℕ) → Contains ys y → b ≤ y) → IsStrictlyIncreasing (xs ++ ys)
rising-append xs ys b rx ry below above k l = elim (cases_lt (k + 1) (length xs)) [
  | inl inside ↦ rw (get_or-append xs ys 0 k (omega arith), get_or-append xs ys 0 (k + 1) inside) (rx k inside)
  | inr past ↦ elim (cases_lt k (length xs)) [
    | inl last ↦ rw (get_or-append xs ys 0 k last, get_or-append_right xs ys (k + 1) 0 past)
        (let x = below _ (Contains-get_or xs k 0 last) in let y = above _ (Contains-get_or ys (k + 1 - length xs) 0 (omega (arith, length-append xs ys))) in omega arith)
    | inr beyond ↦ rw (get_or-append_right xs ys k 0 beyond, get_or-append_right xs ys (k + 1) 0 past)
        (let e : k + 1 - length xs ≡ k - length xs + 1 = omega arith in rw e (ry (k - length xs) (omega (arith, length-append xs ys))))
  ]
]

pub wanted-rising : (keys : ℕ → Bool) → IsStrictlyIncreasing (key_usages keys ++ modifier_usages keys)
wanted-rising keys = rising-append (members (test keys) 0x70004 161) (members (test keys) 0x700E0 8) 0x700E0
    (members-rising (test keys) 0x70004 161) (members-rising (test keys) 0x700E0 8)
    (λ x c. let m = members-sound (test keys) 0x70004 161 x c in let high = m.1 in omega arith)
    (λ y c. (members-sound (test keys) 0x700E0 8 y c).0)

pub bitmap-read : (keys : ℕ → Bool) (d : DescriptorValue) → Describes (all_items report_bytes) d → ArePressed (found d (bitmap_bytes keys)) (key_usages keys ++ modifier_usages keys)
unfolding bitmap_bytes
bitmap-read keys d h = record {
  rising = wanted-rising keys;
  members = λ u. (λ c. rw (found-one d (after keys) h) (both-complete keys u c), λ r. both-sound keys u (rw (found-one d (after keys) h) at r));
}
