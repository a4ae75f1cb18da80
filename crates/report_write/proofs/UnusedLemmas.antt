-- Values by which a place of an Array names no usage.
use Rattle.std.proofs.Common.{◌≡◌, ℕ, ◌+◌, ◌-◌, ◌/◌, ◌%◌, ◌^◌, ◌<◌, ◌≤◌, Bool, true, false, List, length, take, get_or, arith, refl, sym, ◌∙◌, ap, Some, None, inl, inr}
use Rattle.std.specs.Prelude.{All, ℤ, pos, ◌+ℤ◌, ◌&&◌, slice_get, slice_index}
use Rattle.std.specs.Option.{option_map}
use Rattle.std.proofs.lemmas.Bool.{cases_lt, ne_eqb}
use Rattle.std.proofs.lemmas.List.{take_all}
use Rattle.std.proofs.lemmas.Option.{slice_get_within}
use Rattle.descriptor_parse.specs.declared.field.Field.{Field}
use Rattle.descriptor_parse.specs.Descriptor.{usage_list}
use Rattle.descriptor_parse.specs.Counts.{AreCounts}
use Rattle.descriptor_parse.specs.WellFormed.{IsRange}
use Rattle.descriptor_parse.proofs.CountLemmas.{len_step, in_range, count_before}
use Rattle.descriptor_parse.proofs.UsageLemmas.{no_usages}
use Rattle.field_values.specs.Lists.{is_no_control, is_unused}
use Rattle.report_write.specs.Firsts.{first}
use Rattle.report_write.specs.Unused.{id_zero}
use Rattle.report_write.proofs.Firsts.{not_right, no_first, none_more, first_is}

pub counted_before : (ranges : List (ℕ × ℕ)) (counts : List ℕ) (range : ℕ) → AreCounts ranges counts → range ≤ length ranges → (range ≡ 0 → ⊥)
    → slice_index counts (range - 1) ≡ length (usage_list (take range ranges))
counted_before ranges counts range c l n = rw (ne_eqb range 0 n) at (count_before ranges counts range c l)

-- ---- the usages whose low half is 0

-- a number names a usage whose low half is 0, by a value that the bits hold
abbrev pub is_zero : Field → List ℕ → ℕ → Bool
is_zero field usages number = is_no_control (slice_get usages number) && is_unused field usages (field.min +ℤ pos number)

-- none of those of the first ranges
abbrev pub NoneZero : Field → List (ℕ × ℕ) → ℕ → Type 0
NoneZero field ranges i = first (is_zero field (usage_list ranges)) (length (usage_list (take i ranges))) ≡ None

pub none_zero : (field : Field) (ranges : List (ℕ × ℕ)) → NoneZero field ranges 0
none_zero field ranges = let z : length (usage_list (take 0 ranges)) ≡ 0 = no_usages in rw z (no_first (is_zero field (usage_list ranges)))

zero_from : (field : Field) (usages : List ℕ) (number usage : ℕ) → slice_get usages number ≡ Some usage → usage % 2 ^ 16 ≡ 0
    → is_unused field usages (field.min +ℤ pos number) ≡ true → is_zero field usages number ≡ true
zero_from field usages number usage e z u = rw (e, z, u) refl

not_from : (field : Field) (usages : List ℕ) (number usage : ℕ) → slice_get usages number ≡ Some usage → (usage % 2 ^ 16 ≡ 0 → ⊥)
    → is_zero field usages number ≡ false
not_from field usages number usage e z = rw (e, ne_eqb (usage % 2 ^ 16) 0 z) refl

-- a usage of a range whose low half is 0 is its first
only_first : (low high k : ℕ) → low / 2 ^ 16 ≡ high / 2 ^ 16 → low + k ≤ high → (low + k) % 2 ^ 16 ≡ 0 → (k ≡ 0) × (low % 2 ^ 16 ≡ 0)
only_first low high k p l z = (omega arith, omega arith)

pub none_zero_more : (field : Field) (ranges : List (ℕ × ℕ)) (i : ℕ) → All IsRange ranges → i < length ranges
    → ((get_or ranges i (0, 0)).0 % 2 ^ 16 ≡ 0 → is_unused field (usage_list ranges) (field.min +ℤ pos (length (usage_list (take i ranges)))) ≡ false)
    → NoneZero field ranges i → NoneZero field ranges (i + 1)
none_zero_more field ranges i all l h none =
    let start = length (usage_list (take i ranges)) in
    let step = len_step ranges i l in
    let range = all i (0, 0) l in
    none_more (is_zero field (usage_list ranges)) start (length (usage_list (take (i + 1) ranges))) none (omega arith) (λ k a b.
    let low = (get_or ranges i (0, 0)).0 in
    let high = (get_or ranges i (0, 0)).1 in
    let at = in_range ranges i k l a b in
    elim (cases_lt 0 ((low + (k - start)) % 2 ^ 16)) [
      | inl some ↦ not_from field (usage_list ranges) k (low + (k - start)) at (λ e. omega arith)
      | inr nothing ↦ (let (f, z) = only_first low high (k - start) range.page (omega (arith, range.order)) (omega arith) in
          let same : k ≡ start = omega arith in
          rw same (not_right (is_no_control (slice_get (usage_list ranges) start)) (is_unused field (usage_list ranges) (field.min +ℤ pos start)) (h z)))
    ])

-- the first of them is that of a range
pub zero_first : (field : Field) (ranges : List (ℕ × ℕ)) (i : ℕ) (value : ℤ) → All IsRange ranges → i < length ranges
    → (get_or ranges i (0, 0)).0 % 2 ^ 16 ≡ 0 → value ≡ field.min +ℤ pos (length (usage_list (take i ranges)))
    → is_unused field (usage_list ranges) value ≡ true → NoneZero field ranges i → Some value ≡ id_zero field (usage_list ranges)
zero_first field ranges i value all l z v u none =
    let start = length (usage_list (take i ranges)) in
    let step = len_step ranges i l in
    let range = all i (0, 0) l in
    let low = (get_or ranges i (0, 0)).0 in
    let at = in_range ranges i start l (omega arith) (omega (arith, range.order)) in
    let back : low + (start - start) ≡ low = omega arith in
    let test = zero_from field (usage_list ranges) start low (at ∙ ap Some back) z (rw v at u) in
    let within : start < length (usage_list ranges) = slice_get_within (usage_list ranges) start low (at ∙ ap Some back) in
    let found = first_is (is_zero field (usage_list ranges)) start (length (usage_list ranges)) none test within in
    ap Some v ∙ sym (ap (option_map (λ number. field.min +ℤ pos number)) found)

pub never_zero : (field : Field) (ranges : List (ℕ × ℕ)) (i : ℕ) → length ranges ≤ i → NoneZero field ranges i → None ≡ id_zero field (usage_list ranges)
never_zero field ranges i l none =
    let all : take i ranges ≡ ranges = take_all i ranges l in
    sym (ap (option_map (λ number. field.min +ℤ pos number)) (rw all at none))
