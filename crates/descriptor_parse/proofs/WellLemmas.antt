-- What holds of the descriptor of each text that shows no fault.
use Rattle.std.proofs.lemmas.Grind.{common_steps}
use Rattle.std.proofs.Common.{◌≡◌, ℕ, ◌+◌, ◌*◌, ◌/◌, ◌^◌, ◌<◌, ◌≤◌, List, [], ◌∷◌, length, get_or, refl, arith, sym, ◌∙◌, ap, Bool, true, false, cond, Some, inl, inr, length-append, ◌⊎◌}
use Rattle.std.specs.Prelude.{Option, ◌==◌, ◌&&◌, ◌||◌, not, nat_lt, nat_le, All, pos, neg_ℤ, ◌≤ℤ◌, ◌<ℤ◌}
use Rattle.std.proofs.lemmas.Bool.{cases_Bool, cases_eq, and_parts, or_parts, ltb-true, ltb-false, leb-false, eq-eqb, eqb-true, not-true, not-false}
use Rattle.std.proofs.lemmas.Nat.{mul-le}
use Rattle.std.proofs.lemmas.List.Elements.{All-nil, All-cons, All-append, All-push, All-same, All-weaker}
use Rattle.std.proofs.Math.Bool.{or-true}
use Rattle.descriptor_parse.specs.declared.fault.ParseFault.{ParseFault}
use Rattle.descriptor_parse.specs.declared.fault.ParseFault.TheVariants.{SizeTooLarge, CountTooLarge, UnpairedUsage, UsageInverted, TooManyFields, MixedIds}
use Rattle.descriptor_parse.specs.declared.field.Kind.{Kind}
use Rattle.descriptor_parse.specs.declared.field.Field.{Field}
use Rattle.descriptor_parse.specs.declared.tag.Tag.{Tag}
use Rattle.descriptor_parse.specs.declared.tag.Tag.TheVariants.{Main, Local, Skipped}
use Rattle.descriptor_parse.specs.declared.tag.MainTag.TheVariants.{Data}
use Rattle.descriptor_parse.specs.declared.tag.LocalTag.TheVariants as local
use Rattle.descriptor_parse.specs.Items.{ItemValue}
use Rattle.descriptor_parse.specs.Tags.{tag, same_kind, is_data, is_data_of, is_report_id}
use Rattle.descriptor_parse.specs.Globals.{unsigned, usage_page, report_size, report_count, report_id}
use Rattle.descriptor_parse.specs.Locals.{has_page, usage_number, unpaired, range_made, usages_since_main, is_match, breaks_pair, is_inverted}
use Rattle.descriptor_parse.specs.Fields.{is_constant, is_field, kind_of, declared_field, fields, field_usages, report_bits, has_report_id, has_bare_data}
use Rattle.descriptor_parse.specs.Faults.{shows, all_items, IsFaultless, mixes_ids}
use Rattle.descriptor_parse.specs.Descriptor.{DescriptorValue, Describes, bits_of}
use Rattle.descriptor_parse.specs.WellFormed.{FitsField, IsRange, IsWellFormed}
use Rattle.descriptor_parse.proofs.FaultLemmas.{clean}
use Rattle.descriptor_parse.proofs.LocalLemmas.{unsigned_two, unpaired_step, usages_step, still_unpaired, with_usages}
use Rattle.descriptor_parse.proofs.StateLemmas.{long_skipped}
use Rattle.descriptor_parse.proofs.FewLemmas.{few_usages}
use Rattle.descriptor_parse.proofs.SoundLemmas.{AreData, unsigned_fits, FitsSigned32, IsSound, AreSound, all_sound, few_items, no_id, extents}

-- ---- the fields

-- what holds of a field after these items
record Fits (items : List ItemValue) (field : Field) : Type 0 where
  size_some : 0 < field.size
  size : field.size ≤ 32
  count_some : 0 < field.count
  count : field.count ≤ 1024
  bits : field.bit + field.size * field.count ≤ report_bits field.kind field.id items
  min : FitsSigned32 field.min
  max_from : neg_ℤ (pos (2 ^ 31)) ≤ℤ field.max
  max_to : field.max <ℤ pos (2 ^ 32)
  bare : field.id ≡ 0 → has_bare_data items ≡ true
  used : (field.id ≡ 0 → ⊥) → has_report_id items ≡ true

bits_grow : (kind : Kind) (id : ℕ) (item : ItemValue) (before : List ItemValue) → report_bits kind id before ≤ report_bits kind id (item ∷ before)
unfolding report_bits
bits_grow kind id item before =
    elim (cases_Bool (is_data_of kind (tag item) && report_id before == id)) [ inl e ↦ rw e (omega arith) | inr e ↦ rw e (omega arith) ]

bare_stays : (item : ItemValue) (before : List ItemValue) → has_bare_data before ≡ true → has_bare_data (item ∷ before) ≡ true
unfolding has_bare_data
bare_stays item before b =
    elim (cases_Bool (is_data (tag item) && report_id before == 0)) [ inl e ↦ rw e refl | inr e ↦ rw e b ]

fits_on : (item : ItemValue) (before : List ItemValue) (field : Field) → Fits before field → Fits (item ∷ before) field
fits_on item before field f =
    let grow : report_bits field.kind field.id before ≤ report_bits field.kind field.id (item ∷ before) = bits_grow field.kind field.id item before in
    let bits : field.bit + field.size * field.count ≤ report_bits field.kind field.id before = f.bits in
    record {
      size_some = f.size_some;
      size = f.size;
      count_some = f.count_some;
      count = f.count;
      bits = omega arith;
      min = f.min;
      max_from = f.max_from;
      max_to = f.max_to;
      bare = λ e. bare_stays item before (f.bare e);
      used = λ n. (let u : has_report_id before ≡ true = f.used n in rw u (or-true (is_report_id (tag item))));
    }

data_kind : (t : Tag) → is_data t ≡ true → t ≡ Main (Data (kind_of t))
data_kind t h1 = grind (arith, common_steps)

same_self : (kind : Kind) → same_kind kind kind ≡ true
same_self kind = grind (arith, common_steps)

-- a fault does not show
not_shown : (before : List ItemValue) (item : ItemValue) → IsSound before item → (fault : ParseFault) → shows before item fault ≡ false
not_shown before item s fault =
    elim (cases_Bool (shows before item fault)) [ inl e ↦ absurd (clean before item s.clean fault e) | inr e ↦ e ]

true_and : (a b : Bool) → a ≡ true → (a && b) ≡ false → b ≡ false
true_and a b h1 h2 = grind (arith, common_steps)

-- the parts of a data item that declares a field
record IsNew (before : List ItemValue) (item : ItemValue) : Type 0 where
  is_it : is_data (tag item) ≡ true
  plain : is_constant item ≡ false
  size_some : 0 < report_size before
  count_some : 0 < report_count before
  size : report_size before ≤ 32
  count : report_count before ≤ 1024
  few : length (fields before) < 256
  alone : report_id before ≡ 0 → has_report_id before ≡ false

new_field : (before : List ItemValue) (item : ItemValue) → IsSound before item → is_field before item ≡ true → IsNew before item
unfolding shows
new_field before item s e =
    let first = and_parts (is_data (tag item)) _ e in
    let second = and_parts (not (is_constant item)) _ first.1 in
    let third = and_parts (nat_lt 0 (report_size before)) _ second.1 in
    let plain : is_constant item ≡ false = not-true _ second.0 in
    let size : nat_lt (cond (is_constant item) 1024 32) (report_size before) ≡ false = true_and _ _ first.0 (not_shown before item s SizeTooLarge) in
    let size' : nat_lt 32 (report_size before) ≡ false = (rw plain at size) in
    let count : nat_lt 1024 (report_count before) ≡ false = true_and _ _ first.0 (not_shown before item s CountTooLarge) in
    let few : nat_le 256 (length (fields before)) ≡ false = true_and _ _ e (not_shown before item s TooManyFields) in
    let t : tag item ≡ Main (Data (kind_of (tag item))) = data_kind (tag item) first.0 in
    let mixed : mixes_ids (tag item) before ≡ false = not_shown before item s MixedIds in
    let mixed' : (report_id before == 0 && has_report_id before) ≡ false = (rw t at mixed) in
    record {
      is_it = first.0;
      plain = plain;
      size_some = ltb-true _ _ third.0;
      count_some = ltb-true _ _ third.1;
      size = ltb-false _ _ size';
      count = ltb-false _ _ count;
      few = leb-false _ _ few;
      alone = λ z. true_and (report_id before == 0) _ (eq-eqb _ _ z) mixed';
    }

-- the field that is new
fits_new : (before : List ItemValue) (item : ItemValue) → AreSound before → IsNew before item → Fits (item ∷ before) (declared_field before item)
unfolding report_bits has_bare_data
fits_new before item sound n =
    let ends = extents before sound in
    let t : tag item ≡ Main (Data (kind_of (tag item))) = data_kind (tag item) n.is_it in
    let of_it : is_data_of (kind_of (tag item)) (tag item) ≡ true = ap (is_data_of (kind_of (tag item))) t ∙ same_self (kind_of (tag item)) in
    record {
      size_some = n.size_some;
      size = n.size;
      count_some = n.count_some;
      count = n.count;
      bits = rw (of_it, eq-eqb (report_id before) (report_id before) refl) (omega arith);
      min = ends.0;
      max_from = ends.1.0;
      max_to = ends.1.1;
      bare = λ z. rw (n.is_it, eq-eqb _ _ z) refl;
      used = λ some. (elim (cases_Bool (has_report_id before)) [
        | inl e ↦ rw e (or-true (is_report_id (tag item)))
        | inr e ↦ absurd (some (no_id before e))
      ]);
    }

-- ---- the usages

none_yet : (half : ItemValue) → unpaired [] ≡ Some half → ⊥
unfolding unpaired
none_yet half e = cc

no_usages : (page : ℕ) → usages_since_main page [] ≡ []
unfolding usages_since_main
no_usages page = refl

-- a half of a pair that waits is the latest item, or waited before
waits : (t : Tag) (item : ItemValue) (half : Option ItemValue) (found : ItemValue) → still_unpaired t item half ≡ Some found
    → ((found ≡ item) × (t ≡ Skipped → ⊥)) ⊎ (half ≡ Some found)
waits t item half found h1 = grind (arith, common_steps)

half_data : (items : List ItemValue) (half : ItemValue) → AreSound items → unpaired items ≡ Some half → AreData half.bytes
half_data [] half s e = absurd (none_yet half e)
half_data (item ∷ before) half s e =
    elim (waits (tag item) item (unpaired before) half (sym (unpaired_step item before) ∙ e)) [
      | inl here ↦ rw here.0 (s.0.written (λ long. here.1 (long_skipped item.prefix long)))
      | inr older ↦ half_data before half s.1 older
    ]

short_length : (bytes : List ℕ) → AreData bytes → has_page bytes ≡ false → length bytes ≤ 2
short_length bytes d e =
    let few : length bytes ≤ 4 = d.few in
    let four : length bytes ≡ 4 → ⊥ = λ f. (let t : has_page bytes ≡ true = eq-eqb _ _ f in cc) in
    omega (arith, d.not_three, four)

short_below : (bytes : List ℕ) → AreData bytes → has_page bytes ≡ false → unsigned bytes < 65536
short_below bytes d e = unsigned_two bytes d.small (short_length bytes d e)

-- a range of two usages that make a pair
pair_range : (page : ℕ) (min max : List ℕ) (a b : Bool) → has_page min ≡ a → has_page max ≡ b → page < 2 ^ 16 → AreData min → AreData max
    → is_match min max ≡ true → unsigned min ≤ unsigned max → IsRange (usage_number page min, usage_number page max)
pair_range page min max true true e f l d g m o =
    let below : unsigned max < 2 ^ 32 = unsigned_fits max g in
    let same : unsigned min / 2 ^ 16 ≡ unsigned max / 2 ^ 16 = eqb-true _ _ (rw (e, f) at m) in
    rw (e, f) (record { order = o; last = below; page = same })
pair_range page min max false false e f l d g m o =
    let below : unsigned max < 65536 = short_below max g f in
    rw (e, f) (record { order = omega arith; last = omega arith; page = omega arith })
pair_range page min max true false e f l d g m o = absurd (let no : false ≡ true = (rw (e, f) at m) in cc)
pair_range page min max false true e f l d g m o = absurd (let no : false ≡ true = (rw (e, f) at m) in cc)

same_match : (bytes : List ℕ) → is_match bytes bytes ≡ true
same_match bytes =
    elim (cases_Bool (has_page bytes)) [ inl e ↦ rw e (eq-eqb _ _ refl) | inr e ↦ rw e refl ]

one_range : (page : ℕ) (bytes : List ℕ) → page < 2 ^ 16 → AreData bytes → IsRange (usage_number page bytes, usage_number page bytes)
one_range page bytes l d = pair_range page bytes bytes (has_page bytes) (has_page bytes) refl refl l d d (same_match bytes) (omega arith)

-- the range that an item makes
range_sound : (page : ℕ) (t : Tag) (item : ItemValue) (half : Option ItemValue) → page < 2 ^ 16 → AreData item.bytes
    → ((other : ItemValue) → half ≡ Some other → AreData other.bytes) → breaks_pair t item half ≡ false → is_inverted t item half ≡ false
    → All IsRange (range_made page t item half)
range_sound page (Local local.Usage) item half l d h m o = All-cons IsRange _ [] (one_range page item.bytes l d) (All-nil IsRange)
range_sound page (Local local.UsageMinimum) item (Some max) l d h m o =
    All-cons IsRange _ [] (pair_range page item.bytes max.bytes _ _ refl refl l d (h max refl) (not-false _ (or_parts _ _ m).1) (ltb-false _ _ o)) (All-nil IsRange)
range_sound page (Local local.UsageMaximum) item (Some min) l d h m o =
    All-cons IsRange _ [] (pair_range page min.bytes item.bytes _ _ refl refl l (h min refl) d (not-false _ (or_parts _ _ m).1) (ltb-false _ _ o)) (All-nil IsRange)
range_sound page _ item half l d h m o = All-nil IsRange

made_sound : (page : ℕ) (t : Tag) (item : ItemValue) (half : Option ItemValue) (earlier : List (ℕ × ℕ)) → All IsRange earlier
    → All IsRange (range_made page t item half) → All IsRange (with_usages page t item half earlier)
made_sound page (Main m) item half earlier a b = All-nil IsRange
made_sound page _ item half earlier a b = All-append IsRange earlier _ a b

skips_nothing : (page : ℕ) (item : ItemValue) (half : Option ItemValue) → tag item ≡ Skipped → range_made page (tag item) item half ≡ []
skips_nothing page item half e = rw e refl

item_range : (page : ℕ) (item : ItemValue) (before : List ItemValue) → page < 2 ^ 16 → AreSound (item ∷ before) → All IsRange (range_made page (tag item) item (unpaired before))
unfolding shows
item_range page item before l s =
    elim (cases_eq item.prefix 254) [
      | inl long ↦ rw (skips_nothing page item (unpaired before) (long_skipped item.prefix long)) (All-nil IsRange)
      | inr short ↦ range_sound page (tag item) item (unpaired before) l (s.0.written short) (λ other e. half_data before other s.1 e)
          (not_shown before item s.0 UnpairedUsage) (not_shown before item s.0 UsageInverted)
    ]

usages_sound : (page : ℕ) (items : List ItemValue) → page < 2 ^ 16 → AreSound items → All IsRange (usages_since_main page items)
usages_sound page [] l s = rw (no_usages page) (All-nil IsRange)
usages_sound page (item ∷ before) l s =
    rw (usages_step page item before) (made_sound page (tag item) item (unpaired before) (usages_since_main page before) (usages_sound page before l s.1)
    (item_range page item before l s))

-- ---- all of them

field_limits : (before : List ItemValue) (item : ItemValue) → IsSound before item → is_data (tag item) ≡ true → (report_size before ≤ 1024) × (report_count before ≤ 1024)
unfolding shows
field_limits before item s e =
    let size : nat_lt (cond (is_constant item) 1024 32) (report_size before) ≡ false = true_and _ _ e (not_shown before item s SizeTooLarge) in
    let count : nat_lt 1024 (report_count before) ≡ false = true_and _ _ e (not_shown before item s CountTooLarge) in (
      elim (cases_Bool (is_constant item)) [
        | inl c ↦ ltb-false _ _ (rw c at size)
        | inr c ↦ (let l : report_size before ≤ 32 = ltb-false _ _ (rw c at size) in omega arith)
      ],
      ltb-false _ _ count,
    )

of_data : (kind : Kind) (t : Tag) → is_data_of kind t ≡ true → is_data t ≡ true
of_data kind t h1 = grind (arith, common_steps)

bits_small : (kind : Kind) (id : ℕ) (items : List ItemValue) → AreSound items → report_bits kind id items ≤ 2 ^ 20 * length items
unfolding report_bits
bits_small kind id [] s = omega arith
bits_small kind id (item ∷ before) s =
    let older : report_bits kind id before ≤ 2 ^ 20 * length before = bits_small kind id before s.1 in
    elim (cases_Bool (is_data_of kind (tag item) && report_id before == id)) [
      | inl e ↦ (let limits = field_limits before item s.0 (of_data kind (tag item) (and_parts _ _ e).0) in
          let product : report_size before * report_count before ≤ 1024 * 1024 = mul-le (report_size before) (report_count before) 1024 1024 limits.0 limits.1 in
          rw e (omega arith))
      | inr e ↦ rw e (omega arith)
    ]

apart_by : (t : Tag) (before : List ItemValue) (item : ItemValue) → tag item ≡ t → mixes_ids t before ≡ false
    → (has_bare_data before ≡ true → has_report_id before ≡ false) → has_bare_data (item ∷ before) ≡ true → has_report_id (item ∷ before) ≡ false
unfolding has_bare_data
apart_by t before item h1 h2 h3 h4 = grind (arith, common_steps)

-- what holds after the items of a text without a fault
record Holds (items : List ItemValue) : Type 0 where
  all : All (Fits items) (fields items)
  few : length (fields items) ≤ 256
  as_many : length (field_usages items) ≡ length (fields items)
  ranges : All (All IsRange) (field_usages items)
  apart : has_bare_data items ≡ true → has_report_id items ≡ false

holds_more : (item : ItemValue) (before : List ItemValue) (b : Bool) → is_field before item ≡ b → AreSound (item ∷ before) → Holds before → Holds (item ∷ before)
unfolding fields field_usages shows
holds_more item before true e s h =
    let n = new_field before item s.0 e in
    let few : length (fields before) < 256 = n.few in
    let page : usage_page before < 2 ^ 16 = omega arith in
    let usages = usages_since_main (usage_page before) before in
    record {
      all = rw e (All-push (Fits (item ∷ before)) (fields before) (declared_field before item) (All-weaker (Fits before) (Fits (item ∷ before)) (fits_on item before) (fields before) h.all) (fits_new before item s.1 n));
      few = rw e (omega (arith, length-append (fields before) (declared_field before item ∷ [])));
      as_many = rw e (omega (arith, h.as_many, length-append (fields before) (declared_field before item ∷ []), length-append (field_usages before) (usages ∷ [])));
      ranges = rw e (All-push (All IsRange) (field_usages before) usages h.ranges (usages_sound (usage_page before) before page s.1));
      apart = apart_by (tag item) before item refl (not_shown before item s.0 MixedIds) h.apart;
    }
holds_more item before false e s h = record {
  all = rw e (All-weaker (Fits before) (Fits (item ∷ before)) (fits_on item before) (fields before) h.all);
  few = rw e h.few;
  as_many = rw e h.as_many;
  ranges = rw e h.ranges;
  apart = apart_by (tag item) before item refl (not_shown before item s.0 MixedIds) h.apart;
}

holds : (items : List ItemValue) → AreSound items → Holds items
unfolding fields field_usages has_bare_data
holds [] s = record { all = All-nil (Fits []); few = omega arith; as_many = refl; ranges = All-nil (All IsRange); apart = λ b. cc }
holds (item ∷ before) s = holds_more item before (is_field before item) refl s (holds before s.1)

fits_descriptor : (text : List ℕ) (d : DescriptorValue) → Describes (all_items text) d → Holds (all_items text) → (field : Field) → Fits (all_items text) field → FitsField d field
fits_descriptor text d is h field f =
    let bits : field.bit + field.size * field.count ≤ report_bits field.kind field.id (all_items text) = f.bits in
    let same : bits_of d field.kind field.id ≡ report_bits field.kind field.id (all_items text) = is.bits field.kind field.id in
    record {
      size_some = f.size_some;
      size = f.size;
      count_some = f.count_some;
      count = f.count;
      bits = omega arith;
      min_from = f.min.0;
      min_to = f.min.1;
      max_from = f.max_from;
      max_to = f.max_to;
      id = (
        λ z. is.uses_ids ∙ h.apart (f.bare z),
        λ n. (elim (cases_eq field.id 0) [
          | inl z ↦ z
          | inr some ↦ absurd (let used : has_report_id (all_items text) ≡ true = f.used some in let is_used : d.uses_ids ≡ has_report_id (all_items text) = is.uses_ids in cc)
        ]),
      );
    }

pub well_formed : (text : List ℕ) (d : DescriptorValue) → ((i : ℕ) → get_or text i 0 < 256) → length text ≤ 4096 → IsFaultless text → Describes (all_items text) d → IsWellFormed d
well_formed text d bytes short clean_text is =
    let sound = all_sound text bytes clean_text in
    let h = holds (all_items text) sound in
    let few : length (all_items text) ≤ length text = few_items text in
    record {
      few = rw is.fields h.few;
      as_many = rw (is.ranges, is.fields) h.as_many;
      fields = All-same (FitsField d) d.fields (fields (all_items text)) is.fields (All-weaker (Fits (all_items text)) (FitsField d) (fits_descriptor text d is h) (fields (all_items text)) h.all);
      ranges = rw is.ranges h.ranges;
      few_ranges = rw is.ranges (few_usages 4096 (all_items text) (omega arith));
      bits_few = λ kind id. (let most : report_bits kind id (all_items text) ≤ 2 ^ 20 * length (all_items text) = bits_small kind id (all_items text) sound in
          let same : bits_of d kind id ≡ report_bits kind id (all_items text) = is.bits kind id in omega arith);
    }
