-- What holds of the items of each text that shows no fault: their data, how many they are, and the extents in force.
use Rattle.std.proofs.lemmas.Grind.{common_steps}
use Rattle.std.proofs.Common.{◌≡◌, ℕ, zero, suc, ◌+◌, ◌-◌, ◌*◌, ◌%◌, ◌^◌, ◌<◌, ◌≤◌, List, [], ◌∷◌, length, take, drop, get_or, refl, arith, ◌∙◌, ap, Bool, true, false, cond, None, Some, Ok, inl, inr, length-take, length-drop}
use Rattle.std.specs.Prelude.{Option, slice_index, ◌≢◌, nat_lt, int_lt, ℤ, pos, ◌-ℤ◌, neg_ℤ, ◌≤ℤ◌, ◌<ℤ◌}
use Rattle.std.specs.List.{list_any}
use Rattle.std.proofs.lemmas.Bool.{cases_Bool, cases_lt, cases_eq, or_parts, lt-ltb, le-ltb, eq-eqb, ne_eqb}
use Rattle.std.proofs.lemmas.Int.{ints}
use Rattle.descriptor_parse.specs.declared.fault.ParseFault.{ParseFault}
use Rattle.descriptor_parse.specs.declared.fault.ParseFault.TheVariants.{Truncated}
use Rattle.descriptor_parse.specs.declared.tag.Tag.{Tag}
use Rattle.descriptor_parse.specs.declared.tag.Tag.TheVariants.{Skipped}
use Rattle.descriptor_parse.specs.Items.{ItemValue, items_at, item_size, front_item, data_size, head_size}
use Rattle.descriptor_parse.specs.Tags.{tag, is_report_id, is_push, is_pop, is_logical_minimum, is_logical_maximum}
use Rattle.descriptor_parse.specs.Globals.{unsigned, signed, before_push, taken_back, in_force, latest, report_id, logical_minimum, logical_maximum}
use Rattle.descriptor_parse.specs.Fields.{has_report_id}
use Rattle.descriptor_parse.specs.Faults.{fault_at, onto, all_items, IsFaultAmong, IsFaultless}
use Rattle.descriptor_parse.proofs.ItemLemmas.{size_pos, items_none, items_short, items_more}
use Rattle.descriptor_parse.proofs.FaultLemmas.{shown_fault}
use Rattle.descriptor_parse.proofs.StateLemmas.{long_skipped}

-- ---- numbers

-- bytes that write a number
pub record AreData (bytes : List ℕ) : Type 0 where
  pub few : length bytes ≤ 4
  pub not_three : length bytes ≡ 3 → ⊥
  pub small : (i : ℕ) → get_or bytes i 0 < 256

no_data : AreData []
no_data = record { few = omega arith; not_three = λ e. omega arith; small = λ i. omega arith }

pub unsigned_fits : (bytes : List ℕ) → AreData bytes → unsigned bytes < 2 ^ 32
unsigned_fits [] d = omega arith
unsigned_fits (a ∷ []) d = omega (arith, d.small 0)
unsigned_fits (a ∷ b ∷ []) d = omega (arith, d.small 0, d.small 1)
unsigned_fits (a ∷ b ∷ c ∷ []) d = omega (arith, d.small 0, d.small 1, d.small 2)
unsigned_fits (a ∷ b ∷ c ∷ e ∷ []) d = omega (arith, d.small 0, d.small 1, d.small 2, d.small 3)
unsigned_fits (a ∷ b ∷ c ∷ e ∷ f ∷ more) d = absurd (let few : length (a ∷ b ∷ c ∷ e ∷ f ∷ more) ≤ 4 = d.few in omega arith)

-- a number in two's complement of at most 32 bits
abbrev pub FitsSigned32 : ℤ → Type 0
FitsSigned32 z = (neg_ℤ (pos (2 ^ 31)) ≤ℤ z) × (z <ℤ pos (2 ^ 31))

signed_by : (u range : ℕ) → u < range → range ≤ 2 ^ 32 → FitsSigned32 (cond (nat_lt (2 * u) range) (pos u) (pos u -ℤ pos range))
signed_by u range l m =
    elim (cases_lt (2 * u) range) [
      | inl below ↦ rw (lt-ltb _ _ below) (omega (arith, ints), omega (arith, ints))
      | inr above ↦ rw (le-ltb _ _ above) (omega (arith, ints), omega (arith, ints))
    ]

unsigned_below : (bytes : List ℕ) → AreData bytes → (unsigned bytes < 256 ^ length bytes) × (256 ^ length bytes ≤ 2 ^ 32)
unsigned_below [] d = (omega arith, omega arith)
unsigned_below (a ∷ []) d = (omega (arith, d.small 0), omega arith)
unsigned_below (a ∷ b ∷ []) d = (omega (arith, d.small 0, d.small 1), omega arith)
unsigned_below (a ∷ b ∷ c ∷ []) d = (omega (arith, d.small 0, d.small 1, d.small 2), omega arith)
unsigned_below (a ∷ b ∷ c ∷ e ∷ []) d = (omega (arith, d.small 0, d.small 1, d.small 2, d.small 3), omega arith)
unsigned_below (a ∷ b ∷ c ∷ e ∷ f ∷ more) d = absurd (let few : length (a ∷ b ∷ c ∷ e ∷ f ∷ more) ≤ 4 = d.few in omega arith)

signed_fits : (bytes : List ℕ) → AreData bytes → FitsSigned32 (signed bytes)
unfolding signed
signed_fits bytes d = let b = unsigned_below bytes d in signed_by (unsigned bytes) (256 ^ length bytes) b.0 b.1

-- ---- items of a text without a fault

pub record IsSound (before : List ItemValue) (item : ItemValue) : Type 0 where
  pub clean : fault_at before item ≡ None
  pub written : item.prefix ≢ 254 → AreData item.bytes

abbrev pub AreSound : List ItemValue → Type 0
AreSound [] = Unit
AreSound (item ∷ before) = IsSound before item × AreSound before

none_of : (found : Option ParseFault) → ((fault : ParseFault) → found ≡ Some fault → ⊥) → found ≡ None
none_of found h1 = grind (arith, common_steps)

short_size : (p : ℕ) → (data_size p ≤ 4) × (data_size p ≡ 3 → ⊥)
short_size p =
    elim (cases_eq (p % 4) 3) [
      | inl e ↦ rw (eq-eqb _ _ e) (omega arith, λ f. omega arith)
      | inr n ↦ rw (ne_eqb _ _ n) (omega arith, λ f. n f)
    ]

small_take : (n : ℕ) (xs : List ℕ) → ((i : ℕ) → get_or xs i 0 < 256) → (i : ℕ) → get_or (take n xs) i 0 < 256
small_take zero xs s i = omega arith
small_take (suc n) [] s i = s i
small_take (suc n) (x ∷ xs) s zero = s zero
small_take (suc n) (x ∷ xs) s (suc i) = small_take n xs (λ j. s (suc j)) i

small_drop : (n : ℕ) (xs : List ℕ) → ((i : ℕ) → get_or xs i 0 < 256) → (i : ℕ) → get_or (drop n xs) i 0 < 256
small_drop zero xs s i = s i
small_drop (suc n) [] s i = s i
small_drop (suc n) (x ∷ xs) s i = small_drop n xs (λ j. s (suc j)) i

-- the data of a short item at the front
front_data : (offset : ℕ) (text : List ℕ) → ((i : ℕ) → get_or text i 0 < 256) → item_size text ≤ length text → (front_item offset text).prefix ≢ 254
    → AreData (front_item offset text).bytes
front_data offset text bytes whole short =
    let size : item_size text ≡ 1 + data_size (slice_index text 0) = (rw (ne_eqb _ _ short) refl) in
    let head : head_size (slice_index text 0) ≡ 1 = (rw (ne_eqb _ _ short) refl) in
    let four = short_size (slice_index text 0) in
    let len : length (drop (head_size (slice_index text 0)) (take (item_size text) text)) ≡ data_size (slice_index text 0) =
    omega (arith, length-drop (head_size (slice_index text 0)) (take (item_size text) text), length-take (item_size text) text) in
    record {
      few = omega (arith, four.0);
      not_three = λ e. four.1 (omega arith);
      small = small_drop (head_size (slice_index text 0)) (take (item_size text) text) (small_take (item_size text) text bytes);
    }

sound_on : (n offset : ℕ) (text : List ℕ) (before : List ItemValue) → length text ≤ n → ((i : ℕ) → get_or text i 0 < 256) → AreSound before
    → ((fault : ParseFault) (at : ℕ) → IsFaultAmong before (items_at offset text) fault at → ⊥) → AreSound (onto before (items_at offset text))
sound_on zero offset text before l bytes sound none =
    let nothing : items_at offset text ≡ [] = items_none offset text (omega arith) in rw nothing sound
sound_on (suc n) offset text before l bytes sound none =
    elim (cases_lt 0 (length text)) [
      | inr empty ↦ (let nothing : items_at offset text ≡ [] = items_none offset text (omega arith) in rw nothing sound)
      | inl some ↦ (elim (cases_lt (length text) (item_size text)) [
        | inl short ↦ absurd (none Truncated offset (rw (items_short offset text some short) (refl, refl)))
        | inr whole ↦ (let size = item_size text in
            let pos : 0 < size = size_pos text in
            let len : length (drop size text) ≡ length text - size = length-drop size text in
            let more : items_at offset text ≡ Ok (front_item offset text) ∷ items_at (offset + size) (drop size text) = items_more offset text some whole in
            let here : IsSound before (front_item offset text) = record {
              clean = none_of (fault_at before (front_item offset text)) (λ fault e. none fault offset (rw more (inl ((shown_fault before (front_item offset text) fault e).0, refl))));
              written = front_data offset text bytes whole;
            } in
            rw more (sound_on n (offset + size) (drop size text) (front_item offset text ∷ before) (omega arith) (small_drop size text bytes) (here, sound)
            (λ fault at later. none fault at (rw more (inr later)))))
      ])
    ]

pub all_sound : (text : List ℕ) → ((i : ℕ) → get_or text i 0 < 256) → IsFaultless text → AreSound (all_items text)
unfolding all_items
all_sound text bytes f = sound_on (length text) 0 text [] (omega arith) bytes tt (λ fault at among. f fault at (inl among))

few_on : (n offset : ℕ) (text : List ℕ) (before : List ItemValue) → length text ≤ n → length (onto before (items_at offset text)) ≤ length before + length text
few_on zero offset text before l = let nothing : items_at offset text ≡ [] = items_none offset text (omega arith) in rw nothing (omega arith)
few_on (suc n) offset text before l =
    elim (cases_lt 0 (length text)) [
      | inr empty ↦ (let nothing : items_at offset text ≡ [] = items_none offset text (omega arith) in rw nothing (omega arith))
      | inl some ↦ (elim (cases_lt (length text) (item_size text)) [
        | inl short ↦ rw (items_short offset text some short) (omega arith)
        | inr whole ↦ (let size = item_size text in
            let pos : 0 < size = size_pos text in
            let len : length (drop size text) ≡ length text - size = length-drop size text in
            let rest : length (onto (front_item offset text ∷ before) (items_at (offset + size) (drop size text))) ≤ suc (length before) + length (drop size text) =
            few_on n (offset + size) (drop size text) (front_item offset text ∷ before) (omega arith) in
            rw (items_more offset text some whole) (omega arith))
      ])
    ]

pub few_items : (text : List ℕ) → length (all_items text) ≤ length text
unfolding all_items
few_items text =
    let few : length (onto [] (items_at 0 text)) ≤ 0 + length text = few_on (length text) 0 text [] (omega arith) in omega arith

-- ---- the items in force

-- each item passes
abbrev Each : (ItemValue → Type 0) → List ItemValue → Type 0
Each P [] = Unit
Each P (item ∷ before) = P item × Each P before

each_before_push : (P : ItemValue → Type 0) (items : List ItemValue) → Each P items → Each P (before_push items)
unfolding before_push
each_before_push P [] g = tt
each_before_push P (item ∷ before) g =
    elim (cases_Bool (is_push (tag item))) [ inl e ↦ rw e g.1 | inr e ↦ rw e (each_before_push P before g.1) ]

each_taken_back : (P : ItemValue → Type 0) (items : List ItemValue) → Each P items → Each P (taken_back items)
each_taken_back P items g =
    elim (cases_Bool (list_any (λ item. is_push (tag item)) items)) [ inl e ↦ rw e (each_before_push P items g) | inr e ↦ rw e g ]

each_in_force : (P : ItemValue → Type 0) (items : List ItemValue) → Each P items → Each P (in_force items)
unfolding in_force
each_in_force P [] g = tt
each_in_force P (item ∷ before) g =
    elim (cases_Bool (is_pop (tag item))) [
      | inl e ↦ rw e (each_taken_back P (in_force before) (each_in_force P before g.1))
      | inr e ↦ rw e (g.0, each_in_force P before g.1)
    ]

latest_data : (wanted : Tag → Bool) (items : List ItemValue) → Each (λ item. wanted (tag item) ≡ true → AreData item.bytes) items → AreData (latest wanted items)
latest_data wanted [] g = no_data
latest_data wanted (item ∷ before) g =
    elim (cases_Bool (wanted (tag item))) [ inl e ↦ rw e (g.0 e) | inr e ↦ rw e (latest_data wanted before g.1) ]

each_sound : (wanted : Tag → Bool) (items : List ItemValue) → wanted Skipped ≡ false → AreSound items → Each (λ item. wanted (tag item) ≡ true → AreData item.bytes) items
each_sound wanted [] n s = tt
each_sound wanted (item ∷ before) n s = (
  λ w. s.0.written (λ long. (let skipped : wanted (tag item) ≡ false = ap wanted (long_skipped item.prefix long) ∙ n in cc)),
  each_sound wanted before n s.1,
)

in_force_data : (wanted : Tag → Bool) (items : List ItemValue) → wanted Skipped ≡ false → AreSound items → AreData (latest wanted (in_force items))
in_force_data wanted items n s = latest_data wanted (in_force items) (each_in_force (λ item. wanted (tag item) ≡ true → AreData item.bytes) items (each_sound wanted items n s))

latest_nothing : (wanted : Tag → Bool) (items : List ItemValue) → Each (λ item. wanted (tag item) ≡ false) items → latest wanted items ≡ []
latest_nothing wanted [] g = refl
latest_nothing wanted (item ∷ before) g = rw g.0 (latest_nothing wanted before g.1)

each_none : (wanted : Tag → Bool) (items : List ItemValue) → list_any (λ item. wanted (tag item)) items ≡ false → Each (λ item. wanted (tag item) ≡ false) items
each_none wanted [] e = tt
each_none wanted (item ∷ before) e = let both = or_parts (wanted (tag item)) (list_any (λ i. wanted (tag i)) before) e in (both.0, each_none wanted before both.1)

-- without a Report ID none is in force
pub no_id : (items : List ItemValue) → has_report_id items ≡ false → report_id items ≡ 0
no_id items e = ap unsigned (latest_nothing is_report_id (in_force items) (each_in_force (λ item. is_report_id (tag item) ≡ false) items (each_none is_report_id items e)))

-- the extents
pub extents : (items : List ItemValue) → AreSound items → FitsSigned32 (logical_minimum items) × ((neg_ℤ (pos (2 ^ 31)) ≤ℤ logical_maximum items) × (logical_maximum items <ℤ pos (2 ^ 32)))
extents items s =
    let least = signed_fits (latest is_logical_minimum (in_force items)) (in_force_data is_logical_minimum items refl s) in
    let max = in_force_data is_logical_maximum items refl s in
    let most = signed_fits (latest is_logical_maximum (in_force items)) max in
    let below : unsigned (latest is_logical_maximum (in_force items)) < 2 ^ 32 = unsigned_fits (latest is_logical_maximum (in_force items)) max in (
      least,
      elim (cases_Bool (int_lt (logical_minimum items) (pos 0))) [
        | inl e ↦ rw e (most.0, omega (arith, ints, most.1))
        | inr e ↦ rw e (omega (arith, ints), omega (arith, ints))
      ],
    )
