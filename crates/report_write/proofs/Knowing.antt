-- What stays known of the places of an Array.
use Rattle.std.proofs.Common.{◌≡◌, ◌≢◌, ℕ, zero, suc, ◌+◌, ◌<◌, ◌≤◌, Bool, true, false, List, [], ◌∷◌, length, arith, refl, sym, ◌∙◌, ap, inl, inr, Some, None}
use Rattle.std.specs.Prelude.{Option, All, IfSome, ℤ, slice_get, map, is_some, pos, ◌+ℤ◌, int_lt, not, min}
use Rattle.std.proofs.lemmas.Option.{slice_get-get_or, slice_get_within, same_Some}
use Rattle.std.proofs.lemmas.List.Elements.{All-nil, All-cons, All-append, All-same, All-map}
use Rattle.std.proofs.lemmas.Bool.{cases_lt, cases_Bool, cases_order, eqb-true, eq-eqb, lt-ltb, le-ltb, false_from_ne_true}
use Rattle.descriptor_parse.specs.declared.field.Field.{Field}
use Rattle.descriptor_parse.specs.Descriptor.{DescriptorValue, ranges_at, usage_list}
use Rattle.host_extract.specs.Found.{value_at}
use Rattle.std.specs.Int.{int_gap}
use Rattle.field_values.specs.Lists.{is_no_control, IsFirst}
use Rattle.field_values.specs.Held.{place_bit}
use Rattle.field_values.specs.Values.{usage_read}
use Rattle.field_values.proofs.Reading.{others_stay, apart}
use Rattle.report_write.specs.declared.kept.Kept.{Kept}
use Rattle.report_write.specs.declared.control.Control.TheVariants.{Place, Usage}
use Rattle.descriptor_parse.specs.declared.field.Kind.{Kind}
use Rattle.descriptor_parse.specs.Readers.{is_of_report}
use Rattle.report_write.specs.Fields.{kept, kept_if, kept_below, kept_fields}
use Rattle.report_write.specs.Controls.{is_usage, number_of, places_with, controls_in, controls, place_in}
use Rattle.report_write.specs.Firsts.{first}
use Rattle.report_write.specs.Puts.{IsPut, IsMarked, is_set}
use Rattle.field_values.specs.declared.null.Asked.{Asked}
use Rattle.field_values.specs.declared.null.Asked.TheVariants.{Value}
use Rattle.report_write.specs.Unused.{unused}
use Rattle.report_write.specs.Settings.{IsUsageSet}
use Rattle.report_write.specs.Arrays.{is_free, off_refusal, usage_refusal, IsOff}
use Rattle.report_write.specs.representation.Hints.{least_of, IsFrom, AreHints}
use Rattle.report_write.specs.representation.Known.{IsKnown, AreNoted, IsStillKnown, IsKnownOf, AreOne, IsOfReport}
use Rattle.report_write.proofs.Controls.{controls_are}
use Rattle.report_write.proofs.ControlsFit.{one_of, all_row}
use Rattle.report_write.proofs.ArraysFound.{named_by, not_under}
use Rattle.report_write.proofs.UnusedNone.{gap_of}
use Rattle.report_write.proofs.Firsts.{not_right, none_passes, no_first, none_more}

-- where a usage is read, nothing else is named
only_usage : (usage other : ℕ) → is_usage usage (Some other) ≡ true → usage ≡ other
only_usage usage other e = sym (eqb-true other usage e)

no_usage_named : (usage : ℕ) → is_usage usage None ≡ true → ⊥
no_usage_named usage e = absurd (cc)

-- the bits of marks of two places differ
other_mark : (field : Field) (place other : ℕ) → 0 < field.size → place ≢ other → place_bit field other ≢ place_bit field place
other_mark field place other some n e = elim (apart field place other 0 n some) [
  | inl low ↦ absurd (omega arith)
  | inr high ↦ absurd (omega arith)
]

-- a usage is put into a place
pub known_put : (f : Field) (usages : List ℕ) (usage place : ℕ) (value : ℤ) (old new marks_old marks_new : List ℕ) (free : ℕ) (named after : List ℕ)
    → 0 < f.size → IsKnown f usages old marks_old free named → IsPut f place value old new → IsMarked f place marks_old marks_new
    → usage_read f usages place value ≡ Some usage
    → ((u : ℕ) → least_of after u ≤ least_of named u) → least_of after usage ≤ place
    → IsKnown f usages new marks_new free after
known_put f usages usage place value old new marks_old marks_new free named after some k put marked read fell noted = record {
  taken = λ p low within. (elim (cases_order p place) [
    | inl same ↦ (let set : is_set f marks_new p ≡ true = rw same (eq-eqb _ 1 marked.there) in
        not_right (is_no_control (usage_read f usages p (value_at f new p))) (not (is_set f marks_new p)) (ap not set))
    | inr differs ↦ (let other : place ≢ p = (λ e. elim differs [
      | inl less ↦ absurd (omega arith)
      | inr more ↦ absurd (omega arith)
    ]) in
        let value_same = others_stay f old new place p other put.others in
        let mark_same = marked.others (place_bit f p) (other_mark f place p some other) in
        rw (value_same, mark_same) (k.taken p low within))
  ]);
  noted = λ p u within named_here. (elim (cases_order p place) [
    | inl same ↦ (let here : usage_read f usages p (value_at f new p) ≡ Some usage = rw same (ap (usage_read f usages place) put.there ∙ read) in
        let is : u ≡ usage = only_usage u usage (ap (is_usage u) (sym here) ∙ named_here) in
        rw (is, same) noted)
    | inr differs ↦ (let other : place ≢ p = (λ e. elim differs [
      | inl less ↦ absurd (omega arith)
      | inr more ↦ absurd (omega arith)
    ]) in
        let value_same = others_stay f old new place p other put.others in
        let one = fell u in
        let before = k.noted p u within (rw value_same at named_here) in
        omega (arith, one, before))
  ]);
}

-- the value of a usage in the list reads as the usage
pub read_on : (f : Field) (usages : List ℕ) (usage number : ℕ) → f.array ≡ true → int_lt f.max (f.min +ℤ pos number) ≡ false → IsFirst usages usage number
    → (place : ℕ) → usage_read f usages place (f.min +ℤ pos number) ≡ Some usage
read_on f usages usage number array over first_ place =
    named_by f.array (int_lt (f.min +ℤ pos number) f.min) (int_lt f.max (f.min +ℤ pos number)) (slice_get usages (int_gap f.min (f.min +ℤ pos number))) _ array
    (not_under f.min number) over
    ∙ ap (slice_get usages) (gap_of f.min (f.min +ℤ pos number) number refl) ∙ first_.here

-- the place that was found is not passed
pub known_from : (f : Field) (usages bytes marks : List ℕ) (free : ℕ) (named : List ℕ) (place : ℕ) → IsKnown f usages bytes marks free named
    → first (is_free f usages bytes marks) place ≡ None → IsKnown f usages bytes marks place named
known_from f usages bytes marks free named place k none = record {
  taken = λ p low within. none_passes (is_free f usages bytes marks) place p none low;
  noted = k.noted;
}

-- none of the first places passes
pub none_under : (test : ℕ → Bool) (count from : ℕ) → ((place : ℕ) → place < count → test place ≡ true → from ≤ place)
    → first test (min from count) ≡ None
none_under test count from h = none_more test 0 (min from count) (no_first test) (omega arith) (λ k l m. false_from_ne_true (test k) (λ e. let n = h k (omega arith) e in absurd (omega arith)))

pub none_taken : (test : ℕ → Bool) (count from : ℕ) → ((place : ℕ) → place < from → place < count → test place ≡ false)
    → first test (min from count) ≡ None
none_taken test count from h = none_more test 0 (min from count) (no_first test) (omega arith) (λ k l m. h k (omega arith) (omega arith))

-- ---- places that are learned one by one

pub one_learned : (f : Field) (usages bytes : List ℕ) (count usage : ℕ) (named after : List ℕ) → AreNoted f usages bytes count named
    → Some usage ≡ usage_read f usages count (value_at f bytes count)
    → ((u : ℕ) → least_of after u ≤ least_of named u) → least_of after usage ≤ count → AreNoted f usages bytes (count + 1) after
one_learned f usages bytes count usage named after before read fell noted = λ place u l named_here.
    elim (cases_lt place count) [
      | inl low ↦ (let one = fell u in let other = before place u low named_here in omega (arith, one, other))
      | inr high ↦ (let same : place ≡ count = omega arith in
          let here = rw same at named_here in
          let is : u ≡ usage = only_usage u usage (ap (is_usage u) read ∙ here) in
          rw (is, same) noted)
    ]

pub none_learned : (f : Field) (usages bytes : List ℕ) (count : ℕ) (named : List ℕ) → AreNoted f usages bytes count named
    → None ≡ usage_read f usages count (value_at f bytes count) → AreNoted f usages bytes (count + 1) named
none_learned f usages bytes count named before read = λ place u l named_here.
    elim (cases_lt place count) [
      | inl low ↦ before place u low named_here
      | inr high ↦ (let same : place ≡ count = omega arith in
          let here = rw same at named_here in
          absurd (no_usage_named u (ap (is_usage u) read ∙ here)))
    ]

-- ---- fields of a report

its : (d : DescriptorValue) (null_states : List Bool) (kind : Kind) (id number : ℕ) (found : Option Field) → slice_get d.fields number ≡ found
    → All (λ k. slice_get d.fields k.number ≡ Some k.field) (kept_if null_states kind id number found)
its d null_states kind id number None e = All-nil _
its d null_states kind id number (Some field) e = elim (cases_Bool (is_of_report kind id field)) [
  | inl is ↦ rw is (All-cons (λ k. slice_get d.fields k.number ≡ Some k.field) (kept null_states number field) [] e (All-nil _))
  | inr other ↦ rw other (All-nil _)
]

all_its : (d : DescriptorValue) (null_states : List Bool) (kind : Kind) (id count : ℕ)
    → All (λ k. slice_get d.fields k.number ≡ Some k.field) (kept_below d null_states kind id count)
unfolding kept_below
all_its d null_states kind id zero = All-nil _
all_its d null_states kind id (suc count) =
    All-append (λ k. slice_get d.fields k.number ≡ Some k.field) (kept_below d null_states kind id count) (kept_if null_states kind id count (slice_get d.fields count))
    (all_its d null_states kind id count) (its d null_states kind id count (slice_get d.fields count) refl)

pub are_one : (d : DescriptorValue) (null_states : List Bool) (kind : Kind) (id : ℕ) → AreOne (kept_fields d null_states kind id)
are_one d null_states kind id = λ i j one other at at_other same.
    let all = all_its d null_states kind id (length d.fields) in
    let a : slice_get d.fields one.number ≡ Some one.field = rw at at (one_of (λ k. slice_get d.fields k.number ≡ Some k.field) (kept_fields d null_states kind id) i all) in
    let b : slice_get d.fields other.number ≡ Some other.field = rw at_other at (one_of (λ k. slice_get d.fields k.number ≡ Some k.field) (kept_fields d null_states kind id) j all) in
    same_Some _ _ (sym a ∙ ap (slice_get d.fields) same ∙ b)

-- ---- an Array that is meant

in_report : (d : DescriptorValue) (row : List Kept) (fields ranges : List ℕ) (usage : ℕ) (k : Kept) → AreHints d row fields ranges (length row)
    → (i : ℕ) × (slice_get row i ≡ Some k) → All (IsOfReport d row ranges) (controls_in (usage_list (ranges_at d k.number)) usage k)
in_report d row fields ranges usage k h here = elim (cases_Bool k.field.array) [
  | inl array ↦ elim (cases_Bool (is_some (number_of (usage_list (ranges_at d k.number)) usage))) [
    | inl some ↦ (let one : controls_in (usage_list (ranges_at d k.number)) usage k ≡ Usage k usage ∷ [] = rw (array, some) refl in
        let from : IsFrom (ranges_at d k.number) usage (least_of ranges usage) = (λ range is. (h here.0 k range usage (slice_get_within row here.0 k here.1) here.1 is).1) in
        All-same (IsOfReport d row ranges) _ _ one (All-cons (IsOfReport d row ranges) (Usage k usage) [] (here, from) (All-nil (IsOfReport d row ranges))))
    | inr none ↦ (let nothing : controls_in (usage_list (ranges_at d k.number)) usage k ≡ [] = rw (array, none) refl in
        All-same (IsOfReport d row ranges) _ _ nothing (All-nil (IsOfReport d row ranges)))
  ]
  | inr variable ↦ (let places = places_with k.field (usage_list (ranges_at d k.number)) usage k.field.count in
      let all : controls_in (usage_list (ranges_at d k.number)) usage k ≡ map (λ place. Place k place) places = rw variable refl in
      All-same (IsOfReport d row ranges) _ _ all (All-map (IsOfReport d row ranges) (λ place. Place k place) places (λ i e l. refl)))
]

pub usage_of_report : (d : DescriptorValue) (row : List Kept) (fields ranges : List ℕ) (usage place : ℕ) → AreHints d row fields ranges (length row)
    → IfSome (slice_get (controls d usage row) place) (IsOfReport d row ranges)
usage_of_report d row fields ranges usage place h =
    rw (controls_are d usage row) (one_of (IsOfReport d row ranges) _ place
    (all_row (λ k. controls_in (usage_list (ranges_at d k.number)) usage k) (λ k. (i : ℕ) × (slice_get row i ≡ Some k)) (IsOfReport d row ranges)
    (λ k f. in_report d row fields ranges usage k h f) row (λ i x l. (i, slice_get-get_or row i x l))))

pub place_of_report : (d : DescriptorValue) (row : List Kept) (ranges : List ℕ) (place : ℕ) (found : Option Kept)
    → IfSome (place_in place found) (IsOfReport d row ranges)
place_of_report d row ranges place None = tt
place_of_report d row ranges place (Some k) = elim (cases_lt place k.field.count) [
  | inl within ↦ rw (lt-ltb place k.field.count within) refl
  | inr past ↦ rw (le-ltb place k.field.count past) tt
]

-- ---- what is known of a report

pub known_of_one : (d : DescriptorValue) (row : List Kept) (bytes marks : List ℕ) (of : Option ℕ) (free : ℕ) (named : List ℕ) (i : ℕ) (k : Kept)
    → AreOne row → slice_get row i ≡ Some k → of ≡ Some k.number → IsKnown k.field (usage_list (ranges_at d k.number)) bytes marks free named
    → IsKnownOf d row bytes marks of free named
known_of_one d row bytes marks of free named i k one here is known = λ place other at its_number.
    let number : k.number ≡ other.number = same_Some _ _ (sym is ∙ its_number) in
    let field = one i place k other here at number in
    rw (← field, ← number) known

pub known_of_none : (d : DescriptorValue) (row : List Kept) (bytes marks : List ℕ) (of : Option ℕ) (free : ℕ) (named : List ℕ) → of ≡ None
    → IsKnownOf d row bytes marks of free named
known_of_none d row bytes marks of free named none = λ place other at its_number. absurd (let never : None ≡ Some other.number = sym none ∙ its_number in cc)

pub known_on : (d : DescriptorValue) (row : List Kept) (bytes marks : List ℕ) (old new : Option ℕ) (free : ℕ) (named : List ℕ) (i : ℕ) (k : Kept)
    → AreOne row → slice_get row i ≡ Some k → old ≡ Some k.number
    → IsStillKnown k.field (usage_list (ranges_at d k.number)) bytes marks old new free named → IsKnownOf d row bytes marks new free named
known_on d row bytes marks old new free named i k one here is still = elim still [
  | inl none ↦ known_of_none d row bytes marks new free named none
  | inr (same, known) ↦ known_of_one d row bytes marks new free named i k one here (same ∙ is) known
]

-- ---- a usage that is set to 0

pub off_taken : (f : Field) (usages bytes marks : List ℕ) (usage number : ℕ) (asked : Asked) (value : ℤ) → asked ≡ Value value → value ≡ pos 0
    → off_refusal f usages bytes marks usage number (unused f usages) ≡ None → usage_refusal f usages bytes marks usage number asked ≡ None
off_taken f usages bytes marks usage number asked value is zero_ off = rw (is, zero_) off

pub off_set : (d : DescriptorValue) (k : Kept) (usage : ℕ) (asked : Asked) (value : ℤ) (old new marks_old marks_new : List ℕ) → asked ≡ Value value → value ≡ pos 0
    → IsOff k.field (usage_list (ranges_at d k.number)) usage old new marks_old marks_new → IsUsageSet d k usage asked old new marks_old marks_new
off_set d k usage asked value old new marks_old marks_new is zero_ off = rw (is, zero_) off
