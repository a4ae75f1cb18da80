use Rattle.std.proofs.lemmas.Grind.{common_steps}
use Rattle.std.proofs.Common.{◌≡◌, ℕ, ◌+◌, ◌-◌, ◌/◌, ◌<◌, ◌≤◌, ◌^◌, List, ◌∷◌, refl, arith, sym, ◌∙◌, ap, Bool, true, false, cond, Some, None, inl, inr}
use Rattle.std.specs.Prelude.{◌==◌, ◌&&◌, ◌||◌, not, nat_lt, IsTrue, Option, option_map, is_some}
use Rattle.std.proofs.lemmas.Bool.{cases_Bool, or_parts, ltb-false, leb-false, eqb-false}
use Rattle.descriptor_parse.specs.declared.fault.ParseFault.{ParseFault}
use Rattle.descriptor_parse.specs.declared.field.Kind.{Kind}
use Rattle.descriptor_parse.specs.declared.locals.Locals.{Locals}
use Rattle.descriptor_parse.specs.declared.usage.Usage.TheVariants.{Short, Whole}
use Rattle.descriptor_parse.specs.declared.state.State.{State}
use Rattle.descriptor_parse.specs.declared.tag.Tag.{Tag}
use Rattle.descriptor_parse.specs.declared.tag.Tag.TheVariants.{Main, Global, Local, Skipped}
use Rattle.descriptor_parse.specs.declared.tag.MainTag.{MainTag}
use Rattle.descriptor_parse.specs.declared.tag.MainTag.TheVariants.{Data, Collection, EndCollection}
use Rattle.descriptor_parse.specs.declared.tag.GlobalTag.{GlobalTag}
use Rattle.descriptor_parse.specs.declared.tag.GlobalTag.TheVariants.{UsagePage, LogicalMinimum, LogicalMaximum, ReportSize, ReportId, ReportCount, Push, Pop}
use Rattle.descriptor_parse.specs.declared.tag.LocalTag.{LocalTag}
use Rattle.descriptor_parse.specs.declared.tag.LocalTag.TheVariants as local
use Rattle.descriptor_parse.specs.Items.{ItemValue}
use Rattle.descriptor_parse.specs.Tags.{tag, tag_of, is_collection, is_end_collection}
use Rattle.descriptor_parse.specs.Globals.{unsigned, report_size, report_count}
use Rattle.descriptor_parse.specs.Locals.{has_page, unpaired, is_match, is_minimum}
use Rattle.descriptor_parse.specs.Fields.{is_constant, is_field, open_collections}
use Rattle.descriptor_parse.specs.Faults.{shows, fault_at, wants_memory}
use Rattle.descriptor_parse.specs.representation.GlobalsOf.{globals_of}
use Rattle.descriptor_parse.specs.representation.StackRefines.{StackRefines}
use Rattle.descriptor_parse.specs.representation.Written.{usage_of}
use Rattle.descriptor_parse.specs.representation.LocalsRefine.{LocalsRefine, raw_of, half_of, are_alike, fault_of_local, adds_range}
use Rattle.descriptor_parse.specs.representation.ReportsRefine.{ReportsRefine, FitsData, declares, fills}
use Rattle.descriptor_parse.specs.representation.StateRefines.{StateRefines, IsData, fault_of_main, fault_of_global}
use Rattle.descriptor_parse.proofs.GlobalLemmas.{refine_other, is_global}
use Rattle.descriptor_parse.proofs.StackLemmas.{none_saved}
use Rattle.descriptor_parse.proofs.LocalLemmas.{refine_silent, is_silent}
use Rattle.descriptor_parse.proofs.ReportLemmas.{refine_neutral, is_neutral, declares_field}

-- ---- the fault of an item, by what the state holds

some_map : (half : Option ItemValue) → is_some (option_map half_of half) ≡ is_some half
some_map half = grind (arith, common_steps)

same_match : (min max : List ℕ) → are_alike (usage_of min) (usage_of max) ≡ is_match min max
same_match min max =
    let P : Bool → Bool → Type 0 = λ a b. are_alike (cond a (Whole (unsigned min)) (Short (unsigned min))) (cond b (Whole (unsigned max)) (Short (unsigned max)))
    ≡ cond (a && b) (unsigned min / 2 ^ 16 == unsigned max / 2 ^ 16) (not (a || b)) in
    elim (has_page min) as (λ a. P a (has_page max)) [
      | true ↦ (elim (has_page max) as (λ b. P true b) [ true ↦ refl | false ↦ refl ])
      | false ↦ (elim (has_page max) as (λ b. P false b) [ true ↦ refl | false ↦ refl ])
    ]

raw_is : (bytes : List ℕ) → raw_of (usage_of bytes) ≡ unsigned bytes
raw_is bytes = elim (has_page bytes) as (λ b. raw_of (cond b (Whole (unsigned bytes)) (Short (unsigned bytes))) ≡ unsigned bytes) [ true ↦ refl | false ↦ refl ]

not_not : (b : Bool) → not (not b) ≡ b
not_not b = grind (arith, common_steps)

local_at : (t : LocalTag) (before : List ItemValue) (item : ItemValue) (half : Option ItemValue) → tag item ≡ Local t → unpaired before ≡ half
    → fault_at before item ≡ fault_of_local t (usage_of item.bytes) (option_map half_of half)
unfolding fault_at shows
local_at local.Delimiter before item half e h = rw e refl
local_at local.Usage before item half e h = rw e refl
local_at local.UsageMinimum before item None e h = rw (e, h) refl
local_at local.UsageMaximum before item None e h = rw (e, h) refl
local_at local.UsageMinimum before item (Some other) e h = rw (e, h, same_match item.bytes other.bytes, raw_is item.bytes, raw_is other.bytes, not_not (is_minimum (tag other))) refl
local_at local.UsageMaximum before item (Some other) e h = rw (e, h, same_match other.bytes item.bytes, raw_is item.bytes, raw_is other.bytes) refl

pub checked_local : (before : List ItemValue) (item : ItemValue) (t : LocalTag) (locals : Locals) → tag item ≡ Local t → LocalsRefine before locals
    → fault_at before item ≡ fault_of_local t (usage_of item.bytes) locals.half
checked_local before item t locals e s = local_at t before item (unpaired before) e refl ∙ ap (fault_of_local t (usage_of item.bytes)) (sym s.half)

global_at : (t : GlobalTag) (before : List ItemValue) (item : ItemValue) (s : State) → tag item ≡ Global t → StateRefines before s
    → fault_at before item ≡ fault_of_global t (unsigned item.bytes) s
unfolding fault_at shows
global_at Pop before item s e st = rw (e, none_saved globals_of before s.globals st.globals) refl
global_at Push before item s e st = rw (e, none_saved globals_of before s.globals st.globals) refl
global_at ReportId before item s e st = rw (e, st.reports.has_bare) refl
global_at UsagePage before item s e st = rw e refl
global_at LogicalMinimum before item s e st = rw e refl
global_at LogicalMaximum before item s e st = rw e refl
global_at ReportSize before item s e st = rw e refl
global_at ReportCount before item s e st = rw e refl

pub checked_global : (before : List ItemValue) (item : ItemValue) (t : GlobalTag) (s : State) → tag item ≡ Global t → StateRefines before s
    → fault_at before item ≡ fault_of_global t (unsigned item.bytes) s
checked_global before item t s e st = global_at t before item s e st

main_at : (t : MainTag) (before : List ItemValue) (item : ItemValue) (s : State) → tag item ≡ Main t → StateRefines before s
    → fault_at before item ≡ fault_of_main t (unsigned item.bytes) s
unfolding fault_at shows
main_at Collection before item s e st =
    let half : is_some s.locals.half ≡ is_some (unpaired before) = ap is_some st.locals.half ∙ some_map (unpaired before) in
    rw (e, half, st.collections) refl
main_at EndCollection before item s e st =
    let half : is_some s.locals.half ≡ is_some (unpaired before) = ap is_some st.locals.half ∙ some_map (unpaired before) in
    rw (e, half, st.collections) refl
main_at (Data kind) before item s e st =
    let half : is_some s.locals.half ≡ is_some (unpaired before) = ap is_some st.locals.half ∙ some_map (unpaired before) in
    let declares_it : declares (unsigned item.bytes) s.globals.now ≡ is_field before item = declares_field before item kind s.globals.now e st.globals.now in
    rw (declares_it, half, st.reports.fields, st.reports.has_ids, st.globals.now, e) refl

pub checked_main : (before : List ItemValue) (item : ItemValue) (t : MainTag) (s : State) → tag item ≡ Main t → StateRefines before s
    → fault_at before item ≡ fault_of_main t (unsigned item.bytes) s
checked_main before item t s e st = main_at t before item s e st

-- an item that is skipped shows none
pub checked_skipped : (before : List ItemValue) (item : ItemValue) → tag item ≡ Skipped → fault_at before item ≡ None
unfolding fault_at shows
checked_skipped before item e = rw e refl

-- ---- the state after an item

-- an item that opens and closes no collection
pub refine_plain : (before : List ItemValue) (item : ItemValue) (old new : State) → is_collection (tag item) ≡ false → is_end_collection (tag item) ≡ false
    → StackRefines globals_of (item ∷ before) new.globals → LocalsRefine (item ∷ before) new.locals → ReportsRefine (item ∷ before) new.reports
    → new.collections ≡ old.collections → StateRefines before old → StateRefines (item ∷ before) new
refine_plain before item old new n m g l r c s = record {
  globals = g;
  locals = l;
  reports = r;
  collections = c ∙ s.collections ∙ (rw (n, m) refl);
  balanced = rw (n, m) s.balanced;
}

pub refine_opened : (before : List ItemValue) (item : ItemValue) (old new : State) → tag item ≡ Main Collection
    → StackRefines globals_of (item ∷ before) new.globals → LocalsRefine (item ∷ before) new.locals → ReportsRefine (item ∷ before) new.reports
    → new.collections ≡ old.collections + 1 → StateRefines before old → StateRefines (item ∷ before) new
refine_opened before item old new e g l r c s =
    let b = s.balanced in
    let now = s.collections in record {
      globals = g;
      locals = l;
      reports = r;
      collections = rw e (omega arith);
      balanced = rw e (omega arith);
    }

pub refine_closed : (before : List ItemValue) (item : ItemValue) (old new : State) → tag item ≡ Main EndCollection → 0 < open_collections before
    → StackRefines globals_of (item ∷ before) new.globals → LocalsRefine (item ∷ before) new.locals → ReportsRefine (item ∷ before) new.reports
    → new.collections ≡ old.collections - 1 → StateRefines before old → StateRefines (item ∷ before) new
refine_closed before item old new e some g l r c s =
    let b = s.balanced in
    let now = s.collections in record {
      globals = g;
      locals = l;
      reports = r;
      collections = rw e (omega arith);
      balanced = rw e (omega arith);
    }

pub local_no_collection : (item : ItemValue) (t : LocalTag) → tag item ≡ Local t → (is_collection (tag item) ≡ false) × (is_end_collection (tag item) ≡ false)
local_no_collection item t e = rw e (refl, refl)

pub global_no_collection : (item : ItemValue) (t : GlobalTag) → tag item ≡ Global t → (is_collection (tag item) ≡ false) × (is_end_collection (tag item) ≡ false)
global_no_collection item t e = rw e (refl, refl)

-- an item that is skipped changes nothing
pub refine_skipped : (before : List ItemValue) (item : ItemValue) (state : State) → tag item ≡ Skipped → StateRefines before state → StateRefines (item ∷ before) state
refine_skipped before item state e s =
    refine_plain before item state state (ap is_collection e) (ap is_end_collection e)
    (refine_other before item state.globals (ap is_global e) s.globals) (refine_silent before item state.locals (ap is_silent e) s.locals)
    (refine_neutral before item state.reports (ap is_neutral e) s.reports) refl s

-- ---- what no fault says

none_left : (b : Bool) (fault : ParseFault) (more : Option ParseFault) → cond b (Some fault) more ≡ None → (b ≡ false) × (more ≡ None)
none_left b fault more h1 = grind (arith, common_steps)

pub fits_data : (before : List ItemValue) (item : ItemValue) (kind : Kind) (s : State) → tag item ≡ Main (Data kind) → StateRefines before s
    → fault_of_main (Data kind) (unsigned item.bytes) s ≡ None → FitsData before item
fits_data before item kind s e st none =
    let size : s.globals.now.size ≡ report_size before = ap (λ g. g.size) st.globals.now in
    let count : s.globals.now.count ≡ report_count before = ap (λ g. g.count) st.globals.now in
    let first = none_left _ _ _ none in
    let second = none_left _ _ _ first.1 in
    let few : s.globals.now.count ≤ 1024 = ltb-false _ _ second.0 in
    let limit : s.globals.now.size ≤ cond (is_constant item) 1024 32 = ltb-false _ _ first.0 in
    record {
      size = elim (cases_Bool (is_constant item)) [
        | inl c ↦ (let l : s.globals.now.size ≤ 1024 = (rw c at limit) in omega arith)
        | inr c ↦ (let l : s.globals.now.size ≤ 32 = (rw c at limit) in omega arith)
      ];
      field_size = λ c. (let l : s.globals.now.size ≤ 32 = (rw c at limit) in omega arith);
      count = omega arith;
    }

pub room_for_collection : (before : List ItemValue) (item : ItemValue) (s : State) → StateRefines before s
    → fault_of_main Collection (unsigned item.bytes) s ≡ None → open_collections before < 16
room_for_collection before item s st none =
    let below : s.collections < 16 = leb-false _ _ (none_left _ _ _ none).0 in
    let now = st.collections in omega arith

pub collection_left : (before : List ItemValue) (item : ItemValue) (s : State) → StateRefines before s
    → fault_of_main EndCollection (unsigned item.bytes) s ≡ None → 0 < open_collections before
collection_left before item s st none =
    let some : s.collections ≡ 0 → ⊥ = eqb-false _ _ (none_left _ _ _ none).0 in
    let now = st.collections in omega arith

pub small_id : (t : GlobalTag) (value : ℕ) (s : State) → fault_of_global t value s ≡ None → t ≡ ReportId → value < 256
small_id t value s none e =
    let none' : fault_of_global ReportId value s ≡ None = (rw e at none) in
    let both : (value == 0 || nat_lt 255 value) ≡ false = (none_left _ _ _ none').0 in
    let above : value ≤ 255 = ltb-false _ _ (or_parts _ _ both).1 in omega arith

-- a long item is skipped
pub long_skipped : (prefix : ℕ) → prefix ≡ 254 → tag_of prefix ≡ Skipped
unfolding tag_of
long_skipped prefix e = rw e refl

-- ---- what may want memory

pub wants_main : (t : MainTag) (before : List ItemValue) (item : ItemValue) (s : State) → tag item ≡ Main t → StateRefines before s
    → IsData t → IsTrue (fills s.globals.now) → IsTrue (wants_memory (tag item) before)
wants_main t before item s h1 h2 h3 h4 = grind (arith, common_steps)

pub wants_local : (t : LocalTag) (before : List ItemValue) (item : ItemValue) (locals : Locals) → tag item ≡ Local t → LocalsRefine before locals
    → IsTrue (adds_range t locals.half) → IsTrue (wants_memory (tag item) before)
wants_local t before item locals h1 h2 h3 = grind (arith, common_steps)

pub wants_global : (t : GlobalTag) (before : List ItemValue) (item : ItemValue) → tag item ≡ Global t → t ≡ Push → IsTrue (wants_memory (tag item) before)
wants_global t before item e p = rw (e ∙ ap Global p) refl

-- an item that is not skipped is no long one
pub not_long : (prefix : ℕ) (t : Tag) → t ≡ tag_of prefix → (t ≡ Skipped → ⊥) → prefix ≡ 254 → ⊥
not_long prefix t e some long = some (e ∙ long_skipped prefix long)
