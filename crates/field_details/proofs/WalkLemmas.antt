-- What an item changes in all that is kept.
use Rattle.std.proofs.Common.{◌≡◌, ◌≢◌, ℕ, ◌-◌, ◌^◌, ◌<◌, List, [], ◌∷◌, ◌++◌, length, refl, arith, sym, ◌∙◌, ap, Bool, true, false, cond, Some, None, length-append, Result, Ok, Err, OnOk}
use Rattle.std.specs.Prelude.{filter, min, option_map, Option}
use Rattle.std.specs.Option.{option_or}
use Rattle.descriptor_parse.specs.declared.field.Kind.{Kind}
use Rattle.descriptor_parse.specs.declared.tag.Tag.{Tag}
use Rattle.descriptor_parse.specs.declared.tag.Tag.TheVariants.{Main, Global, Local, Skipped}
use Rattle.descriptor_parse.specs.declared.tag.MainTag.{MainTag}
use Rattle.descriptor_parse.specs.declared.tag.MainTag.TheVariants.{Data, Collection, EndCollection}
use Rattle.descriptor_parse.specs.declared.tag.LocalTag.{LocalTag}
use Rattle.descriptor_parse.specs.declared.tag.LocalTag.TheVariants.{Usage}
use Rattle.descriptor_parse.specs.Items.{ItemValue}
use Rattle.descriptor_parse.specs.Tags.{tag, tag_of, is_main, is_data, is_collection, is_end_collection}
use Rattle.descriptor_parse.specs.Globals.{unsigned, in_force, report_id}
use Rattle.descriptor_parse.specs.declared.globals.Globals.{Globals}
use Rattle.descriptor_parse.specs.representation.GlobalsOf.{globals_of}
use Rattle.descriptor_parse.specs.Locals.{since_main, usage_number}
use Rattle.descriptor_parse.specs.Fields.{takes_bit, report_bits}
use Rattle.descriptor_parse.specs.declared.usage.Usage.{Usage as Written}
use Rattle.descriptor_parse.specs.representation.Written.{usage_of, usage_on}
use Rattle.descriptor_parse.proofs.LocalLemmas.{number_on}
use Rattle.field_details.specs.declared.walk.Walk.{Walk}
use Rattle.field_details.specs.declared.extents.Extents.{Extents}
use Rattle.field_details.specs.Collections.{is_usage, first_usage, open_now, collections, collection_count, without_last, innermost, declared_collection}
use Rattle.field_details.specs.Details.{has_place, details, declared_detail}
use Rattle.field_details.specs.representation.Named.{ArePending, NamesRefine}
use Rattle.field_details.specs.representation.Relation.{WalkRefines, extents_of, detail_by}
use Rattle.descriptor_parse.specs.representation.StackRefines.{StackRefines}
use Rattle.field_details.proofs.ExtentLemmas.{refine_known}
use Rattle.field_details.proofs.NameLemmas.{pending_known, pending_main, names_other}
use Rattle.field_details.proofs.ReportLemmas.{details_other}

pub on_ok : {A E : Type 0} (r : Result A E) {P Q : Type 0} → (P → Q) → OnOk r P → OnOk r Q
on_ok (Ok x) f p = f p
on_ok (Err e) f p = tt

pub both_ok : {A E : Type 0} (r : Result A E) {P Q R : Type 0} → (P → Q → R) → OnOk r P → OnOk r Q → OnOk r R
both_ok (Ok x) f p q = f p q
both_ok (Err e) f p q = tt

-- ---- usages

or_none : {A : Type 0} (o : Option A) → option_or o None ≡ o
or_none None = refl
or_none (Some x) = refl

-- of the items since a Main item there is none
pub usage_after_main : (before : List ItemValue) (item : ItemValue) → is_main (tag item) ≡ true → first_usage (since_main (item ∷ before)) ≡ None
usage_after_main before item e = rw e refl

usage_same : (before : List ItemValue) (item : ItemValue) → is_main (tag item) ≡ false → is_usage (tag item) ≡ false
    → first_usage (since_main (item ∷ before)) ≡ first_usage (since_main before)
usage_same before item m u = rw (m, u) (or_none (first_usage (since_main before)))

usage_more : (before : List ItemValue) (item : ItemValue) → tag item ≡ Local Usage
    → first_usage (since_main (item ∷ before)) ≡ option_or (first_usage (since_main before)) (Some item.bytes)
usage_more before item e =
    let m : is_main (tag item) ≡ false = ap is_main e in
    let u : is_usage (tag item) ≡ true = ap is_usage e in rw (m, u) refl

mapped_or : {A B : Type 0} (f : A → B) (o : Option A) (x : A) → option_map f (option_or o (Some x)) ≡ option_or (option_map f o) (Some (f x))
mapped_or f None x = refl
mapped_or f (Some y) x = refl

-- the usage that was kept is that of a collection
pub usage_reported : (page : ℕ) (o : Option (List ℕ)) → option_map (usage_on page) (option_map usage_of o) ≡ option_map (usage_number page) o
usage_reported page None = refl
usage_reported page (Some bytes) = ap Some (number_on page bytes)

-- what the values in force make of a data item
pub detail_is : (before : List ItemValue) (item : ItemValue) (k : Kind) (g : Globals) (x : Extents) (bit : ℕ) (inside : Option ℕ)
    → tag item ≡ Main (Data k) → g ≡ globals_of (in_force before) → x ≡ extents_of (in_force before)
    → bit ≡ report_bits k (report_id before) before → bit < 2 ^ 64 → inside ≡ innermost (open_now before)
    → detail_by k item.offset (unsigned item.bytes) bit inside g x ≡ declared_detail before item
detail_is before item k g x bit inside e is xs b few i =
    let whole : bit ≡ min (2 ^ 64 - 1) (report_bits k (report_id before) before) = omega (arith, few, b) in
    rw (whole, i, is, xs, e) refl

-- ---- an item that declares, opens and closes nothing

pub record IsPlain (t : Tag) : Type 0 where
  pub main : is_main t ≡ false
  pub items : is_data t ≡ false
  pub opens : is_collection t ≡ false
  pub ends : is_end_collection t ≡ false

plain_local : (l : LocalTag) → IsPlain (Local l)
plain_local l = record { main = refl; items = refl; opens = refl; ends = refl }

not_main : (t : Tag) → is_main t ≡ false → IsPlain t
not_main (Main m) n = cc
not_main (Global g) n = record { main = refl; items = refl; opens = refl; ends = refl }
not_main (Local l) n = record { main = refl; items = refl; opens = refl; ends = refl }
not_main Skipped n = record { main = refl; items = refl; opens = refl; ends = refl }

pub open_same : (before : List ItemValue) (item : ItemValue) → is_collection (tag item) ≡ false → is_end_collection (tag item) ≡ false → open_now (item ∷ before) ≡ open_now before
unfolding open_now
open_same before item o e = rw (o, e) refl

pub collections_same : (before : List ItemValue) (item : ItemValue) → is_collection (tag item) ≡ false → collections (item ∷ before) ≡ collections before
unfolding collections
collections_same before item o = rw o refl

no_item : (before : List ItemValue) (item : ItemValue) → is_data (tag item) ≡ false → has_place before item ≡ false
no_item before item n = rw n refl

-- what is reported has the same names
names_same : (before : List ItemValue) (item : ItemValue) (old new : Walk) → has_place before item ≡ false → is_collection (tag item) ≡ false
    → new.reported ≡ old.reported → WalkRefines before old → NamesRefine (item ∷ before) new.reported.names
names_same before item old new place group same s = rw same (names_other before item old.reported.names place group s.names)

plain : (before : List ItemValue) (item : ItemValue) (old new : Walk) → IsPlain (tag item) → StackRefines extents_of (item ∷ before) new.extents
    → new.usage ≡ option_map usage_of (first_usage (since_main (item ∷ before))) → new.opened ≡ old.opened → ArePending (since_main (item ∷ before)) new.pending
    → new.reported ≡ old.reported → WalkRefines before old → WalkRefines (item ∷ before) new
plain before item old new p extents usage opened pending reported s = record {
  extents = extents;
  usage = usage;
  opened = ap (λ v. v.items) opened ∙ s.opened ∙ sym (open_same before item p.opens p.ends);
  fields = ap (λ d. d.fields.items) reported ∙ s.fields ∙ sym (details_other before item p.items);
  groups = ap (λ d. d.collections.items) reported ∙ s.groups ∙ sym (collections_same before item p.opens);
  pending = pending;
  names = names_same before item old new (no_item before item p.items) p.opens reported s;
}

-- a Global item, or one that is skipped
pub refine_extents : (before : List ItemValue) (item : ItemValue) (old new : Walk) → is_main (tag item) ≡ false → is_usage (tag item) ≡ false → StackRefines extents_of (item ∷ before) new.extents
    → new.usage ≡ old.usage → new.opened ≡ old.opened → ArePending (since_main (item ∷ before)) new.pending → new.reported ≡ old.reported
    → WalkRefines before old → WalkRefines (item ∷ before) new
refine_extents before item old new m u extents usage opened pending reported s =
    plain before item old new (not_main (tag item) m) extents (usage ∙ s.usage ∙ sym (ap (option_map usage_of) (usage_same before item m u))) opened pending reported s

local_extents : (before : List ItemValue) (item : ItemValue) (l : LocalTag) (walk : Walk) → tag item ≡ Local l → WalkRefines before walk → StackRefines extents_of (item ∷ before) walk.extents
local_extents before item l walk e s = refine_known before item (Local l) walk.extents e (λ no. cc) refl refl s.extents

no_usage : (l : LocalTag) → (l ≡ Usage → ⊥) → is_usage (Local l) ≡ false
no_usage Usage n = absurd (n refl)
no_usage _ n = refl

-- a Local item other than Usage
pub refine_local : (before : List ItemValue) (item : ItemValue) (l : LocalTag) (walk : Walk) → tag item ≡ Local l → (l ≡ Usage → ⊥)
    → WalkRefines before walk → WalkRefines (item ∷ before) walk
refine_local before item l walk e n s =
    refine_extents before item walk walk (ap is_main e) (ap is_usage e ∙ no_usage l n) (local_extents before item l walk e s) refl refl
    (pending_known before item (Local l) walk.pending e (λ no. cc) refl s.pending) refl s

pub refine_usage : (before : List ItemValue) (item : ItemValue) (usage : Written) (old new : Walk) → tag item ≡ Local Usage → usage ≡ usage_of item.bytes
    → new ≡ record old { usage = option_or old.usage (Some usage) } → WalkRefines before old → WalkRefines (item ∷ before) new
refine_usage before item usage old new e u w s =
    let extents : new.extents ≡ old.extents = ap (λ v. v.extents) w in
    let pending : new.pending ≡ old.pending = ap (λ v. v.pending) w in
    plain before item old new (rw e (plain_local Usage)) (rw extents (local_extents before item Usage old e s))
    (ap (λ v. v.usage) w ∙ rw (s.usage, u, usage_more before item e) (sym (mapped_or usage_of (first_usage (since_main before)) item.bytes)))
    (ap (λ v. v.opened) w) (rw pending (pending_known before item (Local Usage) old.pending e (λ no. cc) refl s.pending)) (ap (λ v. v.reported) w) s

-- ---- Main items

main_extents : (before : List ItemValue) (item : ItemValue) (m : MainTag) (old new : Walk) → tag item ≡ Main m → new.extents ≡ old.extents → WalkRefines before old → StackRefines extents_of (item ∷ before) new.extents
main_extents before item m old new e g s = rw g (refine_known before item (Main m) old.extents e (λ no. cc) refl refl s.extents)

main_usage : (before : List ItemValue) (item : ItemValue) (m : MainTag) → tag item ≡ Main m → None ≡ option_map usage_of (first_usage (since_main (item ∷ before)))
main_usage before item m e = sym (ap (option_map usage_of) (usage_after_main before item (ap is_main e)))

details_placed : (before : List ItemValue) (item : ItemValue) (k : Kind) → tag item ≡ Main (Data k) → takes_bit before ≡ true
    → details (item ∷ before) ≡ details before ++ declared_detail before item ∷ []
unfolding details
details_placed before item k e t = rw (e, t) refl

details_empty : (before : List ItemValue) (item : ItemValue) (k : Kind) → tag item ≡ Main (Data k) → takes_bit before ≡ false
    → details (item ∷ before) ≡ details before
unfolding details
details_empty before item k e t = rw (e, t) refl

-- a data item that takes a bit
pub refine_placed : (before : List ItemValue) (item : ItemValue) (k : Kind) (old new : Walk) → tag item ≡ Main (Data k) → takes_bit before ≡ true
    → new.extents ≡ old.extents → new.usage ≡ None → new.opened ≡ old.opened
    → new.reported.fields.items ≡ old.reported.fields.items ++ declared_detail before item ∷ [] → new.reported.collections ≡ old.reported.collections
    → ArePending [] new.pending → NamesRefine (item ∷ before) new.reported.names → WalkRefines before old → WalkRefines (item ∷ before) new
refine_placed before item k old new e t extents usage opened fields groups pending names s = record {
  extents = main_extents before item (Data k) old new e extents s;
  usage = usage ∙ main_usage before item (Data k) e;
  opened = ap (λ v. v.items) opened ∙ s.opened ∙ sym (open_same before item (ap is_collection e) (ap is_end_collection e));
  fields = fields ∙ ap (λ xs. xs ++ declared_detail before item ∷ []) s.fields ∙ sym (details_placed before item k e t);
  groups = ap (λ v. v.items) groups ∙ s.groups ∙ sym (collections_same before item (ap is_collection e));
  pending = pending_main before item new.pending (ap is_main e) pending;
  names = names;
}

-- one that takes none
pub refine_empty : (before : List ItemValue) (item : ItemValue) (k : Kind) (old new : Walk) → tag item ≡ Main (Data k) → takes_bit before ≡ false
    → new.extents ≡ old.extents → new.usage ≡ None → new.opened ≡ old.opened → new.reported ≡ old.reported → ArePending [] new.pending
    → WalkRefines before old → WalkRefines (item ∷ before) new
refine_empty before item k old new e t extents usage opened reported pending s = record {
  extents = main_extents before item (Data k) old new e extents s;
  usage = usage ∙ main_usage before item (Data k) e;
  opened = ap (λ v. v.items) opened ∙ s.opened ∙ sym (open_same before item (ap is_collection e) (ap is_end_collection e));
  fields = ap (λ d. d.fields.items) reported ∙ s.fields ∙ sym (details_empty before item k e t);
  groups = ap (λ d. d.collections.items) reported ∙ s.groups ∙ sym (collections_same before item (ap is_collection e));
  pending = pending_main before item new.pending (ap is_main e) pending;
  names = names_same before item old new (rw (e, t) refl) (ap is_collection e) reported s;
}

-- the number of the next collection
pub count_is : (before : List ItemValue) → length (collections before) ≡ collection_count before
unfolding collections
count_is [] = refl
count_is (item ∷ before) =
    let P : Bool → Type 0 = λ b. length (cond b (collections before ++ declared_collection before item ∷ []) (collections before)) ≡ length (cond b (item ∷ filter (λ i. is_collection (tag i)) before) (filter (λ i. is_collection (tag i)) before)) in
    elim (is_collection (tag item)) as P [
      | true ↦ length-append (collections before) (declared_collection before item ∷ []) ∙ (let ih = count_is before in omega arith)
      | false ↦ count_is before
    ]

pub open_more : (before : List ItemValue) (item : ItemValue) → tag item ≡ Main Collection → open_now (item ∷ before) ≡ open_now before ++ collection_count before ∷ []
unfolding open_now
open_more before item e = rw e refl

pub collections_more : (before : List ItemValue) (item : ItemValue) → tag item ≡ Main Collection → collections (item ∷ before) ≡ collections before ++ declared_collection before item ∷ []
unfolding collections
collections_more before item e = rw e refl

pub refine_opened : (before : List ItemValue) (item : ItemValue) (old new : Walk) → tag item ≡ Main Collection
    → new.extents ≡ old.extents → new.usage ≡ None → new.opened.items ≡ old.opened.items ++ length old.reported.collections.items ∷ []
    → new.reported.fields ≡ old.reported.fields → new.reported.collections.items ≡ old.reported.collections.items ++ declared_collection before item ∷ []
    → ArePending [] new.pending → NamesRefine (item ∷ before) new.reported.names → WalkRefines before old → WalkRefines (item ∷ before) new
refine_opened before item old new e extents usage opened fields groups pending names s =
    let number : length old.reported.collections.items ≡ collection_count before = ap length s.groups ∙ count_is before in
    record {
      extents = main_extents before item Collection old new e extents s;
      usage = usage ∙ main_usage before item Collection e;
      opened = opened ∙ rw (s.opened, number) (sym (open_more before item e));
      fields = ap (λ v. v.items) fields ∙ s.fields ∙ sym (details_other before item (ap is_data e));
      groups = groups ∙ ap (λ xs. xs ++ declared_collection before item ∷ []) s.groups ∙ sym (collections_more before item e);
      pending = pending_main before item new.pending (ap is_main e) pending;
      names = names;
    }

pub open_fewer : (before : List ItemValue) (item : ItemValue) → tag item ≡ Main EndCollection → open_now (item ∷ before) ≡ without_last (open_now before)
unfolding open_now
open_fewer before item e = rw e refl

pub refine_closed : (before : List ItemValue) (item : ItemValue) (old new : Walk) → tag item ≡ Main EndCollection
    → new.extents ≡ old.extents → new.usage ≡ None → new.opened.items ≡ without_last old.opened.items → new.reported ≡ old.reported → ArePending [] new.pending
    → WalkRefines before old → WalkRefines (item ∷ before) new
refine_closed before item old new e extents usage opened reported pending s = record {
  extents = main_extents before item EndCollection old new e extents s;
  usage = usage ∙ main_usage before item EndCollection e;
  opened = opened ∙ ap without_last s.opened ∙ sym (open_fewer before item e);
  fields = ap (λ d. d.fields.items) reported ∙ s.fields ∙ sym (details_other before item (ap is_data e));
  groups = ap (λ d. d.collections.items) reported ∙ s.groups ∙ sym (collections_same before item (ap is_collection e));
  pending = pending_main before item new.pending (ap is_main e) pending;
  names = names_same before item old new (no_item before item (ap is_data e)) (ap is_collection e) reported s;
}

pub refine_new : (walk : Walk) → StackRefines extents_of [] walk.extents → walk.usage ≡ None → walk.opened.items ≡ [] → walk.reported.fields.items ≡ [] → walk.reported.collections.items ≡ []
    → ArePending [] walk.pending → NamesRefine [] walk.reported.names → WalkRefines [] walk
unfolding open_now details collections
refine_new walk extents usage opened fields groups pending names = record { extents = extents; usage = usage; opened = opened; fields = fields; groups = groups; pending = pending; names = names }

-- a long item is skipped
pub long_skipped : (prefix : ℕ) (t : Tag) → tag_of prefix ≡ t → (t ≡ Skipped → ⊥) → prefix ≢ 254
unfolding tag_of
long_skipped prefix t e n = λ long. n (sym e ∙ (rw long refl))
