use Rattle.std.proofs.lemmas.Grind.{common_steps}
use Rattle.std.proofs.Common.{◌≡◌, ℕ, suc, ◌+◌, ◌-◌, ◌*◌, ◌%◌, ◌<◌, ◌≤◌, ◌^◌, min, List, [], ◌∷◌, ◌++◌, length, length-append, refl, arith, sym, ◌∙◌, ap, Bool, true, false, cond, map}
use Rattle.std.specs.Prelude.{◌==◌, ◌&&◌, ◌||◌, not}
use Rattle.std.proofs.lemmas.List.{length-map}
use Rattle.std.proofs.lemmas.Nat.{mul-le}
use Rattle.std.proofs.lemmas.Bool.{and_parts, not-true}
use Rattle.descriptor_parse.specs.declared.field.Kind.{Kind}
use Rattle.descriptor_parse.specs.declared.globals.Globals.{Globals}
use Rattle.descriptor_parse.specs.declared.locals.Locals.{Locals}
use Rattle.descriptor_parse.specs.declared.reports.Reports.{Reports}
use Rattle.descriptor_parse.specs.declared.tag.Tag.{Tag}
use Rattle.descriptor_parse.specs.declared.tag.Tag.TheVariants.{Main, Global}
use Rattle.descriptor_parse.specs.declared.tag.MainTag.TheVariants.{Data}
use Rattle.descriptor_parse.specs.declared.tag.GlobalTag.{GlobalTag}
use Rattle.descriptor_parse.specs.declared.tag.GlobalTag.TheVariants.{ReportId}
use Rattle.descriptor_parse.specs.Items.{ItemValue}
use Rattle.descriptor_parse.specs.Tags.{tag, same_kind, is_data, is_data_of, is_report_id}
use Rattle.descriptor_parse.specs.Globals.{unsigned, in_force, usage_page, report_size, report_count, report_id}
use Rattle.descriptor_parse.specs.Locals.{usages_since_main}
use Rattle.descriptor_parse.specs.Fields.{is_constant, is_field, declared_field, fields, field_usages, report_bits, has_bare_data}
use Rattle.descriptor_parse.specs.representation.Totals.{bits_in, first_in, no_field}
use Rattle.descriptor_parse.specs.representation.Parts.{parts_from, parts, AreEnds}
use Rattle.descriptor_parse.specs.representation.Linked.{ends_of}
use Rattle.descriptor_parse.specs.representation.CountsRefine.{wrapped_counts, AreWrapped}
use Rattle.descriptor_parse.proofs.PartLemmas.{ends_more, parts_more}
use Rattle.descriptor_parse.proofs.CountLemmas.{wrapped_len, counts_more}
use Rattle.descriptor_parse.specs.representation.GlobalsOf.{globals_of}
use Rattle.descriptor_parse.specs.representation.LocalsRefine.{LocalsRefine, range_on}
use Rattle.descriptor_parse.specs.representation.ReportsRefine.{declares, field_by, Declares, FitsData, ReportsRefine}

pub refine_new : (reports : Reports) → ((kind : Kind) (id : ℕ) → bits_in reports.totals kind id ≡ 0)
    → ((kind : Kind) (id : ℕ) → first_in reports.totals kind id ≡ no_field) → reports.fields.items ≡ []
    → ends_of reports.links.items ≡ [] → reports.ranges.items ≡ [] → reports.counts.items ≡ [] → reports.has_ids ≡ false → reports.has_bare ≡ false → ReportsRefine [] reports
unfolding report_bits fields field_usages has_bare_data parts_from
refine_new reports b u f n r c i h = record {
  bits = b;
  unlinked = u;
  small = λ kind id. omega arith;
  fields = f;
  ends = rw (n, r) refl;
  ranges = rw n refl;
  as_many_counts = rw (r, c) refl;
  counts = rw n tt;
  has_ids = i;
  has_bare = h;
}

-- no data item, and no Report ID
abbrev pub is_neutral : Tag → Bool
is_neutral (Main (Data kind)) = false
is_neutral (Global ReportId) = false
is_neutral _ = true

no_data : (t : Tag) → is_neutral t ≡ true → is_data t ≡ false
no_data t h1 = grind (arith, common_steps)

pub no_data_of : (kind : Kind) (t : Tag) → is_data t ≡ false → is_data_of kind t ≡ false
no_data_of kind t h1 = grind (arith, common_steps)

no_id : (t : Tag) → is_neutral t ≡ true → is_report_id t ≡ false
no_id t h1 = grind (arith, common_steps)

-- what is no data item leaves all but the use of IDs
pub refine_no_data : (before : List ItemValue) (item : ItemValue) (old new : Reports) → is_data (tag item) ≡ false
    → new.totals ≡ old.totals → new.fields.items ≡ old.fields.items → ends_of new.links.items ≡ ends_of old.links.items → new.ranges.items ≡ old.ranges.items
    → new.counts.items ≡ old.counts.items → new.has_ids ≡ (is_report_id (tag item) || old.has_ids) → new.has_bare ≡ old.has_bare
    → ReportsRefine before old → ReportsRefine (item ∷ before) new
unfolding report_bits fields field_usages has_bare_data
refine_no_data before item old new d t f n r c i h s = record {
  bits = λ kind id. ap (λ x. bits_in x kind id) t ∙ s.bits kind id ∙ (rw (no_data_of kind (tag item) d) refl);
  small = λ kind id. rw (no_data_of kind (tag item) d) (let l = s.small kind id in omega arith);
  fields = f ∙ s.fields ∙ (rw d refl);
  unlinked = λ kind id. ap (λ x. first_in x kind id) t ∙ s.unlinked kind id;
  ends = rw (n, r) s.ends;
  ranges = rw (n, r) (s.ranges ∙ (rw d refl));
  as_many_counts = rw (r, c) s.as_many_counts;
  counts = rw (n, r, c) s.counts;
  has_ids = i ∙ ap (λ b. is_report_id (tag item) || b) s.has_ids;
  has_bare = h ∙ s.has_bare ∙ (rw d refl);
}

pub refine_neutral : (before : List ItemValue) (item : ItemValue) (reports : Reports) → is_neutral (tag item) ≡ true
    → ReportsRefine before reports → ReportsRefine (item ∷ before) reports
refine_neutral before item reports n s =
    refine_no_data before item reports reports (no_data (tag item) n) refl refl refl refl refl (rw (no_id (tag item) n) refl) refl s

-- a product of at most 1,024 times 1,024
product_small : (a b : ℕ) → a ≤ 1024 → b ≤ 1024 → a * b ≤ 1048576
product_small a b x y = mul-le a b 1024 1024 x y

even_below_two : (r : ℕ) → r < 2 → (r == 0) ≡ not (r == 1)
even_below_two r h1 = grind (arith, common_steps)

even : (n : ℕ) → (n % 2 == 0) ≡ not (n % 2 == 1)
even n = even_below_two (n % 2) (omega arith)

total_at : (b : Bool) (old new bits product len : ℕ) → product ≤ 1048576 → bits ≤ 2 ^ 20 * len → len ≤ 4096 → old ≡ bits
    → new ≡ cond b (min (2 ^ 64 - 1) (old + min product (2 ^ 64 - 1))) old
    → (new ≡ cond b (bits + product) bits) × (cond b (bits + product) bits ≤ 2 ^ 20 * suc len)
total_at b old new bits product len h1 h2 h3 h4 h5 = grind (arith, common_steps)

-- a data item declares a field by its own data and the Globals in force
pub declares_field : (before : List ItemValue) (item : ItemValue) (kind : Kind) (g : Globals) → tag item ≡ Main (Data kind)
    → g ≡ globals_of (in_force before) → declares (unsigned item.bytes) g ≡ is_field before item
declares_field before item kind g e f = rw (e, f, even (unsigned item.bytes)) refl

-- the totals after a data item
total_more : (before : List ItemValue) (item : ItemValue) (kind : Kind) (g : Globals) (k : Kind) (i old new : ℕ) → tag item ≡ Main (Data kind)
    → g ≡ globals_of (in_force before) → FitsData before item → length before ≤ 4096 → report_bits k i before ≤ 2 ^ 20 * length before
    → old ≡ report_bits k i before
    → new ≡ cond (same_kind k kind && g.id == i) (min (2 ^ 64 - 1) (old + min (g.size * g.count) (2 ^ 64 - 1))) old
    → (new ≡ report_bits k i (item ∷ before)) × (report_bits k i (item ∷ before) ≤ 2 ^ 20 * length (item ∷ before))
unfolding report_bits
total_more before item kind g k i old new e f fits few small same n =
    let test : (is_data_of k (tag item) && report_id before == i) ≡ (same_kind k kind && g.id == i) = rw (e, f) refl in
    let product : g.size * g.count ≡ report_size before * report_count before = rw f refl in
    let bound : g.size * g.count ≤ 1048576 = rw product (product_small _ _ fits.size fits.count) in
    rw (test, ← product) (total_at (same_kind k kind && g.id == i) old new (report_bits k i before) (g.size * g.count) (length before) bound small few same n)

-- the field that is declared
same_field : (before : List ItemValue) (item : ItemValue) (kind : Kind) (bit : ℕ) (g : Globals) → tag item ≡ Main (Data kind)
    → g ≡ globals_of (in_force before) → bit ≡ report_bits kind (report_id before) before
    → field_by kind bit (unsigned item.bytes) g ≡ declared_field before item
same_field before item kind bit g e f b = rw (f, b, e) refl

or_bare : (a b : Bool) → (a || b) ≡ cond b true a
or_bare a b = grind (arith, common_steps)

-- a field is within the limits of fields
within : (before : List ItemValue) (item : ItemValue) (g : Globals) → g ≡ globals_of (in_force before) → FitsData before item
    → declares (unsigned item.bytes) g ≡ true → (g.size ≤ 32) × (g.count ≤ 1024)
within before item g f fits d =
    let size : g.size ≡ report_size before = ap (λ x. x.size) f in
    let count : g.count ≡ report_count before = ap (λ x. x.count) f in
    let evens : (unsigned item.bytes % 2 == 0) ≡ true = (and_parts _ _ d).0 in
    let constant : is_constant item ≡ false = not-true _ (sym (even (unsigned item.bytes)) ∙ evens) in
    let small : report_size before ≤ 32 = fits.field_size constant in
    let few : report_count before ≤ 1024 = fits.count in
    (omega arith, omega arith)

-- the usages of all fields, with those of one more if it is one
record PartsRefine (b : Bool) (usages : List (List (ℕ × ℕ))) (more : List (ℕ × ℕ)) (reports : Reports) : Type 0 where
  ends : AreEnds 0 (ends_of reports.links.items) (length reports.ranges.items)
  ranges : parts (ends_of reports.links.items) reports.ranges.items ≡ cond b (usages ++ more ∷ []) usages
  as_many : length reports.counts.items ≡ length reports.ranges.items
  counts : AreWrapped 0 (ends_of reports.links.items) reports.ranges.items reports.counts.items

parts_with : (b : Bool) (usages : List (List (ℕ × ℕ))) (page : ℕ) (locals : Locals) (old new : Reports)
    → new.ranges.items ≡ cond b (old.ranges.items ++ map (range_on page) locals.usages.items) old.ranges.items
    → ends_of new.links.items ≡ cond b (ends_of old.links.items ++ (length old.ranges.items + length locals.usages.items) ∷ []) (ends_of old.links.items)
    → new.counts.items ≡ cond b (old.counts.items ++ wrapped_counts 0 (map (range_on page) locals.usages.items)) old.counts.items
    → length old.counts.items ≡ length old.ranges.items → AreWrapped 0 (ends_of old.links.items) old.ranges.items old.counts.items
    → AreEnds 0 (ends_of old.links.items) (length old.ranges.items) → parts (ends_of old.links.items) old.ranges.items ≡ usages
    → PartsRefine b usages (map (range_on page) locals.usages.items) new
parts_with true usages page locals old new r n c many counts ends same =
    let more = map (range_on page) locals.usages.items in
    let len : length more ≡ length locals.usages.items = length-map locals.usages.items (range_on page) in
    let n' : ends_of new.links.items ≡ ends_of old.links.items ++ (length old.ranges.items + length more) ∷ [] = n ∙ (rw len refl) in
    let all : length new.ranges.items ≡ length old.ranges.items + length more = ap length r ∙ length-append old.ranges.items more in
    record {
      ends = rw (n', all) (ends_more 0 (ends_of old.links.items) (length old.ranges.items) (length more) ends);
      ranges = rw (n', r) (parts_more 0 (ends_of old.links.items) old.ranges.items more ends ∙ ap (λ (u : List (List (ℕ × ℕ))). u ++ more ∷ []) same);
      as_many = rw (c, r) (omega (arith, many, length-append old.counts.items (wrapped_counts 0 more), wrapped_len 0 more, length-append old.ranges.items more));
      counts = rw (n', r, c) (counts_more 0 (ends_of old.links.items) old.ranges.items more old.counts.items ends many counts);
    }
parts_with false usages page locals old new r n c many counts ends same = record {
  ends = rw (n, r) ends;
  ranges = rw (n, r) same;
  as_many = rw (c, r) many;
  counts = rw (n, r, c) counts;
}

-- a data item within the limits
pub refine_data : (before : List ItemValue) (item : ItemValue) (kind : Kind) (g : Globals) (locals : Locals) (old mid new : Reports) (bit product : ℕ)
    → tag item ≡ Main (Data kind) → g ≡ globals_of (in_force before) → LocalsRefine before locals → FitsData before item → length before ≤ 4096
    → product ≡ min (g.size * g.count) (2 ^ 64 - 1) → bit ≡ bits_in old.totals kind g.id
    → ((k : Kind) (i : ℕ) → bits_in old.totals k i < 2 ^ 64 → bits_in mid.totals k i
    ≡ cond (same_kind k kind && g.id == i) (min (2 ^ 64 - 1) (bits_in old.totals k i + product)) (bits_in old.totals k i))
    → ((k : Kind) (i : ℕ) → first_in mid.totals k i ≡ first_in old.totals k i)
    → mid.fields.items ≡ old.fields.items → ends_of mid.links.items ≡ ends_of old.links.items → mid.ranges.items ≡ old.ranges.items → mid.counts.items ≡ old.counts.items
    → mid.has_ids ≡ old.has_ids → mid.has_bare ≡ (old.has_bare || g.id == 0)
    → Declares kind bit (unsigned item.bytes) g locals mid new
    → ReportsRefine before old → ReportsRefine (item ∷ before) new
unfolding fields field_usages has_bare_data
refine_data before item kind g locals old mid new bit product e f ls fits few p was add first fs ns rs cs ids bare d s =
    let field : declares (unsigned item.bytes) g ≡ is_field before item = declares_field before item kind g e f in
    let more : (k : Kind) (i : ℕ) → (bits_in mid.totals k i ≡ report_bits k i (item ∷ before)) × (report_bits k i (item ∷ before) ≤ 2 ^ 20 * length (item ∷ before)) =
    λ k i. (let small : report_bits k i before ≤ 2 ^ 20 * length before = s.small k i in
    let same : bits_in old.totals k i ≡ report_bits k i before = s.bits k i in
    total_more before item kind g k i (bits_in old.totals k i) (bits_in mid.totals k i) e f fits few small same (add k i (omega arith) ∙ (rw p refl))) in
    let id : g.id ≡ report_id before = ap (λ x. x.id) f in
    let page : g.page ≡ usage_page before = ap (λ x. x.page) f in
    let from : bit ≡ report_bits kind (report_id before) before = was ∙ s.bits kind g.id ∙ ap (λ i. report_bits kind i before) id in
    let declared : field_by kind bit (unsigned item.bytes) g ≡ declared_field before item = same_field before item kind bit g e f from in
    let usages_refine : PartsRefine (declares (unsigned item.bytes) g) (field_usages before) (map (range_on g.page) locals.usages.items) new =
    parts_with (declares (unsigned item.bytes) g) (field_usages before) g.page locals mid new d.ranges d.ends d.counts
    (rw (cs, rs) s.as_many_counts) (rw (ns, rs, cs) s.counts) (rw (ns, rs) s.ends) (rw (ns, rs) s.ranges) in
    let usages : map (range_on g.page) locals.usages.items ≡ usages_since_main (usage_page before) before = ls.usages g.page ∙ ap (λ p. usages_since_main p before) page in
    record {
      bits = λ k i. ap (λ t. bits_in t k i) d.totals ∙ (more k i).0;
      small = λ k i. (more k i).1;
      unlinked = λ k i. ap (λ t. first_in t k i) d.totals ∙ first k i ∙ s.unlinked k i;
      fields = d.fields (within before item g f fits) ∙ (rw (field, fs, s.fields, declared) refl);
      ends = usages_refine.ends;
      ranges = usages_refine.ranges ∙ (rw (field, usages) refl);
      as_many_counts = usages_refine.as_many;
      counts = usages_refine.counts;
      has_ids = d.has_ids ∙ ids ∙ s.has_ids ∙ (rw e refl);
      has_bare = d.has_bare ∙ bare ∙ ap (λ b. b || g.id == 0) s.has_bare ∙ or_bare (has_bare_data before) (g.id == 0) ∙ (rw (e, f) refl);
    }

-- a Report ID
pub refine_noted_id : (before : List ItemValue) (item : ItemValue) (t : GlobalTag) (old new : Reports) → tag item ≡ Global t → t ≡ ReportId
    → new.totals ≡ old.totals → new.fields.items ≡ old.fields.items → ends_of new.links.items ≡ ends_of old.links.items → new.ranges.items ≡ old.ranges.items
    → new.counts.items ≡ old.counts.items → new.has_ids ≡ true → new.has_bare ≡ old.has_bare → ReportsRefine before old → ReportsRefine (item ∷ before) new
refine_noted_id before item t old new e id a b n c k d f s =
    let is : tag item ≡ Global ReportId = e ∙ ap Global id in
    refine_no_data before item old new (ap is_data is) a b n c k (d ∙ (rw is refl)) f s

neutral_global : (t : GlobalTag) → (t ≡ ReportId → ⊥) → is_neutral (Global t) ≡ true
neutral_global t h1 = grind (arith, common_steps)

-- any other Global item
pub refine_noted : (before : List ItemValue) (item : ItemValue) (t : GlobalTag) (reports : Reports) → tag item ≡ Global t → (t ≡ ReportId → ⊥)
    → ReportsRefine before reports → ReportsRefine (item ∷ before) reports
refine_noted before item t reports e n s = refine_neutral before item reports (ap is_neutral e ∙ neutral_global t n) s
