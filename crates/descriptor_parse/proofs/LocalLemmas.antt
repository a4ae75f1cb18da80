use Rattle.std.proofs.lemmas.Grind.{common_steps}
use Rattle.std.proofs.Common.{◌≡◌, ℕ, ◌+◌, ◌*◌, ◌%◌, ◌<◌, ◌≤◌, ◌^◌, List, [], ◌∷◌, ◌++◌, length, get_or, refl, arith, sym, ◌∙◌, ap, Bool, true, false, cond, map, Some, None, inl, inr}
use Rattle.std.specs.Prelude.{Option, option_map, ◌==◌, slice_get}
use Rattle.std.proofs.lemmas.List.{map-append, append-nil}
use Rattle.std.proofs.lemmas.Bool.{cases_lt, ne_eqb, eq-eqb}
use Rattle.descriptor_parse.specs.declared.tag.Tag.{Tag}
use Rattle.descriptor_parse.specs.declared.tag.Tag.TheVariants.{Main, Global, Local, Skipped}
use Rattle.descriptor_parse.specs.declared.tag.LocalTag.TheVariants.{Usage, UsageMinimum, UsageMaximum, Delimiter}
use Rattle.descriptor_parse.specs.declared.usage.Usage.TheVariants.{Short, Whole}
use Rattle.descriptor_parse.specs.declared.locals.UsageRange.{UsageRange}
use Rattle.descriptor_parse.specs.declared.locals.Locals.{Locals}
use Rattle.descriptor_parse.specs.Items.{ItemValue}
use Rattle.descriptor_parse.specs.Tags.{tag, is_main}
use Rattle.descriptor_parse.specs.Globals.{unsigned}
use Rattle.descriptor_parse.specs.Locals.{has_page, usage_number, since_main, halves, without_partner, unpaired, range_made, ranges_made, usages_since_main}
use Rattle.descriptor_parse.specs.representation.Written.{usage_of, usage_on}
use Rattle.descriptor_parse.specs.representation.LocalsRefine.{range_on, half_of, TakesHalf, TakesHalfAt, LocalsRefine}

-- two bytes make 16 bits
pub unsigned_two : (bytes : List ℕ) → ((i : ℕ) → get_or bytes i 0 < 256) → length bytes ≤ 2 → unsigned bytes < 65536
unsigned_two [] small l = omega arith
unsigned_two (a ∷ []) small l = omega (arith, small 0)
unsigned_two (a ∷ b ∷ []) small l = omega (arith, small 0, small 1)
unsigned_two (a ∷ b ∷ c ∷ more) small l = absurd (omega arith)

pub number_on : (page : ℕ) (bytes : List ℕ) → usage_on page (usage_of bytes) ≡ usage_number page bytes
number_on page bytes =
    elim (has_page bytes) as (λ b. usage_on page (cond b (Whole (unsigned bytes)) (Short (unsigned bytes))) ≡ cond b (unsigned bytes) (page * 2 ^ 16 + unsigned bytes))
    [ true ↦ refl | false ↦ refl ]

-- ---- one item more

-- the Minimum or Maximum without a partner, by the latest item
abbrev pub still_unpaired : Tag → ItemValue → Option ItemValue → Option ItemValue
still_unpaired (Main m) item earlier = None
still_unpaired (Local UsageMinimum) item None = Some item
still_unpaired (Local UsageMinimum) item (Some half) = None
still_unpaired (Local UsageMaximum) item None = Some item
still_unpaired (Local UsageMaximum) item (Some half) = None
still_unpaired _ item earlier = earlier

-- a Minimum or Maximum more, after a list of them
one_half : (item : ItemValue) (earlier : List ItemValue)
    → cond (length (item ∷ earlier) % 2 == 1) (slice_get (item ∷ earlier) 0) None
    ≡ still_unpaired (Local UsageMinimum) item (cond (length earlier % 2 == 1) (slice_get earlier 0) None)
one_half item [] = refl
one_half item (first ∷ earlier) =
    elim (cases_lt (length (first ∷ earlier) % 2) 1) [
      | inl even ↦ (let now : (length (first ∷ earlier) % 2 == 1) ≡ false = ne_eqb _ _ (omega arith) in let next : (length (item ∷ first ∷ earlier) % 2 == 1) ≡ true = eq-eqb _ _ (omega arith) in rw (now, next) refl)
      | inr odd ↦ (let now : (length (first ∷ earlier) % 2 == 1) ≡ true = eq-eqb _ _ (omega arith) in let next : (length (item ∷ first ∷ earlier) % 2 == 1) ≡ false = ne_eqb _ _ (omega arith) in rw (now, next) refl)
    ]

step_by : (t : Tag) (item : ItemValue) (before : List ItemValue) → tag item ≡ t
    → without_partner (since_main (item ∷ before)) ≡ still_unpaired t item (without_partner (since_main before))
step_by (Main m) item before e = rw e refl
step_by (Global g) item before e = rw e (rw e refl)
step_by (Local Usage) item before e = rw e (rw e refl)
step_by (Local UsageMinimum) item before e = rw e (rw e (one_half item (halves (since_main before))))
step_by (Local UsageMaximum) item before e = rw e (rw e (one_half item (halves (since_main before))))
step_by (Local Delimiter) item before e = rw e (rw e refl)
step_by Skipped item before e = rw e (rw e refl)

pub unpaired_step : (item : ItemValue) (before : List ItemValue) → unpaired (item ∷ before) ≡ still_unpaired (tag item) item (unpaired before)
unfolding unpaired
unpaired_step item before = step_by (tag item) item before refl

-- the usages, by the latest item
abbrev pub with_usages : ℕ → Tag → ItemValue → Option ItemValue → List (ℕ × ℕ) → List (ℕ × ℕ)
with_usages page (Main m) item half earlier = []
with_usages page t item half earlier = earlier ++ range_made page t item half

usages_by : (page : ℕ) (t : Tag) (item : ItemValue) (before : List ItemValue) → tag item ≡ t
    → ranges_made page (since_main (item ∷ before)) ≡ with_usages page t item (without_partner (since_main before)) (ranges_made page (since_main before))
usages_by page t item before h1 = grind (arith, common_steps)

pub usages_step : (page : ℕ) (item : ItemValue) (before : List ItemValue)
    → usages_since_main page (item ∷ before) ≡ with_usages page (tag item) item (unpaired before) (usages_since_main page before)
unfolding unpaired usages_since_main
usages_step page item before = usages_by page (tag item) item before refl

-- ---- what the parser keeps of them

pub refine_new : (locals : Locals) → locals.half ≡ None → locals.usages.items ≡ [] → LocalsRefine [] locals
unfolding unpaired usages_since_main
refine_new locals h u = record { half = h; usages = λ page. ap (map (range_on page)) u }

ended : (t : Tag) (item : ItemValue) (half : Option ItemValue) (page : ℕ) (earlier : List (ℕ × ℕ)) → is_main t ≡ true
    → (still_unpaired t item half ≡ None) × (with_usages page t item half earlier ≡ [])
ended t item half page earlier h1 = grind (arith, common_steps)

-- a Main item ends them
pub refine_main : (before : List ItemValue) (item : ItemValue) (locals : Locals) → is_main (tag item) ≡ true
    → locals.half ≡ None → locals.usages.items ≡ [] → LocalsRefine (item ∷ before) locals
refine_main before item locals m h u = record {
  half = h ∙ sym (ap (option_map half_of) (unpaired_step item before ∙ (ended (tag item) item (unpaired before) 0 [] m).0));
  usages = λ page. ap (map (range_on page)) u ∙ sym (usages_step page item before ∙ (ended (tag item) item (unpaired before) page (usages_since_main page before) m).1);
}

-- no Main item, Usage, Usage Minimum or Usage Maximum
abbrev pub is_silent : Tag → Bool
is_silent (Global g) = true
is_silent (Local Delimiter) = true
is_silent Skipped = true
is_silent _ = false

silent : (t : Tag) (item : ItemValue) (half : Option ItemValue) (page : ℕ) (earlier : List (ℕ × ℕ)) → is_silent t ≡ true
    → (still_unpaired t item half ≡ half) × (with_usages page t item half earlier ≡ earlier)
silent t item half page earlier h1 = grind (arith, common_steps)

pub refine_silent : (before : List ItemValue) (item : ItemValue) (locals : Locals) → is_silent (tag item) ≡ true
    → LocalsRefine before locals → LocalsRefine (item ∷ before) locals
refine_silent before item locals m s = record {
  half = s.half ∙ sym (ap (option_map half_of) (unpaired_step item before ∙ (silent (tag item) item (unpaired before) 0 [] m).0));
  usages = λ page. s.usages page ∙ sym (usages_step page item before ∙ (silent (tag item) item (unpaired before) page (usages_since_main page before) m).1);
}

-- one range more, on any page
more_ranges : (page : ℕ) (old new : List UsageRange) (range : UsageRange) (earlier : List (ℕ × ℕ)) (a b : ℕ) → new ≡ old ++ range ∷ []
    → map (range_on page) old ≡ earlier → usage_on page range.first ≡ a → usage_on page range.last ≡ b
    → map (range_on page) new ≡ earlier ++ (a, b) ∷ []
more_ranges page old new range earlier a b e m f g = ap (map (range_on page)) e ∙ map-append (range_on page) old (range ∷ []) ∙ rw (m, f, g) refl

pub refine_usage : (before : List ItemValue) (item : ItemValue) (old new : Locals) → tag item ≡ Local Usage
    → new.half ≡ old.half → new.usages.items ≡ old.usages.items ++ record { first = usage_of item.bytes; last = usage_of item.bytes } ∷ []
    → LocalsRefine before old → LocalsRefine (item ∷ before) new
refine_usage before item old new e h u s = record {
  half = h ∙ s.half ∙ (rw (unpaired_step item before, e) refl);
  usages = λ page. more_ranges page _ _ _ _ _ _ u (s.usages page) (number_on page item.bytes) (number_on page item.bytes) ∙ (rw (usages_step page item before, e) refl);
}

-- a Minimum or Maximum
pub refine_half : (before : List ItemValue) (item : ItemValue) (minimum : Bool) (half : Option ItemValue) (old new : Locals)
    → tag item ≡ Local (cond minimum UsageMinimum UsageMaximum) → unpaired before ≡ half
    → TakesHalf minimum (usage_of item.bytes) old new → LocalsRefine before old → LocalsRefine (item ∷ before) new
refine_half before item true None old new e h t s =
    let none : old.half ≡ None = s.half ∙ ap (option_map half_of) h in
    let took : TakesHalfAt None true (usage_of item.bytes) old new = rw none at t in record {
      half = took.0 ∙ (rw (unpaired_step item before, e, h) (rw e refl));
      usages = λ page. ap (map (range_on page)) took.1 ∙ s.usages page ∙ (rw (usages_step page item before, e, h) (sym (append-nil (usages_since_main page before))));
    }
refine_half before item false None old new e h t s =
    let none : old.half ≡ None = s.half ∙ ap (option_map half_of) h in
    let took : TakesHalfAt None false (usage_of item.bytes) old new = rw none at t in record {
      half = took.0 ∙ (rw (unpaired_step item before, e, h) (rw e refl));
      usages = λ page. ap (map (range_on page)) took.1 ∙ s.usages page ∙ (rw (usages_step page item before, e, h) (sym (append-nil (usages_since_main page before))));
    }
refine_half before item true (Some other) old new e h t s =
    let some : old.half ≡ Some (half_of other) = s.half ∙ ap (option_map half_of) h in
    let took : TakesHalfAt (Some (half_of other)) true (usage_of item.bytes) old new = rw some at t in record {
      half = took.0 ∙ (rw (unpaired_step item before, e, h) refl);
      usages = λ page. more_ranges page _ _ _ _ _ _ took.1 (s.usages page) (number_on page item.bytes) (number_on page other.bytes) ∙ (rw (usages_step page item before, e, h) refl);
    }
refine_half before item false (Some other) old new e h t s =
    let some : old.half ≡ Some (half_of other) = s.half ∙ ap (option_map half_of) h in
    let took : TakesHalfAt (Some (half_of other)) false (usage_of item.bytes) old new = rw some at t in record {
      half = took.0 ∙ (rw (unpaired_step item before, e, h) refl);
      usages = λ page. more_ranges page _ _ _ _ _ _ took.1 (s.usages page) (number_on page other.bytes) (number_on page item.bytes) ∙ (rw (usages_step page item before, e, h) refl);
    }
