-- A field has at most as many ranges of usages as items came before it.
use Rattle.std.proofs.lemmas.Grind.{common_steps}
use Rattle.std.proofs.Common.{ℕ, suc, ◌≤◌, List, [], ◌∷◌, length, arith, inl, inr}
use Rattle.std.specs.Prelude.{Option, All}
use Rattle.std.proofs.lemmas.Bool.{cases_Bool}
use Rattle.std.proofs.lemmas.List.Elements.{All-nil, All-push}
use Rattle.descriptor_parse.specs.declared.tag.Tag.{Tag}
use Rattle.descriptor_parse.specs.Items.{ItemValue}
use Rattle.descriptor_parse.specs.Tags.{tag}
use Rattle.descriptor_parse.specs.Globals.{usage_page}
use Rattle.descriptor_parse.specs.Locals.{unpaired, usages_since_main}
use Rattle.descriptor_parse.specs.Fields.{is_field, field_usages}
use Rattle.descriptor_parse.proofs.LocalLemmas.{usages_step, with_usages}

one_with : (page : ℕ) (t : Tag) (item : ItemValue) (half : Option ItemValue) (earlier : List (ℕ × ℕ)) → length (with_usages page t item half earlier) ≤ suc (length earlier)
one_with page t item half earlier = grind (arith, common_steps)

few_since : (page : ℕ) (items : List ItemValue) → length (usages_since_main page items) ≤ length items
unfolding usages_since_main
few_since page [] = omega arith
few_since page (item ∷ before) =
    let older : length (usages_since_main page before) ≤ length before = few_since page before in
    rw (usages_step page item before) (omega (arith, one_with page (tag item) item (unpaired before) (usages_since_main page before)))

abbrev pub HasAtMost : ℕ → List (ℕ × ℕ) → Type 0
HasAtMost n ranges = length ranges ≤ n

pub few_usages : (n : ℕ) (items : List ItemValue) → length items ≤ n → All (HasAtMost n) (field_usages items)
unfolding field_usages
few_usages n [] l = All-nil (HasAtMost n)
few_usages n (item ∷ before) l =
    elim (cases_Bool (is_field before item)) [
      | inl e ↦ rw e (All-push (HasAtMost n) (field_usages before) (usages_since_main (usage_page before) before) (few_usages n before (omega arith)) (omega (arith, few_since (usage_page before) before)))
      | inr e ↦ rw e (few_usages n before (omega arith))
    ]
