-- The fields of one report among all.
use Rattle.std.proofs.lemmas.Grind.{common_steps}
use Rattle.std.proofs.Common.{◌≡◌, ℕ, zero, suc, ◌+◌, ◌<◌, ◌≤◌, List, [], ◌∷◌, length, length-drop, take, drop, get_or, arith, refl, sym, ◌∙◌, ap, inl, inr, true, false}
use Rattle.std.specs.Prelude.{pos, ◌-◌, ◌==◌, if◌then◌else◌, filter, zip, min, slice_index, slice_get, unwrap_or}
use Rattle.std.proofs.lemmas.Bool.{cases_Bool, and_parts, eqb-true}
use Rattle.std.proofs.lemmas.Option.{unwrap_or-slice_get}
use Rattle.std.proofs.lemmas.List.{drop_more, drop_all, get_or-map, length-map}
use Rattle.std.proofs.lemmas.Slice.Zip.{get_or-zip, length-zip}
use Rattle.descriptor_parse.specs.declared.field.Kind.{Kind}
use Rattle.descriptor_parse.specs.declared.field.Field.{Field}
use Rattle.descriptor_parse.specs.declared.reports.Link.{Link}
use Rattle.descriptor_parse.specs.Tags.{same_kind}
use Rattle.descriptor_parse.specs.representation.Parts.{parts}
use Rattle.descriptor_parse.specs.Counts.{AreCounts}
use Rattle.descriptor_parse.specs.representation.CountsRefine.{RefineTogether}
use Rattle.descriptor_parse.specs.Readers.{is_of_report}
use Rattle.descriptor_parse.specs.representation.Linked.{ends_of, first_from, AreLinked}
use Rattle.descriptor_parse.specs.representation.FieldsLeft.{fields_left, IsNext}
use Rattle.descriptor_parse.proofs.PartLemmas.{field_part, no_field_part, field_ends, length_parts}
use Rattle.descriptor_parse.proofs.CountLemmas.{field_counts, no_field_counts}
use Rattle.descriptor_parse.proofs.LinkLemmas.{first_none, first_cons, drop_next, lands, next_is_of, next_at}

drop_zip : (place : ℕ) (fields : List Field) (ranges : List (List (ℕ × ℕ))) → length fields ≡ length ranges → drop place (zip fields ranges) ≡ zip (drop place fields) (drop place ranges)
drop_zip zero fields ranges e = refl
drop_zip (suc place) [] ranges e = refl
drop_zip (suc place) (field ∷ fields) [] e = absurd (omega arith)
drop_zip (suc place) (field ∷ fields) (range ∷ ranges) e = drop_zip place fields ranges (omega arith)

filter_yes : (kind : Kind) (id : ℕ) (field : Field) (ranges : List (ℕ × ℕ)) (more : List (Field × List (ℕ × ℕ))) → is_of_report kind id field ≡ true
    → filter (λ p. is_of_report kind id p.0) ((field, ranges) ∷ more) ≡ (field, ranges) ∷ filter (λ p. is_of_report kind id p.0) more
filter_yes kind id field ranges more e = rw e refl

filter_no : (kind : Kind) (id : ℕ) (field : Field) (ranges : List (ℕ × ℕ)) (more : List (Field × List (ℕ × ℕ))) → is_of_report kind id field ≡ false
    → filter (λ p. is_of_report kind id p.0) ((field, ranges) ∷ more) ≡ filter (λ p. is_of_report kind id p.0) more
filter_no kind id field ranges more e = rw e refl

-- No field of the report is passed over.
skip_to : (kind : Kind) (id place : ℕ) (fields : List Field) (ranges : List (List (ℕ × ℕ))) (all : List (Field × List (ℕ × ℕ)))
    → drop place all ≡ zip fields ranges → length fields ≡ length ranges → length all ≤ 65535
    → filter (λ p. is_of_report kind id p.0) (drop (first_from kind id place fields) all) ≡ filter (λ p. is_of_report kind id p.0) (zip fields ranges)
skip_to kind id place [] ranges all e l s = ap (λ n. filter (λ p. is_of_report kind id p.0) (drop n all)) (first_none kind id place [] refl) ∙ ap (filter (λ p. is_of_report kind id p.0)) (drop_all 65535 all s)
skip_to kind id place (field ∷ fields) [] all e l s = absurd (omega arith)
skip_to kind id place (field ∷ fields) (part ∷ ranges) all e l s = elim (cases_Bool (is_of_report kind id field)) [
  | inl of_it ↦ (let here : first_from kind id place (field ∷ fields) ≡ place = first_cons kind id place field fields ∙ (rw of_it refl) in
      ap (λ n. filter (λ p. is_of_report kind id p.0) (drop n all)) here ∙ ap (filter (λ p. is_of_report kind id p.0)) e)
  | inr other ↦ (let there : first_from kind id place (field ∷ fields) ≡ first_from kind id (place + 1) fields = first_cons kind id place field fields ∙ (rw other refl) in
      ap (λ n. filter (λ p. is_of_report kind id p.0) (drop n all)) there
      ∙ skip_to kind id (place + 1) fields ranges all (drop_next all place (field, part) (zip fields ranges) e) (omega arith) s
      ∙ sym (filter_no kind id field part (zip fields ranges) other))
]

zip_length : (fields : List Field) (ranges : List (List (ℕ × ℕ))) → length ranges ≡ length fields → length (zip fields ranges) ≡ length fields
zip_length fields ranges e = let both : length (zip fields ranges) ≡ min (length fields) (length ranges) = length-zip fields ranges in omega arith

pub kinds_equal : (a b : Kind) → same_kind a b ≡ true → a ≡ b
kinds_equal a b h1 = grind (arith, common_steps)

parts_many : (links : List Link) (fields : List Field) (ranges : List (ℕ × ℕ)) → length links ≡ length fields → length (parts (ends_of links) ranges) ≡ length fields
parts_many links fields ranges e =
    let ends : length (ends_of links) ≡ length links = length-map links (λ (x : Link). x.end) in
    let all : length (parts (ends_of links) ranges) ≡ length (ends_of links) = length_parts 0 (ends_of links) ranges in omega arith

-- all fields of the report are left from its first on
pub left_all : (kind : Kind) (id first : ℕ) (fields : List Field) (links : List Link) (ranges : List (ℕ × ℕ)) → AreLinked fields links → first ≡ first_from kind id 0 fields
    → fields_left kind id first fields (ends_of links) ranges ≡ filter (λ p. is_of_report kind id p.0) (zip fields (parts (ends_of links) ranges))
left_all kind id first fields links ranges a e =
    let many : length (parts (ends_of links) ranges) ≡ length fields = parts_many links fields ranges a.as_many in
    let few : length fields ≤ 256 = a.few in
    let long : length (zip fields (parts (ends_of links) ranges)) ≡ length fields = zip_length fields (parts (ends_of links) ranges) many in
    ap (λ n. fields_left kind id n fields (ends_of links) ranges) e ∙ skip_to kind id 0 fields (parts (ends_of links) ranges) (zip fields (parts (ends_of links) ranges)) refl (sym many) (omega arith)

pub first_is_next : (kind : Kind) (id first : ℕ) (fields : List Field) (links : List Link) → AreLinked fields links → first ≡ first_from kind id 0 fields → IsNext kind id first fields
first_is_next kind id first fields links a e = let few : length fields ≤ 256 = a.few in rw e (lands kind id 0 fields fields refl (omega arith))

-- none is left past the last field
pub left_none : (kind : Kind) (id place : ℕ) (fields : List Field) (links : List Link) (ranges : List (ℕ × ℕ)) → AreLinked fields links → length links ≤ place
    → fields_left kind id place fields (ends_of links) ranges ≡ []
left_none kind id place fields links ranges a l =
    let many : length (parts (ends_of links) ranges) ≡ length fields = parts_many links fields ranges a.as_many in
    let same : length links ≡ length fields = a.as_many in
    let long : length (zip fields (parts (ends_of links) ranges)) ≡ length fields = zip_length fields (parts (ends_of links) ranges) many in
    ap (filter (λ p. is_of_report kind id p.0)) (drop_all place (zip fields (parts (ends_of links) ranges)) (omega arith))

pub next_follows : (kind : Kind) (id place : ℕ) (fields : List Field) (links : List Link) (d : Field) (link : Link) → AreLinked fields links → IsNext kind id place fields
    → place < length links → link ≡ get_or links place link → link.next ≡ first_from kind id (place + 1) (drop (place + 1) fields)
next_follows kind id place fields links d link a n l e =
    let same : length links ≡ length fields = a.as_many in
    let within : place < length fields = omega arith in
    let of_it = next_is_of kind id place fields d n within a.few in
    let k : (get_or fields place d).kind ≡ kind = kinds_equal _ _ (and_parts _ _ of_it).0 in
    let i : (get_or fields place d).id ≡ id = eqb-true _ _ (and_parts _ _ of_it).1 in
    next_at fields links place d link a within e ∙ ap (λ x. first_from x (get_or fields place d).id (place + 1) (drop (place + 1) fields)) k
    ∙ ap (λ x. first_from kind x (place + 1) (drop (place + 1) fields)) i

-- the next field of the report, and those that are left after it
pub left_more : (kind : Kind) (id place start : ℕ) (fields : List Field) (links : List Link) (ranges part : List (ℕ × ℕ)) (d : Field) (link : Link)
    → AreLinked fields links → IsNext kind id place fields → place < length links → link ≡ get_or links place link
    → start ≡ (if place == 0 then 0 else slice_index (ends_of links) (place - 1)) → part ≡ drop start (take link.end ranges)
    → fields_left kind id place fields (ends_of links) ranges ≡ (get_or fields place d, part) ∷ fields_left kind id link.next fields (ends_of links) ranges
left_more kind id place start fields links ranges part d link a n l e s p =
    let all = zip fields (parts (ends_of links) ranges) in
    let many : length (parts (ends_of links) ranges) ≡ length fields = parts_many links fields ranges a.as_many in
    let same : length links ≡ length fields = a.as_many in
    let few : length fields ≤ 256 = a.few in
    let ends : length (ends_of links) ≡ length links = length-map links (λ (x : Link). x.end) in
    let long : length all ≡ length fields = zip_length fields (parts (ends_of links) ranges) many in
    let of_it = next_is_of kind id place fields d n (omega arith) few in
    let end : link.end ≡ get_or (ends_of links) place link.end = ap (λ (x : Link). x.end) e ∙ sym (get_or-map (λ (x : Link). x.end) links place link link.end l) in
    let here : part ≡ get_or (parts (ends_of links) ranges) place [] = p ∙ field_part (ends_of links) ranges place start link.end (omega arith) end s ∙ unwrap_or-slice_get (parts (ends_of links) ranges) place [] in
    let front : get_or all place (d, []) ≡ (get_or fields place d, part) = get_or-zip fields (parts (ends_of links) ranges) place (d, []) (omega arith) (omega arith) ∙ ap (λ x. (get_or fields place d, x)) (sym here) in
    let rest : drop (place + 1) all ≡ zip (drop (place + 1) fields) (drop (place + 1) (parts (ends_of links) ranges)) = drop_zip (place + 1) fields (parts (ends_of links) ranges) (sym many) in
    let skipped : filter (λ q. is_of_report kind id q.0) (drop link.next all) ≡ filter (λ q. is_of_report kind id q.0) (drop (place + 1) all) =
    ap (λ n. filter (λ q. is_of_report kind id q.0) (drop n all)) (next_follows kind id place fields links d link a n l e)
    ∙ skip_to kind id (place + 1) (drop (place + 1) fields) (drop (place + 1) (parts (ends_of links) ranges)) all rest
    (omega (arith, length-drop (place + 1) fields, length-drop (place + 1) (parts (ends_of links) ranges))) (omega arith)
    ∙ ap (filter (λ q. is_of_report kind id q.0)) (sym rest) in
    ap (filter (λ q. is_of_report kind id q.0)) (drop_more all place (d, []) (omega arith) ∙ ap (λ x. x ∷ drop (place + 1) all) front)
    ∙ filter_yes kind id (get_or fields place d) part (drop (place + 1) all) of_it ∙ ap (λ xs. (get_or fields place d, part) ∷ xs) (sym skipped)

pub next_is_next : (kind : Kind) (id place : ℕ) (fields : List Field) (links : List Link) (d : Field) (link : Link) → AreLinked fields links → IsNext kind id place fields
    → place < length links → link ≡ get_or links place link → IsNext kind id link.next fields
next_is_next kind id place fields links d link a n l e =
    let few : length fields ≤ 256 = a.few in
    rw (next_follows kind id place fields links d link a n l e) (lands kind id (place + 1) (drop (place + 1) fields) fields refl (omega arith))

-- ---- the usages of a field and their counts, by its link

end_at : (links : List Link) (place d : ℕ) (link : Link) → place < length links → link ≡ get_or links place link → link.end ≡ get_or (ends_of links) place d
end_at links place d link l e = ap (λ (x : Link). x.end) e ∙ sym (get_or-map (λ (x : Link). x.end) links place link d l)

pub link_part : (links : List Link) (ranges : List (ℕ × ℕ)) (place start : ℕ) (link : Link) → place < length links → link ≡ get_or links place link
    → start ≡ (if place == 0 then 0 else slice_index (ends_of links) (place - 1))
    → drop start (take link.end ranges) ≡ unwrap_or (slice_get (parts (ends_of links) ranges) place) []
link_part links ranges place start link l e s =
    field_part (ends_of links) ranges place start link.end (omega (arith, length-map links (λ (x : Link). x.end))) (end_at links place link.end link l e) s

pub no_link_part : (links : List Link) (ranges : List (ℕ × ℕ)) (place : ℕ) → length links ≤ place → [] ≡ unwrap_or (slice_get (parts (ends_of links) ranges) place) []
no_link_part links ranges place l = no_field_part (ends_of links) ranges place (omega (arith, length-map links (λ (x : Link). x.end)))

pub link_counts : (links : List Link) (ranges : List (ℕ × ℕ)) (counts : List ℕ) (place start : ℕ) (link : Link) → place < length links → link ≡ get_or links place link
    → start ≡ (if place == 0 then 0 else slice_index (ends_of links) (place - 1)) → RefineTogether 0 (ends_of links) ranges counts
    → AreCounts (unwrap_or (slice_get (parts (ends_of links) ranges) place) []) (drop start (take link.end counts))
link_counts links ranges counts place start link l e s k =
    field_counts (ends_of links) ranges counts place start link.end (omega (arith, length-map links (λ (x : Link). x.end))) (end_at links place link.end link l e) s k.counted

pub no_link_counts : (links : List Link) (ranges : List (ℕ × ℕ)) (place : ℕ) → length links ≤ place → AreCounts (unwrap_or (slice_get (parts (ends_of links) ranges) place) []) []
no_link_counts links ranges place l = no_field_counts (ends_of links) ranges place (omega (arith, length-map links (λ (x : Link). x.end)))

-- a field's usages and their counts among all
pub record LinkRefines (start end : ℕ) (ranges : List (ℕ × ℕ)) (counts : List ℕ) : Type 0 where
  pub order : start ≤ end
  pub within : end ≤ length ranges
  pub within_counts : end ≤ length counts
  pub counted : AreCounts (drop start (take end ranges)) (drop start (take end counts))

pub link_refines : (links : List Link) (ranges : List (ℕ × ℕ)) (counts : List ℕ) (place start : ℕ) (link : Link) → place < length links → link ≡ get_or links place link
    → start ≡ (if place == 0 then 0 else slice_index (ends_of links) (place - 1)) → RefineTogether 0 (ends_of links) ranges counts → LinkRefines start link.end ranges counts
link_refines links ranges counts place start link l e s k =
    let long : length (ends_of links) ≡ length links = length-map links (λ (x : Link). x.end) in
    let both = field_ends (ends_of links) (length ranges) place start link.end link.end k.rising (omega arith) (end_at links place link.end link l e) s in
    let within : link.end ≤ length ranges = both.1 in
    record {
      order = both.0;
      within = within;
      within_counts = omega (arith, k.as_many);
      counted = rw (link_part links ranges place start link l e s) (link_counts links ranges counts place start link l e s k);
    }

-- what stands where there is no field
abbrev pub any_field : Field
any_field = record { kind = Kind.Input; id = 0; bit = 0; size = 0; count = 0; min = pos 0; max = pos 0; array = false }
