-- The chain of each report's fields.
use Rattle.std.proofs.Common.{◌≡◌, ℕ, ◌+◌, ◌<◌, ◌≤◌, List, [], ◌∷◌, length, length-drop, drop, set, get_or, arith, refl, sym, ◌∙◌, ap, inl, inr, true}
use Rattle.std.specs.Prelude.{All, if◌then◌else◌, slice_index}
use Rattle.std.proofs.lemmas.Bool.{cases_eq, cases_Bool}
use Rattle.std.proofs.lemmas.List.{drop_more, drop_all, drop-drop, get_or-map, get_or-set_other, map-set, length-map}
use Rattle.std.proofs.lemmas.Grind.{get_or-set_at}
use Rattle.descriptor_parse.specs.declared.field.Kind.{Kind}
use Rattle.descriptor_parse.specs.declared.field.Field.{Field}
use Rattle.descriptor_parse.specs.declared.reports.Link.{Link}
use Rattle.descriptor_parse.specs.declared.totals.Totals.{Totals}
use Rattle.descriptor_parse.specs.Readers.{is_of_report}
use Rattle.descriptor_parse.specs.representation.Totals.{first_in, no_field}
use Rattle.descriptor_parse.specs.representation.Linked.{nexts_of, first_from, HaveNext, AreLinked, HasFirst}
use Rattle.descriptor_parse.specs.representation.FieldsLeft.{IsNext}

-- ---- a report's first field from a place on

pub first_none : (kind : Kind) (id place : ℕ) (fields : List Field) → fields ≡ [] → first_from kind id place fields ≡ no_field
unfolding first_from
first_none kind id place fields e = rw e refl

pub first_cons : (kind : Kind) (id place : ℕ) (field : Field) (more : List Field)
    → first_from kind id place (field ∷ more) ≡ (if is_of_report kind id field then place else first_from kind id (place + 1) more)
unfolding first_from
first_cons kind id place field more = refl

pub first_step : (kind : Kind) (id place : ℕ) (fields : List Field) (d : Field) → place < length fields
    → first_from kind id place (drop place fields) ≡ (if is_of_report kind id (get_or fields place d) then place else first_from kind id (place + 1) (drop (place + 1) fields))
first_step kind id place fields d l = ap (first_from kind id place) (drop_more fields place d l) ∙ first_cons kind id place (get_or fields place d) (drop (place + 1) fields)

-- it is not before that place
pub first_least : (kind : Kind) (id place : ℕ) (fields : List Field) → place + length fields ≤ 65535 → place ≤ first_from kind id place fields
first_least kind id place [] l = let none : first_from kind id place [] ≡ no_field = first_none kind id place [] refl in omega arith
first_least kind id place (field ∷ more) l = elim (cases_Bool (is_of_report kind id field)) [
  | inl of_it ↦ (let here : first_from kind id place (field ∷ more) ≡ place = first_cons kind id place field more ∙ (rw of_it refl) in omega arith)
  | inr other ↦ (let later : place + 1 ≤ first_from kind id (place + 1) more = first_least kind id (place + 1) more (omega arith) in
      let there : first_from kind id place (field ∷ more) ≡ first_from kind id (place + 1) more = first_cons kind id place field more ∙ (rw other refl) in omega arith)
]

pub drop_next : {X : Type 0} → (xs : List X) (place : ℕ) (x : X) (more : List X) → drop place xs ≡ x ∷ more → drop (place + 1) xs ≡ more
drop_next xs place x more e = sym (drop-drop 1 place xs) ∙ ap (drop 1) e

-- a report's first field from a place on is its next field
pub lands : (kind : Kind) (id place : ℕ) (fields all : List Field) → drop place all ≡ fields → length all ≤ 65535 → IsNext kind id (first_from kind id place fields) all
lands kind id place [] all e s =
    let none : first_from kind id place [] ≡ no_field = first_none kind id place [] refl in
    rw none (first_none kind id no_field (drop no_field all) (drop_all no_field all s))
lands kind id place (field ∷ more) all e s = elim (cases_Bool (is_of_report kind id field)) [
  | inl of_it ↦ (let here : first_from kind id place (field ∷ more) ≡ place = first_cons kind id place field more ∙ (rw of_it refl) in
      rw here (ap (first_from kind id place) e ∙ here))
  | inr other ↦ (let there : first_from kind id place (field ∷ more) ≡ first_from kind id (place + 1) more = first_cons kind id place field more ∙ (rw other refl) in
      rw there (lands kind id (place + 1) more all (drop_next all place field more e) s))
]

-- the next field is of the report
pub next_is_of : (kind : Kind) (id place : ℕ) (fields : List Field) (d : Field) → IsNext kind id place fields → place < length fields → length fields ≤ 256
    → is_of_report kind id (get_or fields place d) ≡ true
next_is_of kind id place fields d n l few = elim (cases_Bool (is_of_report kind id (get_or fields place d))) [
  | inl of_it ↦ of_it
  | inr other ↦ (let later : first_from kind id place (drop place fields) ≡ first_from kind id (place + 1) (drop (place + 1) fields) = first_step kind id place fields d l ∙ (rw other refl) in
      let least : place + 1 ≤ first_from kind id (place + 1) (drop (place + 1) fields) = first_least kind id (place + 1) (drop (place + 1) fields) (omega (arith, length-drop (place + 1) fields)) in
      let at : first_from kind id place (drop place fields) ≡ place = n in
      absurd (omega arith))
]

-- ---- the chain grows to the front

cons_head : (x y : Field) (xs ys : List Field) → x ∷ xs ≡ y ∷ ys → x ≡ y
cons_head x y xs ys e = cc

cons_tail : (x y : Field) (xs ys : List Field) → x ∷ xs ≡ y ∷ ys → xs ≡ ys
cons_tail x y xs ys e = cc

pub no_nexts : (fields : List Field) (links : List Link) (place : ℕ) → length fields ≤ place → HaveNext place fields links
no_nexts fields links place past = λ i field more l e. absurd (let none : drop i fields ≡ [] = drop_all i fields (omega arith) in cc)

pub all_first : (totals : Totals) (fields : List Field) (place : ℕ) → length fields ≤ place → ((kind : Kind) (id : ℕ) → first_in totals kind id ≡ no_field)
    → HasFirst totals place (drop place fields)
all_first totals fields place past none = λ kind id. none kind id ∙ sym (first_none kind id place (drop place fields) (drop_all place fields past))

pub nexts_more : (fields : List Field) (links : List Link) (place after : ℕ) (with : Link) (field : Field) → after ≡ place + 1 → place < length fields → place < length links
    → field ≡ get_or fields place field → HaveNext after fields links → with.next ≡ first_from field.kind field.id after (drop after fields) → HaveNext place fields (set links place with)
nexts_more fields links place after with field a l m f h w = λ i other more p e.
    let whole : nexts_of (set links place with) ≡ set (nexts_of links) place with.next = map-set (λ (x : Link). x.next) links place with in
    let long : length (nexts_of links) ≡ length links = length-map links (λ (x : Link). x.next) in
    (elim (cases_eq i place) [
      | inl same ↦ (let split : get_or fields place field ∷ drop (place + 1) fields ≡ other ∷ more = sym (drop_more fields place field l) ∙ ap (λ n. drop n fields) (sym same) ∙ e in
          let head : field ≡ other = f ∙ cons_head _ _ _ _ split in
          let tail : drop after fields ≡ more = ap (λ n. drop n fields) a ∙ cons_tail _ _ _ _ split in
          let on : after ≡ i + 1 = omega arith in
          ap (λ xs. slice_index xs i) whole ∙ get_or-set_at (nexts_of links) place i with.next 0 same (omega arith) ∙ w
          ∙ ap (λ (x : Field). first_from x.kind x.id after (drop after fields)) head ∙ ap (first_from other.kind other.id after) tail ∙ ap (λ n. first_from other.kind other.id n more) on)
      | inr apart ↦ ap (λ xs. slice_index xs i) whole ∙ get_or-set_other (nexts_of links) place i with.next 0 apart ∙ h i other more (omega arith) e
    ])

pub first_more : (old new : Totals) (fields : List Field) (place after : ℕ) (field : Field) → after ≡ place + 1 → place < length fields → field ≡ get_or fields place field
    → HasFirst old after (drop after fields)
    → ((k : Kind) (i : ℕ) → first_in new k i ≡ (if is_of_report k i field then place else first_in old k i)) → HasFirst new place (drop place fields)
first_more old new fields place after field a l f h w = λ k i.
    w k i ∙ ap (λ n. if is_of_report k i field then place else n) (h k i ∙ ap (λ n. first_from k i n (drop n fields)) a)
    ∙ ap (λ x. if is_of_report k i x then place else first_from k i (place + 1) (drop (place + 1) fields)) f ∙ sym (first_step k i place fields field l)

pub same_place : (fields read : List Field) (field : Field) (place : ℕ) → read ≡ fields → field ≡ get_or read place field → field ≡ get_or fields place field
same_place fields read field place f e = e ∙ ap (λ xs. get_or xs place field) f

pub id_at : (fields : List Field) (field : Field) (place a b : ℕ) → field ≡ get_or fields place field → All (λ f. f.id < a) fields → place < length fields → b ≡ a → field.id < b
id_at fields field place a b f all l e =
    let here : (get_or fields place field).id < a = all place field l in
    let same : field.id ≡ (get_or fields place field).id = ap (λ (x : Field). x.id) f in
    omega arith

pub linked_all : (fields read : List Field) (links : List Link) (place : ℕ) → read ≡ fields → place ≤ 0 → HaveNext place fields links → length fields ≤ 256
    → length links ≡ length fields → AreLinked read links
linked_all fields read links place f z h few many =
    let none : place ≡ 0 = omega arith in
    rw f (record { few = few; as_many = many; nexts = rw none at h })

pub next_at : (fields : List Field) (links : List Link) (place : ℕ) (d : Field) (link : Link) → AreLinked fields links → place < length fields → link ≡ get_or links place link
    → link.next ≡ first_from (get_or fields place d).kind (get_or fields place d).id (place + 1) (drop (place + 1) fields)
next_at fields links place d link a l e =
    ap (λ (x : Link). x.next) e ∙ sym (get_or-map (λ (x : Link). x.next) links place link 0 (omega (arith, a.as_many)))
    ∙ a.nexts place (get_or fields place d) (drop (place + 1) fields) (omega arith) (drop_more fields place d l)
