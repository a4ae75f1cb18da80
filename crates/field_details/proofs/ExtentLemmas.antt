-- What an item changes in the extents and the unit of those after it.
use Rattle.std.proofs.Common.{◌≡◌, ℕ, ◌-◌, ◌%◌, List, ◌∷◌, refl, sym, ◌∙◌, ap, ◌⊎◌, false, inl, inr}
use Rattle.std.proofs.lemmas.Bool.{cases_Bool, eqb-true}
use Rattle.std.specs.Prelude.{◌==◌}
use Rattle.descriptor_parse.specs.declared.tag.Tag.{Tag}
use Rattle.descriptor_parse.specs.declared.tag.Tag.TheVariants.{Global, Skipped}
use Rattle.descriptor_parse.specs.declared.tag.GlobalTag.TheVariants.{Push}
use Rattle.descriptor_parse.specs.Items.{ItemValue}
use Rattle.descriptor_parse.specs.Tags.{tag, tag_of, main_or_other, global_or_other, local_or_other, is_push, is_pop}
use Rattle.descriptor_parse.specs.Globals.{in_force}
use Rattle.descriptor_parse.specs.declared.stack.Stack.{Stack}
use Rattle.descriptor_parse.specs.representation.StackRefines.{StackRefines}
use Rattle.descriptor_parse.proofs.StackLemmas.{refine_more}
use Rattle.field_details.specs.declared.extents.Extents.{Extents}
use Rattle.field_details.specs.Extents.{is_with}
use Rattle.field_details.specs.representation.Relation.{extents_by, extents_of}

-- ---- the prefixes that the parser of fields skips

abbrev pub tag_from : ℕ → Tag
tag_from p = main_or_other p (global_or_other p (local_or_other p Skipped))

tag_at : (prefix p : ℕ) → prefix - prefix % 4 ≡ p → tag_of prefix ≡ tag_from p
unfolding tag_of
tag_at prefix p e = rw e refl

-- an item that is not skipped has none of them
pub is_other : (p : ℕ) (item : ItemValue) (t : Tag) → tag_from p ≡ Skipped → tag item ≡ t → (t ≡ Skipped → ⊥) → is_with p item ≡ false
is_other p item t s e n =
    elim (cases_Bool (is_with p item)) [
      | inl w ↦ absurd (n (sym e ∙ tag_at item.prefix p (eqb-true _ _ w) ∙ s))
      | inr w ↦ w
    ]

record IsOther (item : ItemValue) : Type 0 where
  physical_min : is_with 52 item ≡ false
  physical_max : is_with 68 item ≡ false
  exponent : is_with 84 item ≡ false
  unit : is_with 100 item ≡ false

other : (item : ItemValue) (t : Tag) → tag item ≡ t → (t ≡ Skipped → ⊥) → IsOther item
other item t e n = record {
  physical_min = is_other 52 item t refl e n;
  physical_max = is_other 68 item t refl e n;
  exponent = is_other 84 item t refl e n;
  unit = is_other 100 item t refl e n;
}

-- ---- the values of the latest items

-- no other item changes them
extents_same : (item : ItemValue) (items : List ItemValue) → IsOther item → extents_of (item ∷ items) ≡ extents_of items
extents_same item items o = rw (o.physical_min, o.physical_max, o.exponent, o.unit) refl

pub extents_push : (item : ItemValue) (items : List ItemValue) → tag item ≡ Global Push → extents_of (item ∷ items) ≡ extents_of items
extents_push item items e = extents_same item items (other item (Global Push) e (λ no. cc))

skipped_one : (p : ℕ) → (p ≡ 52) ⊎ (p ≡ 68) ⊎ (p ≡ 84) ⊎ (p ≡ 100) → (item : ItemValue) (items : List ItemValue) → item.prefix - item.prefix % 4 ≡ p
    → extents_by p item.bytes (extents_of items) ≡ extents_of (item ∷ items)
skipped_one p one item items q = elim one [
  | inl w ↦ (let q' : item.prefix - item.prefix % 4 ≡ 52 = q ∙ w in rw (w, q') refl)
  | inr more ↦ (elim more [
    | inl w ↦ (let q' : item.prefix - item.prefix % 4 ≡ 68 = q ∙ w in rw (w, q') refl)
    | inr rest ↦ (elim rest [
      | inl w ↦ (let q' : item.prefix - item.prefix % 4 ≡ 84 = q ∙ w in rw (w, q') refl)
      | inr w ↦ (let q' : item.prefix - item.prefix % 4 ≡ 100 = q ∙ w in rw (w, q') refl)
    ])
  ])
]

extents_skipped : (item : ItemValue) (items : List ItemValue)
    → extents_by (item.prefix - item.prefix % 4) item.bytes (extents_of items) ≡ extents_of (item ∷ items)
extents_skipped item items =
    let p = item.prefix - item.prefix % 4 in
    elim (cases_Bool (p == 52)) [
      | inl w ↦ skipped_one p (inl (eqb-true _ _ w)) item items refl
      | inr a ↦ (elim (cases_Bool (p == 68)) [
        | inl w ↦ skipped_one p (inr (inl (eqb-true _ _ w))) item items refl
        | inr b ↦ (elim (cases_Bool (p == 84)) [
          | inl w ↦ skipped_one p (inr (inr (inl (eqb-true _ _ w)))) item items refl
          | inr c ↦ (elim (cases_Bool (p == 100)) [
            | inl w ↦ skipped_one p (inr (inr (inr (eqb-true _ _ w)))) item items refl
            | inr d ↦ rw (a, b, c, d) refl
          ])
        ])
      ])
    ]

-- ---- what an item changes

-- an item that is not skipped, other than Push and Pop, leaves them
pub refine_known : (before : List ItemValue) (item : ItemValue) (t : Tag) (extents : Stack Extents) → tag item ≡ t → (t ≡ Skipped → ⊥)
    → is_push t ≡ false → is_pop t ≡ false → StackRefines extents_of before extents → StackRefines extents_of (item ∷ before) extents
refine_known before item t extents e known push pop s =
    refine_more extents_of before item extents extents (ap is_push e ∙ push) (ap is_pop e ∙ pop)
    (s.now ∙ sym (extents_same item (in_force before) (other item t e known))) refl s

pub refine_skipped : (before : List ItemValue) (item : ItemValue) (old new : Stack Extents) → tag item ≡ Skipped
    → new.now ≡ extents_by (item.prefix - item.prefix % 4) item.bytes old.now → new.saved.items ≡ old.saved.items
    → StackRefines extents_of before old → StackRefines extents_of (item ∷ before) new
refine_skipped before item old new e set rest s =
    refine_more extents_of before item old new (ap is_push e) (ap is_pop e)
    (set ∙ ap (extents_by (item.prefix - item.prefix % 4) item.bytes) s.now ∙ extents_skipped item (in_force before)) rest s
