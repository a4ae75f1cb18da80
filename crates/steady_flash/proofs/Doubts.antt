-- What is read while a slot is in doubt.
use Rattle.std.proofs.Common.{◌≡◌, ℕ, ◌<◌, Option, Some, None, List, sym, ◌∙◌, ap, ap₂, refl, inl, inr}
use Rattle.std.proofs.lemmas.Bool.Decides.{eqb_tells}
use Rattle.std.proofs.lemmas.Option.{none-some}
use Rattle.flash_model.specs.Image.{slot_at, page_count, IsImage}
use Rattle.flash_model.specs.Operations.{Programs, MayProgram, Erases, MayErase}
use Rattle.flash_model.proofs.ByMask.{no_program}
use Rattle.steady_flash.specs.Cells.{IsEight, Written, blank}
use Rattle.steady_flash.specs.Marked.{Size}
use Rattle.steady_flash.specs.Layout.{IsLaidOut}
use Rattle.steady_flash.specs.Shown.{shown, image_of, image_as, read_as, IsSettled, IsSettledBeside, IsDoubted}
use Rattle.steady_flash.specs.Faults.{Leaves}
use Rattle.steady_flash.specs.declared.writing.Failed.{Failed}
use Rattle.steady_flash.specs.declared.writing.Failed.TheVariants.{Torn, Lost, InDoubt}
use Rattle.steady_flash.specs.declared.layout.Doubt.{Doubt}
use Rattle.steady_flash.specs.declared.layout.Layout.{Layout}
use Rattle.steady_flash.proofs.Cells.{blank_eight}
use Rattle.steady_flash.proofs.Images.{slot_at-bytes_of, page_count-bytes_of, is_image, same_image}

page_of : Option Doubt → ℕ
page_of None = 0
page_of (Some d) = d.page

slot_of : Option Doubt → ℕ
slot_of None = 0
slot_of (Some d) = d.slot

same_doubt : (a b : Doubt) → a.page ≡ b.page → a.slot ≡ b.slot → a ≡ b
same_doubt a b e f = ap₂ (λ p s. record { page = p; slot = s }) e f

-- the slot in doubt, and each other one
pub read_doubted : (slots : ℕ → ℕ → Written) (layout : Layout) (doubt : Doubt) (page slot : ℕ) → doubt.page ≡ page → doubt.slot ≡ slot → read_as slots layout (Some doubt) page slot ≡ blank
read_doubted slots layout doubt page slot e f = elim (eqb_tells doubt.page page) [
  | inr other ↦ absurd (other.1 e)
  | inl same ↦ elim (eqb_tells doubt.slot slot) [
    | inr other ↦ absurd (other.1 f)
    | inl there ↦ rw (same.0, there.0) refl
  ]
]

pub doubted_read : (slots : ℕ → ℕ → Written) (layout : Layout) (doubt : Option Doubt) (page slot : ℕ) → doubt ≡ Some (record { page = page; slot = slot }) → read_as slots layout doubt page slot ≡ blank
doubted_read slots layout doubt page slot e = rw e (read_doubted slots layout (record { page = page; slot = slot }) page slot refl refl)

pub read_other : (slots : ℕ → ℕ → Written) (layout : Layout) (doubt : Option Doubt) (page slot : ℕ) → (doubt ≡ Some (record { page = page; slot = slot }) → ⊥) → read_as slots layout doubt page slot ≡ shown slots layout page slot
read_other slots layout None page slot apart = refl
read_other slots layout (Some doubt) page slot apart = elim (eqb_tells doubt.page page) [
  | inr other ↦ rw (other.0) refl
  | inl same ↦ elim (eqb_tells doubt.slot slot) [
    | inr other ↦ rw (same.0, other.0) refl
    | inl there ↦ absurd (apart (ap Some (same_doubt doubt (record { page = page; slot = slot }) same.1 there.1)))
  ]
]

pub read_eight : (slots : ℕ → ℕ → Written) (layout : Layout) (doubt : Option Doubt) (page slot : ℕ) → IsSettledBeside slots layout doubt → page < layout.pages → slot < 512 → IsEight (read_as slots layout doubt page slot)
unfolding slot_of page_of
read_eight slots layout None page slot settled b t = (settled page slot b t (λ e. none-some _ e)).eight
read_eight slots layout (Some doubt) page slot settled b t = elim (eqb_tells doubt.page page) [
  | inr other ↦ rw (other.0) (settled page slot b t (λ e. other.1 (ap page_of e))).eight
  | inl same ↦ elim (eqb_tells doubt.slot slot) [
    | inr other ↦ rw (same.0, other.0) (settled page slot b t (λ e. other.1 (ap slot_of e))).eight
    | inl there ↦ rw (same.0, there.0) blank_eight
  ]
]

-- with none in doubt
pub settled_all : (slots : ℕ → ℕ → Written) (layout : Layout) (doubt : Option Doubt) → doubt ≡ None → IsSettledBeside slots layout doubt → IsSettled slots layout
settled_all slots layout doubt none settled p s b t = settled p s b t (λ e. none-some _ (sym none ∙ e))

pub settled_beside : (slots : ℕ → ℕ → Written) (layout : Layout) (doubt : Option Doubt) → IsSettled slots layout → IsSettledBeside slots layout doubt
settled_beside slots layout doubt settled p s b t apart = settled p s b t

pub doubted_beside : (old new : ℕ → ℕ → Written) (layout after : Layout) (page slot : ℕ) → IsDoubted old layout page slot new after → IsSettledBeside new after (Some (record { page = page; slot = slot }))
doubted_beside old new layout after page slot d p s b t apart = d.settled p s b t (λ e f. apart (ap Some (same_doubt (record { page = page; slot = slot }) (record { page = p; slot = s }) (sym e) (sym f))))

-- the image
pub image_none : (slots : ℕ → ℕ → Written) (layout : Layout) (doubt : Option Doubt) → doubt ≡ None → image_as slots layout doubt ≡ image_of slots layout
image_none slots layout doubt none = ap (λ (d : Option Doubt). image_as slots layout d) none

pub image_doubted : (old new : ℕ → ℕ → Written) (layout after : Layout) (page slot : ℕ) → shown old layout page slot ≡ blank → IsDoubted old layout page slot new after → image_as new after (Some (record { page = page; slot = slot })) ≡ image_of old layout
unfolding slot_of page_of
image_doubted old new layout after page slot free d =
    rw d.pages (same_image (shown old layout) (read_as new after (Some (record { page = page; slot = slot }))) layout.pages (λ p s b t.
    elim (eqb_tells p page) [
      | inr other ↦ read_other new after (Some (record { page = page; slot = slot })) p s (λ e. other.1 (sym (ap page_of e))) ∙ d.others p s b t (λ e f. other.1 e)
      | inl same ↦ elim (eqb_tells s slot) [
        | inr other ↦ read_other new after (Some (record { page = page; slot = slot })) p s (λ e. other.1 (sym (ap slot_of e))) ∙ d.others p s b t (λ e f. other.1 f)
        | inl there ↦ read_doubted new after (record { page = page; slot = slot }) p s (sym same.1) (sym there.1) ∙ sym free ∙ ap₂ (shown old layout) (sym same.1) (sym there.1)
      ]
    ]))

pub programs_as : (old new : ℕ → ℕ → Written) (layout after : Layout) (doubt now : Option Doubt) (page slot : ℕ) (bytes : List ℕ) → doubt ≡ None → now ≡ None → Programs (image_of old layout) page slot bytes (image_of new after) → Programs (image_as old layout doubt) page slot bytes (image_as new after now)
programs_as old new layout after doubt now page slot bytes e f p = rw (image_none old layout doubt e, image_none new after now f) p

pub may_program_as : (old new : ℕ → ℕ → Written) (layout after : Layout) (doubt now : Option Doubt) (page slot : ℕ) (bytes : List ℕ) → doubt ≡ None → now ≡ None → MayProgram (image_of old layout) page slot bytes (image_of new after) → MayProgram (image_as old layout doubt) page slot bytes (image_as new after now)
may_program_as old new layout after doubt now page slot bytes e f p = rw (image_none old layout doubt e, image_none new after now f) p

pub doubted_as : (old new : ℕ → ℕ → Written) (layout after : Layout) (doubt : Option Doubt) (page slot : ℕ) (bytes : List ℕ) → doubt ≡ None → shown old layout page slot ≡ blank → IsDoubted old layout page slot new after → MayProgram (image_as old layout doubt) page slot bytes (image_as new after (Some (record { page = page; slot = slot })))
doubted_as old new layout after doubt page slot bytes e free d = rw (image_none old layout doubt e, image_doubted old new layout after page slot free d) (no_program (image_of old layout) page slot bytes)

pub erases_as : (old new : ℕ → ℕ → Written) (layout after : Layout) (doubt now : Option Doubt) (page : ℕ) → doubt ≡ None → now ≡ None → Erases (image_of old layout) page (image_of new after) → Erases (image_as old layout doubt) page (image_as new after now)
erases_as old new layout after doubt now page e f p = rw (image_none old layout doubt e, image_none new after now f) p

pub may_erase_as : (old new : ℕ → ℕ → Written) (layout after : Layout) (doubt now : Option Doubt) (page : ℕ) → doubt ≡ None → now ≡ None → MayErase (image_of old layout) page (image_of new after) → MayErase (image_as old layout doubt) page (image_as new after now)
may_erase_as old new layout after doubt now page e f p = rw (image_none old layout doubt e, image_none new after now f) p

-- what is left, by why
pub left_torn : (why : Failed) (old new : ℕ → ℕ → Written) (layout after : Layout) (page slot : ℕ) (bytes : List ℕ) → why ≡ Torn → Leaves why old layout page slot bytes new after → IsSettled new after × MayProgram (image_of old layout) page slot bytes (image_of new after)
left_torn why old new layout after page slot bytes e l = rw e at l

pub left_lost : (why : Failed) (old new : ℕ → ℕ → Written) (layout after : Layout) (page slot : ℕ) (bytes : List ℕ) → why ≡ Lost → Leaves why old layout page slot bytes new after → IsSettled new after × MayProgram (image_of old layout) page slot bytes (image_of new after)
left_lost why old new layout after page slot bytes e l = rw e at l

pub left_doubted : (why : Failed) (old new : ℕ → ℕ → Written) (layout after : Layout) (page slot : ℕ) (bytes : List ℕ) → why ≡ InDoubt → Leaves why old layout page slot bytes new after → IsDoubted old layout page slot new after × shown old layout page slot ≡ blank
left_doubted why old new layout after page slot bytes e l = rw e at l

-- what a reader of the whole is told
pub slot_as : (slots : ℕ → ℕ → Written) (layout : Layout) (doubt : Option Doubt) (page slot : ℕ) → IsSettledBeside slots layout doubt → page < layout.pages → slot < 512 → slot_at (image_as slots layout doubt) page slot ≡ read_as slots layout doubt page slot
slot_as slots layout doubt page slot settled b t = slot_at-bytes_of (read_as slots layout doubt) layout.pages page slot b t (read_eight slots layout doubt page slot settled b t)

pub count_as : (slots : ℕ → ℕ → Written) (layout : Layout) (doubt : Option Doubt) → page_count (image_as slots layout doubt) ≡ layout.pages
count_as slots layout doubt = page_count-bytes_of (read_as slots layout doubt) layout.pages

pub whole_as : (size : Size) (slots : ℕ → ℕ → Written) (layout : Layout) (doubt : Option Doubt) → IsLaidOut size layout → IsSettledBeside slots layout doubt → IsImage (image_as slots layout doubt)
whole_as size slots layout doubt l settled = is_image (read_as slots layout doubt) layout.pages (λ p s b t. read_eight slots layout doubt p s settled b t) l.placed.served.least l.placed.served.most
