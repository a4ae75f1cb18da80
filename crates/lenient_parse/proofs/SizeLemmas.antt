-- What an item changes in the Report Size and the Report Count.
use Rattle.std.proofs.Common.{◌≡◌, List, ◌∷◌, refl, sym, ◌∙◌, ap, false}
use Rattle.descriptor_parse.specs.declared.stack.Stack.{Stack}
use Rattle.descriptor_parse.specs.declared.tag.Tag.{Tag}
use Rattle.descriptor_parse.specs.declared.tag.Tag.TheVariants.{Main, Global, Local, Skipped}
use Rattle.descriptor_parse.specs.declared.tag.GlobalTag.{GlobalTag}
use Rattle.descriptor_parse.specs.declared.tag.GlobalTag.TheVariants.{UsagePage, LogicalMinimum, LogicalMaximum, ReportSize, ReportId, ReportCount, Push, Pop}
use Rattle.descriptor_parse.specs.Items.{ItemValue}
use Rattle.descriptor_parse.specs.Tags.{tag, is_push, is_pop}
use Rattle.descriptor_parse.specs.Globals.{unsigned, in_force}
use Rattle.descriptor_parse.specs.representation.StackRefines.{StackRefines}
use Rattle.descriptor_parse.proofs.StackLemmas.{refine_more}
use Rattle.lenient_parse.specs.declared.sizes.Sizes.{Sizes}
use Rattle.lenient_parse.specs.representation.Relation.{sizes_of}

-- a Push changes none
pub sizes_push : (item : ItemValue) (items : List ItemValue) → tag item ≡ Global Push → sizes_of (item ∷ items) ≡ sizes_of items
sizes_push item items e = rw e refl

-- an item that sets the Report Size, and one that sets the Report Count
pub refine_size : (before : List ItemValue) (item : ItemValue) (old new : Stack Sizes) → tag item ≡ Global ReportSize
    → new.now ≡ record old.now { size = unsigned item.bytes } → new.saved.items ≡ old.saved.items
    → StackRefines sizes_of before old → StackRefines sizes_of (item ∷ before) new
refine_size before item old new e set rest s =
    let same : record (sizes_of (in_force before)) { size = unsigned item.bytes } ≡ sizes_of (item ∷ in_force before) = rw e refl in
    refine_more sizes_of before item old new (ap is_push e) (ap is_pop e)
    (set ∙ ap {A = Sizes} (λ z. record z { size = unsigned item.bytes }) s.now ∙ same) rest s

pub refine_count : (before : List ItemValue) (item : ItemValue) (old new : Stack Sizes) → tag item ≡ Global ReportCount
    → new.now ≡ record old.now { count = unsigned item.bytes } → new.saved.items ≡ old.saved.items
    → StackRefines sizes_of before old → StackRefines sizes_of (item ∷ before) new
refine_count before item old new e set rest s =
    let same : record (sizes_of (in_force before)) { count = unsigned item.bytes } ≡ sizes_of (item ∷ in_force before) = rw e refl in
    refine_more sizes_of before item old new (ap is_push e) (ap is_pop e)
    (set ∙ ap {A = Sizes} (λ z. record z { count = unsigned item.bytes }) s.now ∙ same) rest s

abbrev pub is_kept : Tag → Type 0
is_kept (Global Push) = ⊥
is_kept (Global Pop) = ⊥
is_kept (Global ReportSize) = ⊥
is_kept (Global ReportCount) = ⊥
is_kept _ = Unit

no_push : (t : Tag) → is_kept t → is_push t ≡ false
no_push (Global Push) k = absurd k
no_push _ k = refl

no_pop : (t : Tag) → is_kept t → is_pop t ≡ false
no_pop (Global Pop) k = absurd k
no_pop _ k = refl

kept : (t : Tag) (item : ItemValue) (items : List ItemValue) → tag item ≡ t → is_kept t → sizes_of (item ∷ items) ≡ sizes_of items
kept (Main m) item items e k = rw e refl
kept (Global UsagePage) item items e k = rw e refl
kept (Global LogicalMinimum) item items e k = rw e refl
kept (Global LogicalMaximum) item items e k = rw e refl
kept (Global ReportSize) item items e k = absurd k
kept (Global ReportId) item items e k = rw e refl
kept (Global ReportCount) item items e k = absurd k
kept (Global Push) item items e k = absurd k
kept (Global Pop) item items e k = absurd k
kept (Local l) item items e k = rw e refl
kept Skipped item items e k = rw e refl

-- any other item leaves them
pub refine_kept : (before : List ItemValue) (item : ItemValue) (t : Tag) (sizes : Stack Sizes) → tag item ≡ t → is_kept t
    → StackRefines sizes_of before sizes → StackRefines sizes_of (item ∷ before) sizes
refine_kept before item t sizes e k s =
    refine_more sizes_of before item sizes sizes (ap is_push e ∙ no_push t k) (ap is_pop e ∙ no_pop t k)
    (s.now ∙ sym (kept t item (in_force before) e k)) refl s

pub other : (t : GlobalTag) → (t ≡ Push → ⊥) → (t ≡ Pop → ⊥) → (t ≡ ReportSize → ⊥) → (t ≡ ReportCount → ⊥) → is_kept (Global t)
other UsagePage a b c d = tt
other LogicalMinimum a b c d = tt
other LogicalMaximum a b c d = tt
other ReportSize a b c d = c refl
other ReportId a b c d = tt
other ReportCount a b c d = d refl
other Push a b c d = a refl
other Pop a b c d = b refl

pub not_global : (t : Tag) → ((g : GlobalTag) → t ≡ Global g → ⊥) → is_kept t
not_global (Main m) n = tt
not_global (Global g) n = absurd (n g refl)
not_global (Local l) n = tt
not_global Skipped n = tt
