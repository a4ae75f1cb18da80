-- What an item changes in the Globals of those after it.
use Rattle.std.proofs.lemmas.Grind.{common_steps}
use Rattle.std.proofs.Common.{◌≡◌, ◌<◌, List, ◌∷◌, refl, arith, sym, ◌∙◌, ap, Bool, true, false}
use Rattle.descriptor_parse.specs.declared.globals.Globals.{Globals}
use Rattle.descriptor_parse.specs.declared.stack.Stack.{Stack}
use Rattle.descriptor_parse.specs.declared.tag.Tag.{Tag}
use Rattle.descriptor_parse.specs.declared.tag.Tag.TheVariants.{Global}
use Rattle.descriptor_parse.specs.declared.tag.GlobalTag.{GlobalTag}
use Rattle.descriptor_parse.specs.declared.tag.GlobalTag.TheVariants.{ReportId, Push}
use Rattle.descriptor_parse.specs.Items.{ItemValue}
use Rattle.descriptor_parse.specs.Tags.{tag, is_push, is_pop}
use Rattle.descriptor_parse.specs.Globals.{unsigned, in_force}
use Rattle.descriptor_parse.specs.representation.GlobalsOf.{globals_with, globals_of}
use Rattle.descriptor_parse.specs.representation.StackRefines.{StackRefines}
use Rattle.descriptor_parse.proofs.StackLemmas.{refine_more}

abbrev pub is_global : Tag → Bool
is_global (Global g) = true
is_global _ = false

-- a Global item changes the values as it says
globals_more : (t : GlobalTag) (item : ItemValue) (items : List ItemValue) → tag item ≡ Global t
    → (t ≡ ReportId → unsigned item.bytes < 256) → globals_with t item.bytes (globals_of items) ≡ globals_of (item ∷ items)
globals_more t item items h1 h2 = grind (arith, common_steps)

-- a Push changes none
pub globals_push : (item : ItemValue) (items : List ItemValue) → tag item ≡ Global Push → globals_of (item ∷ items) ≡ globals_of items
globals_push item items e = rw e refl

no_pop : (t : Tag) → is_global t ≡ false → is_pop t ≡ false
no_pop t h1 = grind (arith, common_steps)

no_push : (t : Tag) → is_global t ≡ false → is_push t ≡ false
no_push t h1 = grind (arith, common_steps)

globals_same : (t : Tag) (item : ItemValue) (items : List ItemValue) → tag item ≡ t → is_global t ≡ false → globals_of (item ∷ items) ≡ globals_of items
globals_same t item items h1 h2 = grind (arith, common_steps)

-- what is no Global item leaves them
pub refine_other : (before : List ItemValue) (item : ItemValue) (globals : Stack Globals) → is_global (tag item) ≡ false
    → StackRefines globals_of before globals → StackRefines globals_of (item ∷ before) globals
refine_other before item globals n s =
    refine_more globals_of before item globals globals (no_push (tag item) n) (no_pop (tag item) n)
    (s.now ∙ sym (globals_same (tag item) item (in_force before) refl n)) refl s

-- an item that sets a value
pub refine_set : (before : List ItemValue) (item : ItemValue) (t : GlobalTag) (old new : Stack Globals) → tag item ≡ Global t
    → is_push (Global t) ≡ false → is_pop (Global t) ≡ false → (t ≡ ReportId → unsigned item.bytes < 256)
    → new.now ≡ globals_with t item.bytes old.now → new.saved.items ≡ old.saved.items
    → StackRefines globals_of before old → StackRefines globals_of (item ∷ before) new
refine_set before item t old new e push pop id set rest s =
    refine_more globals_of before item old new (ap is_push e ∙ push) (ap is_pop e ∙ pop)
    (set ∙ ap (globals_with t item.bytes) s.now ∙ globals_more t item (in_force before) e id) rest s
