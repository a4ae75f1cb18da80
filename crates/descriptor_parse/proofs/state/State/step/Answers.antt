use Rattle.std.proofs.Common.{refl, sym, ap, ◌∙◌, ◌≤◌, List, length}
use Rattle.std.proofs.lemmas.Result.{on_ok_weaker}
use Rattle.descriptor_parse.specs.declared.tag.Tag.TheVariants.{Main, Local}
use Rattle.descriptor_parse.specs.Items.{ItemValue}
use Rattle.descriptor_parse.specs.ItemViews.{item_view}
use Rattle.descriptor_parse.specs.representation.StateRefines.{StateRefines, Takes}
use Rattle.descriptor_parse.proofs.StateLemmas.{refine_skipped, checked_skipped, not_long}
use Rattle.descriptor_parse.proofs.state.State.step.Goals as goal

pub unsigned-requires : goal.unsigned-requires
unsigned-requires c = c.requires.few (not_long _ _ c.in-Main-Data.ensures (λ s. cc))

pub unsigned-requires-in-Main : goal.unsigned-requires-in-Main
unsigned-requires-in-Main c = c.requires.few (not_long _ _ c.in-Main.ensures (λ s. cc))

pub step_global-requires : goal.step_global-requires
step_global-requires c = c.requires.few (not_long _ _ c.in-Global.ensures (λ s. cc))

pub read_usage-requires-clause-few : goal.read_usage-requires-clause-few
read_usage-requires-clause-few c = c.requires.few (not_long _ _ c.in-Local-Usage.ensures (λ s. cc))

pub read_usage-requires-clause-not_three : goal.read_usage-requires-clause-not_three
read_usage-requires-clause-not_three c = c.requires.not_three (not_long _ _ c.in-Local-Usage.ensures (λ s. cc))

pub read_usage-requires-in-Local-clause-few : goal.read_usage-requires-in-Local-clause-few
read_usage-requires-in-Local-clause-few c = c.requires.few (not_long _ _ c.in-Local.ensures (λ s. cc))

pub read_usage-requires-in-Local-clause-not_three : goal.read_usage-requires-in-Local-clause-not_three
read_usage-requires-in-Local-clause-not_three c = c.requires.not_three (not_long _ _ c.in-Local.ensures (λ s. cc))

pub returns-in-Main-Data-clause-taken : goal.returns-in-Main-Data-clause-taken
returns-in-Main-Data-clause-taken c = on_ok_weaker {Q = (before : List ItemValue) → StateRefines before c.args.self.now → length before ≤ 4096
    → Takes before (item_view c.args.item.now) c.step_main.new.self} _ (λ took before s few.
    took before (item_view c.args.item.now) (sym c.in-Main-Data.ensures ∙ ap Main c.in-Main-Data.field-0-is) (sym c.unsigned.ensures) s few) c.step_main.ensures.taken

pub returns-in-Main-clause-taken : goal.returns-in-Main-clause-taken
returns-in-Main-clause-taken c = on_ok_weaker {Q = (before : List ItemValue) → StateRefines before c.args.self.now → length before ≤ 4096
    → Takes before (item_view c.args.item.now) c.step_main-in-Main.new.self} _ (λ took before s few.
    took before (item_view c.args.item.now) (sym c.in-Main.ensures) (sym c.unsigned-in-Main.ensures) s few) c.step_main-in-Main.ensures.taken

pub returns-in-Global-clause-taken : goal.returns-in-Global-clause-taken
returns-in-Global-clause-taken c = on_ok_weaker {Q = (before : List ItemValue) → StateRefines before c.args.self.now → length before ≤ 4096
    → Takes before (item_view c.args.item.now) c.step_global.new.self} _ (λ took before s few.
    took before (item_view c.args.item.now) (sym c.in-Global.ensures) refl s) c.step_global.ensures.taken

pub returns-in-Local-Usage-clause-taken : goal.returns-in-Local-Usage-clause-taken
returns-in-Local-Usage-clause-taken c = on_ok_weaker {Q = (before : List ItemValue) → StateRefines before c.args.self.now → length before ≤ 4096
    → Takes before (item_view c.args.item.now) c.step_local.new.self} _ (λ took before s few.
    took before (item_view c.args.item.now) (sym c.in-Local-Usage.ensures ∙ ap Local c.in-Local-Usage.field-0-is) (sym c.read_usage.ensures) s) c.step_local.ensures.taken

pub returns-in-Local-clause-taken : goal.returns-in-Local-clause-taken
returns-in-Local-clause-taken c = on_ok_weaker {Q = (before : List ItemValue) → StateRefines before c.args.self.now → length before ≤ 4096
    → Takes before (item_view c.args.item.now) c.step_local-in-Local.new.self} _ (λ took before s few.
    took before (item_view c.args.item.now) (sym c.in-Local.ensures) (sym c.read_usage-in-Local.ensures) s) c.step_local-in-Local.ensures.taken

pub returns-in-Skipped-clause-taken : goal.returns-in-Skipped-clause-taken
returns-in-Skipped-clause-taken c = λ before s few.
    record { clean = checked_skipped before _ (sym c.in-Skipped.ensures); refines = refine_skipped before _ _ (sym c.in-Skipped.ensures) s }
