use Rattle.std.proofs.Common.{◌≡◌, refl, ap, sym, ◌∙◌}
use Rattle.descriptor_parse.specs.ItemViews.{item_view}
use Rattle.descriptor_parse.specs.Tags.{tag_of, is_main}
use Rattle.descriptor_parse.specs.declared.tag.Tag.TheVariants.{Main, Global, Local, Skipped}
use Rattle.field_details.specs.Collections.{is_usage}
use Rattle.descriptor_parse.specs.Locals.{since_main}
use Rattle.field_details.proofs.NameLemmas.{pending_known, pending_skipped}
use Rattle.field_details.proofs.WalkLemmas.{refine_extents, long_skipped, on_ok}
use Rattle.field_details.proofs.walk.WalkBeside.take.Goals as goal

pub unsigned-requires : goal.unsigned-requires
unsigned-requires c = c.requires.few (long_skipped c.args.item.now.prefix (Main c.in-Main.tag) (sym c.tag.ensures ∙ c.in-Main.is) (λ no. cc))

pub take_local-requires-clause-few : goal.take_local-requires-clause-few
take_local-requires-clause-few c = c.requires.few (long_skipped c.args.item.now.prefix (Local c.in-Local.tag) (sym c.tag.ensures ∙ c.in-Local.is) (λ no. cc))

pub take_local-requires-clause-not_three : goal.take_local-requires-clause-not_three
take_local-requires-clause-not_three c = c.requires.not_three (long_skipped c.args.item.now.prefix (Local c.in-Local.tag) (sym c.tag.ensures ∙ c.in-Local.is) (λ no. cc))

pub returns-in-Main-clause-taken : goal.returns-in-Main-clause-taken
returns-in-Main-clause-taken c =
    let e : tag_of c.args.item.now.prefix ≡ Main c.in-Main.tag = sym c.tag.ensures ∙ c.in-Main.is in
    on_ok c.take_main.result (λ taken items st s. taken items (item_view c.args.item.now) e refl (sym c.unsigned.ensures) st s) c.take_main.ensures.taken

pub returns-in-Global-clause-taken : goal.returns-in-Global-clause-taken
returns-in-Global-clause-taken c =
    let e : tag_of c.args.item.now.prefix ≡ Global c.in-Global.tag = sym c.tag.ensures ∙ c.in-Global.is in
    on_ok c.take_global.result (λ taken items st s. refine_extents items (item_view c.args.item.now) c.args.self.now _ (ap is_main e) (ap is_usage e)
    (taken items (item_view c.args.item.now) e s.extents) refl refl (pending_known items (item_view c.args.item.now) (Global c.in-Global.tag) c.args.self.now.pending e (λ no. cc) refl s.pending) refl s) c.take_global.ensures.taken

pub returns-in-Local-clause-taken : goal.returns-in-Local-clause-taken
returns-in-Local-clause-taken c = λ items st s. c.take_local.ensures items (item_view c.args.item.now) (sym c.tag.ensures ∙ c.in-Local.is) refl s

pub returns-in-Skipped-clause-taken : goal.returns-in-Skipped-clause-taken
returns-in-Skipped-clause-taken c =
    let e : tag_of c.args.item.now.prefix ≡ Skipped = sym c.tag.ensures ∙ c.in-Skipped.is in
    on_ok c.take.result (λ taken items st s. refine_extents items (item_view c.args.item.now) c.args.self.now _ (ap is_main e) (ap is_usage e)
    (c.take_skipped.ensures items (item_view c.args.item.now) e refl refl s.extents) refl refl (pending_skipped items (item_view c.args.item.now) c.take.new.self e (taken (since_main items) s.pending)) refl s) c.take.ensures
