use Rattle.std.proofs.Common.{ap, ◌∙◌, sym, ◌≡◌, ◌≤◌, List, ◌∷◌, length, None}
use Rattle.std.proofs.lemmas.Result.{on_ok_weaker}
use Rattle.descriptor_parse.specs.declared.tag.Tag.TheVariants.{Main}
use Rattle.descriptor_parse.specs.declared.tag.MainTag.TheVariants.{Data, Collection, EndCollection}
use Rattle.descriptor_parse.specs.Globals.{unsigned}
use Rattle.descriptor_parse.specs.Items.{ItemValue}
use Rattle.descriptor_parse.specs.Tags.{tag}
use Rattle.descriptor_parse.specs.Faults.{fault_at}
use Rattle.descriptor_parse.specs.representation.StateRefines.{StateRefines, fault_of_main}
use Rattle.descriptor_parse.proofs.StateLemmas.{checked_main, fits_data, room_for_collection, collection_left}
use Rattle.descriptor_parse.proofs.state.State.take_main.Goals as goal

pub returns-in-Data-clause-taken : goal.returns-in-Data-clause-taken
returns-in-Data-clause-taken c = on_ok_weaker {Q = (before : List ItemValue) (item : ItemValue) → tag item ≡ Main c.args.tag → unsigned item.bytes ≡ c.args.flags
    → StateRefines before c.args.self.now → length before ≤ 4096 → fault_at before item ≡ None → StateRefines (item ∷ before) c.take_data.new.self} _ (λ took before item e u s few clean.
    let is : c.args.tag ≡ Data c.in-Data.kind = c.in-Data.is in
    let e' = e ∙ ap Main is in
    let none : fault_of_main (Data c.in-Data.kind) (unsigned item.bytes) c.args.self.now ≡ None = sym (checked_main before item (Data c.in-Data.kind) _ e' s) ∙ clean in
    took before item e' u (fits_data before item c.in-Data.kind _ e' s none) few s) c.take_data.ensures.taken

pub returns-in-Collection-clause-taken : goal.returns-in-Collection-clause-taken
returns-in-Collection-clause-taken c = λ before item e u s few clean.
    let is : c.args.tag ≡ Collection = c.in-Collection.is in
    let e' = e ∙ ap Main is in
    let none : fault_of_main Collection (unsigned item.bytes) c.args.self.now ≡ None = sym (checked_main before item Collection _ e' s) ∙ clean in
    c.open_collection.ensures before item e' (room_for_collection before item _ s none) s

pub returns-in-EndCollection-clause-taken : goal.returns-in-EndCollection-clause-taken
returns-in-EndCollection-clause-taken c = λ before item e u s few clean.
    let is : c.args.tag ≡ EndCollection = c.in-EndCollection.is in
    let e' = e ∙ ap Main is in
    let none : fault_of_main EndCollection (unsigned item.bytes) c.args.self.now ≡ None = sym (checked_main before item EndCollection _ e' s) ∙ clean in
    c.close_collection.ensures before item e' (collection_left before item _ s none) s
