-- The output so far, item by item.
use Rattle.std.proofs.Common.{◌≡◌, ℕ, List, [], ◌∷◌, ◌++◌, length, sym, ◌∙◌, ap}
use Rattle.std.proofs.lemmas.List.{append-nil, append_assoc}
use Rattle.std.specs.Prelude.{replicate, None}
use Rattle.descriptor_parse.specs.Items.{ItemValue}
use Rattle.lenient_parse.specs.declared.output.Output.{Output}
use Rattle.lenient_parse.specs.declared.sizes.Sizes.{Sizes}
use Rattle.lenient_parse.specs.declared.state.Instead.{Instead}
use Rattle.lenient_parse.specs.declared.state.Instead.TheVariants.{Padding}
use Rattle.lenient_parse.specs.declared.state.State.{State}
use Rattle.lenient_parse.specs.Late.{has_id, late_after}
use Rattle.lenient_parse.specs.Sets.{set_after}
use Rattle.lenient_parse.specs.Padding.{padding}
use Rattle.lenient_parse.specs.Lenient.{instead, passed, bytes_of, reported, text_from, origins_from, passed_from}
use Rattle.lenient_parse.specs.representation.Relation.{Relation}
use Rattle.lenient_parse.specs.representation.Goes.{Goes}

-- what an item adds
pub record Adds (item : ItemValue) (more : List ItemValue) (old new : Output) (state after : State) : Type 0 where
  pub text : (before : List ItemValue) → Relation before (item ∷ more) state → new.text.items ≡ old.text.items ++ bytes_of (instead state.late state.set before item more) before item
  pub origins : (before : List ItemValue) → Relation before (item ∷ more) state
      → new.origins.items ≡ old.origins.items ++ replicate (length (bytes_of (instead state.late state.set before item more) before item)) item.offset
  pub passed : (before : List ItemValue) → Relation before (item ∷ more) state → new.passed.items ≡ old.passed.items ++ reported (passed state.late state.set before item more) item
  pub late : after.late ≡ late_after state.late item
  pub set : after.set ≡ set_after state.set item more
  pub refines : (before : List ItemValue) → Relation before (item ∷ more) state → Relation (item ∷ before) more after

pub goes_more : (items : List ItemValue) (item : ItemValue) (more : List ItemValue) (old new : Output) (state after : State) → Adds item more old new state after
    → Goes items (item ∷ more) old state → Goes items more new after
unfolding text_from origins_from passed_from
goes_more items item more old new state after a g = record {
  before = item ∷ g.before;
  refines = a.refines g.before g.refines;
  short = g.short.1;
  text = rw (a.text g.before g.refines, a.late, a.set) (append_assoc old.text.items (bytes_of (instead state.late state.set g.before item more) g.before item) (text_from (late_after state.late item) (set_after state.set item more) (item ∷ g.before) more) ∙ g.text);
  origins = rw (a.origins g.before g.refines, a.late, a.set) (append_assoc old.origins.items (replicate {A = ℕ} (length (bytes_of (instead state.late state.set g.before item more) g.before item)) item.offset) (origins_from (late_after state.late item) (set_after state.set item more) (item ∷ g.before) more) ∙ g.origins);
  passed = rw (a.passed g.before g.refines, a.late, a.set) (append_assoc old.passed.items (reported (passed state.late state.set g.before item more) item) (passed_from (late_after state.late item) (set_after state.set item more) (item ∷ g.before) more) ∙ g.passed);
}

-- all items are taken
pub goes_text : (items : List ItemValue) (output : Output) (state : State) → Goes items [] output state → output.text.items ≡ text_from (has_id items) None [] items
unfolding text_from
goes_text items output state g = sym (append-nil output.text.items) ∙ g.text

pub goes_origins : (items : List ItemValue) (output : Output) (state : State) → Goes items [] output state → output.origins.items ≡ origins_from (has_id items) None [] items
unfolding origins_from
goes_origins items output state g = sym (append-nil output.origins.items) ∙ g.origins

pub goes_passed : (items : List ItemValue) (output : Output) (state : State) → Goes items [] output state → output.passed.items ≡ passed_from (has_id items) None [] items
unfolding passed_from
goes_passed items output state g = sym (append-nil output.passed.items) ∙ g.passed

-- the bytes that stand in place of a data item past the limits
pub padded_bytes : (before : List ItemValue) (item : ItemValue) (more : List ItemValue) (state : State) → Relation before (item ∷ more) state
    → Padding ≡ instead state.late state.set before item more
    → padding item.prefix state.sizes.now.size state.sizes.now.count ≡ bytes_of (instead state.late state.set before item more) before item
padded_bytes before item more state s e =
    let f : Sizes → List ℕ = λ z. padding item.prefix z.size z.count in
    let g : Instead → List ℕ = λ i. bytes_of i before item in
    ap f s.sizes.now ∙ ap g e
