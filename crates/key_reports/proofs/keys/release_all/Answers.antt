use Rattle.std.proofs.Common.{◌∷◌, [], ◌∙◌, append_assoc}
use Rattle.layers.specs.Held.{Release}
use Rattle.key_reports.specs.representation.Edges.{with_releases}
use Rattle.key_reports.proofs.Edges.{called-more, called-all}
use Rattle.key_reports.proofs.Those.{key-below}
use Rattle.key_reports.proofs.keys.release_all.Goals as goal

pub known-requires : goal.known-requires
known-requires c = key-below c.args.released.now c.loop-key.yielded c.next.new.self c.in-Some.key (rw (c.in-Some.ensures.steps) at c.loop-key.invariant.split_is)

pub loop-key-preserved : goal.loop-key-preserved
loop-key-preserved c = record {
  split_is = append_assoc c.loop-key.yielded (c.in-Some.key ∷ []) c.next.new.self ∙ (rw (c.in-Some.ensures.steps) at c.loop-key.invariant.split_is);
  called_is = called-more (λ key. Release key) c.loop-key.yielded c.in-Some.key c.args.held.now c.loop-key.held c.release.new.self c.loop-key.invariant.called_is (rw c.known.ensures at c.release.ensures);
}

pub returns : goal.returns
unfolding with_releases
returns c = record { each = called-all (λ key. Release key) c.args.released.now c.loop-key.yielded c.loop-key.key-iterator c.args.held.now c.loop-key.held c.in-None.ensures.steps.0 c.loop-key.invariant.split_is c.loop-key.invariant.called_is }
