use Rattle.std.proofs.Common.{ap, ◌∙◌, ◌≡◌, length, vec_len, arith}
use Rattle.field_details.specs.Collections.{without_last}
use Rattle.field_details.proofs.WalkLemmas.{refine_closed}
use Rattle.field_details.proofs.walk.Walk.close_collection.Goals as goal

pub returns : goal.returns
returns c = λ before item e s.
    let len : vec_len c.args.self.now.opened ≡ length c.args.self.now.opened.items = omega arith in
    let rest : c.pop.new.self.items ≡ without_last c.args.self.now.opened.items = rw len at c.pop.ensures.rest in
    let w = c.end_locals.ensures.same in
    refine_closed before item c.args.self.now _ e (ap (λ v. v.extents) w) c.end_locals.ensures.usage (ap (λ v. v.opened.items) w ∙ rest) (ap (λ v. v.reported) w) c.end_locals.ensures.pending s
