use Rattle.std.proofs.Common.{ap, sym, subst, ◌∙◌}
use Rattle.keymap_store.specs.representation.Store.{Mirrors}
use Rattle.keymap_store.specs.Submits.{Submits}
use Rattle.keyboard.specs.representation.Value.{KeyboardValue}
use Rattle.keyboard.proofs.Offering.{checked_submitted}
use Rattle.keyboard.proofs.keyboard.KeyboardOf.submit.Goals as goal

pub returns : goal.returns
returns g c image bytes h n r =
    let held : Mirrors g.D.Defaults.defaults image c.self.inside.store = subst (λ (k : KeyboardValue). Mirrors g.D.Defaults.defaults image k.store) (sym c.self.view_is) h in
    rw c.verdict_of.ensures
    (checked_submitted g.D.Defaults.defaults image bytes c.args.command.now c.submit.result c.args.self.now _ n r (record {
      submits = subst (λ (k : KeyboardValue). Submits g.D.Defaults.defaults image k.store.job c.args.command.now c.submit.result) c.self.view_is (c.submit.ensures.submits image held);
      runs_on = c.submit.ensures.mirrors image held;
      only = ap (λ (k : KeyboardValue). record k { store = c.submit.new.self }) c.self.view_is;
      taken_is = λ e. (c.submit.ensures.taken e).0;
      unchanged = λ k. c.submit.ensures.unchanged k ∙ ap (λ (x : KeyboardValue). x.store) c.self.view_is;
      needs = λ e. c.submit.ensures.needs image held e;
      few = c.submit.ensures.few image;
      operations = λ e. c.submit.ensures.operations image held e;
    }))
