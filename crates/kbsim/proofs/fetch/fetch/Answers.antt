use Rattle.std.proofs.Common.{◌≡◌, ◌≢◌, rules}
use Rattle.world.specs.declared.event.Answer.TheVariants.{Ack}
use Rattle.kbsim.proofs.FetchLemmas.{fetched, unclosed, unfetched}
use Rattle.kbsim.proofs.fetch.fetch.Goals as goal

pub returns-in-Err : goal.returns-in-Err
returns-in-Err g c = unfetched _ _ _ (search rules)

pub returns-then-is_ack : goal.returns-then-is_ack
returns-then-is_ack g c =
    let ack : c.in_ok-reported.reported ≡ Ack = search rules in
    fetched _ _ _ _ _ _ (search rules) (rw c.in-Ok.is at c.in_ok-count.ensures) c.in_ok-reported.ensures ack

pub returns : goal.returns
returns g c =
    let other : c.in_ok-reported.reported ≢ Ack = search rules in
    unclosed _ _ _ _ _ _ (search rules) (rw c.in-Ok.is at c.in_ok-count.ensures) c.in_ok-reported.ensures other
