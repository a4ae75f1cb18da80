use Rattle.world.proofs.Meanwhile.{stored}
use Rattle.world.proofs.examples.a_command_is_stored_meanwhile.Goals as goal

pub returns : goal.returns
returns g pages answers f n h = stored pages answers f n h
