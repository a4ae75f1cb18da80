use Rattle.keyboard.proofs.Heading.{headers_are_own, own_headers}
use Rattle.keyboard.proofs.theorems.headers_are_own.Goals as goal

pub returns-clause-after : goal.returns-clause-after
returns-clause-after c defaults start past work new a = headers_are_own defaults start past work new a

pub returns-clause-cut : goal.returns-clause-cut
returns-clause-cut c defaults start past command work new image works on made = own_headers defaults start past command work new image on works made
