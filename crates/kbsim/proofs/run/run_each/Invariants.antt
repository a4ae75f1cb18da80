use Rattle.std.proofs.Common.{◌≡◌, [], take}
use Rattle.flash_model.specs.Sim.{SimValue}
use Rattle.text_io.specs.Printers.{printed, printer_writer}
use Rattle.world.specs.representation.Relation.{Refines}
use Rattle.kbsim.proofs.OutputLemmas.{RunSoFar}
use Rattle.kbsim.proofs.run.run_each.Given as goal
use Rattle.layers.specs.Standard.{standard}

-- what was run and printed so far, to the same writer
pub record SoFar (run same : Type 0) : Type 0 where
  pub ran : run
  pub same_writer : same

abbrev pub invariant-loop-line : goal.invariant-loop-line
invariant-loop-line g l = SoFar
    ((start : SimValue) → Refines standard start [] l.fn.world
    → RunSoFar start (take l.line-index l.lines) l.world (printed g.W.Write.contents l.fn.printer) (printed g.W.Write.contents l.printer))
    (printer_writer l.printer ≡ printer_writer l.fn.printer)
