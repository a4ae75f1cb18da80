-- Representation: how far a text was read.
use Rattle.shapes.specs.Shapes.{Bytes}
use Rattle.std.specs.Prelude.{◌≡◌, ℕ, ◌+◌, ◌≤◌, List, [], length}
use Rattle.descriptor_parse.specs.declared.fault.ParseFault.{ParseFault}
use Rattle.descriptor_parse.specs.declared.state.State.{State}
use Rattle.descriptor_parse.specs.Items.{ItemValue, items_at}
use Rattle.descriptor_parse.specs.Faults.{IsFaultAmong, onto, all_items}
use Rattle.descriptor_parse.specs.representation.StateRefines.{StateRefines}

-- The items of a text up to an offset show no fault, and the state refines them; the rest of the text follows.
pub record HasReached (text rest : Bytes) (offset : ℕ) (state : State) : Type 0 where
  pub before : List ItemValue
  pub refines : StateRefines before state
  pub few : length before ≤ offset
  pub place : offset + length rest ≡ length text
  pub items : all_items text ≡ onto before (items_at offset rest)
  pub faults_left : (fault : ParseFault) (at : ℕ) → IsFaultAmong [] (items_at 0 text) fault at → IsFaultAmong before (items_at offset rest) fault at
  pub faults_come : (fault : ParseFault) (at : ℕ) → IsFaultAmong before (items_at offset rest) fault at → IsFaultAmong [] (items_at 0 text) fault at
