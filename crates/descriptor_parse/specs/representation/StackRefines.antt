-- Representation: the values of Global items that are kept refine the items before.
use Rattle.std.specs.Prelude.{◌≡◌, if◌then◌else◌, List, [], ◌∷◌, ◌++◌}
use Rattle.descriptor_parse.specs.declared.stack.Stack.{Stack}
use Rattle.descriptor_parse.specs.Items.{ItemValue}
use Rattle.descriptor_parse.specs.Tags.{tag, is_push}
use Rattle.descriptor_parse.specs.Globals.{in_force}

-- the values at each Push, the latest last
unfoldable pub saved_of : {T : Type 0} → (List ItemValue → T) → List ItemValue → List T
saved_of values [] = []
saved_of values (item ∷ before) = if is_push (tag item) then saved_of values before ++ values before ∷ [] else saved_of values before

pub record StackRefines {T : Type 0} (values : List ItemValue → T) (before : List ItemValue) (stack : Stack T) : Type 0 where
  pub now : stack.now ≡ values (in_force before)
  pub saved : stack.saved.items ≡ saved_of values (in_force before)
