-- What is known of methods beside those of superclasses.
use Rattle.kilim_link_spec.specs.World.{World}
use Rattle.kilim_link_override_faults.specs.declared.ancestry.Ancestry.{Ancestry}
use Rattle.kilim_link_override_faults.specs.Apart.{says_apart}
use Rattle.kilim_link_override_faults.specs.Heritage.{Finds, Inherits}

-- What is known is right.
pub record Knows (w : World) (a : Ancestry) : Type 0 where
  pub inherits : Inherits w a.heritage
  pub apart : Finds w a.apart (says_apart w)
