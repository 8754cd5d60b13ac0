-- A pool that is cut, and one that is broken.
use Rattle.std.specs.Prelude.{◌≡◌}
use Rattle.kilim_class_grammar.specs.Fronts.{StaysRead, CutOrBroken}
use Rattle.kilim_class_pool.specs.declared.fault.PoolFault.{PoolFault}
use Rattle.kilim_class_pool.specs.declared.fault.PoolFault.TheVariants as pool
use Rattle.kilim_class_pool.specs.Spelling.{pool_text, PoolFits}
use Rattle.kilim_class_pool.specs.Reading.{pool_at}

abbrev pub IsCut : PoolFault → Type 0
IsCut fault = fault ≡ pool.Cut

-- what was read stays read, and each fault but that the bytes are cut stays, whatever follows
abbrev pub PoolStays : Type 0
PoolStays = StaysRead IsCut pool_at pool_at

-- Each proper front of a pool's text is cut; a pool that is broken can't be spelled, whatever follows.
abbrev pub PoolIsCutOrBroken : Type 0
PoolIsCutOrBroken = CutOrBroken pool_text pool_at PoolFits pool.Cut
