use Rattle.kilim_class_grammar.proofs.Fronts.{cut_or_broken}
use Rattle.kilim_class_attributes.specs.declared.parts.fault.AttributeFault.TheVariants as fault
use Rattle.kilim_class_attributes.proofs.Fronts.{attributes_stay}
use Rattle.kilim_class_attributes.proofs.laws.attributes_are_cut_or_broken.Goals as goal

pub returns-clause-stays : goal.returns-clause-stays
returns-clause-stays c = attributes_stay

pub returns-clause-fronts : goal.returns-clause-fronts
returns-clause-fronts c = λ pool place. cut_or_broken (c.attributes_are_spelled.ensures pool place) fault.Cut (attributes_stay pool place)
