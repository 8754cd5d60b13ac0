-- Operands of the code as those of the definitions.
use Rattle.std.specs.Prelude.{ℕ, zero, suc, true, List, [], ◌∷◌, ◌++◌, map}
use Rattle.kilim_program.specs.declared.ty.Base.TheVariants as base
use Rattle.kilim_program.specs.declared.verified.VType.TheVariants.{Top}
use Rattle.kilim_type_spec.specs.Step.{Operand, Is, AReference, Initialized, ArrayOf, References, AnArray, Own, Further, needs, is_object, class_vtype}
use Rattle.kilim_type_step.specs.declared.operands.Taken.{Taken}
use Rattle.kilim_type_step.specs.declared.operands.Taken.TheVariants as taken
use Rattle.kilim_type_step.specs.declared.operands.Also.{Also}
use Rattle.kilim_type_step.specs.declared.operands.Also.TheVariants as also

abbrev pub operand_of : Taken → Operand
operand_of (taken.Is t) = Is t
operand_of taken.Reference = AReference
operand_of taken.Initialized = Initialized
operand_of (taken.ArrayOf b) = ArrayOf (b ∷ [])
operand_of taken.Bytes = ArrayOf (base.Byte ∷ base.Bool ∷ [])
operand_of taken.References = References
operand_of taken.Array = AnArray
operand_of (taken.Own c) = Own c

abbrev pub operands_of : List Taken → List Operand
operands_of ts = map operand_of ts

abbrev pub anything : ℕ → List Operand
anything zero = []
anything (suc n) = Is Top ∷ anything n

abbrev pub further_of : Also → Further
further_of (also.Needs rule holds) = needs rule holds
further_of also.OneInitialized = record { number = 10; holds = true; operands = Initialized ∷ [] }
further_of also.TwoInitialized = record { number = 10; holds = true; operands = Initialized ∷ Initialized ∷ [] }
further_of (also.Returns t) = record { number = 11; holds = is_object t; operands = Is t ∷ [] }
further_of (also.Below n c) = record { number = 5; holds = true; operands = anything n ++ (Is (class_vtype c) ∷ []) }

abbrev pub furthers_of : List Also → List Further
furthers_of xs = map further_of xs
