-- The first class file whose woven file may get too large (own): by the sums that bound its pool and its length.
use Rattle.std.specs.Prelude.{ℕ, nat_lt, if◌then◌else◌, List, [], ◌∷◌, length, drop, Option, Some, None}
use Rattle.kilim_program.specs.declared.class.Class.{Class}
use Rattle.kilim_program.specs.declared.class.Method.{Method}
use Rattle.kilim_program.specs.Program.{Program}
use Rattle.kilim_class_file.specs.declared.class_file.ClassFile.{ClassFile}
use Rattle.kilim_class_file.specs.declared.class_file.MemberInfo.{MemberInfo}
use Rattle.kilim_class_file.specs.Text.{size_limit}
use Rattle.kilim_weave_file.specs.Applied.{most_entries}
use Rattle.kilim_weave_file.specs.declared.fault.ApplyFault.{ApplyFault}
use Rattle.kilim_weave_file.specs.declared.fault.ApplyFault.TheVariants.{FileTooLarge, PoolFull}
use Rattle.kilim_weave_file_spec.specs.Sizes.{file_size, pool_sum}
use Rattle.kilim_weave_file_spec.specs.WovenFile.{MethodPair}

-- the sums ask for the methods of the file and of the plain program alone
abbrev pub plain_pairs : List MemberInfo → List Method → List MethodPair
plain_pairs (i ∷ is) (m ∷ ms) = record { info = i; plain = m; method = m; counted = [] } ∷ plain_pairs is ms
plain_pairs is ms = []

-- of both the pool comes first
abbrev pub fault_by : (sum size : ℕ) → Option ApplyFault
fault_by sum size = if nat_lt most_entries sum then Some (PoolFull sum) else (if nat_lt size_limit size then Some (FileTooLarge size) else None)

abbrev pub size_fault : Program → ClassFile → List Method → Option ApplyFault
size_fault p file methods = fault_by (pool_sum p file (plain_pairs file.methods methods)) (file_size p file (plain_pairs file.methods methods))

abbrev pub or_later : List ℕ → Option ApplyFault → Option (List ℕ × ApplyFault) → Option (List ℕ × ApplyFault)
or_later name None later = later
or_later name (Some fault) later = Some (name, fault)

-- each file with its class, and with the next methods, as many as it has
abbrev pub first_fault_in : Program → List Class → List ClassFile → List Method → Option (List ℕ × ApplyFault)
first_fault_in p (class ∷ classes) (file ∷ files) methods = or_later class.name (size_fault p file methods) (first_fault_in p classes files (drop (length file.methods) methods))
first_fault_in p classes files methods = None

-- the first, in the order of the files, with the name of its class
abbrev pub first_size_fault : Program → List ClassFile → Option (List ℕ × ApplyFault)
first_size_fault p files = first_fault_in p p.classes files p.methods
