-- What is answered where a class file is to be woven.
use Rattle.std.specs.Prelude.{◌≡◌, ℕ, ◌<◌, ◌≤◌, List, Result, Ok, Err}
use Rattle.kilim_program.specs.Program.{Program}
use Rattle.kilim_class_file.specs.declared.class_file.ClassFile.{ClassFile}
use Rattle.kilim_class_file.specs.Text.{size_limit}
use Rattle.kilim_weave_file_spec.specs.Sizes.{file_size, pool_sum}
use Rattle.kilim_weave_file_spec.specs.WovenFile.{MethodPair, woven_file}
use Rattle.kilim_weave_file.specs.declared.fault.ApplyFault.{ApplyFault}
use Rattle.kilim_weave_file.specs.declared.fault.ApplyFault.TheVariants.{PoolFull, FileTooLarge, Memory}

-- the most indices of a pool (JVMS 4.1)
unfoldable pub most_entries : ℕ
most_entries = 65535

-- pool and text stay within their bounds
abbrev pub Fit : Program → ClassFile → List MethodPair → Type 0
Fit p file xs = (pool_sum p file xs ≤ most_entries) × (file_size p file xs ≤ size_limit)

-- the pool may get too large, or else the text may
abbrev pub Refused : Program → ClassFile → List MethodPair → ApplyFault → Type 0
Refused p file xs (PoolFull n) = (n ≡ pool_sum p file xs) × (most_entries < n)
Refused p file xs (FileTooLarge n) = (n ≡ file_size p file xs) × (pool_sum p file xs ≤ most_entries) × (size_limit < n)
Refused p file xs Memory = Unit {0}

abbrev pub SizesFit : Program → ClassFile → List MethodPair → Result Unit ApplyFault → Type 0
SizesFit p file xs (Ok u) = Fit p file xs
SizesFit p file xs (Err fault) = Refused p file xs fault

-- The woven file, where both fit; else which doesn't. Want of memory may come at any time.
abbrev pub Applied : (plain woven : Program) → ClassFile → List MethodPair → Result ClassFile ApplyFault → Type 0
Applied p w file xs (Ok f) = (f ≡ woven_file w file xs) × Fit p file xs
Applied p w file xs (Err fault) = Refused p file xs fault
