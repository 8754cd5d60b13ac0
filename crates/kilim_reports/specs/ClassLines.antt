-- The line of a class file that can't be read: the name of the file as the words give it, and its first fault.
use Rattle.std.specs.Prelude.{◌≡◌, ℕ, List, [], ◌∷◌, ◌++◌, codes}
use Rattle.std.specs.Fmt.{decimal}
use Rattle.kilim_class_pool.specs.declared.fault.PoolFault.{PoolFault}
use Rattle.kilim_class_pool.specs.declared.fault.PoolFault.TheVariants as of_pool
use Rattle.kilim_class_attributes.specs.declared.parts.fault.AttributeFault.{AttributeFault}
use Rattle.kilim_class_attributes.specs.declared.parts.fault.AttributeFault.TheVariants as of_attribute
use Rattle.kilim_class_attributes.specs.parts.Names as attribute_name
use Rattle.kilim_class_file.specs.declared.fault.ClassFault.{ClassFault}
use Rattle.kilim_class_file.specs.declared.fault.ClassFault.TheVariants as fault
use Rattle.kilim_reports.specs.Names.{method_text}

-- a word and a number, or two
abbrev pub one_number : List ℕ → ℕ → List ℕ
one_number word n = word ++ (codes " " ++ decimal n)

abbrev pub two_numbers : List ℕ → ℕ → ℕ → List ℕ
two_numbers word m n = word ++ (codes " " ++ (decimal m ++ (codes " " ++ decimal n)))

-- a fault that isn't held in a class fault has no words
abbrev pub pool_words : PoolFault → List ℕ
pool_words (of_pool.Tag index tag) = two_numbers (codes "pool tag") index tag
pool_words (of_pool.BadIndex index) = one_number (codes "pool index") index
pool_words (of_pool.Text index) = one_number (codes "pool text") index
pool_words of_pool.Cut = []
pool_words of_pool.Memory = []

abbrev pub attribute_words : AttributeFault → List ℕ
attribute_words (of_attribute.Length name) = codes "attribute length " ++ attribute_name.name_text name
attribute_words (of_attribute.FrameTag tag) = one_number (codes "attribute frame") tag
attribute_words (of_attribute.BadIndex index) = one_number (codes "attribute index") index
attribute_words (of_attribute.Twice name) = codes "attribute twice " ++ attribute_name.name_text name
attribute_words of_attribute.Cut = []
attribute_words of_attribute.Memory = []

abbrev pub fault_words : ClassFault → List ℕ
fault_words fault.Magic = codes "magic"
fault_words (fault.Version major minor) = two_numbers (codes "version") major minor
fault_words (fault.Pool of) = pool_words of
fault_words (fault.Attribute of) = attribute_words of
fault_words (fault.Extra at) = one_number (codes "extra") at
fault_words (fault.Cut at) = one_number (codes "cut") at
fault_words fault.TooLarge = codes "too-large"
fault_words (fault.CodePresence method) = codes "code " ++ method_text method
fault_words fault.Memory = []

-- the line, with its line feed
abbrev pub class_line : List ℕ → ClassFault → List ℕ
class_line file of = codes "class " ++ (file ++ (codes " " ++ (fault_words of ++ codes "\n")))
