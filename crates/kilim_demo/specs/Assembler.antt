-- Instructions as bytes (JVMS 6.5): a number, and what stands behind it.
use Rattle.std.specs.Prelude.{ℕ, ◌-◌, List, [], ◌∷◌}
use Rattle.std.specs.List.{flat_map}
use Rattle.kilim_class_grammar.specs.Spelling.{u2}
use Rattle.kilim_demo.specs.declared.assembler.Op.{Op}
use Rattle.kilim_demo.specs.declared.assembler.Op.TheVariants.{Plain, Byte, Pair, Two}

-- nothing; a byte; two bytes, which are an index, a number or a distance; two bytes that are numbers each
abbrev pub bytes_of : Op → List ℕ
bytes_of (Plain op) = op ∷ []
bytes_of (Byte op n) = op ∷ n ∷ []
bytes_of (Pair op n) = op ∷ u2 n
bytes_of (Two op m n) = op ∷ m ∷ n ∷ []

-- one behind the other
abbrev pub code_of : List Op → List ℕ
code_of ops = flat_map bytes_of ops

-- a distance of so many bytes back, in two's complement
abbrev pub back : ℕ → ℕ
back n = 65536 - n

abbrev pub aconst_null : ℕ
aconst_null = 1

abbrev pub iconst_0 : ℕ
iconst_0 = 3

abbrev pub bipush : ℕ
bipush = 16

abbrev pub sipush : ℕ
sipush = 17

abbrev pub aload : ℕ
aload = 25

abbrev pub iload_1 : ℕ
iload_1 = 27

abbrev pub iload_3 : ℕ
iload_3 = 29

abbrev pub aload_0 : ℕ
aload_0 = 42

abbrev pub aload_1 : ℕ
aload_1 = 43

abbrev pub aload_2 : ℕ
aload_2 = 44

abbrev pub aload_3 : ℕ
aload_3 = 45

abbrev pub astore : ℕ
astore = 58

abbrev pub istore_1 : ℕ
istore_1 = 60

abbrev pub istore_3 : ℕ
istore_3 = 62

abbrev pub astore_2 : ℕ
astore_2 = 77

abbrev pub astore_3 : ℕ
astore_3 = 78

abbrev pub dup : ℕ
dup = 89

abbrev pub iadd : ℕ
iadd = 96

abbrev pub irem : ℕ
irem = 112

abbrev pub iinc : ℕ
iinc = 132

abbrev pub if_icmpge : ℕ
if_icmpge = 162

abbrev pub if_icmpgt : ℕ
if_icmpgt = 163

abbrev pub goto : ℕ
goto = 167

abbrev pub return : ℕ
return = 177

abbrev pub getfield : ℕ
getfield = 180

abbrev pub putfield : ℕ
putfield = 181

abbrev pub invokevirtual : ℕ
invokevirtual = 182

abbrev pub invokespecial : ℕ
invokespecial = 183

abbrev pub invokestatic : ℕ
invokestatic = 184

abbrev pub new : ℕ
new = 187

abbrev pub checkcast : ℕ
checkcast = 192

abbrev pub ifnull : ℕ
ifnull = 198
