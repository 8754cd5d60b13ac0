-- Numbers of instructions by their names (JVMS 6.5), those that other definitions name.
use Rattle.std.specs.Prelude.{ℕ}

abbrev pub nop : ℕ
nop = 0

abbrev pub aconst_null : ℕ
aconst_null = 1

abbrev pub bipush : ℕ
bipush = 16

abbrev pub sipush : ℕ
sipush = 17

abbrev pub ldc : ℕ
ldc = 18

abbrev pub ldc_w : ℕ
ldc_w = 19

abbrev pub ldc2_w : ℕ
ldc2_w = 20

abbrev pub iload : ℕ
iload = 21

abbrev pub lload : ℕ
lload = 22

abbrev pub aload : ℕ
aload = 25

abbrev pub iload_0 : ℕ
iload_0 = 26

abbrev pub lload_0 : ℕ
lload_0 = 30

abbrev pub aload_0 : ℕ
aload_0 = 42

abbrev pub istore : ℕ
istore = 54

abbrev pub lstore : ℕ
lstore = 55

abbrev pub astore : ℕ
astore = 58

abbrev pub istore_0 : ℕ
istore_0 = 59

abbrev pub lstore_0 : ℕ
lstore_0 = 63

abbrev pub astore_0 : ℕ
astore_0 = 75

abbrev pub pop : ℕ
pop = 87

abbrev pub pop2 : ℕ
pop2 = 88

abbrev pub ifeq : ℕ
ifeq = 153

abbrev pub goto : ℕ
goto = 167

abbrev pub tableswitch : ℕ
tableswitch = 170

abbrev pub lookupswitch : ℕ
lookupswitch = 171

abbrev pub ireturn : ℕ
ireturn = 172

abbrev pub lreturn : ℕ
lreturn = 173

abbrev pub areturn : ℕ
areturn = 176

abbrev pub return : ℕ
return = 177

abbrev pub getstatic : ℕ
getstatic = 178

abbrev pub getfield : ℕ
getfield = 180

abbrev pub putfield : ℕ
putfield = 181

abbrev pub invokevirtual : ℕ
invokevirtual = 182

abbrev pub invokespecial : ℕ
invokespecial = 183

abbrev pub invokestatic : ℕ
invokestatic = 184

abbrev pub new : ℕ
new = 187

abbrev pub anewarray : ℕ
anewarray = 189

abbrev pub athrow : ℕ
athrow = 191

abbrev pub checkcast : ℕ
checkcast = 192

abbrev pub instanceof : ℕ
instanceof = 193
