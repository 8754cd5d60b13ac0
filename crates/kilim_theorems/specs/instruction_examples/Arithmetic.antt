-- Arithmetic by examples: the instruction, its operands in the order in which they were pushed, and the result. The
-- results are those of a program in Java, run by `java` of version 17.
use Rattle.std.specs.Prelude.{◌≡◌, ℤ, pos, negsuc, Bool, true, false, List, [], ◌∷◌}
use Rattle.std.specs.List.{list_all}
use Rattle.std.specs.Ordering.{int_eq}
use Rattle.kilim_program.specs.declared.class.Method.{Method}
use Rattle.kilim_program.specs.declared.instr.Instr.{Instr}
use Rattle.kilim_program.specs.declared.instr.Instr.TheVariants.{I2b, I2c, I2l, I2s, Iadd, Iand, Idiv, Imul, Ineg, Ior, Irem, Ishl, Ishr, Isub, Iushr, Ixor, L2i, Ladd, Land, Lcmp, Ldiv, Lmul, Lneg, Lor, Lrem, Lshl, Lshr, Lsub, Lushr, Lxor}
use Rattle.kilim_program.specs.declared.value.Value.{Value}
use Rattle.kilim_program.specs.declared.value.Value.TheVariants.{Int, Long}
use Rattle.kilim_program.specs.Program.{Program}
use Rattle.kilim_run_state.specs.Machine.{Objects}
use Rattle.kilim_run_machine.specs.Effect.{Effect, Goes}
use Rattle.kilim_run_machine.specs.Does.{does}

abbrev pub has_int : List Value → ℤ → Bool
has_int (Int x ∷ []) r = int_eq x r
has_int vs r = false

abbrev pub has_long : List Value → ℤ → Bool
has_long (Long x ∷ []) r = int_eq x r
has_long vs r = false

-- the instruction goes on with that int, or that long, alone on the stack
abbrev pub gives_int : Effect → ℤ → Bool
gives_int (Goes place locals stack heap) r = has_int stack r
gives_int e r = false

abbrev pub gives_long : Effect → ℤ → Bool
gives_long (Goes place locals stack heap) r = has_long stack r
gives_long e r = false

-- two ints give an int
abbrev pub two_ints : List (Instr × ℤ × ℤ × ℤ)
two_ints =
    (Iadd, pos 7, pos 2, pos 9) ∷
    (Isub, pos 7, pos 2, pos 5) ∷
    (Imul, pos 7, pos 2, pos 14) ∷
    (Idiv, pos 7, pos 2, pos 3) ∷
    (Irem, pos 7, pos 2, pos 1) ∷
    (Iand, pos 7, pos 2, pos 2) ∷
    (Ior, pos 7, pos 2, pos 7) ∷
    (Ixor, pos 7, pos 2, pos 5) ∷
    (Iadd, negsuc 6, pos 2, negsuc 4) ∷
    (Isub, negsuc 6, pos 2, negsuc 8) ∷
    (Imul, negsuc 6, pos 2, negsuc 13) ∷
    (Idiv, negsuc 6, pos 2, negsuc 2) ∷
    (Irem, negsuc 6, pos 2, negsuc 0) ∷
    (Iand, negsuc 6, pos 2, pos 0) ∷
    (Ior, negsuc 6, pos 2, negsuc 4) ∷
    (Ixor, negsuc 6, pos 2, negsuc 4) ∷
    (Iadd, pos 7, negsuc 1, pos 5) ∷
    (Isub, pos 7, negsuc 1, pos 9) ∷
    (Imul, pos 7, negsuc 1, negsuc 13) ∷
    (Idiv, pos 7, negsuc 1, negsuc 2) ∷
    (Irem, pos 7, negsuc 1, pos 1) ∷
    (Iand, pos 7, negsuc 1, pos 6) ∷
    (Ior, pos 7, negsuc 1, negsuc 0) ∷
    (Ixor, pos 7, negsuc 1, negsuc 6) ∷
    (Iadd, negsuc 6, negsuc 1, negsuc 8) ∷
    (Isub, negsuc 6, negsuc 1, negsuc 4) ∷
    (Imul, negsuc 6, negsuc 1, pos 14) ∷
    (Idiv, negsuc 6, negsuc 1, pos 3) ∷
    (Irem, negsuc 6, negsuc 1, negsuc 0) ∷
    (Iand, negsuc 6, negsuc 1, negsuc 7) ∷
    (Ior, negsuc 6, negsuc 1, negsuc 0) ∷
    (Ixor, negsuc 6, negsuc 1, pos 7) ∷
    (Iadd, negsuc 2147483647, negsuc 0, pos 2147483647) ∷
    (Isub, negsuc 2147483647, negsuc 0, negsuc 2147483646) ∷
    (Imul, negsuc 2147483647, negsuc 0, negsuc 2147483647) ∷
    (Idiv, negsuc 2147483647, negsuc 0, negsuc 2147483647) ∷
    (Irem, negsuc 2147483647, negsuc 0, pos 0) ∷
    (Iand, negsuc 2147483647, negsuc 0, negsuc 2147483647) ∷
    (Ior, negsuc 2147483647, negsuc 0, negsuc 0) ∷
    (Ixor, negsuc 2147483647, negsuc 0, pos 2147483647) ∷
    (Iadd, pos 2147483647, pos 1, negsuc 2147483647) ∷
    (Isub, pos 2147483647, pos 1, pos 2147483646) ∷
    (Imul, pos 2147483647, pos 1, pos 2147483647) ∷
    (Idiv, pos 2147483647, pos 1, pos 2147483647) ∷
    (Irem, pos 2147483647, pos 1, pos 0) ∷
    (Iand, pos 2147483647, pos 1, pos 1) ∷
    (Ior, pos 2147483647, pos 1, pos 2147483647) ∷
    (Ixor, pos 2147483647, pos 1, pos 2147483646) ∷
    (Iadd, negsuc 2147483647, negsuc 2147483647, pos 0) ∷
    (Isub, negsuc 2147483647, negsuc 2147483647, pos 0) ∷
    (Imul, negsuc 2147483647, negsuc 2147483647, pos 0) ∷
    (Idiv, negsuc 2147483647, negsuc 2147483647, pos 1) ∷
    (Irem, negsuc 2147483647, negsuc 2147483647, pos 0) ∷
    (Iand, negsuc 2147483647, negsuc 2147483647, negsuc 2147483647) ∷
    (Ior, negsuc 2147483647, negsuc 2147483647, negsuc 2147483647) ∷
    (Ixor, negsuc 2147483647, negsuc 2147483647, pos 0) ∷
    (Iadd, pos 65536, pos 65536, pos 131072) ∷
    (Isub, pos 65536, pos 65536, pos 0) ∷
    (Imul, pos 65536, pos 65536, pos 0) ∷
    (Idiv, pos 65536, pos 65536, pos 1) ∷
    (Irem, pos 65536, pos 65536, pos 0) ∷
    (Iand, pos 65536, pos 65536, pos 65536) ∷
    (Ior, pos 65536, pos 65536, pos 65536) ∷
    (Ixor, pos 65536, pos 65536, pos 0) ∷
    (Iadd, pos 123456789, negsuc 987654320, negsuc 864197531) ∷
    (Isub, pos 123456789, negsuc 987654320, pos 1111111110) ∷
    (Imul, pos 123456789, negsuc 987654320, pos 67153019) ∷
    (Idiv, pos 123456789, negsuc 987654320, pos 0) ∷
    (Irem, pos 123456789, negsuc 987654320, pos 123456789) ∷
    (Iand, pos 123456789, negsuc 987654320, pos 83985669) ∷
    (Ior, pos 123456789, negsuc 987654320, negsuc 948183200) ∷
    (Ixor, pos 123456789, negsuc 987654320, negsuc 1032168869) ∷
    (Iadd, pos 0, negsuc 2147483647, negsuc 2147483647) ∷
    (Isub, pos 0, negsuc 2147483647, negsuc 2147483647) ∷
    (Imul, pos 0, negsuc 2147483647, pos 0) ∷
    (Idiv, pos 0, negsuc 2147483647, pos 0) ∷
    (Irem, pos 0, negsuc 2147483647, pos 0) ∷
    (Iand, pos 0, negsuc 2147483647, pos 0) ∷
    (Ior, pos 0, negsuc 2147483647, negsuc 2147483647) ∷
    (Ixor, pos 0, negsuc 2147483647, negsuc 2147483647) ∷
    (Ishl, pos 1, pos 31, negsuc 2147483647) ∷
    (Ishr, pos 1, pos 31, pos 0) ∷
    (Iushr, pos 1, pos 31, pos 0) ∷
    (Ishl, pos 1, pos 32, pos 1) ∷
    (Ishr, pos 1, pos 32, pos 1) ∷
    (Iushr, pos 1, pos 32, pos 1) ∷
    (Ishl, negsuc 0, pos 33, negsuc 1) ∷
    (Ishr, negsuc 0, pos 33, negsuc 0) ∷
    (Iushr, negsuc 0, pos 33, pos 2147483647) ∷
    (Ishl, negsuc 7, pos 1, negsuc 15) ∷
    (Ishr, negsuc 7, pos 1, negsuc 3) ∷
    (Iushr, negsuc 7, pos 1, pos 2147483644) ∷
    (Ishl, negsuc 7, negsuc 0, pos 0) ∷
    (Ishr, negsuc 7, negsuc 0, negsuc 0) ∷
    (Iushr, negsuc 7, negsuc 0, pos 1) ∷
    (Ishl, negsuc 2147483647, pos 31, pos 0) ∷
    (Ishr, negsuc 2147483647, pos 31, negsuc 0) ∷
    (Iushr, negsuc 2147483647, pos 31, pos 1) ∷
    (Ishl, pos 2147483647, pos 36, negsuc 15) ∷
    (Ishr, pos 2147483647, pos 36, pos 134217727) ∷
    (Iushr, pos 2147483647, pos 36, pos 134217727) ∷
    (Ishl, pos 123456789, pos 5, negsuc 344350047) ∷
    (Ishr, pos 123456789, pos 5, pos 3858024) ∷
    (Iushr, pos 123456789, pos 5, pos 3858024) ∷
    []

-- an int gives an int
abbrev pub one_int : List (Instr × ℤ × ℤ)
one_int =
    (I2b, pos 0, pos 0) ∷
    (I2c, pos 0, pos 0) ∷
    (I2s, pos 0, pos 0) ∷
    (Ineg, pos 0, pos 0) ∷
    (I2b, pos 1, pos 1) ∷
    (I2c, pos 1, pos 1) ∷
    (I2s, pos 1, pos 1) ∷
    (Ineg, pos 1, negsuc 0) ∷
    (I2b, negsuc 0, negsuc 0) ∷
    (I2c, negsuc 0, pos 65535) ∷
    (I2s, negsuc 0, negsuc 0) ∷
    (Ineg, negsuc 0, pos 1) ∷
    (I2b, pos 127, pos 127) ∷
    (I2c, pos 127, pos 127) ∷
    (I2s, pos 127, pos 127) ∷
    (Ineg, pos 127, negsuc 126) ∷
    (I2b, pos 128, negsuc 127) ∷
    (I2c, pos 128, pos 128) ∷
    (I2s, pos 128, pos 128) ∷
    (Ineg, pos 128, negsuc 127) ∷
    (I2b, negsuc 128, pos 127) ∷
    (I2c, negsuc 128, pos 65407) ∷
    (I2s, negsuc 128, negsuc 128) ∷
    (Ineg, negsuc 128, pos 129) ∷
    (I2b, pos 255, negsuc 0) ∷
    (I2c, pos 255, pos 255) ∷
    (I2s, pos 255, pos 255) ∷
    (Ineg, pos 255, negsuc 254) ∷
    (I2b, pos 256, pos 0) ∷
    (I2c, pos 256, pos 256) ∷
    (I2s, pos 256, pos 256) ∷
    (Ineg, pos 256, negsuc 255) ∷
    (I2b, pos 32767, negsuc 0) ∷
    (I2c, pos 32767, pos 32767) ∷
    (I2s, pos 32767, pos 32767) ∷
    (Ineg, pos 32767, negsuc 32766) ∷
    (I2b, pos 32768, pos 0) ∷
    (I2c, pos 32768, pos 32768) ∷
    (I2s, pos 32768, negsuc 32767) ∷
    (Ineg, pos 32768, negsuc 32767) ∷
    (I2b, pos 65535, negsuc 0) ∷
    (I2c, pos 65535, pos 65535) ∷
    (I2s, pos 65535, negsuc 0) ∷
    (Ineg, pos 65535, negsuc 65534) ∷
    (I2b, pos 65536, pos 0) ∷
    (I2c, pos 65536, pos 0) ∷
    (I2s, pos 65536, pos 0) ∷
    (Ineg, pos 65536, negsuc 65535) ∷
    (I2b, negsuc 32768, negsuc 0) ∷
    (I2c, negsuc 32768, pos 32767) ∷
    (I2s, negsuc 32768, pos 32767) ∷
    (Ineg, negsuc 32768, pos 32769) ∷
    (I2b, pos 2147483647, negsuc 0) ∷
    (I2c, pos 2147483647, pos 65535) ∷
    (I2s, pos 2147483647, negsuc 0) ∷
    (Ineg, pos 2147483647, negsuc 2147483646) ∷
    (I2b, negsuc 2147483647, pos 0) ∷
    (I2c, negsuc 2147483647, pos 0) ∷
    (I2s, negsuc 2147483647, pos 0) ∷
    (Ineg, negsuc 2147483647, negsuc 2147483647) ∷
    []

-- an int gives a long
abbrev pub int_to_long : List (Instr × ℤ × ℤ)
int_to_long =
    (I2l, pos 0, pos 0) ∷
    (I2l, pos 1, pos 1) ∷
    (I2l, negsuc 0, negsuc 0) ∷
    (I2l, pos 127, pos 127) ∷
    (I2l, pos 128, pos 128) ∷
    (I2l, negsuc 128, negsuc 128) ∷
    (I2l, pos 255, pos 255) ∷
    (I2l, pos 256, pos 256) ∷
    (I2l, pos 32767, pos 32767) ∷
    (I2l, pos 32768, pos 32768) ∷
    (I2l, pos 65535, pos 65535) ∷
    (I2l, pos 65536, pos 65536) ∷
    (I2l, negsuc 32768, negsuc 32768) ∷
    (I2l, pos 2147483647, pos 2147483647) ∷
    (I2l, negsuc 2147483647, negsuc 2147483647) ∷
    []

-- two longs give a long
abbrev pub two_longs : List (Instr × ℤ × ℤ × ℤ)
two_longs =
    (Ladd, pos 7, pos 2, pos 9) ∷
    (Lsub, pos 7, pos 2, pos 5) ∷
    (Lmul, pos 7, pos 2, pos 14) ∷
    (Ldiv, pos 7, pos 2, pos 3) ∷
    (Lrem, pos 7, pos 2, pos 1) ∷
    (Land, pos 7, pos 2, pos 2) ∷
    (Lor, pos 7, pos 2, pos 7) ∷
    (Lxor, pos 7, pos 2, pos 5) ∷
    (Ladd, negsuc 6, pos 2, negsuc 4) ∷
    (Lsub, negsuc 6, pos 2, negsuc 8) ∷
    (Lmul, negsuc 6, pos 2, negsuc 13) ∷
    (Ldiv, negsuc 6, pos 2, negsuc 2) ∷
    (Lrem, negsuc 6, pos 2, negsuc 0) ∷
    (Land, negsuc 6, pos 2, pos 0) ∷
    (Lor, negsuc 6, pos 2, negsuc 4) ∷
    (Lxor, negsuc 6, pos 2, negsuc 4) ∷
    (Ladd, pos 7, negsuc 1, pos 5) ∷
    (Lsub, pos 7, negsuc 1, pos 9) ∷
    (Lmul, pos 7, negsuc 1, negsuc 13) ∷
    (Ldiv, pos 7, negsuc 1, negsuc 2) ∷
    (Lrem, pos 7, negsuc 1, pos 1) ∷
    (Land, pos 7, negsuc 1, pos 6) ∷
    (Lor, pos 7, negsuc 1, negsuc 0) ∷
    (Lxor, pos 7, negsuc 1, negsuc 6) ∷
    (Ladd, negsuc 6, negsuc 1, negsuc 8) ∷
    (Lsub, negsuc 6, negsuc 1, negsuc 4) ∷
    (Lmul, negsuc 6, negsuc 1, pos 14) ∷
    (Ldiv, negsuc 6, negsuc 1, pos 3) ∷
    (Lrem, negsuc 6, negsuc 1, negsuc 0) ∷
    (Land, negsuc 6, negsuc 1, negsuc 7) ∷
    (Lor, negsuc 6, negsuc 1, negsuc 0) ∷
    (Lxor, negsuc 6, negsuc 1, pos 7) ∷
    (Ladd, negsuc 9223372036854775807, negsuc 0, pos 9223372036854775807) ∷
    (Lsub, negsuc 9223372036854775807, negsuc 0, negsuc 9223372036854775806) ∷
    (Lmul, negsuc 9223372036854775807, negsuc 0, negsuc 9223372036854775807) ∷
    (Ldiv, negsuc 9223372036854775807, negsuc 0, negsuc 9223372036854775807) ∷
    (Lrem, negsuc 9223372036854775807, negsuc 0, pos 0) ∷
    (Land, negsuc 9223372036854775807, negsuc 0, negsuc 9223372036854775807) ∷
    (Lor, negsuc 9223372036854775807, negsuc 0, negsuc 0) ∷
    (Lxor, negsuc 9223372036854775807, negsuc 0, pos 9223372036854775807) ∷
    (Ladd, pos 9223372036854775807, pos 1, negsuc 9223372036854775807) ∷
    (Lsub, pos 9223372036854775807, pos 1, pos 9223372036854775806) ∷
    (Lmul, pos 9223372036854775807, pos 1, pos 9223372036854775807) ∷
    (Ldiv, pos 9223372036854775807, pos 1, pos 9223372036854775807) ∷
    (Lrem, pos 9223372036854775807, pos 1, pos 0) ∷
    (Land, pos 9223372036854775807, pos 1, pos 1) ∷
    (Lor, pos 9223372036854775807, pos 1, pos 9223372036854775807) ∷
    (Lxor, pos 9223372036854775807, pos 1, pos 9223372036854775806) ∷
    (Ladd, negsuc 9223372036854775807, negsuc 9223372036854775807, pos 0) ∷
    (Lsub, negsuc 9223372036854775807, negsuc 9223372036854775807, pos 0) ∷
    (Lmul, negsuc 9223372036854775807, negsuc 9223372036854775807, pos 0) ∷
    (Ldiv, negsuc 9223372036854775807, negsuc 9223372036854775807, pos 1) ∷
    (Lrem, negsuc 9223372036854775807, negsuc 9223372036854775807, pos 0) ∷
    (Land, negsuc 9223372036854775807, negsuc 9223372036854775807, negsuc 9223372036854775807) ∷
    (Lor, negsuc 9223372036854775807, negsuc 9223372036854775807, negsuc 9223372036854775807) ∷
    (Lxor, negsuc 9223372036854775807, negsuc 9223372036854775807, pos 0) ∷
    (Ladd, pos 4294967296, pos 4294967296, pos 8589934592) ∷
    (Lsub, pos 4294967296, pos 4294967296, pos 0) ∷
    (Lmul, pos 4294967296, pos 4294967296, pos 0) ∷
    (Ldiv, pos 4294967296, pos 4294967296, pos 1) ∷
    (Lrem, pos 4294967296, pos 4294967296, pos 0) ∷
    (Land, pos 4294967296, pos 4294967296, pos 4294967296) ∷
    (Lor, pos 4294967296, pos 4294967296, pos 4294967296) ∷
    (Lxor, pos 4294967296, pos 4294967296, pos 0) ∷
    (Ladd, pos 1234567890123456789, negsuc 987654321987654320, pos 246913568135802468) ∷
    (Lsub, pos 1234567890123456789, negsuc 987654321987654320, pos 2222222212111111110) ∷
    (Lmul, pos 1234567890123456789, negsuc 987654321987654320, negsuc 2456329625975503236) ∷
    (Ldiv, pos 1234567890123456789, negsuc 987654321987654320, negsuc 0) ∷
    (Lrem, pos 1234567890123456789, negsuc 987654321987654320, pos 246913568135802468) ∷
    (Land, pos 1234567890123456789, negsuc 987654321987654320, pos 1153485141772435717) ∷
    (Lor, pos 1234567890123456789, negsuc 987654321987654320, negsuc 906571573636633248) ∷
    (Lxor, pos 1234567890123456789, negsuc 987654321987654320, negsuc 2060056715409068965) ∷
    (Ladd, pos 0, negsuc 9223372036854775807, negsuc 9223372036854775807) ∷
    (Lsub, pos 0, negsuc 9223372036854775807, negsuc 9223372036854775807) ∷
    (Lmul, pos 0, negsuc 9223372036854775807, pos 0) ∷
    (Ldiv, pos 0, negsuc 9223372036854775807, pos 0) ∷
    (Lrem, pos 0, negsuc 9223372036854775807, pos 0) ∷
    (Land, pos 0, negsuc 9223372036854775807, pos 0) ∷
    (Lor, pos 0, negsuc 9223372036854775807, negsuc 9223372036854775807) ∷
    (Lxor, pos 0, negsuc 9223372036854775807, negsuc 9223372036854775807) ∷
    []

-- a long and an int give a long
abbrev pub shifted_longs : List (Instr × ℤ × ℤ × ℤ)
shifted_longs =
    (Lshl, pos 1, pos 63, negsuc 9223372036854775807) ∷
    (Lshr, pos 1, pos 63, pos 0) ∷
    (Lushr, pos 1, pos 63, pos 0) ∷
    (Lshl, pos 1, pos 64, pos 1) ∷
    (Lshr, pos 1, pos 64, pos 1) ∷
    (Lushr, pos 1, pos 64, pos 1) ∷
    (Lshl, negsuc 0, pos 65, negsuc 1) ∷
    (Lshr, negsuc 0, pos 65, negsuc 0) ∷
    (Lushr, negsuc 0, pos 65, pos 9223372036854775807) ∷
    (Lshl, negsuc 7, pos 1, negsuc 15) ∷
    (Lshr, negsuc 7, pos 1, negsuc 3) ∷
    (Lushr, negsuc 7, pos 1, pos 9223372036854775804) ∷
    (Lshl, negsuc 7, negsuc 0, pos 0) ∷
    (Lshr, negsuc 7, negsuc 0, negsuc 0) ∷
    (Lushr, negsuc 7, negsuc 0, pos 1) ∷
    (Lshl, negsuc 9223372036854775807, pos 63, pos 0) ∷
    (Lshr, negsuc 9223372036854775807, pos 63, negsuc 0) ∷
    (Lushr, negsuc 9223372036854775807, pos 63, pos 1) ∷
    (Lshl, pos 9223372036854775807, pos 68, negsuc 15) ∷
    (Lshr, pos 9223372036854775807, pos 68, pos 576460752303423487) ∷
    (Lushr, pos 9223372036854775807, pos 68, pos 576460752303423487) ∷
    (Lshl, pos 1234567890123456789, pos 5, pos 2612684336531514016) ∷
    (Lshr, pos 1234567890123456789, pos 5, pos 38580246566358024) ∷
    (Lushr, pos 1234567890123456789, pos 5, pos 38580246566358024) ∷
    []

-- two longs give an int
abbrev pub compared_longs : List (Instr × ℤ × ℤ × ℤ)
compared_longs =
    (Lcmp, pos 7, pos 2, pos 1) ∷
    (Lcmp, negsuc 6, pos 2, negsuc 0) ∷
    (Lcmp, pos 7, negsuc 1, pos 1) ∷
    (Lcmp, negsuc 6, negsuc 1, negsuc 0) ∷
    (Lcmp, negsuc 9223372036854775807, negsuc 0, negsuc 0) ∷
    (Lcmp, pos 9223372036854775807, pos 1, pos 1) ∷
    (Lcmp, negsuc 9223372036854775807, negsuc 9223372036854775807, pos 0) ∷
    (Lcmp, pos 4294967296, pos 4294967296, pos 0) ∷
    (Lcmp, pos 1234567890123456789, negsuc 987654321987654320, pos 1) ∷
    (Lcmp, pos 0, negsuc 9223372036854775807, pos 1) ∷
    []

-- a long gives a long
abbrev pub one_long : List (Instr × ℤ × ℤ)
one_long =
    (Lneg, pos 0, pos 0) ∷
    (Lneg, pos 1, negsuc 0) ∷
    (Lneg, negsuc 0, pos 1) ∷
    (Lneg, pos 2147483648, negsuc 2147483647) ∷
    (Lneg, negsuc 2147483648, pos 2147483649) ∷
    (Lneg, pos 4294967296, negsuc 4294967295) ∷
    (Lneg, pos 9223372036854775807, negsuc 9223372036854775806) ∷
    (Lneg, negsuc 9223372036854775807, negsuc 9223372036854775807) ∷
    []

-- a long gives an int
abbrev pub long_to_int : List (Instr × ℤ × ℤ)
long_to_int =
    (L2i, pos 0, pos 0) ∷
    (L2i, pos 1, pos 1) ∷
    (L2i, negsuc 0, negsuc 0) ∷
    (L2i, pos 2147483648, negsuc 2147483647) ∷
    (L2i, negsuc 2147483648, pos 2147483647) ∷
    (L2i, pos 4294967296, pos 0) ∷
    (L2i, pos 9223372036854775807, negsuc 0) ∷
    (L2i, negsuc 9223372036854775807, pos 0) ∷
    []

module _ (p : Program) (own : Method) (heap : Objects) where
  abbrev pub leaves : Instr → List Value → Effect
  leaves i stack = does p own i 1 [] stack heap

  pub record AreComputed : Type 0 where
    pub two_ints : list_all (λ (e : Instr × ℤ × ℤ × ℤ). gives_int (leaves e.0 (Int e.2 ∷ Int e.1 ∷ [])) e.3) two_ints ≡ true
    pub one_int : list_all (λ (e : Instr × ℤ × ℤ). gives_int (leaves e.0 (Int e.1 ∷ [])) e.2) one_int ≡ true
    pub int_to_long : list_all (λ (e : Instr × ℤ × ℤ). gives_long (leaves e.0 (Int e.1 ∷ [])) e.2) int_to_long ≡ true
    pub two_longs : list_all (λ (e : Instr × ℤ × ℤ × ℤ). gives_long (leaves e.0 (Long e.2 ∷ Long e.1 ∷ [])) e.3) two_longs ≡ true
    pub shifted_longs : list_all (λ (e : Instr × ℤ × ℤ × ℤ). gives_long (leaves e.0 (Int e.2 ∷ Long e.1 ∷ [])) e.3) shifted_longs ≡ true
    pub compared_longs : list_all (λ (e : Instr × ℤ × ℤ × ℤ). gives_int (leaves e.0 (Long e.2 ∷ Long e.1 ∷ [])) e.3) compared_longs ≡ true
    pub one_long : list_all (λ (e : Instr × ℤ × ℤ). gives_long (leaves e.0 (Long e.1 ∷ [])) e.2) one_long ≡ true
    pub long_to_int : list_all (λ (e : Instr × ℤ × ℤ). gives_int (leaves e.0 (Long e.1 ∷ [])) e.2) long_to_int ≡ true

-- whatever the program, the method and the heap are
abbrev pub ArithmeticIsJavas : Type 0
ArithmeticIsJavas = (p : Program) (own : Method) (heap : Objects) → AreComputed p own heap
