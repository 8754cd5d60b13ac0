-- The text has the length of the instruction's form.
use Rattle.std.proofs.Common.{◌≡◌, ℕ, ◌+◌, ◌*◌, ℤ, List, [], ◌∷◌, ◌++◌, length, refl, arith}
use Rattle.std.specs.List.{flat_map}
use Rattle.std.specs.Int.{w32}
use Rattle.std.proofs.lemmas.List.{length-append, length-replicate}
use Rattle.kilim_class_grammar.specs.Spelling.{u1, u4}
use Rattle.kilim_class_code.specs.declared.opcodes.instr.RawInstr.{RawInstr}
use Rattle.kilim_class_code.specs.declared.opcodes.instr.RawInstr.TheVariants.{Plain, Byte, Short, Local, Constant, Index, Iinc, Jump, WideJump, NewArray, TableSwitch, LookupSwitch, WideLocal, WideIinc}
use Rattle.kilim_class_code.specs.opcodes.Instr.{integer_text, padding, padding_text, target_text, pair_text, high_of, table_text, lookup_text, number_of, operands_text, instr_text, instr_len}

flat_length : {A : Type 0} (text : A → List ℕ) (k : ℕ) (same : (x : A) → length (text x) ≡ k) (xs : List A) → length (flat_map text xs) ≡ k * length xs
flat_length text k same [] = omega arith
flat_length text k same (x ∷ xs) = omega (arith, length-append (text x) (flat_map text xs), same x, flat_length text k same xs)

table_length : (at : ℕ) (default low : ℤ) (targets : List ℤ) → length (table_text at default low targets) ≡ 12 + 4 * length targets
unfolding table_text target_text integer_text
table_length at default low targets =
    omega (arith, length-append (target_text w32 at default ++ (integer_text w32 low ++ integer_text w32 (high_of low targets))) (flat_map (target_text w32 at) targets), flat_length (target_text w32 at) 4 (λ to. refl) targets)

lookup_length : (at : ℕ) (default : ℤ) (pairs : List (ℤ × ℤ)) → length (lookup_text at default pairs) ≡ 8 + 8 * length pairs
unfolding lookup_text pair_text target_text integer_text
lookup_length at default pairs =
    omega (arith, length-append (target_text w32 at default ++ u4 (length pairs)) (flat_map (pair_text at) pairs), flat_length (pair_text at) 8 (λ pair. refl) pairs)

padded_length : (op at : ℕ) (text : List ℕ) → length (u1 op ++ (padding_text at ++ text)) ≡ 1 + padding at + length text
unfolding padding_text
padded_length op at text = omega (arith, length-append (padding_text at) text, length-replicate {A = ℕ} (padding at) 0)

pub lengths : (at : ℕ) (instr : RawInstr) → length (instr_text at instr) ≡ instr_len at instr
unfolding number_of operands_text integer_text target_text instr_text instr_len
lengths at (Plain op) = refl
lengths at (Byte op n) = refl
lengths at (Short op n) = refl
lengths at (Local op slot) = refl
lengths at (Constant op index) = refl
lengths at (Index op index) = refl
lengths at (Iinc op slot n) = refl
lengths at (Jump op to) = refl
lengths at (WideJump op to) = refl
lengths at (NewArray op code) = refl
lengths at (TableSwitch op default low targets) = omega (arith, padded_length op at (table_text at default low targets), table_length at default low targets)
lengths at (LookupSwitch op default pairs) = omega (arith, padded_length op at (lookup_text at default pairs), lookup_length at default pairs)
lengths at (WideLocal op slot) = refl
lengths at (WideIinc op slot n) = refl
