use Rattle.std.proofs.Common.{ℕ, ℤ, List, None, inl, inr, rules}
use Rattle.std.specs.Prelude.{FitsSigned}
use Rattle.std.specs.Int.{w32, w64}
use Rattle.std.proofs.lemmas.Int.{to_z-of_z}
use Rattle.kilim_class_grammar.specs.Reader.{both}
use Rattle.kilim_class_code.specs.declared.opcodes.instr.RawInstr.TheVariants.{LookupSwitch}
use Rattle.kilim_class_code.specs.opcodes.Reading.{target_at, count_at, pairs_at, lookup_at}
use Rattle.kilim_class_code.proofs.opcodes.Boths.{followed_made, followed_fails, followed_stops}
use Rattle.kilim_class_code.proofs.opcodes.switches.lookup_at.Goals as goal

pub returns-in-Ok-pairs_at : goal.returns-in-Ok-pairs_at
unfolding lookup_at
returns-in-Ok-pairs_at c =
    let fits : FitsSigned w64 c.in-Ok.default = search rules in
    rw (to_z-of_z w64 c.in-Ok.default fits)
    (followed_made (λ (x : (ℤ × ℕ) × List (ℤ × ℤ)). LookupSwitch c.args.op x.0.0 x.1) (both (target_at c.args.op c.args.at w32) (count_at c.args.op)) c.args.bytes.now (c.in-Ok.default, c.in-Ok.count) c.in-Ok.rest.now c.in-Ok.ensures (λ (head : ℤ × ℕ). pairs_at c.args.op c.args.at head.1 None)
    c.in-Ok-pairs_at.pairs c.in-Ok-pairs_at.rest.now c.in-Ok-pairs_at.ensures)

pub returns-in-Err-pairs_at : goal.returns-in-Err-pairs_at
unfolding lookup_at
returns-in-Err-pairs_at c =
    elim c.in-Err-pairs_at.ensures [
      | inl memory ↦ inl memory
      | inr fault ↦
          inr
          (followed_fails (λ (x : (ℤ × ℕ) × List (ℤ × ℤ)). LookupSwitch c.args.op x.0.0 x.1) (both (target_at c.args.op c.args.at w32) (count_at c.args.op)) c.args.bytes.now (c.in-Ok.default, c.in-Ok.count) c.in-Ok.rest.now c.in-Ok.ensures (λ (head : ℤ × ℕ). pairs_at c.args.op c.args.at head.1 None)
          c.in-Err-pairs_at.fault fault)
    ]

pub returns-in-Err : goal.returns-in-Err
unfolding lookup_at
returns-in-Err c =
    inr
    (followed_stops (λ (x : (ℤ × ℕ) × List (ℤ × ℤ)). LookupSwitch c.args.op x.0.0 x.1) (both (target_at c.args.op c.args.at w32) (count_at c.args.op)) c.args.bytes.now c.in-Err.fault c.in-Err.ensures (λ (head : ℤ × ℕ). pairs_at c.args.op c.args.at head.1 None))
