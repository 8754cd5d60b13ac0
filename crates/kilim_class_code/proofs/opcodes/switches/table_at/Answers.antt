use Rattle.std.proofs.Common.{ℕ, ℤ, List, inl, inr, rules}
use Rattle.std.specs.Prelude.{FitsSigned}
use Rattle.std.specs.Int.{w32, w64}
use Rattle.std.proofs.lemmas.Int.{to_z-of_z}
use Rattle.kilim_class_grammar.specs.Reader.{both, many}
use Rattle.kilim_class_code.specs.declared.opcodes.instr.RawInstr.TheVariants.{TableSwitch}
use Rattle.kilim_class_code.specs.opcodes.Reading.{target_at, range_at, targets_in, table_at}
use Rattle.kilim_class_code.proofs.opcodes.Boths.{followed_made, followed_fails, followed_stops}
use Rattle.kilim_class_code.proofs.opcodes.switches.table_at.Goals as goal

pub returns-in-Ok-targets_at : goal.returns-in-Ok-targets_at
unfolding table_at
returns-in-Ok-targets_at c =
    let default : FitsSigned w64 c.in-Ok.default = search rules in
    let low : FitsSigned w32 c.in-Ok.low = search rules in
    let high : FitsSigned w32 c.in-Ok.high = search rules in
    let count = simp to_z-of_z at c.targets_in.ensures in
    rw (to_z-of_z w64 c.in-Ok.default default, to_z-of_z w32 c.in-Ok.low low)
    (followed_made (λ (x : (ℤ × (ℤ × ℤ)) × List ℤ). TableSwitch c.args.op x.0.0 x.0.1.0 x.1) (both (target_at c.args.op c.args.at w32) (range_at c.args.op)) c.args.bytes.now (c.in-Ok.default, (c.in-Ok.low, c.in-Ok.high)) c.in-Ok.rest.now c.in-Ok.ensures.read (λ (head : ℤ × (ℤ × ℤ)). many (target_at c.args.op c.args.at w32) (targets_in head.1))
    c.in-Ok-targets_at.targets c.in-Ok-targets_at.rest.now (rw count at c.in-Ok-targets_at.ensures))

pub returns-in-Err-targets_at : goal.returns-in-Err-targets_at
unfolding table_at
returns-in-Err-targets_at c =
    let low : FitsSigned w32 c.in-Ok.low = search rules in
    let high : FitsSigned w32 c.in-Ok.high = search rules in
    let count = simp to_z-of_z at c.targets_in.ensures in
    elim c.in-Err-targets_at.ensures [
      | inl memory ↦ inl memory
      | inr fault ↦
          inr
          (followed_fails (λ (x : (ℤ × (ℤ × ℤ)) × List ℤ). TableSwitch c.args.op x.0.0 x.0.1.0 x.1) (both (target_at c.args.op c.args.at w32) (range_at c.args.op)) c.args.bytes.now (c.in-Ok.default, (c.in-Ok.low, c.in-Ok.high)) c.in-Ok.rest.now c.in-Ok.ensures.read (λ (head : ℤ × (ℤ × ℤ)). many (target_at c.args.op c.args.at w32) (targets_in head.1))
          c.in-Err-targets_at.fault (rw count at fault))
    ]

pub returns-in-Err : goal.returns-in-Err
unfolding table_at
returns-in-Err c =
    inr
    (followed_stops (λ (x : (ℤ × (ℤ × ℤ)) × List ℤ). TableSwitch c.args.op x.0.0 x.0.1.0 x.1) (both (target_at c.args.op c.args.at w32) (range_at c.args.op)) c.args.bytes.now c.in-Err.fault c.in-Err.ensures.read (λ (head : ℤ × (ℤ × ℤ)). many (target_at c.args.op c.args.at w32) (targets_in head.1)))
