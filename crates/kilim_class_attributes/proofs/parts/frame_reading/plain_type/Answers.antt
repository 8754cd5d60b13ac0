use Rattle.std.proofs.Common.{◌≡◌, ℕ, ap, arith}
use Rattle.kilim_class_attributes.specs.parts.Frames.{type_behind}
use Rattle.kilim_class_attributes.proofs.parts.frame_reading.plain_type.Goals as goal

pub returns-then-tag-eq0 : goal.returns-then-tag-eq0
unfolding type_behind
returns-then-tag-eq0 c = λ pool bytes. ap (λ (tag : ℕ). type_behind pool tag bytes) c.if-tag-eq0.true

pub returns-then-tag-eq1 : goal.returns-then-tag-eq1
unfolding type_behind
returns-then-tag-eq1 c = λ pool bytes. ap (λ (tag : ℕ). type_behind pool tag bytes) c.if-tag-eq1.true

pub returns-then-tag-eq2 : goal.returns-then-tag-eq2
unfolding type_behind
returns-then-tag-eq2 c = λ pool bytes. ap (λ (tag : ℕ). type_behind pool tag bytes) c.if-tag-eq2.true

pub returns-then-tag-eq3 : goal.returns-then-tag-eq3
unfolding type_behind
returns-then-tag-eq3 c = λ pool bytes. ap (λ (tag : ℕ). type_behind pool tag bytes) c.if-tag-eq3.true

pub returns-then-tag-eq4 : goal.returns-then-tag-eq4
unfolding type_behind
returns-then-tag-eq4 c = λ pool bytes. ap (λ (tag : ℕ). type_behind pool tag bytes) c.if-tag-eq4.true

pub returns-then-tag-eq5 : goal.returns-then-tag-eq5
unfolding type_behind
returns-then-tag-eq5 c = λ pool bytes. ap (λ (tag : ℕ). type_behind pool tag bytes) c.if-tag-eq5.true

pub returns-else-tag-eq5 : goal.returns-else-tag-eq5
unfolding type_behind
returns-else-tag-eq5 c =
    let last : c.args.tag ≡ 6 = omega arith in
    λ pool bytes. ap (λ (tag : ℕ). type_behind pool tag bytes) last
