use Rattle.std.proofs.Common.{ℕ, Bool, List, ap, sym, subst, length, ◌∙◌, arith}
use Rattle.kilim_type_flow.specs.Marks.{AreBefore, ReadMarked, caught_tos, flow_tos}
use Rattle.kilim_type_flow.proofs.Growing.{table_is_live}
use Rattle.kilim_type_flow.proofs.table.live.Goals as goal

pub columns_of-requires : goal.columns_of-requires
columns_of-requires c =
    let m = c.args.method.now in
    let a = c.in-Ok.ensures in
    let t = c.in-Ok-caught_befores.ensures in
    let s1 = ap length c.as_slice-before.ensures.value in
    let s2 = a.long in
    let s3 = ap length c.as_slice-read.ensures.value in
    let s4 = c.in-Ok-read_locals.ensures.same in
    let s5 = c.locals_below-most.ensures.small in
    record {
      rising = c.requires;
      below = λ at e there. let b = c.places_below-size.ensures at e there in omega (arith, b, s1, s2);
      befores =
          subst (λ (rs : List (List ℕ)). AreBefore flow_tos m (length rs) rs) (sym c.as_slice-before.ensures.value)
          (subst (λ (n : ℕ). AreBefore flow_tos m n c.in-Ok.rows.items) (sym s2) a);
      caught =
          subst (λ (rs : List (List ℕ)). AreBefore (caught_tos m) m (length c.as_slice-before.result.now) rs) (sym c.as_slice-caught.ensures.value)
          (subst (λ (n : ℕ). AreBefore (caught_tos m) m n c.in-Ok-caught_befores.ranges.items) (sym (s1 ∙ s2)) t);
      marked = subst (λ (ms : List Bool). ReadMarked (length m.code) ms m.code) (sym c.as_slice-read.ensures.value) c.in-Ok-read_locals.ensures.marked;
      small = omega (arith, s3, s4, s5);
    }

pub returns : goal.returns
returns c =
    let s1 = c.in-Ok-columns_of.ensures.same in
    let s2 = ap length c.as_slice-read.ensures.value in
    let s3 = c.in-Ok-read_locals.ensures.same in
    table_is_live c.args.method.now c.in-Ok-columns_of.columns.items c.in-Ok-columns_of.ensures.each
    (λ at k e there it. let b = c.locals_below-most.ensures.behind at k e there it in omega (arith, b, s1, s2, s3))
