use Rattle.std.proofs.Common.{ℕ, List, Bool, true, false, length, replicate, ap, sym, subst, ◌≡◌, ◌∙◌, arith}
use Rattle.std.proofs.lemmas.List.{length-replicate}
use Rattle.kilim_type_flow.specs.Marks.{Marks, Opens, is_marked}
use Rattle.kilim_type_flow.proofs.Growing.{all_open, no_marks}
use Rattle.kilim_type_flow.proofs.column.column.Goals as goal

pub start-requires : goal.start-requires
start-requires c =
    let m = c.args.method.now in
    let k = c.args.local in
    let l = ap length c.in-Ok-marked_places-2.ensures ∙ length-replicate (length c.args.befores.now) false in
    record {
      rising = c.requires.rising;
      below = λ at e there. let b = c.requires.below at e there in omega (arith, b, l);
      marks =
          subst (λ (ms : List Bool). Marks m k ms c.new-work.result.items) (sym c.in-Ok-marked_places-2.ensures)
          (subst (λ (ws : List ℕ). Marks m k (replicate (length c.args.befores.now) false) ws) (sym c.new-work.ensures.items) (no_marks m k (length c.args.befores.now)));
    }

pub spread_all-requires : goal.spread_all-requires
spread_all-requires c =
    let m = c.args.method.now in
    let k = c.args.local in
    let l = ap length c.in-Ok-marked_places-2.ensures ∙ length-replicate (length c.args.befores.now) false in
    record {
      below = c.requires.below;
      befores = c.requires.befores;
      caught = c.requires.caught;
      opens = subst (λ (ms : List Bool). Opens m k (length m.code) ms) (sym c.as_slice-passing.ensures.value) c.in-Ok.ensures;
      every = λ x lt. subst (λ (ms : List Bool). is_marked ms x ≡ true) (sym (c.as_slice-everywhere.ensures.value ∙ c.in-Ok-marked_places.ensures)) (all_open (length c.args.befores.now) x lt);
      same = c.in-Ok-start.ensures.same ∙ l;
      marks = c.in-Ok-start.ensures.marks;
      reads = c.in-Ok-start.ensures.reads;
    }
