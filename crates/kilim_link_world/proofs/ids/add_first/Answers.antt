use Rattle.std.proofs.Common.{◌≡◌, subst, sym, ◌∙◌, false, inl, inr, rules, arith}
use Rattle.std.proofs.lemmas.Bool.{cases_Bool}
use Rattle.std.proofs.lemmas.Grind.{common_steps}
use Rattle.std.proofs.lemmas.Map.Text.{is_eq-slice_cmp}
use Rattle.std.proofs.lemmas.Slice.Eq.{bytes_eq-Decides}
use Rattle.std.specs.Ordering.{is_eq, nat_cmp}
use Rattle.std.specs.Cmp.Lexicographic.{slice_cmp}
use Rattle.std.specs.Str.{bytes_eq}
use Rattle.kilim_link_world.specs.Ids.{id_in}
use Rattle.kilim_link_world.proofs.Lists.{or_none}
use Rattle.kilim_link_world.proofs.ids.add_first.Goals as goal

pub returns-in-Ok-insert : goal.returns-in-Ok-insert
returns-in-Ok-insert c = λ other.
    elim (cases_Bool (bytes_eq c.args.name.now other)) [
      | inl same ↦
          let name : c.args.name.now ≡ other = search (rules, bytes_eq-Decides) in
          rw same (grind (arith, common_steps, name))
      | inr apart ↦
          let differs : is_eq (slice_cmp nat_cmp c.args.name.now other) ≡ false = is_eq-slice_cmp c.args.name.now other ∙ apart in
          rw apart (c.in-Ok-insert.ensures.updates.2 other (subst (λ key. is_eq (slice_cmp nat_cmp key other) ≡ false) (sym c.in-Ok.ensures.cases) differs) ∙ or_none (id_in c.args.places.now other))
    ]
