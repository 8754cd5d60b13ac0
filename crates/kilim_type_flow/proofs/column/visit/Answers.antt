use Rattle.std.proofs.Common.{◌≡◌, List, ℕ, Bool, true, false, set, subst, sym}
use Rattle.kilim_type_flow.specs.Marks.{Grown, is_marked}
use Rattle.kilim_type_flow.proofs.Growing.{no_growth, one_grown}
use Rattle.kilim_type_flow.proofs.Lists.{set_marks}
use Rattle.kilim_type_flow.proofs.column.visit.Goals as goal

pub returns-then-is_marked-clause-grown : goal.returns-then-is_marked-clause-grown
returns-then-is_marked-clause-grown c = no_growth (λ x. x ≡ c.args.place) c.args.marks.now.items c.args.work.now.items

pub returns-clause-grown : goal.returns-clause-grown
returns-clause-grown c =
    let free : is_marked c.args.marks.now.items c.args.place ≡ false = cc in
    subst (λ (ms : List Bool). Grown (λ x. x ≡ c.args.place) c.args.marks.now.items c.args.work.now.items ms c.push.new.self.items) (sym c.mark.ensures)
    (subst (λ (ws : List ℕ). Grown (λ x. x ≡ c.args.place) c.args.marks.now.items c.args.work.now.items (set c.args.marks.now.items c.args.place true) ws) (sym c.in-Ok.ensures.items)
    (one_grown c.args.marks.now.items c.args.work.now.items c.args.place c.requires free))

pub returns-clause-marked : goal.returns-clause-marked
returns-clause-marked c = rw c.mark.ensures (set_marks c.args.marks.now.items c.args.place c.requires)
