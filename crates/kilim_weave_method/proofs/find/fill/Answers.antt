use Rattle.std.proofs.Common.{◌≡◌, ◌∙◌, ℕ, List, Option, None, ap, sym, get_or}
use Rattle.kilim_weave_method.proofs.Tabled.{filled, kept}
use Rattle.kilim_weave_method.proofs.find.fill.Goals as goal

pub returns-in-Some : goal.returns-in-Some
returns-in-Some c = kept c.args.table.now.items c.args.at c.args.place c.in-Some.field-0 (sym c.in-Some.ensures)

pub returns-in-None : goal.returns-in-None
returns-in-None c k = ap (λ (t : List (Option ℕ)). get_or t k None) c.write.ensures ∙ filled c.args.table.now.items c.args.at c.args.place c.requires (sym c.in-None.ensures) k
