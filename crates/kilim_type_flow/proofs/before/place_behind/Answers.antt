use Rattle.std.proofs.Common.{◌+◌, ◌<◌, ◌∙◌, ℕ, List, ap, drop, length, subst, sym}
use Rattle.kilim_program.specs.declared.instr.Instr.{Instr}
use Rattle.kilim_program.specs.Lengths.{first_place}
use Rattle.kilim_type_flow.proofs.before.place_behind.Goals as goal

pub behind_in-requires : goal.behind_in-requires
behind_in-requires c = subst (λ (es : List (ℕ × Instr)). c.args.at < length es) (sym c.as_slice-code.ensures) c.requires

pub returns : goal.returns
returns c = c.behind_in.ensures ∙ ap (λ (es : List (ℕ × Instr)). first_place (drop (c.args.at + 1) es) c.args.method.now.code_length) c.as_slice-code.ensures
