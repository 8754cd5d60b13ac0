use Rattle.std.proofs.Common.{◌≡◌, ◌∙◌, ap, refl, sym, Some, Option, arith, List, ℕ, length, slice_get, drop, ◌+◌}
use Rattle.std.proofs.lemmas.Option.{slice_get_read}
use Rattle.kilim_program.specs.declared.instr.Instr.{Instr}
use Rattle.kilim_program.specs.Lengths.{first_place}
use Rattle.kilim_isolation.proofs.Numbered.{fetch_here, fetch_past}
use Rattle.kilim_isolation.proofs.tables.fetch.Goals as goal

pub returns-then-at-code : goal.returns-then-at-code
returns-then-at-code c =
    ap (λ (e : ℕ × Instr). let x : Option (Instr × ℕ) = Some (e.1, c.place_behind.result) in x) (sym c.index-code-at.is)
    ∙ fetch_here c.args.method.now.code c.args.method.now.code_length c.args.place c.number_at-at.result c.place_behind.result c.index-code-at.result (c.number_at-at.ensures _ _ c.requires.table c.requires.place)
    (ap (λ (es : List (ℕ × Instr)). slice_get es c.number_at-at.result) (sym c.as_slice-code.ensures) ∙ slice_get_read c.as_slice-code.result.now (length c.as_slice-code.result.now) c.number_at-at.result c.index-code-at.result refl (omega arith) c.index-code-at.is)
    (c.place_behind.ensures ∙ ap (λ (es : List (ℕ × Instr)). first_place (drop (c.number_at-at.result + 1) es) c.args.method.now.code_length) c.as_slice-code.ensures)

pub returns-else-at-code : goal.returns-else-at-code
returns-else-at-code c =
    let same : length c.as_slice-code.result.now ≡ length c.args.method.now.code = ap length c.as_slice-code.ensures in
    fetch_past c.args.method.now.code c.args.method.now.code_length c.args.place c.number_at-at.result (c.number_at-at.ensures _ _ c.requires.table c.requires.place) (omega arith)
