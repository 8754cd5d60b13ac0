use Rattle.kilim_type_flow.specs.Table.{live_in}
use Rattle.kilim_weave_method.proofs.Outcomes.{so_of}
use Rattle.kilim_weave_method.proofs.woven_each.OfKind.{woven_by}
use Rattle.kilim_weave_method.proofs.woven_each.each.with_calls.Goals as goal

pub code_rises-requires : goal.code_rises-requires
code_rises-requires c = c.requires.there

pub live-requires : goal.live-requires
live-requires c = c.code_rises.ensures

pub woven-pair-requires : goal.woven-pair-requires
woven-pair-requires c = record { rising = c.code_rises.ensures; listed = c.requires.listed }

pub returns : goal.returns
returns c =
    so_of c.woven-pair.result
    (λ pair made. woven_by c.labels_are_found.ensures c.args.program.now c.keeps.ensures c.args.id c.args.method.now c.requires.there c.requires.pausable c.requires.calls (live_in c.in-Ok.table) c.in-Ok.ensures pair made)
    c.woven-pair.ensures
