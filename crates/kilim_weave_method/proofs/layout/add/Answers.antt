use Rattle.std.proofs.Common.{◌≡◌, ◌∙◌, ◌∷◌, ◌++◌, [], ◌+◌, ap}
use Rattle.kilim_weave_pieces.specs.Items.{size_of}
use Rattle.kilim_weave_method.specs.Laid.{Output}
use Rattle.kilim_weave_method.proofs.layout.add.Goals as goal

pub returns : goal.returns
returns c =
    let next = λ (o : Output). let more : Output = record { code = o.code ++ (o.end, c.args.instr) ∷ []; frames = o.frames; counted = o.counted ++ c.args.counted ∷ []; end = o.end + size_of c.args.size o.end } in more in
    let was : Output = record { code = c.laid.inside.code; frames = c.laid.inside.frames; counted = c.laid.inside.counted; end = c.laid.inside.end } in
    let now : Output = record { code = c.push.new.self; frames = c.laid.inside.frames; counted = c.push-2.new.self; end = c.in-Ok-place_behind.end } in
    let put : now ≡ next was = λ i. record { code = c.in-Ok.ensures.ok i; frames = c.laid.inside.frames; counted = c.in-Ok-push.ensures.ok i; end = c.in-Ok-place_behind.ensures i } in
    put ∙ ap next c.laid.view_is
