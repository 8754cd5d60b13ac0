use Rattle.std.proofs.Common.{◌≡◌, ◌++◌, ◌∙◌, ap, arith, length, get_or, List}
use Rattle.std.specs.List.{flat_map}
use Rattle.kilim_program.specs.declared.class.Class.{Class}
use Rattle.kilim_program.specs.declared.names.MethodId.{MethodId}
use Rattle.kilim_program.specs.Program.{Program}
use Rattle.kilim_isolation_pauses.specs.Pausing.{calls_of}
use Rattle.kilim_isolation_pauses.proofs.Along.{each_more}
use Rattle.kilim_isolation_pauses.proofs.pausing.pausable_calls.Goals as goal

pub loop-class-preserved : goal.loop-class-preserved
loop-class-preserved c =
    let inside : c.program.inside.classes ≡ c.args.program.now.classes = ap (λ (p : Program). p.classes) c.program.view_is in
    let classes : c.as_slice-class-items.result.now ≡ c.args.program.now.classes = c.as_slice-class-items.ensures ∙ inside in
    let same : length c.as_slice-class-items.result.now ≡ length c.args.program.now.classes = ap length classes in
    let item : c.class-item.result ≡ get_or c.args.program.now.classes c.loop-class.class-index c.class-item.result =
    c.class-item.is ∙ ap (λ (xs : List Class). get_or xs c.loop-class.class-index c.class-item.result) classes in
    each_more (calls_of c.args.program.now) (λ (class : Class). class.methods) c.args.program.now.classes c.loop-class.class-index c.class-item.result c.loop-class.calls c.push_calls_of_each.new.calls
    (flat_map (calls_of c.args.program.now) (flat_map (λ (class : Class). class.methods) c.args.program.now.classes)) (omega (arith, same))
    (c.in_ok-push_calls_of_each.ensures ∙ ap (λ (ids : List MethodId). c.loop-class.calls ++ flat_map (calls_of c.args.program.now) ids) (c.as_slice.ensures ∙ ap (λ (class : Class). class.methods) item)) c.loop-class.invariant
