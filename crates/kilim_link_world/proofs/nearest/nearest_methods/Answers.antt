use Rattle.std.proofs.Common.{◌≡◌, List, ℕ, length, ap, subst, arith}
use Rattle.std.specs.Prelude.{IfOk, option_map}
use Rattle.std.proofs.lemmas.Result.{IfOk-weaker}
use Rattle.kilim_program.specs.declared.class.Form.{Form}
use Rattle.kilim_program.specs.declared.names.ClassId.{ClassId}
use Rattle.kilim_program.specs.BuiltIn.{method_id}
use Rattle.kilim_program.specs.Program.{Program}
use Rattle.kilim_link_spec.specs.World.{find_method}
use Rattle.kilim_link_inherited.specs.Known.{known, Tells}
use Rattle.kilim_link_inherited.specs.declared.nearest.Nearest.{Nearest}
use Rattle.kilim_link_inherited.specs.declared.said.Said.{Said}
use Rattle.kilim_link_world.specs.Superclasses.{AreSuperclasses}
use Rattle.kilim_link_world.proofs.Telling.{method_told}
use Rattle.kilim_link_world.proofs.nearest.nearest_methods.Goals as goal

pub new-requires : goal.new-requires
new-requires c =
    let listed = ap (λ (ss : List (List Said)). length ss) c.as_slice.ensures in
    let counted = c.in-Ok.ensures.counted in
    let each = c.requires.one_each in
    omega arith

pub returns : goal.returns
returns c =
    let ups = c.args.ups.now in
    let said = c.in-Ok.said in
    let found = subst (λ (ss : List (List Said)). IfOk c.new.result (λ (it : Nearest). Tells it ups ss)) c.as_slice.ensures c.new.ensures in
    IfOk-weaker c.new.result (λ (it : Nearest). Tells it ups said) _ (λ it tells form outline are d name descriptor. method_told (record { form = form; classes = c.args.classes.now; outline = outline }) ups are said it tells d name descriptor (λ e. c.in-Ok.ensures.said e name descriptor)) found
