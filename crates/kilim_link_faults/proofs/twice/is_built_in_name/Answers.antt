use Rattle.std.proofs.Common.{sym, ◌∙◌, arith}
use Rattle.std.specs.Prelude.{◌&&◌}
use Rattle.std.specs.Str.{bytes_eq}
use Rattle.kilim_link_faults.proofs.Earlier.{files_fit, none_in_files}
use Rattle.kilim_link_faults.proofs.Firsts.{any_in, none_all, none_at}
use Rattle.kilim_link_faults.proofs.twice.is_built_in_name.Goals as goal

pub overflow_cast-i : goal.overflow_cast-i
overflow_cast-i c = let fit = files_fit c.args.world.now c.args.files.now c.requires.whole c.requires.few in omega (arith, fit)

pub loop-i-init : goal.loop-i-init
loop-i-init c = none_in_files c.args.world.now c.args.files.now c.args.name.now c.requires.whole

pub loop-i-preserved : goal.loop-i-preserved
loop-i-preserved c = none_at (λ v. v.is_built_in && bytes_eq v.name c.args.name.now) c.args.world.now.classes c.loop-i.i c.in-Some.view.now c.in-Some.ensures (sym c.is_built_in_named.ensures ∙ c.if-is_built_in_named.false) c.loop-i.invariant

pub returns-then-is_built_in_named : goal.returns-then-is_built_in_named
returns-then-is_built_in_named c = any_in (λ v. v.is_built_in && bytes_eq v.name c.args.name.now) c.args.world.now.classes c.loop-i.i c.in-Some.view.now c.in-Some.ensures (sym c.is_built_in_named.ensures ∙ c.if-is_built_in_named.true)

pub returns-in_default : goal.returns-in_default
returns-in_default c = none_all (λ v. v.is_built_in && bytes_eq v.name c.args.name.now) c.args.world.now.classes c.loop-i.i c.in_default.ensures c.loop-i.invariant
