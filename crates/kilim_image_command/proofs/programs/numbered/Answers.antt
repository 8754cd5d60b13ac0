use Rattle.std.proofs.Common.{[], ◌∷◌, ap, arith, length, length-append}
use Rattle.std.specs.String.{string_bytes}
use Rattle.kilim_image_command.proofs.Starts.{all_names, one_name}
use Rattle.kilim_image_command.proofs.programs.numbered.Goals as goal

pub loop-at-preserved : goal.loop-at-preserved
loop-at-preserved c =
    let more = ap (λ xs. length xs) c.in-Ok-push.ensures.items in
    record {
      names = one_name string_bytes c.args.files.now c.loop-at.at c.loop-at.names.items c.push.new.self.items c.in-Ok.name c.loop-at-test.true c.in-Ok-push.ensures.items c.in-Ok.ensures c.loop-at.invariant.names;
      many = omega (arith, more, length-append c.loop-at.names.items (c.in-Ok.name ∷ []), c.loop-at.invariant.many);
    }

pub returns-clause-names : goal.returns-clause-names
returns-clause-names c = all_names string_bytes c.args.files.now c.loop-at.at c.loop-at.names.items c.loop-at-test.false c.loop-at.invariant.names
