use Rattle.std.proofs.Common.{◌≡◌, ◌+◌, ◌*◌, ◌∙◌, ap, length, rules, arith}
use Rattle.std.specs.List.{flat_map}
use Rattle.std.specs.Int.{w32}
use Rattle.kilim_image.specs.Text.{block}
use Rattle.kilim_image.proofs.Sizes.{size_is}
use Rattle.kilim_image.proofs.writing.size_of.Goals as goal

pub returns-in-Some : goal.returns-in-Some
returns-in-Some c =
    let texts : c.in_ok-texts.texts ≡ c.in_ok-files.files + length c.args.text.now = search rules in
    let all : c.in-Some.size ≡ c.in_ok-texts.texts + (23 + 4 * length c.args.run.now.args + length c.args.run.now.main) = search rules in
    size_is c.args.run.now c.args.text.now c.in_ok-files.files 0 c.in-Some.size (c.in_ok-files.ensures ∙ ap (λ fs. length (flat_map (block w32) fs)) c.as_slice.ensures) (omega (arith, texts, all))
