use Rattle.std.proofs.Common.{sym, ap, ◌∙◌, ℕ, List, codes}
use Rattle.std.specs.Str.{bytes_eq}
use Rattle.std.specs.List.{list_any}
use Rattle.kilim_link_spec.specs.World.{class_text}
use Rattle.kilim_link_views.proofs.Any.{list_any-map}
use Rattle.kilim_link_views.proofs.file.is_marked.Goals as goal

pub returns : goal.returns
returns c =
    let name = class_text c.args.file.now.constant_pool in
    let test = λ (n : List ℕ). bytes_eq n (codes "kilim/Message") in
    c.is_any_named.ensures ∙ (ap (λ (cs : List ℕ). list_any (λ x. test (name x)) cs) c.as_slice-interfaces.ensures ∙ sym (list_any-map name test c.args.file.now.interfaces))
