use Rattle.std.proofs.Common.{List, length, is_some, ap, sym, ◌∙◌, subst, arith}
use Rattle.kilim_link_inherited.specs.declared.entry.Entry.{Entry}
use Rattle.kilim_link_inherited.specs.Roots.{inherits, IsRight}
use Rattle.kilim_link_inherited.specs.Numbers.{number_at}
use Rattle.kilim_link_inherited.proofs.Wider.{keyed_length}
use Rattle.kilim_link_inherited.specs.Inherited.{line_in}
use Rattle.kilim_link_inherited.proofs.Numbered.{in_line}
use Rattle.kilim_link_inherited.proofs.Telling.{nearest_told, one_told}
use Rattle.kilim_link_inherited.proofs.nearest.Nearest.new.Goals as goal

pub new-requires : goal.new-requires
new-requires c =
    let same = keyed_length (number_at c.all_entries.new.numbers.places) c.args.said.now c.in-Ok.entries c.in-Ok.ensures.keyed in
    let listed = ap (λ (ess : List (List Entry)). length ess) c.as_slice.ensures in
    let few = c.requires in
    omega arith

pub returns : goal.returns
returns c =
    let numbers = c.all_entries.new.numbers in
    let it = c.in-Ok-new.inherited in
    let ups = c.args.ups.now in
    let ess = c.in-Ok.entries in
    let numbered = c.in-Ok.ensures.numbered in
    let right = subst (λ (es : List (List Entry)). IsRight ups es it) c.as_slice.ensures c.in-Ok-new.ensures in
    record {
      nearest_is = λ d name descriptor.
          nearest_told (number_at numbers.places) (inherits it) c.args.said.now ess ups numbered.apart c.in-Ok.ensures.keyed name descriptor d
          (right.inherited_is d);
      by_one = λ d name descriptor.
          one_told (number_at numbers.places) (inherits it) c.args.said.now ess ups numbered.apart c.in-Ok.ensures.keyed name descriptor d
          (right.by_one d);
      named = λ d k is. in_line (number_at numbers.places) k c.args.said.now ess c.in-Ok.ensures.keyed (line_in ups d) (sym (ap is_some (right.inherited_is d k)) ∙ is);
    }
