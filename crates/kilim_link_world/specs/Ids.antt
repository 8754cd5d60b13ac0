-- Classes by their names.
use Rattle.std.specs.Prelude.{ℕ, List, Option}
use Rattle.std.specs.BTreeMap.{BTreeMap, get}
use Rattle.std.specs.Cmp.Lexicographic.{slice_cmp}
use Rattle.std.specs.List.{position_from}
use Rattle.std.specs.Ordering.{nat_cmp}
use Rattle.std.specs.Str.{bytes_eq}
use Rattle.kilim_link_spec.specs.declared.view.ClassView.{ClassView}

-- what a map has at a name
abbrev pub id_in : BTreeMap (List ℕ) ℕ → List ℕ → Option ℕ
id_in m name = get (slice_cmp nat_cmp) m name

-- the place of the first class of that name
abbrev pub named_in : List ℕ → List ClassView → Option ℕ
named_in name classes = position_from (λ v. bytes_eq v.name name) 0 classes
