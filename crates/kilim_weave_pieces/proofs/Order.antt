-- The last item of a list that is kept from its end comes first.
use Rattle.std.proofs.Common.{◌≡◌, List, [], ◌∷◌, ◌++◌, length, refl, arith}
use Rattle.kilim_weave_spec.specs.Woven as form
use Rattle.kilim_weave_pieces.specs.declared.item.Item.{Item}
use Rattle.kilim_weave_pieces.specs.Items.{item_of, items_on}

pub put_first : (is : List Item) (i : Item) (items : List form.Item) → items_on (is ++ i ∷ []) items ≡ item_of i ∷ items_on is items
put_first [] i items = refl
put_first (j ∷ is) i items = put_first is i (item_of j ∷ items)

pub none_put : (is : List Item) → length is ≡ 0 → items_on is [] ≡ []
none_put [] h = refl
none_put (i ∷ is) h = absurd (omega (arith, h))
