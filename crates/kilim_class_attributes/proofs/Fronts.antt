-- What stays of reading attributes, whatever follows. What an attribute holds stands in as many bytes as it states, so
-- that only these bytes decide on it.
use Rattle.std.proofs.Common.{ℕ, zero, suc, List, [], ◌∷◌, ◌++◌, Result, refl}
use Rattle.std.specs.Int.{w16, w32}
use Rattle.kilim_class_grammar.specs.Reader.{Reader, number_at, bytes_at}
use Rattle.kilim_class_grammar.specs.Fronts.{StaysRead}
use Rattle.kilim_class_grammar.proofs.Fronts.{then_stays, also_stays, bytes_stay, number_stays}
use Rattle.kilim_class_pool.specs.declared.entry.Entry.{Entry}
use Rattle.kilim_class_attributes.specs.declared.parts.fault.AttributeFault.{AttributeFault}
use Rattle.kilim_class_attributes.specs.declared.parts.fault.AttributeFault.TheVariants as fault
use Rattle.kilim_class_attributes.specs.declared.attribute.Place.{Place}
use Rattle.kilim_class_attributes.specs.declared.attribute.Attribute.{Attribute}
use Rattle.kilim_class_attributes.specs.Lists.{turned, many_after, listed, named_bytes_at}
use Rattle.kilim_class_attributes.specs.Attributes.{attribute_of, attribute_at, attributes_at}
use Rattle.kilim_class_attributes.specs.Fronts.{IsCut, AttributesStay}

abbrev Stay : {A : Type 0} → Reader AttributeFault A → Type 0
Stay one = StaysRead IsCut one one

named_bytes : Stay (named_bytes_at fault.Cut)
unfolding named_bytes_at
named_bytes bytes more =
    then_stays IsCut more (number_at fault.Cut w16 bytes) (number_at fault.Cut w16 (bytes ++ more)) _ _ (number_stays IsCut fault.Cut fault.Cut refl w16 bytes more)
    (λ name rest. then_stays IsCut more (number_at fault.Cut w32 rest) (number_at fault.Cut w32 (rest ++ more)) _ _ (number_stays IsCut fault.Cut fault.Cut refl w32 rest more)
    (λ size behind. then_stays IsCut more (bytes_at fault.Cut size behind) (bytes_at fault.Cut size (behind ++ more)) _ _ (bytes_stay IsCut fault.Cut fault.Cut refl size behind more)
    (λ content after. refl)))

turned_stays : {A B : Type 0} (make : A → Result B AttributeFault) (one : Reader AttributeFault A) → Stay one → Stay (turned make one)
turned_stays make one h bytes more =
    then_stays IsCut more (one bytes) (one (bytes ++ more)) _ _ (h bytes more) (λ x rest. also_stays IsCut more (make x) _ _ (λ y. refl))

module _ {A : Type 0} (one : List A → Reader AttributeFault A) (stays : (before : List A) → Stay (one before)) where
  many_stay : (before : List A) (n : ℕ) → Stay (many_after one before n)
  unfolding many_after
  many_stay before zero bytes more = refl
  many_stay before (suc n) bytes more =
      then_stays IsCut more (one before bytes) (one before (bytes ++ more)) _ _ (stays before bytes more) (λ x rest. many_stay (before ++ x ∷ []) n rest more)

  listed_stay : Stay (listed fault.Cut one)
  unfolding listed
  listed_stay bytes more =
      then_stays IsCut more (number_at fault.Cut w16 bytes) (number_at fault.Cut w16 (bytes ++ more)) _ _ (number_stays IsCut fault.Cut fault.Cut refl w16 bytes more) (λ n rest. many_stay [] n rest more)

an_attribute : (pool : List Entry) (place : Place) (before : List Attribute) → Stay (attribute_at pool place before)
unfolding attribute_at
an_attribute pool place before = turned_stays (attribute_of pool place before) (named_bytes_at fault.Cut) named_bytes

pub attributes_stay : AttributesStay
unfolding attributes_at
attributes_stay pool place = listed_stay (attribute_at pool place) (an_attribute pool place)
