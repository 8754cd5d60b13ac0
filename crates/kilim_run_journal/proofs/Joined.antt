-- Values in preorder, and what is written of them.
use Rattle.std.proofs.Common.{◌≡◌, ℕ, Bool, true, false, List, [], ◌∷◌, ◌++◌, refl, sym, ap, ◌∙◌, append_assoc}
use Rattle.std.specs.Prelude.{codes}
use Rattle.std.proofs.lemmas.List.{append-nil}
use Rattle.kilim_run_state.specs.declared.value.Token.{Token}
use Rattle.kilim_run_state.specs.declared.value.Token.TheVariants.{Open, Close}
use Rattle.kilim_units.specs.NameText.{name_text}
use Rattle.kilim_run_journal.specs.Text.{token_text, tokens_text}
use Rattle.kilim_run_journal.specs.Readable.{Values, Nothing, Plain, Object, preorder, IsPlain, ArePlain, after_commas, joined, texts_of, ValuesAreJoined}

-- the texts of values of one object, where one may stand before them
abbrev placed : Bool → List (List ℕ) → List ℕ
placed true texts = after_commas texts
placed false texts = joined texts

-- a comma, if a value stands before
abbrev comma : Bool → List ℕ
comma true = codes ","
comma false = []

plain_text : (follows : Bool) (t : Token) (ts : List Token) → IsPlain t → tokens_text follows (t ∷ ts) ≡ comma follows ++ (token_text t ++ tokens_text true ts)
plain_text follows (Open name) ts h = absurd h
plain_text follows Close ts h = absurd h
plain_text true t ts h = refl
plain_text false t ts h = refl

open_text : (follows : Bool) (name : List ℕ) (ts : List Token) → tokens_text follows (Open name ∷ ts) ≡ comma follows ++ ((name_text name ++ codes "(") ++ tokens_text false ts)
open_text true name ts = refl
open_text false name ts = refl

placed_one : (follows : Bool) (text : List ℕ) (texts : List (List ℕ)) (rest : List ℕ) → placed follows (text ∷ texts) ++ rest ≡ comma follows ++ (text ++ (after_commas texts ++ rest))
placed_one true text texts rest = simp append_assoc
placed_one false text texts rest = simp append_assoc

-- values, and then tokens that begin with an end of an object or are none
values_text : (values : Values) (follows : Bool) (ts : List Token) → ((f : Bool) → tokens_text f ts ≡ tokens_text true ts) → ArePlain values → tokens_text follows (preorder values ++ ts) ≡ placed follows (texts_of values) ++ tokens_text true ts
values_text Nothing true ts ends h = refl
values_text Nothing false ts ends h = ends false
values_text (Plain t after) follows ts ends h =
    let next : tokens_text true (preorder after ++ ts) ≡ after_commas (texts_of after) ++ tokens_text true ts = values_text after true ts ends h.1 in
    plain_text follows t (preorder after ++ ts) h.0 ∙ rw next (sym (placed_one follows (token_text t) (texts_of after) (tokens_text true ts)))
values_text (Object name fields after) follows ts ends h =
    let next : tokens_text true (preorder after ++ ts) ≡ after_commas (texts_of after) ++ tokens_text true ts = values_text after true ts ends h.1 in
    let inner : tokens_text false (preorder fields ++ Close ∷ (preorder after ++ ts)) ≡ joined (texts_of fields) ++ (codes ")" ++ tokens_text true (preorder after ++ ts)) = values_text fields false (Close ∷ (preorder after ++ ts)) (λ f. refl) h.0 in
    let split : preorder (Object name fields after) ++ ts ≡ Open name ∷ (preorder fields ++ Close ∷ (preorder after ++ ts)) = simp append_assoc in
    let text = name_text name ++ (codes "(" ++ (joined (texts_of fields) ++ codes ")")) in
    let opened : tokens_text follows (Open name ∷ (preorder fields ++ Close ∷ (preorder after ++ ts))) ≡ comma follows ++ (text ++ (after_commas (texts_of after) ++ tokens_text true ts)) = open_text follows name (preorder fields ++ Close ∷ (preorder after ++ ts)) ∙ rw (inner, next) (simp append_assoc) in
    ap (tokens_text follows) split ∙ (opened ∙ sym (placed_one follows text (texts_of after) (tokens_text true ts)))

-- the text of values in preorder is their texts with commas between them
pub values_are_joined : ValuesAreJoined
values_are_joined values h = rw (← append-nil (preorder values)) (values_text values false [] (λ f. refl) h ∙ append-nil (joined (texts_of values)))
