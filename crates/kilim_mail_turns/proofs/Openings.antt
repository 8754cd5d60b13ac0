-- Turns of several values of one kind, with all passes of each of them.
use Rattle.std.proofs.Common.{◌≡◌, ℕ, suc, ◌<◌, List, [], ◌∷◌, ◌++◌, append_assoc, append-nil, length, map, refl, sym, ap, subst, ◌∙◌, arith}
use Rattle.std.specs.Prelude.{slice_index_or}
use Rattle.std.specs.List.{remove}
use Rattle.kilim_run_turn.specs.declared.lending.Turn.{Turn}
use Rattle.kilim_run_turn.specs.declared.pass.Pass.{Pass}
use Rattle.kilim_run_turn.specs.Turns.{shows, AreAllOf}
use Rattle.kilim_mail_turns.specs.Opened.{AreSeated, AreAll, IsOpen, AreOpen}

-- the first of a list, and the others
pub front : {A : Type 0} (xs : List A) (x : A) → 0 < length xs → x ≡ slice_index_or xs 0 x → xs ≡ x ∷ remove xs 0
front [] x lt e = absurd (omega arith)
front (y ∷ xs) x lt e = ap (λ z. z ∷ xs) (sym e)

pub split : {A : Type 0} (xs xs' : List A) (x : A) → 0 < length xs → x ≡ slice_index_or xs 0 x → xs' ≡ remove xs 0 → xs ≡ x ∷ xs'
split xs xs' x lt e same = front xs x lt e ∙ ap (λ ys. x ∷ ys) (sym same)

pub map_snoc : {A B : Type 0} (f : A → B) (xs : List A) (x : A) → map f (xs ++ x ∷ []) ≡ map f xs ++ f x ∷ []
map_snoc f [] x = refl
map_snoc f (y ∷ xs) x = ap (λ ys. f y ∷ ys) (map_snoc f xs x)

pub map_size : {A B : Type 0} (f : A → B) (xs : List A) → length (map f xs) ≡ length xs
map_size f [] = refl
map_size f (x ∷ xs) = ap suc (map_size f xs)

module _ {B : Type 0} (cells : B → List (List ℕ)) where
  pub as_many : (turns : List (Turn B)) (rows : List (List Pass)) → AreAll cells turns rows → length rows ≡ length turns
  as_many [] [] a = refl
  as_many [] (passes ∷ rows) a = absurd a
  as_many (turn ∷ turns) [] a = absurd a
  as_many (turn ∷ turns) (passes ∷ rows) a = ap suc (as_many turns rows a.1)

  -- the first turn, and the others
  pub parted : (turns turns' : List (Turn B)) (turn : Turn B) (rows rows' : List (List Pass)) (passes : List Pass) → turns ≡ turn ∷ turns' → rows ≡ passes ∷ rows' → AreAll cells turns rows →
      AreAllOf cells turn passes × AreAll cells turns' rows'
  parted turns turns' turn rows rows' passes e f a = subst (λ (r : List (List Pass)). AreAll cells (turn ∷ turns') r) f (subst (λ (t : List (Turn B)). AreAll cells t rows) e a)

  pub first_seated : (seats : ℕ) (values values' : List B) (value : B) → values ≡ value ∷ values' → AreSeated cells seats values → (seats ≡ length (cells value)) × AreSeated cells seats values'
  first_seated seats values values' value e a = subst (λ (v : List B). AreSeated cells seats v) e a

  -- one turn more
  pub one_more : (seats : ℕ) (values : List B) (value : B) (turns : List (Turn B)) (turn : Turn B) (rows : List (List Pass)) (passes : List Pass) → AreOpen cells seats values turns rows → IsOpen cells seats value turn passes →
      AreOpen cells seats (values ++ value ∷ []) (turns ++ turn ∷ []) (rows ++ passes ∷ [])
  one_more seats [] value [] turn [] passes a is = (is, tt)
  one_more seats (v ∷ values) value (t ∷ turns) turn (p ∷ rows) passes a is = (a.0, one_more seats values value turns turn rows passes a.1 is)
  one_more seats [] value [] turn (p ∷ rows) passes a is = absurd a
  one_more seats [] value (t ∷ turns) turn rows passes a is = absurd a
  one_more seats (v ∷ values) value [] turn rows passes a is = absurd a
  one_more seats (v ∷ values) value (t ∷ turns) turn [] passes a is = absurd a

  -- all passes of each are there
  pub are_all : (seats : ℕ) (values : List B) (turns : List (Turn B)) (rows : List (List Pass)) → AreOpen cells seats values turns rows → AreAll cells turns rows
  are_all seats [] [] [] a = tt
  are_all seats (v ∷ values) (t ∷ turns) (p ∷ rows) a = (a.0.all, are_all seats values turns rows a.1)
  are_all seats [] [] (p ∷ rows) a = absurd a
  are_all seats [] (t ∷ turns) rows a = absurd a
  are_all seats (v ∷ values) [] rows a = absurd a
  are_all seats (v ∷ values) (t ∷ turns) [] a = absurd a

  -- of vectors of passes, or of whatever has passes
  pub first_all : {A : Type 0} (f : A → List Pass) (turns turns' : List (Turn B)) (turn : Turn B) (ps ps' : List A) (p : A) → turns ≡ turn ∷ turns' → ps ≡ p ∷ ps' → AreAll cells turns (map f ps) →
      AreAllOf cells turn (f p) × AreAll cells turns' (map f ps')
  first_all f turns turns' turn ps ps' p e h a = parted turns turns' turn (map f ps) (map f ps') (f p) e (ap (λ qs. map f qs) h) a

  -- at the end no passes are left
  pub all_closed : {A : Type 0} (f : A → List Pass) (turns : List (Turn B)) (values : List B) (ps : List A) (all : List (List (List ℕ))) → length turns ≡ 0 → AreAll cells turns (map f ps) →
      map cells values ++ map (λ p. map shows (f p)) ps ≡ all → map cells values ≡ all
  all_closed f turns values [] all none a e = sym (append-nil (map cells values)) ∙ e
  all_closed f [] values (p ∷ ps) all none a e = absurd a
  all_closed f (turn ∷ turns) values (p ∷ ps) all none a e = absurd (omega arith)

  -- so many are opened, and so many are left
  pub record Opening (seats : ℕ) (all values : List B) (turns : List (Turn B)) (rows : List (List Pass)) : Type 0 where
    pub done : List B
    pub split : done ++ values ≡ all
    pub opened : AreOpen cells seats done turns rows

  pub starts : (seats : ℕ) (all : List B) → Opening seats all all [] []
  starts seats all = record { done = []; split = refl; opened = tt }

  pub goes_on : (seats : ℕ) (all values values' : List B) (value : B) (turns : List (Turn B)) (turn : Turn B) (rows : List (List Pass)) (passes : List Pass) → Opening seats all values turns rows → values ≡ value ∷ values' → IsOpen cells seats value turn passes →
      Opening seats all values' (turns ++ turn ∷ []) (rows ++ passes ∷ [])
  goes_on seats all values values' value turns turn rows passes o e is = record {
    done = o.done ++ value ∷ [];
    split = append_assoc o.done (value ∷ []) values' ∙ (ap (λ vs. o.done ++ vs) (sym e) ∙ o.split);
    opened = one_more seats o.done value turns turn rows passes o.opened is;
  }

  pub all_open : (seats : ℕ) (all values : List B) (turns : List (Turn B)) (rows : List (List Pass)) → Opening seats all values turns rows → length values ≡ 0 → AreOpen cells seats all turns rows
  all_open seats all [] turns rows o none = subst (λ (vs : List B). AreOpen cells seats vs turns rows) (sym (append-nil o.done) ∙ o.split) o.opened
  all_open seats all (v ∷ values) turns rows o none = absurd (omega arith)

  pub one_opened : {A : Type 0} (f : A → List Pass) (seats : ℕ) (all values values' : List B) (value : B) (turns turns' : List (Turn B)) (turn : Turn B) (ps ps' : List A) (p : A) → Opening seats all values turns (map f ps) → values ≡ value ∷ values' →
      turns' ≡ turns ++ turn ∷ [] → ps' ≡ ps ++ p ∷ [] → IsOpen cells seats value turn (f p) → Opening seats all values' turns' (map f ps')
  one_opened f seats all values values' value turns turns' turn ps ps' p o e h k is =
      subst (λ (ts : List (Turn B)). Opening seats all values' ts (map f ps')) (sym h)
      (subst (λ (rows : List (List Pass)). Opening seats all values' (turns ++ turn ∷ []) rows) (sym (ap (λ qs. map f qs) k ∙ map_snoc f ps p))
      (goes_on seats all values values' value turns turn (map f ps) (f p) o e is))
