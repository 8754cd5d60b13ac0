-- A tree whose objects are well has a shape just where it isn't too large.
use Rattle.std.proofs.Common.{◌≡◌, ℕ, zero, suc, ◌+◌, ◌≤◌, Bool, true, false, List, [], ◌∷◌, ◌++◌, Option, Some, None, length, refl, sym, ap, subst, ◌∙◌, inl, inr, arith, rules}
use Rattle.std.specs.Prelude.{count_by, nat_le, if◌then◌else◌}
use Rattle.std.specs.FinMap.{get}
use Rattle.kilim_program.specs.Program.{Program}
use Rattle.kilim_program.specs.declared.value.Value.{Value}
use Rattle.kilim_program.specs.declared.value.Value.TheVariants.{Int, Long, Null, Ref, Text, Box, Fiber}
use Rattle.kilim_program.specs.Names.{◌>>=◌}
use Rattle.kilim_run_state.specs.declared.value.Object.{Object}
use Rattle.kilim_run_state.specs.declared.value.Token.{Token}
use Rattle.kilim_run_state.specs.declared.value.Token.TheVariants as token
use Rattle.kilim_run_state.specs.Machine.{Objects}
use Rattle.kilim_program.specs.Members.{shown_name}
use Rattle.kilim_run_state.specs.Shapes.{tree_limit, shape_of, shape_by, content_tokens, joined_tokens, is_open}
use Rattle.kilim_run_model.specs.Reach.{Below, Then}
use Rattle.kilim_run_model.specs.Kept.{IsIn}
use Rattle.kilim_run_trees.specs.Walk.{value_refs, element_refs, refs, Leads, AreIn, IsTree}
use Rattle.kilim_run_trees.specs.Moved.{heap_tokens, IsTooLarge}
use Rattle.kilim_run_trees.specs.Shaping.{held, Suits}
use Rattle.kilim_run_trees.proofs.Numbering.{append_nothing}
use Rattle.kilim_run_trees.proofs.Tokens.{FromTree, EachSuits, bind_some, content_held, held_refs, opens, opens_join, opens_counted, leads_beside}
use Rattle.kilim_run_trees.proofs.Walks.{leads_join}
use Rattle.std.proofs.lemmas.List.{length-append}
use Rattle.kilim_fiber_spec.proofs.fiber_kin.Formed.{formed_suits}
use Rattle.kilim_fiber_spec.proofs.fiber_kin.Belows.{AllWell, refs_held, entries_below, at_root}

in_both : (heap : Objects) (es fs : List (ℕ × Object)) → AreIn heap es → AreIn heap fs → AreIn heap (es ++ fs)
in_both heap [] fs a b = b
in_both heap (e ∷ es) fs a b = (a.0, in_both heap es fs a.1 b)

beside : (heap : Objects) (xs ys : List ℕ) (m n : ℕ) → FromTree heap xs m → FromTree heap ys n → FromTree heap (xs ++ ys) (m + n)
beside heap xs ys m n a b = record {
  entries = a.entries ++ b.entries;
  leads = leads_join (xs ++ ys) a.entries b.entries ys [] (leads_beside xs a.entries [] ys a.leads) b.leads;
  are_in = in_both heap a.entries b.entries a.are_in b.are_in;
  counted = omega (arith, length-append a.entries b.entries, a.counted, b.counted);
}

module _ (p : Program) (heap : Objects) (root : ℕ) (well : AllWell p heap root) where
  abbrev Inside : List ℕ → Type 0
  Inside ns = (n : ℕ) → IsIn n ns → Below heap root n

  from_values : (t : Value → Option (List Token)) → ((v : Value) (ts : List Token) → Inside (value_refs v) → t v ≡ Some ts → FromTree heap (value_refs v) (opens ts)) → (vs : List Value) (c : List Token) → Inside (element_refs vs) → joined_tokens t vs ≡ Some c → FromTree heap (element_refs vs) (opens c)
  from_values t each [] c all e = let none : List Token = [] in let q : none ≡ c = let r : Some none ≡ Some c = e in cc in record { entries = []; leads = refl; are_in = tt; counted = ap opens q }
  from_values t each (v ∷ vs) c all e =
      let a = bind_some (t v) (λ first. joined_tokens t vs >>= λ others. Some (first ++ others)) c e in
      let b = bind_some (joined_tokens t vs) (λ others. Some (a.0 ++ others)) c a.2 in
      let whole : a.0 ++ b.0 ≡ c = let q : Some (a.0 ++ b.0) ≡ Some c = b.2 in cc in
      subst (FromTree heap (value_refs v ++ element_refs vs)) (sym (opens_join a.0 b.0) ∙ ap opens whole)
      (beside heap (value_refs v) (element_refs vs) (opens a.0) (opens b.0) (each v a.0 (λ n i. all n (left (value_refs v) (element_refs vs) n i)) a.1) (from_values t each vs b.0 (λ n i. all n (right (value_refs v) (element_refs vs) n i)) b.1))
    where
      left : (xs ys : List ℕ) (n : ℕ) → IsIn n xs → IsIn n (xs ++ ys)
      left [] ys n i = absurd i
      left (x ∷ xs) ys n (inl d) = inl d
      left (x ∷ xs) ys n (inr d) = inr (left xs ys n d)

      right : (xs ys : List ℕ) (n : ℕ) → IsIn n ys → IsIn n (xs ++ ys)
      right [] ys n i = i
      right (x ∷ xs) ys n i = inr (right xs ys n i)

  no_objects : (one ts : List Token) → opens one ≡ 0 → Some one ≡ Some ts → FromTree heap [] (opens ts)
  no_objects one ts z e = let q : one ≡ ts = cc in record { entries = []; leads = refl; are_in = tt; counted = sym z ∙ ap opens q }

  from_tokens : (d : ℕ) (v : Value) (ts : List Token) → Inside (value_refs v) → heap_tokens p heap d v ≡ Some ts → FromTree heap (value_refs v) (opens ts)
  from_tokens d (Int n) ts all e = no_objects (token.Int n ∷ []) ts refl e
  from_tokens d (Long n) ts all e = no_objects (token.Long n ∷ []) ts refl e
  from_tokens d Null ts all e = no_objects (token.Null ∷ []) ts refl e
  from_tokens d (Text units) ts all e = no_objects (token.Text units ∷ []) ts refl e
  from_tokens d (Box box) ts all e = no_objects (token.Box box ∷ []) ts refl e
  from_tokens d Fiber ts all e = absurd (cc)
  from_tokens zero (Ref n) ts all e = absurd (cc)
  from_tokens (suc d) (Ref n) ts all e =
      let a = bind_some (get heap n) (λ (object : Object). content_tokens p (heap_tokens p heap d) object >>= λ content. Some (token.Open (shown_name p object.class) ∷ (content ++ token.Close ∷ []))) ts e in
      let b = bind_some (content_tokens p (heap_tokens p heap d) a.0) (λ content. Some (token.Open (shown_name p a.0.class) ∷ (content ++ token.Close ∷ []))) ts a.2 in
      let w = well n (all n (inl refl)) in
      let same : w.object ≡ a.0 = let q : Some w.object ≡ Some a.0 = sym w.there ∙ a.1 in cc in
      let suits = subst (Suits p) same (formed_suits p w.object w.formed w.shown) in
      let inside : Inside (element_refs (held a.0)) = λ m i. Then n a.0 (all n (inl refl)) a.1 (refs_held a.0 m (subst (IsIn m) (held_refs a.0) i)) in
      let inner = from_values (heap_tokens p heap d) (λ v ts i h. from_tokens d v ts i h) (held a.0) b.0 inside (sym (content_held p (heap_tokens p heap d) a.0 suits) ∙ b.1) in
      let whole : token.Open (shown_name p a.0.class) ∷ (b.0 ++ token.Close ∷ []) ≡ ts = let q : Some (token.Open (shown_name p a.0.class) ∷ (b.0 ++ token.Close ∷ [])) ≡ Some ts = b.2 in cc in
      record {
        entries = (n, a.0) ∷ inner.entries;
        leads = (refl, subst (λ from. Leads from inner.entries []) (held_refs a.0 ∙ sym (append_nothing (refs a.0))) inner.leads);
        are_in = (a.1, inner.are_in);
        counted = omega (arith, inner.counted, ap opens whole, opens_join b.0 (token.Close ∷ []));
      }

  le_from : (m n : ℕ) → nat_le m n ≡ true → m ≤ n
  le_from m n h = search rules

  bounded : (b : Bool) (x ts : List Token) → (if b then Some x else None) ≡ Some ts → (b ≡ true) × (x ≡ ts)
  bounded true x ts e = (refl, cc)
  bounded false x ts e = absurd (cc)

  pub tree_of_shape : (ts : List Token) → shape_of p heap root ≡ Some ts → (es : List (ℕ × Object)) × IsTree heap root es × (length es ≤ tree_limit)
  unfolding shape_by
  tree_of_shape ts e =
      let a = bind_some (heap_tokens p heap tree_limit (Ref root)) (λ tokens. if nat_le (count_by is_open tokens) tree_limit then Some tokens else None) ts e in
      let b = bounded (nat_le (count_by is_open a.0) tree_limit) a.0 ts a.2 in
      let t = from_tokens tree_limit (Ref root) a.0 (at_root heap root) a.1 in
      (t.entries, record { leads = t.leads; are_in = t.are_in }, omega (arith, t.counted, opens_counted a.0, le_from (count_by is_open a.0) tree_limit b.0))

  none_or_some : (x : Option (List Token)) → ((ts : List Token) → x ≡ Some ts → ⊥) → x ≡ None
  none_or_some None f = refl
  none_or_some (Some ts) f = absurd (f ts refl)

  pub large_has_none : IsTooLarge heap root → shape_of p heap root ≡ None
  large_has_none large = none_or_some (shape_of p heap root) (λ ts e. let t = tree_of_shape ts e in let h = large t.0 t.1 in absurd (omega (arith, h, t.2)))

  pub each_suits : (es : List (ℕ × Object)) → IsTree heap root es → EachSuits p es
  each_suits es t = entries_below heap root (λ e. Suits p e.1) (λ e b there.
      let w = well e.0 b in
      let same : w.object ≡ e.1 = let q : Some w.object ≡ Some e.1 = sym w.there ∙ there in cc in
      subst (Suits p) same (formed_suits p w.object w.formed w.shown)) (root ∷ []) es [] t.leads t.are_in (at_root heap root)
