-- The steps keep what holds of each graph (but that edges join nodes that live: the canonical form sees to that).
use Rattle.std.proofs.Common.{◌≡◌, ℕ, zero, suc, Bool, true, false, true≢false, Option, Some, None, eqb, refl, ap, sym, subst, ◌∙◌, ◌⊎◌, inl, inr, arith}
use Rattle.kilim_isolation_laws.specs.forest.Relation.{Standing, Root, Inner, Gone, is_gone, Label, Node}
use Rattle.kilim_isolation_laws.specs.forest.Steps.{pick, either, is_part, is_that, is_left, climbs, no_parent, cut_node, join_node, IsTidy, IsNearly_tidy}
use Rattle.kilim_isolation_laws.proofs.forest.Store.{both_ways, is_same, is_not_same, same_is, no_parent_is, climbs_is, Climbs, Stop, Rise, left_elsewhere}

pub gone_no_root : Gone ≡ Root → ⊥
gone_no_root e = cc

pub inner_no_root : Inner ≡ Root → ⊥
inner_no_root e = cc

pub parent_less : (a : ℕ) (p : Option (ℕ × Label)) (q : ℕ × Label) → no_parent a p ≡ Some q → p ≡ Some q
parent_less a p q e = (no_parent_is a p q.0 q.1 e).0

module _ (g : ℕ → Node) (tidy : IsNearly_tidy g) (fuel a new : ℕ) (l : Label) (c : Option ℕ) (fresh : (n : ℕ) → is_gone (g n).standing ≡ false → (g n).region ≡ new → ⊥)
    (child : (root : ℕ) → c ≡ Some root → ((g root).parent ≡ Some (a, l)) × (is_gone (g root).standing ≡ false)) where
  abbrev pub part : ℕ → Node
  part n = record { region = new; standing = pick (is_that c n) Root (g n).standing; head = is_that c n; parent = no_parent a (g n).parent }

  abbrev pub rest : ℕ → Node
  rest n = record { region = (g n).region; standing = pick (is_left g fuel a n) (g n).standing Gone; head = (g n).head; parent = no_parent a (g n).parent }

  abbrev pub after : ℕ → Node
  after n = cut_node g fuel a c new n

  pub which : (n : ℕ) → (after n ≡ part n) × (is_part g fuel c n ≡ true) ⊎ (after n ≡ rest n)
  which n = elim (both_ways (is_part g fuel c n)) [ inl e ↦ inl (ap (λ b. pick b (part n) (rest n)) e, e) | inr e ↦ inr (ap (λ b. pick b (part n) (rest n)) e) ]

  pub left_standing : (n : ℕ) (s : Standing) (b : Bool) → is_gone (pick b s Gone) ≡ false → pick b s Gone ≡ s
  left_standing n s true e = refl
  left_standing n s false e = absurd (true≢false e)

  pub rest_live : (n : ℕ) → after n ≡ rest n → is_gone (after n).standing ≡ false → is_gone (g n).standing ≡ false
  rest_live n e live =
      let l1 = ap (λ z. is_gone z.standing) (sym e) ∙ live in
      ap is_gone (sym (left_standing n (g n).standing (is_left g fuel a n) l1)) ∙ l1

  pub the_root : (n : ℕ) (d : Option ℕ) → is_that d n ≡ true → d ≡ Some n
  the_root n None e = absurd (true≢false (sym e))
  the_root n (Some r) e = ap Some (sym (is_same n r e))

  -- what is of the part and isn't its root has a known parent
  pub has_parent : (n : ℕ) (d : Option ℕ) → is_part g fuel d n ≡ true → is_that d n ≡ false → (p : ℕ × Label) × ((g n).parent ≡ Some p)
  has_parent n None e o = absurd (true≢false (sym e))
  has_parent n (Some r) e o = by (climbs_is g fuel n r e)
    where
      by : Climbs g r n → (p : ℕ × Label) × ((g n).parent ≡ Some p)
      by (Stop s) = absurd (is_not_same n r o s)
      by (Rise {n = z} m lb w up) = ((m, lb), w)

  pub cut_roots : (n : ℕ) → (after n).standing ≡ Root → (after n).head ≡ true
  cut_roots n e = elim (which n) [
    | inl w ↦ elim (both_ways (is_that c n)) [
      | inl it ↦ ap (λ z. z.head) w.0 ∙ it
      | inr other ↦
          let p = has_parent n c w.1 other in
          absurd (tidy.heads_top n p.0 (tidy.roots n (ap (λ b. pick b Root (g n).standing) (sym other) ∙ ap (λ z. z.standing) (sym w.0) ∙ e)) p.1)
    ]
    | inr w ↦ ap (λ z. z.head) w ∙ tidy.roots n (left_root (is_left g fuel a n) (ap (λ z. z.standing) (sym w) ∙ e))
  ]
    where
      left_root : (b : Bool) → pick b (g n).standing Gone ≡ Root → (g n).standing ≡ Root
      left_root true e = e
      left_root false e = absurd (gone_no_root e)

  pub cut_one_head : (n m : ℕ) → (after n).head ≡ true → (after m).head ≡ true → is_gone (after n).standing ≡ false → is_gone (after m).standing ≡ false → (after n).region ≡ (after m).region → n ≡ m
  cut_one_head n m hn hm ln lm same = elim (which n) [
    | inl wn ↦ elim (which m) [
      | inl wm ↦ only (the_root n c (ap (λ z. z.head) (sym wn.0) ∙ hn)) (the_root m c (ap (λ z. z.head) (sym wm.0) ∙ hm))
      | inr wm ↦ absurd (fresh m (rest_live m wm lm) (ap (λ z. z.region) (sym wm) ∙ sym same ∙ ap (λ z. z.region) wn.0))
    ]
    | inr wn ↦ elim (which m) [
      | inl wm ↦ absurd (fresh n (rest_live n wn ln) (ap (λ z. z.region) (sym wn) ∙ same ∙ ap (λ z. z.region) wm.0))
      | inr wm ↦ tidy.one_head n m (ap (λ z. z.head) (sym wn) ∙ hn) (ap (λ z. z.head) (sym wm) ∙ hm) (rest_live n wn ln) (rest_live m wm lm)
          (ap (λ z. z.region) (sym wn) ∙ same ∙ ap (λ z. z.region) wm)
    ]
  ]
    where
      only : c ≡ Some n → c ≡ Some m → n ≡ m
      only e f = cc

  pub cut_heads_top : (n : ℕ) (p : ℕ × Label) → (after n).head ≡ true → (after n).parent ≡ Some p → ⊥
  cut_heads_top n p hd e = elim (which n) [
    | inl w ↦
        let ch = child n (the_root n c (ap (λ z. z.head) (sym w.0) ∙ hd)) in
        (no_parent_is a (g n).parent p.0 p.1 (ap (λ z. z.parent) (sym w.0) ∙ e)).1 (first_of_two (g n).parent p (a, l) (no_parent_is a (g n).parent p.0 p.1 (ap (λ z. z.parent) (sym w.0) ∙ e)).0 ch.0)
    | inr w ↦ tidy.heads_top n p (ap (λ z. z.head) (sym w) ∙ hd) (parent_less a (g n).parent p (ap (λ z. z.parent) (sym w) ∙ e))
  ]
    where
      first_of_two : (m : Option (ℕ × Label)) (p q : ℕ × Label) → m ≡ Some p → m ≡ Some q → p.0 ≡ q.0
      first_of_two m p q e f = ap (λ z. first_or z p.0) (sym e ∙ f)
        where
          first_or : Option (ℕ × Label) → ℕ → ℕ
          first_or None d = d
          first_or (Some r) d = r.0

  pub cut_was_live : (n : ℕ) → is_gone (after n).standing ≡ false → is_gone (g n).standing ≡ false
  cut_was_live n live = elim (which n) [
    | inl w ↦ elim (both_ways (is_that c n)) [
      | inl it ↦ (child n (the_root n c it)).1
      | inr other ↦ ap (λ b. is_gone (pick b Root (g n).standing)) (sym other) ∙ ap (λ z. is_gone z.standing) (sym w.0) ∙ live
    ]
    | inr w ↦ rest_live n w live
  ]

  -- a root of another region stays as it is
  pub root_stays : (b : ℕ) → (g b).standing ≡ Root → ((g b).region ≡ (g a).region → ⊥) → ((after b).standing ≡ Root) × ((after b).head ≡ true)
  root_stays b root apart = elim (which b) [
    | inl w ↦ elim (both_ways (is_that c b)) [
      | inl it ↦ absurd (tidy.heads_top b (a, l) (tidy.roots b root) (child b (the_root b c it)).0)
      | inr other ↦
          let p = has_parent b c w.1 other in
          absurd (tidy.heads_top b p.0 (tidy.roots b root) p.1)
    ]
    | inr w ↦ (ap (λ z. z.standing) w ∙ ap (λ x. pick x (g b).standing Gone) (left_elsewhere (climbs g fuel a b) (g b).head (g b).region (g a).region apart) ∙ root, ap (λ z. z.head) w ∙ tidy.roots b root)
  ]

  pub cut_tidy : IsNearly_tidy after
  cut_tidy = record { roots = cut_roots; one_head = cut_one_head; heads_top = cut_heads_top }

module _ (g : ℕ → Node) (tidy : IsNearly_tidy g) (a b : ℕ) (l : Label) (b_root : (g b).standing ≡ Root) where
  abbrev pub joined : ℕ → Node
  joined n = join_node g a b l n

  abbrev pub inside : ℕ → Node
  inside n = record { region = (g a).region; standing = pick (eqb n b) Inner (g n).standing; head = false; parent = pick (eqb n b) (Some (a, l)) (g n).parent }

  pub where_is : (n : ℕ) → (joined n ≡ inside n) × (eqb (g n).region (g b).region ≡ true) ⊎ (joined n ≡ g n)
  where_is n = elim (both_ways (eqb (g n).region (g b).region)) [ inl e ↦ inl (ap (λ x. pick x (inside n) (g n)) e, e) | inr e ↦ inr (ap (λ x. pick x (inside n) (g n)) e) ]

  pub no_head : (n : ℕ) → joined n ≡ inside n → (joined n).head ≡ true → ⊥
  no_head n e hd = true≢false (sym hd ∙ ap (λ z. z.head) e)

  pub join_was_live : (n : ℕ) → is_gone (joined n).standing ≡ false → is_gone (g n).standing ≡ false
  join_was_live n live = elim (where_is n) [
    | inl w ↦ elim (both_ways (eqb n b)) [
      | inl it ↦ ap (λ z. is_gone (g z).standing) (is_same n b it) ∙ ap is_gone b_root
      | inr other ↦ ap (λ x. is_gone (pick x Inner (g n).standing)) (sym other) ∙ ap (λ z. is_gone z.standing) (sym w.0) ∙ live
    ]
    | inr w ↦ ap (λ z. is_gone z.standing) (sym w) ∙ live
  ]

  pub join_tidy : IsNearly_tidy joined
  join_tidy = record { roots = roots; one_head = one_head; heads_top = heads_top }
    where
      roots : (n : ℕ) → (joined n).standing ≡ Root → (joined n).head ≡ true
      roots n e = elim (where_is n) [
        | inl w ↦ elim (both_ways (eqb n b)) [
          | inl it ↦ absurd (inner_no_root (ap (λ x. pick x Inner (g n).standing) (sym it) ∙ ap (λ z. z.standing) (sym w.0) ∙ e))
          | inr other ↦
              let n_root = ap (λ x. pick x Inner (g n).standing) (sym other) ∙ ap (λ z. z.standing) (sym w.0) ∙ e in
              absurd (is_not_same n b other (tidy.one_head n b (tidy.roots n n_root) (tidy.roots b b_root) (ap is_gone n_root) (ap is_gone b_root) (is_same (g n).region (g b).region w.1)))
        ]
        | inr w ↦ ap (λ z. z.head) w ∙ tidy.roots n (ap (λ z. z.standing) (sym w) ∙ e)
      ]

      one_head : (n m : ℕ) → (joined n).head ≡ true → (joined m).head ≡ true → is_gone (joined n).standing ≡ false → is_gone (joined m).standing ≡ false →
          (joined n).region ≡ (joined m).region → n ≡ m
      one_head n m hn hm ln lm same = elim (where_is n) [
        | inl w ↦ absurd (no_head n w.0 hn)
        | inr wn ↦ elim (where_is m) [
          | inl w ↦ absurd (no_head m w.0 hm)
          | inr wm ↦ tidy.one_head n m (ap (λ z. z.head) (sym wn) ∙ hn) (ap (λ z. z.head) (sym wm) ∙ hm) (ap (λ z. is_gone z.standing) (sym wn) ∙ ln)
              (ap (λ z. is_gone z.standing) (sym wm) ∙ lm) (ap (λ z. z.region) (sym wn) ∙ same ∙ ap (λ z. z.region) wm)
        ]
      ]

      heads_top : (n : ℕ) (p : ℕ × Label) → (joined n).head ≡ true → (joined n).parent ≡ Some p → ⊥
      heads_top n p hd e = elim (where_is n) [
        | inl w ↦ no_head n w.0 hd
        | inr w ↦ tidy.heads_top n p (ap (λ z. z.head) (sym w) ∙ hd) (ap (λ z. z.parent) (sym w) ∙ e)
      ]
