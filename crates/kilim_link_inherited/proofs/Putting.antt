-- Trees with one more key, step by step.
use Rattle.std.proofs.Common.{◌≡◌, ℕ, zero, suc, ◌+◌, ◌-◌, ◌/◌, ◌%◌, ◌^◌, ◌*◌, ◌<◌, ◌≤◌, ◌==◌, pow-suc, Bool, true, false, List, [], ◌∷◌, ◌++◌, Option, Some, None, Result, Ok, Err, length, refl, sym, ap, subst, ◌∙◌, arith, inl, inr}
use Rattle.std.specs.Prelude.{if◌then◌else◌, IfOk}
use Rattle.std.specs.List.{slice_get}
use Rattle.std.proofs.lemmas.List.{length-append}
use Rattle.std.proofs.lemmas.Bool.{cases_Bool, eqb-true, eq-eqb, ne_eqb}
use Rattle.std.proofs.lemmas.Bool.Decides.{eqb_tells}
use Rattle.kilim_lemmas.proofs.Lists.{get_last}
use Rattle.kilim_link_inherited.specs.declared.node.Node.{Node}
use Rattle.kilim_link_inherited.specs.declared.node.Node.TheVariants.{Empty, Leaf, Branch}
use Rattle.kilim_link_inherited.specs.Trees.{only_at, side, value_by, value_at, ChildrenWithin, IsTable, Grows, Makes, Has, Fits, HasOnly, IsAlone, Joins, Opens, changed_at}
use Rattle.kilim_link_inherited.proofs.Halves.{half_fits, same_half, apart, is_odd}
use Rattle.kilim_link_inherited.proofs.Growing.{side_within, stays, table_more, grows_more, grows_none}

-- what the trees below a node have
abbrev pub below_at : List Node → ℕ → ℕ → ℕ → Option ℕ
below_at nodes zero tree k = None
below_at nodes (suc levels) tree k = value_at nodes levels tree k

pub at_node : (nodes : List Node) (levels tree k : ℕ) → value_at nodes levels tree k ≡ value_by (below_at nodes levels) (slice_get nodes tree) k
at_node nodes zero tree k = refl
at_node nodes (suc levels) tree k = refl

pub at_known : (nodes : List Node) (levels tree k : ℕ) (found : Option Node) → slice_get nodes tree ≡ found → value_at nodes levels tree k ≡ value_by (below_at nodes levels) found k
at_known nodes levels tree k found is = at_node nodes levels tree k ∙ ap (λ (o : Option Node). value_by (below_at nodes levels) o k) is

pub only_none : (key k : ℕ) → only_at key None k ≡ None
only_none key k = elim (cases_Bool (key == k)) [ inl is ↦ rw is refl | inr isnt ↦ rw isnt refl ]

-- the empty tree has nothing
pub empty_has : (nodes : List Node) → IsTable nodes → (levels k : ℕ) → value_at nodes levels 0 k ≡ None
empty_has nodes table levels k = at_known nodes levels 0 k (Some Empty) table.begins

module _ (old new : List Node) (node : Node) (at : ℕ) (is : new ≡ old ++ node ∷ []) (place : at ≡ length old) where
  pub makes_last : IsTable old → ChildrenWithin (length old) (Some node) → Makes old new at
  makes_last table h =
      let more : length new ≡ length old + 1 = ap length is ∙ length-append old (node ∷ []) in
      record {
        table = subst IsTable (sym is) (table_more old node table h);
        grown = (node ∷ [], is);
        inside = omega arith;
      }

  last_is : slice_get new at ≡ Some node
  last_is = ap (λ (nodes : List Node). slice_get nodes at) is ∙ (ap (λ (n : ℕ). slice_get (old ++ node ∷ []) n) place ∙ get_last old node)

  pub has_last : (levels k : ℕ) → value_at new levels at k ≡ value_by (below_at new levels) (Some node) k
  has_last levels k = at_known new levels at k (Some node) last_is

-- one leaf more
pub leaf_more : (old new : List Node) (key value at : ℕ) → new ≡ old ++ Leaf key value ∷ [] → at ≡ length old → IsTable old → Makes old new at × HasOnly new at key (Some value)
leaf_more old new key value at is place table =
    (makes_last old new (Leaf key value) at is place table tt, λ levels k. has_last old new (Leaf key value) at is place levels k)

makes_empty : (old : List Node) → IsTable old → Makes old old 0
makes_empty [] table = absurd (let e = table.begins in cc)
makes_empty (x ∷ xs) table = record { table = table; grown = grows_none (x ∷ xs); inside = omega arith }

pub leaf_none : (old : List Node) (key : ℕ) → IsTable old → Makes old old 0 × HasOnly old 0 key None
leaf_none old key table =
    (makes_empty old table, λ levels k. empty_has old table levels k ∙ sym (only_none key k))

-- one branch more
pub branch_more : (old new : List Node) (even odd at : ℕ) → new ≡ old ++ Branch even odd ∷ [] → at ≡ length old → IsTable old → even < length old → odd < length old → Makes old new at × Joins old new even odd at
branch_more old new even odd at is place table e o = (
  makes_last old new (Branch even odd) at is place table (e, o),
  λ levels k.
      has_last old new (Branch even odd) at is place (suc levels) k
      ∙ stays old new table (Branch even odd ∷ [], is) levels (side even odd k) (k / 2) (side_within (length old) even odd k e o),
)

side_same : (tree k : ℕ) → side tree tree k ≡ tree
side_same tree k = elim (cases_Bool (k % 2 == 0)) [ inl is ↦ rw is refl | inr isnt ↦ rw isnt refl ]

pub branch_none : (old : List Node) → IsTable old → Makes old old 0 × Joins old old 0 0 0
branch_none old table = (
  makes_empty old table,
  λ levels k.
      empty_has old table (suc levels) k
      ∙ sym (ap (λ (t : ℕ). value_at old levels t (k / 2)) (side_same 0 k) ∙ empty_has old table levels (k / 2)),
)

pub alone_none : (nodes : List Node) (tree key : ℕ) → slice_get nodes tree ≡ None → IsAlone nodes tree key
alone_none nodes tree key is levels k differ = at_known nodes levels tree k None is

pub alone_empty : (nodes : List Node) (tree key : ℕ) → slice_get nodes tree ≡ Some Empty → IsAlone nodes tree key
alone_empty nodes tree key is levels k differ = at_known nodes levels tree k (Some Empty) is

pub alone_leaf : (nodes : List Node) (tree key rest value : ℕ) → slice_get nodes tree ≡ Some (Leaf rest value) → rest ≡ key → IsAlone nodes tree key
alone_leaf nodes tree key rest value is same levels k differ =
    let other : (rest == k) ≡ false = ap (λ (n : ℕ). n == k) same ∙ differ in
    at_known nodes levels tree k (Some (Leaf rest value)) is ∙ rw other refl

pub side_even : (even odd k : ℕ) → (k % 2 == 0) ≡ true → side even odd k ≡ even
side_even even odd k is = rw is refl

pub side_odd : (even odd k : ℕ) → (k % 2 == 0) ≡ false → side even odd k ≡ odd
side_odd even odd k isnt = rw isnt refl

even_is : (k : ℕ) → (k % 2 == 0) ≡ true → k % 2 ≡ 0
even_is k is = eqb-true (k % 2) 0 is

-- a branch is open
pub opens_branch : (old : List Node) (tree even odd : ℕ) → IsTable old → slice_get old tree ≡ Some (Branch even odd) → Opens old old tree even odd
opens_branch old tree even odd table is =
    let h : ChildrenWithin (length old) (Some (Branch even odd)) = subst (ChildrenWithin (length old)) is (table.inside tree) in
    record {
      table = table;
      grown = grows_none old;
      even_inside = h.0;
      odd_inside = h.1;
      values = λ levels k. sym (at_known old (suc levels) tree k (Some (Branch even odd)) is);
    }

-- nothing is opened as nothing
pub opens_nothing : (old : List Node) (tree : ℕ) → IsTable old → ((levels k : ℕ) → value_at old levels tree k ≡ None) → Opens old old tree 0 0
opens_nothing old tree table none =
    let m = makes_empty old table in
    record {
      table = table;
      grown = grows_none old;
      even_inside = m.inside;
      odd_inside = m.inside;
      values = λ levels k. ap (λ (t : ℕ). value_at old levels t (k / 2)) (side_same 0 k) ∙ (empty_has old table levels (k / 2) ∙ sym (none (suc levels) k));
    }

module _ (old new : List Node) (tree rest value below : ℕ) (table : IsTable old) (is : slice_get old tree ≡ Some (Leaf rest value)) (made : Makes old new below) (only : HasOnly new below (rest / 2) (Some value)) where
  empty_inside : 0 < length new
  empty_inside = let m = makes_empty new made.table in m.inside

  was : (levels k : ℕ) → value_at old (suc levels) tree k ≡ only_at rest (Some value) k
  was levels k = at_known old (suc levels) tree k (Some (Leaf rest value)) is

  same_only : (k : ℕ) → rest % 2 ≡ k % 2 → only_at (rest / 2) (Some value) (k / 2) ≡ only_at rest (Some value) k
  same_only k same = ap (λ (b : Bool). if b then Some value else None) (same_half rest k same)

  other_only : (k : ℕ) → (rest % 2 ≡ k % 2 → ⊥) → None ≡ only_at rest (Some value) k
  other_only k differ = sym (ap (λ (b : Bool). if b then Some value else None) (apart rest k differ))

  here : (levels k tree' : ℕ) → tree' ≡ below → rest % 2 ≡ k % 2 → value_at new levels tree' (k / 2) ≡ value_at old (suc levels) tree k
  here levels k tree' e same = ap (λ (t : ℕ). value_at new levels t (k / 2)) e ∙ (only levels (k / 2) ∙ (same_only k same ∙ sym (was levels k)))

  there : (levels k tree' : ℕ) → tree' ≡ 0 → (rest % 2 ≡ k % 2 → ⊥) → value_at new levels tree' (k / 2) ≡ value_at old (suc levels) tree k
  there levels k tree' e differ = ap (λ (t : ℕ). value_at new levels t (k / 2)) e ∙ (empty_has new made.table levels (k / 2) ∙ (other_only k differ ∙ sym (was levels k)))

  pub opens_even : (rest % 2 == 0) ≡ true → Opens old new tree below 0
  opens_even even =
      let r = even_is rest even in
      record {
        table = made.table;
        grown = made.grown;
        even_inside = made.inside;
        odd_inside = empty_inside;
        values = λ levels k.
            elim (cases_Bool (k % 2 == 0)) [
              | inl yes_even ↦ let e = even_is k yes_even in here levels k (side below 0 k) (side_even below 0 k yes_even) (omega arith)
              | inr not_even ↦ let o = is_odd k not_even in there levels k (side below 0 k) (side_odd below 0 k not_even) (λ e. omega arith)
            ];
      }

  pub opens_odd : (rest % 2 == 0) ≡ false → Opens old new tree 0 below
  opens_odd odd =
      let r = is_odd rest odd in
      record {
        table = made.table;
        grown = made.grown;
        even_inside = empty_inside;
        odd_inside = made.inside;
        values = λ levels k.
            elim (cases_Bool (k % 2 == 0)) [
              | inl yes_even ↦ let e = even_is k yes_even in there levels k (side 0 below k) (side_even 0 below k yes_even) (λ e'. omega arith)
              | inr not_even ↦ let o = is_odd k not_even in here levels k (side 0 below k) (side_odd 0 below k not_even) (omega arith)
            ];
      }

pub ok_then : {T E : Type 0} (r : Result T E) (P Q : T → Type 0) → ((x : T) → P x → Q x) → IfOk r P → IfOk r Q
ok_then (Ok x) P Q f h = f x h
ok_then (Err e) P Q f h = tt

pub makes_more : (old mid new : List Node) (made : ℕ) → Grows old mid → Makes mid new made → Makes old new made
makes_more old mid new made grown makes = record { table = makes.table; grown = grows_more old mid new grown makes.grown; inside = makes.inside }

module _ (old mid low new : List Node) (tree levels key : ℕ) (value : Option ℕ) (even odd side_made made : ℕ) (opens : Opens old mid tree even odd) (below : Makes mid low side_made) (makes : Makes low new made) where
  makes_all : Makes old new made
  makes_all = makes_more old low new made (grows_more old mid low opens.grown below.grown) makes

  -- what the changed side has
  changed : (k part : ℕ) → part ≡ side even odd k → key % 2 ≡ k % 2 → changed_at (key / 2) value (value_at mid levels part) (k / 2) ≡ changed_at key value (value_at old (suc levels) tree) k
  changed k part is same =
      ap (λ (b : Bool). if b then value else value_at mid levels part (k / 2)) (same_half key k same)
      ∙ ap (λ (o : Option ℕ). if key == k then value else o) (ap (λ (t : ℕ). value_at mid levels t (k / 2)) is ∙ opens.values levels k)

  -- what the other side has
  kept : (k part : ℕ) → part < length mid → part ≡ side even odd k → (key % 2 ≡ k % 2 → ⊥) → value_at low levels part (k / 2) ≡ changed_at key value (value_at old (suc levels) tree) k
  kept k part inside is differ =
      stays mid low opens.table below.grown levels part (k / 2) inside
      ∙ (ap (λ (t : ℕ). value_at mid levels t (k / 2)) is ∙ opens.values levels k)
      ∙ sym (ap (λ (b : Bool). if b then value else value_at old (suc levels) tree k) (apart key k differ))

  pub put_even : (key % 2 == 0) ≡ true → Has low levels side_made (changed_at (key / 2) value (value_at mid levels even)) → Joins low new side_made odd made → Makes old new made × Has new (suc levels) made (changed_at key value (value_at old (suc levels) tree))
  put_even is has joins =
      let z = even_is key is in (
        makes_all,
        λ k.
            joins levels k
            ∙ elim (cases_Bool (k % 2 == 0)) [
              | inl yes_even ↦
                  let e = even_is k yes_even in
                  ap (λ (t : ℕ). value_at low levels t (k / 2)) (side_even side_made odd k yes_even)
                  ∙ (has (k / 2) ∙ changed k even (sym (side_even even odd k yes_even)) (omega arith))
              | inr not_even ↦
                  let o = is_odd k not_even in
                  ap (λ (t : ℕ). value_at low levels t (k / 2)) (side_odd side_made odd k not_even)
                  ∙ kept k odd opens.odd_inside (sym (side_odd even odd k not_even)) (λ e. omega arith)
            ],
      )

  pub put_odd : (key % 2 == 0) ≡ false → Has low levels side_made (changed_at (key / 2) value (value_at mid levels odd)) → Joins low new even side_made made → Makes old new made × Has new (suc levels) made (changed_at key value (value_at old (suc levels) tree))
  put_odd isnt has joins =
      let z = is_odd key isnt in (
        makes_all,
        λ k.
            joins levels k
            ∙ elim (cases_Bool (k % 2 == 0)) [
              | inl yes_even ↦
                  let e = even_is k yes_even in
                  ap (λ (t : ℕ). value_at low levels t (k / 2)) (side_even even side_made k yes_even)
                  ∙ kept k even opens.even_inside (sym (side_even even odd k yes_even)) (λ e'. omega arith)
              | inr not_even ↦
                  let o = is_odd k not_even in
                  ap (λ (t : ℕ). value_at low levels t (k / 2)) (side_odd even side_made k not_even)
                  ∙ (has (k / 2) ∙ changed k odd (sym (side_odd even odd k not_even)) (omega arith))
            ],
      )

-- the same at a number of levels that isn't 0
pub at_levels : (old new : List Node) (levels tree made key : ℕ) (value : Option ℕ) → 0 < levels → Makes old new made × Has new (suc (levels - 1)) made (changed_at key value (value_at old (suc (levels - 1)) tree)) → Makes old new made × Has new levels made (changed_at key value (value_at old levels tree))
at_levels old new levels tree made key value some h =
    let e : suc (levels - 1) ≡ levels = omega arith in
    (h.0, subst (λ (n : ℕ). Has new n made (changed_at key value (value_at old n tree))) e h.1)

pub rest_fits : (levels key : ℕ) → 0 < levels → key < 2 ^ levels → key / 2 < 2 ^ (levels - 1)
rest_fits levels key some fits =
    let e : levels ≡ suc (levels - 1) = omega arith in
    half_fits (levels - 1) key (subst (λ (n : ℕ). key < 2 ^ n) e fits)

-- ---- no value of a number with more digits

module _ (old mid : List Node) (tree even odd levels : ℕ) (opens : Opens old mid tree even odd) (fits : Fits old (suc levels) tree) where
  doubled : (j r : ℕ) → 2 ^ levels ≤ j → 2 ^ suc levels ≤ 2 * j + r
  doubled j r le = let e = pow-suc 2 levels in omega arith

  even_fits : Fits mid levels even
  even_fits j le =
      let k = 2 * j + 0 in
      let half : k / 2 ≡ j = omega arith in
      sym (ap (λ (t : ℕ). value_at mid levels t (k / 2)) (side_even even odd k (eq-eqb (k % 2) 0 (omega arith))) ∙ ap (value_at mid levels even) half)
      ∙ (opens.values levels k ∙ fits k (doubled j 0 le))

  odd_fits : Fits mid levels odd
  odd_fits j le =
      let k = 2 * j + 1 in
      let half : k / 2 ≡ j = omega arith in
      sym (ap (λ (t : ℕ). value_at mid levels t (k / 2)) (side_odd even odd k (ne_eqb (k % 2) 0 (λ e. omega arith))) ∙ ap (value_at mid levels odd) half)
      ∙ (opens.values levels k ∙ fits k (doubled j 1 le))

-- both trees of an opened one
pub opened_fits : (old mid : List Node) (tree even odd levels : ℕ) → 0 < levels → Opens old mid tree even odd → Fits old levels tree → Fits mid (levels - 1) even × Fits mid (levels - 1) odd
opened_fits old mid tree even odd levels some opens fits =
    let e : levels ≡ suc (levels - 1) = omega arith in
    let fit : Fits old (suc (levels - 1)) tree = subst (λ (n : ℕ). Fits old n tree) e fits in
    (even_fits old mid tree even odd (levels - 1) opens fit, odd_fits old mid tree even odd (levels - 1) opens fit)

-- a key that fits is put
pub changed_fits : (old new : List Node) (levels tree made key : ℕ) (value : Option ℕ) → key < 2 ^ levels → Fits old levels tree → Has new levels made (changed_at key value (value_at old levels tree)) → Fits new levels made
changed_fits old new levels tree made key value lt fits has k le =
    has k ∙ (ap (λ (b : Bool). if b then value else value_at old levels tree k) (ne_eqb key k (λ e. omega arith)) ∙ fits k le)

-- where the value is what it was, nothing changes
pub unchanged : (nodes : List Node) (levels tree key : ℕ) (value : Option ℕ) → IsTable nodes → tree < length nodes → value_at nodes levels tree key ≡ value → Makes nodes nodes tree × Has nodes levels tree (changed_at key value (value_at nodes levels tree))
unchanged nodes levels tree key value table inside is = (
  record { table = table; grown = grows_none nodes; inside = inside },
  λ k.
      elim (eqb_tells key k) [
        | inl same ↦ ap (value_at nodes levels tree) (sym same.1) ∙ (is ∙ sym (ap (λ (b : Bool). if b then value else value_at nodes levels tree k) same.0))
        | inr differ ↦ sym (ap (λ (b : Bool). if b then value else value_at nodes levels tree k) differ.0)
      ],
)
