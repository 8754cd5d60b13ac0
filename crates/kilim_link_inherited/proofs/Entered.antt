-- Entries put onto a tree, one more of a list read from its end.
use Rattle.std.proofs.Common.{◌≡◌, ℕ, suc, ◌-◌, ◌<◌, ◌≤◌, ◌==◌, Bool, true, false, List, ◌∷◌, Option, Some, length, get_or, drop, drop-cons, refl, sym, ap, ◌∙◌, arith}
use Rattle.std.specs.Prelude.{if◌then◌else◌}
use Rattle.kilim_program.specs.declared.names.ClassId.{ClassId}
use Rattle.kilim_link_inherited.specs.declared.entry.Entry.{Entry}
use Rattle.kilim_link_inherited.specs.declared.node.Node.{Node}
use Rattle.kilim_link_inherited.specs.Fronts.{said_onto}
use Rattle.kilim_link_inherited.specs.Inherited.{said_at, said_in, said_or}
use Rattle.kilim_link_inherited.specs.Trees.{Makes, Has, changed_at, value_at, key_levels}
use Rattle.kilim_link_inherited.proofs.Putting.{makes_more}

-- the list from one element earlier
one_earlier : {A : Type 0} (xs : List A) (left : ℕ) (x d : A) → 0 < left → left ≤ length xs → x ≡ get_or xs (left - 1) d → drop (left - 1) xs ≡ x ∷ drop left xs
one_earlier {A = A} xs left x d some le is =
    let lt : left - 1 < length xs = omega (arith, some, le) in
    let same : suc (left - 1) ≡ left = omega (arith, some) in
    drop-cons xs (left - 1) d lt ∙ (ap (λ (y : A). y ∷ drop (suc (left - 1)) xs) (sym is) ∙ ap (λ (n : ℕ). x ∷ drop n xs) same)

-- what is said of a key first
over : (b : Bool) (value : Option ℕ) (said : Option (Option ℕ)) (later now : Option ℕ) → now ≡ said_or said later → (if b then value else now) ≡ said_or (if b then Some value else said) later
over true value said later now is = refl
over false value said later now is = is

module _ (old mid new : List Node) (tree made next : ℕ) (before : Makes old mid made) (makes : Makes mid new next) where
  pub entry_put : (entries : List Entry) (left : ℕ) (entry d : Entry) → 0 < left → left ≤ length entries → entry ≡ get_or entries (left - 1) d
      → Has mid key_levels made (λ k. said_or (said_in (drop left entries) k) (value_at old key_levels tree k))
      → Has new key_levels next (changed_at entry.key entry.value (value_at mid key_levels made))
      → Makes old new next × Has new key_levels next (λ k. said_or (said_in (drop (left - 1) entries) k) (value_at old key_levels tree k))
  entry_put entries left entry d some le is has puts = (
    makes_more old mid new next before.grown makes,
    λ k.
        puts k
        ∙ (over (entry.key == k) entry.value (said_in (drop left entries) k) (value_at old key_levels tree k) (value_at mid key_levels made k) (has k)
        ∙ ap (λ (es : List Entry). said_or (said_in es k) (value_at old key_levels tree k)) (sym (one_earlier entries left entry d some le is))),
  )

  pub class_put : (entries : List (List Entry)) (classes : List ClassId) (left : ℕ) (class d : ClassId) (own : List Entry) → 0 < left → left ≤ length classes → class ≡ get_or classes (left - 1) d
      → ((k : ℕ) → said_in own k ≡ said_at entries k class)
      → Has mid key_levels made (λ k. said_onto entries k (drop left classes) (value_at old key_levels tree k))
      → Has new key_levels next (λ k. said_or (said_in own k) (value_at mid key_levels made k))
      → Makes old new next × Has new key_levels next (λ k. said_onto entries k (drop (left - 1) classes) (value_at old key_levels tree k))
  class_put entries classes left class d own some le is said has puts = (
    makes_more old mid new next before.grown makes,
    λ k.
        puts k
        ∙ (ap (λ (s : Option (Option ℕ)). said_or s (value_at mid key_levels made k)) (said k)
        ∙ (ap (said_or (said_at entries k class)) (has k)
        ∙ ap (λ (cs : List ClassId). said_onto entries k cs (value_at old key_levels tree k)) (sym (one_earlier classes left class d some le is)))),
  )
