-- A map of puts with one more.
use Rattle.std.proofs.Common.{◌≡◌, ℕ, Bool, true, false, cond, ◌==◌, nat_lt, Some, sym, ap, subst, ◌∙◌, inl, inr, arith}
use Rattle.std.specs.Prelude.{◌&&◌}
use Rattle.std.proofs.lemmas.Bool.{cases_Bool}
use Rattle.std.proofs.lemmas.Bool.Decides.{nat_tests}
use Rattle.std.specs.declared.cmp.Ordering.TheVariants.{Less, Equal, Greater}
use Rattle.std.specs.Ordering.{nat_cmp, ordering_then, is_eq}
use Rattle.std.specs.BTreeMap.{BTreeMap, UpdatesBy}
use Rattle.kilim_lemmas.proofs.Orders.{both_eq}
use Rattle.kilim_chart.specs.declared.rows.MessageName.{MessageName}
use Rattle.kilim_chart.specs.Shapes.{same_message}
use Rattle.kilim_chart.specs.Places.{Key, key_of, key_cmp, place_in}

eq_number : (x y : ℕ) → is_eq (nat_cmp x y) ≡ (y == x)
eq_number x y = elim (cases_Bool (nat_lt x y)) [
  | inl less ↦
      let e : (y == x) ≡ false = grind (arith, nat_tests) in
      ap (λ (b : Bool). is_eq (cond b Less (cond (x == y) Equal Greater))) less ∙ sym e
  | inr not_less ↦
      ap (λ (b : Bool). is_eq (cond b Less (cond (x == y) Equal Greater))) not_less ∙ elim (cases_Bool (x == y)) [
        | inl same ↦ let e : (y == x) ≡ true = grind (arith, nat_tests) in ap (λ (b : Bool). is_eq (cond b Equal Greater)) same ∙ sym e
        | inr other ↦ let e : (y == x) ≡ false = grind (arith, nat_tests) in ap (λ (b : Bool). is_eq (cond b Equal Greater)) other ∙ sym e
      ]
]

key_is : (a b : MessageName) → is_eq (key_cmp (key_of a) (key_of b)) ≡ same_message a b
key_is a b =
    both_eq (ordering_then (nat_cmp a.mailbox.task b.mailbox.task) (nat_cmp a.mailbox.number b.mailbox.number)) (nat_cmp a.number b.number)
    ∙ (ap (λ (t : Bool). t && is_eq (nat_cmp a.number b.number))
    (both_eq (nat_cmp a.mailbox.task b.mailbox.task) (nat_cmp a.mailbox.number b.mailbox.number)
    ∙ (ap (λ (t : Bool). t && is_eq (nat_cmp a.mailbox.number b.mailbox.number)) (eq_number a.mailbox.task b.mailbox.task) ∙ ap (λ (t : Bool). (b.mailbox.task == a.mailbox.task) && t) (eq_number a.mailbox.number b.mailbox.number)))
    ∙ ap (λ (t : Bool). (b.mailbox.task == a.mailbox.task && b.mailbox.number == a.mailbox.number) && t) (eq_number a.number b.number))

pub noted : (old new : BTreeMap Key ℕ) (key : Key) (name : MessageName) (row : ℕ) → key ≡ key_of name → UpdatesBy key_cmp (key_cmp key) old new (Some row) → (m : MessageName) → place_in new m ≡ cond (same_message name m) (Some row) (place_in old m)
noted old new key name row is updates m =
    let there : UpdatesBy key_cmp (key_cmp (key_of name)) old new (Some row) = subst (λ (k : Key). UpdatesBy key_cmp (key_cmp k) old new (Some row)) is updates in
    there.0 (key_of m) ∙ ap (λ (b : Bool). cond b (Some row) (place_in old m)) (key_is name m)
