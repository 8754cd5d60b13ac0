-- A map of mailboxes that changes at one name.
use Rattle.std.proofs.Common.{◌≡◌, ℕ, Bool, true, false, ◌&&◌, cond, ◌==◌, nat_lt, List, [], ◌∷◌, Option, Some, None, Result, Ok, Err, ◌⊎◌, inl, inr, refl, sym, ap, ◌∙◌, arith}
use Rattle.std.specs.Prelude.{IfSome, IfNone, MatchOption, OnOk}
use Rattle.std.proofs.lemmas.Bool.Decides.{nat_tests}
use Rattle.std.specs.declared.cmp.Ordering.{Ordering}
use Rattle.std.specs.declared.cmp.Ordering.TheVariants.{Less, Equal, Greater}
use Rattle.std.specs.Ordering.{nat_cmp, ordering_then, is_eq}
use Rattle.std.specs.BTreeMap.{BTreeMap, get, UpdatesBy, is_at}
use Rattle.std.specs.Map.{lookup}
use Rattle.kilim_program.specs.declared.names.BoxName.{BoxName}
use Rattle.kilim_run_model.specs.State.{Mailbox, same_box, with_mailbox}
use Rattle.kilim_replay.specs.declared.mailboxes.Post.{Post}
use Rattle.kilim_replay.specs.Mailboxes.{key_cmp, mail_in}

both_ways : (b : Bool) → (b ≡ true) ⊎ (b ≡ false)
both_ways true = inl refl
both_ways false = inr refl

box_named : ℕ → ℕ → BoxName
box_named t n = record { task = t; number = n }

same_name : (a b : BoxName) → same_box a b ≡ true → a ≡ b
unfolding box_named
same_name a b e =
    let f : a.task ≡ b.task = grind (arith, nat_tests) in
    let g : a.number ≡ b.number = grind (arith, nat_tests) in
    ap (λ t. box_named t a.number) f ∙ ap (λ n. box_named b.task n) g

eq_number : (x y : ℕ) → is_eq (nat_cmp x y) ≡ (y == x)
eq_number x y = elim (both_ways (nat_lt x y)) [
  | inl less ↦
      let e : (y == x) ≡ false = grind (arith, nat_tests) in
      ap (λ b. is_eq (cond b Less (cond (x == y) Equal Greater))) less ∙ sym e
  | inr not_less ↦
      ap (λ b. is_eq (cond b Less (cond (x == y) Equal Greater))) not_less ∙ elim (both_ways (x == y)) [
        | inl same ↦ let e : (y == x) ≡ true = grind (arith, nat_tests) in ap (λ b. is_eq (cond b Equal Greater)) same ∙ sym e
        | inr other ↦ let e : (y == x) ≡ false = grind (arith, nat_tests) in ap (λ b. is_eq (cond b Equal Greater)) other ∙ sym e
      ]
]

eq_both : (o p : Ordering) → is_eq (ordering_then o p) ≡ (is_eq o && is_eq p)
eq_both Less p = refl
eq_both Equal p = refl
eq_both Greater p = refl

-- the key of a name is found exactly by that name
key_is : (name box : BoxName) → is_eq (key_cmp (name.task, name.number) (box.task, box.number)) ≡ same_box box name
key_is name box =
    eq_both (nat_cmp name.task box.task) (nat_cmp name.number box.number)
    ∙ (ap (λ b. b && is_eq (nat_cmp name.number box.number)) (eq_number name.task box.task)
    ∙ ap (λ b. (box.task == name.task) && b) (eq_number name.number box.number))

abbrev pub Key : Type 0
Key = ℕ × ℕ

abbrev pub at : BTreeMap Key Post → BoxName → Option Post
at m box = get key_cmp m (box.task, box.number)

abbrev pub mails : BTreeMap Key Post → BoxName → Mailbox ℕ
mails m box = mail_in (at m box)

chosen : (b : Bool) (c : Post) (o : Option Post) → mail_in (cond b (Some c) o) ≡ cond b (mail_in (Some c)) (mail_in o)
chosen true c o = refl
chosen false c o = refl

-- the mailbox of that name is another one
pub written : (m n : BTreeMap Key Post) (name : BoxName) (c : Post) (mail : Mailbox ℕ) → UpdatesBy key_cmp (key_cmp (name.task, name.number)) m n (Some c) → mail_in (Some c) ≡ mail →
    (box : BoxName) → mails n box ≡ with_mailbox (mails m) name mail box
written m n name c mail updates is box =
    ap mail_in (updates.0 (box.task, box.number))
    ∙ (ap (λ b. mail_in (cond b (Some c) (at m box))) (key_is name box)
    ∙ (chosen (same_box box name) c (at m box) ∙ ap (λ x. cond (same_box box name) x (mails m box)) is))

pub mail_is : (c : Post) (most : Option ℕ) (n : ℕ) (queue : List (ℕ × ℕ)) → c.most ≡ most → c.puts ≡ n → c.queue.items ≡ queue → mail_in (Some c) ≡ record { most = most; puts = n; queue = queue }
mail_is c most n queue d e f = λ i. record { most = d i; puts = e i; queue = f i }

pub any_some : {A : Type 0} (o : Option A) (T : Type 0) → T → IfSome o (λ _. T)
any_some None T t = tt
any_some (Some x) T t = t

pub no_mails : (m : BTreeMap Key Post) → m.entries ≡ [] → (box : BoxName) → mails m box ≡ record { most = None; puts = 0; queue = [] }
no_mails m none box = ap (λ (es : List (Key × Post)). mail_in (lookup (is_at (key_cmp (box.task, box.number))) es)) none

pub with_itself : (ms : BoxName → Mailbox ℕ) (name : BoxName) (mail : Mailbox ℕ) → ms name ≡ mail → (box : BoxName) → with_mailbox ms name mail box ≡ ms box
with_itself ms name mail is box = by (both_ways (same_box box name))
  where
    by : ((same_box box name ≡ true) ⊎ (same_box box name ≡ false)) → cond (same_box box name) mail (ms box) ≡ ms box
    by (inl e) = ap (λ b. cond b mail (ms box)) e ∙ (sym is ∙ ap ms (sym (same_name box name e)))
    by (inr e) = ap (λ b. cond b mail (ms box)) e

pub same_if_none : (o : Option (ℕ × ℕ)) (old new : List (ℕ × ℕ)) (T : Type 0) → MatchOption o ((old ≡ []) × (new ≡ [])) (λ first. old ≡ first ∷ new) → (new ≡ old → T) → IfNone o T
same_if_none None old new T m f = f (m.1 ∙ sym m.0)
same_if_none (Some x) old new T m f = tt

pub on_three : {A E : Type 0} (r : Result A E) (P Q S R : Type 0) → OnOk r P → OnOk r Q → OnOk r S → (P → Q → S → R) → OnOk r R
on_three (Ok a) P Q S R p q s f = f p q s
on_three (Err e) P Q S R p q s f = tt
