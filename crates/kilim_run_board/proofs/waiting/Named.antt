-- A map of mailboxes that changes at one name.
use Rattle.std.proofs.Common.{◌≡◌, ℕ, ◌+◌, Bool, true, false, ◌&&◌, cond, ◌==◌, nat_lt, List, [], ◌∷◌, Option, Some, None, refl, sym, ap, ◌∙◌, ◌⊎◌, inl, inr, arith, ◌≤◌}
use Rattle.std.specs.Prelude.{if◌then◌else◌, IfSome, IfNone, MatchOption}
use Rattle.std.proofs.lemmas.Bool.Decides.{nat_tests}
use Rattle.std.specs.declared.cmp.Ordering.{Ordering}
use Rattle.std.specs.declared.cmp.Ordering.TheVariants.{Less, Equal, Greater}
use Rattle.std.specs.Ordering.{nat_cmp, ordering_then, is_eq}
use Rattle.std.specs.BTreeMap.{BTreeMap, get, UpdatesBy, is_at}
use Rattle.std.specs.Map.{lookup}
use Rattle.kilim_program.specs.declared.names.BoxName.{BoxName}
use Rattle.kilim_run_model.specs.State.{same_box, bounded, with_mailbox, with_message, with_queue}
use Rattle.kilim_run_board.specs.mailbox.Mailbox.{Content}
use Rattle.kilim_run_board.specs.waiting.Mailboxes.{Tree, Mail, SameMails, key_cmp, mail_in}
use Rattle.kilim_run_board.proofs.waiting.Names.{both_ways, same_name}

eq_number : (x y : ℕ) → is_eq (nat_cmp x y) ≡ (y == x)
eq_number x y = elim (both_ways (nat_lt x y)) [
  | inl less ↦
      let e : (y == x) ≡ false = grind (arith, nat_tests) in
      ap (λ b. is_eq (cond b Less (cond (x == y) Equal Greater))) less ∙ sym e
  | inr not_less ↦
      ap (λ b. is_eq (cond b Less (cond (x == y) Equal Greater))) not_less ∙ elim (both_ways (x == y)) [
        | inl same ↦ let e : (y == x) ≡ true = grind (arith, nat_tests) in ap (λ b. is_eq (cond b Equal Greater)) same ∙ sym e
        | inr other ↦ let e : (y == x) ≡ false = grind (arith, nat_tests) in ap (λ b. is_eq (cond b Equal Greater)) other ∙ sym e
      ]
]

eq_both : (o p : Ordering) → is_eq (ordering_then o p) ≡ (is_eq o && is_eq p)
eq_both Less p = refl
eq_both Equal p = refl
eq_both Greater p = refl

-- the key of a name is found exactly by that name
pub key_is : (name box : BoxName) → is_eq (key_cmp (name.task, name.number) (box.task, box.number)) ≡ same_box box name
key_is name box =
    eq_both (nat_cmp name.task box.task) (nat_cmp name.number box.number)
    ∙ (ap (λ b. b && is_eq (nat_cmp name.number box.number)) (eq_number name.task box.task)
    ∙ ap (λ b. (box.task == name.task) && b) (eq_number name.number box.number))

abbrev pub Key : Type 0
Key = ℕ × ℕ

abbrev pub at : BTreeMap Key Content → BoxName → Option Content
at m box = get key_cmp m (box.task, box.number)

abbrev pub mails : BTreeMap Key Content → BoxName → Mail
mails m box = mail_in (at m box)

chosen : (b : Bool) (c : Content) (o : Option Content) → mail_in (cond b (Some c) o) ≡ cond b (mail_in (Some c)) (mail_in o)
chosen true c o = refl
chosen false c o = refl

-- the mailbox of that name is another one
pub written : (m n : BTreeMap Key Content) (name : BoxName) (c : Content) (mail : Mail) → UpdatesBy key_cmp (key_cmp (name.task, name.number)) m n (Some c) → mail_in (Some c) ≡ mail →
    (box : BoxName) → mails n box ≡ with_mailbox (mails m) name mail box
written m n name c mail updates is box =
    ap mail_in (updates.0 (box.task, box.number))
    ∙ (ap (λ b. mail_in (cond b (Some c) (at m box))) (key_is name box)
    ∙ (chosen (same_box box name) c (at m box) ∙ ap (λ x. cond (same_box box name) x (mails m box)) is))

-- with the same in it all are as before
pub with_itself : (ms : BoxName → Mail) (name : BoxName) (mail : Mail) → ms name ≡ mail → (box : BoxName) → with_mailbox ms name mail box ≡ ms box
with_itself ms name mail is box = by (both_ways (same_box box name))
  where
    by : ((same_box box name ≡ true) ⊎ (same_box box name ≡ false)) → cond (same_box box name) mail (ms box) ≡ ms box
    by (inl e) = ap (λ b. cond b mail (ms box)) e ∙ (sym is ∙ ap ms (sym (same_name box name e)))
    by (inr e) = ap (λ b. cond b mail (ms box)) e

abbrev mailbox_of : Option ℕ → ℕ → List (ℕ × Tree) → Mail
mailbox_of most puts queue = record { most = most; puts = puts; queue = queue }

pub mail_is : (c : Content) (m : Option ℕ) (n : ℕ) (queue : List (ℕ × Tree)) → c.most ≡ m → c.puts ≡ n → c.queue ≡ queue → mail_in (Some c) ≡ record { most = m; puts = n; queue = queue }
mail_is c m n queue d e f = ap (λ (x : Option ℕ). mailbox_of x c.puts c.queue) d ∙ (ap (λ (x : ℕ). mailbox_of m x c.queue) e ∙ ap (mailbox_of m n) f)

-- ---- no more puts than entries

module _ (ms ms' : BoxName → Mail) (name : BoxName) where
  pub counted_put : (tree : Tree) (n m : ℕ) → ((box : BoxName) → (ms box).puts ≤ n) → SameMails (with_mailbox ms name (with_message (ms name) tree)) ms' → m ≡ n + 1 → (box : BoxName) → (ms' box).puts ≤ m
  counted_put tree n m all same more box = elim (both_ways (same_box box name)) [
    | inl here ↦
        let e : (ms' box).puts ≡ (ms name).puts + 1 = ap (λ (x : Mail). x.puts) (same box) ∙ ap (λ b. (if b then with_message (ms name) tree else ms box).puts) here in
        let h = all name in omega arith
    | inr other ↦
        let e : (ms' box).puts ≡ (ms box).puts = ap (λ (x : Mail). x.puts) (same box) ∙ ap (λ b. (if b then with_message (ms name) tree else ms box).puts) other in
        let h = all box in omega arith
  ]

  pub counted_took : (queue : List (ℕ × Tree)) (n m : ℕ) → ((box : BoxName) → (ms box).puts ≤ n) → SameMails (with_mailbox ms name (with_queue (ms name) queue)) ms' → n ≤ m → (box : BoxName) → (ms' box).puts ≤ m
  counted_took queue n m all same more box = elim (both_ways (same_box box name)) [
    | inl here ↦
        let e : (ms' box).puts ≡ (ms name).puts = ap (λ (x : Mail). x.puts) (same box) ∙ ap (λ b. (if b then with_queue (ms name) queue else ms box).puts) here in
        let h = all name in omega arith
    | inr other ↦
        let e : (ms' box).puts ≡ (ms box).puts = ap (λ (x : Mail). x.puts) (same box) ∙ ap (λ b. (if b then with_queue (ms name) queue else ms box).puts) other in
        let h = all box in omega arith
  ]

  pub counted_bound : (most n m : ℕ) → ((box : BoxName) → (ms box).puts ≤ n) → SameMails (with_mailbox ms name (bounded (ms name) most)) ms' → n ≤ m → (box : BoxName) → (ms' box).puts ≤ m
  counted_bound most n m all same more box = elim (both_ways (same_box box name)) [
    | inl here ↦
        let e : (ms' box).puts ≡ (ms name).puts = ap (λ (x : Mail). x.puts) (same box) ∙ ap (λ b. (if b then bounded (ms name) most else ms box).puts) here in
        let h = all name in omega arith
    | inr other ↦
        let e : (ms' box).puts ≡ (ms box).puts = ap (λ (x : Mail). x.puts) (same box) ∙ ap (λ b. (if b then bounded (ms name) most else ms box).puts) other in
        let h = all box in omega arith
  ]

pub counted_same : (ms ms' : BoxName → Mail) (n m : ℕ) → ((box : BoxName) → (ms box).puts ≤ n) → SameMails ms ms' → n ≤ m → (box : BoxName) → (ms' box).puts ≤ m
counted_same ms ms' n m all same more box = let e : (ms' box).puts ≡ (ms box).puts = ap (λ (x : Mail). x.puts) (same box) in let h = all box in omega arith

-- ---- what is taken

pub any_some : {A : Type 0} (o : Option A) (T : Type 0) → T → IfSome o (λ _. T)
any_some None T t = tt
any_some (Some x) T t = t

pub same_if_none : (o : Option (ℕ × Tree)) (old new : List (ℕ × Tree)) (T : Type 0) → MatchOption o ((old ≡ []) × (new ≡ [])) (λ first. old ≡ first ∷ new) → (new ≡ old → T) → IfNone o T
same_if_none None old new T m f = f (m.1 ∙ sym m.0)
same_if_none (Some x) old new T m f = tt

-- ---- no mailbox is named

pub no_mails : (m : BTreeMap Key Content) → m.entries ≡ [] → (box : BoxName) → mails m box ≡ record { most = None; puts = 0; queue = [] }
no_mails m none box = ap (λ (es : List (Key × Content)). mail_in (lookup (is_at (key_cmp (box.task, box.number))) es)) none

pub none_counted : (m : BTreeMap Key Content) → m.entries ≡ [] → (n : ℕ) (box : BoxName) → (mails m box).puts ≤ n
none_counted m none n box = let e : (mails m box).puts ≡ 0 = ap (λ (x : Mail). x.puts) (no_mails m none box) in omega arith
