-- Whose an object is, and what is left as it was where others' objects change.
use Rattle.std.proofs.Common.{◌≡◌, ℕ, suc, ◌≤◌, Bool, true, false, cond, List, [], ◌∷◌, refl, ap, ◌∙◌, ◌⊎◌, inl, inr, arith, le_refl}
use Rattle.std.proofs.lemmas.Bool.Decides.{eqb_tells}
use Rattle.std.specs.Prelude.{◌==◌}
use Rattle.std.specs.FinMap.{get}
use Rattle.kilim_program.specs.Program.{Program}
use Rattle.kilim_program.specs.declared.names.BoxName.{BoxName}
use Rattle.kilim_run_state.specs.declared.value.Object.{Object}
use Rattle.kilim_run_state.specs.declared.value.Token.{Token}
use Rattle.kilim_run_state.specs.Machine.{Objects}
use Rattle.kilim_run_state.specs.Trees.{Root, OfMessage}
use Rattle.kilim_run_model.specs.Kept.{IsIn}
use Rattle.kilim_run_model.specs.kin.Kin.{Names, Owner, OfTask, OfPlace, OfNobody, Alike}
use Rattle.kilim_run_model.specs.kin.trees.TreeKin.{Copies, IsTree, names_from}
use Rattle.kilim_run_model.specs.one_heap.Tied.{Queued}

-- ---- owners are told apart

task_or : ℕ → Owner → ℕ
task_or d (OfTask u) = u
task_or d (OfPlace box i) = d
task_or d OfNobody = d

number_or : ℕ → Owner → ℕ
number_or d (OfTask u) = d
number_or d (OfPlace box i) = i
number_or d OfNobody = d

box_or : BoxName → Owner → BoxName
box_or d (OfTask u) = d
box_or d (OfPlace box i) = box
box_or d OfNobody = d

pub same_task : (t u : ℕ) → OfTask t ≡ OfTask u → t ≡ u
unfolding task_or
same_task t u e = ap (task_or t) e

pub same_number : (a b : BoxName) (i j : ℕ) → OfPlace a i ≡ OfPlace b j → i ≡ j
unfolding number_or
same_number a b i j e = ap (number_or i) e

pub same_place : (a b : BoxName) (i j : ℕ) → OfPlace a i ≡ OfPlace b j → a ≡ b
unfolding box_or
same_place a b i j e = ap (box_or a) e

pub task_place : {A : Type 0} (t : ℕ) (b : BoxName) (i : ℕ) → OfTask t ≡ OfPlace b i → A
task_place t b i e = absurd (cc)

pub task_nobody : {A : Type 0} (t : ℕ) → OfTask t ≡ OfNobody → A
task_nobody t e = absurd (cc)

pub place_nobody : {A : Type 0} (b : BoxName) (i : ℕ) → OfPlace b i ≡ OfNobody → A
place_nobody b i e = absurd (cc)

-- ---- some objects come to another owner

is_among : ℕ → List ℕ → Bool
is_among x [] = false
is_among x (y ∷ ys) = cond (x == y) true (is_among x ys)

among : (x : ℕ) (xs : List ℕ) → ((is_among x xs ≡ true) × IsIn x xs) ⊎ ((is_among x xs ≡ false) × (IsIn x xs → ⊥))
unfolding is_among
among x [] = inr (refl, λ e. e)
among x (y ∷ ys) = elim (eqb_tells x y) [
  | inl e ↦ inl (ap (λ (b : Bool). cond b true (is_among x ys)) e.0, inl e.1)
  | inr e ↦ elim (among x ys) [
    | inl d ↦ inl (ap (λ (b : Bool). cond b true (is_among x ys)) e.0 ∙ d.0, inr d.1)
    | inr d ↦ inr (ap (λ (b : Bool). cond b true (is_among x ys)) e.0 ∙ d.0, λ z. elim z [ inl w ↦ e.1 w | inr w ↦ d.1 w ])
  ]
]

pub marked : (ℕ → Owner) → List ℕ → Owner → ℕ → Owner
unfolding is_among
marked owner xs o x = cond (is_among x xs) o (owner x)

pub marked_in : (owner : ℕ → Owner) (xs : List ℕ) (o : Owner) (x : ℕ) → IsIn x xs → marked owner xs o x ≡ o
unfolding marked
marked_in owner xs o x e = elim (among x xs) [
  | inl d ↦ ap (λ (b : Bool). cond b o (owner x)) d.0
  | inr d ↦ absurd (d.1 e)
]

pub marked_out : (owner : ℕ → Owner) (xs : List ℕ) (o : Owner) (x : ℕ) → (IsIn x xs → ⊥) → marked owner xs o x ≡ owner x
unfolding marked
marked_out owner xs o x e = elim (among x xs) [
  | inl d ↦ absurd (e d.1)
  | inr d ↦ ap (λ (b : Bool). cond b o (owner x)) d.0
]

-- ---- what isn't touched

-- the objects of this owner are his still, and as they were
abbrev pub Spares : (ℕ → Owner) → Objects → (ℕ → Owner) → Objects → Owner → Type 0
Spares owner k later l o = (x : ℕ) → owner x ≡ o → (later x ≡ o) × (get l x ≡ get k x)

module _ (owner later : ℕ → Owner) (k l : Objects) where
  pub alike_kept : (of : Names) (t : ℕ) (h : Objects) → Spares owner k later l (OfTask t) → Alike of owner t k h k → Alike of later t l h l
  alike_kept of t h spares a = record {
    same = λ n o e. let w = a.same n o e in let z = spares w.0 w.5 in (w.0, w.1, w.2, z.1 ∙ w.3, w.4, z.0);
    apart = a.apart;
    rest = λ x. inl refl;
  }

  pub copies_kept : (of : Names) (os : List Object) (xs : List ℕ) → ((x : ℕ) → IsIn x xs → get l x ≡ get k x) → Copies of k os xs → Copies of l os xs
  copies_kept of [] [] same w = tt
  copies_kept of (o ∷ os) (x ∷ xs) same w = (w.0, same x (inl refl) ∙ w.1, w.2, copies_kept of os xs (λ y e. same y (inr e)) w.3)
  copies_kept of _ _ same w = absurd w

  pub tree_kept : (p : Program) (root : Root) (xs : List ℕ) (shape : List Token) → ((x : ℕ) → IsIn x xs → get l x ≡ get k x) → IsTree p root k xs shape → IsTree p root l xs shape
  tree_kept p root xs shape same w = record { once = w.once; copy = λ base. let c = w.copy base in (c.0, c.1, copies_kept (names_from base xs) c.0 xs same c.2) }

  pub queued_kept : (p : Program) (box : BoxName) (end i : ℕ) (shapes : List (ℕ × List Token)) (names : List (ℕ × ℕ)) → ((j : ℕ) → i ≤ j → Spares owner k later l (OfPlace box j)) →
      Queued p owner k box end i shapes names → Queued p later l box end i shapes names
  queued_kept p box end i [] [] spares w = w
  queued_kept p box end i (a ∷ shapes) (b ∷ names) spares w =
      let tree = w.0.2 in
      let own = spares i (le_refl i) in (
        (w.0.0, w.0.1, (tree.0, tree_kept p OfMessage (b.1 ∷ tree.0) a.1 (λ x e. (own x (tree.2 x e)).1) tree.1, λ x e. (own x (tree.2 x e)).0)),
        queued_kept p box end (suc i) shapes names (λ j e. spares j (omega (arith, e))) w.1,
      )
  queued_kept p box end i _ _ spares w = absurd w
