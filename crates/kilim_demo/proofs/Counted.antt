-- Lists that are made part by part, counting up.
use Rattle.std.proofs.Common.{◌≡◌, ℕ, suc, ◌+◌, ◌-◌, ◌<◌, ◌≤◌, List, [], ◌∷◌, ◌++◌, append_assoc, append-nil, length, map, take, drop, get_or, refl, sym, ap, ◌∙◌, arith}
use Rattle.kilim_lemmas.proofs.Lists.{drop_at, take_at}
use Rattle.kilim_class_attributes.specs.declared.parts.frame.VerificationType.{VerificationType}
use Rattle.kilim_class_file.specs.declared.class_file.ClassFile.{ClassFile}
use Rattle.kilim_demo.specs.declared.draws.Stage.{Stage}
use Rattle.kilim_demo.specs.Demo.{stage_files}
use Rattle.kilim_demo.specs.declared.assembler.Op.TheVariants.{Plain, Byte, Pair}
use Rattle.kilim_demo.specs.Assembler.{aload, astore, code_of, dup, invokespecial, invokevirtual, new}
use Rattle.kilim_demo.specs.MainClass.{box_local, class_index, constructor_index, box_types, boxes_from, starts_from, stage_entries_from}
use Rattle.kilim_demo.specs.Stage.{stage_file}

-- one more, where so many from a number on are one, and then the others
abbrev pub Counts : {A : Type 0} → (ℕ → ℕ → List A) → Type 0
Counts F = (k n : ℕ) → F k (suc n) ≡ F k 1 ++ F (k + 1) n

left : (count i : ℕ) → i < count → count - i ≡ suc (count - (i + 1))
left count i lt = omega arith

none_left : (count i : ℕ) → count ≤ i → count - i ≡ 0
none_left count i le = omega arith

pub more : {A : Type 0} (F : ℕ → ℕ → List A) → Counts F → (count i k next : ℕ) (done now whole : List A) → i < count → next ≡ k + 1 → now ≡ done ++ F k 1 → done ++ F k (count - i) ≡ whole → now ++ F next (count - (i + 1)) ≡ whole
more F counts count i k next done now whole lt e pushed so_far =
    ap (λ n. now ++ F n (count - (i + 1))) e
    ∙ (ap (λ xs. xs ++ F (k + 1) (count - (i + 1))) pushed
    ∙ (append_assoc done (F k 1) (F (k + 1) (count - (i + 1)))
    ∙ (ap (λ xs. done ++ xs) (sym (counts k (count - (i + 1))) ∙ ap (F k) (sym (left count i lt))) ∙ so_far)))

pub all : {A : Type 0} (F : ℕ → ℕ → List A) → (count i k : ℕ) (done whole : List A) → F k 0 ≡ [] → count ≤ i → done ++ F k (count - i) ≡ whole → done ≡ whole
all F count i k done whole none le so_far =
    sym (append-nil done) ∙ (ap (λ xs. done ++ xs) (sym none ∙ ap (F k) (sym (none_left count i le))) ∙ so_far)

alone : (xs ys : List ℕ) → xs ++ ys ≡ (xs ++ []) ++ ys
alone xs ys = sym (append_assoc xs [] ys)

pub boxes_count : Counts boxes_from
boxes_count k n = alone (code_of (Pair new 16 ∷ Plain dup ∷ Pair invokespecial 17 ∷ Byte astore (box_local k) ∷ [])) (boxes_from (k + 1) n)

pub starts_count : Counts starts_from
starts_count k n =
    alone (code_of (
    Pair new (class_index (k + 1)) ∷ Plain dup ∷ Byte aload (box_local k) ∷ Byte aload (box_local (k + 1))
    ∷ Pair invokespecial (constructor_index (k + 1)) ∷ Pair invokevirtual 41 ∷ []))
    (starts_from (k + 1) n)

pub entries_count : Counts stage_entries_from
entries_count k n = refl

abbrev pub types_from : ℕ → ℕ → List VerificationType
types_from k n = box_types n

pub types_count : Counts types_from
types_count k n = refl

-- ---- along a list
