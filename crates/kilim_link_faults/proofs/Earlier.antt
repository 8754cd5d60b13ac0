-- Names of classes: the first class of a name stands before a place where one of those before it has the name, and the
-- classes of files aren't built in.
use Rattle.std.proofs.Common.{◌≡◌, ℕ, zero, suc, ◌+◌, ◌<◌, ◌≤◌, ◌^◌, Bool, true, false, cond, List, [], ◌∷◌, ◌++◌, length, take, map, Option, Some, None, refl, sym, ap, ◌∙◌, arith}
use Rattle.std.specs.Prelude.{◌&&◌, ◌||◌, nat_lt}
use Rattle.std.specs.List.{list_any}
use Rattle.std.specs.Str.{bytes_eq}
use Rattle.std.proofs.lemmas.Bool.{lt-ltb, le-ltb}
use Rattle.std.proofs.lemmas.List.{length-append, length-map}
use Rattle.kilim_class_file.specs.declared.class_file.ClassFile.{ClassFile}
use Rattle.kilim_program.specs.declared.class.Class.{Class}
use Rattle.kilim_program.specs.declared.names.ClassId.{ClassId}
use Rattle.kilim_program.specs.BuiltIn.{class_id, built_in_classes_in}
use Rattle.kilim_program.specs.Names.{class_from, class_named}
use Rattle.kilim_program.specs.Program.{Program}
use Rattle.kilim_link_spec.specs.declared.view.ClassView.{ClassView}
use Rattle.kilim_link_spec.specs.World.{World, class_of, outlined, outline_with, outline_of, is_message_by, world_of, view_of_file, view_of_built_in, built_ins}

-- a class stands before a place
abbrev pub is_before : ℕ → Option ClassId → Bool
is_before n None = false
is_before n (Some c) = nat_lt c.0 n

one_before : (b : Bool) (m n : ℕ) (o : Option ClassId) (r : Bool) → nat_lt n m ≡ true → is_before m o ≡ r → is_before m (cond b (Some (class_id n)) o) ≡ (b || r)
one_before true m n o r lt e = lt
one_before false m n o r lt e = e

none_before : (b : Bool) (m n : ℕ) (o : Option ClassId) → nat_lt n m ≡ false → is_before m o ≡ false → is_before m (cond b (Some (class_id n)) o) ≡ false
none_before true m n o past e = past
none_before false m n o past e = e

-- classes are numbered from n on
past_all : (name : List ℕ) (m n : ℕ) (cs : List Class) → m ≤ n → is_before m (class_from cs name n) ≡ false
past_all name m n [] le = refl
past_all name m n (c ∷ cs) le = none_before (bytes_eq c.name name) m n (class_from cs name (suc n)) (le-ltb n m le) (past_all name m (suc n) cs (omega (arith, le)))

module _ (all : List ClassView) (mark : ClassId → ClassView → Bool) (name : List ℕ) where
  named_before : (n k : ℕ) (vs : List ClassView) → is_before (n + k) (class_from (outlined all mark n vs) name n) ≡ list_any (λ v. bytes_eq v.name name) (take k vs)
  named_before n zero vs = past_all name (n + zero) n (outlined all mark n vs) (omega arith)
  named_before n (suc k) [] = refl
  named_before n (suc k) (v ∷ vs) =
      let next : suc n ≡ n + 1 = omega arith in
      let place : n + suc k ≡ n + 1 + k = omega arith in
      one_before (bytes_eq v.name name) (n + suc k) n (class_from (outlined all mark (n + 1) vs) name (suc n)) (list_any (λ v. bytes_eq v.name name) (take k vs)) (lt-ltb n (n + suc k) (omega arith))
      (ap (λ (m : ℕ). is_before m (class_from (outlined all mark (n + 1) vs) name (suc n))) place
      ∙ (ap (λ (m : ℕ). is_before (n + 1 + k) (class_from (outlined all mark (n + 1) vs) name m)) next ∙ named_before (n + 1) k vs))

-- the first class of a name, where the outline has the names of the classes
pub first_before : (w : World) (name : List ℕ) (k : ℕ) (o : Option ClassId) → w.outline ≡ outline_of w.form w.classes → o ≡ class_of w name →
    is_before k o ≡ list_any (λ v. bytes_eq v.name name) (take k w.classes)
first_before w name k o same found =
    let place : k ≡ 0 + k = omega arith in
    let mark : ClassId → ClassView → Bool = λ c v. is_message_by (outline_with w.form w.classes (λ c v. v.is_marked)) c in
    ap (is_before k) found
    ∙ (ap (λ (p : Program). is_before k (class_named p name)) same
    ∙ (ap (λ (m : ℕ). is_before m (class_named (outline_of w.form w.classes) name)) place ∙ named_before w.classes mark name 0 k w.classes))

-- ---- the world of some files

pub outline_is : (w : World) (files : List ClassFile) → w ≡ world_of files w.form → w.outline ≡ outline_of w.form w.classes
unfolding world_of
outline_is w files is = ap (λ (v : World). v.outline) is ∙ ap (outline_of w.form) (sym (ap (λ (v : World). v.classes) is))

pub files_fit : (w : World) (files : List ClassFile) → w ≡ world_of files w.form → length w.classes < 2 ^ 32 → length files < 2 ^ 32
unfolding world_of
files_fit w files is few =
    let built = map (view_of_built_in (built_ins w.form)) (built_in_classes_in w.form 0 0) in
    let one : length w.classes ≡ length (map view_of_file files ++ built) = ap (λ (v : World). length v.classes) is in
    let two = length-append (map view_of_file files) built in
    let three = length-map files view_of_file in
    omega arith

none_built_in : (name : List ℕ) (others : List ClassView) (files : List ClassFile) → list_any (λ v. v.is_built_in && bytes_eq v.name name) (take (length files) (map view_of_file files ++ others)) ≡ false
none_built_in name others [] = refl
none_built_in name others (f ∷ fs) = none_built_in name others fs

-- no class of a file is built in
pub none_in_files : (w : World) (files : List ClassFile) (name : List ℕ) → w ≡ world_of files w.form → list_any (λ v. v.is_built_in && bytes_eq v.name name) (take (length files) w.classes) ≡ false
unfolding world_of
none_in_files w files name is =
    ap (λ (v : World). list_any (λ v. v.is_built_in && bytes_eq v.name name) (take (length files) v.classes)) is
    ∙ none_built_in name (map (view_of_built_in (built_ins w.form)) (built_in_classes_in w.form 0 0)) files
