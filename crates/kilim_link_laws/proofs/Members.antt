-- Members class by class: where each one comes from, and where each one goes.
use Rattle.std.proofs.Common.{◌≡◌, ℕ, zero, suc, ◌+◌, List, [], ◌∷◌, map, length, slice_get, Option, Some, refl, ap, ◌∙◌, arith}
use Rattle.std.specs.List.{flat_map}
use Rattle.std.proofs.lemmas.List.{length-append, length-map}
use Rattle.std.proofs.lemmas.Option.{same_Some, none-some}
use Rattle.kilim_lemmas.proofs.Lists.{get_right, get_left}
use Rattle.kilim_class_file.specs.declared.class_file.ClassFile.{ClassFile}
use Rattle.kilim_class_file.specs.declared.class_file.MemberInfo.{MemberInfo}
use Rattle.kilim_program.specs.declared.names.ClassId.{ClassId}
use Rattle.kilim_program.specs.BuiltIn.{class_id}
use Rattle.kilim_link_spec.specs.Linked.{members, numbered}
use Rattle.kilim_link_spec.specs.Types.{each_of, itself}
use Rattle.kilim_link_laws.proofs.Lists.{Left, Right, Side, mapped_at, origin, side}
use Rattle.kilim_link_laws.proofs.Made.{made_at, made_of}

-- the number of members before those of a file
abbrev pub before : (ClassFile → List MemberInfo) → List ClassFile → ℕ → ℕ
before list files zero = 0
before list [] (suc n) = 0
before list (file ∷ files) (suc n) = length (list file) + before list files n

module _ {A : Type 0} (list : ClassFile → List MemberInfo) (make : ClassFile → ClassId → MemberInfo → Option A) where
  abbrev of_class : ClassFile → ClassId → List (Option A)
  of_class file c = map (make file c) (list file)

  abbrev made_from : ℕ → List ClassFile → List (Option A)
  made_from n files = flat_map itself (numbered of_class n files)

  length-of_class : (file : ClassFile) (c : ClassId) → length (of_class file c) ≡ length (list file)
  length-of_class file c = length-map (list file) (make file c)

  pub length-made : (n : ℕ) (files : List ClassFile) → length (made_from n files) ≡ before list files (length files)
  length-made n [] = refl
  length-made n (f ∷ files) =
      let both = length-append (of_class f (class_id n)) (made_from (suc n) files) in
      let front = length-of_class f (class_id n) in
      let rest = length-made (suc n) files in
      omega (arith, both, front, rest)

  -- where a member goes
  goes : (n : ℕ) (files : List ClassFile) (k i : ℕ) (file : ClassFile) (member : MemberInfo) → slice_get files k ≡ Some file → slice_get (list file) i ≡ Some member →
      slice_get (made_from n files) (before list files k + i) ≡ Some (make file (class_id (n + k)) member)
  goes n [] k i file member there inside = absurd (none-some file there)
  goes n (f ∷ files) zero i file member there inside =
      let same = same_Some f file there in
      let number : n ≡ n + 0 = omega arith in
      let place : 0 + i ≡ i = omega arith in
      let here : slice_get (list f) i ≡ Some member = ap (λ (g : ClassFile). slice_get (list g) i) same ∙ inside in
      ap (slice_get (made_from n (f ∷ files))) place
      ∙ (get_left (of_class f (class_id n)) (made_from (suc n) files) i (make f (class_id n) member) (mapped_at (make f (class_id n)) (list f) i member here)
      ∙ (ap (λ (g : ClassFile). Some (make g (class_id n) member)) same ∙ ap (λ (m : ℕ). Some (make file (class_id m) member)) number))
  goes n (f ∷ files) (suc k) i file member there inside =
      let len = length-of_class f (class_id n) in
      let number : suc n + k ≡ n + suc k = omega arith in
      get_right (of_class f (class_id n)) (made_from (suc n) files) (length (list f) + before list files k + i) (before list files k + i) (omega (arith, len))
      ∙ (goes (suc n) files k i file member there inside ∙ ap (λ (m : ℕ). Some (make file (class_id m) member)) number)

  -- where a member comes from
  pub record Comes (n : ℕ) (files : List ClassFile) (j : ℕ) (x : Option A) : Type 0 where
    pub class : ℕ
    pub place : ℕ
    pub file : ClassFile
    pub member : MemberInfo
    pub file_at : slice_get files class ≡ Some file
    pub member_at : slice_get (list file) place ≡ Some member
    pub is : j ≡ before list files class + place
    pub made : make file (class_id (n + class)) member ≡ x

  comes_by : (n : ℕ) (f : ClassFile) (files : List ClassFile) (j : ℕ) (x : Option A) → ((k : ℕ) → slice_get (made_from (suc n) files) k ≡ Some x → Comes (suc n) files k x) →
      Side (of_class f (class_id n)) (made_from (suc n) files) j x → Comes n (f ∷ files) j x
  comes_by n f files j x later (Left e) =
      let o = origin (make f (class_id n)) (list f) j x e in
      let number : n + 0 ≡ n = omega arith in
      record { class = 0; place = j; file = f; member = o.of; file_at = refl; member_at = o.at; is = omega arith; made = ap (λ (m : ℕ). make f (class_id m) o.of) number ∙ o.is }
  comes_by n f files j x later (Right k is e) =
      let c = later k e in
      let number : n + suc c.class ≡ suc n + c.class = omega arith in
      let len = length-of_class f (class_id n) in
      let place = c.is in
      record { class = suc c.class; place = c.place; file = c.file; member = c.member; file_at = c.file_at; member_at = c.member_at; is = omega (arith, is, len, place); made = ap (λ (m : ℕ). make c.file (class_id m) c.member) number ∙ c.made }

  comes : (n : ℕ) (files : List ClassFile) (j : ℕ) (x : Option A) → slice_get (made_from n files) j ≡ Some x → Comes n files j x
  comes n [] j x there = absurd (none-some x there)
  comes n (f ∷ files) j x there = comes_by n f files j x (λ k e. comes (suc n) files k x e) (side (of_class f (class_id n)) (made_from (suc n) files) j x there)

  -- ---- of the members that are there

  -- a member and what is made of it
  pub record MemberMade (files : List ClassFile) (j : ℕ) (y : A) : Type 0 where
    pub class : ℕ
    pub place : ℕ
    pub file : ClassFile
    pub member : MemberInfo
    pub file_at : slice_get files class ≡ Some file
    pub member_at : slice_get (list file) place ≡ Some member
    pub is : j ≡ before list files class + place
    pub made : make file (class_id class) member ≡ Some y

  pub member_made : (files : List ClassFile) (ys : List A) → each_of itself (members list make files) ≡ Some ys → (j : ℕ) (y : A) → slice_get ys j ≡ Some y → MemberMade files j y
  member_made files ys all j y there =
      let m = made_of itself (members list make files) ys all j y there in
      let c = comes 0 files j m.of m.at in
      let number : c.class ≡ 0 + c.class = omega arith in
      record { class = c.class; place = c.place; file = c.file; member = c.member; file_at = c.file_at; member_at = c.member_at; is = c.is; made = ap (λ (n : ℕ). make c.file (class_id n) c.member) number ∙ (c.made ∙ m.is) }

  pub record MemberMakes (ys : List A) (j : ℕ) (x : Option A) : Type 0 where
    pub result : A
    pub is : x ≡ Some result
    pub at : slice_get ys j ≡ Some result

  pub member_makes : (files : List ClassFile) (ys : List A) → each_of itself (members list make files) ≡ Some ys →
      (k i : ℕ) (file : ClassFile) (member : MemberInfo) → slice_get files k ≡ Some file → slice_get (list file) i ≡ Some member → MemberMakes ys (before list files k + i) (make file (class_id k) member)
  member_makes files ys all k i file member there inside =
      let m = made_at itself (members list make files) ys all (before list files k + i) (make file (class_id (0 + k)) member) (goes 0 files k i file member there inside) in
      let number : k ≡ 0 + k = omega arith in
      record { result = m.made; is = ap (λ (n : ℕ). make file (class_id n) member) number ∙ m.is; at = m.at }
