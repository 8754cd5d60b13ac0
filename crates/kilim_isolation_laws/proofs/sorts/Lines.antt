-- The classes in a line of superclasses are of one kind, but for `java/lang/Object`.
use Rattle.std.proofs.Common.{◌≡◌, ◌⊎◌, inl, inr, ℕ, zero, suc, ◌+◌, ◌-◌, ◌<◌, ◌≤◌, Bool, true, false, true≢false, cond, eqb, List, [], ◌∷◌, ◌++◌, length, Option, Some, None, refl, sym, ap, subst, ◌∙◌, arith}
use Rattle.std.specs.Prelude.{◌&&◌, ◌||◌, not, nat_le, nat_lt, slice_get, codes}
use Rattle.std.specs.List.{list_any, list_all, AllByRecursion}
use Rattle.std.specs.Str.{bytes_eq}
use Rattle.std.proofs.lemmas.Bool.{and_parts, eqb-true, leb-true, ltb-true, not-true, or_from, or_parts}
use Rattle.std.proofs.lemmas.Option.{none-some}
use Rattle.kilim_program.specs.declared.class.Class.{Class}
use Rattle.kilim_program.specs.declared.class.Form.TheVariants.{Plain, Woven}
use Rattle.kilim_program.specs.declared.class.Form.{Form}
use Rattle.kilim_program.specs.declared.names.ClassId.{ClassId}
use Rattle.kilim_program.specs.declared.ty.Kind.{Kind}
use Rattle.kilim_program.specs.declared.ty.Kind.TheVariants as kind
use Rattle.kilim_program.specs.Program.{Program}
use Rattle.kilim_program.specs.BuiltIn.{built_in_classes_in, class_id, is_exception}
use Rattle.kilim_program.proofs.BuiltIns.{exception_name}
use Rattle.kilim_program.specs.Kinds.{class_kind, is_marked, is_message, is_private_kind, is_value_class}
use Rattle.kilim_program.specs.Names.{◌>>=◌, class_at, class_name, is_named_task, is_task, line_up_to}
use Rattle.kilim_program.specs.Keeps.{Keeps, is_object, is_open_superclass, own_class_fits, own_count, superclass_fits, superclasses_fit}
use Rattle.kilim_lemmas.proofs.Lists.{get_right, get_some}
use Rattle.kilim_lemmas.proofs.Texts.{text_is}
use Rattle.kilim_type_laws.proofs.members.FromKeeps.{all_at}
use Rattle.kilim_type_laws.proofs.members.Through.{each_at, object_at, object_top}
use Rattle.kilim_type_laws.specs.members.Chosen.{is_value_name}
use Rattle.kilim_type_laws.proofs.members.ValueClasses.{IsPlain, UpIs, all_of_at, apart, built_plain, is_late, late_is_no_value, own_counted, own_fits}

abbrev pub up : Program → ClassId → Option ClassId
up p c = class_at p c >>= λ (class : Class). class.superclass

-- ---- a class by its name

get_left_of : {A : Type 0} (xs ys : List A) (k : ℕ) → k < length xs → slice_get (xs ++ ys) k ≡ slice_get xs k
get_left_of [] ys k l = absurd (omega (arith, l))
get_left_of (x ∷ xs) ys zero l = refl
get_left_of (x ∷ xs) ys (suc k) l = get_left_of xs ys k (omega (arith, l))

-- no marked class is one of values
abbrev unmarked_value : Class → Bool
unmarked_value c = not (c.message && is_value_class c.name)

built_unmarked : (form : Form) (a b : ℕ) → list_all unmarked_value (built_in_classes_in form a b) ≡ true
built_unmarked Plain a b = refl
built_unmarked Woven a b = refl

has_value : (form : Form) (a b : ℕ) → (list_any (λ c. bytes_eq c.name (codes "java/lang/String")) (built_in_classes_in form a b) ≡ true) × (list_any (λ c. bytes_eq c.name (codes "kilim/Mailbox")) (built_in_classes_in form a b) ≡ true)
    × (list_any (λ c. bytes_eq c.name (codes "kilim/Task")) (built_in_classes_in form a b) ≡ true)
has_value Plain a b = (refl, refl, refl)
has_value Woven a b = (refl, refl, refl)

-- a class below a class of exceptions is no message, and none of values or of tasks
abbrev UpIsLate : ℕ → Option ClassId → Type 0
UpIsLate first None = ⊥
UpIsLate first (Some up) = (k : ℕ) × (up.0 ≡ first + k) × (is_late k ≡ true)

abbrev IsPlainBelow : ℕ → Class → Type 0
IsPlainBelow first class = UpIsLate first class.superclass → (is_value_class class.name ≡ false) × (bytes_eq class.name (codes "kilim/Task") ≡ false) × (class.message ≡ false)

not_late : {A : Type 0} (first : ℕ) → (k : ℕ) × (first ≡ first + k) × (is_late k ≡ true) → A
not_late first w =
    let seven = leb-true 7 w.0 (and_parts (nat_le 7 w.0) (nat_lt w.0 18) w.2).0 in
    let number = w.1 in
    absurd (omega (arith, number, seven))

built_below : (form : Form) (first method : ℕ) → AllByRecursion (IsPlainBelow first) (built_in_classes_in form first method)
built_below Plain first method = ((λ w. absurd w), ((λ w. not_late first w), ((λ w. not_late first w), ((λ w. not_late first w), ((λ w. not_late first w), ((λ w. not_late first w), ((λ w. not_late first w), ((λ w. not_late first w), ((λ w. (refl, refl, refl)), ((λ w. (refl, refl, refl)), ((λ w. (refl, refl, refl)), ((λ w. (refl, refl, refl)), ((λ w. (refl, refl, refl)), ((λ w. (refl, refl, refl)), ((λ w. (refl, refl, refl)), ((λ w. (refl, refl, refl)), ((λ w. (refl, refl, refl)), ((λ w. (refl, refl, refl)), tt))))))))))))))))))
built_below Woven first method = ((λ w. absurd w), ((λ w. not_late first w), ((λ w. not_late first w), ((λ w. not_late first w), ((λ w. not_late first w), ((λ w. not_late first w), ((λ w. not_late first w), ((λ w. not_late first w), ((λ w. (refl, refl, refl)), ((λ w. (refl, refl, refl)), ((λ w. (refl, refl, refl)), ((λ w. (refl, refl, refl)), ((λ w. (refl, refl, refl)), ((λ w. (refl, refl, refl)), ((λ w. (refl, refl, refl)), ((λ w. (refl, refl, refl)), ((λ w. (refl, refl, refl)), ((λ w. (refl, refl, refl)), ((λ w. not_late first w), tt)))))))))))))))))))

of_no_name : (name : List ℕ) → is_value_name name ≡ false → is_value_class name ≡ false
of_no_name name e =
    let string = bytes_eq name (codes "java/lang/String") in
    let mailbox = bytes_eq name (codes "kilim/Mailbox") in
    let parts = or_parts string (mailbox || bytes_eq name (codes "kilim/Fiber")) e in
    or_from string mailbox parts.0 (or_parts mailbox (bytes_eq name (codes "kilim/Fiber")) parts.1).0

by_kind : (v t m : Bool) → v ≡ false → (t ≡ true) ⊎ (m ≡ true) → cond v kind.Value (cond (t || m) kind.Tree kind.Private) ≡ kind.Tree
by_kind true t m e w = absurd (cc)
by_kind false true m e w = refl
by_kind false false true e w = refl
by_kind false false false e (inl w) = absurd (cc)
by_kind false false false e (inr w) = absurd (cc)

by_none : (v t m : Bool) → v ≡ false → t ≡ false → m ≡ false → cond v kind.Value (cond (t || m) kind.Tree kind.Private) ≡ kind.Private
by_none false false false a b c = refl
by_none true t m a b c = absurd (cc)
by_none false true m a b c = absurd (cc)
by_none false false true a b c = absurd (cc)

module _ (p : Program) (keeps : Keeps p) where
  abbrev own : List Class
  own = keeps.built_in.own_classes

  abbrev methods : ℕ
  methods = length keeps.built_in.own_methods

  abbrev built : List Class
  built = built_in_classes_in p.form (length own) methods

  -- a class of the files, or a built-in one
  record IsOwn (c : ClassId) (class : Class) : Type 0 where
    pub at : slice_get own c.0 ≡ Some class

  record IsBuilt (c : ClassId) (class : Class) : Type 0 where
    pub place : ℕ
    pub at : slice_get built place ≡ Some class
    pub after : length own ≤ c.0

  which : (c : ClassId) (class : Class) → class_at p c ≡ Some class → IsOwn c class ⊎ IsBuilt c class
  which c class at = by (less_or c.0 (length own))
    where
      less_or : (a b : ℕ) → (a < b) ⊎ (b ≤ a)
      less_or zero zero = inr (omega arith)
      less_or zero (suc b) = inl (omega arith)
      less_or (suc a) zero = inr (omega arith)
      less_or (suc a) (suc b) = elim (less_or a b) [ inl l ↦ inl (omega (arith, l)) | inr l ↦ inr (omega (arith, l)) ]

      both : slice_get (own ++ built) c.0 ≡ Some class
      both = ap (λ (cs : List Class). slice_get cs c.0) (sym keeps.built_in.classes) ∙ at

      by : (c.0 < length own) ⊎ (length own ≤ c.0) → IsOwn c class ⊎ IsBuilt c class
      by (inl l) = inl (record { at = sym (get_left_of own built c.0 l) ∙ both })
      by (inr l) =
          let k : ℕ = c.0 - length own in
          let number : c.0 ≡ length own + k = omega (arith, l) in
          inr (record { place = k; at = sym (get_right own built c.0 k number) ∙ both; after = l })

  -- the name of a class
  name_is : (c : ClassId) (class : Class) → class_at p c ≡ Some class → class_name p c ≡ class.name
  name_is c class at = ap (λ (o : Option Class). elim o [ None ↦ [] | Some class ↦ class.name ]) at

  -- a class of the files is none of values, and not `kilim/Task`
  own_is_no_value : (c : ClassId) (class : Class) → class_at p c ≡ Some class → IsOwn c class → is_value_class (class_name p c) ≡ false
  own_is_no_value c class at is =
      ap is_value_class (name_is c class at) ∙ neither (bytes_eq class.name (codes "java/lang/String")) (bytes_eq class.name (codes "kilim/Mailbox"))
      (apart p keeps (codes "java/lang/String") (has_value p.form (length own) methods).0 c.0 class is.at) (apart p keeps (codes "kilim/Mailbox") (has_value p.form (length own) methods).1 c.0 class is.at)
    where
      neither : (a b : Bool) → a ≡ false → b ≡ false → (a || b) ≡ false
      neither a b e f = ap (λ (z : Bool). z || b) e ∙ f

  own_is_no_task : (c : ClassId) (class : Class) → class_at p c ≡ Some class → IsOwn c class → is_named_task p c ≡ false
  own_is_no_task c class at is = ap (λ (n : List ℕ). bytes_eq n (codes "kilim/Task")) (name_is c class at) ∙ apart p keeps (codes "kilim/Task") (has_value p.form (length own) methods).2 c.0 class is.at

  -- ---- kinds

  -- a message is a tree
  pub message_kind : (c : ClassId) → is_message p c ≡ true → class_kind p c ≡ kind.Tree
  message_kind c e = by (class_at p c) refl e
    where
      by : (o : Option Class) → class_at p c ≡ o → is_marked o ≡ true → class_kind p c ≡ kind.Tree
      by None at m = absurd (cc)
      by (Some class) at m = by_kind (is_value_class (class_name p c)) (is_task p c) (is_message p c) (no_value (which c class at)) (inr (ap is_marked at ∙ m))
        where
          no : (a b : Bool) → a ≡ true → not (a && b) ≡ true → b ≡ false
          no true true e f = absurd (cc)
          no true false e f = refl
          no false b e f = absurd (cc)

          no_value : IsOwn c class ⊎ IsBuilt c class → is_value_class (class_name p c) ≡ false
          no_value (inl own) = own_is_no_value c class at own
          no_value (inr b) = ap is_value_class (name_is c class at) ∙ no class.message (is_value_class class.name) m (all_at unmarked_value built b.place class (built_unmarked p.form (length own) methods) b.at)

  -- ---- `java/lang/Object`

  pub first_is_object : is_object p (class_id (length own)) ≡ true
  first_is_object =
      let top = object_top p.form (length own) methods in
      let there : slice_get p.classes (length own) ≡ Some top.class = ap (λ (cs : List Class). slice_get cs (length own)) keeps.built_in.classes ∙ (get_right own built (length own) 0 (omega arith) ∙ top.at) in
      ap (λ (o : Option Class). bytes_eq (elim o [ None ↦ [] | Some class ↦ class.name ]) (codes "java/lang/Object")) there ∙ ap (λ (n : List ℕ). bytes_eq n (codes "java/lang/Object")) top.is

  object_up : (c : ClassId) → is_object p c ≡ true → up p c ≡ None
  object_up c e =
      let top = object_top p.form (length own) methods in
      ap (λ (o : Option Class). o >>= λ (class : Class). class.superclass) (object_at p keeps c e) ∙ top.superclass

  object_unmarked : (form : Form) (first method : ℕ) → is_marked (slice_get (built_in_classes_in form first method) 0) ≡ false
  object_unmarked Plain first method = refl
  object_unmarked Woven first method = refl

  pub object_is_private : (c : ClassId) → is_object p c ≡ true → class_kind p c ≡ kind.Private
  object_is_private c e =
      let name : class_name p c ≡ codes "java/lang/Object" = text_is (class_name p c) (codes "java/lang/Object") e in
      by_none (is_value_class (class_name p c)) (is_task p c) (is_message p c) (ap is_value_class name) (alone (length p.classes)) (ap is_marked (object_at p keeps c e ∙ sym (object_top p.form (length own) methods).at) ∙ object_unmarked p.form (length own) methods)
    where
      alone : (n : ℕ) → list_any (is_named_task p) (line_up_to p n c) ≡ false
      alone zero = refl
      alone (suc n) =
          ap (λ (o : Option ClassId). is_named_task p c || list_any (is_named_task p) (elim o [ None ↦ [] | Some u ↦ line_up_to p n u ])) (object_up c e)
          ∙ ap (λ (z : Bool). z || false) (ap (λ (n : List ℕ). bytes_eq n (codes "kilim/Task")) (text_is (class_name p c) (codes "java/lang/Object") e))

  -- ---- one step up

  pub any_more : (test : ClassId → Bool) (m n : ℕ) (a : ClassId) → m ≤ n → list_any test (line_up_to p m a) ≡ true → list_any test (line_up_to p n a) ≡ true
  any_more test zero n a less e = absurd (cc)
  any_more test (suc m) zero a less e = absurd (omega (arith, less))
  any_more test (suc m) (suc n) a less e = by (test a) (up p a) e (λ u later. any_more test m n u (omega (arith, less)) later)
    where
      by : (z : Bool) (o : Option ClassId) → (z || list_any test (elim o [ None ↦ [] | Some u ↦ line_up_to p m u ])) ≡ true → ((u : ClassId) → list_any test (line_up_to p m u) ≡ true → list_any test (line_up_to p n u) ≡ true) → (z || list_any test (elim o [ None ↦ [] | Some u ↦ line_up_to p n u ])) ≡ true
      by true o e again = refl
      by false None e again = e
      by false (Some u) e again = again u e

  -- a subclass of a task
  task_above : (c u : ClassId) → up p c ≡ Some u → is_named_task p c ≡ false → is_task p c ≡ true → is_task p u ≡ true
  task_above c u e not_one is = by (length p.classes) refl is
    where
      by : (n : ℕ) → length p.classes ≡ n → list_any (is_named_task p) (line_up_to p n c) ≡ true → list_any (is_named_task p) (line_up_to p (length p.classes) u) ≡ true
      by zero size any = absurd (cc)
      by (suc n) size any =
          let a : (false || list_any (is_named_task p) (line_up_to p n u)) ≡ true = subst (λ (o : Option ClassId). (false || list_any (is_named_task p) (elim o [ None ↦ [] | Some u ↦ line_up_to p n u ])) ≡ true) e (subst (λ (z : Bool). (z || list_any (is_named_task p) (elim (up p c) [ None ↦ [] | Some u ↦ line_up_to p n u ])) ≡ true) not_one any) in
          any_more (is_named_task p) n (length p.classes) u (omega (arith, size)) a

  pub step_up : (c u : ClassId) → up p c ≡ Some u → (class_kind p u ≡ class_kind p c) ⊎ (is_object p u ≡ true)
  unfolding superclasses_fit
  step_up c u e = by (class_at p c) refl e
    where
      fits : (class : Class) → class_at p c ≡ Some class → class.superclass ≡ Some u → superclass_fits p c (Some u) ≡ true
      fits class at is =
          let one = each_at (λ (k : ClassId) (class : Class). superclass_fits p k class.superclass) 0 p.classes c.0 class keeps.superclasses at in
          let number : 0 + c.0 ≡ c.0 = omega arith in
          subst (λ (o : Option ClassId). superclass_fits p c o ≡ true) is (subst (λ (k : ℕ). superclass_fits p (class_id k) class.superclass ≡ true) number one)

      -- a message class
      of_message : is_message p c ≡ true → (is_object p u || is_message p u) ≡ true → (class_kind p u ≡ class_kind p c) ⊎ (is_object p u ≡ true)
      of_message m w = go (is_object p u) refl w
        where
          go : (z : Bool) → is_object p u ≡ z → (z || is_message p u) ≡ true → (class_kind p u ≡ class_kind p c) ⊎ (is_object p u ≡ true)
          go true o w = inr o
          go false o w = inl (message_kind u w ∙ sym (message_kind c m))

      -- neither it nor its superclass is a class of values
      of_no_value : is_value_class (class_name p u) ≡ false → is_value_class (class_name p c) ≡ false → is_named_task p c ≡ false → is_message p c ≡ false → (not (is_private_kind (class_kind p c)) || is_private_kind (class_kind p u)) ≡ true → (class_kind p u ≡ class_kind p c) ⊎ (is_object p u ≡ true)
      of_no_value none own_none no_task m w = go (is_task p c) refl
        where
          private_is : (k : Kind) → is_private_kind k ≡ true → k ≡ kind.Private
          private_is kind.Private e = refl
          private_is kind.Tree e = absurd (true≢false (sym e))
          private_is kind.Value e = absurd (true≢false (sym e))

          go : (z : Bool) → is_task p c ≡ z → (class_kind p u ≡ class_kind p c) ⊎ (is_object p u ≡ true)
          go true t = inl (by_kind (is_value_class (class_name p u)) (is_task p u) (is_message p u) none (inl (task_above c u e no_task t)) ∙ sym (by_kind (is_value_class (class_name p c)) (is_task p c) (is_message p c) own_none (inl t)))
          go false t =
              let private : class_kind p c ≡ kind.Private = by_none (is_value_class (class_name p c)) (is_task p c) (is_message p c) own_none t m in
              let w2 : (not (is_private_kind kind.Private) || is_private_kind (class_kind p u)) ≡ true = subst (λ (k : Kind). (not (is_private_kind k) || is_private_kind (class_kind p u)) ≡ true) private w in
              inl (private_is (class_kind p u) w2 ∙ sym private)

      -- another class of the files
      of_own : (class : Class) → class_at p c ≡ Some class → IsOwn c class → is_message p c ≡ false → class.superclass ≡ Some u → (not (is_private_kind (class_kind p c)) || is_private_kind (class_kind p u)) ≡ true → (class_kind p u ≡ class_kind p c) ⊎ (is_object p u ≡ true)
      of_own class at own_class m is w = open_is (open_superclass (and_parts (not (bytes_eq class.name (codes "kilim/Fiber"))) (is_open_superclass p class.superclass) (all_at (own_class_fits p) own c.0 class (own_fits p keeps) own_class.at)).1)
        where
          open_superclass : is_open_superclass p class.superclass ≡ true → is_open_superclass p (Some u) ≡ true
          open_superclass o = subst (λ (o : Option ClassId). is_open_superclass p o ≡ true) is o

          further : is_value_class (class_name p u) ≡ false → (class_kind p u ≡ class_kind p c) ⊎ (is_object p u ≡ true)
          further none = of_no_value none (own_is_no_value c class at own_class) (own_is_no_task c class at own_class) m w

          open_is : is_open_superclass p (Some u) ≡ true → (class_kind p u ≡ class_kind p c) ⊎ (is_object p u ≡ true)
          open_is o = go (Rattle.std.specs.Prelude.nat_lt u.0 (own_count p)) (is_object p u) (is_named_task p u) refl refl refl o
            where
              go : (a b t : Bool) → Rattle.std.specs.Prelude.nat_lt u.0 (own_count p) ≡ a → is_object p u ≡ b → is_named_task p u ≡ t → (a || (b || (t || is_exception (class_name p u)))) ≡ true → (class_kind p u ≡ class_kind p c) ⊎ (is_object p u ≡ true)
              go a true t ea eb et w = inr eb
              go false false true ea eb et w = further (ap is_value_class (text_is (class_name p u) (codes "kilim/Task") et))
              go false false false ea eb et w = further (not-true _ (exception_name (λ (name : List ℕ). not (is_value_class name)) (class_name p u) refl refl w))
              go true false t ea eb et w =
                  let less : u.0 < length own = subst (λ (n : ℕ). u.0 < n) (own_counted p keeps) (ltb-true u.0 (own_count p) ea) in
                  let s = get_some own u.0 less in
                  let there : class_at p u ≡ Some s.0 = ap (λ (cs : List Class). slice_get cs u.0) keeps.built_in.classes ∙ (get_left_of own built u.0 less ∙ s.1) in
                  further (own_is_no_value u s.0 there (record { at = s.1 }))

      -- a built-in class
      of_built : (class : Class) → class_at p c ≡ Some class → IsBuilt c class → class.superclass ≡ Some u → (class_kind p u ≡ class_kind p c) ⊎ (is_object p u ≡ true)
      of_built class at b is = go (subst (UpIs (length own)) is (all_of_at (IsPlain (length own)) built (built_plain p.form (length own) methods) b.place class b.at).1)
        where
          go : ((u.0 ≡ length own) ⊎ ((k : ℕ) × (u.0 ≡ length own + k) × (is_late k ≡ true))) → (class_kind p u ≡ class_kind p c) ⊎ (is_object p u ≡ true)
          go (inl first) = inr (subst (λ (k : ℕ). is_object p (class_id k) ≡ true) (sym first) first_is_object)
          go (inr late) =
              let plain = all_of_at (IsPlainBelow (length own)) built (built_below p.form (length own) methods) b.place class b.at (subst (UpIsLate (length own)) (sym is) late) in
              let none : is_value_class (class_name p u) ≡ false =
              ap (λ (k : ℕ). is_value_class (class_name p (class_id k))) late.1 ∙ of_no_name (class_name p (class_id (length own + late.0))) (late_is_no_value p keeps late.0 late.2) in
              let m : is_message p c ≡ false = ap is_marked at ∙ plain.2 in
              of_no_value none (ap is_value_class (name_is c class at) ∙ plain.0) (ap (λ (n : List ℕ). bytes_eq n (codes "kilim/Task")) (name_is c class at) ∙ plain.1) m
              (subst (λ (z : Bool). cond z (is_object p u || is_message p u) (not (is_private_kind (class_kind p c)) || is_private_kind (class_kind p u)) ≡ true) m (fits class at is))

      by : (o : Option Class) → class_at p c ≡ o → (o >>= λ (class : Class). class.superclass) ≡ Some u → (class_kind p u ≡ class_kind p c) ⊎ (is_object p u ≡ true)
      by None at is = absurd (cc)
      by (Some class) at is = go (which c class at)
        where
          go : IsOwn c class ⊎ IsBuilt c class → (class_kind p u ≡ class_kind p c) ⊎ (is_object p u ≡ true)
          go (inr b) = of_built class at b is
          go (inl o) = mark (is_message p c) refl (fits class at is)
            where
              mark : (z : Bool) → is_message p c ≡ z → cond z (is_object p u || is_message p u) (not (is_private_kind (class_kind p c)) || is_private_kind (class_kind p u)) ≡ true → (class_kind p u ≡ class_kind p c) ⊎ (is_object p u ≡ true)
              mark true m w = of_message m w
              mark false m w = of_own class at o m is w

  -- ---- up a line

  pub in_line : (n : ℕ) (c d : ClassId) → list_any (λ (x : ClassId). eqb x.0 d.0) (line_up_to p n c) ≡ true → (class_kind p d ≡ class_kind p c) ⊎ (is_object p d ≡ true)
  in_line zero c d e = absurd (true≢false (sym e))
  in_line (suc n) c d e = by (eqb c.0 d.0) (up p c) refl refl e (λ u later. in_line n u d later)
    where
      by : (z : Bool) (o : Option ClassId) → eqb c.0 d.0 ≡ z → up p c ≡ o → (z || list_any (λ (x : ClassId). eqb x.0 d.0) (elim o [ None ↦ [] | Some u ↦ line_up_to p n u ])) ≡ true →
          ((u : ClassId) → list_any (λ (x : ClassId). eqb x.0 d.0) (line_up_to p n u) ≡ true → (class_kind p d ≡ class_kind p u) ⊎ (is_object p d ≡ true)) → (class_kind p d ≡ class_kind p c) ⊎ (is_object p d ≡ true)
      by true o same f e again = inl (ap (λ (k : ℕ). class_kind p (class_id k)) (sym (eqb-true c.0 d.0 same)))
      by false None same f e again = absurd (true≢false (sym e))
      by false (Some u) same f e again = elim (again u e) [
        | inr o ↦ inr o
        | inl k ↦ elim (step_up c u f) [
          | inl s ↦ inl (k ∙ s)
          | inr o ↦ inr (above_object u o n e)
        ]
      ]
        where
          above_object : (u : ClassId) → is_object p u ≡ true → (n : ℕ) → list_any (λ (x : ClassId). eqb x.0 d.0) (line_up_to p n u) ≡ true → is_object p d ≡ true
          above_object u o zero any = absurd (true≢false (sym any))
          above_object u o (suc n) any = alone (eqb u.0 d.0) refl (subst (λ (o : Option ClassId). (eqb u.0 d.0 || list_any (λ (x : ClassId). eqb x.0 d.0) (elim o [ None ↦ [] | Some u ↦ line_up_to p n u ])) ≡ true) (object_up u o) any)
            where
              alone : (z : Bool) → eqb u.0 d.0 ≡ z → (z || false) ≡ true → is_object p d ≡ true
              alone true same w = subst (λ (k : ℕ). is_object p (class_id k) ≡ true) (eqb-true u.0 d.0 same) o
              alone false same w = absurd (true≢false (sym w))
