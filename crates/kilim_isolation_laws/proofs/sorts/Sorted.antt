-- How the kinds of classes flow.
use Rattle.std.proofs.Common.{◌≡◌, ◌⊎◌, inl, inr, ℕ, Bool, true, false, eqb, [], length, Option, Some, None, refl, sym, ap, subst, ◌∙◌, zero, suc}
use Rattle.std.specs.Prelude.{◌||◌, codes, slice_get}
use Rattle.std.specs.List.{list_any}
use Rattle.std.proofs.lemmas.Bool.{eq-eqb, or_left, or_right}
use Rattle.kilim_program.specs.declared.names.ClassId.{ClassId}
use Rattle.kilim_program.specs.declared.ty.Base.{Base}
use Rattle.kilim_program.specs.declared.ty.Base.TheVariants as base
use Rattle.kilim_program.specs.declared.ty.Kind.{Kind}
use Rattle.kilim_program.specs.declared.ty.Kind.TheVariants as kind
use Rattle.kilim_program.specs.declared.class.Form.TheVariants.{Plain, Woven}
use Rattle.kilim_program.specs.declared.class.Form.{Form}
use Rattle.kilim_program.specs.Program.{Program}
use Rattle.kilim_program.specs.BuiltIn.{built_in_classes_in}
use Rattle.kilim_program.specs.Fits.{class_assignable, is_named, is_object_base}
use Rattle.kilim_program.specs.Kinds.{base_kind, class_kind, is_marked, is_message}
use Rattle.kilim_program.specs.Keeps.{Keeps}
use Rattle.kilim_program.specs.Names.{line_of, line_up_to}
use Rattle.kilim_type_laws.proofs.members.Through.{cases, message_at, message_top}
use Rattle.kilim_isolation_laws.proofs.sorts.KindsOfClasses.{ClassFlow, ClassesFlow}
use Rattle.kilim_isolation_laws.proofs.sorts.Lines.{in_line, message_kind, object_is_private, up}

message_marked : (form : Form) (first method : ℕ) → is_marked (slice_get (built_in_classes_in form first method) 2) ≡ true
message_marked Plain first method = refl
message_marked Woven first method = refl

itself : (k : Kind) → ClassFlow k k
itself kind.Value = tt
itself kind.Tree = tt
itself kind.Private = tt

to_private : (k : Kind) → ClassFlow k kind.Private
to_private kind.Value = tt
to_private kind.Tree = tt
to_private kind.Private = tt

module _ (p : Program) (keeps : Keeps p) where
  -- one that is a message above itself is a tree
  some_message : (n : ℕ) (c : ClassId) → list_any (is_message p) (line_up_to p n c) ≡ true → (d : ClassId) × (list_any (λ (x : ClassId). eqb x.0 d.0) (line_up_to p n c) ≡ true) × (is_message p d ≡ true)
  some_message zero c e = absurd (cc)
  some_message (suc n) c e = by (is_message p c) (up p c) refl e (λ u later. some_message n u later)
    where
      by : (z : Bool) (o : Option ClassId) → is_message p c ≡ z → (z || list_any (is_message p) (elim o [ None ↦ [] | Some u ↦ line_up_to p n u ])) ≡ true →
          ((u : ClassId) → list_any (is_message p) (line_up_to p n u) ≡ true → (d : ClassId) × (list_any (λ (x : ClassId). eqb x.0 d.0) (line_up_to p n u) ≡ true) × (is_message p d ≡ true)) →
          (d : ClassId) × ((eqb c.0 d.0 || list_any (λ (x : ClassId). eqb x.0 d.0) (elim o [ None ↦ [] | Some u ↦ line_up_to p n u ])) ≡ true) × (is_message p d ≡ true)
      by true o m e again = (c, or_left (eqb c.0 c.0) _ (eq-eqb c.0 c.0 refl), m)
      by false None m e again = absurd (cc)
      by false (Some u) m e again = let a = again u e in (a.0, or_right (eqb c.0 a.0.0) _ a.1, a.2)

  pub message_is_tree : (b : ClassId) → is_named p (codes "kilim/Message") b ≡ true → class_kind p b ≡ kind.Tree
  message_is_tree b e =
      let top = message_top p.form (length keeps.built_in.own_classes) (length keeps.built_in.own_methods) in
      message_kind p keeps b (ap is_marked (message_at p keeps b e ∙ sym top.at) ∙ message_marked p.form (length keeps.built_in.own_classes) (length keeps.built_in.own_methods))

  pub classes_flow : ClassesFlow p
  classes_flow = record { kinds = kinds; object = object }
    where
      kinds : (a b : ClassId) → class_assignable p a b ≡ true → ClassFlow (class_kind p a) (class_kind p b)
      kinds a b e =
          cases (list_any (λ (d : ClassId). eqb d.0 b.0) (line_of p a)) (is_named p (codes "java/lang/Object") b) (is_named p (codes "kilim/Message") b) (list_any (is_message p) (line_of p a)) e
          (λ l. same (in_line p keeps (length p.classes) a b l))
          (λ o. subst (λ (k : Kind). ClassFlow (class_kind p a) k) (sym (object_is_private p keeps b o)) (to_private (class_kind p a)))
          (λ m any. let d = some_message (length p.classes) a any in tree d.0 (in_line p keeps (length p.classes) a d.0 d.1) d.2 (message_is_tree b m))
        where
          same : (class_kind p b ≡ class_kind p a) ⊎ (is_named p (codes "java/lang/Object") b ≡ true) → ClassFlow (class_kind p a) (class_kind p b)
          same (inl k) = subst (λ (k : Kind). ClassFlow (class_kind p a) k) (sym k) (itself (class_kind p a))
          same (inr o) = subst (λ (k : Kind). ClassFlow (class_kind p a) k) (sym (object_is_private p keeps b o)) (to_private (class_kind p a))

          tree : (d : ClassId) → (class_kind p d ≡ class_kind p a) ⊎ (is_named p (codes "java/lang/Object") d ≡ true) → is_message p d ≡ true → class_kind p b ≡ kind.Tree → ClassFlow (class_kind p a) (class_kind p b)
          tree d (inl k) m t = let ka : class_kind p a ≡ kind.Tree = sym k ∙ message_kind p keeps d m in subst (λ (x : Kind). ClassFlow x (class_kind p b)) (sym ka) (subst (λ (y : Kind). ClassFlow kind.Tree y) (sym t) tt)
          tree d (inr o) m t = absurd (let e : kind.Tree ≡ kind.Private = sym (message_kind p keeps d m) ∙ object_is_private p keeps d o in cc)

      object : (b : Base) → is_object_base p b ≡ true → base_kind p b ≡ kind.Private
      object (base.Class b) e = object_is_private p keeps b e
      object base.Bool e = absurd (cc)
      object base.Byte e = absurd (cc)
      object base.Char e = absurd (cc)
      object base.Short e = absurd (cc)
      object base.Int e = absurd (cc)
      object base.Long e = absurd (cc)
