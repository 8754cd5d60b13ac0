-- The built-in classes and methods in woven form come last.
use Rattle.std.proofs.Common.{◌≡◌, ℕ, suc, ◌+◌, ◌-◌, ◌≤◌, Bool, true, false, cond, eqb, not, List, [], ◌∷◌, ◌++◌, length, map, take, Some, refl, sym, ap, subst, ◌∙◌, arith, append_assoc, length-append, ne_eqb}
use Rattle.std.proofs.Math.Seq.{take-append_seam}
use Rattle.std.specs.Prelude.{◌&&◌, ◌||◌, nat_lt, slice_get, codes}
use Rattle.std.specs.List.{list_all}
use Rattle.std.specs.Str.{bytes_eq}
use Rattle.std.proofs.lemmas.Bool.{and_parts, and_from}
use Rattle.kilim_program.specs.declared.class.Class.{Class}
use Rattle.kilim_program.specs.declared.class.Form.{Form}
use Rattle.kilim_program.specs.declared.class.Form.TheVariants.{Plain, Woven}
use Rattle.kilim_program.specs.declared.class.Method.{Method}
use Rattle.kilim_program.specs.declared.instr.Instr.{Instr}
use Rattle.kilim_program.specs.declared.instr.Instr.TheVariants.{Astore}
use Rattle.kilim_program.specs.declared.names.MethodId.{MethodId}
use Rattle.kilim_program.specs.declared.ty.Qualifier.TheVariants.{Safe}
use Rattle.kilim_program.specs.declared.ty.Ty.{Ty}
use Rattle.kilim_program.specs.BuiltIn.{class_type, built_in_classes_in, built_in_methods_in, fiber_classes, fiber_methods, method_id}
use Rattle.kilim_program.specs.Keeps.{EndsBuiltIn, Keeps, code_is_whole, own_class_fits, own_classes_fit, own_count}
use Rattle.kilim_program.specs.Lengths.{code_ends, code_stands, targets_stand}
use Rattle.kilim_program.specs.Names.{is_empty, method_at}
use Rattle.kilim_program.specs.Program.{Program}
use Rattle.kilim_program.specs.Same.{argument_slots, same_flag}
use Rattle.kilim_lemmas.proofs.Lists.{get_left}
use Rattle.kilim_type_spec.specs.Typed.{has_code}
use Rattle.kilim_weave_spec.specs.Form.{AllWoven, IsWoven, WovenForm, first_class, first_method, has_calls, plan_of, woven_as}
use Rattle.kilim_weave_spec.specs.Weight.{calls_in}
use Rattle.kilim_weave_spec.specs.Woven.{Item, Mark, Does, Plan, behind, fiber_ty, larger, local_size, woven_items, added, fiber_slot, keep_self, load_fiber, calls_member, switch_item, pieces, blocks}
use Rattle.kilim_weave_laws.proofs.woven_types.Codes.{whole_code}
use Rattle.kilim_weave_laws.proofs.woven_types.OldFacts.{GrowsTo}
use Rattle.kilim_type_laws.proofs.members.FromKeeps.{all_at}
use Rattle.kilim_weave_laws.proofs.woven_programs.Theorem.{how_many}
use Rattle.kilim_weave_laws.proofs.woven_programs.classes.Listing.{all_joined}

-- ---- methods beside their woven forms

module _ (P : Program) where
  abbrev pub Pairs : List Method → List Method → Type 0
  Pairs [] [] = Unit {0}
  Pairs (m ∷ ms) (w ∷ ws) = ((marks : List Bool) × IsWoven P m w marks) × Pairs ms ws
  Pairs _ _ = ⊥

  pub record Split (xs ys ws : List Method) : Type 0 where
    pub front : List Method
    pub back : List Method
    pub marks : List (List Bool)
    pub is : ws ≡ front ++ back
    pub many : length front ≡ length xs
    pub pairs : Pairs xs front
    pub last : AllWoven P ys back marks

  pub split : (xs ys ws : List Method) (cs : List (List Bool)) → AllWoven P (xs ++ ys) ws cs → Split xs ys ws
  split [] ys ws cs a = record { front = []; back = ws; marks = cs; is = refl; many = refl; pairs = tt; last = a }
  split (m ∷ xs) ys [] cs a = absurd a
  split (m ∷ xs) ys (w ∷ ws) [] a = absurd a
  split (m ∷ xs) ys (w ∷ ws) (c ∷ cs) a =
      let r = split xs ys ws cs a.1 in
      record { front = w ∷ r.front; back = r.back; marks = r.marks; is = ap (λ (zs : List Method). w ∷ zs) r.is; many = ap suc r.many; pairs = ((c, a.0), r.pairs); last = r.last }

  -- ---- methods without code

  -- the woven form of a method without calls, where the fiber has the type
  abbrev given : Ty → Method → Method
  given t m = record m { params = m.params ++ t ∷ []; qualifiers = m.qualifiers ++ Safe ∷ []; max_locals = cond (has_code m) (larger m.max_locals (suc (argument_slots m))) m.max_locals }

  abbrev becomes : Ty → Method → Method
  becomes t m = cond m.pausable (given t m) m

  becomes_by : (m w : Method) (c : List Bool) (z calls : Bool) → calls ≡ false → woven_as z calls P m w c → w ≡ cond z (given (fiber_ty P) m) m
  becomes_by m w c false calls none a = a.0
  becomes_by m w c true false none a = a.0
  becomes_by m w c true true none a = absurd (cc)

  none_in : (es : List (ℕ × Instr)) → is_empty es ≡ true → nat_lt 0 (calls_in P es) ≡ false
  none_in [] e = refl
  none_in (x ∷ es) e = absurd (cc)

  last_are : (ms ws : List Method) (cs : List (List Bool)) → AllWoven P ms ws cs → list_all (λ m. is_empty m.code) ms ≡ true → ws ≡ map (becomes (fiber_ty P)) ms ++ fiber_methods Woven (first_class P)
  last_are [] ws cs a n = a.0
  last_are (m ∷ ms) [] cs a n = absurd a
  last_are (m ∷ ms) (w ∷ ws) [] a n = absurd a
  last_are (m ∷ ms) (w ∷ ws) (c ∷ cs) a n =
      let p = and_parts (is_empty m.code) _ n in
      ap (λ (z : Method). z ∷ ws) (becomes_by m w c m.pausable (has_calls P m) (none_in m.code p.0) a.0)
      ∙ ap (λ (zs : List Method). becomes (fiber_ty P) m ∷ zs) (last_are ms ws cs a.1 p.1)

  become : (n : ℕ) → map (becomes (class_type (n + 18))) (built_in_methods_in Plain n) ++ fiber_methods Woven n ≡ built_in_methods_in Woven n
  become n = refl

  no_codes : (n : ℕ) → list_all (λ m. is_empty m.code) (built_in_methods_in Plain n) ≡ true
  no_codes n = refl

-- ---- the code of woven methods isn't empty

grows : (items : List Item) (q : ℕ) → q ≤ behind q items
grows [] q = omega arith
grows (Mark label frame ∷ rest) q = grows rest q
grows (Does i size counted ∷ rest) q = let h = grows rest (q + size q) in omega (arith, h)

a_byte : (n : ℕ) → 1 ≤ local_size n
a_byte n = by (nat_lt n 4) (nat_lt n 256)
  where
    by : (x y : Bool) → 1 ≤ cond x 1 (cond y 2 4)
    by true y = omega arith
    by false true = omega arith
    by false false = omega arith

-- what stands behind the first instruction
abbrev rest : Plan → List Item
rest x = added (Astore (fiber_slot x.method)) (local_size (fiber_slot x.method)) ∷ keep_self x (load_fiber x ∷ calls_member x 0 ∷ switch_item x ∷ pieces x true 1 x.method.code (blocks x 1 x.method.code))

some_length : (x : Plan) → 1 ≤ behind 0 (woven_items x)
some_length x = let a = a_byte (argument_slots x.method) in let h = grows (rest x) (0 + local_size (argument_slots x.method)) in omega (arith, a, h)

some_code : (es : List (ℕ × Instr)) (end : ℕ) → not (is_empty es) ≡ true → GrowsTo end es → 1 ≤ end
some_code [] end e g = absurd (cc)
some_code (x ∷ []) end e g = let h = g.0 in omega (arith, h)
some_code (x ∷ (y ∷ es)) end e g = some_code (y ∷ es) end refl g.1

not_zero : (n : ℕ) → 1 ≤ n → eqb n 0 ≡ false
not_zero n h = ne_eqb n 0 (λ e. omega (arith, h, e))

abbrev body : Method → Bool
body m = not m.built_in && (same_flag (eqb m.code_length 0) m.is_abstract && not (m.is_abstract && (m.is_private || m.is_static)))

module _ (P W : Program) (counted : List (List Bool)) (keeps : Keeps P) (plainly : P.form ≡ Plain) (form : WovenForm P W counted) where
  abbrev own : ℕ
  own = length keeps.built_in.own_classes

  abbrev made : ℕ
  made = length keeps.built_in.own_methods

  many : length P.classes ≡ own + 18
  many = how_many P W counted keeps plainly form

  many_methods : length P.methods ≡ made + 43
  many_methods = ap length keeps.built_in.methods ∙ (length-append keeps.built_in.own_methods (built_in_methods_in P.form own) ∙ ap (λ (f : Form). made + length (built_in_methods_in f own)) plainly)

  pub first_methods : first_method P ≡ made
  first_methods = let e : first_method P ≡ length P.methods - 43 = refl in let n = many_methods in omega (arith, e, n)

  first_classes : first_class P ≡ own
  first_classes = let e : first_class P ≡ length P.classes - 18 = refl in let n = many in omega (arith, e, n)

  parts : Split P keeps.built_in.own_methods (built_in_methods_in P.form own) W.methods
  parts = split P keeps.built_in.own_methods (built_in_methods_in P.form own) W.methods counted (subst (λ (ms : List Method). AllWoven P ms W.methods counted) keeps.built_in.methods form.methods)

  back_is : parts.back ≡ built_in_methods_in Woven own
  back_is =
      let last = subst (λ (f : Form). AllWoven P (built_in_methods_in f own) parts.back parts.marks) plainly parts.last in
      last_are P (built_in_methods_in Plain own) parts.back parts.marks last (no_codes P own)
      ∙ (ap (λ (n : ℕ). map (becomes P (class_type n)) (built_in_methods_in Plain own) ++ fiber_methods Woven (first_class P)) many
      ∙ (ap (λ (n : ℕ). map (becomes P (class_type (own + 18))) (built_in_methods_in Plain own) ++ fiber_methods Woven n) first_classes
      ∙ become P own))

  methods_end : W.methods ≡ parts.front ++ built_in_methods_in Woven own
  methods_end = parts.is ∙ ap (λ (ms : List Method). parts.front ++ ms) back_is

  pub classes_end : W.classes ≡ keeps.built_in.own_classes ++ built_in_classes_in Woven own made
  classes_end =
      form.classes
      ∙ (ap (λ (n : ℕ). P.classes ++ fiber_classes Woven n (first_method P)) first_classes
      ∙ (ap (λ (n : ℕ). P.classes ++ fiber_classes Woven own n) first_methods
      ∙ (ap (λ (cs : List Class). cs ++ fiber_classes Woven own made) keeps.built_in.classes
      ∙ (append_assoc keeps.built_in.own_classes (built_in_classes_in P.form own made) (fiber_classes Woven own made)
      ∙ ap (λ (f : Form). keeps.built_in.own_classes ++ (built_in_classes_in f own made ++ fiber_classes Woven own made)) plainly))))

  -- ---- bodies

  body_by : (id : MethodId) (m w : Method) (marks : List Bool) (z calls : Bool) → method_at P id ≡ Some m → has_calls P m ≡ calls → woven_as z calls P m w marks → body m ≡ true → body w ≡ true
  unfolding code_is_whole
  body_by id m w marks false calls at c a h = ap body a.0 ∙ h
  body_by id m w marks true false at c a h = ap body a.0 ∙ h
  body_by id m w marks true true at c a h =
      let x = plan_of P m a.0 a.1 a.2 in
      let new = not_zero (behind 0 (woven_items x)) (some_length x) in
      let old = not_zero m.code_length (some_code m.code m.code_length (some m.code c) (whole_code m (and_parts (code_stands 0 m.code m.code_length) (targets_stand m.code && code_ends m.code) (all_at code_is_whole P.methods id.0 m keeps.code at)).0).grows) in
      ap body a.4.method
      ∙ (ap (λ (b : Bool). not m.built_in && (same_flag b m.is_abstract && not (m.is_abstract && (m.is_private || m.is_static)))) new
      ∙ (sym (ap (λ (b : Bool). not m.built_in && (same_flag b m.is_abstract && not (m.is_abstract && (m.is_private || m.is_static)))) old) ∙ h))
    where
      some : (es : List (ℕ × Instr)) → nat_lt 0 (calls_in P es) ≡ true → not (is_empty es) ≡ true
      some [] e = absurd (cc)
      some (x ∷ es) e = refl

  bodies : (ms ws : List Method) (before : ℕ) → Pairs P ms ws → ((k : ℕ) (m : Method) → slice_get ms k ≡ Some m → method_at P (method_id (before + k)) ≡ Some m) → list_all body ms ≡ true → list_all body ws ≡ true
  bodies [] [] before a there h = refl
  bodies [] (w ∷ ws) before a there h = absurd a
  bodies (m ∷ ms) [] before a there h = absurd a
  bodies (m ∷ ms) (w ∷ ws) before a there h =
      let p = and_parts (body m) _ h in
      and_from (body w) _ (body_by (method_id (before + 0)) m w a.0.0 m.pausable (has_calls P m) (there 0 m refl) refl a.0.1 p.0)
      (bodies ms ws (suc before) a.1 (λ k n e. let number : suc before + k ≡ before + suc k = omega arith in ap (λ (j : ℕ). method_at P (method_id j)) number ∙ there (suc k) n e) p.1)

  begins : (k : ℕ) (m : Method) → slice_get keeps.built_in.own_methods k ≡ Some m → method_at P (method_id (0 + k)) ≡ Some m
  begins k m e =
      let number : 0 + k ≡ k = omega arith in
      ap (λ (j : ℕ). slice_get P.methods j) number
      ∙ (ap (λ (ms : List Method). slice_get ms k) keeps.built_in.methods ∙ get_left keeps.built_in.own_methods (built_in_methods_in P.form own) k m e)

  pub ends : EndsBuiltIn W
  ends = record {
    own_classes = keeps.built_in.own_classes;
    own_methods = parts.front;
    own_fields = keeps.built_in.own_fields;
    classes = classes_end ∙ (ap (λ (n : ℕ). keeps.built_in.own_classes ++ built_in_classes_in Woven own n) (sym parts.many) ∙ ap (λ (f : Form). keeps.built_in.own_classes ++ built_in_classes_in f own (length parts.front)) (sym form.form));
    methods = methods_end ∙ ap (λ (f : Form). parts.front ++ built_in_methods_in f own) (sym form.form);
    fields = form.fields ∙ keeps.built_in.fields;
    bodies = bodies keeps.built_in.own_methods parts.front 0 parts.pairs begins keeps.built_in.bodies;
  }

  -- ---- the classes of the files

  pub own_before : own_count P ≡ own
  own_before =
      let e = ap (λ (f : Form). length P.classes - length (built_in_classes_in f 0 0)) plainly in
      let n = many in
      e ∙ omega (arith, n)

  pub own_after : own_count W ≡ own
  own_after =
      let e = ap (λ (f : Form). length W.classes - length (built_in_classes_in f 0 0)) form.form in
      let n = ap length classes_end ∙ length-append keeps.built_in.own_classes (built_in_classes_in Woven own made) in
      e ∙ omega (arith, n)

  pub files_before : take (own_count P) P.classes ≡ keeps.built_in.own_classes
  files_before =
      ap (λ (n : ℕ). take n P.classes) own_before
      ∙ (ap (λ (cs : List Class). take own cs) keeps.built_in.classes ∙ take-append_seam keeps.built_in.own_classes (built_in_classes_in P.form own made))

  pub files_after : take (own_count W) W.classes ≡ keeps.built_in.own_classes
  files_after =
      ap (λ (n : ℕ). take n W.classes) own_after
      ∙ (ap (λ (cs : List Class). take own cs) classes_end ∙ take-append_seam keeps.built_in.own_classes (built_in_classes_in Woven own made))

  -- none of the classes is the fiber's
  pub none_is_fiber : list_all (λ c. not (bytes_eq c.name (codes "kilim/Fiber"))) P.classes ≡ true
  unfolding own_classes_fit
  none_is_fiber =
      ap (list_all (λ c. not (bytes_eq c.name (codes "kilim/Fiber")))) (keeps.built_in.classes ∙ ap (λ (f : Form). keeps.built_in.own_classes ++ built_in_classes_in f own made) plainly)
      ∙ all_joined (λ c. not (bytes_eq c.name (codes "kilim/Fiber"))) keeps.built_in.own_classes (built_in_classes_in Plain own made)
      (named keeps.built_in.own_classes (subst (λ (cs : List Class). list_all (own_class_fits P) cs ≡ true) files_before keeps.own_classes)) refl
    where
      named : (cs : List Class) → list_all (own_class_fits P) cs ≡ true → list_all (λ c. not (bytes_eq c.name (codes "kilim/Fiber"))) cs ≡ true
      named [] h = refl
      named (c ∷ cs) h = let p = and_parts (own_class_fits P c) _ h in and_from (not (bytes_eq c.name (codes "kilim/Fiber"))) _ (and_parts (not (bytes_eq c.name (codes "kilim/Fiber"))) _ p.0).0 (named cs p.1)
