-- A method without reports calls no pausable method in plain code, and nothing is uninitialized across its pausable calls.
use Rattle.std.proofs.Common.{◌≡◌, inl, inr, ℕ, zero, suc, Bool, true, false, cond, eqb, not, List, [], ◌∷◌, ◌++◌, length, map, take, drop, reverse, Option, Some, None, slice_get, refl, sym, ap, subst, ◌∙◌, arith, eq-eqb, ltb-true}
use Rattle.std.specs.Prelude.{◌&&◌, ◌-◌}
use Rattle.std.specs.List.{list_any, flat_map}
use Rattle.std.proofs.lemmas.Option.{none-some}
use Rattle.std.proofs.lemmas.Bool.{or_left, or_right, or_parts, or_from, and_parts}
use Rattle.std.proofs.lemmas.List.{reverse-append, length-reverse}
use Rattle.std.proofs.Math.Seq.{take-length}
use Rattle.kilim_program.specs.declared.class.Class.{Class}
use Rattle.kilim_program.specs.declared.class.Method.{Method}
use Rattle.kilim_program.specs.declared.instr.Instr.{Instr}
use Rattle.kilim_program.specs.declared.instr.Instr.TheVariants.{Invokevirtual, Invokespecial, Invokestatic}
use Rattle.kilim_program.specs.declared.names.MethodId.{MethodId}
use Rattle.kilim_program.specs.declared.verified.Frame.{Frame}
use Rattle.kilim_program.specs.declared.verified.VType.{VType}
use Rattle.kilim_program.specs.Keeps.{Keeps, code_is_whole}
use Rattle.kilim_program.specs.Lengths.{code_ends, code_stands, is_code_place, targets_stand}
use Rattle.kilim_program.specs.Names.{is_empty, method_at}
use Rattle.kilim_program.specs.Program.{Program}
use Rattle.kilim_lemmas.proofs.Lists.{front_none, get_some, rest_none, map_at}
use Rattle.kilim_isolation_pauses.specs.Pausing.{all_methods, arguments_of, below, called, frames_at, has_free_receiver, method_reports, pauses, pauses_in_plain, pausing_reports, report_if, reports_along, reports_at, reports_of, uninitialized_below}
use Rattle.kilim_type_spec.specs.Step.{Types, is_unset, peek}
use Rattle.kilim_type_spec.specs.Typed.{entry, frames_of, has_code, listed, typing_of}
use Rattle.kilim_type_laws.specs.Laws.{Shows}
use Rattle.kilim_type_laws.proofs.Listed.{listed_frames_show}
use Rattle.kilim_type_spec.specs.TypedProgram.{KeepsTyped, TypedProgram}
use Rattle.kilim_weave_spec.specs.Woven.{if_there, pausable_callee, taken}
use Rattle.kilim_weave_laws.specs.woven_types.Facts.{CallsNone}
use Rattle.kilim_weave_laws.proofs.woven_types.Codes.{whole_code}
use Rattle.kilim_type_laws.proofs.members.ClassMethods.{IsAmong, among_left, among_right, owner_has}
use Rattle.kilim_type_laws.proofs.members.FromKeeps.{all_at}
use Rattle.kilim_weave_laws.proofs.woven_programs.classes.Listing.{take_front}
use Rattle.kilim_weave_laws.specs.woven_programs.Law.{NoneAcross}
use Rattle.kilim_weave_laws.proofs.woven_programs.Frames.{Agree, by_place, same_listed}
use Rattle.kilim_weave_laws.proofs.woven_programs.Naming.{owner_there}
use Rattle.kilim_weave_pauses.specs.Law.{PausesAreKept}

-- ---- lists

flat_none : {A B : Type 0} (f : A → List B) (xs : List A) (x : A) → flat_map f xs ≡ [] → IsAmong x xs → f x ≡ []
flat_none f [] x h i = absurd i
flat_none f (y ∷ xs) x h (inl e) = ap f e ∙ front_none (f y) (flat_map f xs) h
flat_none f (y ∷ xs) x h (inr i) = flat_none f xs x (rest_none (f y) (flat_map f xs) h) i

among_classes : (cs : List Class) (k : ℕ) (c : Class) (id : MethodId) → slice_get cs k ≡ Some c → IsAmong id c.methods → IsAmong id (flat_map (λ class. class.methods) cs)
among_classes [] k c id e i = absurd (cc)
among_classes (x ∷ cs) zero c id e i = among_left id x.methods (flat_map (λ class. class.methods) cs) (subst (λ (z : Class). IsAmong id z.methods) (let s : c ≡ x = cc in s) i)
among_classes (x ∷ cs) (suc k) c id e i = among_right id x.methods (flat_map (λ class. class.methods) cs) (among_classes cs k c id e i)

any_front : (p : VType → Bool) (xs ys : List VType) → list_any p (xs ++ ys) ≡ false → (list_any p xs ≡ false) × (list_any p ys ≡ false)
any_front p [] ys h = (refl, h)
any_front p (x ∷ xs) ys h = let q = or_parts (p x) _ h in let r = any_front p xs ys q.1 in (or_from (p x) _ q.0 r.0, r.1)

none_reversed : (p : VType → Bool) (xs : List VType) → list_any p (reverse xs) ≡ false → list_any p xs ≡ false
none_reversed p [] h = refl
none_reversed p (x ∷ xs) h =
    let q = any_front p (reverse xs) (x ∷ []) (sym (ap (list_any p) (reverse-append (x ∷ []) xs)) ∙ h) in
    or_from (p x) _ (or_parts (p x) false q.1).0 (none_reversed p xs q.0)

-- the bottom of a stack, from the bottom
reverse_dropped : (n : ℕ) (xs : List VType) → take (length (reverse xs) - n) (reverse xs) ≡ reverse (drop n xs)
reverse_dropped zero xs = let e : length (reverse xs) - 0 ≡ length (reverse xs) = omega arith in ap (λ (k : ℕ). take k (reverse xs)) e ∙ take-length (reverse xs)
reverse_dropped (suc n) [] = by (length (reverse {A = VType} []) - suc n)
  where
    by : (k : ℕ) → take k (reverse {A = VType} []) ≡ []
    by zero = refl
    by (suc k) = refl
reverse_dropped (suc n) (x ∷ xs) =
    let l = length-reverse (x ∷ xs) in
    let k = length-reverse xs in
    let e : length (reverse (x ∷ xs)) - suc n ≡ length (reverse xs) - n = omega (arith, l, k) in
    ap (λ (j : ℕ). take j (reverse (x ∷ xs))) e
    ∙ (ap (take (length (reverse xs) - n)) (reverse-append (x ∷ []) xs)
    ∙ (take_front (length (reverse xs) - n) (reverse xs) (x ∷ []) (omega arith) ∙ reverse_dropped n xs))

any_peek : (ts : List VType) (k : ℕ) → list_any is_unset ts ≡ false → is_unset (peek ts k) ≡ false
any_peek [] zero h = refl
any_peek [] (suc k) h = refl
any_peek (t ∷ ts) zero h = (or_parts (is_unset t) _ h).0
any_peek (t ∷ ts) (suc k) h = any_peek ts k (or_parts (is_unset t) _ h).1

none_by : (ts : List VType) → ((k : ℕ) → is_unset (peek ts k) ≡ false) → list_any is_unset ts ≡ false
none_by [] h = refl
none_by (t ∷ ts) h = or_from (is_unset t) _ (h 0) (none_by ts (λ k. h (suc k)))

-- ---- reports

report_none : (b : Bool) (id : MethodId) (pc rule : ℕ) → report_if b id pc rule ≡ [] → b ≡ false
report_none true id pc rule h = absurd (cc)
report_none false id pc rule h = refl

there_is : (o : Option Method) (callee : Method) → if_there o ≡ Some callee → (o ≡ Some callee) × (callee.pausable ≡ true)
there_is None callee h = absurd (cc)
there_is (Some m) callee h = by m.pausable refl h
  where
    by : (b : Bool) → m.pausable ≡ b → cond b (Some m) None ≡ Some callee → (Some m ≡ Some callee) × (callee.pausable ≡ true)
    by true is e = (e, (let s : m ≡ callee = cc in ap (λ (z : Method). z.pausable) (sym s) ∙ is))
    by false is e = absurd (cc)

called_is : (p : Program) (i : Instr) (callee : Method) → pausable_callee p i ≡ Some callee → (called p i ≡ Some callee) × (callee.pausable ≡ true)
called_is p (Invokevirtual id) callee h = there_is (method_at p id) callee h
called_is p (Invokespecial id) callee h = there_is (method_at p id) callee h
called_is p (Invokestatic id) callee h = there_is (method_at p id) callee h
called_is p i callee h = absurd (none-some callee h)

there_none : (o : Option Method) → pauses o ≡ false → if_there o ≡ None
there_none None h = refl
there_none (Some m) h = ap (λ (b : Bool). cond b (Some m) None) h

called_none : (p : Program) (i : Instr) → pauses (called p i) ≡ false → pausable_callee p i ≡ None
called_none p (Invokevirtual id) h = there_none (method_at p id) h
called_none p (Invokespecial id) h = there_none (method_at p id) h
called_none p (Invokestatic id) h = there_none (method_at p id) h
called_none p i h = refl

and_false : (x y : Bool) → (x && y) ≡ false → x ≡ true → y ≡ false
and_false true y h e = h
and_false false y h e = absurd (cc)

module _ (p : Program) (id : MethodId) (m : Method) (typing : ℕ → Types) where
  plain_walk : (es : List (ℕ × Instr)) (fs : List Types) → Agree p m typing es fs → m.pausable ≡ false → reports_along p id m es (map (listed m) fs) ≡ [] → CallsNone p es
  plain_walk [] fs a plain h = tt
  plain_walk (e ∷ es) [] a plain h = absurd a
  plain_walk (e ∷ es) (f ∷ fs) a plain h =
      let one = front_none (reports_at p id m e (listed m f)) (reports_along p id m es (map (listed m) fs)) h in
      let rest = rest_none (reports_at p id m e (listed m f)) (reports_along p id m es (map (listed m) fs)) h in
      let ten = front_none (report_if (pauses_in_plain p m e.1) id e.0 10) (report_if (uninitialized_below (listed m f) (called p e.1)) id e.0 11) one in (
        called_none p e.1 (and_false (not m.pausable) (pauses (called p e.1)) (report_none (pauses_in_plain p m e.1) id e.0 10 ten) (ap not plain)),
        plain_walk es fs a.1 plain rest,
      )

  module _ (shows : (q : ℕ) → is_code_place m.code q ≡ true → Shows (listed m (typing q)) (typing q)) where
    across : (f : Types) (callee : Method) → Shows (listed m f) f → callee.pausable ≡ true → uninitialized_below (listed m f) (Some callee) ≡ false → (list_any is_unset (drop (taken callee) f.stack) ≡ false) × (list_any is_unset f.locals ≡ false)
    across f callee s is h =
        let n = or_parts (list_any is_unset (listed m f).locals) (list_any is_unset (below (arguments_of callee) (listed m f))) (and_false callee.pausable _ h is) in (
          none_reversed is_unset (drop (taken callee) f.stack) (sym (ap (list_any is_unset) (reverse_dropped (taken callee) f.stack)) ∙ n.1),
          none_by f.locals (λ k. ap is_unset (sym (s.locals k)) ∙ any_peek (listed m f).locals k n.0),
        )

    across_walk : (es : List (ℕ × Instr)) (fs : List Types) → Agree p m typing es fs → ((q : ℕ) → is_code_place es q ≡ true → is_code_place m.code q ≡ true) → reports_along p id m es (map (listed m) fs) ≡ [] → NoneAcross p typing es
    across_walk [] fs a inside h = tt
    across_walk (e ∷ es) [] a inside h = absurd a
    across_walk (e ∷ es) (f ∷ fs) a inside h =
        let one = front_none (reports_at p id m e (listed m f)) (reports_along p id m es (map (listed m) fs)) h in
        let rest = rest_none (reports_at p id m e (listed m f)) (reports_along p id m es (map (listed m) fs)) h in
        let eleven = rest_none (report_if (pauses_in_plain p m e.1) id e.0 10) (report_if (uninitialized_below (listed m f) (called p e.1)) id e.0 11) one in
        let clear = report_none (uninitialized_below (listed m f) (called p e.1)) id e.0 11 eleven in
        let here : is_code_place m.code e.0 ≡ true = inside e.0 (or_left (eqb e.0 e.0) (is_code_place es e.0) (eq-eqb e.0 e.0 refl)) in (
          (λ callee is.
              let c = called_is p e.1 callee is in
              across (typing e.0) callee (shows e.0 here) c.1
              (ap (λ (z : Types). uninitialized_below (listed m z) (Some callee)) a.0 ∙ (sym (ap (uninitialized_below (listed m f)) c.0) ∙ clear))),
          across_walk es fs a.1 (λ q k. inside q (or_right (eqb e.0 q) (is_code_place es q) k)) rest,
        )

module _ (t : TypedProgram) (keeps : Keeps t.program) (typed : KeepsTyped t) (none : pausing_reports t ≡ []) where
  all_none : (id : MethodId) (m : Method) → method_at t.program id ≡ Some m → method_reports t.program id m (map (listed m) (frames_of t.program m)) ≡ []
  all_none id m at =
      let c = get_some t.program.classes m.owner.0 (ltb-true m.owner.0 (length t.program.classes) (owner_there t.program keeps id m at)) in
      let among = among_classes t.program.classes m.owner.0 c.0 id c.1 (owner_has t.program keeps id m at c.0 c.1) in
      let of_it : reports_of t id ≡ [] = flat_none (reports_of t) (all_methods t.program) id none among in
      let frames : frames_at t id ≡ map (listed m) (frames_of t.program m) =
      ap (λ (fs : List (List Frame)). elim (slice_get fs id.0) [ None ↦ [] | Some gs ↦ gs ]) typed.frames
      ∙ ap (λ (o : Option (List Frame)). elim o [ None ↦ [] | Some gs ↦ gs ]) (map_at (λ (m : Method). map (listed m) (frames_of t.program m)) t.program.methods id.0 m at) in
      let told : method_reports t.program id m (frames_at t id) ≡ [] =
      sym (ap (λ (o : Option Method). elim o [ None ↦ [] | Some m ↦ method_reports t.program id m (frames_at t id) ]) at) ∙ of_it in
      sym (ap (method_reports t.program id m) frames) ∙ told

  -- no pausable method has a free receiver
  pub none_free : (id : MethodId) (m : Method) → method_at t.program id ≡ Some m → has_free_receiver m ≡ false
  none_free id m at =
      report_none (has_free_receiver m) id 0 8 (front_none (report_if (has_free_receiver m) id 0 8) (reports_along t.program id m m.code (map (listed m) (frames_of t.program m))) (all_none id m at))

  reports_none : (id : MethodId) (m : Method) → method_at t.program id ≡ Some m → reports_along t.program id m m.code (map (listed m) (frames_of t.program m)) ≡ []
  reports_none id m at = rest_none (report_if (has_free_receiver m) id 0 8) (reports_along t.program id m m.code (map (listed m) (frames_of t.program m))) (all_none id m at)

  agree : (id : MethodId) (m : Method) → method_at t.program id ≡ Some m → Agree t.program m (typing_of t.program m) m.code (frames_of t.program m)
  unfolding typing_of code_is_whole
  agree id m at =
      let whole = (and_parts (code_stands 0 m.code m.code_length) (targets_stand m.code && code_ends m.code) (all_at code_is_whole t.program.methods id.0 m keeps.code at)).0 in
      same_listed t.program m m.code (whole_code m whole).grows (Some (entry m)) (typing_of t.program m) (λ q later. refl)

  plain : (id : MethodId) (m : Method) → method_at t.program id ≡ Some m → m.pausable ≡ false → CallsNone t.program m.code
  plain id m at is = plain_walk t.program id m (typing_of t.program m) m.code (frames_of t.program m) (agree id m at) is (reports_none id m at)

  shown : (id : MethodId) (m : Method) → method_at t.program id ≡ Some m → has_code m ≡ true → (q : ℕ) → is_code_place m.code q ≡ true → Shows (listed m (typing_of t.program m q)) (typing_of t.program m q)
  unfolding code_is_whole
  shown id m at code q here =
      let whole = (and_parts (code_stands 0 m.code m.code_length) (targets_stand m.code && code_ends m.code) (all_at code_is_whole t.program.methods id.0 m keeps.code at)).0 in
      (listed_frames_show t.program m (typing_of t.program m) (by_place t.program m (whole_code m whole).grows (typed.typed.methods id m at code)) q here).1

  none_across : (id : MethodId) (m : Method) → method_at t.program id ≡ Some m → NoneAcross t.program (typing_of t.program m) m.code
  none_across id m at =
      across_walk t.program id m (typing_of t.program m) (λ q here. shown id m at (some m.code q here) q here) m.code (frames_of t.program m) (agree id m at) (λ q k. k) (reports_none id m at)
    where
      some : (es : List (ℕ × Instr)) (q : ℕ) → is_code_place es q ≡ true → not (is_empty es) ≡ true
      some [] q e = absurd (cc)
      some (x ∷ es) q e = refl

pub kept : PausesAreKept
kept t keeps typed none = record { plain = plain t keeps typed none; across = none_across t keeps typed none }
