-- What well-typed old code gives at each of its places.
use Rattle.std.proofs.Common.{◌≡◌, ◌⊎◌, inl, inr, ℕ, zero, suc, ◌+◌, ◌<◌, ◌≤◌, Bool, true, false, cond, List, [], ◌∷◌, ◌++◌, length, drop, Option, Some, None, refl, sym, ap, subst, ◌∙◌, arith, eq-eqb, ne_eqb, append_assoc}
use Rattle.std.specs.Prelude.{◌&&◌, ◌||◌, not, nat_le, nat_lt, is_some, reverse}
use Rattle.std.specs.List.{list_all, list_any}
use Rattle.std.proofs.lemmas.Bool.{and_parts, and_from, false≢true, leb-true, lt-ltb, not-true}
use Rattle.std.proofs.lemmas.Bool.Decides.{eqb_tells}
use Rattle.std.proofs.lemmas.List.{reverse-append}
use Rattle.kilim_program.specs.declared.class.Field.{Field}
use Rattle.kilim_program.specs.declared.class.Handler.{Handler}
use Rattle.kilim_program.specs.declared.class.Method.{Method}
use Rattle.kilim_program.specs.declared.instr.Instr.{Instr}
use Rattle.kilim_program.specs.declared.instr.Instr.TheVariants.{Aaload, Iload, Lload, Aload, Istore, Lstore, Astore, Iinc, Pop, Pop2, Dup, DupX1, DupX2, Dup2, Dup2X1, Dup2X2, Swap, Ireturn, Lreturn, Areturn, Return, New, Ldc, LdcW, Ldc2W, Getstatic, Getfield, Putfield, Invokevirtual, Invokespecial, Invokestatic, Checkcast}
use Rattle.kilim_program.specs.declared.names.FieldId.{FieldId}
use Rattle.kilim_program.specs.declared.names.MethodId.{MethodId}
use Rattle.kilim_program.specs.declared.ty.Ty.{Ty}
use Rattle.kilim_program.specs.declared.value.Value.{Value}
use Rattle.kilim_program.specs.declared.value.Value.TheVariants as value
use Rattle.kilim_program.specs.declared.verified.Frame.{Frame}
use Rattle.kilim_program.specs.declared.verified.VType.{VType}
use Rattle.kilim_program.specs.declared.verified.VType.TheVariants.{Top, Int, Long, Null, UninitThis, Uninit, Object}
use Rattle.kilim_program.specs.Program.{Program}
use Rattle.kilim_program.specs.Lengths.{ends_path, is_code_place}
use Rattle.kilim_program.specs.Lengths.{first_place, fetched}
use Rattle.kilim_program.specs.Names.{class_named, is_empty, method_at, field_of}
use Rattle.kilim_program.specs.Same.{is_constructor, argument_slots}
use Rattle.kilim_type_spec.specs.Step.{Types, made_by, made_at, peek, is_top, is_long, is_unset, is_unset_this, words, vtype, class_vtype, vtype_of_class, constant_row, long_constant_row, field_row, static_row, virtual_row, special_row, special_by, Row, row}
use Rattle.kilim_type_spec.specs.Typed.{declared, frame_in, frame_types, frame_fits, halves, is_proper, stands_at_new, Here, goes_on, TypedBy, slots_of_type, param_slots, entry, reads, writes, edges, Among, Live, Catches, ReadsIt, GoesOn, IsLive, handlers_at}
use Rattle.kilim_weave_spec.specs.Woven.{Plan, pausable_callee, below}
use Rattle.kilim_weave_laws.specs.woven_types.Facts.{LawsAt, Facts, is_reference, is_savable, is_local_savable}
use Rattle.kilim_weave_laws.specs.woven_types.Theorem.{Checked, AllChecked, AllNoneUnset}
use Rattle.kilim_weave_laws.proofs.woven_types.Pieces.{call_straight}
use Rattle.kilim_weave_laws.proofs.woven_types.Prologue.{entry_length}
use Rattle.kilim_weave_laws.proofs.woven_types.Old.{firm_row}
use Rattle.kilim_weave_laws.proofs.woven_types.Sane.{Sane, SaneRow, All, sane, sane_item, sane_vtype, sane_results, sane_row, FreshRow}
use Rattle.kilim_weave_laws.proofs.woven_types.Nothing.{none_is}

-- places grow
abbrev pub GrowsTo : ℕ → List (ℕ × Instr) → Type 0
GrowsTo end [] = Unit {0}
GrowsTo end (e ∷ es) = (e.0 < first_place es end) × GrowsTo end es

module _ (fresh : ℕ → Bool) where
  -- ---- rows give sane types

  module _ (P : Program) (m : Method) where
    text_sane : (o : _) → (sane_item fresh) (vtype_of_class o) ≡ true
    text_sane None = refl
    text_sane (Some c) = refl

    constant_sane : (v : Value) → SaneRow fresh (constant_row P v)
    constant_sane (value.Text units) = and_from ((sane_item fresh) (vtype_of_class (class_named P _))) true (text_sane (class_named P _)) refl
    constant_sane (value.Int n) = refl
    constant_sane (value.Long n) = refl
    constant_sane value.Null = refl
    constant_sane (value.Ref n) = refl
    constant_sane (value.Box n) = refl
    constant_sane value.Fiber = refl

    long_sane : (v : Value) → SaneRow fresh (long_constant_row v)
    long_sane (value.Text units) = refl
    long_sane (value.Int n) = refl
    long_sane (value.Long n) = refl
    long_sane value.Null = refl
    long_sane (value.Ref n) = refl
    long_sane (value.Box n) = refl
    long_sane value.Fiber = refl

    getstatic_sane : (f : FieldId) (o : Option Field) → SaneRow fresh (field_row (Getstatic f) m o)
    getstatic_sane f None = refl
    getstatic_sane f (Some field) = and_from ((sane_item fresh) (vtype field.ty)) true (sane_vtype fresh field.ty) refl

    getfield_sane : (f : FieldId) (o : Option Field) → SaneRow fresh (field_row (Getfield f) m o)
    getfield_sane f None = refl
    getfield_sane f (Some field) = and_from ((sane_item fresh) (vtype field.ty)) true (sane_vtype fresh field.ty) refl

    putfield_sane : (f : FieldId) (o : Option Field) → SaneRow fresh (field_row (Putfield f) m o)
    putfield_sane f None = refl
    putfield_sane f (Some field) = refl

    static_sane : (o : Option Method) → SaneRow fresh (static_row m o)
    static_sane None = refl
    static_sane (Some callee) = sane_results fresh callee.result

    virtual_sane : (o : Option Method) → SaneRow fresh (virtual_row m o)
    virtual_sane None = refl
    virtual_sane (Some callee) = sane_results fresh callee.result

    special_by_sane : (b : Bool) (id : MethodId) (callee : Method) → SaneRow fresh (special_by b P m id callee)
    special_by_sane true id callee = sane_results fresh callee.result
    special_by_sane false id callee = sane_results fresh callee.result

    special_sane : (id : MethodId) (o : Option Method) → SaneRow fresh (special_row P m id o)
    special_sane id None = refl
    special_sane id (Some callee) = special_by_sane (is_constructor callee) id callee

    instr_sane : (i : Instr) → Checked i → SaneRow fresh (row P m i)
    unfolding row
    instr_sane (Ldc v) c = constant_sane v
    instr_sane (LdcW v) c = constant_sane v
    instr_sane (Ldc2W v) c = long_sane v
    instr_sane (Getstatic f) c = getstatic_sane f (field_of P f)
    instr_sane (Getfield f) c = getfield_sane f (field_of P f)
    instr_sane (Putfield f) c = putfield_sane f (field_of P f)
    instr_sane (Invokestatic id) c = static_sane (method_at P id)
    instr_sane (Invokevirtual id) c = virtual_sane (method_at P id)
    instr_sane (Invokespecial id) c = special_sane id (method_at P id)
    instr_sane (Checkcast ty) c = let e = c in rw e refl
    instr_sane Aaload c = tt
    instr_sane (Iload n) c = tt
    instr_sane (Lload n) c = tt
    instr_sane (Aload n) c = tt
    instr_sane (Istore n) c = tt
    instr_sane (Lstore n) c = tt
    instr_sane (Astore n) c = tt
    instr_sane (Iinc n by) c = tt
    instr_sane Pop c = tt
    instr_sane Pop2 c = tt
    instr_sane Dup c = tt
    instr_sane DupX1 c = tt
    instr_sane DupX2 c = tt
    instr_sane Dup2 c = tt
    instr_sane Dup2X1 c = tt
    instr_sane Dup2X2 c = tt
    instr_sane Swap c = tt
    instr_sane Ireturn c = tt
    instr_sane Lreturn c = tt
    instr_sane Areturn c = tt
    instr_sane Return c = tt
    instr_sane (New k) c = tt
    instr_sane i c = refl

  -- ---- lists of sane types

  pub all_peek : (p : VType → Bool) (ls : List VType) → p Top ≡ true → list_all p ls ≡ true → All fresh p ls
  all_peek p [] top h zero = top
  all_peek p [] top h (suc k) = top
  all_peek p (t ∷ ts) top h zero = (and_parts (p t) (list_all p ts) h).0
  all_peek p (t ∷ ts) top h (suc k) = all_peek p ts top (and_parts (p t) (list_all p ts) h).1 k

  or_false : (a b : Bool) → (a || b) ≡ false → (a ≡ false) × (b ≡ false)
  or_false true b h = absurd (cc)
  or_false false b h = (refl, h)

  any_append : (p : VType → Bool) (a b : List VType) → list_any p (a ++ b) ≡ false → (list_any p a ≡ false) × (list_any p b ≡ false)
  any_append p [] b h = (refl, h)
  any_append p (t ∷ a) b h = let x = or_false (p t) (list_any p (a ++ b)) h in let r = any_append p a b x.1 in (let y = x.0 in let z = r.0 in rw (y, z) refl, r.1)

  all_split : (p : VType → Bool) (a b : List VType) → list_all p (a ++ b) ≡ true → (list_all p a ≡ true) × (list_all p b ≡ true)
  all_split p [] b h = (refl, h)
  all_split p (t ∷ a) b h = let x = and_parts (p t) (list_all p (a ++ b)) h in let r = all_split p a b x.1 in (and_from (p t) (list_all p a) x.0 r.0, r.1)

  all_join : (p : VType → Bool) (a b : List VType) → list_all p a ≡ true → list_all p b ≡ true → list_all p (a ++ b) ≡ true
  all_join p [] b h k = k
  all_join p (t ∷ a) b h k = let x = and_parts (p t) (list_all p a) h in and_from (p t) (list_all p (a ++ b)) x.0 (all_join p a b x.1 k)

  pub all_reverse : (p : VType → Bool) (a : List VType) → list_all p a ≡ true → list_all p (reverse a) ≡ true
  all_reverse p [] h = refl
  all_reverse p (t ∷ a) h = let x = and_parts (p t) (list_all p a) h in ap (list_all p) (reverse-append (t ∷ []) a) ∙ all_join p (reverse a) (t ∷ []) (all_reverse p a x.1) (and_from (p t) true x.0 refl)

  words_append : (a b : List VType) → words (a ++ b) ≡ words a + words b
  words_append [] b = omega arith
  words_append (t ∷ a) b = let h = words_append a b in omega (arith, h)

  words_reverse : (a : List VType) → words (reverse a) ≡ words a
  words_reverse [] = refl
  words_reverse (t ∷ a) = let e = ap words (reverse-append (t ∷ []) a) in let b = words_append (reverse a) (t ∷ []) in let h = words_reverse a in omega (arith, e, b, h)

  is_fresh : VType → Bool
  is_fresh (Uninit q) = fresh q
  is_fresh t = true

  sane_of : (t : VType) → is_fresh t ≡ true → is_proper t ≡ true → is_unset_this t ≡ false → (sane fresh) t ≡ true
  unfolding is_fresh
  sane_of UninitThis r p u = absurd (cc)
  sane_of (Object ty) r p u = p
  sane_of Top r p u = refl
  sane_of Int r p u = refl
  sane_of Long r p u = refl
  sane_of Null r p u = refl
  sane_of (Uninit q) r p u = r

  all_sane : (ls : List VType) → list_all is_fresh ls ≡ true → list_all is_proper ls ≡ true → list_any is_unset_this ls ≡ false → list_all (sane fresh) ls ≡ true
  all_sane [] r p u = refl
  all_sane (t ∷ ts) r p u = let w = and_parts (is_fresh t) (list_all is_fresh ts) r in let x = and_parts (is_proper t) (list_all is_proper ts) p in let y = or_false (is_unset_this t) (list_any is_unset_this ts) u in and_from ((sane fresh) t) (list_all (sane fresh) ts) (sane_of t w.0 x.0 y.0) (all_sane ts w.1 x.1 y.1)

  all_items : (ls : List VType) → list_all (sane fresh) ls ≡ true → list_any is_top ls ≡ false → list_all (sane_item fresh) ls ≡ true
  all_items [] h n = refl
  all_items (t ∷ ts) h n = let x = and_parts ((sane fresh) t) (list_all (sane fresh) ts) h in let y = or_false (is_top t) (list_any is_top ts) n in and_from ((sane_item fresh) t) (list_all (sane_item fresh) ts) (and_from ((sane fresh) t) (not (is_top t)) x.0 (ap (λ b. not b) y.0)) (all_items ts x.1 y.1)

  -- halves, as a property of each slot
  halves_at : (most n : ℕ) (ls : List VType) → halves ls ≡ true → n + length ls ≤ most → (k : ℕ) → is_long (peek ls k) ≡ true → (is_top (peek ls (suc k)) ≡ true) × (n + suc (suc k) ≤ most)
  halves_at most n [] h w zero l = absurd (cc)
  halves_at most n [] h w (suc k) l = absurd (cc)
  halves_at most n (t ∷ []) h w zero l = absurd (let x = (and_parts (not (is_long t) || false) true h).0 in let y = l in from (is_long t) y x)
    where
      from : (b : Bool) → b ≡ true → (not b || false) ≡ true → ⊥
      from true e x = false≢true x
      from false e x = false≢true e
  halves_at most n (t ∷ u ∷ ts) h w zero l = (first (is_long t) l (and_parts (not (is_long t) || (nat_lt 0 (length (u ∷ ts)) && is_top u)) (halves (u ∷ ts)) h).0, omega (arith, w))
    where
      first : (b : Bool) → b ≡ true → (not b || (nat_lt 0 (length (u ∷ ts)) && is_top u)) ≡ true → is_top u ≡ true
      first true e x = (and_parts (nat_lt 0 (length (u ∷ ts))) (is_top u) x).1
      first false e x = absurd (false≢true e)
  halves_at most n (t ∷ ts) h w (suc k) l = let r = halves_at most (suc n) ts (and_parts (not (is_long t) || (nat_lt 0 (length ts) && is_top (peek ts 0))) (halves ts) h).1 (omega (arith, w)) k l in (r.0, let y = r.1 in omega (arith, y))

  module _ (P : Program) (m : Method) (is_plain : is_constructor m ≡ false) (at_new : (q : ℕ) → is_some (made_at m.code q) ≡ fresh q) where
    fresh_of : (t : VType) → stands_at_new m t ≡ true → is_fresh t ≡ true
    unfolding is_fresh
    fresh_of (Uninit q) h = sym (at_new q) ∙ h
    fresh_of Top h = refl
    fresh_of Int h = refl
    fresh_of Long h = refl
    fresh_of Null h = refl
    fresh_of UninitThis h = refl
    fresh_of (Object ty) h = refl

    all_fresh : (ts : List VType) → list_all (stands_at_new m) ts ≡ true → list_all is_fresh ts ≡ true
    all_fresh [] h = refl
    all_fresh (t ∷ ts) h = let x = and_parts (stands_at_new m t) (list_all (stands_at_new m) ts) h in and_from (is_fresh t) (list_all is_fresh ts) (fresh_of t x.0) (all_fresh ts x.1)

    -- ---- declared frames

    or_right : (a b : Bool) → a ≡ false → (a || b) ≡ true → b ≡ true
    or_right true b e h = absurd (cc)
    or_right false b e h = h

    frame_sane : (e : ℕ × Frame) → frame_fits m e ≡ true → Sane fresh m (frame_types e.1)
    frame_sane e h =
        let ls = e.1.locals in
        let s = e.1.stack in
        let p1 = and_parts (is_code_place m.code e.0) _ h in
        let p2 = and_parts (nat_le (length ls) m.max_locals) _ p1.1 in
        let p3 = and_parts (nat_le (words s) m.max_stack) _ p2.1 in
        let p4 = and_parts (not (list_any is_top s)) _ p3.1 in
        let p5 = and_parts (list_all (stands_at_new m) (ls ++ s)) _ p4.1 in
        let p6 = and_parts (halves ls) _ p5.1 in
        let new = all_split is_fresh ls s (all_fresh (ls ++ s) p5.0) in
        let p7 = and_parts (list_all is_proper (ls ++ s)) _ p6.1 in
        let none = not-true (list_any is_unset_this (ls ++ s)) (or_right (is_constructor m) _ is_plain p7.1) in
        let parts = any_append is_unset_this ls s none in
        let proper = all_split is_proper ls s p7.0 in
        let within = leb-true (length ls) m.max_locals p2.0 in
        let room = leb-true (words s) m.max_stack p3.0 in
        let same_words = words_reverse s in
        record {
          room = omega (arith, room, same_words);
          within = within;
          set = parts.0;
          locals = all_peek (sane fresh) ls refl (all_sane ls new.0 proper.0 parts.0);
          stack = all_reverse (sane_item fresh) s (all_items s (all_sane s new.1 proper.1 parts.1) (not-true (list_any is_top s) p4.0));
          halves = λ k l. let r = halves_at m.max_locals 0 ls p6.0 (omega (arith, within)) k l in (r.0, let y = r.1 in omega (arith, y));
        }

    frames_sane : (fs : List (ℕ × Frame)) (t : ℕ) (d : Types) → list_all (frame_fits m) fs ≡ true → frame_in fs t ≡ Some d → Sane fresh m d
    frames_sane [] t d h e = absurd (cc)
    frames_sane (f ∷ fs) t d h e =
        let p = and_parts (frame_fits m f) (list_all (frame_fits m) fs) h in
        elim (eqb_tells f.0 t) [
          | inl y ↦ subst (λ z. Sane fresh m z) (some_same (frame_types f.1) d (let n = y.0 in rw n at e)) (frame_sane f p.0)
          | inr y ↦ frames_sane fs t d p.1 (let n = y.0 in rw n at e)
        ]
      where
        from : Types → Option Types → Types
        from a None = a
        from a (Some z) = z

        some_same : (a b : Types) → ◌≡◌ {A = Option Types} (Some a) (Some b) → a ≡ b
        some_same a b e = ap (from a) e

    -- ---- the walk

    abbrev pub SaneIf : Option Types → Type 0
    SaneIf None = Unit {0}
    SaneIf (Some f) = Sane fresh m f

    here_sane : (was : Option Types) (o : Option Types) (f : Types) → SaneIf was → ((d : Types) → o ≡ Some d → Sane fresh m d) → Here P was o f → Sane fresh m f
    here_sane None None f s d h = absurd h
    here_sane None (Some e) f s d h = subst (λ z. Sane fresh m z) (sym h) (d e refl)
    here_sane (Some g) None f s d h = subst (λ z. Sane fresh m z) (sym h) s
    here_sane (Some g) (Some e) f s d h = subst (λ z. Sane fresh m z) (sym h.0) (d e refl)

    abbrev pub AllSane : (ℕ → Types) → List (ℕ × Instr) → Type 0
    AllSane typing [] = Unit {0}
    AllSane typing (e ∷ es) = Sane fresh m (typing e.0) × AllSane typing es

    goes_sane : (b : Bool) (g : Types) → Sane fresh m g → SaneIf (goes_on b g)
    goes_sane true g s = tt
    goes_sane false g s = s

    -- a `new` stands where it is looked for
    abbrev pub AllNew : List (ℕ × Instr) → Type 0
    AllNew [] = Unit {0}
    AllNew (e ∷ es) = ((c : _) → made_by e.1 ≡ Some c → fresh e.0 ≡ true) × AllNew es

    Fresh : ℕ → Row → Type 0
    Fresh q r = FreshRow fresh P m is_plain q r

    constant_fresh : (q : ℕ) (v : Value) → Fresh q (constant_row P v)
    unfolding Fresh
    constant_fresh q (value.Text units) = tt
    constant_fresh q (value.Int n) = tt
    constant_fresh q (value.Long n) = tt
    constant_fresh q value.Null = tt
    constant_fresh q (value.Ref n) = tt
    constant_fresh q (value.Box n) = tt
    constant_fresh q value.Fiber = tt

    long_fresh : (q : ℕ) (v : Value) → Fresh q (long_constant_row v)
    unfolding Fresh
    long_fresh q (value.Text units) = tt
    long_fresh q (value.Int n) = tt
    long_fresh q (value.Long n) = tt
    long_fresh q value.Null = tt
    long_fresh q (value.Ref n) = tt
    long_fresh q (value.Box n) = tt
    long_fresh q value.Fiber = tt

    getstatic_fresh : (q : ℕ) (f : FieldId) (o : Option Field) → Fresh q (field_row (Getstatic f) m o)
    unfolding Fresh
    getstatic_fresh q f None = tt
    getstatic_fresh q f (Some field) = tt

    getfield_fresh : (q : ℕ) (f : FieldId) (o : Option Field) → Fresh q (field_row (Getfield f) m o)
    unfolding Fresh
    getfield_fresh q f None = tt
    getfield_fresh q f (Some field) = tt

    putfield_fresh : (q : ℕ) (f : FieldId) (o : Option Field) → Fresh q (field_row (Putfield f) m o)
    unfolding Fresh
    putfield_fresh q f None = tt
    putfield_fresh q f (Some field) = tt

    static_fresh : (q : ℕ) (o : Option Method) → Fresh q (static_row m o)
    unfolding Fresh
    static_fresh q None = tt
    static_fresh q (Some callee) = tt

    virtual_fresh : (q : ℕ) (o : Option Method) → Fresh q (virtual_row m o)
    unfolding Fresh
    virtual_fresh q None = tt
    virtual_fresh q (Some callee) = tt

    special_by_fresh : (q : ℕ) (b : Bool) (id : MethodId) (callee : Method) → Fresh q (special_by b P m id callee)
    unfolding Fresh
    special_by_fresh q true id callee = tt
    special_by_fresh q false id callee = tt

    special_fresh : (q : ℕ) (id : MethodId) (o : Option Method) → Fresh q (special_row P m id o)
    unfolding Fresh
    special_fresh q id None = tt
    special_fresh q id (Some callee) = special_by_fresh q (is_constructor callee) id callee

    fresh_row : (q : ℕ) (i : Instr) → ((c : _) → made_by i ≡ Some c → fresh q ≡ true) → Fresh q (row P m i)
    unfolding row Fresh
    fresh_row q (New c) h = h c refl
    fresh_row q (Ldc v) h = constant_fresh q v
    fresh_row q (LdcW v) h = constant_fresh q v
    fresh_row q (Ldc2W v) h = long_fresh q v
    fresh_row q (Getstatic f) h = getstatic_fresh q f (field_of P f)
    fresh_row q (Getfield f) h = getfield_fresh q f (field_of P f)
    fresh_row q (Putfield f) h = putfield_fresh q f (field_of P f)
    fresh_row q (Invokestatic id) h = static_fresh q (method_at P id)
    fresh_row q (Invokevirtual id) h = virtual_fresh q (method_at P id)
    fresh_row q (Invokespecial id) h = special_fresh q id (method_at P id)
    fresh_row q i h = tt

    pub walk_sane : (typing : ℕ → Types) (es : List (ℕ × Instr)) (was : Option Types) → list_all (frame_fits m) m.frames ≡ true → AllChecked es → AllNew es → SaneIf was → TypedBy P m typing was es → AllSane typing es
    unfolding Fresh
    walk_sane typing [] was fits c n s t = tt
    walk_sane typing (e ∷ es) was fits c n s t =
        let here = here_sane was (declared m e.0) (typing e.0) s (λ d h. frames_sane m.frames e.0 d fits h) t.0 in
        let after = sane_row fresh P m is_plain e.0 (row P m e.1) (typing e.0) t.1 here (instr_sane P m e.1 c.0) (firm_row P m e.1) (fresh_row e.0 e.1 n.0) t.2 in
        (here, walk_sane typing es (goes_on (ends_path e.1) t.1) fits c.1 n.1 (goes_sane (ends_path e.1) t.1 after) t.4)

  -- ---- the entry

  slots_sane : (t : VType) (rest : List VType) → (sane fresh) t ≡ true → list_all (sane fresh) rest ≡ true → list_all (sane fresh) (slots_of_type t rest) ≡ true
  slots_sane Long rest h r = r
  slots_sane Top rest h r = r
  slots_sane Int rest h r = r
  slots_sane Null rest h r = r
  slots_sane UninitThis rest h r = absurd (cc)
  slots_sane (Uninit q) rest h r = and_from (fresh q) (list_all (sane fresh) rest) h r
  slots_sane (Object ty) rest h r = and_from ((sane fresh) (Object ty)) (list_all (sane fresh) rest) h r

  params_sane : (tys : List Ty) → list_all (sane fresh) (param_slots tys) ≡ true
  params_sane [] = refl
  params_sane (ty ∷ tys) = slots_sane (vtype ty) (param_slots tys) (and_parts ((sane fresh) (vtype ty)) (not (is_top (vtype ty))) (sane_vtype fresh ty)).0 (params_sane tys)

  slots_halves : (t : VType) (rest : List VType) → halves rest ≡ true → halves (slots_of_type t rest) ≡ true
  slots_halves Long rest h = let e = lt-ltb 0 (suc (length rest)) (omega arith) in rw e h
  slots_halves Top rest h = h
  slots_halves Int rest h = h
  slots_halves Null rest h = h
  slots_halves UninitThis rest h = h
  slots_halves (Uninit q) rest h = h
  slots_halves (Object ty) rest h = h

  params_halves : (tys : List Ty) → halves (param_slots tys) ≡ true
  params_halves [] = refl
  params_halves (ty ∷ tys) = slots_halves (vtype ty) (param_slots tys) (params_halves tys)

  this_by : (m : Method) (b c : Bool) → c ≡ false → (list_all (sane fresh) ((cond b [] ((cond c UninitThis (class_vtype m.owner)) ∷ [])) ++ param_slots m.params) ≡ true) × (halves ((cond b [] ((cond c UninitThis (class_vtype m.owner)) ∷ [])) ++ param_slots m.params) ≡ true)
  this_by m true c e = (params_sane m.params, params_halves m.params)
  this_by m false true e = absurd (cc)
  this_by m false false e = (params_sane m.params, params_halves m.params)

  no_mark : (b c : Bool) → c ≡ false → (not b && c) ≡ false
  no_mark true c e = refl
  no_mark false c e = e

  pub entry_sane : (m : Method) → is_constructor m ≡ false → nat_le (argument_slots m) m.max_locals ≡ true → Sane fresh m (entry m)
  entry_sane m p h =
      let t = this_by m m.is_static (is_constructor m) p in
      let l = entry_length m in
      let few = leb-true (argument_slots m) m.max_locals h in
      record {
        room = omega arith;
        within = omega (arith, l, few);
        set = no_mark m.is_static (is_constructor m) p;
        locals = all_peek (sane fresh) (entry m).locals refl t.0;
        stack = refl;
        halves = λ k y. let r = halves_at m.max_locals 0 (entry m).locals t.1 (omega (arith, l, few)) k y in (r.0, let z = r.1 in omega (arith, z));
      }

  -- ---- the laws of live slots

  found_instr : Instr → Option (Instr × ℕ) → Instr
  found_instr i None = i
  found_instr i (Some f) = f.0

  found_next : ℕ → Option (Instr × ℕ) → ℕ
  found_next n None = n
  found_next n (Some f) = f.1

  no_handlers : (hs : List Handler) (p q : ℕ) → is_empty hs ≡ true → Among (handlers_at hs p) q → ⊥
  no_handlers [] p q none a = a
  no_handlers (h ∷ hs) p q none a = cc

  invert_live : (x : Plan) → is_empty x.method.handlers ≡ true → (p to k : ℕ) (i : Instr) (callee : Method) → fetched x.method.code x.method.code_length p ≡ Some (i, to) → pausable_callee x.program i ≡ Some callee → Live x.method k p → Live x.method k to
  unfolding found_instr found_next
  invert_live x none p to k i callee here call (ReadsIt p2 to' i' f r) =
      let same : i' ≡ i = ap (found_instr i) (sym f ∙ here) in
      absurd (let y = call_reads x i callee k call in let z = ap (λ j. reads j k) same in cc)
    where
      call_reads : (x : Plan) (i : Instr) (callee : Method) (k : ℕ) → pausable_callee x.program i ≡ Some callee → reads i k ≡ false
      call_reads x (Invokevirtual id) callee k e = refl
      call_reads x (Invokespecial id) callee k e = refl
      call_reads x (Invokestatic id) callee k e = refl
      call_reads x i callee k e = absurd (none_is callee e)
  invert_live x none p to k i callee here call (Catches p2 to' q i' f a l) = absurd (no_handlers x.method.handlers p q none a)
  invert_live x none p to k i callee here call (GoesOn p2 to' q i' f n a l) =
      let same : i' ≡ i = ap (found_instr i) (sym f ∙ here) in
      let next : to' ≡ to = ap (found_next to) (sym f ∙ here) in
      subst (λ z. Live x.method k z) (sym (only to q (subst (λ ts. Among ts q) (straight x i callee to call) (subst (λ z. Among (edges i z) q) next (subst (λ j. Among (edges j to') q) same a))))) l
    where
      straight : (x : Plan) (i : Instr) (callee : Method) (to : ℕ) → pausable_callee x.program i ≡ Some callee → edges i to ≡ to ∷ []
      straight x i callee to e = (call_straight x i callee e).edges_are to

      only : (to q : ℕ) → Among (to ∷ []) q → to ≡ q
      only to q (inl e) = e
      only to q (inr b) = absurd b

  -- ---- all facts

  any_peek : (p : VType → Bool) (ls : List VType) (k : ℕ) → p Top ≡ false → list_any p ls ≡ false → p (peek ls k) ≡ false
  any_peek p [] zero top h = top
  any_peek p [] (suc k) top h = top
  any_peek p (t ∷ ts) zero top h = (or_false (p t) (list_any p ts) h).0
  any_peek p (t ∷ ts) (suc k) top h = any_peek p ts k top (or_false (p t) (list_any p ts) h).1

  savable_of : (t : VType) → (sane_item fresh) t ≡ true → is_unset t ≡ false → is_savable t ≡ true
  savable_of Int s u = refl
  savable_of Long s u = refl
  savable_of Null s u = refl
  savable_of (Object ty) s u = (and_parts (is_reference (Object ty)) true s).0
  savable_of Top s u = absurd (cc)
  savable_of UninitThis s u = absurd (cc)
  savable_of (Uninit q) s u = absurd (cc)

  local_savable_of : (t : VType) → (sane fresh) t ≡ true → is_unset t ≡ false → is_local_savable t ≡ true
  local_savable_of Int s u = refl
  local_savable_of Long s u = refl
  local_savable_of Null s u = refl
  local_savable_of Top s u = refl
  local_savable_of (Object ty) s u = s
  local_savable_of UninitThis s u = absurd (cc)
  local_savable_of (Uninit q) s u = absurd (cc)

  savables : (ts : List VType) → list_all (sane_item fresh) ts ≡ true → list_any is_unset ts ≡ false → list_all is_savable ts ≡ true
  savables [] s u = refl
  savables (t ∷ ts) s u =
      let a = and_parts ((sane_item fresh) t) (list_all (sane_item fresh) ts) s in
      let b = or_false (is_unset t) (list_any is_unset ts) u in
      and_from (is_savable t) (list_all is_savable ts) (savable_of t a.0 b.0) (savables ts a.1 b.1)

  drop_sane : (n : ℕ) (ts : List VType) → list_all (sane_item fresh) ts ≡ true → list_all (sane_item fresh) (drop n ts) ≡ true
  drop_sane zero ts h = h
  drop_sane (suc n) [] h = refl
  drop_sane (suc n) (t ∷ ts) h = drop_sane n ts (and_parts ((sane_item fresh) t) (list_all (sane_item fresh) ts) h).1

  unset_this_less : (ts : List VType) → All fresh (sane fresh) ts → list_any is_unset_this ts ≡ false
  unset_this_less [] h = refl
  unset_this_less (t ∷ ts) h = let a = no_this t (h 0) in let b = unset_this_less ts (λ k. h (suc k)) in rw (a, b) refl
    where
      no_this : (t : VType) → (sane fresh) t ≡ true → is_unset_this t ≡ false
      no_this UninitThis s = absurd (cc)
      no_this Top s = refl
      no_this Int s = refl
      no_this Long s = refl
      no_this Null s = refl
      no_this (Uninit q) s = refl
      no_this (Object ty) s = refl

  laws_at : (x : Plan) → is_empty x.method.handlers ≡ true → (p to : ℕ) (i : Instr) → fetched x.method.code x.method.code_length p ≡ Some (i, to) → IsLive x.method x.live → LawsAt x.live x.program p to i
  laws_at x none p to i here live = record {
    read = λ k r. (live p k).1 (ReadsIt p to i here r);
    flow = λ q k a l. flows (writes i k) q k refl a l;
    kept = λ callee n k l. (live to k).1 (invert_live x none p to k i callee here n ((live p k).0 l));
  }
    where
      flows : (b : Bool) (q k : ℕ) → writes i k ≡ b → Among (edges i to) q → x.live q k ≡ true → (x.live p k ≡ true) ⊎ (writes i k ≡ true)
      flows true q k w a l = inr w
      flows false q k w a l = inl ((live p k).1 (GoesOn p to q i here w a ((live q k).0 l)))

  LowerThan : ℕ → List (ℕ × Instr) → Type 0
  LowerThan q [] = Unit {0}
  LowerThan q (e ∷ es) = (e.0 < q) × LowerThan q es

  lower_more : (q r : ℕ) (es : List (ℕ × Instr)) → q ≤ r → LowerThan q es → LowerThan r es
  unfolding LowerThan
  lower_more q r [] h l = tt
  lower_more q r (e ∷ es) h l = (let y = l.0 in omega (arith, y, h), lower_more q r es h l.1)

  lower_join : (q : ℕ) (a : List (ℕ × Instr)) (e : ℕ × Instr) → LowerThan q a → e.0 < q → LowerThan q (a ++ (e ∷ []))
  unfolding LowerThan
  lower_join q [] e l h = (h, tt)
  lower_join q (c ∷ a) e l h = (l.0, lower_join q a e l.1 h)

  fetched_past : (pre es : List (ℕ × Instr)) (e : ℕ × Instr) (end : ℕ) → LowerThan e.0 pre → fetched (pre ++ (e ∷ es)) end e.0 ≡ Some (e.1, first_place es end)
  unfolding LowerThan
  fetched_past [] es e end l = let h = eq-eqb e.0 e.0 refl in rw h refl
  fetched_past (c ∷ pre) es e end l = let y = l.0 in let h = ne_eqb c.0 e.0 (λ z. omega (arith, z, y)) in let r = fetched_past pre es e end l.1 in rw h r

  facts_from : (x : Plan) → is_empty x.method.handlers ≡ true → (pre es : List (ℕ × Instr)) → x.method.code ≡ pre ++ es → LowerThan (first_place es x.method.code_length) pre → GrowsTo x.method.code_length es → IsLive x.method x.live → (plain : is_constructor x.method ≡ false) (at_new : (q : ℕ) → is_some (made_at x.method.code q) ≡ fresh q) →
      AllSane x.program x.method plain at_new x.typing es → AllNoneUnset x es → Facts x es
  unfolding LowerThan
  facts_from x none pre [] code lower grows live plain at_new s n = tt
  facts_from x none pre (e ∷ es) code lower grows live plain at_new s n =
      let end = x.method.code_length in
      let to = first_place es end in
      let here : fetched x.method.code end e.0 ≡ Some (e.1, to) = ap (λ c. fetched c end e.0) code ∙ fetched_past pre es e end lower in
      let a = s.0 in (
        record {
          laws = laws_at x none e.0 to e.1 here live;
          room = a.room;
          within = a.within;
          set = a.set;
          no_this = unset_this_less (x.typing e.0).locals a.locals;
          savable = λ callee c. let u = n.0 callee c in record {
            stack = savables (below x callee e.0) (drop_sane _ (x.typing e.0).stack a.stack) u.stack;
            locals = λ k. local_savable_of (peek (x.typing e.0).locals k) (a.locals k) (any_peek is_unset (x.typing e.0).locals k refl u.locals);
            halves = a.halves;
          };
        },
        facts_from x none (pre ++ (e ∷ [])) es (code ∙ sym (append_assoc pre (e ∷ []) es)) (lower_join to pre e (lower_more e.0 to pre (let y = grows.0 in omega (arith, y)) lower) grows.0) grows.1 live plain at_new s.1 n.1,
      )

  -- the frames of a method that is well typed, and its facts, without that on pauses
  pub all_frames : (x : Plan) (plain : is_constructor x.method ≡ false) (at_new : (q : ℕ) → is_some (made_at x.method.code q) ≡ fresh q) → list_all (frame_fits x.method) x.method.frames ≡ true → nat_le (argument_slots x.method) x.method.max_locals ≡ true → TypedBy x.program x.method x.typing (Some (entry x.method)) x.method.code →
      AllChecked x.method.code → AllNew x.program x.method plain at_new x.method.code → AllSane x.program x.method plain at_new x.typing x.method.code
  all_frames x plain at_new fits args walk checked new =
      walk_sane x.program x.method plain at_new x.typing x.method.code (Some (entry x.method)) fits checked new (entry_sane x.method plain args) walk

  pub all_facts : (x : Plan) → is_empty x.method.handlers ≡ true → (plain : is_constructor x.method ≡ false) (at_new : (q : ℕ) → is_some (made_at x.method.code q) ≡ fresh q) → AllSane x.program x.method plain at_new x.typing x.method.code →
      IsLive x.method x.live → GrowsTo x.method.code_length x.method.code → AllNoneUnset x x.method.code → Facts x x.method.code
  unfolding LowerThan
  all_facts x none plain at_new s live grows n = facts_from x none [] x.method.code refl tt grows live plain at_new s n
