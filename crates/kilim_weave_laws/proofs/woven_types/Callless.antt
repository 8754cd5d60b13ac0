-- A pausable method without pausable calls: its code and frames stay, its entry has the fiber behind the arguments.
use Rattle.kilim_weave_laws.specs.woven_types.Facts.{CallsNone}
use Rattle.std.proofs.Common.{◌≡◌, inl, ℕ, ℤ, Bool, true, false, List, [], ◌∷◌, map, Option, Some, None, Ok, refl, sym, ap, subst, ◌∙◌}
use Rattle.std.proofs.lemmas.Bool.{and_parts, and_from, false≢true}
use Rattle.kilim_program.specs.declared.class.Method.{Method}
use Rattle.kilim_program.specs.declared.instr.Instr.{Instr}
use Rattle.kilim_program.specs.declared.instr.Instr.TheVariants.{Tableswitch, Lookupswitch}
use Rattle.kilim_program.specs.declared.verified.VType.{VType}
use Rattle.kilim_program.specs.declared.verified.VType.TheVariants.{Top, Int, Long, Null, UninitThis, Uninit, Object}
use Rattle.kilim_program.specs.Program.{Program}
use Rattle.kilim_program.specs.Lengths.{jump_targets, ends_path}
use Rattle.kilim_type_spec.specs.Step.{Types, peek, is_top, assignable, type_step}
use Rattle.kilim_type_spec.specs.Typed.{declared, FlowsInto, all_assignable, Jumps, Here, goes_on, Typed, writes}
use Rattle.kilim_weave_spec.specs.Woven.{moved_type, moved_pairs, moved_instr}
use Rattle.kilim_weave_laws.specs.woven_types.Same.{Shared, Programs}
use Rattle.kilim_weave_laws.proofs.woven_types.Locals.{Covers}
use Rattle.kilim_weave_laws.proofs.woven_types.Crux.{plain, twin}
use Rattle.kilim_weave_laws.proofs.woven_types.Old.{old_step}

abbrev here : ℕ → ℕ
here q = q

same_type : (t : VType) → moved_type here t ≡ t
same_type Top = refl
same_type Int = refl
same_type Long = refl
same_type Null = refl
same_type UninitThis = refl
same_type (Uninit q) = refl
same_type (Object ty) = refl

same_types : (ts : List VType) → map (moved_type here) ts ≡ ts
same_types [] = refl
same_types (t ∷ ts) = let a = same_type t in let b = same_types ts in rw (a, b) refl

same_places : (ts : List ℕ) → map here ts ≡ ts
same_places [] = refl
same_places (t ∷ ts) = ap (λ z. t ∷ z) (same_places ts)

same_pairs : (es : List (ℤ × ℕ)) → moved_pairs here es ≡ es
same_pairs [] = refl
same_pairs (e ∷ es) = ap (λ z. e ∷ z) (same_pairs es)

same_instr : (i : Instr) → moved_instr here i ≡ i
same_instr (Tableswitch default low targets) = ap (Tableswitch default low) (same_places targets)
same_instr (Lookupswitch default pairs) = ap (Lookupswitch default) (same_pairs pairs)
same_instr i = refl

abbrev state : List VType → List VType → Types
state cl s = record { locals = cl; stack = s; unset = false }

module _ (P W : Program) (m w : Method) (same : Shared P W m w here) (progs : Programs P W m w) (frames : w.frames ≡ m.frames) (itself : (t : VType) → assignable P t t ≡ true) (set : (q : ℕ) (d : Types) → declared m q ≡ Some d → d.unset ≡ false) where
  abbrev Near : List VType → List VType → Type 0
  Near fl cl = (j : ℕ) → is_top (peek fl j) ≡ false → peek cl j ≡ peek fl j

  covers_of : (fl cl : List VType) → Near fl cl → Covers here (λ j. Unit {0}) fl cl
  covers_of fl cl n j u t = n j t ∙ sym (same_type (peek fl j))

  is_the_top : (t : VType) → is_top t ≡ true → t ≡ Top
  is_the_top Top h = refl
  is_the_top t h = absurd (false≢true h)

  top_from : (a : VType) → assignable P Top a ≡ true → a ≡ Top
  top_from Top h = refl
  top_from a h = absurd (false≢true h)

  slot : (b : Bool) (f c d : VType) → is_top f ≡ b → (b ≡ false → c ≡ f) → assignable P f d ≡ true → assignable W c d ≡ true
  slot true f c d e k h = ap (assignable W c) (top_from d (ap (λ t. assignable P t d) (sym (is_the_top f e)) ∙ h))
  slot false f c d e k h = ap (λ t. assignable W t d) (k refl) ∙ same.assigns f d h

  all_assigned : (ss ds : List VType) → all_assignable P ss ds ≡ true → all_assignable W ss ds ≡ true
  all_assigned [] [] h = refl
  all_assigned [] (d ∷ ds) h = absurd (cc)
  all_assigned (s ∷ ss) [] h = absurd (cc)
  all_assigned (s ∷ ss) (d ∷ ds) h = let p = and_parts (assignable P s d) (all_assignable P ss ds) h in and_from (assignable W s d) (all_assignable W ss ds) (same.assigns s d p.0) (all_assigned ss ds p.1)

  flows : (fl fs cl : List VType) (d : Types) → Near fl cl → FlowsInto P (plain fl fs) d → FlowsInto W (state cl fs) d
  flows fl fs cl d n h = record { locals = λ j. slot (is_top (peek fl j)) (peek fl j) (peek cl j) (peek d.locals j) refl (n j) (h.locals j); stack = all_assigned fs d.stack h.stack; unset = λ e. absurd (false≢true e) }

  jumps : (fl fs cl : List VType) (ts : List ℕ) → Near fl cl → Jumps P m (plain fl fs) ts → Jumps W w (state cl fs) ts
  jumps fl fs cl [] n j = tt
  jumps fl fs cl (t ∷ ts) n j = ((j.0.0, ap (λ z. Rattle.kilim_type_spec.specs.Typed.frame_in z t) frames ∙ j.0.1, flows fl fs cl j.0.0 n j.0.2), jumps fl fs cl ts n j.1)

  -- both flow, and agree where the old frame isn't Top; or neither does
  abbrev pub Alike : Option Types → Option Types → Type 0
  Alike None now = now ≡ None
  Alike (Some f) now = (fl : List VType) × (fs : List VType) × (cl : List VType) × (f ≡ plain fl fs) × (now ≡ Some (state cl fs)) × Near fl cl

  record Arrived (f : Types) (o now : Option Types) : Type 0 where
    fl : List VType
    fs : List VType
    cl : List VType
    old : f ≡ plain fl fs
    new : Here W now o (state cl fs)
    near : Near fl cl

  arrive : (was now o : Option Types) (f : Types) → Here P was o f → Alike was now → ((d : Types) → o ≡ Some d → d.unset ≡ false) → Arrived f o now
  arrive None now None f h a u = absurd h
  arrive None now (Some d) f h a u =
      let e : d ≡ plain d.locals d.stack = ap (λ z. record { locals = d.locals; stack = d.stack; unset = z }) (u d refl) in
      record { fl = d.locals; fs = d.stack; cl = d.locals; old = h ∙ e; new = subst (λ z. Here W z (Some d) (state d.locals d.stack)) (sym a) (sym e); near = λ j t. refl }
  arrive (Some g) now (Some d) f h a u =
      let e : d ≡ plain d.locals d.stack = ap (λ z. record { locals = d.locals; stack = d.stack; unset = z }) (u d refl) in
      record {
        fl = d.locals;
        fs = d.stack;
        cl = d.locals;
        old = h.0 ∙ e;
        new = subst (λ z. Here W z (Some d) (state d.locals d.stack)) (sym a.4) (sym e, flows a.0 a.1 a.2 d a.5 (subst (λ z. FlowsInto P z d) a.3 h.1));
        near = λ j t. refl;
      }
  arrive (Some g) now None f h a u = record { fl = a.0; fs = a.1; cl = a.2; old = h ∙ a.3; new = subst (λ z. Here W z None (state a.2 a.1)) (sym a.4) refl; near = a.5 }

  after : (b : Bool) (g : Types) (fl fs cl : List VType) → g ≡ plain fl fs → Near fl cl → Alike (goes_on b g) (goes_on b (state cl fs))
  after true g fl fs cl e n = refl
  after false g fl fs cl e n = (fl, fs, cl, e, refl, n)

  pub callless : (es : List (ℕ × Instr)) (was now : Option Types) → CallsNone P es → Typed P m was es → Alike was now → Typed W w now es
  callless [] None now n t a = a
  callless [] (Some g) now n t a = absurd (cc)
  callless (e ∷ es) was now n t a =
      let r = arrive was now (declared m e.0) t.0 t.1 a (set e.0) in
      let s = old_step P W m w here same progs (λ j. ⊥) (λ j. Top) (λ j z. absurd z) (λ j z u. absurd z) (λ j. Unit {0}) e.0 e.1 r.fl r.fs r.cl t.2 n.0 (λ j z. tt) (covers_of r.fl r.cl r.near) (λ j z. absurd z) (ap (type_step P m e.0 e.1) (sym r.old) ∙ t.3) in
      let near : Near s.fl' s.cl' = (λ j top. s.covers j (inl tt) top ∙ same_type (peek s.fl' j)) in (
        state r.cl r.fs,
        subst (λ z. Here W now z (state r.cl r.fs)) (sym (ap (λ z. Rattle.kilim_type_spec.specs.Typed.frame_in z e.0) frames)) r.new,
        state s.cl' s.fs',
        ap (λ z. type_step W w e.0 e.1 (state r.cl z)) (sym (same_types r.fs)) ∙ (ap (λ i. type_step W w e.0 i (twin here r.fs r.cl)) (sym (same_instr e.1)) ∙ (s.steps ∙ ap (λ z. Ok (state s.cl' z)) (same_types s.fs'))),
        jumps s.fl' s.fs' s.cl' (jump_targets e.1) near (subst (λ z. Jumps P m z (jump_targets e.1)) s.is t.4),
        callless es (goes_on (ends_path e.1) t.2) (goes_on (ends_path e.1) (state s.cl' s.fs')) n.1 t.5 (after (ends_path e.1) t.2 s.fl' s.fs' s.cl' s.is near),
      )
