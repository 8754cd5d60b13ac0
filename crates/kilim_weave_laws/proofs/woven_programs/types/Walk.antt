-- The walk through the code keeps the test, from the frame of entry and the declared frames on.
use Rattle.std.proofs.Common.{◌≡◌, ℕ, ◌-◌, Bool, true, false, cond, eqb, List, [], ◌∷◌, ◌++◌, Option, Some, None, refl, sym, subst}
use Rattle.std.specs.List.{list_all, flat_map}
use Rattle.std.proofs.lemmas.Bool.{and_parts, and_from}
use Rattle.std.proofs.lemmas.Option.{same_Some}
use Rattle.kilim_program.specs.declared.class.Field.{Field}
use Rattle.kilim_program.specs.declared.class.Method.{Method}
use Rattle.kilim_program.specs.declared.instr.Instr.{Instr}
use Rattle.kilim_program.specs.declared.names.FieldId.{FieldId}
use Rattle.kilim_program.specs.declared.names.MethodId.{MethodId}
use Rattle.kilim_program.specs.declared.ty.Ty.{Ty}
use Rattle.kilim_program.specs.declared.verified.Frame.{Frame}
use Rattle.kilim_program.specs.declared.verified.VType.{VType}
use Rattle.kilim_program.specs.declared.verified.VType.TheVariants.{Top, Int, Long, Null, UninitThis, Uninit, Object}
use Rattle.kilim_program.specs.Keeps.{types_of_frame, types_of_instr, types_of_slot}
use Rattle.kilim_program.specs.Lengths.{ends_path}
use Rattle.kilim_program.specs.Names.{field_of, method_at}
use Rattle.kilim_program.specs.Program.{Program}
use Rattle.kilim_program.specs.Same.{is_constructor}
use Rattle.kilim_type_spec.specs.Step.{Types, class_vtype, result_types, row, text_type, vtype}
use Rattle.kilim_type_spec.specs.Typed.{Here, TypedBy, declared, entry, frame_in, frame_types, goes_on, param_slots, slots_of_type, this_types}
use Rattle.kilim_weave_laws.proofs.woven_types.OldFacts.{all_peek, all_reverse}
use Rattle.kilim_weave_laws.proofs.woven_types.Sane.{all_append}
use Rattle.kilim_weave_laws.proofs.woven_programs.Naming.{all_parts}
use Rattle.kilim_weave_laws.proofs.woven_programs.types.Rows.{Held, held_row, holds, instr_held, vtype_holds}

fresh : ℕ → Bool
fresh q = true

module _ (t : Ty → Bool) (element_of : (ty : Ty) → t ty ≡ true → t (record ty { dims = ty.dims - 1 }) ≡ true) where
  abbrev Has : VType → Bool
  Has = holds t element_of

  abbrev Good : Types → Type 0
  Good = Held t element_of

  -- ---- declared frames

  slots_hold : (ts : List VType) → list_all t (flat_map types_of_slot ts) ≡ true → list_all Has ts ≡ true
  slots_hold [] h = refl
  slots_hold (Object ty ∷ ts) h = let p = and_parts (t ty) _ h in and_from (t ty) _ p.0 (slots_hold ts p.1)
  slots_hold (Top ∷ ts) h = slots_hold ts h
  slots_hold (Int ∷ ts) h = slots_hold ts h
  slots_hold (Long ∷ ts) h = slots_hold ts h
  slots_hold (Null ∷ ts) h = slots_hold ts h
  slots_hold (UninitThis ∷ ts) h = slots_hold ts h
  slots_hold (Uninit q ∷ ts) h = slots_hold ts h

  frame_held : (f : Frame) → list_all t (types_of_frame f) ≡ true → Good (frame_types f)
  frame_held f h =
      let p = all_parts t (flat_map types_of_slot f.locals) (flat_map types_of_slot f.stack) h in
      record { locals = all_peek fresh Has f.locals refl (slots_hold f.locals p.0); stack = all_reverse fresh Has f.stack (slots_hold f.stack p.1) }

  frames_held : (fs : List (ℕ × Frame)) (q : ℕ) (d : Types) → list_all t (flat_map (λ e. types_of_frame e.1) fs) ≡ true → frame_in fs q ≡ Some d → Good d
  frames_held [] q d h e = absurd (cc)
  frames_held (f ∷ fs) q d h e =
      let p = all_parts t (types_of_frame f.1) (flat_map (λ e. types_of_frame e.1) fs) h in
      by (eqb f.0 q) e (frame_held f.1 p.0) (λ r. frames_held fs q d p.1 r)
    where
      by : (b : Bool) → cond b (Some (frame_types f.1)) (frame_in fs q) ≡ Some d → Good (frame_types f.1) → (frame_in fs q ≡ Some d → Good d) → Good d
      by true e one again = subst (λ (z : Types). Good z) (same_Some (frame_types f.1) d e) one
      by false e one again = again e

  -- ---- the frame of entry

  slot_types : (v : VType) (rest : List VType) → Has v ≡ true → list_all Has rest ≡ true → list_all Has (slots_of_type v rest) ≡ true
  slot_types Long rest h r = r
  slot_types Top rest h r = r
  slot_types Int rest h r = r
  slot_types Null rest h r = r
  slot_types UninitThis rest h r = r
  slot_types (Uninit q) rest h r = r
  slot_types (Object ty) rest h r = and_from (t ty) _ h r

  params_hold : (tys : List Ty) → list_all t tys ≡ true → list_all Has (param_slots tys) ≡ true
  params_hold [] h = refl
  params_hold (ty ∷ tys) h = let p = and_parts (t ty) _ h in slot_types (vtype ty) (param_slots tys) (vtype_holds t element_of ty p.0) (params_hold tys p.1)

  module _ (P : Program) (m : Method) (own : Has (class_vtype m.owner) ≡ true) where
    this_holds : list_all Has (this_types m) ≡ true
    this_holds = by m.is_static (is_constructor m)
      where
        by : (b c : Bool) → list_all Has (cond b [] ((cond c UninitThis (class_vtype m.owner)) ∷ [])) ≡ true
        by true c = refl
        by false true = refl
        by false false = and_from (Has (class_vtype m.owner)) true own refl

    pub entry_held : list_all t m.params ≡ true → Good (entry m)
    entry_held h = record { locals = all_peek fresh Has (this_types m ++ param_slots m.params) refl (all_append fresh Has (this_types m) (param_slots m.params) this_holds (params_hold m.params h)); stack = refl }

    -- ---- the walk

    abbrev pub GoodIf : Option Types → Type 0
    GoodIf None = Unit {0}
    GoodIf (Some f) = Good f

    here_held : (was : Option Types) (o : Option Types) (f : Types) → GoodIf was → ((d : Types) → o ≡ Some d → Good d) → Here P was o f → Good f
    here_held None None f s d h = absurd h
    here_held None (Some e) f s d h = subst (λ (z : Types). Good z) (sym h) (d e refl)
    here_held (Some g) None f s d h = subst (λ (z : Types). Good z) (sym h) s
    here_held (Some g) (Some e) f s d h = subst (λ (z : Types). Good z) (sym h.0) (d e refl)

    goes_held : (b : Bool) (g : Types) → Good g → GoodIf (goes_on b g)
    goes_held true g s = tt
    goes_held false g s = s

    abbrev pub AllGood : (ℕ → Types) → List (ℕ × Instr) → Type 0
    AllGood typing [] = Unit {0}
    AllGood typing (e ∷ es) = Good (typing e.0) × AllGood typing es

    module _ (text : Has (text_type P) ≡ true) (fields : (f : FieldId) (field : Field) → field_of P f ≡ Some field → t field.ty ≡ true)
        (results : (id : MethodId) (callee : Method) → method_at P id ≡ Some callee → (list_all Has (result_types callee.result) ≡ true) × (Has (class_vtype callee.owner) ≡ true))
        (frames : list_all t (flat_map (λ e. types_of_frame e.1) m.frames) ≡ true) where
      pub walk_held : (typing : ℕ → Types) (es : List (ℕ × Instr)) (was : Option Types) → list_all t (flat_map (λ e. types_of_instr e.1) es) ≡ true → GoodIf was → TypedBy P m typing was es → AllGood typing es
      walk_held typing [] was h s y = tt
      walk_held typing (e ∷ es) was h s y =
          let p = all_parts t (types_of_instr e.1) (flat_map (λ e. types_of_instr e.1) es) h in
          let here = here_held was (declared m e.0) (typing e.0) s (λ d is. frames_held m.frames e.0 d frames is) y.0 in
          let after = held_row t element_of P m own e.0 (row P m e.1) (typing e.0) y.1 here (instr_held t element_of P m own text fields results e.1 p.0) y.2 in
          (here, walk_held typing es (goes_on (ends_path e.1) y.1) p.1 (goes_held (ends_path e.1) y.1 after) y.4)
