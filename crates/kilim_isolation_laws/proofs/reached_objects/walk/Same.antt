-- Types that agree are the same to the isolation rules.
use Rattle.std.proofs.Common.{◌≡◌, ℕ, suc, Bool, false, ◌||◌, refl, ap, sym, ◌∙◌, subst, List, [], ◌∷◌, Option, Some, None, Result, Ok, Err}
use Rattle.kilim_program.specs.declared.class.Method.{Method}
use Rattle.kilim_program.specs.declared.instr.Instr.{Instr}
use Rattle.kilim_program.specs.declared.instr.Instr.TheVariants.{Aload, Astore, Aaload, Aastore, Areturn, Getfield, Putfield, Invokevirtual, Invokespecial, Invokestatic, New, Newarray, Anewarray, Checkcast}
use Rattle.kilim_program.specs.declared.verified.VType.{VType}
use Rattle.kilim_program.specs.declared.verified.VType.TheVariants.{Top, Long}
use Rattle.kilim_program.specs.Program.{Program}
use Rattle.kilim_type_spec.specs.Step.{Types, Row, Takes, Element, Shuffles, Loads, Stores, Adds, Makes, Constructs, Leaves, Is, peek, row}
use Rattle.kilim_type_spec.specs.Typed.{Among, edges}
use Rattle.kilim_isolation_graph.specs.declared.graph.Graph.{Graph}
use Rattle.kilim_isolation_rules.specs.Marks.{any_mixes, flow_mixes, mixes, plain}
use Rattle.kilim_isolation_rules.specs.Rules.{any_flow_mixes, by_types, deed, left_by}
use Rattle.kilim_isolation_laws.proofs.reached_objects.walk.Agree.{Agree, AgreeLeft, agree_with, AgreeLocals, no_leave, row_agree}

-- ---- what flows

tops_mix : (p : Program) (ts ds : List VType) → ((j : ℕ) → Top ≡ peek ts j) → any_mixes p ts ds ≡ false
tops_mix p [] ds tops = refl
tops_mix p (t ∷ ts) [] tops = refl
tops_mix p (t ∷ ts) (d ∷ ds) tops = subst (λ (z : VType). (mixes p z d || any_mixes p ts ds) ≡ false) (tops 0) (tops_mix p ts ds (λ j. tops (suc j)))

pub mixes_agree : (p : Program) (ls ks ds : List VType) → AgreeLocals ls ks → any_mixes p ls ds ≡ any_mixes p ks ds
mixes_agree p [] ks ds agree = sym (tops_mix p ks ds agree)
mixes_agree p (x ∷ ls) [] ds agree = tops_mix p (x ∷ ls) ds (λ j. sym (agree j))
mixes_agree p (x ∷ ls) (y ∷ ks) [] agree = refl
mixes_agree p (x ∷ ls) (y ∷ ks) (d ∷ ds) agree = ap (λ (t : VType). mixes p t d || any_mixes p ls ds) (agree 0) ∙ ap (λ (b : Bool). mixes p y d || b) (mixes_agree p ls ks ds (λ j. agree (suc j)))

pub flow_agrees : (p : Program) (f g d : Types) → Agree f g → flow_mixes p f d ≡ flow_mixes p g d
flow_agrees p f g d a = ap (λ (b : Bool). b || any_mixes p f.stack d.stack) (mixes_agree p f.locals g.locals d.locals a.locals) ∙ ap (λ (s : List VType). any_mixes p g.locals d.locals || any_mixes p s d.stack) a.stack

pub left_agrees : (p : Program) (r s : Result Types ℕ) (after : Option Types) → AgreeLeft r s → any_flow_mixes p s after ≡ false → any_flow_mixes p r after ≡ false
unfolding AgreeLeft
left_agrees p r s None a e = refl
left_agrees p (Err n) s (Some d) a e = refl
left_agrees p (Ok f) (Err n) (Some d) a e = absurd a
left_agrees p (Ok f) (Ok g) (Some d) a e = flow_agrees p f g d a ∙ e

module _ (p : Program) (m : Method) (ls ks s : List VType) (u v : Bool) (agree : AgreeLocals ls ks) where
  abbrev one : Types
  one = record { locals = ls; stack = s; unset = u }

  abbrev two : Types
  two = record { locals = ks; stack = s; unset = v }

  pub left_by_agree : (i : Instr) (next q : ℕ) → Among (edges i next) q → AgreeLeft (left_by p m i one) (left_by p m i two)
  left_by_agree (New c) next q among = agree_with _ _ agree refl
  left_by_agree i next q among = row_agree p m ls ks s u v agree 0 (row p m i) (no_leave p m i next q among)

  -- ---- what is done

  types_same : (g : Graph) (r : Row) → by_types g one r ≡ by_types g two r
  types_same g (Takes takes gives also) = refl
  types_same g Element = refl
  types_same g (Shuffles form) = refl
  types_same g (Loads o k) = refl
  types_same g (Stores (Is Long) k) = refl
  types_same g (Stores o k) = refl
  types_same g (Adds k) = refl
  types_same g (Makes may) = refl
  types_same g (Constructs takes gives class before after) = refl
  types_same g (Leaves takes also) = refl

  pub deed_same : (g : Graph) (i : Instr) → deed p m g one i ≡ deed p m g two i
  unfolding deed
  deed_same g (Aload k) = refl
  deed_same g (Astore k) = refl
  deed_same g (New c) = refl
  deed_same g (Newarray element) = refl
  deed_same g (Anewarray ty) = refl
  deed_same g (Getfield field) = refl
  deed_same g (Putfield field) = refl
  deed_same g Aaload = refl
  deed_same g Aastore = refl
  deed_same g (Invokevirtual id) = refl
  deed_same g (Invokespecial id) = refl
  deed_same g (Invokestatic id) = refl
  deed_same g Areturn = refl
  deed_same g (Checkcast ty) = refl
  deed_same g i = ap plain (types_same g (row p m i))
