-- An index of old code that is kept names the same field, class, type, constant or method in the woven world.
use Rattle.std.proofs.Common.{◌≡◌, ℕ, Bool, true, false, ◌==◌, if◌then◌else◌, List, [], ◌∷◌, Option, Some, None, option_map, refl, sym, ap, subst, ◌∙◌, eqb-true}
use Rattle.std.proofs.lemmas.Option.{none-some, same_Some}
use Rattle.kilim_program.specs.declared.instr.Instr.{Instr}
use Rattle.kilim_program.specs.declared.instr.Instr.TheVariants.{New}
use Rattle.kilim_program.specs.declared.names.MethodId.{MethodId}
use Rattle.kilim_program.specs.Program.{Program}
use Rattle.kilim_program.specs.Names.{method_at}
use Rattle.kilim_link_spec.specs.declared.fault.MemberOf.{MemberOf as MemberRef}
use Rattle.kilim_link_spec.specs.declared.named.Named.{Named}
use Rattle.kilim_link_spec.specs.declared.named.Operand.{Operand}
use Rattle.kilim_link_spec.specs.declared.named.Operand.TheVariants.{AConstant, AField, AMethod, AType}
use Rattle.kilim_link_spec.specs.World.{World}
use Rattle.kilim_link_spec.specs.Types.{class_named_by, type_named}
use Rattle.kilim_link_spec.specs.Code.{row, applied, method_instrs, type_instrs, field_instrs, instr_with, method_found}
use Rattle.kilim_theorems.specs.woven_files.Members.{pausing}
use Rattle.kilim_weave_file_spec.specs.Texts.{woven_descriptor}
use Rattle.kilim_weave_file_spec.specs.Raw.{pauses}
use Rattle.kilim_theorems.specs.woven_files.Resolving.{WorldsAgree}
use Rattle.kilim_theorems.specs.woven_files.Standing.{CallsNone}

-- ---- options

applied_by : {A B : Type 0} (f : Option (A → B)) (x y : Option A) (b : B) → ((a : A) → x ≡ Some a → y ≡ Some a) → applied f x ≡ Some b → applied f y ≡ Some b
applied_by None x y b same h = absurd (none-some b h)
applied_by (Some f) None y b same h = absurd (none-some b h)
applied_by (Some f) (Some a) y b same h = ap (applied (Some f)) (same a refl) ∙ h

mapped_by : {A B : Type 0} (f : A → B) (x y : Option A) (b : B) → ((a : A) → x ≡ Some a → y ≡ Some a) → option_map f x ≡ Some b → option_map f y ≡ Some b
mapped_by f None y b same h = absurd (none-some b h)
mapped_by f (Some a) y b same h = ap (option_map f) (same a refl) ∙ h

-- ---- what an operand is in the woven world

type_by : (w : Program) (u v : World) → WorldsAgree w u v → (number : ℕ) (class : Named) (i : Instr) (b : Bool) →
    (if b then option_map New (class_named_by u class) else applied (row type_instrs number) (type_named u class)) ≡ Some i →
    (if b then option_map New (class_named_by v class) else applied (row type_instrs number) (type_named v class)) ≡ Some i
type_by w u v agree number class i true h = mapped_by New (class_named_by u class) (class_named_by v class) i (agree.classes class) h
type_by w u v agree number class i false h = applied_by (row type_instrs number) (type_named u class) (type_named v class) i (agree.types class) h

-- which method a call names
pub record Calls (number : ℕ) (ref : MemberRef) (u : World) (i : Instr) : Type 0 where
  pub id : MethodId
  pub found : method_found u ref ≡ Some id
  pub make : MethodId → Instr
  pub row_is : row method_instrs number ≡ Some make
  pub is : i ≡ make id

calls_by : (number : ℕ) (ref : MemberRef) (u : World) (i : Instr) (f : Option (MethodId → Instr)) (x : Option MethodId) → row method_instrs number ≡ f → method_found u ref ≡ x → applied f x ≡ Some i → Calls number ref u i
calls_by number ref u i None x fr xr h = absurd (none-some i h)
calls_by number ref u i (Some f) None fr xr h = absurd (none-some i h)
calls_by number ref u i (Some f) (Some id) fr xr h = record { id = id; found = xr; make = f; row_is = fr; is = sym (same_Some (f id) i h) }

pub a_call : (number : ℕ) (ref : MemberRef) (u : World) (i : Instr) → instr_with u number (Some (AMethod ref)) ≡ Some i → Calls number ref u i
a_call number ref u i h = calls_by number ref u i (row method_instrs number) (method_found u ref) refl refl h

-- a call in the woven world, with the fiber where it pauses
pub call_again : (w : Program) (u v : World) → WorldsAgree w u v → (number : ℕ) (ref : MemberRef) (i : Instr) → (c : Calls number ref u i) →
    instr_with v number (Some (AMethod (record ref { descriptor = pausing woven_descriptor (pauses (method_at w c.id)) ref.descriptor }))) ≡ Some i
call_again w u v agree number ref i c =
    ap (λ f. applied f (method_found v (record ref { descriptor = pausing woven_descriptor (pauses (method_at w c.id)) ref.descriptor }))) c.row_is
    ∙ (ap (applied (Some c.make)) (agree.methods ref c.id c.found) ∙ ap Some (sym c.is))

-- the methods that the table of calls makes
abbrev Pausing : Program → (MethodId → Instr) → Type 0
Pausing w make = (id : MethodId) → CallsNone w (make id) → pauses (method_at w id) ≡ false

-- what holds of each row of a table
abbrev pub AllRows : {A : Type 0} → (ℕ → A → Type 0) → List (ℕ × A) → Type 0
AllRows P [] = Unit {0}
AllRows P (r ∷ rs) = P r.0 r.1 × AllRows P rs

row_by : {A : Type 0} (P : ℕ → A → Type 0) (r : ℕ × A) (rest : Option A) (number : ℕ) (a : A) → P r.0 r.1 → (rest ≡ Some a → P number a) → (b : Bool) → (r.0 == number) ≡ b → (if b then Some r.1 else rest) ≡ Some a → P number a
row_by P r rest number a here later true is h = subst (P number) (same_Some r.1 a h) (subst (λ n. P n r.1) (eqb-true r.0 number is) here)
row_by P r rest number a here later false is h = later h

pub row_all : {A : Type 0} (P : ℕ → A → Type 0) (table : List (ℕ × A)) → AllRows P table → (number : ℕ) (a : A) → row table number ≡ Some a → P number a
row_all P [] all number a h = absurd (none-some a h)
row_all P (r ∷ rs) all number a h = row_by P r (row rs number) number a all.0 (row_all P rs all.1 number a) (r.0 == number) refl h

row_pauses : (w : Program) (number : ℕ) (make : MethodId → Instr) → row method_instrs number ≡ Some make → Pausing w make
row_pauses w number make h = row_all (λ n make. Pausing w make) method_instrs ((λ id none. none), ((λ id none. none), ((λ id none. none), tt))) number make h

pub old_operand : (w : Program) (u v : World) → WorldsAgree w u v → (number : ℕ) (o : Operand) (i : Instr) → CallsNone w i → instr_with u number (Some o) ≡ Some i → instr_with v number (Some o) ≡ Some i
old_operand w u v agree number (AConstant value) i none h = h
old_operand w u v agree number (AField ref) i none h = ap (applied (row field_instrs number)) (agree.fields ref) ∙ h
old_operand w u v agree number (AType class) i none h = type_by w u v agree number class i (number == 187) h
old_operand w u v agree number (AMethod ref) i none h =
    let c = a_call number ref u i h in
    let plain : pauses (method_at w c.id) ≡ false = row_pauses w number c.make c.row_is c.id (subst (CallsNone w) c.is none) in
    ap (λ b. instr_with v number (Some (AMethod (record ref { descriptor = pausing woven_descriptor b ref.descriptor })))) (sym plain) ∙ call_again w u v agree number ref i c
