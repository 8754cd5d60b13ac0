-- The parts of linked instructions: the rows of tables, and what the switches are made of.
use Rattle.std.proofs.Common.{◌≡◌, ℕ, Bool, true, false, ℤ, pos, negsuc, List, Option, Some, None, refl, ap, sym, subst, ◌∙◌}
use Rattle.std.specs.Prelude.{◌||◌, not}
use Rattle.std.specs.List.{AllByRecursion, list_all}
use Rattle.std.specs.Option.{option_map}
use Rattle.std.proofs.lemmas.Bool.{false≢true}
use Rattle.std.proofs.lemmas.Option.{same_Some, none-some}
use Rattle.kilim_program.specs.declared.instr.Instr.{Instr}
use Rattle.kilim_program.specs.declared.instr.Instr.TheVariants.{Tableswitch, Lookupswitch}
use Rattle.kilim_link_spec.specs.Code.{applied, row, place_of, pair_in}
use Rattle.kilim_link_spec.specs.Types.{each_of}
use Rattle.kilim_link_laws.proofs.code_laws.Rows.{each_passes, rows_hold, mapped}

-- a function and its argument that are there
pub record Applied {A B : Type 0} (f : Option (A → B)) (x : Option A) (y : B) : Type 0 where
  pub fn : A → B
  pub arg : A
  pub fn_is : f ≡ Some fn
  pub arg_is : x ≡ Some arg
  pub is : fn arg ≡ y

pub applied_parts : {A B : Type 0} (f : Option (A → B)) (x : Option A) (y : B) → applied f x ≡ Some y → Applied f x y
applied_parts None x y e = absurd (none-some y e)
applied_parts (Some f) None y e = absurd (none-some y e)
applied_parts (Some f) (Some x) y e = record { fn = f; arg = x; fn_is = refl; arg_is = refl; is = same_Some (f x) y e }

-- what holds of each row's function at an argument
pub table_holds : {A B : Type 0} (P : ℕ → B → Type 0) (table : List (ℕ × (A → B))) (x : Option A) (number : ℕ) (y : B)
    → ((arg : A) → x ≡ Some arg → AllByRecursion (λ r. P r.0 (r.1 arg)) table) → applied (row table number) x ≡ Some y → P number y
table_holds P table x number y all e =
    let a = applied_parts (row table number) x y e in
    subst (λ z. P number z) a.is (rows_hold (λ k f. P k (f a.arg)) table (all a.arg a.arg_is) number a.fn a.fn_is)

pub table_passes : {A B : Type 0} (test : ℕ → B → Bool) (table : List (ℕ × (A → B))) (x : Option A) (number : ℕ) (y : B)
    → ((arg : A) → list_all (λ r. test r.0 (r.1 arg)) table ≡ true) → applied (row table number) x ≡ Some y → test number y ≡ true
table_passes test table x number y all e = table_holds (λ k z. test k z ≡ true) table x number y (λ arg there. each_passes (λ r. test r.0 (r.1 arg)) table (all arg)) e

pub either_way : (a b : Bool) → a ≡ true → (not a || b) ≡ true → b ≡ true
either_way true b e f = f
either_way false b e f = absurd (false≢true e)

-- ---- targets

pub place_is : (to : ℤ) (n : ℕ) → place_of to ≡ Some n → pos n ≡ to
place_is (pos k) n e = ap (λ (x : ℕ). pos x) (sym (same_Some k n e))
place_is (negsuc k) n e = absurd (none-some n e)

pub record PairParts (pair : ℤ × ℤ) (y : ℤ × ℕ) : Type 0 where
  pub key : pair.0 ≡ y.0
  pub to : pos y.1 ≡ pair.1

pub pair_parts : (pair : ℤ × ℤ) (y : ℤ × ℕ) → pair_in pair ≡ Some y → PairParts pair y
pair_parts pair y e =
    let m = mapped (λ (n : ℕ). (pair.0, n)) (place_of pair.1) y e in
    record { key = ap (λ (x : ℤ × ℕ). x.0) m.is; to = ap (λ (x : ℤ × ℕ). pos x.1) (sym m.is) ∙ place_is pair.1 m.x m.there }

pub record TableParts (default : ℤ) (low : ℤ) (targets : List ℤ) (y : Instr) : Type 0 where
  pub first : ℕ
  pub ts : List ℕ
  pub first_is : pos first ≡ default
  pub ts_are : each_of place_of targets ≡ Some ts
  pub is : Tableswitch first low ts ≡ y

pub table_parts : (default : ℤ) (low : ℤ) (targets : List ℤ) (y : Instr) → applied (option_map (λ to. Tableswitch to low) (place_of default)) (each_of place_of targets) ≡ Some y → TableParts default low targets y
table_parts default low targets y e =
    let a = applied_parts (option_map (λ (to : ℕ). Tableswitch to low) (place_of default)) (each_of place_of targets) y e in
    let m = mapped (λ (to : ℕ). Tableswitch to low) (place_of default) a.fn a.fn_is in
    record { first = m.x; ts = a.arg; first_is = place_is default m.x m.there; ts_are = a.arg_is; is = ap (λ (f : List ℕ → Instr). f a.arg) m.is ∙ a.is }

pub record LookupParts (default : ℤ) (pairs : List (ℤ × ℤ)) (y : Instr) : Type 0 where
  pub first : ℕ
  pub ts : List (ℤ × ℕ)
  pub first_is : pos first ≡ default
  pub ts_are : each_of pair_in pairs ≡ Some ts
  pub is : Lookupswitch first ts ≡ y

pub lookup_parts : (default : ℤ) (pairs : List (ℤ × ℤ)) (y : Instr) → applied (option_map (λ to. λ each. Lookupswitch to each) (place_of default)) (each_of pair_in pairs) ≡ Some y → LookupParts default pairs y
lookup_parts default pairs y e =
    let make = λ (to : ℕ) (each : List (ℤ × ℕ)). Lookupswitch to each in
    let a = applied_parts (option_map make (place_of default)) (each_of pair_in pairs) y e in
    let m = mapped make (place_of default) a.fn a.fn_is in
    record { first = m.x; ts = a.arg; first_is = place_is default m.x m.there; ts_are = a.arg_is; is = ap (λ (f : List (ℤ × ℕ) → Instr). f a.arg) m.is ∙ a.is }
