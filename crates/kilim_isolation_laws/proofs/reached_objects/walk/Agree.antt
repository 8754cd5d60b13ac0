-- Types that agree in each slot of the locals and in the stack: what one lets pass the other does, and what is left agrees.
use Rattle.std.proofs.Common.{◌≡◌, ℕ, zero, suc, Bool, true, false, ◌&&◌, refl, ap, sym, ◌∙◌, subst, true≢false, List, [], ◌∷◌, length, drop, Option, Some, None, Result, Ok, Err}
use Rattle.std.specs.Prelude.{nat_lt}
use Rattle.kilim_program.specs.declared.class.Field.{Field}
use Rattle.kilim_program.specs.declared.class.Method.{Method}
use Rattle.kilim_program.specs.declared.instr.Instr.{Instr}
use Rattle.kilim_program.specs.declared.instr.Instr.TheVariants.{Ldc, LdcW, Ldc2W, Getstatic, Getfield, Putfield, Invokevirtual, Invokespecial, Invokestatic, Ireturn, Lreturn, Areturn, Return}
use Rattle.kilim_program.specs.declared.names.ClassId.{ClassId}
use Rattle.kilim_program.specs.declared.names.MethodId.{MethodId}
use Rattle.kilim_program.specs.declared.value.Value.{Value}
use Rattle.kilim_program.specs.declared.value.Value.TheVariants.{Int as IntValue, Long as LongValue, Text as TextValue}
use Rattle.kilim_program.specs.declared.verified.VType.{VType}
use Rattle.kilim_program.specs.declared.verified.VType.TheVariants.{Top, Int, Long, Null, UninitThis, Uninit, Object}
use Rattle.kilim_program.specs.Names.{field_of, method_at}
use Rattle.kilim_program.specs.Program.{Program}
use Rattle.kilim_program.specs.Same.{is_constructor}
use Rattle.kilim_type_spec.specs.Step.{Types, Operand, Is, Further, Row, Takes, Element, Shuffles, Loads, Stores, Adds, Makes, Constructs, Leaves, all_meet, by_row, class_vtype, constant_row, constructed, element, field_row, further, is_long, is_same, loaded, long_constant_row, meets, one_replaced, peek, poke, replaced, row, rule, shuffled, special_by, special_row, split_at, split_long, static_row, store, stored, virtual_row, with_element, with_half, with_stack}
use Rattle.kilim_type_spec.specs.Typed.{Among, edges}
use Rattle.kilim_program.specs.Lengths.{ends_path, jump_targets}

-- ---- locals

abbrev pub AgreeLocals : List VType → List VType → Type 0
AgreeLocals ls ks = (j : ℕ) → peek ls j ≡ peek ks j

poked_agree : (ls ks : List VType) (n : ℕ) (t : VType) → AgreeLocals ls ks → AgreeLocals (poke ls n t) (poke ks n t)
poked_agree [] [] zero t agree zero = refl
poked_agree [] [] zero t agree (suc j) = agree (suc j)
poked_agree [] [] (suc n) t agree zero = agree 0
poked_agree [] [] (suc n) t agree (suc j) = poked_agree [] [] n t (λ i. agree (suc i)) j
poked_agree [] (y ∷ ks) zero t agree zero = refl
poked_agree [] (y ∷ ks) zero t agree (suc j) = agree (suc j)
poked_agree [] (y ∷ ks) (suc n) t agree zero = agree 0
poked_agree [] (y ∷ ks) (suc n) t agree (suc j) = poked_agree [] ks n t (λ i. agree (suc i)) j
poked_agree (x ∷ ls) [] zero t agree zero = refl
poked_agree (x ∷ ls) [] zero t agree (suc j) = agree (suc j)
poked_agree (x ∷ ls) [] (suc n) t agree zero = agree 0
poked_agree (x ∷ ls) [] (suc n) t agree (suc j) = poked_agree ls [] n t (λ i. agree (suc i)) j
poked_agree (x ∷ ls) (y ∷ ks) zero t agree zero = refl
poked_agree (x ∷ ls) (y ∷ ks) zero t agree (suc j) = agree (suc j)
poked_agree (x ∷ ls) (y ∷ ks) (suc n) t agree zero = agree 0
poked_agree (x ∷ ls) (y ∷ ks) (suc n) t agree (suc j) = poked_agree ls ks n t (λ i. agree (suc i)) j

split_agree : (ls ks : List VType) (n : ℕ) → AgreeLocals ls ks → AgreeLocals (split_long ls n) (split_long ks n)
split_agree ls ks zero agree = agree
split_agree ls ks (suc n) agree = subst (λ (t : VType). AgreeLocals (split_long ls (suc n)) (split_at (is_long t) ks n)) (agree n) (by (is_long (peek ls n)))
  where
    by : (b : Bool) → AgreeLocals (split_at b ls n) (split_at b ks n)
    by true = poked_agree ls ks n Top agree
    by false = agree

half_agree : (t : VType) (ls ks : List VType) (n : ℕ) → AgreeLocals ls ks → AgreeLocals (with_half t ls n) (with_half t ks n)
half_agree Long ls ks n agree = poked_agree ls ks (suc n) Top agree
half_agree Top ls ks n agree = agree
half_agree Int ls ks n agree = agree
half_agree Null ls ks n agree = agree
half_agree UninitThis ls ks n agree = agree
half_agree (Uninit at) ls ks n agree = agree
half_agree (Object ty) ls ks n agree = agree

stored_agree : (ls ks : List VType) (n : ℕ) (t : VType) → AgreeLocals ls ks → AgreeLocals (stored ls n t) (stored ks n t)
stored_agree ls ks n t agree = half_agree t (poke (split_long ls n) n t) (poke (split_long ks n) n t) n (poked_agree (split_long ls n) (split_long ks n) n t (split_agree ls ks n agree))

none_replaced : (old new : VType) → Top ≡ one_replaced (is_same old Top) Top new
none_replaced Top new = refl
none_replaced Int new = refl
none_replaced Long new = refl
none_replaced Null new = refl
none_replaced UninitThis new = refl
none_replaced (Uninit at) new = refl
none_replaced (Object ty) new = refl

replaced_at : (old new : VType) (xs : List VType) (j : ℕ) → peek (replaced old new xs) j ≡ one_replaced (is_same old (peek xs j)) (peek xs j) new
replaced_at old new [] j = none_replaced old new
replaced_at old new (x ∷ xs) zero = refl
replaced_at old new (x ∷ xs) (suc j) = replaced_at old new xs j

replaced_agree : (old new : VType) (ls ks : List VType) → AgreeLocals ls ks → AgreeLocals (replaced old new ls) (replaced old new ks)
replaced_agree old new ls ks agree j = replaced_at old new ls j ∙ (ap (λ (t : VType). one_replaced (is_same old t) t new) (agree j) ∙ sym (replaced_at old new ks j))

-- ---- types, and what is left

pub record Agree (f g : Types) : Type 0 where
  pub locals : AgreeLocals f.locals g.locals
  pub stack : f.stack ≡ g.stack

-- where the one leaves types, the other leaves such that agree
unfoldable pub AgreeLeft : Result Types ℕ → Result Types ℕ → Type 0
AgreeLeft (Ok f) (Ok g) = Agree f g
AgreeLeft (Ok f) (Err n) = ⊥
AgreeLeft (Err n) r = Unit {0}

pub agree_with : (f g : Types) → AgreeLocals f.locals g.locals → f.stack ≡ g.stack → AgreeLeft (Ok f) (Ok g)
unfolding AgreeLeft
agree_with f g locals stack = record { locals = locals; stack = stack }

none_left : (n : ℕ) (r : Result Types ℕ) → AgreeLeft (Err n) r
unfolding AgreeLeft
none_left n r = tt

rule_agree : (n : ℕ) (b : Bool) (r s : Result Types ℕ) → AgreeLeft r s → AgreeLeft (rule n b r) (rule n b s)
rule_agree n true r s agree = agree
rule_agree n false r s agree = none_left n (Err n)

further_agree : (p : Program) (rs : List Further) (stack : List VType) (r s : Result Types ℕ) → AgreeLeft r s → AgreeLeft (further p rs stack r) (further p rs stack s)
further_agree p [] stack r s agree = agree
further_agree p (x ∷ rs) stack r s agree = rule_agree x.number (x.holds && all_meet p x.operands stack) (further p rs stack r) (further p rs stack s) (further_agree p rs stack r s agree)

abbrev pub row_leaves : Row → Bool
row_leaves (Leaves takes also) = true
row_leaves r = false

module _ (p : Program) (m : Method) (ls ks s : List VType) (u v : Bool) (agree : AgreeLocals ls ks) where
  abbrev one : Types
  one = record { locals = ls; stack = s; unset = u }

  abbrev two : Types
  two = record { locals = ks; stack = s; unset = v }

  with_stack_agree : (r : Result (List VType) ℕ) → AgreeLeft (with_stack one r) (with_stack two r)
  with_stack_agree (Ok t) = agree_with _ _ agree refl
  with_stack_agree (Err n) = none_left _ _

  element_agree : (r : Result VType ℕ) → AgreeLeft (with_element one r) (with_element two r)
  element_agree (Ok t) = agree_with _ _ (agree) refl
  element_agree (Err n) = none_left _ _

  store_agree : (o : Operand) (j : ℕ) (stack : List VType) → AgreeLeft (store p m o j stack one) (store p m o j stack two)
  store_agree o j [] = none_left _ _
  store_agree o j (t ∷ rest) = rule_agree 5 _ _ _ (rule_agree 6 _ _ _ (agree_with _ _ (stored_agree ls ks j t agree) refl))

  constructed_agree : (class : ClassId) (gives : List VType) (after : List Further) (stack : List VType) → AgreeLeft (constructed p m class gives after stack one) (constructed p m class gives after stack two)
  constructed_agree class gives after (UninitThis ∷ rest) =
      rule_agree 10 _ _ _ (further_agree p after s _ _ (agree_with _ _ (replaced_agree UninitThis (class_vtype m.owner) ls ks agree) refl))
  constructed_agree class gives after (Uninit at ∷ rest) =
      rule_agree 10 _ _ _ (further_agree p after s _ _ (agree_with _ _ (replaced_agree (Uninit at) (class_vtype class) ls ks agree) refl))
  constructed_agree class gives after [] = none_left _ _
  constructed_agree class gives after (Top ∷ rest) = none_left _ _
  constructed_agree class gives after (Int ∷ rest) = none_left _ _
  constructed_agree class gives after (Long ∷ rest) = none_left _ _
  constructed_agree class gives after (Null ∷ rest) = none_left _ _
  constructed_agree class gives after (Object ty ∷ rest) = none_left _ _

  pub row_agree : (at : ℕ) (r : Row) → row_leaves r ≡ false → AgreeLeft (by_row p m at r one) (by_row p m at r two)
  row_agree at (Takes takes gives also) w = rule_agree 3 _ _ _ (rule_agree 4 _ _ _ (rule_agree 5 _ _ _ (further_agree p also s _ _ (agree_with _ _ (agree) refl))))
  row_agree at Element w = rule_agree 3 _ _ _ (rule_agree 4 _ _ _ (rule_agree 5 _ _ _ (element_agree (element s))))
  row_agree at (Shuffles form) w = rule_agree 3 _ _ _ (rule_agree 4 _ _ _ (with_stack_agree (shuffled form s)))
  row_agree at (Loads o j) w = subst (λ (t : VType). AgreeLeft (loaded p m o j (peek ls j) one) (loaded p m o j t two)) (agree j) (rule_agree 4 _ _ _ (rule_agree 6 _ _ _ (agree_with _ _ (agree) refl)))
  row_agree at (Stores o j) w = store_agree o j s
  row_agree at (Adds j) w = subst (λ (t : VType). AgreeLeft (by_row p m at (Adds j) one) (rule 6 (nat_lt j m.max_locals && meets p (Is Int) t) (Ok two))) (agree j) (rule_agree 6 _ _ _ (agree_with _ _ (agree) refl))
  row_agree at (Makes may) w = rule_agree 4 _ _ _ (rule_agree 10 _ _ _ (rule_agree 13 _ _ _ (agree_with _ _ (replaced_agree (Uninit at) Top ls ks agree) refl)))
  row_agree at (Constructs takes gives class before after) w =
      rule_agree 3 _ _ _ (rule_agree 4 _ _ _ (rule_agree 5 _ _ _ (further_agree p before s _ _ (constructed_agree class gives after (drop (length takes) s)))))
  row_agree at (Leaves takes also) w = absurd (true≢false w)

-- ---- an instruction behind which some place comes doesn't leave the method

module _ (p : Program) (m : Method) where
  constant_stays : (v : Value) → row_leaves (constant_row p v) ≡ false
  constant_stays (IntValue n) = refl
  constant_stays (TextValue units) = refl
  constant_stays v = refl

  long_constant_stays : (v : Value) → row_leaves (long_constant_row v) ≡ false
  long_constant_stays (LongValue n) = refl
  long_constant_stays v = refl

  static_stays : (o : Option Method) → row_leaves (static_row m o) ≡ false
  static_stays None = refl
  static_stays (Some callee) = refl

  virtual_stays : (o : Option Method) → row_leaves (virtual_row m o) ≡ false
  virtual_stays None = refl
  virtual_stays (Some callee) = refl

  special_by_stays : (b : Bool) (id : MethodId) (callee : Method) → row_leaves (special_by b p m id callee) ≡ false
  special_by_stays true id callee = refl
  special_by_stays false id callee = refl

  special_stays : (id : MethodId) (o : Option Method) → row_leaves (special_row p m id o) ≡ false
  special_stays id None = refl
  special_stays id (Some callee) = special_by_stays (is_constructor callee) id callee

  field_stays : (i : Instr) (o : Option Field) → row_leaves (field_row i m o) ≡ false
  field_stays i None = refl
  field_stays (Getstatic f) (Some field) = refl
  field_stays (Getfield f) (Some field) = refl
  field_stays i (Some field) = refl

  pub no_leave : (i : Instr) (next q : ℕ) → Among (edges i next) q → row_leaves (row p m i) ≡ false
  unfolding row ends_path jump_targets
  no_leave Ireturn next q among = absurd among
  no_leave Lreturn next q among = absurd among
  no_leave Areturn next q among = absurd among
  no_leave Return next q among = absurd among
  no_leave (Ldc v) next q among = constant_stays v
  no_leave (LdcW v) next q among = constant_stays v
  no_leave (Ldc2W v) next q among = long_constant_stays v
  no_leave (Getstatic f) next q among = field_stays (Getstatic f) (field_of p f)
  no_leave (Getfield f) next q among = field_stays (Getfield f) (field_of p f)
  no_leave (Putfield f) next q among = field_stays (Putfield f) (field_of p f)
  no_leave (Invokevirtual id) next q among = virtual_stays (method_at p id)
  no_leave (Invokespecial id) next q among = special_stays id (method_at p id)
  no_leave (Invokestatic id) next q among = static_stays (method_at p id)
  no_leave i next q among = refl
