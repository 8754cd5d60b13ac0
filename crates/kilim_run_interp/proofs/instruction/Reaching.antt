-- What the table of calls tells is what the table of instructions says.
use Rattle.std.proofs.Common.{◌≡◌, ◌∙◌, sym, ap, refl, subst, ℕ, ◌+◌, ◌≤◌, Bool, true, false, List, ◌∷◌, ◌++◌, [], Option, Some, None, length, take, drop, reverse, slice_get}
use Rattle.std.specs.Prelude.{IfSome, codes, if◌then◌else◌, ◌&&◌, not}
use Rattle.std.proofs.lemmas.Option.{same_Some, none-some}
use Rattle.kilim_program.specs.declared.class.Method.{Method}
use Rattle.kilim_program.specs.declared.instr.Instr.TheVariants.{Invokestatic, Invokevirtual}
use Rattle.kilim_program.specs.declared.names.BoxName.{BoxName}
use Rattle.kilim_program.specs.declared.names.ClassId.{ClassId}
use Rattle.kilim_program.specs.declared.names.MethodId.{MethodId}
use Rattle.kilim_program.specs.declared.ty.Base.TheVariants.{Class}
use Rattle.kilim_program.specs.declared.ty.Ty.{Ty}
use Rattle.kilim_program.specs.declared.value.Value.{Value}
use Rattle.kilim_program.specs.declared.value.Value.TheVariants.{Box, Fiber, Ref}
use Rattle.kilim_program.specs.Members.{named_class, named_type}
use Rattle.kilim_program.specs.Names.{◌>>=◌, class_named, method_at}
use Rattle.kilim_program.specs.Program.{Program}
use Rattle.kilim_run_state.specs.declared.value.Object.{Object}
use Rattle.kilim_run_state.specs.Machine.{Objects}
use Rattle.kilim_run_state.specs.Words.{IsThere, class_at}
use Rattle.std.specs.FinMap.{get}
use Rattle.kilim_run_machine.specs.Does.{calls_method, calls_on, chosen, does}
use Rattle.kilim_run_machine.specs.Effect.{Effect, Asks, Calls, with_some}
use Rattle.kilim_run_machine.specs.Natives.{is_handed_out, is_of_message, is_text_method}
use Rattle.kilim_run_rows.specs.Outcome.{is_stuck}
use Rattle.kilim_run_interp.specs.declared.instruction.calls.Target.TheVariants.{BuiltIn, WithCode}
use Rattle.kilim_run_interp.specs.declared.instruction.reached.ByClass.{ByClass}
use Rattle.kilim_run_interp.specs.declared.instruction.reached.ByClass.TheVariants.{Asked, Called, Done}
use Rattle.kilim_run_interp.specs.declared.instruction.reached.Reach.{Reach}
use Rattle.kilim_run_interp.specs.instruction.Calls.{Reaches}
use Rattle.kilim_run_interp.specs.instruction.Reached.{AreReached, IsReach, asked_in, asked_type, built_in_one, by_class_in, called_in, params_in, with_code_one}
use Rattle.kilim_run_interp.proofs.instruction.Growing.{grown}
use Rattle.kilim_run_interp.proofs.instruction.Invokes.{asks_built_in, calls_code, static_asks, static_calls, virtual_asks, virtual_calls, virtual_found}

pub reach_grown : (p : Program) (table : List Reach) (one : Reach) (at : ℕ) → length table ≡ at → AreReached p table → IsReach p (record { 0 = at }) one → AreReached p (table ++ one ∷ [])
reach_grown p table one at long told has = grown (λ n r. IsReach p (record { 0 = n }) r) table one told (subst (λ (n : ℕ). IsReach p (record { 0 = n }) one) (sym long) has)

-- what was found is told
pub found_in : (p : Program) (m : MethodId) (name : List ℕ) (named : Method) (o : Option MethodId) → method_at p m ≡ Some named → IfSome o (λ id. asked_in p m name (Some named) ≡ Some id) → (id : MethodId) → o ≡ Some id → asked_in p m name (method_at p m) ≡ Some id
found_in p m name named o there found id e = ap (asked_in p m name) there ∙ subst (λ (z : Option MethodId). IfSome z (λ i. asked_in p m name (Some named) ≡ Some i)) e found

pub found_own : (p : Program) (m : MethodId) (named : Method) (o : Option (ClassId × MethodId)) → method_at p m ≡ Some named → IfSome o (λ both. called_in p m both.0 (Some named) ≡ Some both.1) → (class : ClassId) (id : MethodId) → o ≡ Some (class, id) → called_in p m class (method_at p m) ≡ Some id
found_own p m named o there found class id e = ap (called_in p m class) there ∙ subst (λ (z : Option (ClassId × MethodId)). IfSome z (λ both. called_in p m both.0 (Some named) ≡ Some both.1)) e found

-- an answer, as what is found
some_if : (o : Option MethodId) → IfSome o (λ id. o ≡ Some id)
some_if None = tt
some_if (Some id) = refl

pub asked_some : (p : Program) (m : MethodId) (name : List ℕ) (named : Method) (class : ClassId) (r : Option MethodId) → class_named p name ≡ Some class → r ≡ asked_type p named m (Some (record { dims = 0; base = Class class })) →
    IfSome r (λ id. asked_in p m name (Some named) ≡ Some id)
asked_some p m name named class r found is =
    let e : asked_in p m name (Some named) ≡ r = ap (λ (o : Option ClassId). asked_type p named m (named_class o)) found ∙ sym is in
    subst (λ (z : Option MethodId). IfSome r (λ id. z ≡ Some id)) (sym e) (some_if r)

-- ---- what is told

-- the method that is named, and the one that is selected
pub record IsAskedAt (p : Program) (m : MethodId) (name : List ℕ) (id : MethodId) : Type 0 where
  pub named : Method
  pub there : method_at p m ≡ Some named
  pub ty : Ty
  pub typed : named_type p name ≡ Some ty
  pub other : is_text_method p named ≡ false
  pub selects : chosen p named m ty ≡ id
  pub target : Method
  pub found : method_at p id ≡ Some target
  pub code : target.built_in ≡ true
  pub other_kind : is_of_message target ≡ false

-- the method that is named, and the one with code that is selected on an object of a class
pub record IsCalledAt (p : Program) (m : MethodId) (class : ClassId) (id : MethodId) : Type 0 where
  pub named : Method
  pub there : method_at p m ≡ Some named
  pub other : is_text_method p named ≡ false
  pub selects : chosen p named m (record { dims = 0; base = Class class }) ≡ id
  pub target : Method
  pub found : method_at p id ≡ Some target
  pub code : target.built_in ≡ false

class_by : Bool → Bool → ByClass
class_by handed built_in = if handed then Asked else (if built_in then Done else Called)

asked_flags : (handed built_in : Bool) → Asked ≡ class_by handed built_in → handed ≡ true
unfolding class_by
asked_flags true built_in e = refl
asked_flags false true e = absurd (cc)
asked_flags false false e = absurd (cc)

called_flags : (handed built_in : Bool) → Called ≡ class_by handed built_in → (handed ≡ false) × (built_in ≡ false)
unfolding class_by
called_flags true built_in e = absurd (cc)
called_flags false true e = absurd (cc)
called_flags false false e = (refl, refl)

asked_named : (p : Program) (o : Option Method) → Asked ≡ by_class_in p o → (named : Method) × ((o ≡ Some named) × (is_handed_out p named ≡ true))
unfolding class_by
asked_named p None e = absurd (cc)
asked_named p (Some named) e = (named, (refl, asked_flags (is_handed_out p named) named.built_in e))

called_named : (p : Program) (o : Option Method) → Called ≡ by_class_in p o → (named : Method) × ((o ≡ Some named) × ((is_handed_out p named ≡ false) × (named.built_in ≡ false)))
unfolding class_by
called_named p None e = absurd (cc)
called_named p (Some named) e = (named, (refl, called_flags (is_handed_out p named) named.built_in e))

built_in_flag : (target : Method) (b c : Bool) (x id : MethodId) → target.built_in ≡ b → is_of_message target ≡ c → (if b && not c then Some x else None) ≡ Some id → (target.built_in ≡ true) × ((is_of_message target ≡ false) × (x ≡ id))
built_in_flag target true false x id is other e = (is, (other, same_Some _ _ e))
built_in_flag target true true x id is other e = absurd (none-some id e)
built_in_flag target false c x id is other e = absurd (none-some id e)

built_in_there : (x id : MethodId) (o : Option Method) → built_in_one x o ≡ Some id → (target : Method) × ((o ≡ Some target) × ((target.built_in ≡ true) × ((is_of_message target ≡ false) × (x ≡ id))))
built_in_there x id None e = absurd (none-some id e)
built_in_there x id (Some target) e = (target, (refl, built_in_flag target target.built_in (is_of_message target) x id refl refl e))

not_text : (b : Bool) (o : Option MethodId) (id : MethodId) → (if b then None else o) ≡ Some id → (b ≡ false) × (o ≡ Some id)
not_text true o id e = absurd (none-some id e)
not_text false o id e = (refl, e)

asked_at : (p : Program) (m : MethodId) (name : List ℕ) (id : MethodId) (named : Method) (o : Option Ty) → method_at p m ≡ Some named → named_type p name ≡ o → asked_type p named m o ≡ Some id → IsAskedAt p m name id
asked_at p m name id named None there typed e = absurd (none-some id e)
asked_at p m name id named (Some ty) there typed e =
    let text = not_text (is_text_method p named) (built_in_one (chosen p named m ty) (method_at p (chosen p named m ty))) id e in
    let found = built_in_there (chosen p named m ty) id (method_at p (chosen p named m ty)) text.1 in
    record {
      named = named;
      there = there;
      ty = ty;
      typed = typed;
      other = text.0;
      selects = found.1.1.1.1;
      target = found.0;
      found = ap (method_at p) (sym found.1.1.1.1) ∙ found.1.0;
      code = found.1.1.0;
      other_kind = found.1.1.1.0;
    }

pub asked_there : (p : Program) (m : MethodId) (name : List ℕ) (id : MethodId) (o : Option Method) → method_at p m ≡ o → asked_in p m name o ≡ Some id → IsAskedAt p m name id
asked_there p m name id None there e = absurd (none-some id e)
asked_there p m name id (Some named) there e = asked_at p m name id named (named_type p name) there refl e

code_flag : (target : Method) (b : Bool) (x id : MethodId) → target.built_in ≡ b → (if b then None else Some x) ≡ Some id → (target.built_in ≡ false) × (x ≡ id)
code_flag target true x id is e = absurd (none-some id e)
code_flag target false x id is e = (is, same_Some _ _ e)

code_there : (x id : MethodId) (o : Option Method) → with_code_one x o ≡ Some id → (target : Method) × ((o ≡ Some target) × ((target.built_in ≡ false) × (x ≡ id)))
code_there x id None e = absurd (none-some id e)
code_there x id (Some target) e = (target, (refl, code_flag target target.built_in x id refl e))

pub called_there : (p : Program) (m : MethodId) (class : ClassId) (id : MethodId) (o : Option Method) → method_at p m ≡ o → called_in p m class o ≡ Some id → IsCalledAt p m class id
called_there p m class id None there e = absurd (none-some id e)
called_there p m class id (Some named) there e =
    let ty : Ty = record { dims = 0; base = Class class } in
    let text = not_text (is_text_method p named) (with_code_one (chosen p named m ty) (method_at p (chosen p named m ty))) id e in
    let found = code_there (chosen p named m ty) id (method_at p (chosen p named m ty)) text.1 in
    record {
      named = named;
      there = there;
      other = text.0;
      selects = found.1.1.1;
      target = found.0;
      found = ap (method_at p) (sym found.1.1.1) ∙ found.1.0;
      code = found.1.1.0;
    }

-- an object of a type that is there
with_class : (o : Option Object) (f : Option Ty → Effect) (ty : Ty) → (o >>= λ (x : Object). Some x.class) ≡ Some ty → with_some o (λ (object : Object). f (Some object.class)) ≡ f (Some ty)
with_class None f ty e = absurd (none-some ty e)
with_class (Some object) f ty e = ap (λ (t : Ty). f (Some t)) (same_Some _ _ e)

module _ (p : Program) (own : Method) (m : MethodId) (r : Reach) (next : ℕ) (ls stack : List Value) (h : Objects) (is : IsReach p m r) where
  counts : (named : Method) → method_at p m ≡ Some named → r.count ≡ length named.params
  counts named there = is.count ∙ ap params_in there

  pub asked_static : r.by_class ≡ Asked → is_stuck (does p own (Invokestatic m) next ls stack h) ≡ false →
      (r.count ≤ length stack) × (does p own (Invokestatic m) next ls stack h ≡ Asks m (reverse (take r.count stack)) next ls (drop r.count stack) h)
  asked_static by fine =
      let a = asked_named p (method_at p m) (sym by ∙ is.by_class) in
      let e = static_asks p own m a.0 next ls stack h a.1.0 a.1.1 fine in
      subst (λ (n : ℕ). (n ≤ length stack) × (does p own (Invokestatic m) next ls stack h ≡ Asks m (reverse (take n stack)) next ls (drop n stack) h)) (sym (counts a.0 a.1.0)) e

  pub called_static : r.by_class ≡ Called → is_stuck (does p own (Invokestatic m) next ls stack h) ≡ false →
      (r.count ≤ length stack) × (does p own (Invokestatic m) next ls stack h ≡ Calls m (reverse (take r.count stack)) next ls (drop r.count stack) h)
  called_static by fine =
      let a = called_named p (method_at p m) (sym by ∙ is.by_class) in
      let e = static_calls p own m a.0 next ls stack h a.1.0 a.1.1.0 a.1.1.1 fine in
      subst (λ (n : ℕ). (n ≤ length stack) × (does p own (Invokestatic m) next ls stack h ≡ Calls m (reverse (take n stack)) next ls (drop n stack) h)) (sym (counts a.0 a.1.0)) e

  -- a method that is selected by a type is reached
  selects : (receiver : Value) (named : Method) (ty : Ty) (id : MethodId) (target : Method) → chosen p named m ty ≡ id → method_at p id ≡ Some target → target.built_in ≡ true → is_of_message target ≡ false → (args : List Value) (n : ℕ) (l rest : List Value) →
      calls_on p named m args n l rest h receiver (Some ty) ≡ Asks id (receiver ∷ args) n l rest h
  selects receiver named ty id target chooses there built_in other_kind args n l rest =
      ap (λ (z : MethodId). calls_method (method_at p z) z (receiver ∷ args) n l rest h) chooses ∙ asks_built_in (method_at p id) target id (receiver ∷ args) n l rest h there built_in other_kind

  asked_virtual : (receiver : Value) (id : MethodId) (named : Method) → method_at p m ≡ Some named → slice_get stack r.count ≡ Some receiver → is_text_method p named ≡ false → Reaches p named m receiver h (BuiltIn id) →
      does p own (Invokevirtual m) next ls stack h ≡ Asks id (reverse (take (r.count + 1) stack)) next ls (drop (r.count + 1) stack) h
  asked_virtual receiver id named there at other reaches =
      let e = virtual_asks p own m named next ls stack h there receiver id other (subst (λ (n : ℕ). slice_get stack n ≡ Some receiver) (counts named there) at) reaches in
      subst (λ (n : ℕ). does p own (Invokevirtual m) next ls stack h ≡ Asks id (reverse (take (n + 1) stack)) next ls (drop (n + 1) stack) h) (sym (counts named there)) e

  pub asked_fiber : (id : MethodId) → r.on_fiber ≡ Some id → slice_get stack r.count ≡ Some Fiber →
      does p own (Invokevirtual m) next ls stack h ≡ Asks id (reverse (take (r.count + 1) stack)) next ls (drop (r.count + 1) stack) h
  asked_fiber id on at =
      let a = asked_there p m (codes "kilim/Fiber") id (method_at p m) refl (is.on_fiber id on) in
      asked_virtual Fiber id a.named a.there at a.other
      (λ args n l rest. ap (calls_on p a.named m args n l rest h Fiber) a.typed ∙ selects Fiber a.named a.ty id a.target a.selects a.found a.code a.other_kind args n l rest)

  pub asked_mailbox : (id : MethodId) (box : BoxName) → r.on_mailbox ≡ Some id → slice_get stack r.count ≡ Some (Box box) →
      does p own (Invokevirtual m) next ls stack h ≡ Asks id (reverse (take (r.count + 1) stack)) next ls (drop (r.count + 1) stack) h
  asked_mailbox id box on at =
      let a = asked_there p m (codes "kilim/Mailbox") id (method_at p m) refl (is.on_mailbox id on) in
      asked_virtual (Box box) id a.named a.there at a.other
      (λ args n l rest. ap (calls_on p a.named m args n l rest h (Box box)) a.typed ∙ selects (Box box) a.named a.ty id a.target a.selects a.found a.code a.other_kind args n l rest)

  -- what a call on an object of that very class selects
  own_reaches : (class : ClassId) (id : MethodId) (at : ℕ) (a : IsCalledAt p m class id) → class_at h at ≡ Some (record { dims = 0; base = Class class }) → Reaches p a.named m (Ref at) h (WithCode id)
  own_reaches class id at a is_own args n l rest =
      let ty : Ty = record { dims = 0; base = Class class } in
      with_class (get h at) (calls_on p a.named m args n l rest h (Ref at)) ty is_own
      ∙ ap (λ (z : MethodId). calls_method (method_at p z) z (Ref at ∷ args) n l rest h) a.selects
      ∙ calls_code (method_at p id) a.target id (Ref at ∷ args) n l rest h a.found a.code

  pub own_there : (class : ClassId) (id : MethodId) (at : ℕ) → r.on_own ≡ Some (class, id) → slice_get stack r.count ≡ Some (Ref at) → is_stuck (does p own (Invokevirtual m) next ls stack h) ≡ false → IsThere h at
  own_there class id at on there fine =
      let a = called_there p m class id (method_at p m) refl (is.on_own class id on) in
      virtual_found p own m a.named next ls stack h a.there (Ref at) a.other (subst (λ (n : ℕ). slice_get stack n ≡ Some (Ref at)) (counts a.named a.there) there) fine

  pub called_own : (class : ClassId) (id : MethodId) (at : ℕ) → r.on_own ≡ Some (class, id) → slice_get stack r.count ≡ Some (Ref at) → class_at h at ≡ Some (record { dims = 0; base = Class class }) →
      does p own (Invokevirtual m) next ls stack h ≡ Calls id (reverse (take (r.count + 1) stack)) next ls (drop (r.count + 1) stack) h
  called_own class id at on there is_own =
      let a = called_there p m class id (method_at p m) refl (is.on_own class id on) in
      let e = virtual_calls p own m a.named next ls stack h a.there (Ref at) id a.other (subst (λ (n : ℕ). slice_get stack n ≡ Some (Ref at)) (counts a.named a.there) there) (own_reaches class id at a is_own) in
      subst (λ (n : ℕ). does p own (Invokevirtual m) next ls stack h ≡ Calls id (reverse (take (n + 1) stack)) next ls (drop (n + 1) stack) h) (sym (counts a.named a.there)) e
