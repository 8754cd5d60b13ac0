-- From what an instruction leaves to the frame at the next place.
use Rattle.std.proofs.Common.{◌≡◌, ℕ, Bool, true, false, true≢false, not, ◌||◌, List, [], ◌∷◌, Option, Some, None, Result, Ok, Err, refl, sym, ap, subst, ◌∙◌}
use Rattle.std.specs.List.{list_any}
use Rattle.kilim_program.specs.declared.verified.VType.TheVariants as vtype
use Rattle.kilim_type_spec.specs.Step as type
use Rattle.kilim_program.specs.declared.class.Method.{Method}
use Rattle.kilim_program.specs.declared.instr.Instr.{Instr}
use Rattle.kilim_program.specs.declared.names.MethodId.{MethodId}
use Rattle.kilim_program.specs.declared.value.Value.{Value}
use Rattle.kilim_program.specs.declared.value.Value.TheVariants.{Ref, Box}
use Rattle.kilim_program.specs.declared.verified.VType.{VType}
use Rattle.kilim_program.specs.Program.{Program}
use Rattle.kilim_run_state.specs.Machine.{Objects}
use Rattle.kilim_program.specs.Names.{method_at}
use Rattle.kilim_type_spec.specs.Step.{Types, peek, Row, by_row, row, type_step, is_same, replaced, one_replaced, may_make}
use Rattle.kilim_isolation_graph.specs.declared.graph.Graph.{Graph}
use Rattle.kilim_isolation_graph.specs.Graphs.{slot}
use Rattle.kilim_isolation_graph.specs.Canonical.{canonical, cleared, canonical_at, kept_name, kept_names}
use Rattle.kilim_isolation_rules.specs.Rules.{any_flow_mixes, left_by}
use Rattle.kilim_isolation_rules.specs.Marks.{mixes, any_mixes, flow_mixes, names_gone, stack_lives}
use Rattle.kilim_isolation_laws.specs.graph_rows.Holds.{Waiting, Holds, Stands, KindsFlow}
use Rattle.kilim_isolation_laws.proofs.graph_rows.Settle.{not_true, or_left, or_right, slots_cleared, canonical_stands, canonical_at_objects}
use Rattle.kilim_isolation_laws.proofs.graph_rows.Passed.{rule_passed, ok_is}
use Rattle.kilim_isolation_laws.specs.reached_objects.graphs.Threads.{Becomes}
use Rattle.kilim_program.specs.declared.instr.Instr.TheVariants as instr
use Rattle.kilim_program.specs.declared.value.Value.TheVariants as value
use Rattle.kilim_program.specs.declared.class.Field.{Field}
use Rattle.kilim_program.specs.declared.names.FieldId.{FieldId}
use Rattle.kilim_program.specs.declared.names.ClassId.{ClassId}
use Rattle.kilim_program.specs.Names.{class_at, field_of}
use Rattle.kilim_program.specs.Same.{is_constructor}

kept_lives : (g : Graph) (types : List VType) (xs : List (Option ℕ)) → list_any (names_gone g) xs ≡ false → list_any (names_gone g) (kept_names types xs) ≡ false
kept_lives g types [] e = refl
kept_lives g [] (x ∷ xs) e = kept_lives g [] xs (or_right (names_gone g x) (list_any (names_gone g) xs) e)
kept_lives g (t ∷ ts) (x ∷ xs) e = by t (kept_lives g ts xs (or_right (names_gone g x) (list_any (names_gone g) xs) e))
  where
    or_both : (a b : Bool) → a ≡ false → b ≡ false → (a || b) ≡ false
    or_both true b e f = absurd (true≢false e)
    or_both false b e f = f

    by : (t : VType) → list_any (names_gone g) (kept_names ts xs) ≡ false → list_any (names_gone g) (kept_name t x ∷ kept_names ts xs) ≡ false
    by vtype.Top w = w
    by vtype.Int w = or_both (names_gone g x) _ (or_left (names_gone g x) (list_any (names_gone g) xs) e) w
    by vtype.Long w = or_both (names_gone g x) _ (or_left (names_gone g x) (list_any (names_gone g) xs) e) w
    by vtype.Null w = or_both (names_gone g x) _ (or_left (names_gone g x) (list_any (names_gone g) xs) e) w
    by vtype.UninitThis w = or_both (names_gone g x) _ (or_left (names_gone g x) (list_any (names_gone g) xs) e) w
    by (vtype.Uninit at) w = or_both (names_gone g x) _ (or_left (names_gone g x) (list_any (names_gone g) xs) e) w
    by (vtype.Object ty) w = or_both (names_gone g x) _ (or_left (names_gone g x) (list_any (names_gone g) xs) e) w

pub settled : (p : Program) → KindsFlow p → (m : Method) (f1 : Types) (g1 : Graph) (at : ℕ → Option ℕ) (h : Objects) (ls st : List Value) (below : List Waiting) → Holds p m f1 g1 at h ls st below → stack_lives g1 ≡ true →
    (d : Option Types) (f' : Types) → Becomes p f1 d f' → ((t : Types) → d ≡ Some t → flow_mixes p f1 t ≡ false) → (at' : ℕ → Option ℕ) × Stands p m f' (canonical_at d g1) at' h ls st below
settled p flow m f1 g1 at h ls st below hd live None f' b mix = (canonical_at_objects p m h g1 at, subst (λ z. Stands p m z (canonical g1) (canonical_at_objects p m h g1 at) h ls st below) (sym b) (canonical_stands p m h g1 at f1 ls st below hd live))
settled p flow m f1 g1 at h ls st below hd live (Some d) f' b mix = (
  canonical_at_objects p m h (cleared d g1) at,
  subst (λ z. Stands p m z (canonical (cleared d g1)) (canonical_at_objects p m h (cleared d g1) at) h ls st below) (sym b.0) (canonical_stands p m h (cleared d g1) at d ls st below
      (record { heap = hd.heap; forest = hd.forest; frames = hd.frames; tidy = hd.tidy; waits = hd.waits; slots = slots_cleared p m f1 d g1 at h ls st flow b.1 (mix d refl) hd.slots })
      (ap not (kept_lives g1 d.stack g1.stack (not_true (list_any (names_gone g1) g1.stack) live)))),
)

-- ---- I6 was asked of what flows on

mixes_replaced : (p : Program) (old : VType) (ts ds : List VType) → any_mixes p ts ds ≡ false → any_mixes p (replaced old vtype.Top ts) ds ≡ false
mixes_replaced p old [] ds e = e
mixes_replaced p old (t ∷ ts) [] e = refl
mixes_replaced p old (t ∷ ts) (d ∷ ds) e = by (is_same old t) (mixes_replaced p old ts ds (or_right (mixes p t d) (any_mixes p ts ds) e))
  where
    by : (b : Bool) → any_mixes p (replaced old vtype.Top ts) ds ≡ false → (mixes p (one_replaced b t vtype.Top) d || any_mixes p (replaced old vtype.Top ts) ds) ≡ false
    by true w = w
    by false w = ap (λ z. z || any_mixes p (replaced old vtype.Top ts) ds) (or_left (mixes p t d) (any_mixes p ts ds) e) ∙ w

pushed_same : (p : Program) (at : ℕ) (ts ds : List VType) → any_mixes p (vtype.Top ∷ ts) ds ≡ any_mixes p (vtype.Uninit at ∷ ts) ds
pushed_same p at ts [] = refl
pushed_same p at ts (d ∷ ds) = refl

flow_is : (p : Program) (d : Types) (r : Result Types ℕ) (f1 : Types) → any_flow_mixes p r (Some d) ≡ false → r ≡ Ok f1 → flow_mixes p f1 d ≡ false
flow_is p d (Ok f) f1 e is = ap (λ z. flow_mixes p z d) (ok_is f f1 is) ∙ e
flow_is p d (Err n) f1 e is = absurd (cc)

-- a row at another place, where it isn't that of `new`
is_makes : Row → Bool
is_makes (type.Makes may) = true
is_makes (type.Takes takes gives also) = false
is_makes type.Element = false
is_makes (type.Shuffles form) = false
is_makes (type.Loads o slot) = false
is_makes (type.Stores o slot) = false
is_makes (type.Adds slot) = false
is_makes (type.Constructs takes gives class before after) = false
is_makes (type.Leaves takes also) = false

at_row : (p : Program) (m : Method) (pl : ℕ) (r : Row) (f : Types) → is_makes r ≡ false → by_row p m 0 r f ≡ by_row p m pl r f
unfolding is_makes
at_row p m pl (type.Makes may) f e = absurd (true≢false e)
at_row p m pl (type.Takes takes gives also) f e = refl
at_row p m pl type.Element f e = refl
at_row p m pl (type.Shuffles form) f e = refl
at_row p m pl (type.Loads o slot) f e = refl
at_row p m pl (type.Stores o slot) f e = refl
at_row p m pl (type.Adds slot) f e = refl
at_row p m pl (type.Constructs takes gives class before after) f e = refl
at_row p m pl (type.Leaves takes also) f e = refl

flow_made : (p : Program) (m : Method) (pl : ℕ) (c : ClassId) (may : Bool) (f f1 d : Types) → flow_mixes p (record f { stack = vtype.Top ∷ f.stack }) d ≡ false → by_row p m pl (type.Makes may) f ≡ Ok f1 → flow_mixes p f1 d ≡ false
flow_made p m pl c may f f1 d e is =
    let a = rule_passed 4 (type.has_room m (vtype.Uninit pl ∷ f.stack)) _ f1 is in
    let b = rule_passed 10 (not (list_any (is_same (vtype.Uninit pl)) f.stack)) _ f1 a.1 in
    let c = rule_passed 13 may _ f1 b.1 in
    ap (λ z. flow_mixes p z d) (ok_is (record f { locals = replaced (vtype.Uninit pl) vtype.Top f.locals; stack = vtype.Uninit pl ∷ f.stack }) f1 c.1)
    ∙ ap (λ z. z || any_mixes p (vtype.Uninit pl ∷ f.stack) d.stack) (mixes_replaced p (vtype.Uninit pl) f.locals d.locals (or_left (any_mixes p f.locals d.locals) _ e))
    ∙ sym (pushed_same p pl f.stack d.stack) ∙ or_right (any_mixes p f.locals d.locals) _ e

constant_plain : (p : Program) (v : Value) → is_makes (type.constant_row p v) ≡ false
unfolding is_makes
constant_plain p (value.Int n) = refl
constant_plain p (value.Text units) = refl
constant_plain p (value.Long n) = refl
constant_plain p value.Null = refl
constant_plain p (value.Ref n) = refl
constant_plain p (value.Box box) = refl
constant_plain p value.Fiber = refl

long_plain : (v : Value) → is_makes (type.long_constant_row v) ≡ false
unfolding is_makes
long_plain (value.Int n) = refl
long_plain (value.Text units) = refl
long_plain (value.Long n) = refl
long_plain value.Null = refl
long_plain (value.Ref n) = refl
long_plain (value.Box box) = refl
long_plain value.Fiber = refl

static_field : (x : FieldId) (m : Method) (o : Option Field) → is_makes (type.field_row (instr.Getstatic x) m o) ≡ false
unfolding is_makes
static_field x m None = refl
static_field x m (Some field) = refl

got_field : (x : FieldId) (m : Method) (o : Option Field) → is_makes (type.field_row (instr.Getfield x) m o) ≡ false
unfolding is_makes
got_field x m None = refl
got_field x m (Some field) = refl

put_field : (x : FieldId) (m : Method) (o : Option Field) → is_makes (type.field_row (instr.Putfield x) m o) ≡ false
unfolding is_makes
put_field x m None = refl
put_field x m (Some field) = refl

virtual_plain : (m : Method) (o : Option Method) → is_makes (type.virtual_row m o) ≡ false
unfolding is_makes
virtual_plain m None = refl
virtual_plain m (Some callee) = refl

static_plain : (m : Method) (o : Option Method) → is_makes (type.static_row m o) ≡ false
unfolding is_makes
static_plain m None = refl
static_plain m (Some callee) = refl

special_by_plain : (p : Program) (m : Method) (id : MethodId) (callee : Method) (b : Bool) → is_makes (type.special_by b p m id callee) ≡ false
unfolding is_makes
special_by_plain p m id callee true = refl
special_by_plain p m id callee false = refl

special_plain : (p : Program) (m : Method) (id : MethodId) (o : Option Method) → is_makes (type.special_row p m id o) ≡ false
unfolding is_makes
special_plain p m id None = refl
special_plain p m id (Some callee) = special_by_plain p m id callee (is_constructor callee)

pub flow_passed : (p : Program) (m : Method) (pl : ℕ) (i : Instr) (f f1 d : Types) → any_flow_mixes p (left_by p m i f) (Some d) ≡ false → type_step p m pl i f ≡ Ok f1 → flow_mixes p f1 d ≡ false
unfolding is_makes row
flow_passed p m pl instr.Nop f f1 d e is = flow_is p d (type_step p m 0 instr.Nop f) f1 e (at_row p m pl (row p m instr.Nop) f (refl) ∙ is)
flow_passed p m pl instr.AconstNull f f1 d e is = flow_is p d (type_step p m 0 instr.AconstNull f) f1 e (at_row p m pl (row p m instr.AconstNull) f (refl) ∙ is)
flow_passed p m pl (instr.Iconst x) f f1 d e is = flow_is p d (type_step p m 0 (instr.Iconst x) f) f1 e (at_row p m pl (row p m (instr.Iconst x)) f (refl) ∙ is)
flow_passed p m pl (instr.Lconst x) f f1 d e is = flow_is p d (type_step p m 0 (instr.Lconst x) f) f1 e (at_row p m pl (row p m (instr.Lconst x)) f (refl) ∙ is)
flow_passed p m pl (instr.Bipush x) f f1 d e is = flow_is p d (type_step p m 0 (instr.Bipush x) f) f1 e (at_row p m pl (row p m (instr.Bipush x)) f (refl) ∙ is)
flow_passed p m pl (instr.Sipush x) f f1 d e is = flow_is p d (type_step p m 0 (instr.Sipush x) f) f1 e (at_row p m pl (row p m (instr.Sipush x)) f (refl) ∙ is)
flow_passed p m pl (instr.Ldc x) f f1 d e is = flow_is p d (type_step p m 0 (instr.Ldc x) f) f1 e (at_row p m pl (row p m (instr.Ldc x)) f (constant_plain p x) ∙ is)
flow_passed p m pl (instr.LdcW x) f f1 d e is = flow_is p d (type_step p m 0 (instr.LdcW x) f) f1 e (at_row p m pl (row p m (instr.LdcW x)) f (constant_plain p x) ∙ is)
flow_passed p m pl (instr.Ldc2W x) f f1 d e is = flow_is p d (type_step p m 0 (instr.Ldc2W x) f) f1 e (at_row p m pl (row p m (instr.Ldc2W x)) f (long_plain x) ∙ is)
flow_passed p m pl (instr.Iload x) f f1 d e is = flow_is p d (type_step p m 0 (instr.Iload x) f) f1 e (at_row p m pl (row p m (instr.Iload x)) f (refl) ∙ is)
flow_passed p m pl (instr.Lload x) f f1 d e is = flow_is p d (type_step p m 0 (instr.Lload x) f) f1 e (at_row p m pl (row p m (instr.Lload x)) f (refl) ∙ is)
flow_passed p m pl (instr.Aload x) f f1 d e is = flow_is p d (type_step p m 0 (instr.Aload x) f) f1 e (at_row p m pl (row p m (instr.Aload x)) f (refl) ∙ is)
flow_passed p m pl instr.Iaload f f1 d e is = flow_is p d (type_step p m 0 instr.Iaload f) f1 e (at_row p m pl (row p m instr.Iaload) f (refl) ∙ is)
flow_passed p m pl instr.Laload f f1 d e is = flow_is p d (type_step p m 0 instr.Laload f) f1 e (at_row p m pl (row p m instr.Laload) f (refl) ∙ is)
flow_passed p m pl instr.Aaload f f1 d e is = flow_is p d (type_step p m 0 instr.Aaload f) f1 e (at_row p m pl (row p m instr.Aaload) f (refl) ∙ is)
flow_passed p m pl instr.Baload f f1 d e is = flow_is p d (type_step p m 0 instr.Baload f) f1 e (at_row p m pl (row p m instr.Baload) f (refl) ∙ is)
flow_passed p m pl instr.Caload f f1 d e is = flow_is p d (type_step p m 0 instr.Caload f) f1 e (at_row p m pl (row p m instr.Caload) f (refl) ∙ is)
flow_passed p m pl instr.Saload f f1 d e is = flow_is p d (type_step p m 0 instr.Saload f) f1 e (at_row p m pl (row p m instr.Saload) f (refl) ∙ is)
flow_passed p m pl (instr.Istore x) f f1 d e is = flow_is p d (type_step p m 0 (instr.Istore x) f) f1 e (at_row p m pl (row p m (instr.Istore x)) f (refl) ∙ is)
flow_passed p m pl (instr.Lstore x) f f1 d e is = flow_is p d (type_step p m 0 (instr.Lstore x) f) f1 e (at_row p m pl (row p m (instr.Lstore x)) f (refl) ∙ is)
flow_passed p m pl (instr.Astore x) f f1 d e is = flow_is p d (type_step p m 0 (instr.Astore x) f) f1 e (at_row p m pl (row p m (instr.Astore x)) f (refl) ∙ is)
flow_passed p m pl instr.Iastore f f1 d e is = flow_is p d (type_step p m 0 instr.Iastore f) f1 e (at_row p m pl (row p m instr.Iastore) f (refl) ∙ is)
flow_passed p m pl instr.Lastore f f1 d e is = flow_is p d (type_step p m 0 instr.Lastore f) f1 e (at_row p m pl (row p m instr.Lastore) f (refl) ∙ is)
flow_passed p m pl instr.Aastore f f1 d e is = flow_is p d (type_step p m 0 instr.Aastore f) f1 e (at_row p m pl (row p m instr.Aastore) f (refl) ∙ is)
flow_passed p m pl instr.Bastore f f1 d e is = flow_is p d (type_step p m 0 instr.Bastore f) f1 e (at_row p m pl (row p m instr.Bastore) f (refl) ∙ is)
flow_passed p m pl instr.Castore f f1 d e is = flow_is p d (type_step p m 0 instr.Castore f) f1 e (at_row p m pl (row p m instr.Castore) f (refl) ∙ is)
flow_passed p m pl instr.Sastore f f1 d e is = flow_is p d (type_step p m 0 instr.Sastore f) f1 e (at_row p m pl (row p m instr.Sastore) f (refl) ∙ is)
flow_passed p m pl instr.Pop f f1 d e is = flow_is p d (type_step p m 0 instr.Pop f) f1 e (at_row p m pl (row p m instr.Pop) f (refl) ∙ is)
flow_passed p m pl instr.Pop2 f f1 d e is = flow_is p d (type_step p m 0 instr.Pop2 f) f1 e (at_row p m pl (row p m instr.Pop2) f (refl) ∙ is)
flow_passed p m pl instr.Dup f f1 d e is = flow_is p d (type_step p m 0 instr.Dup f) f1 e (at_row p m pl (row p m instr.Dup) f (refl) ∙ is)
flow_passed p m pl instr.DupX1 f f1 d e is = flow_is p d (type_step p m 0 instr.DupX1 f) f1 e (at_row p m pl (row p m instr.DupX1) f (refl) ∙ is)
flow_passed p m pl instr.DupX2 f f1 d e is = flow_is p d (type_step p m 0 instr.DupX2 f) f1 e (at_row p m pl (row p m instr.DupX2) f (refl) ∙ is)
flow_passed p m pl instr.Dup2 f f1 d e is = flow_is p d (type_step p m 0 instr.Dup2 f) f1 e (at_row p m pl (row p m instr.Dup2) f (refl) ∙ is)
flow_passed p m pl instr.Dup2X1 f f1 d e is = flow_is p d (type_step p m 0 instr.Dup2X1 f) f1 e (at_row p m pl (row p m instr.Dup2X1) f (refl) ∙ is)
flow_passed p m pl instr.Dup2X2 f f1 d e is = flow_is p d (type_step p m 0 instr.Dup2X2 f) f1 e (at_row p m pl (row p m instr.Dup2X2) f (refl) ∙ is)
flow_passed p m pl instr.Swap f f1 d e is = flow_is p d (type_step p m 0 instr.Swap f) f1 e (at_row p m pl (row p m instr.Swap) f (refl) ∙ is)
flow_passed p m pl instr.Iadd f f1 d e is = flow_is p d (type_step p m 0 instr.Iadd f) f1 e (at_row p m pl (row p m instr.Iadd) f (refl) ∙ is)
flow_passed p m pl instr.Ladd f f1 d e is = flow_is p d (type_step p m 0 instr.Ladd f) f1 e (at_row p m pl (row p m instr.Ladd) f (refl) ∙ is)
flow_passed p m pl instr.Isub f f1 d e is = flow_is p d (type_step p m 0 instr.Isub f) f1 e (at_row p m pl (row p m instr.Isub) f (refl) ∙ is)
flow_passed p m pl instr.Lsub f f1 d e is = flow_is p d (type_step p m 0 instr.Lsub f) f1 e (at_row p m pl (row p m instr.Lsub) f (refl) ∙ is)
flow_passed p m pl instr.Imul f f1 d e is = flow_is p d (type_step p m 0 instr.Imul f) f1 e (at_row p m pl (row p m instr.Imul) f (refl) ∙ is)
flow_passed p m pl instr.Lmul f f1 d e is = flow_is p d (type_step p m 0 instr.Lmul f) f1 e (at_row p m pl (row p m instr.Lmul) f (refl) ∙ is)
flow_passed p m pl instr.Idiv f f1 d e is = flow_is p d (type_step p m 0 instr.Idiv f) f1 e (at_row p m pl (row p m instr.Idiv) f (refl) ∙ is)
flow_passed p m pl instr.Ldiv f f1 d e is = flow_is p d (type_step p m 0 instr.Ldiv f) f1 e (at_row p m pl (row p m instr.Ldiv) f (refl) ∙ is)
flow_passed p m pl instr.Irem f f1 d e is = flow_is p d (type_step p m 0 instr.Irem f) f1 e (at_row p m pl (row p m instr.Irem) f (refl) ∙ is)
flow_passed p m pl instr.Lrem f f1 d e is = flow_is p d (type_step p m 0 instr.Lrem f) f1 e (at_row p m pl (row p m instr.Lrem) f (refl) ∙ is)
flow_passed p m pl instr.Ineg f f1 d e is = flow_is p d (type_step p m 0 instr.Ineg f) f1 e (at_row p m pl (row p m instr.Ineg) f (refl) ∙ is)
flow_passed p m pl instr.Lneg f f1 d e is = flow_is p d (type_step p m 0 instr.Lneg f) f1 e (at_row p m pl (row p m instr.Lneg) f (refl) ∙ is)
flow_passed p m pl instr.Ishl f f1 d e is = flow_is p d (type_step p m 0 instr.Ishl f) f1 e (at_row p m pl (row p m instr.Ishl) f (refl) ∙ is)
flow_passed p m pl instr.Lshl f f1 d e is = flow_is p d (type_step p m 0 instr.Lshl f) f1 e (at_row p m pl (row p m instr.Lshl) f (refl) ∙ is)
flow_passed p m pl instr.Ishr f f1 d e is = flow_is p d (type_step p m 0 instr.Ishr f) f1 e (at_row p m pl (row p m instr.Ishr) f (refl) ∙ is)
flow_passed p m pl instr.Lshr f f1 d e is = flow_is p d (type_step p m 0 instr.Lshr f) f1 e (at_row p m pl (row p m instr.Lshr) f (refl) ∙ is)
flow_passed p m pl instr.Iushr f f1 d e is = flow_is p d (type_step p m 0 instr.Iushr f) f1 e (at_row p m pl (row p m instr.Iushr) f (refl) ∙ is)
flow_passed p m pl instr.Lushr f f1 d e is = flow_is p d (type_step p m 0 instr.Lushr f) f1 e (at_row p m pl (row p m instr.Lushr) f (refl) ∙ is)
flow_passed p m pl instr.Iand f f1 d e is = flow_is p d (type_step p m 0 instr.Iand f) f1 e (at_row p m pl (row p m instr.Iand) f (refl) ∙ is)
flow_passed p m pl instr.Land f f1 d e is = flow_is p d (type_step p m 0 instr.Land f) f1 e (at_row p m pl (row p m instr.Land) f (refl) ∙ is)
flow_passed p m pl instr.Ior f f1 d e is = flow_is p d (type_step p m 0 instr.Ior f) f1 e (at_row p m pl (row p m instr.Ior) f (refl) ∙ is)
flow_passed p m pl instr.Lor f f1 d e is = flow_is p d (type_step p m 0 instr.Lor f) f1 e (at_row p m pl (row p m instr.Lor) f (refl) ∙ is)
flow_passed p m pl instr.Ixor f f1 d e is = flow_is p d (type_step p m 0 instr.Ixor f) f1 e (at_row p m pl (row p m instr.Ixor) f (refl) ∙ is)
flow_passed p m pl instr.Lxor f f1 d e is = flow_is p d (type_step p m 0 instr.Lxor f) f1 e (at_row p m pl (row p m instr.Lxor) f (refl) ∙ is)
flow_passed p m pl (instr.Iinc x y) f f1 d e is = flow_is p d (type_step p m 0 (instr.Iinc x y) f) f1 e (at_row p m pl (row p m (instr.Iinc x y)) f (refl) ∙ is)
flow_passed p m pl instr.I2l f f1 d e is = flow_is p d (type_step p m 0 instr.I2l f) f1 e (at_row p m pl (row p m instr.I2l) f (refl) ∙ is)
flow_passed p m pl instr.L2i f f1 d e is = flow_is p d (type_step p m 0 instr.L2i f) f1 e (at_row p m pl (row p m instr.L2i) f (refl) ∙ is)
flow_passed p m pl instr.I2b f f1 d e is = flow_is p d (type_step p m 0 instr.I2b f) f1 e (at_row p m pl (row p m instr.I2b) f (refl) ∙ is)
flow_passed p m pl instr.I2c f f1 d e is = flow_is p d (type_step p m 0 instr.I2c f) f1 e (at_row p m pl (row p m instr.I2c) f (refl) ∙ is)
flow_passed p m pl instr.I2s f f1 d e is = flow_is p d (type_step p m 0 instr.I2s f) f1 e (at_row p m pl (row p m instr.I2s) f (refl) ∙ is)
flow_passed p m pl instr.Lcmp f f1 d e is = flow_is p d (type_step p m 0 instr.Lcmp f) f1 e (at_row p m pl (row p m instr.Lcmp) f (refl) ∙ is)
flow_passed p m pl (instr.Ifeq x) f f1 d e is = flow_is p d (type_step p m 0 (instr.Ifeq x) f) f1 e (at_row p m pl (row p m (instr.Ifeq x)) f (refl) ∙ is)
flow_passed p m pl (instr.Ifne x) f f1 d e is = flow_is p d (type_step p m 0 (instr.Ifne x) f) f1 e (at_row p m pl (row p m (instr.Ifne x)) f (refl) ∙ is)
flow_passed p m pl (instr.Iflt x) f f1 d e is = flow_is p d (type_step p m 0 (instr.Iflt x) f) f1 e (at_row p m pl (row p m (instr.Iflt x)) f (refl) ∙ is)
flow_passed p m pl (instr.Ifge x) f f1 d e is = flow_is p d (type_step p m 0 (instr.Ifge x) f) f1 e (at_row p m pl (row p m (instr.Ifge x)) f (refl) ∙ is)
flow_passed p m pl (instr.Ifgt x) f f1 d e is = flow_is p d (type_step p m 0 (instr.Ifgt x) f) f1 e (at_row p m pl (row p m (instr.Ifgt x)) f (refl) ∙ is)
flow_passed p m pl (instr.Ifle x) f f1 d e is = flow_is p d (type_step p m 0 (instr.Ifle x) f) f1 e (at_row p m pl (row p m (instr.Ifle x)) f (refl) ∙ is)
flow_passed p m pl (instr.IfIcmpeq x) f f1 d e is = flow_is p d (type_step p m 0 (instr.IfIcmpeq x) f) f1 e (at_row p m pl (row p m (instr.IfIcmpeq x)) f (refl) ∙ is)
flow_passed p m pl (instr.IfIcmpne x) f f1 d e is = flow_is p d (type_step p m 0 (instr.IfIcmpne x) f) f1 e (at_row p m pl (row p m (instr.IfIcmpne x)) f (refl) ∙ is)
flow_passed p m pl (instr.IfIcmplt x) f f1 d e is = flow_is p d (type_step p m 0 (instr.IfIcmplt x) f) f1 e (at_row p m pl (row p m (instr.IfIcmplt x)) f (refl) ∙ is)
flow_passed p m pl (instr.IfIcmpge x) f f1 d e is = flow_is p d (type_step p m 0 (instr.IfIcmpge x) f) f1 e (at_row p m pl (row p m (instr.IfIcmpge x)) f (refl) ∙ is)
flow_passed p m pl (instr.IfIcmpgt x) f f1 d e is = flow_is p d (type_step p m 0 (instr.IfIcmpgt x) f) f1 e (at_row p m pl (row p m (instr.IfIcmpgt x)) f (refl) ∙ is)
flow_passed p m pl (instr.IfIcmple x) f f1 d e is = flow_is p d (type_step p m 0 (instr.IfIcmple x) f) f1 e (at_row p m pl (row p m (instr.IfIcmple x)) f (refl) ∙ is)
flow_passed p m pl (instr.IfAcmpeq x) f f1 d e is = flow_is p d (type_step p m 0 (instr.IfAcmpeq x) f) f1 e (at_row p m pl (row p m (instr.IfAcmpeq x)) f (refl) ∙ is)
flow_passed p m pl (instr.IfAcmpne x) f f1 d e is = flow_is p d (type_step p m 0 (instr.IfAcmpne x) f) f1 e (at_row p m pl (row p m (instr.IfAcmpne x)) f (refl) ∙ is)
flow_passed p m pl (instr.Goto x) f f1 d e is = flow_is p d (type_step p m 0 (instr.Goto x) f) f1 e (at_row p m pl (row p m (instr.Goto x)) f (refl) ∙ is)
flow_passed p m pl (instr.Tableswitch x y z) f f1 d e is = flow_is p d (type_step p m 0 (instr.Tableswitch x y z) f) f1 e (at_row p m pl (row p m (instr.Tableswitch x y z)) f (refl) ∙ is)
flow_passed p m pl (instr.Lookupswitch x y) f f1 d e is = flow_is p d (type_step p m 0 (instr.Lookupswitch x y) f) f1 e (at_row p m pl (row p m (instr.Lookupswitch x y)) f (refl) ∙ is)
flow_passed p m pl instr.Ireturn f f1 d e is = flow_is p d (type_step p m 0 instr.Ireturn f) f1 e (at_row p m pl (row p m instr.Ireturn) f (refl) ∙ is)
flow_passed p m pl instr.Lreturn f f1 d e is = flow_is p d (type_step p m 0 instr.Lreturn f) f1 e (at_row p m pl (row p m instr.Lreturn) f (refl) ∙ is)
flow_passed p m pl instr.Areturn f f1 d e is = flow_is p d (type_step p m 0 instr.Areturn f) f1 e (at_row p m pl (row p m instr.Areturn) f (refl) ∙ is)
flow_passed p m pl instr.Return f f1 d e is = flow_is p d (type_step p m 0 instr.Return f) f1 e (at_row p m pl (row p m instr.Return) f (refl) ∙ is)
flow_passed p m pl (instr.Getstatic x) f f1 d e is = flow_is p d (type_step p m 0 (instr.Getstatic x) f) f1 e (at_row p m pl (row p m (instr.Getstatic x)) f (static_field x m (field_of p x)) ∙ is)
flow_passed p m pl (instr.Getfield x) f f1 d e is = flow_is p d (type_step p m 0 (instr.Getfield x) f) f1 e (at_row p m pl (row p m (instr.Getfield x)) f (got_field x m (field_of p x)) ∙ is)
flow_passed p m pl (instr.Putfield x) f f1 d e is = flow_is p d (type_step p m 0 (instr.Putfield x) f) f1 e (at_row p m pl (row p m (instr.Putfield x)) f (put_field x m (field_of p x)) ∙ is)
flow_passed p m pl (instr.Invokevirtual x) f f1 d e is = flow_is p d (type_step p m 0 (instr.Invokevirtual x) f) f1 e (at_row p m pl (row p m (instr.Invokevirtual x)) f (virtual_plain m (method_at p x)) ∙ is)
flow_passed p m pl (instr.Invokespecial x) f f1 d e is = flow_is p d (type_step p m 0 (instr.Invokespecial x) f) f1 e (at_row p m pl (row p m (instr.Invokespecial x)) f (special_plain p m x (method_at p x)) ∙ is)
flow_passed p m pl (instr.Invokestatic x) f f1 d e is = flow_is p d (type_step p m 0 (instr.Invokestatic x) f) f1 e (at_row p m pl (row p m (instr.Invokestatic x)) f (static_plain m (method_at p x)) ∙ is)
flow_passed p m pl (instr.New x) f f1 d e is = flow_made p m pl x (type.may_make p x (class_at p x)) f f1 d e is
flow_passed p m pl (instr.Newarray x) f f1 d e is = flow_is p d (type_step p m 0 (instr.Newarray x) f) f1 e (at_row p m pl (row p m (instr.Newarray x)) f (refl) ∙ is)
flow_passed p m pl (instr.Anewarray x) f f1 d e is = flow_is p d (type_step p m 0 (instr.Anewarray x) f) f1 e (at_row p m pl (row p m (instr.Anewarray x)) f (refl) ∙ is)
flow_passed p m pl instr.Arraylength f f1 d e is = flow_is p d (type_step p m 0 instr.Arraylength f) f1 e (at_row p m pl (row p m instr.Arraylength) f (refl) ∙ is)
flow_passed p m pl (instr.Checkcast x) f f1 d e is = flow_is p d (type_step p m 0 (instr.Checkcast x) f) f1 e (at_row p m pl (row p m (instr.Checkcast x)) f (refl) ∙ is)
flow_passed p m pl (instr.Instanceof x) f f1 d e is = flow_is p d (type_step p m 0 (instr.Instanceof x) f) f1 e (at_row p m pl (row p m (instr.Instanceof x)) f (refl) ∙ is)
flow_passed p m pl (instr.Ifnull x) f f1 d e is = flow_is p d (type_step p m 0 (instr.Ifnull x) f) f1 e (at_row p m pl (row p m (instr.Ifnull x)) f (refl) ∙ is)
flow_passed p m pl (instr.Ifnonnull x) f f1 d e is = flow_is p d (type_step p m 0 (instr.Ifnonnull x) f) f1 e (at_row p m pl (row p m (instr.Ifnonnull x)) f (refl) ∙ is)
flow_passed p m pl (instr.GotoW x) f f1 d e is = flow_is p d (type_step p m 0 (instr.GotoW x) f) f1 e (at_row p m pl (row p m (instr.GotoW x)) f (refl) ∙ is)
flow_passed p m pl instr.Athrow f f1 d e is = flow_is p d (type_step p m 0 instr.Athrow f) f1 e (at_row p m pl (row p m instr.Athrow) f (refl) ∙ is)
