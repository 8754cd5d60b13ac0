-- What the laws of woven files rest on: what is known of old and woven code, of frames and of a method.
use Rattle.std.specs.Prelude.{◌≡◌, ℕ, suc, ◌≤◌, ◌<◌, Bool, true, false, pos, List, [], ◌∷◌, ◌++◌, length, Option, Some, None, Ok}
use Rattle.kilim_class_attributes.specs.declared.attribute.Code.{Code}
use Rattle.kilim_class_code.specs.Code.{Placed}
use Rattle.kilim_class_code.specs.Exact.{BodyFits}
use Rattle.kilim_program.specs.Names.{method_at}
use Rattle.kilim_program.specs.Program.{Program}
use Rattle.kilim_program.specs.declared.class.Method.{Method}
use Rattle.kilim_program.specs.declared.instr.Instr.{Instr}
use Rattle.kilim_program.specs.declared.instr.Instr.TheVariants.{AconstNull, Aload, Areturn, Astore, Bipush, Checkcast, Goto, Iconst, Ifeq, Iload, Invokespecial, Invokestatic, Invokevirtual, Ireturn, Istore, Lconst, Lload, Lreturn, Lstore, Pop, Pop2, Return, Sipush, Tableswitch}
use Rattle.kilim_program.specs.declared.names.ClassId.{ClassId}
use Rattle.kilim_program.specs.declared.ty.Ty.{Ty}
use Rattle.kilim_program.specs.declared.verified.Frame.{Frame}
use Rattle.kilim_program.specs.declared.verified.VType.{VType}
use Rattle.kilim_program.specs.declared.verified.VType.TheVariants.{Long, Object, Top}
use Rattle.kilim_class_file.specs.Parts.{text_of}
use Rattle.kilim_class_file.specs.declared.class_file.ClassFile.{ClassFile}
use Rattle.kilim_class_pool.specs.Entries.{entry_at}
use Rattle.kilim_class_pool.specs.declared.entry.Entry.{Entry}
use Rattle.kilim_class_pool.specs.declared.entry.Entry.TheVariants.{Utf8}
use Rattle.kilim_link_spec.specs.Code.{decoded, instr_in, placed_in}
use Rattle.kilim_link_spec.specs.Linked.{code_attribute, method_with, no_body}
use Rattle.kilim_link_spec.specs.Types.{each_of, named_by, result_in, type_in, type_named, types_in}
use Rattle.kilim_link_spec.specs.World.{World, class_text, member_descriptor}
use Rattle.kilim_link_spec.specs.declared.fault.MemberOf.{MemberOf as MemberRef}
use Rattle.kilim_link_spec.specs.declared.named.Body.{Body}
use Rattle.kilim_class_code.specs.declared.opcodes.instr.RawInstr.{RawInstr}
use Rattle.kilim_class_making.specs.pool_needs.Adding.{index_of, text_index}
use Rattle.kilim_weave_file_spec.specs.Raw.{call_need, old_need, pauses, raw_code}
use Rattle.kilim_weave_file_spec.specs.Texts.{fiber_text, needed_method, type_name, woven_descriptor}
use Rattle.kilim_weave_file_spec.specs.WovenFile.{MethodPair, has_calls, rewritten, woven_bytes}
use Rattle.kilim_class_making.specs.declared.pool_needs.need.Need.{Need}
use Rattle.kilim_class_making.specs.declared.pool_needs.need.Need.TheVariants.{ACall, AClass}
use Rattle.kilim_theorems.specs.woven_files.Descriptors.{IsPlain}
use Rattle.kilim_theorems.specs.woven_files.Resolving.{IsFound, WorldsAgree}
use Rattle.kilim_weave_spec.specs.Woven.{moved_instr}
use Rattle.kilim_theorems.specs.woven_files.pool.Pools.{Names, SameOperands}
use Rattle.std.specs.List.{AllByRecursion}
use Rattle.kilim_class_code.specs.declared.opcodes.instr.RawInstr.TheVariants as raw

-- the instruction calls no method that pauses
abbrev pub CallsNone : Program → Instr → Type 0
CallsNone w (Invokevirtual id) = pauses (method_at w id) ≡ false
CallsNone w (Invokespecial id) = pauses (method_at w id) ≡ false
CallsNone w (Invokestatic id) = pauses (method_at w id) ≡ false
CallsNone w i = Unit {0}

-- the world finds the type of each class or array by the text of its entry, and the entry is there
abbrev pub TypeIsFound : World → Program → List Entry → VType → Type 0
TypeIsFound v w pool (Object ty) = (class_text pool (index_of pool (AClass (type_name w ty))) ≡ type_name w ty) × (type_named v (named_by (type_name w ty)) ≡ Some ty)
TypeIsFound v w pool t = Unit {0}

abbrev pub TypesAreFound : World → Program → List Entry → List VType → Type 0
TypesAreFound v w pool ts = AllByRecursion (TypeIsFound v w pool) ts

-- a long has its half behind it
abbrev pub Halved : List VType → Type 0
Halved [] = Unit {0}
Halved (Long ∷ []) = ⊥
Halved (Long ∷ Top ∷ ts) = Halved ts
Halved (Long ∷ t ∷ ts) = ⊥
Halved (t ∷ ts) = Halved ts

pub record FrameFound (v : World) (w : Program) (pool : List Entry) (f : Frame) : Type 0 where
  pub halved : Halved f.locals
  pub locals : TypesAreFound v w pool f.locals
  pub stack : TypesAreFound v w pool f.stack

-- places increase
abbrev pub Increase : ℕ → List (ℕ × Frame) → Type 0
Increase next [] = Unit {0}
Increase next (e ∷ es) = (next ≤ e.0) × Increase (suc e.0) es

-- the entry of a call, by its parts
pub record CallParts (old : List Entry) (e : Option Entry) (ref : MemberRef) : Type 0 where
  pub class : ℕ
  pub name : ℕ
  pub descriptor : ℕ
  pub need : call_need old e ≡ Some (ACall class name (woven_descriptor (text_of old descriptor)))
  pub is : ref ≡ record { owner = class_text old class; name = text_of old name; descriptor = text_of old descriptor }

-- the pool names what the call needs
abbrev pub NeedNamed : List Entry → Option Need → Type 0
NeedNamed pool None = Unit {0}
NeedNamed pool (Some need) = Names pool need

-- old classes and names are the same in the pool
pub record SameTexts (old pool : List Entry) : Type 0 where
  pub ref : (index : ℕ) (r : MemberRef) (c : CallParts old (entry_at old index) r) → (class_text pool c.class ≡ class_text old c.class) × (text_of pool c.name ≡ text_of old c.name)

-- an `ldc` calls nothing
abbrev pub LdcCallsNone : Program → RawInstr → Instr → Type 0
LdcCallsNone w (raw.Constant number index) i = CallsNone w i
LdcCallsNone w r i = Unit {0}

-- what an old instruction needs is named
abbrev pub OldNamed : Program → List Entry → List Entry → Instr → RawInstr → Type 0
OldNamed w old pool i r = NeedNamed pool (old_need w old i r)

-- the pool names it, and the world finds it
abbrev pub AddedFits : World → Program → List Entry → Instr → Type 0
AddedFits v w pool (Iload slot) = Unit {0}
AddedFits v w pool (Lload slot) = Unit {0}
AddedFits v w pool (Aload slot) = Unit {0}
AddedFits v w pool (Istore slot) = Unit {0}
AddedFits v w pool (Lstore slot) = Unit {0}
AddedFits v w pool (Astore slot) = Unit {0}
AddedFits v w pool AconstNull = Unit {0}
AddedFits v w pool (Iconst (pos n)) = n < 6
AddedFits v w pool (Lconst (pos n)) = n < 2
AddedFits v w pool (Bipush n) = Unit {0}
AddedFits v w pool (Sipush n) = Unit {0}
AddedFits v w pool Pop = Unit {0}
AddedFits v w pool Pop2 = Unit {0}
AddedFits v w pool Ireturn = Unit {0}
AddedFits v w pool Lreturn = Unit {0}
AddedFits v w pool Areturn = Unit {0}
AddedFits v w pool Return = Unit {0}
AddedFits v w pool (Ifeq to) = Unit {0}
AddedFits v w pool (Goto to) = Unit {0}
AddedFits v w pool (Tableswitch default low targets) = Unit {0}
AddedFits v w pool (Invokevirtual id) = Names pool (needed_method w id) × IsFound v (needed_method w id) id
AddedFits v w pool (Invokestatic id) = Names pool (needed_method w id) × IsFound v (needed_method w id) id
AddedFits v w pool (Checkcast ty) = Names pool (AClass (type_name w ty)) × (type_named v (named_by (type_name w ty)) ≡ Some ty)
AddedFits v w pool i = ⊥

-- the instructions of a woven code with the old ones that they are made from
abbrev pub CodeFits : World → World → Program → List Entry → List Entry → (ℕ → ℕ) → List (ℕ × Instr) → List Bool → List Placed → Type 0
CodeFits u v w old pool at [] [] [] = Unit {0}
CodeFits u v w old pool at (e ∷ es) (true ∷ marks) (r ∷ rs) =
    ((i : Instr) × (e.1 ≡ moved_instr at i) × (instr_in u old r.1 ≡ Some i) × LdcCallsNone w r.1 i × OldNamed w old pool e.1 r.1) × CodeFits u v w old pool at es marks rs
CodeFits u v w old pool at (e ∷ es) (false ∷ marks) rs = AddedFits v w pool e.1 × CodeFits u v w old pool at es marks rs
CodeFits u v w old pool at _ _ _ = ⊥

abbrev pub CodeCallsNone : Program → List (ℕ × Instr) → Type 0
CodeCallsNone w code = AllByRecursion (λ (e : ℕ × Instr). CallsNone w e.1) code

-- what the code of a method is made from
pub record CodeStands (w : Program) (u v : World) (old pool : List Entry) (at : ℕ → ℕ) (x : MethodPair) (code : Code) : Type 0 where
  pub agree : WorldsAgree w u v
  pub same : SameOperands old pool
  pub texts : SameTexts old pool
  pub olds : List Placed
  pub decoded_is : decoded code.code ≡ Ok olds
  -- with pausable calls the code is woven, else kept
  pub woven : has_calls w x.method ≡ true → BodyFits (raw_code w old pool x.method.code x.counted olds) × CodeFits u v w old pool at x.method.code x.counted olds
  pub kept : has_calls w x.method ≡ false → CodeCallsNone w x.method.code × (each_of (placed_in u old) olds ≡ Some x.method.code)
  -- a method that pauses has no exception table
  pub rows : code.exception_table ≡ []
  pub handlers : x.method.handlers ≡ []

pub record FramesStand (v : World) (w : Program) (pool : List Entry) (x : MethodPair) : Type 0 where
  pub increase : Increase 0 x.method.frames
  pub found : AllByRecursion (λ (e : ℕ × Frame). FrameFound v w pool e.1) x.method.frames

-- the body of a method
abbrev pub body_of : Method → Body
body_of m = record { max_stack = m.max_stack; max_locals = m.max_locals; code_length = m.code_length; code = m.code; frames = m.frames; handlers = m.handlers }

-- what is known of a method that pauses, and of its code
pub record MethodStands (w : Program) (u v : World) (file woven : ClassFile) (c : ClassId) (at : ℕ → ℕ) (x : MethodPair) : Type 0 where
  -- the descriptor: in the file, and with the fiber in the new pool
  pub plain : IsPlain (member_descriptor file x.info)
  pub text : entry_at woven.constant_pool (text_index woven.constant_pool (woven_descriptor (member_descriptor file x.info))) ≡ Some (Utf8 (woven_descriptor (member_descriptor file x.info)))
  -- its types in the woven world
  pub params : List Ty
  pub fiber : Ty
  pub params_are : types_in v plain.method.params ≡ Some params
  pub fiber_is : type_in v fiber_text ≡ Some fiber
  pub result_is : result_in v plain.method.result ≡ Some x.method.result
  pub params_is : x.method.params ≡ params ++ fiber ∷ []
  -- its code, if it has one
  pub code : (code : Code) → code_attribute x.info ≡ Some code → CodeStands w u v file.constant_pool woven.constant_pool at x code × FramesStand v w woven.constant_pool x × (x.method.code_length ≡ length (woven_bytes w file.constant_pool woven.constant_pool x.method x.counted code))
  pub abstract : code_attribute x.info ≡ None → no_body ≡ body_of x.method
  -- the rest of it, in the woven world
  pub rest : method_with v woven c (rewritten w file woven.constant_pool x.method x.counted x.info) x.method.params x.method.result (body_of x.method) ≡ x.method
