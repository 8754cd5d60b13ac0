-- What stands in the slots of a frame and in a heap, seen from one mailbox.
use Rattle.std.proofs.Common.{◌≡◌, inl, inr, ℕ, zero, suc, Bool, true, false, cond, eqb, List, [], ◌∷◌, ◌++◌, replicate, Option, Some, None, refl, sym, ap, subst, ◌∙◌}
use Rattle.std.specs.Prelude.{◌&&◌, ◌||◌, not, slice_get, slice_set}
use Rattle.std.specs.FinMap.{get, insert}
use Rattle.std.specs.List.{AllByRecursion}
use Rattle.std.proofs.lemmas.Bool.{eqb-true}
use Rattle.std.proofs.lemmas.Bool.Decides.{eqb_tells}
use Rattle.kilim_program.specs.declared.names.BoxName.{BoxName}
use Rattle.kilim_program.specs.declared.names.FieldId.{FieldId}
use Rattle.kilim_program.specs.declared.value.Value.{Value}
use Rattle.kilim_program.specs.declared.value.Value.TheVariants as value
use Rattle.kilim_program.specs.declared.verified.VType.{VType}
use Rattle.kilim_program.specs.declared.verified.VType.TheVariants.{Top, Int, Long, Null, UninitThis, Uninit, Object}
use Rattle.kilim_program.specs.Program.{Program}
use Rattle.kilim_run_state.specs.declared.value.Object.{Object as HeapObject}
use Rattle.kilim_run_state.specs.Machine.{Objects}
use Rattle.kilim_run_state.specs.Shapes.{field_in}
use Rattle.kilim_run_machine.specs.Does.{with_field}
use Rattle.kilim_run_model.specs.State.{same_box}
use Rattle.kilim_lemmas.proofs.Maps.{put_there, put_other}
use Rattle.kilim_type_spec.specs.Step.{assignable, is_same, is_top, is_unset, peek}

-- it is this mailbox
abbrev pub is_box : BoxName → Value → Bool
is_box b (value.Box x) = same_box b x
is_box b v = false

-- where the mailbox stands in a frame: in no slot; in each slot of the type of what the `new` at a place makes (JVMS 4.10.1.9), and in no
-- other; or in slots of initialized types alone
pub data Mode : Type 0 where
  Away : Mode
  Raw : (at : ℕ) → Mode
  Known : Mode

abbrev pub so : Mode → Bool → VType → Bool
so Away box t = not box
so (Raw at) true t = is_same (Uninit at) t
so (Raw at) false t = not (is_same (Uninit at) t)
so Known box t = not (box && is_unset t)

-- a slot of that type; a slot of type Top holds whatever it may
abbrev pub slot_so : BoxName → Mode → VType → Value → Bool
slot_so b m t v = is_top t || so m (is_box b v) t

-- a value that is in a heap, or has an initialized type
abbrev pub good : Mode → Bool → Bool
good Away box = not box
good (Raw at) box = not box
good Known box = true

abbrev pub value_so : BoxName → Mode → Value → Bool
value_so b m v = good m (is_box b v)

-- ---- types

good_raw : (at : ℕ) (box : Bool) (t : VType) → is_unset t ≡ false → so (Raw at) box t ≡ good (Raw at) box
good_raw at true Top e = refl
good_raw at true Int e = refl
good_raw at true Long e = refl
good_raw at true Null e = refl
good_raw at true (Object ty) e = refl
good_raw at true UninitThis e = refl
good_raw at true (Uninit q) e = absurd (cc)
good_raw at false Top e = refl
good_raw at false Int e = refl
good_raw at false Long e = refl
good_raw at false Null e = refl
good_raw at false (Object ty) e = refl
good_raw at false UninitThis e = refl
good_raw at false (Uninit q) e = absurd (cc)

pub good_is : (m : Mode) (box : Bool) (t : VType) → is_unset t ≡ false → so m box t ≡ good m box
good_is Away box t e = refl
good_is (Raw at) box t e = good_raw at box t e
good_is Known true t e = ap not e
good_is Known false t e = refl

or_good : (z : Bool) (x : Bool) → z ≡ false → (z || x) ≡ true → x ≡ true
or_good true x e k = absurd (cc)
or_good false x e k = k

from_right : (z x : Bool) → x ≡ true → (z || x) ≡ true
from_right true x e = refl
from_right false x e = e

-- what stands in a slot of an initialized type is good, and what is good may stand in one
pub slot_good : (b : BoxName) (m : Mode) (t : VType) (v : Value) → is_unset t ≡ false → is_top t ≡ false → slot_so b m t v ≡ true → value_so b m v ≡ true
slot_good b m t v u n e = sym (good_is m (is_box b v) t u) ∙ or_good (is_top t) _ n e

pub good_slot : (b : BoxName) (m : Mode) (t : VType) (v : Value) → is_unset t ≡ false → value_so b m v ≡ true → slot_so b m t v ≡ true
good_slot b m t v u e = from_right (is_top t) _ (good_is m (is_box b v) t u ∙ e)

pub slot_flows : (p : Program) (b : BoxName) (m : Mode) (t u : VType) (v : Value) → assignable p t u ≡ true → slot_so b m t v ≡ true → slot_so b m u v ≡ true
slot_flows p b m t Top v a e = refl
slot_flows p b m Int Int v a e = e
slot_flows p b m Long Long v a e = e
slot_flows p b m Null Null v a e = e
slot_flows p b m UninitThis UninitThis v a e = e
slot_flows p b m (Uninit q) (Uninit r) v a e = subst (λ (z : ℕ). slot_so b m (Uninit z) v ≡ true) (eqb-true q r a) e
slot_flows p b m Null (Object ty) v a e = good_slot b m (Object ty) v refl (slot_good b m Null v refl refl e)
slot_flows p b m (Object c) (Object ty) v a e = good_slot b m (Object ty) v refl (slot_good b m (Object c) v refl refl e)
slot_flows p b m t u v a e = absurd (cc)

-- ---- stacks and locals

abbrev pub StackSo : BoxName → Mode → List VType → List Value → Type 0
StackSo b m [] [] = Unit {0}
StackSo b m [] (v ∷ vs) = ⊥
StackSo b m (t ∷ ts) [] = ⊥
StackSo b m (t ∷ ts) (v ∷ vs) = (slot_so b m t v ≡ true) × StackSo b m ts vs

abbrev pub SlotSo : BoxName → Mode → VType → Option Value → Type 0
SlotSo b m t None = Unit {0}
SlotSo b m t (Some v) = slot_so b m t v ≡ true

abbrev pub LocalsSo : BoxName → Mode → List VType → List Value → Type 0
LocalsSo b m ts ls = (k : ℕ) → SlotSo b m (peek ts k) (slice_get ls k)

-- ---- values

abbrev pub ValuesSo : BoxName → Mode → List Value → Type 0
ValuesSo b m vs = AllByRecursion (λ (v : Value). value_so b m v ≡ true) vs

abbrev pub ObjectSo : BoxName → Mode → HeapObject → Type 0
ObjectSo b m o = AllByRecursion (λ (e : FieldId × Value). value_so b m e.1 ≡ true) o.fields × ValuesSo b m o.elements

abbrev pub HeapSo : BoxName → Mode → Objects → Type 0
HeapSo b m h = (n : ℕ) (o : HeapObject) → get h n ≡ Some o → ObjectSo b m o

pub get_so : (b : BoxName) (m : Mode) (vs : List Value) (k : ℕ) (v : Value) → ValuesSo b m vs → slice_get vs k ≡ Some v → value_so b m v ≡ true
get_so b m [] k v a e = absurd (cc)
get_so b m (x ∷ vs) zero v a e = subst (λ (z : Value). value_so b m z ≡ true) (let s : x ≡ v = cc in s) a.0
get_so b m (x ∷ vs) (suc k) v a e = get_so b m vs k v a.1 e

pub set_so : (b : BoxName) (m : Mode) (vs : List Value) (k : ℕ) (v : Value) → ValuesSo b m vs → value_so b m v ≡ true → ValuesSo b m (slice_set vs k v)
set_so b m [] k v a e = a
set_so b m (x ∷ vs) zero v a e = (e, a.1)
set_so b m (x ∷ vs) (suc k) v a e = (a.0, set_so b m vs k v a.1 e)

pub same_so : (b : BoxName) (m : Mode) (n : ℕ) (v : Value) → value_so b m v ≡ true → ValuesSo b m (replicate n v)
same_so b m zero v e = tt
same_so b m (suc n) v e = (e, same_so b m n v e)

pub joined_so : (b : BoxName) (m : Mode) (vs ws : List Value) → ValuesSo b m vs → ValuesSo b m ws → ValuesSo b m (vs ++ ws)
joined_so b m [] ws a c = c
joined_so b m (v ∷ vs) ws a c = (a.0, joined_so b m vs ws a.1 c)

abbrev pub FieldsSo : BoxName → Mode → List (FieldId × Value) → Type 0
FieldsSo b m es = AllByRecursion (λ (e : FieldId × Value). value_so b m e.1 ≡ true) es

pub field_so : (b : BoxName) (m : Mode) (es : List (FieldId × Value)) (f : FieldId) (v : Value) → FieldsSo b m es → field_in es f ≡ Some v → value_so b m v ≡ true
field_so b m [] f v a e = absurd (cc)
field_so b m (x ∷ es) f v a e = by (eqb x.0.0 f.0) e (λ k. field_so b m es f v a.1 k)
  where
    by : (z : Bool) → cond z (Some x.1) (field_in es f) ≡ Some v → (field_in es f ≡ Some v → value_so b m v ≡ true) → value_so b m v ≡ true
    by true e again = subst (λ (y : Value). value_so b m y ≡ true) (let s : x.1 ≡ v = cc in s) a.0
    by false e again = again e

pub with_field_so : (b : BoxName) (m : Mode) (es : List (FieldId × Value)) (f : FieldId) (v : Value) → FieldsSo b m es → value_so b m v ≡ true → FieldsSo b m (with_field es f v)
with_field_so b m [] f v a e = tt
with_field_so b m (x ∷ es) f v a e = by (eqb x.0.0 f.0) (with_field_so b m es f v a.1 e)
  where
    by : (z : Bool) → FieldsSo b m (with_field es f v) → FieldsSo b m (cond z ((x.0, v) ∷ es) (x ∷ with_field es f v))
    by true rest = (e, a.1)
    by false rest = (a.0, rest)

pub insert_so : (b : BoxName) (m : Mode) (h : Objects) (n : ℕ) (o : HeapObject) → HeapSo b m h → ObjectSo b m o → HeapSo b m (insert h n o)
insert_so b m h n o a e k x g = elim (eqb_tells n k) [
  | inl z ↦ subst (λ (y : HeapObject). ObjectSo b m y) (let at = put_there h n o in let w = subst (λ (j : ℕ). get (insert h n o) j ≡ Some x) (sym z.1) g in let s : o ≡ x = cc in s) e
  | inr z ↦ a k x (sym (put_other h n o k (λ w. z.1 (sym w))) ∙ g)
]

-- what is good while a mailbox stands in its raw slots, is so afterwards
pub known_so : (b : BoxName) (m : Mode) (v : Value) → value_so b m v ≡ true → value_so b Known v ≡ true
known_so b m v e = refl

pub known_values : (b : BoxName) (vs : List Value) → ValuesSo b Known vs
known_values b [] = tt
known_values b (v ∷ vs) = (refl, known_values b vs)

pub known_fields : (b : BoxName) (es : List (FieldId × Value)) → FieldsSo b Known es
known_fields b [] = tt
known_fields b (e ∷ es) = (refl, known_fields b es)

pub known_heap : (b : BoxName) (h : Objects) → HeapSo b Known h
known_heap b h n o e = (known_fields b o.fields, known_values b o.elements)

-- a mailbox that is away is known
away_known : (box : Bool) (t : VType) → so Away box t ≡ true → so Known box t ≡ true
away_known true t e = absurd (cc)
away_known false t e = refl

pub slot_known : (b : BoxName) (t : VType) (v : Value) → slot_so b Away t v ≡ true → slot_so b Known t v ≡ true
slot_known b t v e = by (is_top t) e
  where
    by : (z : Bool) → (z || so Away (is_box b v) t) ≡ true → (z || so Known (is_box b v) t) ≡ true
    by true e = refl
    by false e = away_known (is_box b v) t e

pub stack_known : (b : BoxName) (ts : List VType) (vs : List Value) → StackSo b Away ts vs → StackSo b Known ts vs
stack_known b [] [] s = tt
stack_known b [] (v ∷ vs) s = s
stack_known b (t ∷ ts) [] s = s
stack_known b (t ∷ ts) (v ∷ vs) s = (slot_known b t v s.0, stack_known b ts vs s.1)

pub locals_known : (b : BoxName) (ts : List VType) (ls : List Value) → LocalsSo b Away ts ls → LocalsSo b Known ts ls
locals_known b ts ls s k = by (slice_get ls k) (s k)
  where
    by : (o : Option Value) → SlotSo b Away (peek ts k) o → SlotSo b Known (peek ts k) o
    by None e = tt
    by (Some v) e = slot_known b (peek ts k) v e
