-- From what is said of all that is at or below to what is asked move by move.
use Rattle.std.proofs.Common.{◌≡◌, ℕ, zero, suc, List, [], ◌∷◌, Option, Some, refl, sym, ap, subst, ◌∙◌, inl, inr}
use Rattle.std.specs.FinMap.{get}
use Rattle.std.proofs.lemmas.Option.{same_Some}
use Rattle.kilim_program.specs.Program.{Program}
use Rattle.kilim_program.specs.declared.names.FieldId.{FieldId}
use Rattle.kilim_program.specs.declared.value.Value.{Value}
use Rattle.kilim_program.specs.declared.value.Value.TheVariants.{Int, Long, Null, Ref, Text, Box, Fiber}
use Rattle.kilim_run_state.specs.declared.value.Object.{Object}
use Rattle.kilim_run_state.specs.Machine.{Objects, Activation}
use Rattle.kilim_run_machine.specs.Moves.{Change, Steps, Enters, Leaves, Move, moves}
use Rattle.kilim_run_machine.specs.Moves as move
use Rattle.kilim_run_machine.specs.Natives.{Native, native_of}
use Rattle.kilim_run_machine.specs.Natives as native
use Rattle.kilim_run_state.specs.Shapes.{tree_limit}
use Rattle.kilim_run_state.specs.Trees.{Root}
use Rattle.kilim_run_model.specs.State.{Setting, Thread, Alive, Ended}
use Rattle.kilim_run_model.specs.Lone.{Lone}
use Rattle.kilim_run_model.specs.Reach.{SomeNames, FieldNames, Holds, Below, Here, Then, Liveness, OptionNames}
use Rattle.kilim_run_model.specs.Reach as reach
use Rattle.kilim_run_model.specs.Kept.{IsFormed, GivesTree, given, IsKept}
use Rattle.kilim_run_model.specs.kin.Kin.{Names, OfTask, IsKin, AreKin, FieldsKin, FramesKin, Alike, AreHeld, IsThere, IsAmong, StandsIn, MoveKin}
use Rattle.kilim_run_model.proofs.kin.Rows.{rows_kin}
use Rattle.kilim_run_model.proofs.kin.Moving.{moves_kin}
use Rattle.kilim_run_model.specs.kin.trees.TreeKin.{AllValues, AllFields, IsIntact}
use Rattle.kilim_run_model.specs.one_heap.Lones.{WholeMove, IsWholeThread}

below_join : (h : Objects) (n m x : ℕ) → Below h n m → Below h m x → Below h n x
below_join h n m x b (Here e) = subst (λ (z : ℕ). Below h n z) e b
below_join h n m x b (Then y o c e d) = Then y o (below_join h n m y b c) e d

-- ---- what a built-in method is asked with stands on the stack: the law on names, for the renaming that renames nothing

abbrev own : Names
own n = Some n

id_value : (v : Value) → IsKin own v v
id_value (Int a) = refl
id_value (Long a) = refl
id_value Null = tt
id_value (Ref n) = refl
id_value (Text a) = refl
id_value (Box a) = refl
id_value Fiber = tt

id_values : (vs : List Value) → AreKin own vs vs
id_values [] = tt
id_values (v ∷ vs) = (id_value v, id_values vs)

id_fields : (es : List (FieldId × Value)) → FieldsKin own es es
id_fields [] = tt
id_fields (e ∷ es) = (refl, id_value e.1, id_fields es)

id_frames : (fs : List Activation) → FramesKin own fs fs
id_frames [] = tt
id_frames (f ∷ fs) = (refl, refl, id_values f.locals, id_values f.stack, id_frames fs)

id_alike : (h : Objects) → Alike own (λ x. OfTask 0) 0 h h h
id_alike h = record {
  same = λ n o e. (n, o, refl, e, record { class = refl; fields = id_fields o.fields; elements = id_values o.elements }, refl);
  apart = λ n m x o q c d e f. same_Some _ _ (c ∙ sym d);
  rest = λ x. inl refl;
}

abbrev ArgsStand : Objects → Activation → Move → Type 0
ArgsStand h top (move.Asks m args frames heap) = AreHeld (StandsIn h top.stack) args
ArgsStand h top v = Unit {0}

args_of : (h : Objects) (top : Activation) (v : Move) → MoveKin (StandsIn h top.stack) own (λ x. OfTask 0) 0 h h v v → ArgsStand h top v
args_of h top (move.Asks m args frames heap) e = e.5
args_of h top (move.Runs change frames heap) e = tt
args_of h top (move.Makes o frames heap) e = tt
args_of h top (move.Opens frames heap) e = tt
args_of h top (move.Returns heap) e = tt
args_of h top (move.Raises c) e = tt
args_of h top (move.Throws n k c) e = tt
args_of h top (move.Ends c) e = tt
args_of h top move.Stuck e = tt

args_stand : (p : Program) (h : Objects) (top : Activation) (fs : List Activation) → AreHeld (IsThere h) top.stack → ArgsStand h top (moves p top fs h)
args_stand p h top fs held = args_of h top (moves p top fs h) (moves_kin p own (λ x. OfTask 0) 0 h h (id_alike h) (rows_kin p) top top held fs fs (id_frames (top ∷ fs)))

given_held : (good : ℕ → Type 0) (root : Root) (n : ℕ) (o : Option Native) (args : List Value) → given o args ≡ Some (root, n) → AreHeld good args → good n
given_held good root n (Some native.Put) (Box box ∷ Ref m ∷ []) e g = subst good (ap (λ (z : Root × ℕ). z.1) (same_Some _ _ e)) g.1.0
given_held good root n (Some native.PutWait) (Box box ∷ Ref m ∷ []) e g = subst good (ap (λ (z : Root × ℕ). z.1) (same_Some _ _ e)) g.1.0
given_held good root n (Some native.PutWait) (Box box ∷ Ref m ∷ Fiber ∷ []) e g = subst good (ap (λ (z : Root × ℕ). z.1) (same_Some _ _ e)) g.1.0
given_held good root n (Some native.Start) (Ref m ∷ []) e g = subst good (ap (λ (z : Root × ℕ). z.1) (same_Some _ _ e)) g.0
given_held good root n _ _ e g = absurd (cc)

among_names : (vs : List Value) (n : ℕ) → IsAmong vs n → SomeNames vs n
among_names (v ∷ vs) n (inl e) = inl (subst (λ (z : Value). reach.Names z n) (sym e) refl)
among_names (v ∷ vs) n (inr e) = inr (among_names vs n e)
among_names [] n e = absurd e

-- ---- what is at or below is intact

module _ (p : Program) (h : Objects) where
  abbrev AllThere : ℕ → Type 0
  AllThere n = (x : ℕ) → Below h n x → (o : Object) × (get h x ≡ Some o) × IsFormed p o

  abbrev Intacts : ℕ → Type 0
  Intacts d = (v : Value) → ((n : ℕ) → reach.Names v n → AllThere n) → IsIntact p h d v

  fields : (d : ℕ) → Intacts d → (es : List (FieldId × Value)) → ((n : ℕ) → FieldNames es n → AllThere n) → AllFields (IsIntact p h d) es
  fields d one [] all = tt
  fields d one (e ∷ es) all = (one e.1 (λ n w. all n (inl w)), fields d one es (λ n w. all n (inr w)))

  values : (d : ℕ) → Intacts d → (vs : List Value) → ((n : ℕ) → SomeNames vs n → AllThere n) → AllValues (IsIntact p h d) vs
  values d one [] all = tt
  values d one (v ∷ vs) all = (one v (λ n w. all n (inl w)), values d one vs (λ n w. all n (inr w)))

  intact : (d : ℕ) → Intacts d
  intact zero v all = tt
  intact (suc d) (Ref n) all =
      let o = all n refl n (Here refl) in
      let child : (m : ℕ) → Holds o.0 m → AllThere m = λ m e x b. all n refl x (below_join h n m x (Then n o.0 (Here refl) o.1 e) b) in
      (o.0, o.1, o.2, fields d (intact d) o.0.fields (λ m e. child m (inl e)), values d (intact d) o.0.elements (λ m e. child m (inr e)))
  intact (suc d) (Int a) all = tt
  intact (suc d) (Long a) all = tt
  intact (suc d) Null all = tt
  intact (suc d) (Text a) all = tt
  intact (suc d) (Box a) all = tt
  intact (suc d) Fiber all = tt

  held : (vs : List Value) → ((n : ℕ) → SomeNames vs n → AllThere n) → AreHeld (IsThere h) vs
  held [] all = tt
  held (Ref n ∷ vs) all = (let o = all n (inl refl) n (Here refl) in (o.0, o.1), held vs (λ m w. all m (inr w)))
  held (Int a ∷ vs) all = (tt, held vs (λ m w. all m (inr w)))
  held (Long a ∷ vs) all = (tt, held vs (λ m w. all m (inr w)))
  held (Null ∷ vs) all = (tt, held vs (λ m w. all m (inr w)))
  held (Text a ∷ vs) all = (tt, held vs (λ m w. all m (inr w)))
  held (Box a ∷ vs) all = (tt, held vs (λ m w. all m (inr w)))
  held (Fiber ∷ vs) all = (tt, held vs (λ m w. all m (inr w)))

  gives : (top : Activation) → ((n : ℕ) → SomeNames top.stack n → AllThere n) → (v : Move) → ArgsStand h top v → GivesTree p h v → WholeMove p h v
  gives top all (move.Asks m args frames heap) s g = λ root n e.
      let w = g root n e in
      let among = given_held (StandsIn h top.stack) root n (native_of p m) args e s in
      record { intact = intact tree_limit (Ref n) (λ i same. subst AllThere same (all n (among_names top.stack n among.0))); once = w.once; allowed = w.allowed }
  gives top all (move.Runs change frames heap) s g = tt
  gives top all (move.Makes o frames heap) s g = tt
  gives top all (move.Opens frames heap) s g = tt
  gives top all (move.Returns heap) s g = tt
  gives top all (move.Raises c) s g = tt
  gives top all (move.Throws n k c) s g = tt
  gives top all (move.Ends c) s g = tt
  gives top all move.Stuck s g = tt

pub is_whole : (live : Liveness) (set : Setting) (l : Lone) → IsKept live set l → IsWholeThread set l.heap l.thread
is_whole live set l k = by_thread l.thread refl
  where
    by_thread : (th : Thread) → l.thread ≡ th → IsWholeThread set l.heap th
    by_thread (Ended c) e = tt
    by_thread (Alive [] done boxes) e = tt
    by_thread (Alive (top ∷ below) done boxes) e = λ lt.
        let all : (n : ℕ) → SomeNames top.stack n → AllThere set.program l.heap n = λ n w x b.
        let named : OptionNames live (Some l.thread) l.kept n = subst (λ (th : Thread). OptionNames live (Some th) l.kept n) (sym e) (inl (inl w)) in
        let o = k.there n x named b in
        (o.0, o.1, k.formed n x o.0 named b o.1) in
        let there = held set.program l.heap top.stack all in
        (there, gives set.program l.heap top all (moves set.program top below l.heap) (args_stand set.program l.heap top below there) (k.gives top below done boxes e))
