-- A tree leaves, or comes: a fiber as a thread whose records are frames.
use Rattle.std.proofs.Common.{◌≡◌, ℕ, List, ◌∷◌, ◌++◌, Some, refl, sym, ◌∙◌, []}
use Rattle.kilim_program.specs.Program.{Program}
use Rattle.kilim_program.specs.declared.value.Value.TheVariants.{Ref}
use Rattle.kilim_run_state.specs.declared.value.Object.{Object}
use Rattle.kilim_run_state.specs.declared.value.Token.{Token}
use Rattle.kilim_run_state.specs.Machine.{Objects, Activation}
use Rattle.kilim_run_machine.specs.Moves.{push_value}
use Rattle.kilim_run_state.specs.Shapes.{shape_of}
use Rattle.kilim_run_state.specs.Trees.{Root, built}
use Rattle.kilim_run_model.specs.State.{Alive}
use Rattle.kilim_run_model.specs.Lone.{Lone}
use Rattle.kilim_run_model.specs.kin.Kin.{Names, FramesKin}
use Rattle.kilim_run_model.proofs.kin.Kins.{kin_push}
use Rattle.kilim_run_trees.specs.Moved.{TakenOut, PutIn}
use Rattle.kilim_fiber_spec.specs.fiber_kin.Mine.{all_mine}
use Rattle.kilim_fiber_spec.specs.fiber_kin.Held as held
use Rattle.kilim_fiber_spec.specs.fiber_kin.Acts.{IsGiven, IsSound}
use Rattle.kilim_fiber_spec.specs.fiber_kin.Acts as acts
use Rattle.kilim_fiber_spec.proofs.fiber_kin.Left.{left_like}
use Rattle.kilim_fiber_spec.proofs.fiber_kin.Leaving.{out_sound}
use Rattle.kilim_fiber_spec.proofs.fiber_kin.Came.{received_like}
use Rattle.kilim_run_model.proofs.kin.trees.Shaped.{shape_kin}
use Rattle.kilim_fiber_spec.specs.Fibers.{Fib, Fiber_at, Rec, Saved}
use Rattle.kilim_fiber_laws.specs.woven_kin.Standing.{Standing}
use Rattle.kilim_fiber_laws.specs.woven_kin.Alike.{RecordKin, RecordsKin, FibersKin, IsLike, Like, Giving}
use Rattle.kilim_fiber_laws.specs.woven_kin.Laws.{tree_left, tree_came}

-- ---- records as frames

abbrev as_frame : Rec → Activation
as_frame (Saved p x vs) = record { method = record { 0 = 0 }; place = p; locals = x ∷ vs; stack = [] }

abbrev as_frames : List Rec → List Activation → List Activation
as_frames [] more = more
as_frames (r ∷ rs) more = as_frame r ∷ as_frames rs more

abbrev all_frames : Fib → List Activation
all_frames (Fiber_at lo r de re pa) = as_frames lo (as_frame r ∷ as_frames de [])

-- a frame on top, for what comes
abbrev front : Activation
front = record { method = record { 0 = 0 }; place = 0; locals = []; stack = [] }

abbrev as_lone : Standing → Lone
as_lone l = record { heap = l.heap; next = l.next; thread = Alive (front ∷ l.frames ++ all_frames l.fiber) l.done l.boxes; kept = l.kept }

module _ (of : Names) where
  frame_kin : (r s : Rec) → RecordKin of r s → (ms ns : List Activation) → FramesKin of ms ns → FramesKin of (as_frame r ∷ ms) (as_frame s ∷ ns)
  frame_kin (Saved p x vs) (Saved q y ws) e ms ns d = (refl, e.0, (e.1, e.2), tt, d)

  frames_of : (rs ss : List Rec) → RecordsKin of rs ss → (ms ns : List Activation) → FramesKin of ms ns → FramesKin of (as_frames rs ms) (as_frames ss ns)
  frames_of [] [] e ms ns d = d
  frames_of (r ∷ rs) (s ∷ ss) e ms ns d = frame_kin r s e.0 (as_frames rs ms) (as_frames ss ns) (frames_of rs ss e.1 ms ns d)
  frames_of _ _ e ms ns d = absurd e

  all_of : (f g : Fib) → FibersKin of f g → FramesKin of (all_frames f) (all_frames g)
  all_of (Fiber_at lo r de re pa) (Fiber_at lower s deeper again pauses) e =
      frames_of lo lower e.0 (as_frame r ∷ as_frames de []) (as_frame s ∷ as_frames deeper []) (frame_kin r s e.1 (as_frames de []) (as_frames deeper []) (frames_of de deeper e.2 [] [] tt))

  both_of : (fs gs : List Activation) → FramesKin of fs gs → (ms ns : List Activation) → FramesKin of ms ns → FramesKin of (fs ++ ms) (gs ++ ns)
  both_of [] [] e ms ns d = d
  both_of (f ∷ fs) (g ∷ gs) e ms ns d = (e.0, e.1, e.2, e.3, both_of fs gs e.4 ms ns d)
  both_of _ _ e ms ns d = absurd e

  to_lone : (l f : Standing) → IsLike of l f → held.IsLike of (as_lone l) (as_lone f)
  to_lone l f e = record {
    threads = ((refl, refl, tt, tt, both_of l.frames f.frames e.frames (all_frames l.fiber) (all_frames f.fiber) (all_of l.fiber f.fiber e.fiber)), e.done, e.boxes);
    heaps = e.heaps;
    kept = e.kept;
    below = e.below;
  }

-- and back, under other names
module _ (of all : Names) where
  record_back : (r s : Rec) → RecordKin of r s → (ms ns : List Activation) → FramesKin all (as_frame r ∷ ms) (as_frame s ∷ ns) → RecordKin all r s × FramesKin all ms ns
  record_back (Saved p x vs) (Saved q y ws) e ms ns d = ((d.1, d.2.0, d.2.1), d.4)

  records_back : (rs ss : List Rec) → RecordsKin of rs ss → (ms ns : List Activation) → FramesKin all (as_frames rs ms) (as_frames ss ns) → RecordsKin all rs ss × FramesKin all ms ns
  records_back [] [] e ms ns d = (tt, d)
  records_back (r ∷ rs) (s ∷ ss) e ms ns d =
      let first = record_back r s e.0 (as_frames rs ms) (as_frames ss ns) d in
      let rest = records_back rs ss e.1 ms ns first.1 in
      ((first.0, rest.0), rest.1)
  records_back _ _ e ms ns d = absurd e

  fiber_back : (f g : Fib) → FibersKin of f g → FramesKin all (all_frames f) (all_frames g) → FibersKin all f g
  fiber_back (Fiber_at lo r de re pa) (Fiber_at lower s deeper again pauses) e d =
      let low = records_back lo lower e.0 (as_frame r ∷ as_frames de []) (as_frame s ∷ as_frames deeper []) d in
      let mine = record_back r s e.1 (as_frames de []) (as_frames deeper []) low.1 in
      let high = records_back de deeper e.2 [] [] mine.1 in
      (low.0, mine.0, high.0, e.3, e.4)

  both_back : (fs gs : List Activation) → FramesKin of fs gs → (ms ns : List Activation) → FramesKin all (fs ++ ms) (gs ++ ns) → FramesKin all fs gs × FramesKin all ms ns
  both_back [] [] e ms ns d = (tt, d)
  both_back (f ∷ fs) (g ∷ gs) e ms ns d =
      let rest = both_back fs gs e.4 ms ns d.4 in
      ((d.0, d.1, d.2, d.3, rest.0), rest.1)
  both_back _ _ e ms ns d = absurd e

  all_back : (l f : Standing) → IsLike of l f → FramesKin all (l.frames ++ all_frames l.fiber) (f.frames ++ all_frames f.fiber) → FramesKin all l.frames f.frames × FibersKin all l.fiber f.fiber
  all_back l f e d =
      let w = both_back l.frames f.frames e.frames (all_frames l.fiber) (all_frames f.fiber) d in
      (w.0, fiber_back l.fiber f.fiber e.fiber w.1)

-- ---- a tree leaves

module _ (p : Program) (root : Root) (n m : ℕ) (shape : List Token) (l f : Standing) (g : Giving p root n m shape l f) (given : IsGiven p root f.heap m) (after : Objects) (tree : List Object) (out : TakenOut f.heap m after tree) where
  abbrev lone_giving : acts.Giving p root n m shape (as_lone l) (as_lone f)
  lone_giving = record { of = g.of; is = to_lone g.of l f g.is; named = g.named; whole = g.whole; has = g.has }

  pub left : Like (tree_left p n l) (record f { heap = after })
  left =
      let w = left_like p root n m shape (as_lone l) (as_lone f) lone_giving given after tree out in
      let back = all_back g.of w.of l f g.is w.is.threads.0.4 in
      record { of = w.of; is = record { frames = back.0; fiber = back.1; heaps = w.is.heaps; done = w.is.threads.1; boxes = w.is.threads.2; kept = w.is.kept; aside = g.is.aside; below = w.is.below } }

  pub sound : IsSound p root tree shape
  sound =
      let has : shape_of p f.heap m ≡ Some shape = sym (shape_kin p g.of all_mine 0 f.heap l.heap f.heap g.is.heaps n m g.named g.whole.intact) ∙ g.has in
      out_sound p root f.heap m given after tree out shape has

-- ---- a tree comes

-- and its root's name is that of the place
pub record Came (p : Program) (root : Root) (l f : Standing) (shape : List Token) (k : Objects) (x : ℕ) : Type 0 where
  pub objects : List Object
  pub builds : built p root l.next shape ≡ Some objects
  pub of : Names
  pub named : of l.next ≡ Some x
  pub is : IsLike of (tree_came objects l) (record f { frames = push_value (Ref x) f.frames; heap = k })

pub came : (p : Program) (root : Root) (l f : Standing) (tree : List Object) (shape : List Token) (k : Objects) (x : ℕ) → Like l f → IsSound p root tree shape → PutIn f.heap tree k x → Came p root l f shape k x
came p root l f tree shape k x like sound put =
    let w = received_like p root (as_lone l) (as_lone f) tree shape k x (record { of = like.of; is = to_lone like.of l f like.is }) sound put in
    let is = w.2.is in
    let back = all_back like.of w.2.of l f like.is is.threads.0.4 in
    let named : w.2.of l.next ≡ Some x = is.threads.0.3.0 in
    record {
      objects = w.0;
      builds = w.1;
      of = w.2.of;
      named = named;
      is = record {
        frames = kin_push w.2.of (Ref l.next) (Ref x) l.frames f.frames named back.0;
        fiber = back.1;
        heaps = is.heaps;
        done = is.threads.1;
        boxes = is.threads.2;
        kept = is.kept;
        aside = like.is.aside;
        below = is.below;
      };
    }
