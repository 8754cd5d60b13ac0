-- What is raised or thrown goes alike through the frames of a thread and through those of its fiber: all are dropped, or it comes to one
-- handler, of a method that can't pause and whose frame stands above all that can.
use Rattle.std.proofs.Common.{◌≡◌, ℕ, Bool, true, true≢false, false, List, [], ◌∷◌, Option, Some, None, refl, sym, ap, subst, ◌∙◌}
use Rattle.std.specs.Prelude.{◌&&◌, ◌==◌, if◌then◌else◌, slice_get}
use Rattle.std.specs.List.{list_any}
use Rattle.std.proofs.lemmas.Bool.{false≢true}
use Rattle.std.proofs.lemmas.Option.{none-some}
use Rattle.kilim_program.specs.declared.class.Handler.{Handler}
use Rattle.kilim_program.specs.declared.class.Method.{Method}
use Rattle.kilim_program.specs.declared.instr.Instr.{Instr}
use Rattle.kilim_program.specs.declared.names.ClassId.{ClassId}
use Rattle.kilim_program.specs.declared.names.MethodId.{MethodId}
use Rattle.kilim_program.specs.declared.value.Value.{Value}
use Rattle.kilim_program.specs.declared.value.Value.TheVariants.{Ref}
use Rattle.kilim_program.specs.Names.{is_empty, line_of, method_at}
use Rattle.kilim_program.specs.Program.{Program}
use Rattle.kilim_run_state.specs.declared.cause.EndCause.{EndCause}
use Rattle.kilim_run_state.specs.declared.value.Object.{Object}
use Rattle.kilim_run_state.specs.Machine.{Activation}
use Rattle.kilim_run_state.specs.Objects.{new_object}
use Rattle.kilim_run_machine.specs.Raising.{call_in, catches, catches_class, caught_behind, caught_by, caught_in, covers, handler_of, index_at, index_in, lands, or_below, other_index, raised_class, thrown, unwound}
use Rattle.kilim_run_model.specs.State.{Setting}
use Rattle.kilim_type_sound.proofs.Caught.{index_is, other_is}
use Rattle.kilim_fiber_spec.specs.Acts.{World, counted, ending, raises, thrown_to, with_new}
use Rattle.kilim_fiber_spec.specs.Fibers.{Fib, Woven_state, WRun, WStop, frame, wraised_behind, wstands_at}
use Rattle.kilim_fiber_spec.specs.Form.{Facts, is_pausable}
use Rattle.kilim_fiber_spec.specs.Links.{Fine_at, Forms, Goods, Held, Link, Lk, PLink, Pk, Stacked, code, u_frames, u_stack, w_frames, w_stack}
use Rattle.kilim_fiber_spec.specs.Serves.{CatchesAlike, IsBare}
use Rattle.kilim_fiber_spec.specs.Thread.{At, Frame, Run, Stop, Thread, left_at, left_behind, or_left, raised_behind, stands_at}

-- ---- a method without an exception table catches nothing

module _ (R : Program) (c : ClassId) (v : Value) (a : Activation) (bare : IsBare R a.method) where
  none_by : (at : ℕ) (hs : List Handler) → is_empty hs ≡ true → caught_by a v (handler_of R c at hs) ≡ None
  none_by at [] e = refl
  none_by at (h ∷ hs) e = absurd (true≢false (sym e))

  none_in : (at : ℕ) (o : Option Method) → method_at R a.method ≡ o → caught_in R c v a at o ≡ None
  none_in at None e = refl
  none_in at (Some m) e = none_by at m.handlers (bare m e)

  bare_in : (at : ℕ) → caught_in R c v a at (method_at R a.method) ≡ None
  bare_in at = none_in at (method_at R a.method) refl

  bare_behind : (o : Option (ℕ × Instr)) → caught_behind R c v a o ≡ None
  bare_behind None = refl
  bare_behind (Some e) = bare_in e.0

-- ---- one table, in two programs

module _ (P W : Program) (c : ClassId) (line : line_of W c ≡ line_of P c) where
  class_same : (o : Option ClassId) → catches_class W o c ≡ catches_class P o c
  class_same None = refl
  class_same (Some d) = ap (list_any (λ (e : ClassId). e.0 == d.0)) line

  handler_same : (at : ℕ) (hs : List Handler) → handler_of W c at hs ≡ handler_of P c at hs
  handler_same at [] = refl
  handler_same at (h ∷ hs) =
      ap (λ (b : Bool). if covers h at && b then Some h else handler_of W c at hs) (class_same h.catch)
      ∙ ap (λ (o : Option Handler). if catches P c at h then Some h else o) (handler_same at hs)

-- a frame and its twin: nothing catches, or both stand at one handler
abbrev CaughtBoth : Value → (a b : Activation) → Option Activation → Option Activation → Type 0
CaughtBoth v a b None None = Unit {0}
CaughtBoth v a b (Some x) (Some y) = (h : Handler) × (x ≡ lands a v h) × (y ≡ lands b v h)
CaughtBoth v a b _ _ = ⊥

module _ (P W : Program) (c : ClassId) (line : line_of W c ≡ line_of P c) (v : Value) (m : MethodId) (f : Method) (there : method_at P m ≡ Some f) (same : method_at W m ≡ Some f) (p q : ℕ) (l wl s t : List Value) where
  abbrev a : Activation
  a = frame m p l s

  abbrev b : Activation
  b = frame m q wl t

  both_by : (o : Option Handler) → CaughtBoth v (frame m p l s) (frame m q wl t) (caught_by (frame m p l s) v o) (caught_by (frame m q wl t) v o)
  both_by None = tt
  both_by (Some h) = (h, refl, refl)

  both_in : (at : ℕ) → CaughtBoth v (frame m p l s) (frame m q wl t) (caught_in P c v (frame m p l s) at (method_at P m)) (caught_in W c v (frame m q wl t) at (method_at W m))
  both_in at =
      subst (λ (o : Option Method). CaughtBoth v (frame m p l s) (frame m q wl t) (caught_in P c v (frame m p l s) at o) (caught_in W c v (frame m q wl t) at (method_at W m))) (sym there)
      (subst (λ (o : Option Method). CaughtBoth v (frame m p l s) (frame m q wl t) (caught_by (frame m p l s) v (handler_of P c at f.handlers)) (caught_in W c v (frame m q wl t) at o)) (sym same)
      (subst (λ (o : Option Handler). CaughtBoth v (frame m p l s) (frame m q wl t) (caught_by (frame m p l s) v (handler_of P c at f.handlers)) (caught_by (frame m q wl t) v o)) (sym (handler_same P W c line at f.handlers))
      (both_by (handler_of P c at f.handlers))))

  both_behind : (o : Option (ℕ × Instr)) → CaughtBoth v (frame m p l s) (frame m q wl t) (caught_behind P c v (frame m p l s) o) (caught_behind W c v (frame m q wl t) o)
  both_behind None = tt
  both_behind (Some e) = both_in e.0

module _ (set : Setting) (W : Program) (marks : List (List Bool)) (form : Forms set W marks) (facts : (m : MethodId) → Facts set.program W (code set W marks) (form m)) (tables : CatchesAlike set.program W) where
  abbrev P : Program
  P = set.program

  -- ---- kinds of methods

  data Kind (m : MethodId) : Type 0 where
    HasNone : IsBare set.program m → IsBare W m → Kind m
    IsPlain : (f : Method) → method_at set.program m ≡ Some f → method_at W m ≡ Some f → is_pausable set.program m ≡ false → Kind m

  pauses_as : (m : MethodId) (f : Method) → method_at set.program m ≡ Some f → is_pausable set.program m ≡ f.pausable
  pauses_as m f e = ap (λ (o : Option Method). elim o [ None ↦ false | Some z ↦ z.pausable ]) e

  kind_of : (m : MethodId) → Kind m
  kind_of m = by (method_at set.program m) refl
    where
      by_kind : (f : Method) → method_at set.program m ≡ Some f → (b : Bool) → f.pausable ≡ b → Kind m
      by_kind f e true is = let none = tables.paused m (pauses_as m f e ∙ is) in HasNone none.0 none.1
      by_kind f e false is = IsPlain f e (tables.plain m f e is) (pauses_as m f e ∙ is)

      by : (o : Option Method) → method_at set.program m ≡ o → Kind m
      by None e = HasNone (λ f at. absurd (none-some f (sym e ∙ at))) (tables.added m e)
      by (Some f) e = by_kind f e f.pausable refl

  no_calls : (m : MethodId) → is_pausable set.program m ≡ false → (form m).has_calls ≡ false
  no_calls m plain = by (form m).has_calls refl
    where
      by : (b : Bool) → (form m).has_calls ≡ b → (form m).has_calls ≡ false
      by true e = absurd (false≢true (sym plain ∙ (facts m).calls_pausable e))
      by false e = e

  unmoved : (m : MethodId) → is_pausable set.program m ≡ false → (q : ℕ) → (form m).at q ≡ q
  unmoved m plain q = (facts m).unmoved (no_calls m plain) q

  same_locals : (m : MethodId) (l wl : List Value) (x : Value) (b : Bool) → b ≡ false → is_pausable set.program m ≡ false → Held set W marks form b m l wl x → wl ≡ l
  same_locals m l wl x true e plain h = absurd (true≢false e)
  same_locals m l wl x false e plain h = h.1 plain

  -- ---- the frames that are left

  pub data IsLeft (v : Value) (links : List Link) (left : List Frame) (wleft : List Activation) : Type 0 where
    AreGone : left ≡ [] → wleft ≡ [] → IsLeft v links left wleft
    IsCaught : (m : MethodId) (q : ℕ) (l wl : List Value) (x : Value) (ov : List PLink) → left ≡ At m q l (v ∷ []) x ∷ u_stack ov links → wleft ≡ frame m ((form m).at q) wl (v ∷ []) ∷ w_stack set W marks form ov links
        → Fine_at set W marks form m q l wl x ov links → IsLeft v links left wleft

  -- a frame that catches nothing
  or_later : (v : Value) (links : List Link) (x : Value) (o o2 : Option Activation) (rest : List Frame) (wrest : List Activation) (left : List Frame) (wleft : List Activation) → o ≡ None → o2 ≡ None → IsLeft v links left wleft → IsLeft v links (or_left x o rest left) (or_below o2 wrest wleft)
  or_later v links x o o2 rest wrest left wleft e e2 later =
      subst (λ (z : Option Activation). IsLeft v links (or_left x z rest left) (or_below o2 wrest wleft)) (sym e)
      (subst (λ (z : Option Activation). IsLeft v links left (or_below z wrest wleft)) (sym e2) later)

  -- a frame of a method that can't pause, and its twin
  or_both : (v : Value) (links : List Link) (m : MethodId) (p q : ℕ) (l wl s t : List Value) (x : Value) (ov : List PLink) → is_pausable set.program m ≡ false → Held set W marks form (form m).has_calls m l wl x → Stacked set W marks form m ov links
      → (o o2 : Option Activation) → CaughtBoth v (frame m p l s) (frame m q wl t) o o2 → (left : List Frame) (wleft : List Activation) → IsLeft v links left wleft
      → IsLeft v links (or_left x o (u_stack ov links) left) (or_below o2 (w_stack set W marks form ov links) wleft)
  or_both v links m p q l wl s t x ov plain held stacked None None both left wleft later = later
  or_both v links m p q l wl s t x ov plain held stacked (Some a) (Some b) both left wleft later =
      let h = both.0 in
      let same = same_locals m l wl x (form m).has_calls (no_calls m plain) plain held in
      let placed : lands (frame m q wl t) v h ≡ frame m ((form m).at h.at) wl (v ∷ []) = ap (λ (k : ℕ). frame m k wl (v ∷ [])) (sym (unmoved m plain h.at)) in
      IsCaught m h.at l wl x ov
      (ap (λ (z : Activation). At z.method z.place z.locals z.stack x ∷ u_stack ov links) both.1)
      (ap (λ (z : Activation). z ∷ w_stack set W marks form ov links) (both.2 ∙ placed))
      (record { alike = λ k shown. ap (λ (ls : List Value). slice_get ls k) (sym same); held = held; stacked = stacked })
  or_both v links m p q l wl s t x ov plain held stacked None (Some b) both left wleft later = absurd both
  or_both v links m p q l wl s t x ov plain held stacked (Some a) None both left wleft later = absurd both

  -- the lowest frames, which all can pause
  links_left : (c : ClassId) (v : Value) (links : List Link) → Goods set W marks form links → (left_behind set.program c v (u_frames links) ≡ []) × (unwound W c v (w_frames set W marks form links) ≡ [])
  links_left c v [] goods = (refl, refl)
  links_left c v (Lk m from to i callee s l wl x old was ∷ ks) goods =
      let later = links_left c v ks goods.1 in
      let none = tables.paused m ((facts m).group from to i callee goods.0.0 goods.0.1).pausable in (
        ap (λ (o : Option Activation). or_left x o (u_frames ks) (left_behind set.program c v (u_frames ks))) (bare_behind set.program c v (frame m to l s) none.0 (call_in (method_at set.program m) to)) ∙ later.0,
        ap (λ (o : Option Activation). or_below o (w_frames set W marks form ks) (unwound W c v (w_frames set W marks form ks)))
            (bare_behind W c v (frame m ((form m).up_at from) wl s) none.1 (call_in (method_at W m) ((form m).up_at from))) ∙ later.1,
      )

  module _ (c : ClassId) (line : line_of W c ≡ line_of set.program c) (v : Value) where
    -- one frame that stands behind its call
    one_behind : (links : List Link) (m : MethodId) (q : ℕ) (l wl s : List Value) (x : Value) (ov : List PLink) → Held set W marks form (form m).has_calls m l wl x → Stacked set W marks form m ov links → (left : List Frame) (wleft : List Activation) → IsLeft v links left wleft
        → IsLeft v links (or_left x (caught_behind set.program c v (frame m q l s) (call_in (method_at set.program m) q)) (u_stack ov links) left)
        (or_below (caught_behind W c v (frame m ((form m).at q) wl s) (call_in (method_at W m) ((form m).at q))) (w_stack set W marks form ov links) wleft)
    one_behind links m q l wl s x ov held stacked left wleft later = by (kind_of m)
      where
        by : Kind m → IsLeft v links (or_left x (caught_behind set.program c v (frame m q l s) (call_in (method_at set.program m) q)) (u_stack ov links) left)
            (or_below (caught_behind W c v (frame m ((form m).at q) wl s) (call_in (method_at W m) ((form m).at q))) (w_stack set W marks form ov links) wleft)
        by (HasNone bare wbare) =
            or_later v links x _ _ (u_stack ov links) (w_stack set W marks form ov links) left wleft (bare_behind set.program c v (frame m q l s) bare (call_in (method_at set.program m) q))
            (bare_behind W c v (frame m ((form m).at q) wl s) wbare (call_in (method_at W m) ((form m).at q))) later
        by (IsPlain f there same plain) =
            let calls : call_in (method_at W m) ((form m).at q) ≡ call_in (method_at set.program m) q =
            ap (λ (o : Option Method). call_in o ((form m).at q)) (same ∙ sym there) ∙ ap (call_in (method_at set.program m)) (unmoved m plain q) in
            or_both v links m q ((form m).at q) l wl s s x ov plain held stacked _ _
            (subst (λ (o : Option (ℕ × Instr)). CaughtBoth v (frame m q l s) (frame m ((form m).at q) wl s) (caught_behind set.program c v (frame m q l s) (call_in (method_at set.program m) q)) (caught_behind W c v (frame m ((form m).at q) wl s) o)) (sym calls)
            (both_behind set.program W c line v m f there same q ((form m).at q) l wl s s (call_in (method_at set.program m) q))) left wleft later

    -- all of them
    frames_left : (above : MethodId) (ov : List PLink) (links : List Link) → Stacked set W marks form above ov links → IsLeft v links (left_behind set.program c v (u_stack ov links)) (unwound W c v (w_stack set W marks form ov links))
    frames_left above [] links stacked = let gone = links_left c v links stacked in AreGone gone.0 gone.1
    frames_left above (Pk m to s l wl x ∷ ov) links stacked = one_behind links m to l wl s x ov stacked.2 stacked.3 _ _ (frames_left m ov links stacked.3)

    pub behind_left : (m : MethodId) (q : ℕ) (l wl s : List Value) (x : Value) (ov : List PLink) (links : List Link) → Fine_at set W marks form m q l wl x ov links
        → IsLeft v links (left_behind set.program c v (At m q l s x ∷ u_stack ov links)) (unwound W c v (frame m ((form m).at q) wl s ∷ w_stack set W marks form ov links))
    behind_left m q l wl s x ov links fine = one_behind links m q l wl s x ov fine.held fine.stacked _ _ (frames_left m ov links fine.stacked)

    -- where the top frame stands at the instruction
    pub thrown_left : (m : MethodId) (p : ℕ) (l wl s : List Value) (x : Value) (ov : List PLink) (links : List Link) → Fine_at set W marks form m p l wl x ov links
        → IsLeft v links (left_at set.program c v (frame m p l s) x (u_stack ov links)) (thrown W c v (frame m ((form m).at p) wl s) (w_stack set W marks form ov links))
    thrown_left m p l wl s x ov links fine = by (kind_of m)
      where
        later : IsLeft v links (left_behind set.program c v (u_stack ov links)) (unwound W c v (w_stack set W marks form ov links))
        later = frames_left m ov links fine.stacked

        by : Kind m → IsLeft v links (left_at set.program c v (frame m p l s) x (u_stack ov links)) (thrown W c v (frame m ((form m).at p) wl s) (w_stack set W marks form ov links))
        by (HasNone bare wbare) =
            or_later v links x _ _ (u_stack ov links) (w_stack set W marks form ov links) _ _ (bare_in set.program c v (frame m p l s) bare p) (bare_in W c v (frame m ((form m).at p) wl s) wbare ((form m).at p)) later
        by (IsPlain f there same plain) =
            or_both v links m p ((form m).at p) l wl s s x ov plain fine.held fine.stacked _ _
            (subst (λ (k : ℕ). CaughtBoth v (frame m p l s) (frame m ((form m).at p) wl s) (caught_in set.program c v (frame m p l s) p (method_at set.program m)) (caught_in W c v (frame m ((form m).at p) wl s) k (method_at W m))) (sym (unmoved m plain p))
            (both_in set.program W c line v m f there same p ((form m).at p) l wl s s p)) _ _ later

  -- ---- where the top frame's method can pause, all are dropped

  ends_with : (w : World) (why : EndCause) (left : ClassId → List Frame) → ((c : ClassId) → left c ≡ []) → (o : Option ClassId) → raises set Stop (stands_at set) w why set.program left o ≡ ending set w Stop why
  ends_with w why left all None = refl
  ends_with w why left all (Some c) = ap (thrown_to set Stop (stands_at set) w why (with_new w (new_object set.program c))) (all c)

  wends_with : (f : Fib) (ps : List ℕ) (w : World) (why : EndCause) (left : ClassId → List Activation) → ((c : ClassId) → left c ≡ []) → (o : Option ClassId) → raises set WStop (wstands_at set W marks f ps) w why W left o ≡ ending set w WStop why
  wends_with f ps w why left all None = refl
  wends_with f ps w why left all (Some c) = ap (thrown_to set WStop (wstands_at set W marks f ps) w why (with_new w (new_object W c))) (all c)

  module _ (m : MethodId) (pauses : is_pausable set.program m ≡ true) (links : List Link) (goods : Goods set W marks form links) where
    none : IsBare set.program m × IsBare W m
    none = tables.paused m pauses

    pub behind_over : (q : ℕ) (l s : List Value) (x : Value) (w : World) (why : EndCause) → raised_behind set (At m q l s x ∷ u_frames links) w why ≡ ending set (counted w) Stop why
    behind_over q l s x w why = ends_with (counted w) why (λ c. left_behind set.program c (Ref w.next) (At m q l s x ∷ u_frames links)) gone (raised_class set.program other_index why)
      where
        gone : (c : ClassId) → left_behind set.program c (Ref w.next) (At m q l s x ∷ u_frames links) ≡ []
        gone c =
            ap (λ (o : Option Activation). or_left x o (u_frames links) (left_behind set.program c (Ref w.next) (u_frames links))) (bare_behind set.program c (Ref w.next) (frame m q l s) none.0 (call_in (method_at set.program m) q))
            ∙ (links_left c (Ref w.next) links goods).0

    pub wbehind_over : (q : ℕ) (wl s : List Value) (f : Fib) (w : World) (ps : List ℕ) (why : EndCause) → wraised_behind set W marks (frame m q wl s ∷ w_frames set W marks form links) f w ps why ≡ ending set (counted w) WStop why
    wbehind_over q wl s f w ps why = wends_with f ps (counted w) why (λ c. unwound W c (Ref w.next) (frame m q wl s ∷ w_frames set W marks form links)) gone (raised_class W other_index why)
      where
        gone : (c : ClassId) → unwound W c (Ref w.next) (frame m q wl s ∷ w_frames set W marks form links) ≡ []
        gone c =
            ap (λ (o : Option Activation). or_below o (w_frames set W marks form links) (unwound W c (Ref w.next) (w_frames set W marks form links))) (bare_behind W c (Ref w.next) (frame m q wl s) none.1 (call_in (method_at W m) q))
            ∙ (links_left c (Ref w.next) links goods).1

    pub raises_over : (p : ℕ) (l s : List Value) (x : Value) (w : World) (n : ℕ) (why : EndCause) (o : Option ClassId) → raises set Stop (stands_at set) w why set.program (λ c. left_at set.program c (Ref n) (frame m p l s) x (u_frames links)) o ≡ ending set w Stop why
    raises_over p l s x w n why o = ends_with w why (λ c. left_at set.program c (Ref n) (frame m p l s) x (u_frames links)) gone o
      where
        gone : (c : ClassId) → left_at set.program c (Ref n) (frame m p l s) x (u_frames links) ≡ []
        gone c =
            ap (λ (z : Option Activation). or_left x z (u_frames links) (left_behind set.program c (Ref n) (u_frames links))) (bare_in set.program c (Ref n) (frame m p l s) none.0 p)
            ∙ (links_left c (Ref n) links goods).0

    pub wraises_over : (q : ℕ) (wl s : List Value) (f : Fib) (ps : List ℕ) (w : World) (n : ℕ) (why : EndCause) (o : Option ClassId) → raises set WStop (wstands_at set W marks f ps) w why W (λ c. thrown W c (Ref n) (frame m q wl s) (w_frames set W marks form links)) o ≡ ending set w WStop why
    wraises_over q wl s f ps w n why o = wends_with f ps w why (λ c. thrown W c (Ref n) (frame m q wl s) (w_frames set W marks form links)) gone o
      where
        gone : (c : ClassId) → thrown W c (Ref n) (frame m q wl s) (w_frames set W marks form links) ≡ []
        gone c =
            ap (λ (z : Option Activation). or_below z (w_frames set W marks form links) (unwound W c (Ref n) (w_frames set W marks form links))) (bare_in W c (Ref n) (frame m q wl s) none.1 q)
            ∙ (links_left c (Ref n) links goods).1

  -- ---- both end alike, or go on at one handler

  module _ (f : Fib) (ps : List ℕ) (w : World) (why : EndCause) (links : List Link) where
    pub data GoesAlike (u : Thread) (y : Woven_state) : Type 0 where
      EndsAlike : u ≡ ending set w Stop why → y ≡ ending set w WStop why → GoesAlike u y
      CaughtAlike : (m : MethodId) (q : ℕ) (s l wl : List Value) (x : Value) (ov : List PLink) (after : World) → u ≡ Run m q l s x (u_stack ov links) after
          → y ≡ WRun m ((form m).at q) wl s (w_stack set W marks form ov links) f after ps → after.done ≡ w.done → Fine_at set W marks form m q l wl x ov links → GoesAlike u y

    pub thrown_alike : (v : Value) (after : World) → after.done ≡ w.done → (left : List Frame) (wleft : List Activation) → IsLeft v links left wleft
        → GoesAlike (thrown_to set Stop (stands_at set) w why after left) (thrown_to set WStop (wstands_at set W marks f ps) w why after wleft)
    thrown_alike v after same left wleft (AreGone e d) = EndsAlike (ap (thrown_to set Stop (stands_at set) w why after) e) (ap (thrown_to set WStop (wstands_at set W marks f ps) w why after) d)
    thrown_alike v after same left wleft (IsCaught m q l wl x ov e d fine) =
        CaughtAlike m q (v ∷ []) l wl x ov after (ap (thrown_to set Stop (stands_at set) w why after) e) (ap (thrown_to set WStop (wstands_at set W marks f ps) w why after) d) same fine

    raised_alike : (v : Value) (left : ClassId → List Frame) (wleft : ClassId → List Activation) (o o2 : Option ClassId) → o2 ≡ o → ((c : ClassId) → o ≡ Some c → IsLeft v links (left c) (wleft c) × (new_object W c ≡ new_object set.program c))
        → GoesAlike (raises set Stop (stands_at set) w why set.program left o) (raises set WStop (wstands_at set W marks f ps) w why W wleft o2)
    raised_alike v left wleft o o2 e each = subst (λ (z : Option ClassId). GoesAlike (raises set Stop (stands_at set) w why set.program left o) (raises set WStop (wstands_at set W marks f ps) w why W wleft z)) (sym e) (by o each)
      where
        by : (o : Option ClassId) → ((c : ClassId) → o ≡ Some c → IsLeft v links (left c) (wleft c) × (new_object W c ≡ new_object set.program c))
            → GoesAlike (raises set Stop (stands_at set) w why set.program left o) (raises set WStop (wstands_at set W marks f ps) w why W wleft o)
        by None each = EndsAlike refl refl
        by (Some c) each =
            let here = each c refl in
            subst (λ (z : Object). GoesAlike (thrown_to set Stop (stands_at set) w why (with_new w (new_object set.program c)) (left c)) (thrown_to set WStop (wstands_at set W marks f ps) w why (with_new w z) (wleft c))) (sym here.1)
            (thrown_alike v (with_new w (new_object set.program c)) refl (left c) (wleft c) here.0)

  -- something is wrong with a value of a built-in method
  pub behind_raised : (f : Fib) (ps : List ℕ) (w : World) (why : EndCause) (m : MethodId) (q : ℕ) (l wl s : List Value) (x : Value) (ov : List PLink) (links : List Link) → Fine_at set W marks form m q l wl x ov links
      → GoesAlike f ps (counted w) why links (raised_behind set (At m q l s x ∷ u_stack ov links) w why) (wraised_behind set W marks (frame m ((form m).at q) wl s ∷ w_stack set W marks form ov links) f w ps why)
  behind_raised f ps w why m q l wl s x ov links fine =
      raised_alike f ps (counted w) why links (Ref w.next) (λ c. left_behind set.program c (Ref w.next) (At m q l s x ∷ u_stack ov links)) (λ c. unwound W c (Ref w.next) (frame m ((form m).at q) wl s ∷ w_stack set W marks form ov links))
      (raised_class set.program other_index why) (raised_class W other_index why) (tables.raised other_index other_is why)
      (λ c e. let made = tables.made other_index why c e in (behind_left c (tables.lines c made.0) (Ref w.next) m q l wl s x ov links fine, made.1))

  -- of an instruction
  pub at_raised : (f : Fib) (ps : List ℕ) (w : World) (why : EndCause) (m : MethodId) (a : Method) → method_at set.program m ≡ Some a → (p : ℕ) (l wl s : List Value) (x : Value) (ov : List PLink) (links : List Link) → Fine_at set W marks form m p l wl x ov links
      → GoesAlike f ps (counted w) why links
      (raises set Stop (stands_at set) (counted w) why set.program (λ c. left_at set.program c (Ref w.next) (frame m p l s) x (u_stack ov links)) (raised_class set.program (index_at set.program (frame m p l s)) why))
      (raises set WStop (wstands_at set W marks f ps) (counted w) why W (λ c. thrown W c (Ref w.next) (frame m ((form m).at p) wl s) (w_stack set W marks form ov links)) (raised_class W (index_at W (frame m ((form m).at p) wl s)) why))
  at_raised f ps w why m a there p l wl s x ov links fine = by a.pausable refl
    where
      -- none stands above a frame of a method that can pause
      paused : is_pausable set.program m ≡ true → (ov : List PLink) → Stacked set W marks form m ov links → GoesAlike f ps (counted w) why links
          (raises set Stop (stands_at set) (counted w) why set.program (λ c. left_at set.program c (Ref w.next) (frame m p l s) x (u_stack ov links)) (raised_class set.program (index_at set.program (frame m p l s)) why))
          (raises set WStop (wstands_at set W marks f ps) (counted w) why W (λ c. thrown W c (Ref w.next) (frame m ((form m).at p) wl s) (w_stack set W marks form ov links)) (raised_class W (index_at W (frame m ((form m).at p) wl s)) why))
      paused pauses [] goods =
          EndsAlike (raises_over m pauses links goods p l s x (counted w) w.next why (raised_class set.program (index_at set.program (frame m p l s)) why))
          (wraises_over m pauses links goods ((form m).at p) wl s f ps (counted w) w.next why (raised_class W (index_at W (frame m ((form m).at p) wl s)) why))
      paused pauses (k ∷ ks) stacked = absurd (above k stacked)
        where
          above : (k : PLink) → Stacked set W marks form m (k ∷ ks) links → ⊥
          above (Pk m2 to t k2 wk y) stacked = false≢true (sym stacked.0 ∙ pauses)

      by : (b : Bool) → a.pausable ≡ b → GoesAlike f ps (counted w) why links
          (raises set Stop (stands_at set) (counted w) why set.program (λ c. left_at set.program c (Ref w.next) (frame m p l s) x (u_stack ov links)) (raised_class set.program (index_at set.program (frame m p l s)) why))
          (raises set WStop (wstands_at set W marks f ps) (counted w) why W (λ c. thrown W c (Ref w.next) (frame m ((form m).at p) wl s) (w_stack set W marks form ov links)) (raised_class W (index_at W (frame m ((form m).at p) wl s)) why))
      by true is = paused (pauses_as m a there ∙ is) ov fine.stacked
      by false is =
          let plain = pauses_as m a there ∙ is in
          let same : index_at W (frame m ((form m).at p) wl s) ≡ index_at set.program (frame m p l s) =
          ap (λ (o : Option Method). index_in o ((form m).at p)) (tables.plain m a there is ∙ sym there) ∙ ap (index_in (method_at set.program m)) (unmoved m plain p) in
          raised_alike f ps (counted w) why links (Ref w.next) (λ c. left_at set.program c (Ref w.next) (frame m p l s) x (u_stack ov links)) (λ c. thrown W c (Ref w.next) (frame m ((form m).at p) wl s) (w_stack set W marks form ov links))
          (raised_class set.program (index_at set.program (frame m p l s)) why) (raised_class W (index_at W (frame m ((form m).at p) wl s)) why)
          (ap (λ (i : List ℕ). raised_class W i why) same ∙ tables.raised (index_at set.program (frame m p l s)) (index_is set.program (frame m p l s)) why)
          (λ c e. let made = tables.made (index_at set.program (frame m p l s)) why c e in (thrown_left c (tables.lines c made.0) (Ref w.next) m p l wl s x ov links fine, made.1))
