-- A pause: winding down, the rest, and rewinding.
use Rattle.std.proofs.Common.{◌≡◌, inr, ℕ, suc, ◌+◌, ◌*◌, ◌≤◌, Bool, true, false, List, [], ◌∷◌, Option, Some, None, refl, sym, ap, subst, ◌∙◌, arith}
use Rattle.kilim_program.specs.declared.class.Method.{Method}
use Rattle.kilim_program.specs.declared.instr.Instr.{Instr}
use Rattle.kilim_program.specs.declared.names.MethodId.{MethodId}
use Rattle.kilim_program.specs.declared.value.Value.{Value}
use Rattle.kilim_program.specs.declared.value.Value.TheVariants as value
use Rattle.kilim_program.specs.Program.{Program}
use Rattle.kilim_run_state.specs.Machine.{Objects, Activation}
use Rattle.kilim_run_machine.specs.Natives.{Native}
use Rattle.kilim_run_machine.specs.Does.{does}
use Rattle.kilim_run_machine.specs.Moves.{frame_limit}
use Rattle.kilim_run_model.specs.State.{Setting}
use Rattle.kilim_weave_spec.specs.Woven.{pausable_callee}
use Rattle.kilim_fiber_spec.specs.Acts.{World}
use Rattle.kilim_fiber_spec.specs.Thread.{fetch, own_of}
use Rattle.kilim_fiber_spec.specs.Fibers.{Fib, Fiber_at, Woven_state, WRun, wresumes, wstep, executes_on}
use Rattle.kilim_fiber_spec.specs.Form.{Facts, Members, longest}
use Rattle.kilim_fiber_spec.specs.Rows.{handed, OldHeap, IsClean}
use Rattle.kilim_fiber_spec.specs.Runs.{mark}
use Rattle.kilim_fiber_spec.specs.Links.{Link, Lk, method_of, self_of_link, rev_onto, bares, Target, Inner, Leaf, Forms, code, record_of, first_record, next_records, Good, Goods, Takes, AreReady, Chained, unwinding, entering, at_leaf}
use Rattle.kilim_type_sound.specs.Fits.{AreThere}
use Rattle.kilim_fiber_laws.proofs.simulation.Still.{StepIsKnown}
use Rattle.kilim_fiber_laws.proofs.simulation.Held.{MaybeThere}
use Rattle.kilim_fiber_laws.proofs.simulation.Paths as path
use Rattle.kilim_fiber_laws.proofs.simulation.Unwinds.{count_of}
use Rattle.kilim_fiber_laws.proofs.simulation.Unwinds as unwind
use Rattle.kilim_fiber_laws.proofs.simulation.Unwinds.{Drops_at, rests}
use Rattle.kilim_fiber_laws.proofs.simulation.Rewinds as rewind

pub count_rev : (a b : List Link) → count_of (rev_onto a b) ≡ count_of a + count_of b
count_rev [] b = omega arith
count_rev (x ∷ a) b = let z = count_rev a (x ∷ b) in omega (arith, z)

pub bares_rev : (a b : List Link) → bares (rev_onto a b) ≡ rev_onto (bares a) (bares b)
bares_rev [] b = refl
bares_rev (x ∷ a) b = bares_rev a (x ∷ b)

pub rev_rev : (a b : List Link) → rev_onto (rev_onto a b) [] ≡ rev_onto b a
rev_rev [] b = refl
rev_rev (x ∷ a) b = rev_rev a (x ∷ b)

module _ (set : Setting) (W : Program) (marks : List (List Bool)) (most : ℕ) (Q : Woven_state → Type 0)
    (runs : (m : MethodId) (p : ℕ) (l s : List Value) (b : List Activation) (f : Fib) (w : World) (ps : List ℕ) → StepIsKnown set W marks (WRun m p l s b f w ps) → AreThere w.heap s → Q (WRun m p l s b f w ps))
    (members : Members set.program W) (form : Forms set W marks) (facts : (m : MethodId) → Facts set.program W (code set W marks) (form m))
    -- a pausable call of the woven program does what that of the unwoven one does
    (hands : (m : MethodId) (p : ℕ) (i : Instr) (callee : Method) (to nx : ℕ) (l wl s : List Value) (heap : Objects) → fetch set.program m p ≡ Some (i, to) → pausable_callee set.program i ≡ Some callee → OldHeap set.program heap → IsClean set.program i s heap → does W (own_of W m) i nx wl (value.Fiber ∷ s) heap ≡ handed nx wl (does set.program (own_of set.program m) i to l s heap)) where
  abbrev To : ℕ → Woven_state → ℕ → Woven_state → Type 0
  To c x d y = path.To set W marks most Q runs c x d y

  -- the first one is that with which the fiber begins
  abbrev Based : Objects → List Link → Type 0
  Based heap [] = Unit {0}
  Based heap (k ∷ ks) = (executes_on W heap (self_of_link k) ≡ Some (method_of k)) × Takes set W marks form (method_of k) (self_of_link k ∷ []) (self_of_link k)

  tail_ready : (heap : Objects) (t : Target) (y : Value) (k : Link) (links : List Link) → AreReady set W marks form heap t y (k ∷ links) → AreReady set W marks form heap (Inner (method_of k)) (self_of_link k) links
  tail_ready heap (Inner c) y k links r = r.1
  tail_ready heap (Leaf n) y k links r = r.1

  based : (heap : Objects) (links : List Link) (k : Link) (ks : List Link) → AreReady set W marks form heap (Inner (method_of k)) (self_of_link k) links → Based heap (rev_onto (k ∷ links) ks)
  based heap [] k ks r = r
  based heap (k2 ∷ links) k ks r = based heap links k2 (k ∷ ks) r.1

  -- from the rest
  resumes : (leaf : Native) (box : Value) (ks : List Link) (n c : ℕ) (w : World) (ps : List ℕ)
      → count_of ks ≡ suc n → suc n ≤ frame_limit → Chained set W marks form w.heap leaf box ks → Based w.heap ks → Q (rests set W marks most Q runs members form facts box ks w ps) → c ≤ most
      → (top : Link) × (below : List Link) × (bares (top ∷ below) ≡ rev_onto (bares ks) []) × Good set W marks form top × Goods set W marks form below
      × (d : ℕ) × (d ≤ (suc n) * (2 * longest + 3)) × To c (rests set W marks most Q runs members form facts box ks w ps) d (at_leaf set W marks form box top below w ps)
  resumes leaf box [] n c w ps e room chain base q few = absurd (omega (arith, e))
  resumes leaf box (k ∷ ks) n c w ps e room chain base q few =
      let y = self_of_link k in
      let r = rewind.rewinds set W marks most Q runs members form facts hands leaf box ks k [] (y ∷ []) 0 w ps tt chain base.1 (omega (arith, e, room)) in
      let a = r.few in (
        r.top,
        r.below,
        r.same,
        r.good,
        r.goods,
        r.count,
        omega (arith, a, e),
        mark q few (inr refl)
            (subst (λ (z : Woven_state). To 0 z r.count (at_leaf set W marks form box r.top r.below w ps))
            (sym (start k base.0)) r.way),
      )
    where
      start : (k : Link) → executes_on W w.heap (self_of_link k) ≡ Some (method_of k) → wstep set W marks (rests set W marks most Q runs members form facts box (k ∷ ks) w ps)
          ≡ entering set W marks form box (self_of_link k ∷ []) k ks [] w ps
      start (Lk m from to i callee s l wl self old was) e = ap (λ (o : Option MethodId). wresumes set W marks o (Fiber_at [] (record_of set W marks form (Lk m from to i callee s l wl self old was)) (first_record set W marks form box ks ∷ next_records set W marks form box ks) false true) w ps) e

  -- from the frames that are to be wound down, back to the leaf
  pub record Paused (box : Value) (k : Link) (links : List Link) (c : ℕ) (x : Woven_state) (w : World) (ps : List ℕ) : Type 0 where
    pub top : Link
    pub below : List Link
    pub same : bares (top ∷ below) ≡ bares (k ∷ links)
    pub good : Good set W marks form top
    pub goods : Goods set W marks form below
    pub count : ℕ
    pub few : count ≤ (suc (count_of links)) * (2 * longest + 3)
    pub way : To c x count (at_leaf set W marks form box top below w ps)

  pub pauses : (leaf : Native) (box : Value) (v : Option Value) (k : Link) (links : List Link) (c : ℕ) (w : World) (ps : List ℕ)
      → w.kept ≡ None → Good set W marks form k → Goods set W marks form links → AreReady set W marks form w.heap (Leaf leaf) box (k ∷ links) → Drops_at set W marks most Q runs members form facts k v → MaybeThere w.heap v
      → suc (count_of links) ≤ frame_limit → c + (suc (count_of links)) * longest ≤ most → Q (rests set W marks most Q runs members form facts box (rev_onto (k ∷ links) []) w ps)
      → Paused box k links c (unwinding set W marks form box v k links [] w ps) w ps
  pauses leaf box v k links c w ps kept g gs r d held room few q =
      let u = unwind.unwinds set W marks most Q runs members form facts leaf box box (Leaf leaf) v links k [] c w ps kept g gs r d held in
      let chain = unwind.chained set W marks most Q runs members form facts leaf box links k [] w.heap g gs r tt in
      let base = based w.heap links k [] (tail_ready w.heap (Leaf leaf) box k links r) in
      let n = count_rev (k ∷ links) [] in
      let a = u.few in
      let z = resumes leaf box (rev_onto (k ∷ links) []) (count_of links) u.count w ps (omega (arith, n)) room chain base q (omega (arith, a, few)) in
      record { top = z.0; below = z.1; same = z.2 ∙ ap (λ (ks : List Link). rev_onto ks []) (bares_rev (k ∷ links) []) ∙ rev_rev (bares (k ∷ links)) []; good = z.3; goods = z.4; count = z.5; few = z.6; way = path.joins set W marks most Q runs u.way z.7 }
