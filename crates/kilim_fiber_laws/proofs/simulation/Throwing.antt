-- A leaf that is called again raises nothing: what comes of it doesn't depend on what is done with what is raised.
use Rattle.std.proofs.Common.{◌≡◌, ℕ, zero, suc, Bool, true, List, [], ◌∷◌, ◌++◌, Option, Some, None, refl, sym, ap, subst}
use Rattle.kilim_program.specs.declared.names.BoxName.{BoxName}
use Rattle.kilim_program.specs.declared.names.MethodId.{MethodId}
use Rattle.kilim_program.specs.declared.ty.Ty.{Ty}
use Rattle.kilim_program.specs.declared.value.Value.{Value}
use Rattle.kilim_program.specs.declared.value.Value.TheVariants as value
use Rattle.kilim_program.specs.Program.{Program}
use Rattle.kilim_run_state.specs.declared.cause.EndCause.{EndCause}
use Rattle.kilim_run_state.specs.declared.value.Token.{Token}
use Rattle.kilim_run_journal.specs.declared.entry.Act.{Act}
use Rattle.kilim_run_journal.specs.declared.entry.Act.TheVariants.{Put}
use Rattle.kilim_run_model.specs.declared.deed.Deed.{Deed}
use Rattle.kilim_run_machine.specs.Natives.{FiberMember, Native, native_of}
use Rattle.kilim_run_machine.specs.Natives as native
use Rattle.kilim_run_model.specs.State.{Setting}
use Rattle.kilim_fiber_spec.specs.Acts.{Apart, PutWaits, Wants, World, native_does, spending, together}
use Rattle.kilim_fiber_spec.specs.Fibers.{Fib, Fiber_at, Rec, WStop, Woven_state, gets, member_of, put_again, puts_again, puts_kept, rewound, waits_again, wasks, wnative, wnatives}
use Rattle.kilim_fiber_spec.specs.Links.{Forms, LeafTakes}

module _ (set : Setting) (W : Program) (marks : List (List Bool)) (go : Fib → World → List ℕ → Option Value → Woven_state) (raise other : Fib → World → List ℕ → EndCause → Woven_state) where
  -- ---- a put that is made again

  put_same : (box : BoxName) (shape : List Token) (f : Fib) (w full : World) (ps : List ℕ) (act : Act) (rest : List Deed) → put_again set W marks go raise box shape f w full ps act rest ≡ put_again set W marks go other box shape f w full ps act rest
  put_same box shape f w full ps (Put b k s) rest = refl
  put_same box shape f w full ps act rest = refl

  puts_same : (box : BoxName) (kept : Apart) (f : Fib) (w full : World) (ps : List ℕ) → puts_again set W marks go raise box kept f w full ps ≡ puts_again set W marks go other box kept f w full ps
  puts_same box kept f w full ps = ap (λ (z : Woven_state). spending set full WStop z) (by full.deeds)
    where
      by : (ds : List Deed) → ◌≡◌ {A = Woven_state} (elim ds [ [] ↦ WStop (Wants (PutWaits box kept.root kept.shape) full) | deed ∷ rest ↦ put_again set W marks go raise box kept.shape f w full ps deed.act rest ])
          (elim ds [ [] ↦ WStop (Wants (PutWaits box kept.root kept.shape) full) | deed ∷ rest ↦ put_again set W marks go other box kept.shape f w full ps deed.act rest ])
      by [] = refl
      by (d ∷ ds) = put_same box kept.shape f w full ps d.act ds

  again_same : (box : BoxName) (kept : Apart) (others : List Apart) (f : Fib) (w : World) (ps : List ℕ) → waits_again set W marks go raise box kept others f w ps ≡ waits_again set W marks go other box kept others f w ps
  again_same box kept others f w (suc k ∷ ps) = refl
  again_same box kept others f w (zero ∷ ps) = puts_same box kept f w (together kept.heap others w) ps
  again_same box kept others f w [] = puts_same box kept f w (together kept.heap others w) []

  kept_same : (ks : List Apart) (y : Value) (f : Fib) (w : World) (ps : List ℕ) → puts_kept set W marks go raise ks (y ∷ value.Null ∷ []) f w ps ≡ puts_kept set W marks go other ks (y ∷ value.Null ∷ []) f w ps
  kept_same [] y f w ps = refl
  kept_same (kept ∷ others) (value.Box box) f w ps = again_same box kept others f w ps
  kept_same (kept ∷ others) y f w ps = refl

  -- ---- a take

  take_same : (y : Value) (f : Fib) (w : World) (ps : List ℕ) → native_does set w WStop (λ after v. go (rewound f) after ps v) (raise f w ps) native.Get (y ∷ []) ≡ native_does set w WStop (λ after v. go (rewound f) after ps v) (other f w ps) native.Get (y ∷ [])
  take_same (value.Box box) f w ps = refl
  take_same y f w ps = refl

  gets_same : (y : Value) (f : Fib) (w : World) (ps : List ℕ) → gets set W marks go raise (y ∷ []) y f w ps ≡ gets set W marks go other (y ∷ []) y f w ps
  gets_same y f w (suc k ∷ ps) = refl
  gets_same y f w (zero ∷ ps) = ap (λ (z : Woven_state). spending set w WStop z) (take_same y f w ps)
  gets_same y f w [] = ap (λ (z : Woven_state). spending set w WStop z) (take_same y f w [])

  -- ---- each leaf

  module _ (form : Forms set W marks) (lo : List Rec) (r : Rec) (de : List Rec) (pa : Bool) (w : World) (ps : List ℕ) where
    leaf_same : (leaf : Native) (y : Value) (args : List Value) (result : Option Ty) → LeafTakes set W marks form leaf args y result
        → wnative set W marks go raise leaf (args ++ value.Fiber ∷ []) (Fiber_at lo r de true pa) w ps ≡ wnative set W marks go other leaf (args ++ value.Fiber ∷ []) (Fiber_at lo r de true pa) w ps
    leaf_same native.Get y args result takes =
        subst (λ (xs : List Value). wnative set W marks go raise native.Get (xs ++ value.Fiber ∷ []) (Fiber_at lo r de true pa) w ps ≡ wnative set W marks go other native.Get (xs ++ value.Fiber ∷ []) (Fiber_at lo r de true pa) w ps)
        (sym takes.0) (gets_same y (Fiber_at lo r de true pa) w ps)
    leaf_same native.PutWait y args result takes =
        subst (λ (xs : List Value). wnative set W marks go raise native.PutWait (xs ++ value.Fiber ∷ []) (Fiber_at lo r de true pa) w ps ≡ wnative set W marks go other native.PutWait (xs ++ value.Fiber ∷ []) (Fiber_at lo r de true pa) w ps)
        (sym takes.0) (kept_same w.aside y (Fiber_at lo r de true pa) w ps)
    leaf_same native.Yield y args result takes =
        subst (λ (xs : List Value). wnative set W marks go raise native.Yield (xs ++ value.Fiber ∷ []) (Fiber_at lo r de true pa) w ps ≡ wnative set W marks go other native.Yield (xs ++ value.Fiber ∷ []) (Fiber_at lo r de true pa) w ps)
        (sym takes.0) refl
    leaf_same leaf y args result takes = absurd takes

    -- a call of it
    pub called_same : (c : MethodId) (leaf : Native) (y : Value) (args : List Value) (result : Option Ty) → member_of W c ≡ None → native_of W c ≡ Some leaf → LeafTakes set W marks form leaf args y result
        → wasks set W marks go raise (member_of W c) (native_of W c) (args ++ value.Fiber ∷ []) (Fiber_at lo r de true pa) w ps ≡ wasks set W marks go other (member_of W c) (native_of W c) (args ++ value.Fiber ∷ []) (Fiber_at lo r de true pa) w ps
    called_same c leaf y args result no_member is takes =
        subst (λ (o : Option FiberMember). wasks set W marks go raise o (native_of W c) (args ++ value.Fiber ∷ []) (Fiber_at lo r de true pa) w ps ≡ wasks set W marks go other o (native_of W c) (args ++ value.Fiber ∷ []) (Fiber_at lo r de true pa) w ps) (sym no_member)
        (subst (λ (o : Option Native). wnatives set W marks go raise o (args ++ value.Fiber ∷ []) (Fiber_at lo r de true pa) w ps ≡ wnatives set W marks go other o (args ++ value.Fiber ∷ []) (Fiber_at lo r de true pa) w ps) (sym is)
        (leaf_same leaf y args result takes))
