-- Records under other names.
use Rattle.std.proofs.Common.{◌≡◌, ℕ, List, ◌∷◌, Some, refl, []}
use Rattle.kilim_program.specs.declared.value.Value.{Value}
use Rattle.kilim_run_model.specs.kin.Kin.{Names, IsKin}
use Rattle.kilim_run_model.proofs.kin.Kins.{value_up, values_up}
use Rattle.kilim_fiber_spec.specs.Fibers.{Fib, Fiber_at, Rec, Saved, first_receiver, is_pausing, is_rewinding, pausing, resumed, rewound}
use Rattle.kilim_fiber_laws.specs.woven_kin.Alike.{RecordKin, RecordsKin, FibersKin}

module _ (of more : Names) (up : (n x : ℕ) → of n ≡ Some x → more n ≡ Some x) where
  pub record_up : (r s : Rec) → RecordKin of r s → RecordKin more r s
  record_up (Saved p x vs) (Saved q y ws) e = (e.0, value_up of more up x y e.1, values_up of more up vs ws e.2)

  pub records_up : (rs ss : List Rec) → RecordsKin of rs ss → RecordsKin more rs ss
  records_up [] [] e = tt
  records_up (r ∷ rs) (s ∷ ss) e = (record_up r s e.0, records_up rs ss e.1)
  records_up _ _ e = absurd e

  pub fibers_up : (f g : Fib) → FibersKin of f g → FibersKin more f g
  fibers_up (Fiber_at lo r de re pa) (Fiber_at lower s deeper again pauses) e = (records_up lo lower e.0, record_up r s e.1, records_up de deeper e.2, e.3, e.4)

module _ (of : Names) where
  pub rewinding_same : (f g : Fib) → FibersKin of f g → is_rewinding f ≡ is_rewinding g
  rewinding_same (Fiber_at lo r de re pa) (Fiber_at lower s deeper again pauses) e = e.3

  pub pausing_same : (f g : Fib) → FibersKin of f g → is_pausing f ≡ is_pausing g
  pausing_same (Fiber_at lo r de re pa) (Fiber_at lower s deeper again pauses) e = e.4

  pub rewound_kin : (f g : Fib) → FibersKin of f g → FibersKin of (rewound f) (rewound g)
  rewound_kin (Fiber_at lo r de re pa) (Fiber_at lower s deeper again pauses) e = (e.0, (refl, tt, tt), e.2, refl, e.4)

  pub pausing_kin : (v w : Value) → IsKin of v w → (f g : Fib) → FibersKin of f g → FibersKin of (pausing v f) (pausing w g)
  pausing_kin v w k (Fiber_at lo r de re pa) (Fiber_at lower s deeper again pauses) e = (e.0, (refl, k, tt), e.2, refl, refl)

  pub resumed_kin : (f g : Fib) → FibersKin of f g → FibersKin of (resumed f) (resumed g)
  resumed_kin (Fiber_at lo r de re pa) (Fiber_at lower s deeper again pauses) e = (e.0, e.1, e.2, refl, refl)

  pub receiver_kin : (f g : Fib) → FibersKin of f g → IsKin of (first_receiver f) (first_receiver g)
  receiver_kin (Fiber_at lo (Saved p x vs) de re pa) (Fiber_at lower (Saved q y ws) deeper again pauses) e = e.1.1
