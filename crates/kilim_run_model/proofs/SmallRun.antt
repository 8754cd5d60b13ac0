-- The run of a small program, instruction by instruction.
use Rattle.std.proofs.Common.{◌≡◌, ℕ, suc, ◌+◌, ◌-◌, ◌*◌, ◌<◌, ◌≤◌, ℤ, Bool, true, false, cond, eqb, List, [], ◌∷◌, ◌++◌, map, length, Option, Some, None, refl, sym, ap, ◌∙◌, append_assoc, arith}
use Rattle.std.specs.Prelude.{replicate, ◌||◌, ◌&&◌, codes}
use Rattle.std.specs.Str.{bytes_eq}
use Rattle.kilim_program.specs.Names.{◌>>=◌, method_at}
use Rattle.kilim_program.specs.Members.{is_own_constructor, constructor_of}
use Rattle.std.specs.FinMap.{empty, insert}
use Rattle.std.proofs.lemmas.Bool.{ne_eqb, eq-eqb}
use Rattle.std.proofs.lemmas.List.{append-nil}
use Rattle.kilim_run_state.specs.declared.cause.EndCause.TheVariants.{Done}
use Rattle.kilim_program.specs.declared.instr.Instr.{Instr}
use Rattle.kilim_program.specs.declared.instr.Instr.TheVariants.{Aload, Bipush, Invokespecial, Invokestatic, Return}
use Rattle.kilim_program.specs.declared.value.Value.{Value}
use Rattle.kilim_program.specs.declared.value.Value.TheVariants.{Int, Null, Ref}
use Rattle.kilim_run_journal.specs.declared.entry.Entry.{Entry}
use Rattle.kilim_run_journal.specs.declared.entry.Act.TheVariants.{Print, End}
use Rattle.kilim_run_state.specs.declared.value.Token.TheVariants as token
use Rattle.kilim_program.specs.BuiltIn.{class_id, method_id}
use Rattle.kilim_run_machine.specs.Does.{does}
use Rattle.kilim_program.specs.Lengths.{fetched, first_place}
use Rattle.kilim_run_state.specs.Objects.{new_object}
use Rattle.kilim_run_model.specs.State.{is_fit, Setting, Alive, Ended, State, empty_mailbox, first_state}
use Rattle.kilim_run_model.specs.Lone.{next_move}
use Rattle.kilim_run_model.specs.Turn.{moved, quiet, acted}
use Rattle.kilim_run_model.specs.Runs.{acted_within, before_action, Replays, Whole}
use Rattle.kilim_run_model.specs.Small.{Small, print_int, print_code, small_constructor, small_execute, small_program, small_setting, print_entry, done_entry, small_journal}
use Rattle.kilim_run_model.proofs.Steps.{step, quietly, at_once}

-- ---- places in the code

first_place_of : (at end : ℕ) (ns : List ℤ) → first_place (print_code at ns) end ≡ at
first_place_of at end [] = refl
first_place_of at end (n ∷ ns) = refl

skipped : (b : Bool) (x y : Option (Instr × ℕ)) → b ≡ false → cond b x y ≡ y
skipped b x y e = rw e refl

chosen : (b : Bool) (x y : Option (Instr × ℕ)) → b ≡ true → cond b x y ≡ x
chosen b x y e = rw e refl

-- the code behind some prints
behind : (front ns : List ℤ) (at end place : ℕ) → at + 5 * length front ≤ place →
    fetched (print_code at (front ++ ns)) end place ≡ fetched (print_code (at + 5 * length front) ns) end place
behind [] ns at end place le = ap (λ (k : ℕ). fetched (print_code k ns) end place) (omega arith)
behind (f ∷ front) ns at end place le =
    skipped (eqb at place) _ _ (ne_eqb at place (λ e. omega arith))
    ∙ (skipped (eqb (at + 2) place) _ _ (ne_eqb (at + 2) place (λ e. omega arith))
    ∙ (behind front ns (at + 5) end place (omega arith)
    ∙ ap (λ (k : ℕ). fetched (print_code k ns) end place) (omega arith)))

-- what stands there
push_there : (front ns : List ℤ) (n : ℤ) (end place : ℕ) → place ≡ 5 * length front → fetched (print_code 0 (front ++ n ∷ ns)) end place ≡ Some (Bipush n, place + 2)
push_there front ns n end place e =
    behind front (n ∷ ns) 0 end place (omega arith)
    ∙ (ap (λ (k : ℕ). fetched (print_code k (n ∷ ns)) end place) (let k : 0 + 5 * length front ≡ place = omega arith in k)
    ∙ chosen (eqb place place) _ _ (eq-eqb place place refl))

print_there : (front ns : List ℤ) (n : ℤ) (end place : ℕ) → place ≡ 5 * length front → fetched (print_code 0 (front ++ n ∷ ns)) end (place + 2) ≡ Some (Invokestatic (method_id print_int), place + 5)
print_there front ns n end place e =
    behind front (n ∷ ns) 0 end (place + 2) (omega arith)
    ∙ (ap (λ (k : ℕ). fetched (print_code k (n ∷ ns)) end (place + 2)) (let k : 0 + 5 * length front ≡ place = omega arith in k)
    ∙ (skipped (eqb place (place + 2)) _ _ (ne_eqb place (place + 2) (λ e. omega arith))
    ∙ (chosen (eqb (place + 2) (place + 2)) _ _ (eq-eqb (place + 2) (place + 2) refl)
    ∙ ap (λ (k : ℕ). Some (Invokestatic (method_id print_int), k)) (first_place_of (place + 5) end ns))))

return_there : (front : List ℤ) (end place : ℕ) → place ≡ 5 * length front → fetched (print_code 0 (front ++ [])) end place ≡ Some (Return, end)
return_there front end place e =
    behind front [] 0 end place (omega arith)
    ∙ (ap (λ (k : ℕ). fetched (print_code k []) end place) (let k : 0 + 5 * length front ≡ place = omega arith in k)
    ∙ chosen (eqb place place) _ _ (eq-eqb place place refl))

-- ---- states

module _ (s : Small) (steps : ℕ) where
  abbrev pub set : Setting
  set = small_setting s steps

  abbrev pub locals_of : ℕ → List Value
  locals_of room = Ref 0 ∷ replicate (room - 1) Null

  abbrev pub state_with : ℕ → List Value → ℕ → ℕ → ℕ → List Value → List Entry → Option ℕ → State
  state_with method locals place done boxes stack journal kept = record {
    heap = insert empty 0 (new_object (small_program s) (class_id 0));
    next = 1;
    threads = Alive (record { method = method_id method; place = place; locals = locals; stack = stack } ∷ []) done boxes ∷ [];
    mailboxes = λ box. empty_mailbox;
    journal = journal;
    kept = kept;
  }

  -- in the constructor
  abbrev pub making : ℕ → ℕ → List Value → State
  making place done stack = state_with 0 (locals_of s.constructor_locals) place done 0 stack [] (Some 0)

  -- in `execute`
  abbrev pub running : ℕ → ℕ → List Value → List Entry → State
  running place done stack journal = state_with 1 (locals_of s.execute_locals) place done 0 stack journal None

  abbrev pub final : List Entry → State
  final journal = record {
    heap = insert empty 0 (new_object (small_program s) (class_id 0));
    next = 1;
    threads = Ended Done ∷ [];
    mailboxes = λ box. empty_mailbox;
    journal = journal;
    kept = None;
  }

  -- ---- the constructor

  loads : 0 < steps → moved set (making 0 0 []) 0 ≡ quiet (making 1 1 (Ref 0 ∷ []))
  unfolding does
  loads left = step set (making 0 0 []) 0 _ [] 0 0 (small_constructor s) (Aload 0, 1) refl left refl refl

  constructs : 1 < steps → moved set (making 1 1 (Ref 0 ∷ [])) 0 ≡ quiet (making 4 2 [])
  unfolding does
  constructs left = step set (making 1 1 (Ref 0 ∷ [])) 0 _ [] 1 0 (small_constructor s) (Invokespecial (method_id 6), 4) refl left refl refl

  begins : 2 < steps → moved set (making 4 2 []) 0 ≡ quiet (running 0 3 [] [])
  unfolding does
  begins left = step set (making 4 2 []) 0 _ [] 2 0 (small_constructor s) (Return, 5) refl left refl refl

  pub makes : (n : ℕ) → 3 ≤ steps → acted_within set (suc (suc (suc n))) (first_state set) 0 ≡ acted_within set n (running 0 3 [] []) 0
  makes n left =
      quietly set (suc (suc n)) (making 0 0 []) (making 1 1 (Ref 0 ∷ [])) 0 (loads (omega arith))
      ∙ (quietly set (suc n) (making 1 1 (Ref 0 ∷ [])) (making 4 2 []) 0 (constructs (omega arith))
      ∙ quietly set n (making 4 2 []) (running 0 3 [] []) 0 (begins (omega arith)))

  -- ---- `execute`

  all_code : (front ns : List ℤ) → s.prints ≡ front ++ ns → (place : ℕ) (found : Option (Instr × ℕ)) →
      fetched (print_code 0 (front ++ ns)) (5 * length s.prints + 1) place ≡ found → fetched (small_execute s).code (small_execute s).code_length place ≡ found
  all_code front ns parts place found e = ap (λ (all : List ℤ). fetched (print_code 0 all) (5 * length s.prints + 1) place) parts ∙ e

  pushes : (front ns : List ℤ) (n : ℤ) → s.prints ≡ front ++ n ∷ ns → (place done : ℕ) (journal : List Entry) → place ≡ 5 * length front → done < steps →
      moved set (running place done [] journal) 0 ≡ quiet (running (place + 2) (done + 1) (Int n ∷ []) journal)
  unfolding does
  pushes front ns n parts place done journal at left =
      step set (running place done [] journal) 0 _ [] done 0 (small_execute s) (Bipush n, place + 2) refl left refl (all_code front (n ∷ ns) parts place _ (push_there front ns n _ place at))

  prints : (front ns : List ℤ) (n : ℤ) → s.prints ≡ front ++ n ∷ ns → (place done : ℕ) (journal : List Entry) → place ≡ 5 * length front → done < steps →
      moved set (running (place + 2) done (Int n ∷ []) journal) 0 ≡ acted (running (place + 5) (done + 1) [] journal) (Print (token.Int n ∷ []))
  unfolding does
  prints front ns n parts place done journal at left =
      step set (running (place + 2) done (Int n ∷ []) journal) 0 _ [] done 0 (small_execute s) (Invokestatic (method_id print_int), place + 5) refl left refl (all_code front (n ∷ ns) parts (place + 2) _ (print_there front ns n _ place at))

  returns : (front : List ℤ) → s.prints ≡ front ++ [] → (place done : ℕ) (journal : List Entry) → place ≡ 5 * length front → done < steps →
      moved set (running place done [] journal) 0 ≡ acted (final journal) (End Done)
  unfolding does
  returns front parts place done journal at left =
      step set (running place done [] journal) 0 _ [] done 0 (small_execute s) (Return, 5 * length s.prints + 1) refl left refl (all_code front [] parts place _ (return_there front _ place at))

  -- the next line
  prints_next : (front ns : List ℤ) (n : ℤ) → s.prints ≡ front ++ n ∷ ns → (place done : ℕ) (journal : List Entry) → place ≡ 5 * length front → done + 1 < steps →
      acted_within set 2 (running place done [] journal) 0 ≡ Some (Print (token.Int n ∷ []), running (place + 5) (done + 1 + 1) [] (journal ++ print_entry n ∷ []))
  prints_next front ns n parts place done journal at left =
      quietly set 1 (running place done [] journal) (running (place + 2) (done + 1) (Int n ∷ []) journal) 0 (pushes front ns n parts place done journal at (omega arith))
      ∙ at_once set 0 (running (place + 2) (done + 1) (Int n ∷ []) journal) _ 0 (Print (token.Int n ∷ [])) (prints front ns n parts place (done + 1) journal at left)

  returns_next : (front : List ℤ) → s.prints ≡ front ++ [] → (place done : ℕ) (journal : List Entry) → place ≡ 5 * length front → done < steps →
      acted_within set 1 (running place done [] journal) 0 ≡ Some (End Done, final (journal ++ done_entry ∷ []))
  returns_next front parts place done journal at left = at_once set 0 (running place done [] journal) _ 0 (End Done) (returns front parts place done journal at left)

  -- what is left of the journal
  abbrev pub lines_of : List ℤ → List Entry
  lines_of ns = map print_entry ns ++ done_entry ∷ []

  Ends : State → List Entry → Type 0
  Ends st es = (journal : List Entry) × Replays set st es (final journal)

  length_push : (front : List ℤ) (n : ℤ) → length (front ++ n ∷ []) ≡ length front + 1
  length_push [] n = refl
  length_push (f ∷ front) n = let e = length_push front n in omega arith

  replays_rest : (front ns : List ℤ) → s.prints ≡ front ++ ns → (place done : ℕ) (journal : List Entry) → place ≡ 5 * length front → done + 2 * length ns + 1 ≤ steps →
      Ends (running place done [] journal) (lines_of ns)
  unfolding Ends
  replays_rest front [] parts place done journal at left =
      (journal ++ done_entry ∷ [], (1, final (journal ++ done_entry ∷ []), returns_next front parts place done journal at (omega arith), refl))
  replays_rest front (n ∷ ns) parts place done journal at left =
      let first = prints_next front ns n parts place done journal at (omega arith) in
      let len = length_push front n in
      let rest = replays_rest (front ++ n ∷ []) ns (parts ∙ sym (append_assoc front (n ∷ []) ns)) (place + 5) (done + 1 + 1) (journal ++ print_entry n ∷ []) (omega arith) (omega arith) in
      (rest.0, (2, running (place + 5) (done + 1 + 1) [] (journal ++ print_entry n ∷ []), first, rest.1))

  -- the first line comes behind the constructor
  replays_all : (ns : List ℤ) → s.prints ≡ ns → 2 * length ns + 4 ≤ steps → Ends (first_state set) (lines_of ns)
  unfolding Ends
  replays_all [] parts left =
      (done_entry ∷ [], (4, final (done_entry ∷ []), makes 1 (omega arith) ∙ returns_next [] parts 0 3 [] refl (omega arith), refl))
  replays_all (n ∷ ns) parts left =
      let rest = replays_rest (n ∷ []) ns parts 5 5 (print_entry n ∷ []) refl (omega arith) in
      (rest.0, (5, running 5 5 [] (print_entry n ∷ []), makes 2 (omega arith) ∙ prints_next [] ns n parts 0 3 [] refl (omega arith), rest.1))

  or_true : (b c : Bool) → c ≡ true → (b || c) ≡ true
  or_true true c e = refl
  or_true false c e = e

  -- the class is a task, whatever its name is
  fits : is_fit set ≡ true
  fits = ap (λ (b : Bool). b && is_own_constructor (constructor_of set.program set.main >>= method_at set.program)) (or_true (bytes_eq s.name (codes "kilim/Task")) _ refl)

  pub is_whole : 2 * length s.prints + 4 ≤ steps → Whole set (small_journal s)
  unfolding Ends before_action next_move
  is_whole left =
      let all = replays_all s.prints refl left in
      record {
        fit = fits;
        acts = small_journal s;
        waits = [];
        parts = sym (append-nil (small_journal s));
        last = final all.0;
        replays = all.1;
        at_rest = record { moves = 0; rest = refl; waiting = refl };
      }
