-- What each instruction makes of a graph, or the least of the rules 1 to 7 and 9 that it breaks (own, after Srinivasan and
-- Mycroft, 2008).
--
-- 1 NotFree, 2 Gone, 3 SafeChanged, 4 Cycle, 5 SharedArguments, 6 KindMixed, 7 NotCuttable, 9 LeftOnStack
use Rattle.std.specs.Prelude.{ℕ, zero, suc, ◌+◌, ◌-◌, Bool, true, false, not, ◌||◌, List, [], ◌∷◌, ◌++◌, Option, Some, None, Result, Ok, Err, length, drop, take, replicate}
use Rattle.kilim_program.specs.declared.class.Method.{Method}
use Rattle.kilim_program.specs.declared.instr.Instr.{Instr}
use Rattle.kilim_program.specs.declared.instr.Instr.TheVariants.{Aload, Astore, Aaload, Aastore, Areturn, Getfield, Putfield, Invokevirtual, Invokespecial, Invokestatic, New, Newarray, Anewarray, Checkcast}
use Rattle.kilim_program.specs.declared.ty.Kind.TheVariants as kind
use Rattle.kilim_program.specs.declared.ty.Ty.{Ty}
use Rattle.kilim_program.specs.declared.verified.VType.{VType}
use Rattle.kilim_program.specs.declared.verified.VType.TheVariants.{Top, Long, Object}
use Rattle.kilim_program.specs.Program.{Program}
use Rattle.kilim_program.specs.Names.{method_at, field_of}
use Rattle.kilim_program.specs.Kinds.{class_kind, kind_of}
use Rattle.kilim_type_spec.specs.Step.{Types, peek, size, array_ty, rule, Form, Drops, Copies, Swaps, Row, Takes, Element, Shuffles, Loads, Stores, Adds, Makes, Constructs, Leaves, Is, row, type_step}
use Rattle.kilim_isolation_graph.specs.declared.graph.Graph.{Graph}
use Rattle.kilim_isolation_graph.specs.Graphs.{slot, with_slot, push, popped}
use Rattle.kilim_isolation_rules.specs.declared.deed.Deed.{Deed}
use Rattle.kilim_isolation_rules.specs.Marks.{names_gone, names_no_root, is_tree, is_private, mixes, any_mixes, flow_mixes, plain, given, stack_lives}
use Rattle.kilim_isolation_rules.specs.Fields.{gets_field, puts_field, gets_element, puts_element}
use Rattle.kilim_isolation_rules.specs.Calls.{call_raises, calls, handler_graph}

-- ---- pop, dup and swap forms

-- how many items so many words are
abbrev pub items : ℕ → List VType → ℕ
items zero ts = 0
items (suc n) [] = 0
items (suc n) (t ∷ ts) = suc (items (suc n - size t) ts)

abbrev pub copied : ℕ → ℕ → List (Option ℕ) → List (Option ℕ)
copied n m xs = take n xs ++ (take m (drop n xs) ++ (take n xs ++ drop m (drop n xs)))

abbrev pub shuffled : Form → List VType → List (Option ℕ) → List (Option ℕ)
shuffled (Drops n) ts xs = drop (items n ts) xs
shuffled (Copies n passed) ts xs = copied (items n ts) (items passed (drop (items n ts) ts)) xs
shuffled Swaps ts xs = take 1 (drop 1 xs) ++ (take 1 xs ++ drop 2 xs)

-- ---- what is of no kind of its own: names are pushed and popped as the types of the operands say

-- so many items less, and so many more that name no node
abbrev pub passed_by : (takes gives : ℕ) → Graph → Graph
passed_by takes gives g = record g { stack = replicate gives None ++ drop takes g.stack }

abbrev pub by_types : Graph → Types → Row → Graph
by_types g f (Takes takes gives also) = passed_by (length takes) (length gives) g
by_types g f Element = passed_by 2 1 g
by_types g f (Shuffles form) = record g { stack = shuffled form f.stack g.stack }
by_types g f (Loads o k) = push None g
by_types g f (Stores (Is Long) k) = record (popped 1 g) { locals = with_slot (with_slot g.locals k None) (suc k) None }
by_types g f (Stores o k) = record (popped 1 g) { locals = with_slot g.locals k None }
by_types g f (Adds k) = g
by_types g f (Makes may) = push None g
by_types g f (Constructs takes gives class before after) = passed_by (suc (length takes)) (length gives) g
by_types g f (Leaves takes also) = record g { stack = [] }

-- ---- the table

abbrev pub result_mixes : Program → Option Ty → VType → Bool
result_mixes p None t = false
result_mixes p (Some ty) t = mixes p t (Object ty)

abbrev pub returns : Program → Method → Graph → (types : List VType) → Deed
returns p m g ts = record (plain (record g { stack = [] })) { not_free = names_no_root g (slot g.stack 0); mixed = result_mixes p m.result (peek ts 0) }

-- a tree goes to a private type, or a private object to a tree type
abbrev pub cast_mixes : Program → VType → VType → Bool
cast_mixes p t into = mixes p t into || mixes p into t

unfoldable pub deed : Program → Method → Graph → Types → Instr → Deed
deed p m g f (Aload k) = record (plain (push (slot g.locals k) g)) { gone = names_gone g (slot g.locals k) }
deed p m g f (Astore k) = plain (record (popped 1 g) { locals = with_slot g.locals k (slot g.stack 0) })
deed p m g f (New c) = plain (given (class_kind p c) g)
deed p m g f (Newarray element) = plain (given kind.Tree (popped 1 g))
deed p m g f (Anewarray ty) = plain (given (kind_of p (array_ty ty)) (popped 1 g))
deed p m g f (Getfield field) = gets_field p g field (field_of p field)
deed p m g f (Putfield field) = puts_field p g f.stack field (field_of p field)
deed p m g f Aaload = gets_element p g f.stack
deed p m g f Aastore = puts_element p g f.stack
deed p m g f (Invokevirtual id) = calls p g f.stack (method_at p id)
deed p m g f (Invokespecial id) = calls p g f.stack (method_at p id)
deed p m g f (Invokestatic id) = calls p g f.stack (method_at p id)
deed p m g f Areturn = returns p m g f.stack
deed p m g f (Checkcast ty) = record (plain g) { mixed = cast_mixes p (peek f.stack 0) (Object ty) }
deed p m g f i = plain (by_types g f (row p m i))

-- What an instruction makes of a graph where it raises: a call has taken its arguments, every other one has changed nothing.
unfoldable pub raised_deed : Program → Graph → Types → Instr → Deed
raised_deed p g f (Invokevirtual id) = call_raises p g f.stack (method_at p id)
raised_deed p g f (Invokespecial id) = call_raises p g f.stack (method_at p id)
raised_deed p g f (Invokestatic id) = call_raises p g f.stack (method_at p id)
raised_deed p g f i = plain (handler_graph g)

-- a tree becomes private in a local of the frame that is declared at a handler; what is caught is private itself
abbrev pub locals_mix : Program → Types → Option Types → Bool
locals_mix p f None = false
locals_mix p f (Some d) = any_mixes p f.locals d.locals

-- ---- the step

-- What flows on is typed as the instruction leaves it; that a `new` leaves an object that isn't initialized yet is no
-- matter here, so no place is asked for.
abbrev pub left_by : Program → Method → Instr → Types → Result Types ℕ
left_by p m (New c) f = Ok (record f { stack = Top ∷ f.stack })
left_by p m i f = type_step p m 0 i f

abbrev pub any_flow_mixes : Program → Result Types ℕ → Option Types → Bool
any_flow_mixes p flow None = false
any_flow_mixes p (Err n) (Some d) = false
any_flow_mixes p (Ok f) (Some d) = flow_mixes p f d

-- the graph of a deed, or the least rule that it breaks; `flows` says that the flow to the next place mixes kinds
abbrev pub judged : Deed → (flows : Bool) → Result Graph ℕ
judged d flows =
    rule 1 (not d.not_free) (rule 2 (not d.gone) (rule 3 (not d.safe_changed) (rule 4 (not d.cycle) (rule 5 (not d.shared)
    (rule 6 (not (d.mixed || flows)) (rule 7 (not d.not_cuttable)
    (rule 9 (stack_lives d.graph) (Ok d.graph))))))))

-- The next graph, or the least rule that is broken; `after` is the frame that is declared at the next place of the path.
unfoldable pub moves : Program → Method → Graph → Types → Instr → Option Types → Result Graph ℕ
moves p m g f i after = judged (deed p m g f i) (any_flow_mixes p (left_by p m i f) after)

-- the next graph along a handler edge, or the least rule that is broken; `after` is the frame that is declared at the handler
unfoldable pub to_handler : Program → Graph → Types → Instr → Option Types → Result Graph ℕ
to_handler p g f i after = judged (raised_deed p g f i) (locals_mix p f after)
