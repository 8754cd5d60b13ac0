-- The class files of the demo of a number have texts.
use Rattle.std.proofs.Common.{◌≡◌, ℕ, zero, suc, ◌+◌, ◌-◌, ◌%◌, ◌<◌, ◌≤◌, true, List, [], ◌∷◌, ◌++◌, take, drop, length, length-append, refl, sym, ap, ◌∙◌, subst, arith}
use Rattle.std.specs.Fmt.{digits}
use Rattle.std.specs.Prelude.{Ok}
use Rattle.std.specs.List.{AllByRecursion}
use Rattle.kilim_class_attributes.specs.parts.Indices.{has_kind, index_at as attribute_parts_index_at}
use Rattle.kilim_class_attributes.specs.parts.Names.{named}
use Rattle.kilim_class_attributes.specs.parts.Annotations.{value_behind, value_at, annotation_at, part_at, parts_at}
use Rattle.kilim_class_attributes.specs.parts.Choices.{sentence_at}
use Rattle.kilim_class_attributes.specs.parts.Frames.{type_behind, type_at, delta_and_type_at, counted_types_at, appended_at, full_at, frame_behind, frame_at, frames_at}
use Rattle.kilim_class_attributes.specs.Attributes.{exceptions_at, whole_parts, info_of, attribute_of, attribute_at, attributes_at}
use Rattle.kilim_class_attributes.specs.Codes.{code_info_of, code_attribute_of, code_attribute_at, code_bytes_at, handler_at, handlers_at, code_at}
use Rattle.kilim_class_attributes.specs.Forms.{form_at, form_of as attributes_form_of}
use Rattle.kilim_class_attributes.specs.Lists.{many_after, listed, named_bytes_at}
use Rattle.kilim_class_file.specs.declared.class_file.ClassFile.{ClassFile}
use Rattle.kilim_class_file.specs.Parts.{text_of, has_its_code}
use Rattle.kilim_class_file.specs.Reading.{member_at, method_at, magic_at, version_at, front_at, names_at, lists_at, read_class, index_at as classfile_index_at, class_at as classfile_class_at}
use Rattle.kilim_class_file.specs.Text.{class_text, size_limit}
use Rattle.kilim_class_pool.specs.Entries.{refers_well, first_bad}
use Rattle.kilim_class_pool.specs.Reading.{text_at, handle_at, reference_at, content_at, entry_at_index, entries_at, pool_at, pair_at as constant_pool_pair_at}
use Rattle.kilim_class_grammar.specs.Reader.{many}
use Rattle.kilim_class_grammar.specs.Spelling.{u2}
use Rattle.kilim_class_mutf8.specs.Whole.{units_of, units_within}
use Rattle.kilim_class_mutf8.specs.Reading.{two_at, three_at, unit_at}
use Rattle.kilim_class_file.specs.Law.{ClassFilesAreSpelled}
use Rattle.kilim_class_file.specs.Text.{ClassFits}
use Rattle.rand_pcg.specs.Lcg.{Lcg}
use Rattle.kilim_demo.specs.declared.draws.Operation.{Operation}
use Rattle.kilim_demo.specs.declared.draws.Operation.TheVariants.{Adds, Prepends, Cuts}
use Rattle.kilim_demo.specs.declared.draws.Stage.{Stage}
use Rattle.kilim_demo.specs.Demo.{demo_of, planned_files, stage_files}
use Rattle.kilim_demo.specs.MainClass.{main_file}
use Rattle.kilim_demo.specs.Node.{node_code, node_file, node_pool}
use Rattle.kilim_demo.specs.Plan.{drawn, plan_from, plan_of, seeded, stage_drawn, stages_drawn}
use Rattle.kilim_demo.specs.Stage.{stage_file, stage_name}
use Rattle.kilim_demo.proofs.Bytes.{Small, are_bytes, are_small, small_both, small_by, small_drop, small_take, small_two}
use Rattle.kilim_demo.proofs.Drawn.{drawn_length}
use Rattle.kilim_demo.proofs.Mains as mains
use Rattle.kilim_demo.proofs.Renamed.{NameFits, name_by, renamed}
use Rattle.kilim_demo.proofs.Stages as stages

node_small : are_small (class_text node_file) ≡ true
unfolding node_code node_file node_pool
node_small = refl

node_read : read_class (class_text node_file) ≡ Ok node_file
unfolding node_code node_file node_pool text_of has_its_code size_limit classfile_index_at member_at method_at magic_at version_at front_at names_at lists_at classfile_class_at read_class refers_well first_bad text_at constant_pool_pair_at handle_at reference_at content_at entry_at_index entries_at pool_at exceptions_at whole_parts info_of attribute_of attribute_at attributes_at code_info_of code_attribute_of code_attribute_at code_bytes_at handler_at handlers_at code_at attributes_form_of form_at many_after listed named_bytes_at named has_kind attribute_parts_index_at many two_at three_at unit_at units_of units_within value_behind value_at annotation_at part_at parts_at sentence_at type_behind type_at delta_and_type_at counted_types_at appended_at full_at frame_behind frame_at frames_at
node_read = refl

small_rest : (n : ℕ) → n % 100 < 256
small_rest n = omega arith

at_least_one : (n : ℕ) → 1 ≤ 1 + n % 15
at_least_one n = omega arith

at_most_fifteen : (n : ℕ) → 1 + n % 15 ≤ 15
at_most_fifteen n = omega arith

-- ---- below 16

-- what holds of so many numbers from j on
abbrev From : ℕ → ℕ → (ℕ → Type 0) → Type 0
From j zero P = Unit {0}
From j (suc n) P = P j × From (j + 1) n P

pick : (n j : ℕ) (P : ℕ → Type 0) → From j n P → (i : ℕ) → i < n → P (j + i)
pick zero j P all i lt = absurd (omega (arith, lt))
pick (suc n) j P all zero lt = let e : j ≡ j + 0 = omega arith in subst P e all.0
pick (suc n) j P all (suc i) lt = let e : j + 1 + i ≡ j + suc i = omega arith in subst P e (pick n (j + 1) P all.1 i (omega (arith, lt)))

at_one : (P : ℕ → Type 0) → From 1 15 P → (k : ℕ) → 1 ≤ k → k ≤ 15 → P k
at_one P all k low high = let e : 1 + (k - 1) ≡ k = omega (arith, low) in subst P e (pick 15 1 P all (k - 1) (omega (arith, low, high)))

-- ---- stages

names_fit : From 1 15 NameFits
unfolding digits stage_name
names_fit = (name_by 1 refl refl, (name_by 2 refl refl, (name_by 3 refl refl, (name_by 4 refl refl, (name_by 5 refl refl, (name_by 6 refl refl, (name_by 7 refl refl, (name_by 8 refl refl, (name_by 9 refl refl, (name_by 10 refl refl, (name_by 11 refl refl, (name_by 12 refl refl, (name_by 13 refl refl, (name_by 14 refl refl, (name_by 15 refl refl, tt)))))))))))))))

-- the front of these bytes, the number of messages, and others
small_front : (bytes : List ℕ) (at m : ℕ) (others : List ℕ) → Small bytes → Small others → Small (take at bytes ++ (u2 m ++ others))
small_front bytes at m others small rest = small_both (take at bytes) (u2 m ++ others) (small_take at bytes small) (small_both (u2 m) others (small_two m) rest)

-- some bytes behind that, a number of one byte, and the rest
small_number : (bytes : List ℕ) (long from to c : ℕ) → Small bytes → c < 256 → Small (take long (drop from bytes) ++ (c ∷ drop to bytes))
small_number bytes long from to c small lt = small_both (take long (drop from bytes)) (c ∷ drop to bytes) (small_take long (drop from bytes) (small_drop from bytes small)) (lt, small_drop to bytes small)

small_parts : (bytes : List ℕ) (at : ℕ) (op : Operation) (m c : ℕ) → Small bytes → c < 256 → Small (stages.parts_of bytes at op m c)
small_parts bytes at Adds m c small lt = small_front bytes at m (take 20 (drop (at + 2) bytes) ++ (c ∷ drop (at + 23) bytes)) small (small_number bytes 20 (at + 2) (at + 23) c small lt)
small_parts bytes at Prepends m c small lt = small_front bytes at m (take 19 (drop (at + 2) bytes) ++ (c ∷ drop (at + 22) bytes)) small (small_number bytes 19 (at + 2) (at + 22) c small lt)
small_parts bytes at Cuts m c small lt = small_front bytes at m (drop (at + 2) bytes) small (small_drop (at + 2) bytes small)

small_main : (bytes : List ℕ) (at m : ℕ) → Small bytes → Small (mains.parts_of bytes at m)
small_main bytes at m small =
    small_front bytes at m (take 47 (drop (at + 2) bytes) ++ (u2 m ++ drop (at + 51) bytes)) small
    (small_both (take 47 (drop (at + 2) bytes)) (u2 m ++ drop (at + 51) bytes) (small_take 47 (drop (at + 2) bytes) (small_drop (at + 2) bytes small))
    (small_both (u2 m) (drop (at + 51) bytes) (small_two m) (small_drop (at + 51) bytes small)))

module _ (law : ClassFilesAreSpelled) where
  -- a file whose text is bytes and is read again has one
  fits_by : (file : ClassFile) (bytes : List ℕ) → class_text file ≡ bytes → Small bytes → read_class (class_text file) ≡ Ok file → ClassFits file
  fits_by file bytes e small read = (law.takes (class_text file) file (are_bytes (class_text file) (subst Small (sym e) small)) read).1

  stage_by : (k at : ℕ) (op : Operation) (m c : ℕ) → c < 256 → stages.IsRead k at op m c → ClassFits (stages.file_of k op m c)
  stage_by k at op m c lt is =
      fits_by (stages.file_of k op m c) (stages.parts_of (stages.known k op) at op m c) is.parts (small_parts (stages.known k op) at op m c (small_by (stages.known k op) is.bytes) lt) is.read

  main_by : (n at m : ℕ) → mains.IsRead n at m → ClassFits (main_file n m)
  main_by n at m is = fits_by (main_file n m) (mains.parts_of (mains.known n) at m) is.parts (small_main (mains.known n) at m (small_by (mains.known n) is.bytes)) is.read

  abbrev MainFits : ℕ → Type 0
  MainFits n = (m : ℕ) → ClassFits (main_file n m)

  mains_fit : From 1 15 MainFits
  mains_fit = (λ m. main_by 1 528 m (mains.read_1 m), (λ m. main_by 2 566 m (mains.read_2 m), (λ m. main_by 3 604 m (mains.read_3 m), (λ m. main_by 4 642 m (mains.read_4 m), (λ m. main_by 5 680 m (mains.read_5 m), (λ m. main_by 6 718 m (mains.read_6 m), (λ m. main_by 7 756 m (mains.read_7 m), (λ m. main_by 8 794 m (mains.read_8 m), (λ m. main_by 9 832 m (mains.read_9 m), (λ m. main_by 10 871 m (mains.read_10 m), (λ m. main_by 11 910 m (mains.read_11 m), (λ m. main_by 12 949 m (mains.read_12 m), (λ m. main_by 13 988 m (mains.read_13 m), (λ m. main_by 14 1027 m (mains.read_14 m), (λ m. main_by 15 1066 m (mains.read_15 m), tt)))))))))))))))

  node_fits : ClassFits node_file
  node_fits = fits_by node_file (class_text node_file) refl (small_by (class_text node_file) node_small) node_read

  -- ---- all of them

  abbrev All : List ClassFile → Type 0
  All files = AllByRecursion ClassFits files

  all_both : (xs ys : List ClassFile) → All xs → All ys → All (xs ++ ys)
  all_both [] ys a b = b
  all_both (x ∷ xs) ys a b = (a.0, all_both xs ys a.1 b)

  stage_fits : (k m : ℕ) (stage : Stage) → 1 ≤ k → k ≤ 15 → stage.number < 256 → ClassFits (stage_file k m stage)
  stage_fits k m stage low high lt =
      renamed k stage.operation m stage.number (at_one NameFits names_fit k low high) (stage_by 1 482 stage.operation m stage.number lt (stages.read_1 stage.operation m stage.number))

  drawn_small : (g : Lcg) → (stage_drawn g).0.number < 256
  unfolding stage_drawn
  drawn_small g = small_rest (drawn (drawn g).1).0

  all_stages : (count k m : ℕ) (g : Lcg) → 1 ≤ k → k + count ≤ 16 → All (stage_files k m (stages_drawn count g))
  all_stages zero k m g low high = tt
  all_stages (suc count) k m g low high =
      (stage_fits k m (stage_drawn g).0 low (omega (arith, high)) (drawn_small g), all_stages count (k + 1) m (stage_drawn g).1 (omega (arith, low)) (omega (arith, high)))

  main_fits : (n m : ℕ) → 1 ≤ n → n ≤ 15 → ClassFits (main_file n m)
  main_fits n m low high = at_one MainFits mains_fit n low high m

  planned : (count m : ℕ) (g : Lcg) → 1 ≤ count → count ≤ 15 → All (planned_files (record { messages = m; stages = stages_drawn count g }))
  planned count m g low high = (
    node_fits,
    all_both _ _ (all_stages count 1 m g (omega arith) (omega (arith, high)))
        (subst (λ (n : ℕ). ClassFits (main_file n m)) (sym (drawn_length count g)) (main_fits count m low high), tt),
  )

  pub demo_fits : (number : ℕ) → All (demo_of number)
  unfolding demo_of plan_of plan_from
  demo_fits number =
      let g = seeded number in
      planned (1 + (drawn g).0 % 15) (1 + (drawn (drawn g).1).0 % 1000) (drawn (drawn g).1).1 (at_least_one ((drawn g).0)) (at_most_fifteen ((drawn g).0))

-- ---- how many there are

count_files : (k m : ℕ) (stages : List Stage) → length (stage_files k m stages) ≡ length stages
count_files k m [] = refl
count_files k m (s ∷ stages) = ap suc (count_files (k + 1) m stages)

planned_length : (count m : ℕ) (g : Lcg) → count ≤ 15 → length (planned_files (record { messages = m; stages = stages_drawn count g })) ≤ 17
planned_length count m g few =
    let whole : length (stage_files 1 m (stages_drawn count g) ++ main_file (length (stages_drawn count g)) m ∷ []) ≡ count + 1 =
    length-append (stage_files 1 m (stages_drawn count g)) _ ∙ ap (λ n. n + 1) (count_files 1 m (stages_drawn count g) ∙ drawn_length count g) in
    let P : ℕ → Type 0 = λ n. suc n ≤ 17 in subst P (sym whole) (omega (arith, few))

pub demo_is_short : (number : ℕ) → length (demo_of number) ≤ 17
unfolding demo_of plan_of plan_from
demo_is_short number =
    let g = seeded number in
    planned_length (1 + (drawn g).0 % 15) (1 + (drawn (drawn g).1).0 % 1000) (drawn (drawn g).1).1 (at_most_fifteen ((drawn g).0))
