-- The grammar of the words after the program's name. Words are lists of bytes.
--
--     check FILE..
--     weave --to=DIR FILE..
--     run --main=NAME [--workers=W] [--steps=N] FILE.. [-- INT..]
--     replay --main=NAME --journal=FILE [--steps=N] FILE.. [-- INT..]
--     save --main=NAME --entries=K --image=FILE [--steps=N] FILE.. [-- INT..]
--     resume --image=FILE [--workers=W]
--     demo --number=D [--workers=W]
--
-- The command is the first word. Options stand behind it, in any order, each at most once.
use Rattle.std.specs.Prelude.{ℕ, suc, take, ℤ, Bool, false, ◌&&◌, ◌||◌, not, ◌==◌, nat_eq, nat_lt, nat_le, if◌then◌else◌, is_some, length, drop, List, [], ◌∷◌, ◌++◌, Option, Some, None, codes}
use Rattle.std.specs.List.{starts_with, list_all}
use Rattle.std.specs.Str.{bytes_eq}
use Rattle.kilim_units.specs.Characters.{hyphen}
use Rattle.kilim_command.specs.grammar.Numbers.{number_in, int_by}

-- what the words ask for
pub data Request : Type 0 where
  -- to check these files
  Check : (files : List (List ℕ)) → Request
  -- to weave these files, into files below a directory
  Weave : (to : List ℕ) (files : List (List ℕ)) → Request
  -- to run the main class of these files, with so many workers, at most so many instructions of each task, and these numbers
  Run : (main : List ℕ) (workers steps : ℕ) (args : List ℤ) (files : List (List ℕ)) → Request
  -- to check a journal, in a file of that name, against the main class of these files, with the limits of a run
  Replay : (main journal : List ℕ) (steps : ℕ) (args : List ℤ) (files : List (List ℕ)) → Request
  -- to run the main class of these files until its journal has so many entries, with the limits of a run, and to write the image of that run into
  -- a file of that name
  Save : (main image : List ℕ) (entries steps : ℕ) (args : List ℤ) (files : List (List ℕ)) → Request
  -- to go on with a run from its image, in a file of that name, with so many workers
  Resume : (image : List ℕ) (workers : ℕ) → Request
  -- to run the demo of a number, with so many workers
  Demo : (number workers : ℕ) → Request

-- ---- words

abbrev pub is_hyphened : List ℕ → Bool
is_hyphened [] = false
is_hyphened (b ∷ bs) = b == hyphen

-- a word that names a file isn't empty, and doesn't begin with a hyphen
abbrev pub is_file : List ℕ → Bool
is_file [] = false
is_file (b ∷ bs) = not (b == hyphen)

-- what stands behind the front in a word that begins so: the value of an option NAME=VALUE
abbrev pub value_behind : List ℕ → List ℕ → Option (List ℕ)
value_behind front word = if starts_with nat_eq word front then Some (drop (length front) word) else None

-- how many words stand first that begin with a hyphen, and how many that don't
abbrev pub count_hyphened : List (List ℕ) → ℕ
count_hyphened [] = 0
count_hyphened (w ∷ ws) = if is_hyphened w then suc (count_hyphened ws) else 0

abbrev pub count_plain : List (List ℕ) → ℕ
count_plain [] = 0
count_plain (w ∷ ws) = if is_hyphened w then 0 else suc (count_plain ws)

-- ---- options

-- the values of an option, one for each time that it stands
abbrev pub value_or : Option (List ℕ) → List (List ℕ) → List (List ℕ)
value_or None values = values
value_or (Some value) values = value ∷ values

abbrev pub values_of : List ℕ → List (List ℕ) → List (List ℕ)
values_of front [] = []
values_of front (word ∷ words) = value_or (value_behind front word) (values_of front words)

abbrev pub main_option : List ℕ
main_option = codes "--main="

abbrev pub workers_option : List ℕ
workers_option = codes "--workers="

abbrev pub steps_option : List ℕ
steps_option = codes "--steps="

abbrev pub is_option : List ℕ → Bool
is_option word = is_some (value_behind main_option word) || (is_some (value_behind workers_option word) || is_some (value_behind steps_option word))

abbrev pub journal_option : List ℕ
journal_option = codes "--journal="

abbrev pub is_replay_option : List ℕ → Bool
is_replay_option word = is_some (value_behind main_option word) || (is_some (value_behind journal_option word) || is_some (value_behind steps_option word))

abbrev pub entries_option : List ℕ
entries_option = codes "--entries="

abbrev pub image_option : List ℕ
image_option = codes "--image="

abbrev pub is_save_option : List ℕ → Bool
is_save_option word = is_some (value_behind main_option word) || (is_some (value_behind entries_option word) || (is_some (value_behind image_option word) || is_some (value_behind steps_option word)))

abbrev pub is_resume_option : List ℕ → Bool
is_resume_option word = is_some (value_behind image_option word) || is_some (value_behind workers_option word)

abbrev pub number_option : List ℕ
number_option = codes "--number="

abbrev pub is_demo_option : List ℕ → Bool
is_demo_option word = is_some (value_behind number_option word) || is_some (value_behind workers_option word)

abbrev pub to_option : List ℕ
to_option = codes "--to="

abbrev pub is_weave_option : List ℕ → Bool
is_weave_option word = is_some (value_behind to_option word)

-- the text of an option, as the name of the main class or of a directory: it stands, and isn't empty
abbrev pub text_in : List (List ℕ) → Option (List ℕ)
text_in ((b ∷ bs) ∷ []) = Some (b ∷ bs)
text_in values = None

-- the name of a file in an option: it stands, and could stand among the files
abbrev pub file_in : List (List ℕ) → Option (List ℕ)
file_in (name ∷ []) = if is_file name then Some name else None
file_in values = None

-- a number from 1 to `most`, or the default where the option doesn't stand
abbrev pub number_or : ℕ → ℕ → List (List ℕ) → Option ℕ
number_or default most [] = Some default
number_or default most (value ∷ []) = number_in 1 most value
number_or default most values = None

-- a number up to `most`, which stands
abbrev pub number_of : ℕ → List (List ℕ) → Option ℕ
number_of most (value ∷ []) = number_in 0 most value
number_of most values = None

-- the greatest number of a demo
abbrev pub most_number : ℕ
most_number = 18446744073709551615

-- the most entries that a run that is saved may be asked for
abbrev pub most_entries : ℕ
most_entries = 1000000000

abbrev pub most_workers : ℕ
most_workers = 16

-- the instructions that a task may do: where the words don't say, and the most that they may say
abbrev pub default_steps : ℕ
default_steps = 1000000

abbrev pub most_steps : ℕ
most_steps = 100000000

-- ---- files and numbers

abbrev pub most_files : ℕ
most_files = 1000

-- at least one file, and at most so many
abbrev pub are_files : List (List ℕ) → Bool
are_files files = nat_lt 0 (length files) && (nat_le (length files) most_files && list_all is_file files)

abbrev pub most_args : ℕ
most_args = 100

abbrev pub with_first : Option ℤ → Option (List ℤ) → Option (List ℤ)
with_first None others = None
with_first (Some n) None = None
with_first (Some n) (Some ns) = Some (n ∷ ns)

abbrev pub ints_of : List (List ℕ) → Option (List ℤ)
ints_of [] = Some []
ints_of (word ∷ words) = with_first (int_by word (value_behind (codes "-") word)) (ints_of words)

-- none, or behind the word `--`
abbrev pub args_in : List (List ℕ) → Option (List ℤ)
args_in [] = Some []
args_in (mark ∷ words) = if bytes_eq mark (codes "--") && nat_le (length words) most_args then ints_of words else None

-- ---- commands

abbrev pub check_request : List (List ℕ) → Option Request
check_request files = if are_files files then Some (Check files) else None

abbrev pub weave_with : List (List ℕ) → Option (List ℕ) → Option Request
weave_with files None = None
weave_with files (Some to) = Some (Weave to files)

-- the options, and the files
abbrev pub weave_of : (options files : List (List ℕ)) → Option Request
weave_of options files = if list_all is_weave_option options && are_files files then weave_with files (text_in (values_of to_option options)) else None

abbrev pub weave_request : List (List ℕ) → Option Request
weave_request words = weave_of (take (count_hyphened words) words) (drop (count_hyphened words) words)

abbrev pub run_with : List (List ℕ) → Option (List ℕ) → Option ℕ → Option ℕ → Option (List ℤ) → Option Request
run_with files (Some main) (Some workers) (Some steps) (Some args) = Some (Run main workers steps args files)
run_with files main workers steps args = None

-- the options, the files, and what stands behind them
abbrev pub run_of : (options files behind : List (List ℕ)) → Option Request
run_of options files behind =
    if list_all is_option options && are_files files then
    run_with files (text_in (values_of main_option options)) (number_or 1 most_workers (values_of workers_option options)) (number_or default_steps most_steps (values_of steps_option options)) (args_in behind)
    else None

abbrev pub run_behind : (options others : List (List ℕ)) → Option Request
run_behind options others = run_of options (take (count_plain others) others) (drop (count_plain others) others)

abbrev pub run_request : List (List ℕ) → Option Request
run_request words = run_behind (take (count_hyphened words) words) (drop (count_hyphened words) words)

abbrev pub replay_with : List (List ℕ) → Option (List ℕ) → Option (List ℕ) → Option ℕ → Option (List ℤ) → Option Request
replay_with files (Some main) (Some journal) (Some steps) (Some args) = Some (Replay main journal steps args files)
replay_with files main journal steps args = None

abbrev pub replay_of : (options files behind : List (List ℕ)) → Option Request
replay_of options files behind =
    if list_all is_replay_option options && are_files files then
    replay_with files (text_in (values_of main_option options)) (file_in (values_of journal_option options)) (number_or default_steps most_steps (values_of steps_option options)) (args_in behind)
    else None

abbrev pub replay_behind : (options others : List (List ℕ)) → Option Request
replay_behind options others = replay_of options (take (count_plain others) others) (drop (count_plain others) others)

abbrev pub replay_request : List (List ℕ) → Option Request
replay_request words = replay_behind (take (count_hyphened words) words) (drop (count_hyphened words) words)

abbrev pub save_with : List (List ℕ) → (main image : Option (List ℕ)) → (entries steps : Option ℕ) → Option (List ℤ) → Option Request
save_with files (Some main) (Some image) (Some entries) (Some steps) (Some args) = Some (Save main image entries steps args files)
save_with files main image entries steps args = None

abbrev pub save_of : (options files behind : List (List ℕ)) → Option Request
save_of options files behind =
    if list_all is_save_option options && are_files files then
    save_with files (text_in (values_of main_option options)) (file_in (values_of image_option options)) (number_of most_entries (values_of entries_option options)) (number_or default_steps most_steps (values_of steps_option options)) (args_in behind)
    else None

abbrev pub save_behind : (options others : List (List ℕ)) → Option Request
save_behind options others = save_of options (take (count_plain others) others) (drop (count_plain others) others)

abbrev pub save_request : List (List ℕ) → Option Request
save_request words = save_behind (take (count_hyphened words) words) (drop (count_hyphened words) words)

abbrev pub resume_with : Option (List ℕ) → Option ℕ → Option Request
resume_with (Some image) (Some workers) = Some (Resume image workers)
resume_with image workers = None

-- options alone
abbrev pub resume_request : List (List ℕ) → Option Request
resume_request words =
    if list_all is_resume_option words then
    resume_with (file_in (values_of image_option words)) (number_or 1 most_workers (values_of workers_option words))
    else None

abbrev pub demo_with : Option ℕ → Option ℕ → Option Request
demo_with (Some number) (Some workers) = Some (Demo number workers)
demo_with number workers = None

-- options alone
abbrev pub demo_request : List (List ℕ) → Option Request
demo_request words =
    if list_all is_demo_option words then
    demo_with (number_of most_number (values_of number_option words)) (number_or 1 most_workers (values_of workers_option words))
    else None

-- A list of words that asks for nothing isn't in the grammar.
abbrev pub request_of : List (List ℕ) → Option Request
request_of [] = None
request_of (command ∷ words) =
    if bytes_eq command (codes "check") then check_request words
    else (if bytes_eq command (codes "weave") then weave_request words
    else (if bytes_eq command (codes "run") then run_request words
    else (if bytes_eq command (codes "replay") then replay_request words
    else (if bytes_eq command (codes "save") then save_request words
    else (if bytes_eq command (codes "resume") then resume_request words
    else (if bytes_eq command (codes "demo") then demo_request words
    else None))))))

-- the class files that a command reads
abbrev pub class_files : Request → List (List ℕ)
class_files (Check files) = files
class_files (Weave to files) = files
class_files (Run main workers steps args files) = files
class_files (Replay main journal steps args files) = files
class_files (Save main image entries steps args files) = files
class_files (Resume image workers) = []
class_files (Demo number workers) = []

-- all files that a command reads, in their order: a journal is read behind the class files; of an image the class files are parts
abbrev pub files_read : Request → List (List ℕ)
files_read (Check files) = files
files_read (Weave to files) = files
files_read (Run main workers steps args files) = files
files_read (Replay main journal steps args files) = files ++ journal ∷ []
files_read (Save main image entries steps args files) = files
files_read (Resume image workers) = image ∷ []
files_read (Demo number workers) = []
