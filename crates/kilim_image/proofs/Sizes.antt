-- How many bytes an image has.
use Rattle.std.proofs.Common.{◌≡◌, ℕ, ℤ, ◌+◌, ◌*◌, ◌<◌, ◌≤◌, ◌^◌, List, [], ◌∷◌, ◌++◌, length, length-append, append_assoc, refl, sym, ap, ◌∙◌, arith}
use Rattle.std.specs.List.{flat_map, AllByRecursion}
use Rattle.std.specs.Int.{w16, w32, to_be_bytes}
use Rattle.kilim_class_grammar.specs.Spelling.{u1, u2, two_u4, signed}
use Rattle.kilim_image.specs.declared.image.Run.{Run}
use Rattle.kilim_image.specs.Text.{args_text, block, files_text, image_text, magic, parts_text, version}
use Rattle.kilim_image.specs.Writing.{AreShort}

args_size : (args : List ℤ) → length (flat_map (signed w32) args) ≡ 4 * length args
args_size [] = refl
args_size (z ∷ args) = let more = args_size args in omega (arith, length-append (signed w32 z) (flat_map (signed w32) args))

parts_size : (run : Run) (text : List ℕ) → length (image_text run text) ≡ 23 + 4 * length run.args + length run.main + length (flat_map (block w32) run.files) + length text
parts_size run text =
    let a = length-append (u1 (length run.args)) (flat_map (signed w32) run.args) in
    let b = args_size run.args in
    let m = length-append (to_be_bytes w16 (length run.main)) run.main in
    let f = length-append (u2 (length run.files)) (flat_map (block w32) run.files) in
    let t = length-append (to_be_bytes w32 (length text)) text in
    let last = length-append (files_text run.files) (block w32 text) in
    let main = length-append (block w16 run.main) (files_text run.files ++ block w32 text) in
    let args = length-append (args_text run.args) (block w16 run.main ++ (files_text run.files ++ block w32 text)) in
    let steps = length-append (two_u4 run.steps) (args_text run.args ++ (block w16 run.main ++ (files_text run.files ++ block w32 text))) in
    omega (arith, a, b, m, f, t, last, main, args, steps)

pub size_is : (run : Run) (text : List ℕ) (files most size : ℕ) → files ≡ length (flat_map (block w32) run.files) → size ≡ files + length text + (23 + 4 * length run.args + length run.main) → size ≡ length (image_text run text)
size_is run text files most size f s = let p = parts_size run text in omega (arith, f, s, p)

-- where all of it is short, each file is
short_each : (files : List (List ℕ)) → length (flat_map (block w32) files) ≤ 16777216 → AreShort files
short_each [] le = tt
short_each (file ∷ files) le =
    let all = length-append (block w32 file) (flat_map (block w32) files) in
    let one = length-append (to_be_bytes w32 (length file)) file in
    (omega (arith, le, all, one), short_each files (omega (arith, le, all)))

pub files_short : (run : Run) (text : List ℕ) (size : ℕ) → size ≡ length (image_text run text) → size ≤ 16777216 → AreShort run.files
files_short run text size is le = let p = parts_size run text in short_each run.files (omega (arith, is, le, p))

pub text_short : (run : Run) (text : List ℕ) (size : ℕ) → size ≡ length (image_text run text) → size ≤ 16777216 → length text < 2 ^ 32
text_short run text size is le = let p = parts_size run text in omega (arith, is, le, p)

-- ---- part by part

regroup : (o m v s a b f t : List ℕ) → ((((((o ++ m) ++ v) ++ s) ++ a) ++ b) ++ f) ++ t ≡ o ++ (m ++ (v ++ (s ++ (a ++ (b ++ (f ++ t))))))
regroup o m v s a b f t = simp append_assoc

pub pushed_all : (o i0 i1 i2 i3 i4 i5 i6 : List ℕ) (run : Run) (text : List ℕ) → i0 ≡ o ++ magic → i1 ≡ i0 ++ u2 version → i2 ≡ i1 ++ two_u4 run.steps → i3 ≡ i2 ++ args_text run.args → i4 ≡ i3 ++ block w16 run.main → i5 ≡ i4 ++ files_text run.files
    → i6 ≡ i5 ++ block w32 text → i6 ≡ o ++ image_text run text
pushed_all o i0 i1 i2 i3 i4 i5 i6 run text m v s a b f t =
    let e1 : i1 ≡ (o ++ magic) ++ u2 version = v ∙ ap (λ (x : List ℕ). x ++ u2 version) m in
    let e2 : i2 ≡ ((o ++ magic) ++ u2 version) ++ two_u4 run.steps = s ∙ ap (λ (x : List ℕ). x ++ two_u4 run.steps) e1 in
    let e3 : i3 ≡ (((o ++ magic) ++ u2 version) ++ two_u4 run.steps) ++ args_text run.args = a ∙ ap (λ (x : List ℕ). x ++ args_text run.args) e2 in
    let e4 : i4 ≡ ((((o ++ magic) ++ u2 version) ++ two_u4 run.steps) ++ args_text run.args) ++ block w16 run.main = b ∙ ap (λ (x : List ℕ). x ++ block w16 run.main) e3 in
    let e5 : i5 ≡ (((((o ++ magic) ++ u2 version) ++ two_u4 run.steps) ++ args_text run.args) ++ block w16 run.main) ++ files_text run.files = f ∙ ap (λ (x : List ℕ). x ++ files_text run.files) e4 in
    t ∙ (ap (λ (x : List ℕ). x ++ block w32 text) e5 ∙ regroup o magic (u2 version) (two_u4 run.steps) (args_text run.args) (block w16 run.main) (files_text run.files) (block w32 text))
