-- The class file of a stage has a text, whatever the number of the stage is: but for its name it is that of the first stage.
use Rattle.std.proofs.Common.{◌≡◌, ℕ, suc, ◌+◌, ◌<◌, ◌≤◌, ◌^◌, nat_lt, true, List, [], ◌∷◌, ◌++◌, length, length-append, refl, sym, ap, ◌∙◌, subst, arith}
use Rattle.std.proofs.lemmas.Bool.{ltb-true}
use Rattle.std.specs.List.{flat_map}
use Rattle.kilim_class_attributes.specs.parts.Indices.{has_kind}
use Rattle.kilim_class_attributes.specs.parts.Names.{named}
use Rattle.kilim_class_attributes.specs.Attributes.{attributes_text}
use Rattle.kilim_class_attributes.specs.Forms.{form_at, form_of}
use Rattle.kilim_class_file.specs.declared.class_file.ClassFile.{ClassFile}
use Rattle.kilim_class_file.specs.Text.{ClassFits, class_text, member_text, size_limit}
use Rattle.kilim_class_pool.specs.declared.entry.Entry.{Entry}
use Rattle.kilim_class_pool.specs.declared.entry.Entry.TheVariants.{Utf8}
use Rattle.kilim_class_pool.specs.Entries.{first_bad, refers_well}
use Rattle.kilim_class_pool.specs.Spelling.{entry_text, pool_text}
use Rattle.kilim_class_grammar.specs.Spelling.{list_text, u2}
use Rattle.kilim_class_mutf8.specs.Spelling.{UnitsFit, spelling}
use Rattle.kilim_demo.specs.declared.draws.Operation.{Operation}
use Rattle.kilim_demo.specs.declared.draws.Operation.TheVariants.{Adds, Prepends, Cuts}
use Rattle.kilim_demo.specs.Stage.{giving, operation_code, stage_code, stage_constructor, stage_entries, stage_file, stage_frames, stage_name, stage_pool, taking}
use Rattle.kilim_demo.proofs.Bytes.{Small, are_small, small_by}
use Rattle.kilim_demo.proofs.Stages.{file_of}

-- ---- sizes

abbrev five : ℕ → ℕ
five n = suc (suc (suc (suc (suc n))))

abbrev eight : ℕ → ℕ
eight n = suc (suc (suc (five n)))

-- the text behind the pool
abbrev behind : ClassFile → List ℕ
behind f =
    u2 f.access_flags ++ (u2 f.this_class ++ (u2 f.super_class
    ++ (list_text u2 f.interfaces ++ (list_text member_text f.fields ++ (list_text member_text f.methods ++ attributes_text f.attributes)))))

class_size : (f : ClassFile) → length (class_text f) ≡ eight (length (pool_text f.constant_pool) + length (behind f))
class_size f = ap eight (length-append (pool_text f.constant_pool) (behind f))

pool_size : (units : List ℕ) (entries : List Entry) → length (pool_text (Utf8 units ∷ entries)) ≡ five (length (spelling units) + length (flat_map entry_text entries))
pool_size units entries = ap five (length-append (spelling units) (flat_map entry_text entries))

few_entries : length (flat_map entry_text stage_entries) < 2000
unfolding stage_entries
few_entries = ltb-true (length (flat_map entry_text stage_entries)) 2000 refl

few_behind : (k : ℕ) (op : Operation) (m c : ℕ) → length (behind (file_of k op m c)) < 2000
unfolding giving operation_code stage_code stage_constructor stage_file stage_frames taking
few_behind k Adds m c = ltb-true (length (behind (file_of k Adds m c))) 2000 refl
few_behind k Prepends m c = ltb-true (length (behind (file_of k Prepends m c))) 2000 refl
few_behind k Cuts m c = ltb-true (length (behind (file_of k Cuts m c))) 2000 refl

in_all : (x y z : ℕ) → x < 6 → y < 2000 → z < 2000 → eight (five (x + y) + z) ≤ 16777216
in_all x y z a b c = omega (arith, a, b, c)

stage_size : (k : ℕ) (op : Operation) (m c : ℕ) → length (spelling (stage_name k)) < 6 → length (class_text (file_of k op m c)) ≤ size_limit
unfolding size_limit stage_file stage_pool
stage_size k op m c short =
    let whole : length (class_text (file_of k op m c)) ≡ eight (five (length (spelling (stage_name k)) + length (flat_map entry_text stage_entries)) + length (behind (file_of k op m c))) =
    class_size (file_of k op m c) ∙ ap (λ (n : ℕ). eight (n + length (behind (file_of k op m c)))) (pool_size (stage_name k) stage_entries) in
    let P : ℕ → Type 0 = λ n. n ≤ 16777216 in
    subst P (sym whole) (in_all (length (spelling (stage_name k))) (length (flat_map entry_text stage_entries)) (length (behind (file_of k op m c))) short few_entries (few_behind k op m c))

-- ---- names

a_unit : (u : ℕ) → u < 256 → u < 2 ^ 16
a_unit u lt = omega (arith, lt)

units_fit : (units : List ℕ) → Small units → UnitsFit units
units_fit [] small = tt
units_fit (u ∷ units) small = (a_unit u small.0, units_fit units small.1)

a_length : (n : ℕ) → n < 6 → n < 2 ^ 16
a_length n lt = omega (arith, lt)

-- five bytes at most
abbrev pub NameFits : ℕ → Type 0
NameFits k = UnitsFit (stage_name k) × (length (spelling (stage_name k)) < 6)

pub name_by : (k : ℕ) → are_small (stage_name k) ≡ true → nat_lt (length (spelling (stage_name k))) 6 ≡ true → NameFits k
name_by k small short = (units_fit (stage_name k) (small_by (stage_name k) small), ltb-true (length (spelling (stage_name k))) 6 short)

-- ---- all but the name stays

pub renamed : (k : ℕ) (op : Operation) (m c : ℕ) → NameFits k → ClassFits (file_of 1 op m c) → ClassFits (file_of k op m c)
unfolding stage_entries stage_file stage_frames stage_pool first_bad form_at form_of has_kind named refers_well
renamed k op m c name is =
    let in_field = is.parts.fields.1.0 in
    let out_field = is.parts.fields.1.1.0 in
    let begins = is.parts.methods.1.0 in
    let runs = is.parts.methods.1.1.0 in
    let plain = begins.member.attributes.each.0 in
    let coded = runs.member.attributes.each.0 in
    let thrown = runs.member.attributes.each.1.0 in
    let table = coded.info.each.0 in
    let frames = table.info.each in
    record {
      parts = record {
        minor = is.parts.minor;
        major = is.parts.major;
        pool = record { few = is.parts.pool.few; fit = ((name.0, a_length (length (spelling (stage_name k))) name.1), is.parts.pool.fit.1); refer = refl };
        flags = is.parts.flags;
        this_class = is.parts.this_class;
        super_class = is.parts.super_class;
        interfaces = is.parts.interfaces;
        fields = (
          is.parts.fields.0,
          (
            record { flags = in_field.flags; name = in_field.name; descriptor = in_field.descriptor; attributes = record { count = in_field.attributes.count; each = tt } },
            (record { flags = out_field.flags; name = out_field.name; descriptor = out_field.descriptor; attributes = record { count = out_field.attributes.count; each = tt } }, tt),
          ),
        );
        methods = (
          is.parts.methods.0,
          (
            record {
              member = record {
                flags = begins.member.flags;
                name = begins.member.name;
                descriptor = begins.member.descriptor;
                attributes = record {
                  count = begins.member.attributes.count;
                  each = (
                    record {
                      below = plain.below;
                      form = plain.form;
                      once = plain.once;
                      size = plain.size;
                      info = record {
                        max_stack = plain.info.max_stack;
                        max_locals = plain.info.max_locals;
                        some = plain.info.some;
                        few = plain.info.few;
                        bytes = plain.info.bytes;
                        handlers = plain.info.handlers;
                        each_handler = tt;
                        count = plain.info.count;
                        each = tt;
                      };
                    },
                    tt,
                  );
                };
              };
              code = begins.code;
            },
            (
              record {
                member = record {
                  flags = runs.member.flags;
                  name = runs.member.name;
                  descriptor = runs.member.descriptor;
                  attributes = record {
                    count = runs.member.attributes.count;
                    each = (
                      record {
                        below = coded.below;
                        form = coded.form;
                        once = coded.once;
                        size = coded.size;
                        info = record {
                          max_stack = coded.info.max_stack;
                          max_locals = coded.info.max_locals;
                          some = coded.info.some;
                          few = coded.info.few;
                          bytes = coded.info.bytes;
                          handlers = coded.info.handlers;
                          each_handler = tt;
                          count = coded.info.count;
                          each = (
                            record {
                              below = table.below;
                              form = table.form;
                              once = table.once;
                              size = table.size;
                              info = record {
                                count = table.info.count;
                                each = (frames.0, ((frames.1.0.0, (frames.1.0.1.0, (record { below = frames.1.0.1.1.0.below; there = frames.1.0.1.1.0.there }, tt))), (frames.1.1.0, tt)));
                              };
                            },
                            tt,
                          );
                        };
                      },
                      (
                        record {
                          below = thrown.below;
                          form = thrown.form;
                          once = thrown.once;
                          size = thrown.size;
                          info = (thrown.info.0, (record { below = thrown.info.1.0.below; there = thrown.info.1.0.there }, tt));
                        },
                        tt,
                      ),
                    );
                  };
                };
                code = runs.code;
              },
              tt,
            ),
          ),
        );
        attributes = record { count = is.parts.attributes.count; each = tt };
      };
      size = stage_size k op m c name.1;
    }
